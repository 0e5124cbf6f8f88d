-- Language 2 by itself: its signs and its names.
use Rattle.std.proofs.Common.{◌≡◌, ℕ, true, List, [], ◌∷◌, refl, if◌then◌else◌}
use Rattle.cf_lex.specs.Bytes.{is_short_sign, is_long_sign}
use Rattle.cf_lex.specs.Front.{sign_of}
use Rattle.cf_lex.specs.Tokens.{IsSign}
use Rattle.cf_lex.specs.Words.{is_reserved, is_no_function}
use Rattle.cf_tree.specs.declared.base.Edition.TheVariants.{Two}
use Rattle.cf_lex.specs.declared.front.Piece.TheVariants.{Sign, Bad}

front_sign : (first second : ℕ) (rest : List ℕ) →
    sign_of Two first (second ∷ rest) ≡ (if is_long_sign first second then Sign 2 else (if is_short_sign first then Sign 1 else Bad))
front_sign first second rest = refl

long_sign : (a b : ℕ) (rest : List ℕ) → IsSign Two (a ∷ b ∷ []) rest ≡ (is_long_sign a b ≡ true)
long_sign a b rest = refl

no_longer : (a b c : ℕ) (w rest : List ℕ) → IsSign Two (a ∷ b ∷ c ∷ w) rest → ⊥
no_longer a b c [] rest h = h
no_longer a b c (d ∷ w) rest h = h

functions : (w : List ℕ) → is_no_function Two w ≡ is_reserved Two w
functions w = refl
