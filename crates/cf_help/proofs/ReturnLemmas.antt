-- A line without a carriage return as its last byte.
use Rattle.std.proofs.Common.{◌≡◌, ◌≢◌, ℕ, zero, suc, List, [], ◌∷◌, length, take, refl, ap, arith, get_or, eqb, false}
use Rattle.std.proofs.lemmas.Bool.Decides.{nat_tests}
use Rattle.cf_help.specs.Lines.{without_return}

pub return_left_out : (n : ℕ) (line : List ℕ) → length line ≡ suc n → get_or line n 0 ≡ 13 → take n line ≡ without_return line
return_left_out n [] h e = absurd (omega (arith, h))
return_left_out zero (b ∷ []) h e = rw e refl
return_left_out (suc n) (b ∷ []) h e = absurd (omega (arith, h))
return_left_out zero (b ∷ c ∷ line) h e = absurd (omega (arith, h))
return_left_out (suc n) (b ∷ c ∷ line) h e = ap (λ x. b ∷ x) (return_left_out n (c ∷ line) (omega (arith, h)) e)

pub no_return : (n : ℕ) (line : List ℕ) → length line ≡ suc n → get_or line n 0 ≢ 13 → line ≡ without_return line
no_return n [] h e = refl
no_return zero (b ∷ []) h e = let other : eqb b 13 ≡ false = grind (arith, nat_tests) in rw other refl
no_return (suc n) (b ∷ []) h e = absurd (omega (arith, h))
no_return zero (b ∷ c ∷ line) h e = absurd (omega (arith, h))
no_return (suc n) (b ∷ c ∷ line) h e = ap (λ x. b ∷ x) (no_return n (c ∷ line) (omega (arith, h)) e)

pub no_bytes : (line : List ℕ) → length line ≡ 0 → line ≡ without_return line
no_bytes [] h = refl
no_bytes (b ∷ line) h = absurd (omega (arith, h))
