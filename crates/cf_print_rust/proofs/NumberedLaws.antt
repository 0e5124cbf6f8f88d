-- Texts with their numbers, one after the other.
use Rattle.std.proofs.Common.{◌≡◌, ◌∙◌, ℕ, zero, suc, ◌+◌, ◌<◌, List, [], ◌∷◌, ◌++◌, length, drop, get_or, refl, ap, subst, arith}
use Rattle.std.proofs.lemmas.List.{append_assoc}
use Rattle.cf_tree.specs.declared.base.Base.{Base}
use Rattle.cf_print_rust.specs.Files.{numbered}

next_text : (text : Base → ℕ → List ℕ) (i k : ℕ) (bs : List Base) (d : Base) → i < length bs →
    numbered text k (drop i bs) ≡ text (get_or bs i d) k ∷ numbered text (suc k) (drop (suc i) bs)
next_text text i k [] d h = absurd (omega (arith, h))
next_text text zero k (b ∷ bs) d h = refl
next_text text (suc i) k (b ∷ bs) d h = next_text text i k bs d (omega (arith, h))

-- one text more
pub next_numbered : (text : Base → ℕ → List ℕ) (k : ℕ) (bs : List Base) (d : Base) (out new all : List (List ℕ)) → k < length bs →
    new ≡ out ++ (text (get_or bs k d) k ∷ []) → out ++ numbered text k (drop k bs) ≡ all →
    new ++ numbered text (k + 1) (drop (k + 1) bs) ≡ all
next_numbered text k bs d out new all below is e =
    let one : suc k ≡ k + 1 = omega arith in
    let split = next_text text k k bs d below in
    subst (λ n. new ++ numbered text n (drop n bs) ≡ all) one
    (ap (λ u. u ++ numbered text (suc k) (drop (suc k) bs)) is ∙
    append_assoc out (text (get_or bs k d) k ∷ []) (numbered text (suc k) (drop (suc k) bs)) ∙
    subst (λ texts. out ++ texts ≡ all) split e)
