-- The set of a list with one more element.
use Rattle.std.proofs.Common.{◌≡◌, ℤ, Bool, true, false, ◌||◌, List, [], ◌∷◌, ◌++◌, refl, sym, ◌∙◌}
use Rattle.std.specs.Ordering.{int_eq}
use Rattle.cf_tree.specs.Sets.{has, set_of, set_put}
use Rattle.cf_tree.proofs.SetLemmas.{has-put, has-set_of, has-append}
use Rattle.cf_tree.proofs.RisingLemmas.{rising_ext, rising_put, rising_set_of}

or_turned : (a b : Bool) → (a || (b || false)) ≡ (b || a)
or_turned true true = refl
or_turned true false = refl
or_turned false true = refl
or_turned false false = refl

pub set_of_more : (xs : List ℤ) (x : ℤ) → set_of (xs ++ x ∷ []) ≡ set_put x (set_of xs)
set_of_more xs x = rising_ext _ _ (rising_set_of (xs ++ x ∷ [])) (rising_put x (set_of xs) (rising_set_of xs))
    (λ z. has-set_of (xs ++ x ∷ []) z ∙ has-append xs (x ∷ []) z ∙ or_turned (has xs z) (int_eq x z) ∙
    sym (has-put x (set_of xs) z ∙ rw (has-set_of xs z) refl))
