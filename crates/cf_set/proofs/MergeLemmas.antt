-- The steps of a merge of two rising lists.
use Rattle.std.proofs.Common.{◌≡◌, ℤ, ◌<ℤ◌, Bool, true, false, ◌||◌, List, [], ◌∷◌, refl, ap, sym, ◌∙◌, arith}
use Rattle.std.proofs.lemmas.Int.{ints}
use Rattle.std.specs.Ordering.{int_eq}
use Rattle.cf_tree.specs.Sets.{has, AreAbove, IsRising, set_union}
use Rattle.cf_tree.proofs.SetLemmas.{or_swap, or_assoc, or_none, has-union}
use Rattle.cf_tree.proofs.RisingLemmas.{rising_ext, rising_union, above_less, above_put}

above_union : (x : ℤ) (xs ys : List ℤ) → AreAbove x xs → AreAbove x ys → AreAbove x (set_union xs ys)
above_union x [] ys a b = b
above_union x (z ∷ xs) ys a b = above_put x z (set_union xs ys) a.0 (above_union x xs ys a.1 b)

or_shared : (a b c : Bool) → ((a || b) || (a || c)) ≡ (a || (b || c))
or_shared true b c = refl
or_shared false b c = refl

pub union_none : (xs : List ℤ) → IsRising xs → set_union xs [] ≡ xs
union_none xs r = rising_ext _ _ (rising_union xs [] tt) r (λ z. has-union xs [] z ∙ or_none (has xs z))

pub union_first : (x y : ℤ) (xs ys : List ℤ) → IsRising (x ∷ xs) → IsRising (y ∷ ys) → x <ℤ y → set_union (x ∷ xs) (y ∷ ys) ≡ x ∷ set_union xs (y ∷ ys)
union_first x y xs ys r s l = rising_ext _ _ (rising_union (x ∷ xs) (y ∷ ys) s)
    (above_union x xs (y ∷ ys) r.0 (l, above_less x y ys (omega (arith, ints)) s.0), rising_union xs (y ∷ ys) s)
    (λ z. has-union (x ∷ xs) (y ∷ ys) z ∙ (or_assoc (int_eq x z) (has xs z) (has (y ∷ ys) z) ∙ ap (λ b. int_eq x z || b) (sym (has-union xs (y ∷ ys) z))))

pub union_second : (x y : ℤ) (xs ys : List ℤ) → IsRising (x ∷ xs) → IsRising (y ∷ ys) → y <ℤ x → set_union (x ∷ xs) (y ∷ ys) ≡ y ∷ set_union (x ∷ xs) ys
union_second x y xs ys r s l = rising_ext _ _ (rising_union (x ∷ xs) (y ∷ ys) s)
    (above_union y (x ∷ xs) ys (l, above_less y x xs (omega (arith, ints)) r.0) s.0, rising_union (x ∷ xs) ys s.1)
    (λ z. has-union (x ∷ xs) (y ∷ ys) z ∙ (or_swap (has (x ∷ xs) z) (int_eq y z) (has ys z) ∙ ap (λ b. int_eq y z || b) (sym (has-union (x ∷ xs) ys z))))

pub union_both : (x : ℤ) (xs ys : List ℤ) → IsRising (x ∷ xs) → IsRising (x ∷ ys) → set_union (x ∷ xs) (x ∷ ys) ≡ x ∷ set_union xs ys
union_both x xs ys r s = rising_ext _ _ (rising_union (x ∷ xs) (x ∷ ys) s)
    (above_union x xs ys r.0 s.0, rising_union xs ys s.1)
    (λ z. has-union (x ∷ xs) (x ∷ ys) z ∙ (or_shared (int_eq x z) (has xs z) (has ys z) ∙ ap (λ b. int_eq x z || b) (sym (has-union xs ys z))))
