-- What a binary search of a rising list says.
use Rattle.std.proofs.Common.{◌≡◌, ℕ, ℤ, ◌<◌, ◌≤◌, ◌≤ℤ◌, false, List, length, get_or, All, refl, ap, sym, ◌∙◌, arith, ◌⊎◌, inl, inr, ltb, ⊎_elim, is_ok}
use Rattle.std.specs.Prelude.{Result, Ok, Err}
use Rattle.std.specs.Ordering.{int_eq, int_cmp, is_eq, ordering_index}
use Rattle.std.specs.List.Sorted.{IsBinarySearchResult, IsSearchInRange}
use Rattle.std.proofs.lemmas.Int.{ints}
use Rattle.std.proofs.lemmas.Bool.{ltb-true, ltb-false}
use Rattle.cf_tree.specs.Sets.{IsRising, has}
use Rattle.cf_tree.proofs.SetLemmas.{on_bool, eq_same, eq_is, has-get_or, member_from_All}
use Rattle.cf_tree.proofs.RisingLemmas.{rising_at}

-- the answers rise with the numbers
index_rises : (a b x : ℤ) → a ≤ℤ b → ordering_index (int_cmp a x) ≤ ordering_index (int_cmp b x)
index_rises a b x l = grind (arith, ints)

not_member : (xs : List ℤ) (x : ℤ) → All (λ y. int_eq y x ≡ false) xs → has xs x ≡ false
not_member xs x h = on_bool (has xs x) (λ e. let f = member_from_All (λ y. int_eq y x ≡ false) xs h x e in let g = eq_same x x refl in cc) (λ e. e)

below_or_not : (k i : ℕ) → (k < i) ⊎ (i ≤ k)
below_or_not k i = on_bool (ltb k i) (λ e. inl (ltb-true k i e)) (λ e. inr (ltb-false k i e))

less_or_same : (a b : ℕ) → a ≤ b → (a < b) ⊎ (a ≡ b)
less_or_same a b l = ⊎_elim inl (λ m. inr (omega arith)) (below_or_not a b)

pub is_ok-searched : (xs : List ℤ) (x : ℤ) (r : Result ℕ ℕ) → IsRising xs → IsSearchInRange r (length xs) → IsBinarySearchResult (λ y. int_cmp y x) xs r →
    is_ok r ≡ has xs x
is_ok-searched xs x (Ok i) r l h =
    let same : get_or xs i x ≡ x = eq_is (get_or xs i x) x (ap is_eq (h x)) in
    sym (ap (has xs) (sym same) ∙ has-get_or xs i x l)
is_ok-searched xs x (Err i) r l h =
    let parted = h (λ a b d le lt. ⊎_elim (λ less. let s = rising_at xs a b d r less lt in index_rises (get_or xs a d) (get_or xs b d) x (omega (arith, ints)))
    (λ e. rw e (index_rises (get_or xs b d) (get_or xs b d) x (omega (arith, ints)))) (less_or_same a b le)) in
    sym (not_member xs x (λ k d m. ⊎_elim (λ less. ap is_eq (parted.0 k d (omega arith) less)) (λ more. ap is_eq (parted.1 k d more m)) (below_or_not k i)))
