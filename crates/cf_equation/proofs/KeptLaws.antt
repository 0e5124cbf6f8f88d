-- A row without a column, which stays as it is where another comes in the place of the column.
use Rattle.std.proofs.Common.{◌≡◌, ℕ, ℤ, pos, ◌+ℤ◌, ◌*ℤ◌, [], ◌∷◌, false, ◌==◌, refl, sym, ◌∙◌, ap, arith, subst}
use Rattle.std.proofs.lemmas.Int.{ints}
use Rattle.std.proofs.lemmas.Bool.{eqb-true}
use Rattle.cf_num.specs.Limit.{IsWithin}
use Rattle.cf_linear.specs.Rows.{Row, entry, put, add_at, comb, IsRow, without, sum_passes, comb_passes, subst_row, subst_passes}
use Rattle.cf_linear.proofs.BoolLemmas.{on_bool}
use Rattle.cf_linear.proofs.RowLemmas.{entry-comb}
use Rattle.cf_linear.proofs.Canonical.{row_ext}
use Rattle.cf_linear.proofs.CombLemmas.{Rises-comb, Rises-without, entry-without}
use Rattle.cf_linear.proofs.Joining.{passes_nowhere}
use Rattle.cf_linear.proofs.PassingLemmas.{within_not, entry-within}

-- 0 times a row adds nothing
no_more : (a : ℤ) (r s : Row) → comb a r (pos 0) s ≡ comb a r (pos 0) []
no_more a [] [] = refl
no_more a [] ((d, m) ∷ s) =
    let z : pos 0 *ℤ m ≡ pos 0 = omega (arith, ints) in
    ap (λ k. put d k (comb a [] (pos 0) s)) z ∙ no_more a [] s
no_more a ((c, k) ∷ r) s = ap (add_at c (a *ℤ k)) (no_more a r s)

-- the entry at a column that is not the one that goes
same_entry : (r : Row) (c x : ℕ) → entry r c ≡ pos 0 → pos 1 *ℤ entry (without c r) x +ℤ pos 0 *ℤ pos 0 ≡ entry r x
same_entry r c x e = rw (entry-without c x r) (on_bool (c == x)
    (λ f. let g : entry r x ≡ pos 0 = subst (λ y. entry r y ≡ pos 0) (eqb-true c x f) e in rw (f, g) refl)
    (λ f. rw f (omega (arith, ints))))

kept : (r : Row) (c : ℕ) (s : Row) → IsRow r → entry r c ≡ pos 0 → comb (pos 1) (without c r) (pos 0) s ≡ r
kept r c s p e = no_more (pos 1) (without c r) s ∙ row_ext 0 (comb (pos 1) (without c r) (pos 0) []) r
    (Rises-comb 0 (pos 1) (without c r) (pos 0) [] (Rises-without 0 c r p.0) tt) p.0
    (λ x. entry-comb x (pos 1) (without c r) (pos 0) [] ∙ same_entry r c x e)

pub kept_row : (r : Row) (c : ℕ) (s : Row) → IsRow r → entry r c ≡ pos 0 → subst_row c s r ≡ r
kept_row r c s p e = subst (λ k. comb (pos 1) (without c r) k s ≡ r) (sym e) (kept r c s p e)

fine_sum : (z w : ℤ) → IsWithin z → sum_passes (pos 1) z (pos 0) w ≡ false
fine_sum z w h =
    let a : IsWithin (pos 1 *ℤ z) = omega (arith, ints) in
    let b : IsWithin (pos 0 *ℤ w) = omega (arith, ints) in
    let c : IsWithin (pos 1 *ℤ z +ℤ pos 0 *ℤ w) = omega (arith, ints) in
    rw (within_not (pos 1 *ℤ z) a, within_not (pos 0 *ℤ w) b, within_not (pos 1 *ℤ z +ℤ pos 0 *ℤ w) c) refl

within_left : (r : Row) (c x : ℕ) → IsRow r → IsWithin (entry (without c r) x)
within_left r c x p = rw (entry-without c x r) (on_bool (c == x) (λ f. rw f (omega arith)) (λ f. rw f (entry-within r 0 x p.0 p.1)))

pub kept_fits : (r : Row) (c : ℕ) (s : Row) → IsRow r → entry r c ≡ pos 0 → subst_passes c s r ≡ false
kept_fits r c s p e = subst (λ k. comb_passes (pos 1) (without c r) k s ≡ false) (sym e)
    (passes_nowhere (pos 1) (without c r) (pos 0) s (λ x. fine_sum (entry (without c r) x) (entry s x) (within_left r c x p)))
