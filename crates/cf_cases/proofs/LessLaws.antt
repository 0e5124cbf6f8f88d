-- A difference less 1, made so that nothing on the way passes the limit where no entry of it does.
use Rattle.std.proofs.Common.{◌≡◌, ℕ, zero, suc, ℤ, pos, negsuc, ◌+ℤ◌, ◌*ℤ◌, true, false, sym, ◌∙◌, ap, arith}
use Rattle.std.specs.Prelude.{◌≤ℤ◌}
use Rattle.std.proofs.lemmas.Int.{ints}
use Rattle.cf_num.specs.Limit.{IsWithin}
use Rattle.cf_linear.specs.Rows.{Row, entry, Rises, IsRow, passes, row_passes}
use Rattle.cf_linear.specs.Written.{constant_row, plus}
use Rattle.cf_linear.specs.Cases.{less}
use Rattle.cf_linear.proofs.BoolLemmas.{on_bool}
use Rattle.cf_linear.proofs.RowLemmas.{entry-comb}
use Rattle.cf_linear.proofs.Canonical.{row_ext}
use Rattle.cf_linear.proofs.CombLemmas.{Rises-comb}
use Rattle.cf_linear.proofs.PassingLemmas.{true_not_false, within_not, entry-within, entry_not, row_not, entry_plus, Rises-plus, not_above, within_is}

sum_at : (z : ℤ) → pos 1 *ℤ z +ℤ pos 1 *ℤ (negsuc 0 +ℤ pos 0) ≡ z +ℤ negsuc 0
sum_at z = omega (arith, ints)

entry_0 : (h : Row) → entry (plus h (negsuc 0)) 0 ≡ entry h 0 +ℤ negsuc 0
entry_0 h = entry-comb 0 (pos 1) h (pos 1) (constant_row (negsuc 0)) ∙ sum_at (entry h 0)

lower_within : (z : ℤ) → IsWithin z → pos 1 ≤ℤ z → IsWithin (z +ℤ negsuc 0)
lower_within z h p = omega (arith, ints)

-- 1 less at a positive constant never passes
pub lower_not : (r : Row) → IsRow r → pos 1 ≤ℤ entry r 0 → row_passes (plus r (negsuc 0)) ≡ false
lower_not r p h = row_not (plus r (negsuc 0)) 0 (Rises-plus r (negsuc 0) p.0) each
  where
    each : (c : ℕ) → passes (entry (plus r (negsuc 0)) c) ≡ false
    each zero = rw (entry_0 r) (within_not (entry r 0 +ℤ negsuc 0) (lower_within (entry r 0) (entry-within r 0 0 p.0 p.1) h))
    each (suc c) = rw (entry_plus r (negsuc 0) c) (within_not (entry r (suc c)) (entry-within r 0 (suc c) p.0 p.1))

swapped : (x y z : ℤ) → pos 1 *ℤ (pos 1 *ℤ x +ℤ pos 1 *ℤ z) +ℤ negsuc 0 *ℤ y ≡ pos 1 *ℤ (pos 1 *ℤ x +ℤ negsuc 0 *ℤ y) +ℤ pos 1 *ℤ z
swapped x y z = omega (arith, ints)

-- the 1 may be taken first
pub less-plus : (r s : Row) → Rises 0 r → Rises 0 s → less (plus r (negsuc 0)) s ≡ plus (less r s) (negsuc 0)
less-plus r s p q = row_ext 0 (less (plus r (negsuc 0)) s) (plus (less r s) (negsuc 0))
    (Rises-comb 0 (pos 1) (plus r (negsuc 0)) (negsuc 0) s (Rises-plus r (negsuc 0) p) q)
    (Rises-plus (less r s) (negsuc 0) (Rises-comb 0 (pos 1) r (negsuc 0) s p q))
    (λ x. entries x)
  where
    left : (x : ℕ) → entry (less (plus r (negsuc 0)) s) x ≡ pos 1 *ℤ (pos 1 *ℤ entry r x +ℤ pos 1 *ℤ entry (constant_row (negsuc 0)) x) +ℤ negsuc 0 *ℤ entry s x
    left x = entry-comb x (pos 1) (plus r (negsuc 0)) (negsuc 0) s ∙
        ap (λ z. pos 1 *ℤ z +ℤ negsuc 0 *ℤ entry s x) (entry-comb x (pos 1) r (pos 1) (constant_row (negsuc 0)))

    right : (x : ℕ) → entry (plus (less r s) (negsuc 0)) x ≡ pos 1 *ℤ (pos 1 *ℤ entry r x +ℤ negsuc 0 *ℤ entry s x) +ℤ pos 1 *ℤ entry
        (constant_row (negsuc 0)) x
    right x = entry-comb x (pos 1) (less r s) (pos 1) (constant_row (negsuc 0)) ∙
        ap (λ z. pos 1 *ℤ z +ℤ pos 1 *ℤ entry (constant_row (negsuc 0)) x) (entry-comb x (pos 1) r (negsuc 0) s)

    entries : (x : ℕ) → entry (less (plus r (negsuc 0)) s) x ≡ entry (plus (less r s) (negsuc 0)) x
    entries x = left x ∙ swapped (entry r x) (entry s x) (entry (constant_row (negsuc 0)) x) ∙ sym (right x)

gap_within : (x y : ℤ) → IsWithin x → IsWithin y → x ≤ℤ pos 0 → IsWithin (pos 1 *ℤ x +ℤ negsuc 0 *ℤ y +ℤ negsuc 0) → IsWithin (pos 1 *ℤ x +ℤ negsuc 0 *ℤ y)
gap_within x y h k n w = omega (arith, ints)

-- a difference from a constant of at most 0 passes only where it passes with 1 less
pub less_past : (r s : Row) → IsRow r → IsRow s → entry r 0 ≤ℤ pos 0 → row_passes (less r s) ≡ true → row_passes (plus (less r s) (negsuc 0)) ≡ true
less_past r s p q n h = on_bool (row_passes (plus (less r s) (negsuc 0))) (λ e. e) (λ e. true_not_false h (not_above (less r s) (negsuc 0) rises (at_0 e) e))
  where
    rises : Rises 0 (less r s)
    rises = Rises-comb 0 (pos 1) r (negsuc 0) s p.0 q.0

    at_0 : row_passes (plus (less r s) (negsuc 0)) ≡ false → passes (entry (less r s) 0) ≡ false
    at_0 e =
        let w : IsWithin (entry (less r s) 0 +ℤ negsuc 0) = within_is (entry (less r s) 0 +ℤ negsuc 0)
        (rw (entry_0 (less r s)) at (entry_not (plus (less r s) (negsuc 0)) 0 0 (Rises-plus (less r s) (negsuc 0) rises) e)) in
        let i = entry-comb 0 (pos 1) r (negsuc 0) s in
        rw i (within_not (pos 1 *ℤ entry r 0 +ℤ negsuc 0 *ℤ entry s 0)
        (gap_within (entry r 0) (entry s 0) (entry-within r 0 0 p.0 p.1) (entry-within s 0 0 q.0 q.1) n (rw i at w)))
