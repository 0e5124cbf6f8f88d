-- Sums of rows that are at least 0, and a row that follows from one.
use Rattle.std.proofs.Common.{◌≡◌, ℤ, pos, negsuc, neg_ℤ, ◌*ℤ◌, List, [], ◌∷◌, ◌∙◌, arith}
use Rattle.std.specs.Prelude.{◌≤ℤ◌, ◌<ℤ◌}
use Rattle.std.proofs.lemmas.Int.{ints}
use Rattle.cf_num.proofs.Ring.{ring}
use Rattle.cf_num.proofs.Orders.{mul-le_z, lt-mul_cancel_z}
use Rattle.cf_linear.specs.Rows.{Row, Values, entry, value, comb}
use Rattle.cf_linear.proofs.RowLemmas.{value-comb}
use Rattle.cf_formula.specs.Sums.{sum_row, EachPart, Follows}
use Rattle.cf_formula.proofs.AtomLaws.{value-key}

-- a row times a number, at least 0 where both are, or where the row is 0
pub part_nonneg : (v : Values) (r : Row) (k : ℤ) → pos 0 ≤ℤ value v r → pos 0 ≤ℤ k → pos 0 ≤ℤ (k *ℤ value v r)
part_nonneg v r k h l = let i = mul-le_z k (pos 0) (value v r) l h in omega (arith, ints)

pub part_zero : (v : Values) (r : Row) (k : ℤ) → value v r ≡ pos 0 → pos 0 ≤ℤ (k *ℤ value v r)
part_zero v r k e = rw e (omega (arith, ints))

-- the law of `combine`
pub sum_nonneg : (v : Values) (parts : List (Row × ℤ)) → EachPart (λ r k. pos 0 ≤ℤ (k *ℤ value v r)) parts → pos 0 ≤ℤ value v (sum_row parts)
sum_nonneg v [] h = omega (arith, ints)
sum_nonneg v ((r, k) ∷ parts) h =
    let i = sum_nonneg v parts h.1 in
    let j = h.0 in
    rw (value-comb v k r (pos 1) (sum_row parts)) (omega (arith, ints))

-- the law of `forget`
pub follows-so : (v : Values) → v 0 ≡ pos 1 → (n : ℤ) (r : Row) (parts : List (Row × ℤ)) → Follows n r parts → pos 0 ≤ℤ value v (sum_row parts) →
    pos 0 ≤ℤ value v r
follows-so v one n r parts f h =
    let d = comb n r (negsuc 0) (sum_row parts) in
    let c = value-comb v n r (negsuc 0) (sum_row parts) in
    let k : value v d ≡ entry d 0 = value-key v one d ∙ rw (f.1) (omega (arith, ints)) in
    let low = f.2 in
    let i : (n *ℤ neg_ℤ (pos 1)) <ℤ (n *ℤ value v r) = simp ring (omega (arith, ints)) in
    let j = lt-mul_cancel_z n (neg_ℤ (pos 1)) (value v r) f.0 i in
    omega (arith, ints)
