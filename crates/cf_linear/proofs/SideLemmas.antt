-- The coefficients of bounds.
use Rattle.std.proofs.Common.{◌≡◌, ℕ, zero, suc, ◌<◌, ℤ, pos, negsuc, neg_ℤ, Bool, true, false, arith}
use Rattle.std.specs.Prelude.{◌<ℤ◌, int_lt, unsigned_abs, nat_lt}
use Rattle.std.proofs.lemmas.Int.{ints}
use Rattle.std.proofs.lemmas.Bool.{ltb-true, and_parts}
use Rattle.cf_linear.specs.Rows.{Row, entry}
use Rattle.cf_linear.specs.Steps.{is_positive, searches}

pub positive_so : (k : ℤ) → is_positive k ≡ true → pos 0 <ℤ k
positive_so (pos zero) e = cc e
positive_so (pos (suc n)) e = omega (arith, ints)
positive_so (negsuc n) e = cc e

pub negative_so : (k : ℤ) → int_lt k (pos 0) ≡ true → k <ℤ pos 0
negative_so (pos n) e = absurd (let h = ltb-true n 0 e in omega arith)
negative_so (negsuc n) e = omega (arith, ints)

-- the coefficient, by the side
abbrev pub Sided : Bool → ℤ → Type 0
Sided true c = c ≡ pos (unsigned_abs c)
Sided false c = c ≡ neg_ℤ (pos (unsigned_abs c))

pub sided : (lower : Bool) (x : ℕ) (r : Row) → searches x lower r ≡ true → (1 < unsigned_abs (entry r x)) × Sided lower (entry r x)
sided true x r e =
    let h = and_parts (nat_lt 1 (unsigned_abs (entry r x))) (is_positive (entry r x)) e in
    let p = positive_so (entry r x) h.1 in
    (ltb-true 1 (unsigned_abs (entry r x)) h.0, omega (arith, ints))
sided false x r e =
    let h = and_parts (nat_lt 1 (unsigned_abs (entry r x))) (int_lt (entry r x) (pos 0)) e in
    let p = negative_so (entry r x) h.1 in
    (ltb-true 1 (unsigned_abs (entry r x)) h.0, omega (arith, ints))
