-- A row with its signs turned.
use Rattle.std.proofs.Common.{◌≡◌, ℕ, pos, negsuc, [], ◌∷◌}
use Rattle.std.specs.Prelude.{true, false, ◌-◌}
use Rattle.cf_linear.specs.Arm.{negated}
use Rattle.cf_linear.specs.Keep.{Over}
use Rattle.cf_linear.specs.Rows.{Row, passes, row_passes, AreWithin, IsRow}
use Rattle.cf_linear.proofs.BoolLemmas.{on_bool}
use Rattle.cf_linear.proofs.KindLemmas.{Over-comb}
use Rattle.cf_linear.proofs.PassingLemmas.{negated_not, within_is}

pub negated-over : (Q : ℕ → Type 0) (r : Row) → Over Q r → Over Q (negated r)
negated-over Q r o = Over-comb Q (negsuc 0) r (pos 0) [] o tt

pub within_from_test : (r : Row) → row_passes r ≡ false → AreWithin r
within_from_test [] e = tt
within_from_test ((c, k) ∷ r) e =
    on_bool (passes k)
    (λ t. let f : true ≡ false = rw t at e in cc)
    (λ t. let f : row_passes r ≡ false = rw t at e in (within_is k t, within_from_test r f))

pub negated-within : (r : Row) → IsRow r → AreWithin (negated r)
negated-within r p = within_from_test (negated r) (negated_not r p)
