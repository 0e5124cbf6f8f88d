use Rattle.std.proofs.Common.{◌∙◌, pos, ap}
use Rattle.std.specs.Prelude.{unsigned_abs}
use Rattle.std.specs.Int.{w128}
use Rattle.std.proofs.lemmas.Int.{to_z_pos, to_z-of_z}
use Rattle.std.proofs.lemmas.Nat.Gcd.{same_from_IsGcd}
use Rattle.cf_num.specs.Divisors.{gcd_of}
use Rattle.cf_num.proofs.DivisorLemmas.{gcd_of-is}
use Rattle.cf_num.proofs.gcd.Goals as goal

pub returns-clause-divisor : goal.returns-clause-divisor
returns-clause-divisor c =
    rw (to_z_pos w128 c.gcd_of_sizes.result c.gcd_of_sizes.ensures.bound)
    (rw (c.unsigned_abs.ensures.value, c.unsigned_abs-2.ensures.value, to_z-of_z w128 c.args.a c.ranges.a, to_z-of_z w128 c.args.b c.ranges.b) at
    c.gcd_of_sizes.ensures.divisor)

pub returns-clause-value : goal.returns-clause-value
returns-clause-value c =
    let d = rw (c.unsigned_abs.ensures.value, c.unsigned_abs-2.ensures.value, to_z-of_z w128 c.args.a c.ranges.a, to_z-of_z w128 c.args.b c.ranges.b) at
    c.gcd_of_sizes.ensures.divisor in
    to_z_pos w128 c.gcd_of_sizes.result c.gcd_of_sizes.ensures.bound
    ∙ ap pos (same_from_IsGcd (unsigned_abs c.args.a) (unsigned_abs c.args.b) c.gcd_of_sizes.result (gcd_of (unsigned_abs c.args.a) (unsigned_abs c.args.b)) d
    (gcd_of-is (unsigned_abs c.args.a) (unsigned_abs c.args.b)))
