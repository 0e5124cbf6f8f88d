use Rattle.std.proofs.Common.{◌≡◌, to_z, of_z, rules, arith}
use Rattle.std.specs.Int.{w128}
use Rattle.std.proofs.lemmas.Int.{ints}
use Rattle.cf_covers.proofs.CoverLaws.{all_by_steps}
use Rattle.cf_covers.proofs.reach.is_passed_in_steps.Goals as goal

pub returns : goal.returns
returns c =
    let g : to_z w128 (of_z w128 c.args.g) ≡ c.args.g = search rules in
    let r : to_z w128 (of_z w128 c.args.r) ≡ c.args.r = search rules in
    λ e. all_by_steps c.args.earlier.now c.args.g c.args.r c.args.steps (omega (arith, ints, c.if-g-le0.false)) (omega (arith, c.if-steps-eq0.false))
    (simp (g, r) at (c.hold_steps.ensures e))
