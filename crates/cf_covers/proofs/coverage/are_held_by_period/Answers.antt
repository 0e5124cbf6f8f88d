use Rattle.std.proofs.Common.{◌≡◌, pos, to_z, of_z, rules, arith}
use Rattle.std.specs.Int.{w128}
use Rattle.std.proofs.lemmas.Int.{to_z_pos}
use Rattle.cf_covers.proofs.CoverLaws.{all_by_residues}
use Rattle.cf_covers.proofs.coverage.are_held_by_period.Goals as goal

pub returns : goal.returns
returns c =
    let g : to_z w128 (of_z w128 c.args.g) ≡ c.args.g = search rules in
    let r : to_z w128 (of_z w128 c.args.r) ≡ c.args.r = search rules in
    let period : to_z w128 c.args.period ≡ pos c.args.period = to_z_pos w128 c.args.period (omega arith) in
    let d = simp (g, period) at (c.divides.ensures c.if-not-divides.false) in
    λ e. all_by_residues c.args.classes.now c.args.g c.args.r c.args.period (omega (arith, c.if-period-eq0.false)) d.0 d.1 (simp (g, r) at (c.hold_residues.ensures e))
