use Rattle.std.proofs.Common.{◌≡◌, to_z, of_z, rules}
use Rattle.std.specs.Int.{w128}
use Rattle.cf_covers.proofs.InsideLaws.{residue_inside}
use Rattle.cf_covers.proofs.inside.is_coarser.Goals as goal

pub returns-then-divides : goal.returns-then-divides
returns-then-divides c =
    let g : to_z w128 (of_z w128 c.args.g) ≡ c.args.g = search rules in
    let r : to_z w128 (of_z w128 c.args.r) ≡ c.args.r = search rules in
    let n : to_z w128 (of_z w128 c.args.n) ≡ c.args.n = search rules in
    let left : to_z w128 (of_z w128 c.args.left) ≡ c.args.left = search rules in
    let d = simp (g, n) at (c.divides.ensures c.if-divides.true) in
    λ e. residue_inside c.args.n c.args.left c.args.g c.args.r d.0 d.1 (simp (left, g, r) at (c.leaves.ensures e))
