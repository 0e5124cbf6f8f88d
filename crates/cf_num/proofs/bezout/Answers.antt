use Rattle.std.specs.Int.{w128}
use Rattle.std.proofs.Common.{arith}
use Rattle.std.proofs.lemmas.Int.{ints, to_z-of_z}
use Rattle.cf_num.specs.Parts.{parts_of}
use Rattle.cf_num.proofs.DivisorLemmas.{parts_once, parts_of-is, t_within}
use Rattle.cf_num.proofs.bezout.Goals as goal

pub returns-clause-value : goal.returns-clause-value
returns-clause-value c = parts_once c.args.a c.args.b c.signed_parts.result (parts_of c.args.a c.args.b) c.requires.b_some
    (rw (to_z-of_z w128 c.args.a c.ranges.a, to_z-of_z w128 c.args.b c.ranges.b) at c.signed_parts.ensures)
    (parts_of-is c.args.a c.args.b c.requires.a_some c.requires.b_some)

pub returns-clause-t_fits : goal.returns-clause-t_fits
returns-clause-t_fits c = let t = t_within c.args.a c.args.b c.signed_parts.result c.requires.a_some c.requires.b_some
    (rw (to_z-of_z w128 c.args.a c.ranges.a, to_z-of_z w128 c.args.b c.ranges.b) at c.signed_parts.ensures) in omega (arith, ints)
