use Rattle.std.proofs.Common.{rules}
use Rattle.cf_read.proofs.SystemLaws.{made_problem}
use Rattle.cf_read.proofs.conjunctions.problem_of.Goals as goal

pub returns : goal.returns
returns c =
    made_problem c.args.systems.now c.in_ok-all.all.items c.in-Ok.count c.new.result (search rules) c.in_ok-all.ensures (search rules)
