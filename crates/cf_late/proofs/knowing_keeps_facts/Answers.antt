use Rattle.cf_late.proofs.KnownLaws.{knowing_keeps_solutions, knowing_keeps_types, knowing_is_linear}
use Rattle.cf_late.proofs.knowing_keeps_facts.Goals as goal

pub returns-clause-solutions : goal.returns-clause-solutions
returns-clause-solutions c = knowing_keeps_solutions

pub returns-clause-types : goal.returns-clause-types
returns-clause-types c = knowing_keeps_types

pub returns-clause-linear : goal.returns-clause-linear
returns-clause-linear c = knowing_is_linear
