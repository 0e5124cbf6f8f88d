use Rattle.cf_match.proofs.ProgramLaws.{lowering_keeps_outcomes}
use Rattle.cf_match.proofs.ProgramTypes.{lowering_keeps_types, lowering_leaves_no_match}
use Rattle.cf_match.proofs.lowering_keeps_facts.Goals as goal

pub returns-clause-outcomes : goal.returns-clause-outcomes
returns-clause-outcomes c = lowering_keeps_outcomes

pub returns-clause-types : goal.returns-clause-types
returns-clause-types c = lowering_keeps_types

pub returns-clause-no_match : goal.returns-clause-no_match
returns-clause-no_match c = lowering_leaves_no_match
