use Rattle.cf_bounds.proofs.DropLaws.{drop_owes, drop_forms}
use Rattle.cf_bounds.proofs.dropping.drop_output.Goals as goal

pub returns-clause-owes : goal.returns-clause-owes
returns-clause-owes c = drop_owes _ _ _ c.requires.formed c.requires.unknown c.requires.free c.requires.exact c.dropped_system.ensures.next

pub returns-clause-formed : goal.returns-clause-formed
returns-clause-formed c = drop_forms _ _ _ c.requires.formed c.requires.free c.dropped_system.ensures.next
