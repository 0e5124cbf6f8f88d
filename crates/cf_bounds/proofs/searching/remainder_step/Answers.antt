use Rattle.cf_bounds.proofs.SearchLaws.{search_below, search_owes, search_once, search_forms, search_exact, search_free}
use Rattle.cf_bounds.proofs.searching.remainder_step.Goals as goal

pub searched_system-requires-clause-rows : goal.searched_system-requires-clause-rows
searched_system-requires-clause-rows c = search_below _ c.requires.formed

pub searched_system-requires-clause-column : goal.searched_system-requires-clause-column
searched_system-requires-clause-column c = c.requires.formed.unknown_below _ c.requires.unknown

pub returns-clause-owes : goal.returns-clause-owes
returns-clause-owes c = search_owes _ _ _ _ c.requires.formed c.requires.unknown c.searched_system.ensures

pub returns-clause-once : goal.returns-clause-once
returns-clause-once c = search_once _ _ _ _ c.requires.formed c.requires.unknown c.searched_system.ensures

pub returns-clause-formed : goal.returns-clause-formed
returns-clause-formed c = search_forms _ _ _ _ c.requires.formed c.requires.unknown c.searched_system.ensures

pub returns-clause-exact : goal.returns-clause-exact
returns-clause-exact c = search_exact _ _ _ _ c.requires.formed c.requires.unknown c.searched_system.ensures

pub returns-clause-free : goal.returns-clause-free
returns-clause-free c = search_free _ _ _ _ c.requires.formed c.requires.unknown c.searched_system.ensures
