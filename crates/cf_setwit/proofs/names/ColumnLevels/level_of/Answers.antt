use Rattle.std.proofs.Common.{sym}
use Rattle.cf_setwit.proofs.NameLemmas.{level_from_lookup, no_level_from_lookup}
use Rattle.cf_setwit.proofs.names.ColumnLevels.level_of.Goals as goal

pub returns-in-Some : goal.returns-in-Some
returns-in-Some c = rw (← c.self.view_is) (sym (level_from_lookup c.self.inside.levels.entries c.args.column c.in-Some.level.now (sym c.in-Some.ensures.value)))

pub returns-in-None : goal.returns-in-None
returns-in-None c = rw (← c.self.view_is) (sym (no_level_from_lookup c.self.inside.levels.entries c.args.column (sym c.in-None.ensures.value)))
