use Rattle.std.proofs.Common.{sym, ◌∙◌}
use Rattle.cf_type.proofs.NameLemmas.{repeated_none}
use Rattle.cf_type.proofs.names.repeated.Goals as goal

pub returns-in-None : goal.returns-in-None
returns-in-None c = sym (sym c.loop-name.invariant ∙ repeated_none _ _ _ c.in-None.ensures.cases)
