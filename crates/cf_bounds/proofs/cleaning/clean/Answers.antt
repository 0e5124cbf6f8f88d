use Rattle.cf_bounds.proofs.CleanLaws.{clean_below, clean_owes, clean_forms}
use Rattle.cf_bounds.proofs.cleaning.clean.Goals as goal

pub cleaned_system-requires : goal.cleaned_system-requires
cleaned_system-requires c = clean_below _ c.requires

pub returns-clause-owes : goal.returns-clause-owes
returns-clause-owes c = clean_owes _ _ c.requires c.cleaned_system.ensures

pub returns-clause-formed : goal.returns-clause-formed
returns-clause-formed c = clean_forms _ _ c.requires c.cleaned_system.ensures
