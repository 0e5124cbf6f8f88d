use Rattle.cf_form.proofs.FormingLaws.{forming_allows_the_same}
use Rattle.cf_form.proofs.ItselfLaws.{forms_to_itself}
use Rattle.cf_form.proofs.KeepingLaws.{forming_keeps_types}
use Rattle.cf_form.proofs.forming_keeps_facts.Goals as goal

pub returns-clause-outcomes : goal.returns-clause-outcomes
returns-clause-outcomes c = forming_allows_the_same

pub returns-clause-types : goal.returns-clause-types
returns-clause-types c = forming_keeps_types

pub returns-clause-itself : goal.returns-clause-itself
returns-clause-itself c = forms_to_itself
