use Rattle.cf_venn.proofs.FormLaws.{region_codes_fit, fresh_code_fits, set_codes_fit}
use Rattle.cf_venn.proofs.codes_have_forms.Goals as goal

pub returns-clause-regions : goal.returns-clause-regions
returns-clause-regions c = region_codes_fit

pub returns-clause-fresh : goal.returns-clause-fresh
returns-clause-fresh c = fresh_code_fits

pub returns-clause-pieces : goal.returns-clause-pieces
returns-clause-pieces c = set_codes_fit
