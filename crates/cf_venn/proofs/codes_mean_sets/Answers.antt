use Rattle.cf_venn.proofs.CodeLaws.{set_codes_mean, fresh_code_means}
use Rattle.cf_venn.proofs.GiveLaws.{gives_mean}
use Rattle.cf_venn.proofs.KnownLaws.{parameters_known}
use Rattle.cf_venn.proofs.LetLaws.{region_lets_lead}
use Rattle.cf_venn.proofs.RegionCodes.{region_codes_mean}
use Rattle.cf_venn.proofs.codes_mean_sets.Goals as goal

pub returns-clause-regions : goal.returns-clause-regions
returns-clause-regions c = region_codes_mean

pub returns-clause-lets : goal.returns-clause-lets
returns-clause-lets c = region_lets_lead

pub returns-clause-known : goal.returns-clause-known
returns-clause-known c = parameters_known

pub returns-clause-fresh : goal.returns-clause-fresh
returns-clause-fresh c = fresh_code_means

pub returns-clause-pieces : goal.returns-clause-pieces
returns-clause-pieces c = set_codes_mean

pub returns-clause-outputs : goal.returns-clause-outputs
returns-clause-outputs c = gives_mean
