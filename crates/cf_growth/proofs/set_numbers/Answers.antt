use Rattle.cf_growth.proofs.SetNumbers.{regions_meet_none, fresh_meets_counts, sets_meet_counts, fresh_are_low}
use Rattle.cf_growth.proofs.set_numbers.Goals as goal

pub returns-clause-regions : goal.returns-clause-regions
returns-clause-regions c = regions_meet_none

pub returns-clause-fresh : goal.returns-clause-fresh
returns-clause-fresh c = fresh_meets_counts

pub returns-clause-sets : goal.returns-clause-sets
returns-clause-sets c = sets_meet_counts

pub returns-clause-low : goal.returns-clause-low
returns-clause-low c = fresh_are_low
