use Rattle.cf_venn.proofs.OutputLaws.{sets_have_counts, counts_have_sets}
use Rattle.cf_venn.proofs.SolvingLaws.{held_by_counts, solved_by_counts}
use Rattle.cf_venn.proofs.sets_and_counts.Goals as goal

pub returns-clause-counts : goal.returns-clause-counts
returns-clause-counts c = sets_have_counts

pub returns-clause-sets : goal.returns-clause-sets
returns-clause-sets c = counts_have_sets

pub returns-clause-held : goal.returns-clause-held
returns-clause-held c = held_by_counts

pub returns-clause-solved : goal.returns-clause-solved
returns-clause-solved c = solved_by_counts
