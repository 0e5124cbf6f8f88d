use Rattle.cf_venn.proofs.RelationLaws.{holds_by_counts}
use Rattle.cf_venn.proofs.relation_over_counts.Goals as goal

pub returns : goal.returns
returns c = holds_by_counts
