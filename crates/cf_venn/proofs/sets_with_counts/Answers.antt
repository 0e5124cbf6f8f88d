use Rattle.cf_tree.proofs.SliceLemmas.{fresh_not}
use Rattle.cf_venn.specs.Masks.{union_all}
use Rattle.cf_venn.proofs.PieceLemmas.{count_output}
use Rattle.cf_venn.proofs.sets_with_counts.Goals as goal

pub returns-clause-counts : goal.returns-clause-counts
returns-clause-counts c = λ ins q r ok m a b. count_output ins q r ok m a b

pub returns-clause-fresh : goal.returns-clause-fresh
returns-clause-fresh c = λ ins q r y h. fresh_not (union_all ins) _ y h
