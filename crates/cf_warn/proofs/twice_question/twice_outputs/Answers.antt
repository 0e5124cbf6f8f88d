use Rattle.cf_tree.specs.RelView.{rel_tree}
use Rattle.cf_warn.proofs.TwiceLaws.{parameters_within}
use Rattle.cf_warn.proofs.twice_question.twice_outputs.Goals as goal

pub bases_at-requires : goal.bases_at-requires
bases_at-requires c = rw (c.requires, c.scope.ensures.value) (parameters_within c.args.solved.now.scope.items (rel_tree c.args.solved.now.rel))
