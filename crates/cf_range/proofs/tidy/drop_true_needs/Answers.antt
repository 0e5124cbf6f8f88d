use Rattle.std.proofs.Common.{rules, ◌∙◌, ap}
use Rattle.std.proofs.lemmas.Fn.{filter_same}
use Rattle.cf_tree.specs.CodeView.{item_trees}
use Rattle.cf_range.proofs.TidiedLists.{stays, others}
use Rattle.cf_range.proofs.tidy.drop_true_needs.Goals as goal

pub returns : goal.returns
returns c = ap item_trees (filter_same _ stays _ (λ x b f' k. search rules) _ _ c.retain.ensures.filtered) ∙ others _
