use Rattle.std.proofs.Common.{rules, ◌∙◌, ap}
use Rattle.std.proofs.lemmas.Fn.{filter_same}
use Rattle.cf_tree.specs.CodeView.{code_trees}
use Rattle.cf_range.proofs.SetLists.{counts, parts_kept}
use Rattle.cf_range.proofs.sets.drop_empty.Goals as goal

pub returns : goal.returns
returns c = ap code_trees (filter_same _ counts _ (λ x b f' k. search rules) _ _ c.retain.ensures.filtered) ∙ parts_kept _
