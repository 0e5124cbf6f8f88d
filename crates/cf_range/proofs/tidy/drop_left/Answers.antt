use Rattle.std.proofs.Common.{rules, ◌∙◌, ap}
use Rattle.std.proofs.lemmas.Fn.{filter_same}
use Rattle.cf_tree.specs.CodeView.{arm_trees}
use Rattle.cf_range.proofs.TidiedLists.{enters, arms_kept}
use Rattle.cf_range.proofs.tidy.drop_left.Goals as goal

pub returns-then-not-are_left : goal.returns-then-not-are_left
returns-then-not-are_left c =
    ap arm_trees (filter_same _ enters _ (λ x b f' k. search rules) _ _ c.retain.ensures.filtered) ∙ search (rules, arms_kept)
