use Rattle.std.proofs.Common.{rules, ◌∙◌, ap}
use Rattle.std.proofs.lemmas.Fn.{filter_same}
use Rattle.cf_tree.specs.CodeView.{arm_trees}
use Rattle.cf_pass.proofs.DeadLists.{lives, live_left, first_left}
use Rattle.cf_pass.proofs.dead_arms.keep_live.Goals as goal

pub returns-else-all_dead : goal.returns-else-all_dead
returns-else-all_dead c =
    ap arm_trees (filter_same _ lives _ (λ x b f' k. search rules) _ _ c.retain.ensures.filtered) ∙ search (rules, live_left)

pub returns-then-all_dead : goal.returns-then-all_dead
returns-then-all_dead c = search (rules, first_left)
