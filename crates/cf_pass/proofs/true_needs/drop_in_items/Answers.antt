use Rattle.std.proofs.Common.{rules, ◌≡◌, ◌∙◌, length, ap, filter}
use Rattle.std.proofs.lemmas.Fn.{filter_same}
use Rattle.cf_tree.specs.CodeView.{item_trees}
use Rattle.cf_pass.proofs.NeedsLists.{stays, others, counted}
use Rattle.cf_pass.proofs.true_needs.drop_in_items.Goals as goal

pub returns-clause-items : goal.returns-clause-items
returns-clause-items c =
    ap item_trees (filter_same _ stays _ (λ x b f' k. search rules) _ _ c.retain.ensures.filtered) ∙ others _

pub returns-clause-removed : goal.returns-clause-removed
returns-clause-removed c =
    let kept : c.retain.new.self.items ≡ filter stays c.args.items.now.items = filter_same _ stays _ (λ x b f' k. search rules) _ _ c.retain.ensures.filtered in
    let n = counted c.args.items.now.items in
    let m = ap length kept in
    search (rules, n, m)
