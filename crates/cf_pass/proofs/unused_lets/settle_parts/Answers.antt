use Rattle.std.proofs.Common.{rules, arith, ◌≡◌, ◌∙◌, length, sym, ap}
use Rattle.cf_tree.specs.CodeView.{item_trees, code_trees}
use Rattle.cf_pass.specs.Lets.{Rest, item_count}
use Rattle.cf_pass.proofs.LetFalls.{left_whole, left_fewer}
use Rattle.cf_pass.proofs.LetItems.{as_many_items}
use Rattle.cf_pass.proofs.unused_lets.settle_parts.Goals as goal

pub overflow_sub-result : goal.overflow_sub-result
overflow_sub-result c =
    let rest = left_whole c.args.fall.first c.args.fall.gone.items c.args.fall.dropped c.args.stay.now (item_trees c.args.items.now.items)
    (code_trees c.args.gives.now.items) _
    c.requires.gone c.requires.dropped c.requires.stay (c.settle_items.ensures.left (code_trees c.args.gives.now.items)) in
    let before : c.len-before.result ≡ length c.args.items.now.items = search rules in
    let after : c.len.result ≡ length c.settle_items.new.items.items = search rules in
    omega (
      arith,
      before,
      after,
      ap (λ (r : Rest). item_count r.items) rest,
      as_many_items c.args.items.now.items,
      as_many_items c.settle_items.new.items.items,
      left_fewer (item_trees c.args.items.now.items) c.args.fall.first (code_trees c.args.gives.now.items),
    )

pub returns-clause-items : goal.returns-clause-items
returns-clause-items c =
    let rest = left_whole c.args.fall.first c.args.fall.gone.items c.args.fall.dropped c.args.stay.now (item_trees c.args.items.now.items)
    (code_trees c.args.gives.now.items) _
    c.requires.gone c.requires.dropped c.requires.stay (c.settle_items.ensures.left (code_trees c.args.gives.now.items)) in
    ap (λ (r : Rest). r.items) (sym rest)

pub returns-clause-gives : goal.returns-clause-gives
returns-clause-gives c =
    let rest = left_whole c.args.fall.first c.args.fall.gone.items c.args.fall.dropped c.args.stay.now (item_trees c.args.items.now.items)
    (code_trees c.args.gives.now.items) _
    c.requires.gone c.requires.dropped c.requires.stay (c.settle_items.ensures.left (code_trees c.args.gives.now.items)) in
    c.lower_all.ensures ∙ ap (λ (r : Rest). r.gives) (sym rest)

pub returns-clause-removed : goal.returns-clause-removed
returns-clause-removed c =
    let rest = left_whole c.args.fall.first c.args.fall.gone.items c.args.fall.dropped c.args.stay.now (item_trees c.args.items.now.items)
    (code_trees c.args.gives.now.items) _
    c.requires.gone c.requires.dropped c.requires.stay (c.settle_items.ensures.left (code_trees c.args.gives.now.items)) in
    let before : c.len-before.result ≡ length c.args.items.now.items = search rules in
    let after : c.len.result ≡ length c.settle_items.new.items.items = search rules in
    omega (
      arith,
      before,
      after,
      ap (λ (r : Rest). item_count r.items) rest,
      as_many_items c.args.items.now.items,
      as_many_items c.settle_items.new.items.items,
    )
