use Rattle.std.proofs.Common.{map, ap, arith, ◌∙◌}
use Rattle.std.proofs.lemmas.List.{take_all}
use Rattle.cf_tree.specs.CodeView.{item_tree}
use Rattle.cf_choose.proofs.needs.copied.Goals as goal

pub returns : goal.returns
returns c = c.loop-item.invariant ∙ ap (map item_tree) (take_all c.loop-item.item-index c.args.items.now (omega (arith, c.loop-item-test.false)))
