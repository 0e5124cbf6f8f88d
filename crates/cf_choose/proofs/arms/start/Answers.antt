use Rattle.std.proofs.Common.{◌+◌, ap, map, sym}
use Rattle.std.proofs.lemmas.List.{length-map}
use Rattle.cf_tree.specs.CodeView.{item_tree}
use Rattle.cf_linear.specs.Views.{bound_of}
use Rattle.cf_choose.proofs.arms.start.Goals as goal

pub returns-clause-made : goal.returns-clause-made
returns-clause-made c = record {
  level = ap (λ n. c.args.layout.now.scope + n) (sym (length-map c.args.bounds.now bound_of));
  names = c.in_ok-names.ensures;
  items = ap (map item_tree) c.new.ensures.items;
}
