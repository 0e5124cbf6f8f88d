use Rattle.std.proofs.Common.{sym, pos}
use Rattle.std.proofs.lemmas.List.Elements.{filter_more}
use Rattle.cf_tree.specs.Sets.{has}
use Rattle.cf_set.proofs.lists.inter.Goals as goal

pub loop-x-preserved : goal.loop-x-preserved
loop-x-preserved c =
    rw (c.in_ok-push_if.ensures, c.has-wanted.ensures, c.loop-x.invariant)
    (sym (filter_more (has c.args.b.now) c.args.a.now c.loop-x.x-index (pos 0) c.loop-x-test.true))
