use Rattle.cf_print_shape.proofs.ReadLists.{one_search}
use Rattle.cf_print_shape.proofs.results.bases_behind_searches.Goals as goal

pub loop-bound-preserved : goal.loop-bound-preserved
loop-bound-preserved c =
    one_search c.args.bounds.now c.loop-bound._bound-index c.loop-bound.all.items c.push.new.self.items _ c.loop-bound-test.true
    c.in_ok-push.ensures.items c.loop-bound.invariant
