use Rattle.std.proofs.Common.{ap, ◌∙◌}
use Rattle.cf_tree.specs.RelTree.{term_var}
use Rattle.cf_linear.specs.Layout.{place}
use Rattle.cf_warn.proofs.RegionLaws.{pushed}
use Rattle.cf_warn.proofs.regions.push_numbers.Goals as goal

pub loop-x-preserved : goal.loop-x-preserved
loop-x-preserved c =
    pushed (λ x. term_var (place x c.args.params.now)) c.args.first.now.items c.loop-x.first.items c.push.new.self.items _ c.args.numbers.now
    c.loop-x.x-index 0 c.loop-x-test.true c.in_ok-push.ensures.items (ap (λ y. term_var y) (c.in_ok-narrow.ensures ∙ c.place.ensures.value)) c.loop-x.invariant
