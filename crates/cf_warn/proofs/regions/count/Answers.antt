use Rattle.std.proofs.Common.{ap, ◌∙◌}
use Rattle.cf_tree.specs.RelTree.{term_card}
use Rattle.cf_tree.specs.RelView.{set_tree}
use Rattle.cf_linear.specs.Layout.{place}
use Rattle.cf_linear.specs.Views.{plain_layout}
use Rattle.cf_warn.proofs.RegionLaws.{region_is}
use Rattle.cf_warn.proofs.regions.count.Goals as goal

pub returns : goal.returns
returns c =
    let i = rw c.deref.ensures.value at c.in_ok-inside.ensures in
    let o = rw c.deref-2.ensures.value at c.in_ok-others.ensures in
    let both = rw c.deref-3.ensures.value at c.in_ok-common.ensures in
    let region = rw c.deref-4.ensures.value at c.in_ok-region.ensures in
    ap (λ s. term_card s)
    (ap set_tree c.in_ok-new.ensures.ok
    ∙ region_is (plain_layout c.args.layout.now) (λ x. place x c.args.params.now) c.args.mask c.in_ok-inside.inside.items c.in_ok-others.others.items
    (set_tree c.in_ok-common.common) (set_tree c.in_ok-region.region) i o both region)
