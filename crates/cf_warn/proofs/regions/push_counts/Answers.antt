use Rattle.std.proofs.Common.{arith}
use Rattle.cf_tree.specs.RelTree.{term_card}
use Rattle.cf_linear.specs.Layout.{place}
use Rattle.cf_linear.specs.Views.{plain_layout}
use Rattle.cf_warn.specs.Missing.{region_form}
use Rattle.cf_warn.proofs.RegionLaws.{mask_pushed}
use Rattle.cf_warn.proofs.regions.push_counts.Goals as goal

pub loop-mask-preserved : goal.loop-mask-preserved
loop-mask-preserved c =
    mask_pushed (λ m. term_card (region_form (plain_layout c.args.layout.now) (λ x. place x c.args.params.now) m)) c.args.first.now.items
    c.loop-mask.first.items c.push.new.self.items c.in_ok-count.field-0 c.loop-mask.mask (omega (arith, c.loop-mask.auto.mask)) c.in_ok-push.ensures.items
    c.in_ok-count.ensures c.loop-mask.invariant
