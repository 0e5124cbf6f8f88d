use Rattle.std.proofs.Common.{ap, arith, ◌∙◌}
use Rattle.std.specs.Prelude.{filter}
use Rattle.std.proofs.lemmas.List.{take_all}
use Rattle.cf_linear.specs.Layout.{bit, place}
use Rattle.cf_setwit.proofs.MaskLemmas.{set_next}
use Rattle.cf_setwit.proofs.masks.sets_in.Goals as goal

pub loop-x-preserved : goal.loop-x-preserved
loop-x-preserved c = set_next (λ x. bit (place x c.args.inputs.now) c.args.mask) c.args.inputs.now c.loop-x.x-index (c.is_in.result) c.loop-x.sets.items
    c.push_if.new.items.items c.loop-x-test.true c.is_in.ensures c.in_ok-push_if.ensures c.loop-x.invariant

pub returns : goal.returns
returns c = c.loop-x.invariant ∙ ap (filter (λ x. bit (place x c.args.inputs.now) c.args.mask))
    (take_all c.loop-x.x-index c.args.inputs.now (omega (arith, c.loop-x-test.false)))
