use Rattle.std.proofs.Common.{map, ap, arith, ◌∙◌}
use Rattle.std.proofs.lemmas.List.{take_all}
use Rattle.cf_linear.specs.Arm.{piece_code}
use Rattle.cf_linear.specs.Views.{plain_layout}
use Rattle.cf_setwit.specs.Sources.{level_from}
use Rattle.cf_setwit.proofs.PieceLemmas.{mapped_more}
use Rattle.cf_setwit.proofs.pieces.pieces.Goals as goal

pub loop-mask-preserved : goal.loop-mask-preserved
loop-mask-preserved c =
    mapped_more (piece_code (plain_layout c.args.layout.now) c.args.names.now (level_from c.args.sources.regions) c.args.sources.fresh)
    c.args.masks.now c.loop-mask.mask-index c.loop-mask.pieces.items c.push.new.self.items c.in_ok-piece_code.field-0
    c.loop-mask-test.true c.in_ok-push.ensures.items c.in_ok-piece_code.ensures c.loop-mask.invariant

pub returns : goal.returns
returns c =
    c.loop-mask.invariant
    ∙ ap (map (piece_code (plain_layout c.args.layout.now) c.args.names.now (level_from c.args.sources.regions) c.args.sources.fresh))
    (take_all c.loop-mask.mask-index c.args.masks.now (omega (arith, c.loop-mask-test.false)))
