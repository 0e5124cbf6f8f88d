use Rattle.std.proofs.Common.{◌==◌, not}
use Rattle.std.proofs.lemmas.List.Elements.{filter_more}
use Rattle.cf_linear.proofs.unknowns.others.Goals as goal

pub loop-w-preserved : goal.loop-w-preserved
loop-w-preserved c =
    rw (
      filter_more (λ w. not (w == c.args.unknown)) c.args.unknowns.now c.loop-w.w-index 0 c.loop-w-test.true,
      ← c.loop-w.invariant,
    ) c.in_ok-add_column.ensures
