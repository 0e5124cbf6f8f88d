use Rattle.std.proofs.Common.{arith, ap, ◌∙◌, ◌++◌}
use Rattle.cf_eval.specs.Seen.{plain}
use Rattle.cf_eval.specs.Texts.{value_text}
use Rattle.cf_eval.proofs.JoinLemmas.{values_joined}
use Rattle.cf_eval.proofs.replies.put_values.Goals as goal

pub loop-i-preserved : goal.loop-i-preserved
loop-i-preserved c =
    values_joined c.args.values.now c.loop-i.i c.index-values-i.result c.args.out.now.items c.loop-i.out.items c.put_gap.new.out.items c.put_value.new.out.items
    (omega arith)
    c.loop-i.invariant c.in_ok-put_gap.ensures (c.in_ok-put_value.ensures ∙ ap (λ v. c.put_gap.new.out.items ++ value_text (plain v)) c.index-values-i.is)
