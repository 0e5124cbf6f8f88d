use Rattle.std.proofs.Common.{◌≡◌, ◌++◌, take}
use Rattle.cf_eval.specs.Seen.{plains}
use Rattle.cf_eval.specs.Texts.{values_text}
use Rattle.cf_eval.proofs.replies.put_values.Given as goal

abbrev pub invariant-loop-i : goal.invariant-loop-i
invariant-loop-i l = l.out.items ≡ l.fn.out.items ++ values_text (plains (take l.i l.values))
