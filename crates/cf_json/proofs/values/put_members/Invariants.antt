use Rattle.std.proofs.Common.{◌≡◌, ◌++◌, take}
use Rattle.cf_eval.specs.Seen.{plains}
use Rattle.cf_json.specs.Texts.{listed, members}
use Rattle.cf_json.proofs.values.put_members.Given as goal

abbrev pub invariant-loop-i : goal.invariant-loop-i
invariant-loop-i l = l.out.items ≡ l.fn.out.items ++ listed (members l.names 0 (plains (take l.i l.values)))
