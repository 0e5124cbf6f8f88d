use Rattle.std.proofs.Common.{rules, arith, true}
use Rattle.cf_pass.proofs.LetMarks.{set_past}
use Rattle.cf_pass.proofs.marks.set_mark.Goals as goal

pub returns-else-place-len : goal.returns-else-place-len
returns-else-place-len c = let same = set_past c.args.used.now.items c.args.place true (omega arith) in search (rules, same)
