use Rattle.std.proofs.Common.{rules, arith, ◌-◌}
use Rattle.cf_pass.proofs.LetMarks.{mark_at, mark_high, mark_low}
use Rattle.cf_pass.proofs.marks.mark_level.Goals as goal

pub returns-then-place-known : goal.returns-then-place-known
returns-then-place-known c =
    let marked = mark_at c.args.first c.args.known c.args.level (c.args.level - c.args.first) c.args.used.now.items (omega arith) (omega arith) in search
    (rules, marked)

pub returns-else-place-known : goal.returns-else-place-known
returns-else-place-known c =
    let marked = mark_high c.args.first c.args.known c.args.level c.args.used.now.items (omega arith) in search (rules, marked)

pub returns-else-level-first : goal.returns-else-level-first
returns-else-level-first c =
    let marked = mark_low c.args.first c.args.known c.args.level c.args.used.now.items (omega arith) in search (rules, marked)
