use Rattle.std.proofs.Common.{◌≡◌, ◌+◌, ◌≤◌, ◌-◌, length, drop}
use Rattle.cf_help.specs.Syntax.{count_before}
use Rattle.cf_help.proofs.stop.count_before.Given as goal

abbrev pub invariant-tokens : goal.invariant-tokens
invariant-tokens l = (l.n ≤ length l.tokens) × (l.n + count_before (drop l.n l.tokens) l.place ≡ count_before l.tokens l.place)

abbrev pub decreases-tokens : goal.decreases-tokens
decreases-tokens l = length l.tokens - l.n
