use Rattle.std.proofs.Common.{◌≡◌, ◌≤◌, ◌-◌, length, drop}
use Rattle.cf_help.specs.Syntax.{before_open}
use Rattle.cf_help.specs.StopView.{kinds_seen}
use Rattle.cf_help.proofs.stop.count_to_open.Given as goal

abbrev pub invariant-tokens : goal.invariant-tokens
invariant-tokens l =
    (l.n ≤ length l.before) × (l.closed ≤ l.n) × (before_open l.closed (kinds_seen (drop l.n l.before)) ≡ before_open 0 (kinds_seen l.before))

abbrev pub decreases-tokens : goal.decreases-tokens
decreases-tokens l = length l.before - l.n
