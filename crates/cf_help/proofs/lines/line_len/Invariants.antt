use Rattle.std.proofs.Common.{◌≡◌, ◌+◌, ◌≤◌, ◌-◌, length, drop}
use Rattle.std.specs.List.{prefix_len}
use Rattle.cf_help.specs.Lines.{is_in_line}
use Rattle.cf_help.proofs.lines.line_len.Given as goal

abbrev pub invariant-line : goal.invariant-line
invariant-line l = (l.n ≤ length l.text) × (l.n + prefix_len is_in_line (drop l.n l.text) ≡ prefix_len is_in_line l.text)

abbrev pub decreases-line : goal.decreases-line
decreases-line l = length l.text - l.n
