use Rattle.std.proofs.Common.{◌≡◌, ◌+◌, ◌≤◌, ◌-◌, length, drop}
use Rattle.std.specs.List.{prefix_len}
use Rattle.cf_eval.specs.Reading.{is_before_brace}
use Rattle.cf_eval.proofs.runs.brace_at.Given as goal

abbrev pub invariant-brace : goal.invariant-brace
invariant-brace l = (l.n ≤ length l.text) × (l.n + prefix_len is_before_brace (drop l.n l.text) ≡ prefix_len is_before_brace l.text)

abbrev pub decreases-brace : goal.decreases-brace
decreases-brace l = length l.text - l.n
