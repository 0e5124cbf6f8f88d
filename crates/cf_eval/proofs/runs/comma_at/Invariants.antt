use Rattle.std.proofs.Common.{◌≡◌, ◌+◌, ◌≤◌, ◌-◌, length, drop}
use Rattle.std.specs.List.{prefix_len}
use Rattle.cf_eval.specs.Reading.{is_before_comma}
use Rattle.cf_eval.proofs.runs.comma_at.Given as goal

abbrev pub invariant-comma : goal.invariant-comma
invariant-comma l = (l.n ≤ length l.text) × (l.n + prefix_len is_before_comma (drop l.n l.text) ≡ prefix_len is_before_comma l.text)

abbrev pub decreases-comma : goal.decreases-comma
decreases-comma l = length l.text - l.n
