use Rattle.std.proofs.Common.{◌≡◌, ◌+◌, ◌≤◌, ◌-◌, length, drop}
use Rattle.std.specs.List.{prefix_len}
use Rattle.cf_eval.specs.Spelling.{is_space}
use Rattle.cf_eval.proofs.runs.space_len.Given as goal

abbrev pub invariant-spaces : goal.invariant-spaces
invariant-spaces l = (l.n ≤ length l.text) × (l.n + prefix_len is_space (drop l.n l.text) ≡ prefix_len is_space l.text)

abbrev pub decreases-spaces : goal.decreases-spaces
decreases-spaces l = length l.text - l.n
