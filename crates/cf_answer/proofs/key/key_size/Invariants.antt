use Rattle.std.proofs.Common.{◌≡◌, ◌+◌, ◌≤◌, ◌-◌, length, drop}
use Rattle.std.specs.List.{prefix_len}
use Rattle.cf_answer.specs.Forms.{is_key_byte}
use Rattle.cf_answer.proofs.key.key_size.Given as goal

abbrev pub invariant-key : goal.invariant-key
invariant-key l = (l.n ≤ length l.line) × (l.n + prefix_len is_key_byte (drop l.n l.line) ≡ prefix_len is_key_byte l.line)

abbrev pub decreases-key : goal.decreases-key
decreases-key l = length l.line - l.n
