use Rattle.std.proofs.Common.{◌≡◌, ◌+◌, ◌≤◌, ◌-◌, length, drop}
use Rattle.std.specs.List.{prefix_len}
use Rattle.cf_lex.specs.Bytes.{is_in_comment}
use Rattle.cf_lex.proofs.bytes.comment_len.Given as goal

abbrev pub invariant-comment : goal.invariant-comment
invariant-comment l = (l.n ≤ length l.text) × (l.n + prefix_len is_in_comment (drop l.n l.text) ≡ prefix_len is_in_comment l.text)

abbrev pub decreases-comment : goal.decreases-comment
decreases-comment l = length l.text - l.n
