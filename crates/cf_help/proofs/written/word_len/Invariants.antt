use Rattle.std.proofs.Common.{◌≡◌, ◌+◌, ◌≤◌, ◌-◌, length, drop}
use Rattle.std.specs.List.{prefix_len}
use Rattle.cf_lex.specs.Bytes.{is_in_word}
use Rattle.cf_help.proofs.written.word_len.Given as goal

abbrev pub invariant-word : goal.invariant-word
invariant-word l = (l.n ≤ length l.text) × (l.n + prefix_len is_in_word (drop l.n l.text) ≡ prefix_len is_in_word l.text)

abbrev pub decreases-word : goal.decreases-word
decreases-word l = length l.text - l.n
