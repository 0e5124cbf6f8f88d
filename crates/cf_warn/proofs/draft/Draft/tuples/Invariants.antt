use Rattle.std.proofs.Common.{map}
use Rattle.std.specs.List.{range_with_len}
use Rattle.cf_warn.specs.Writing.{case_of, IsWritten}
use Rattle.cf_warn.proofs.DraftLaws.{tuple_of}
use Rattle.cf_warn.proofs.draft.Draft.tuples.Given as goal

abbrev pub invariant-loop-number : goal.invariant-loop-number
invariant-loop-number l = IsWritten l.initial.self l.self (map (tuple_of (case_of l.bounds l.steps)) (range_with_len 0 l.number))
