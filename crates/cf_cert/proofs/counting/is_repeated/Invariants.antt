use Rattle.std.proofs.Common.{◌≡◌, drop}
use Rattle.std.specs.List.{list_any}
use Rattle.cf_cert.specs.Counting.{is_equal}
use Rattle.cf_cert.proofs.counting.is_repeated.Given as goal

abbrev pub invariant-loop-other : goal.invariant-loop-other
invariant-loop-other l = list_any (is_equal l.unknown l.row) l.before ≡ list_any (is_equal l.unknown l.row) (drop l.other-index l.before)
