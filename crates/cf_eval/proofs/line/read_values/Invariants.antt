use Rattle.std.proofs.Common.{◌≡◌, [], drop, All}
use Rattle.cf_eval.specs.Seen.{plains, IsFit}
use Rattle.cf_eval.specs.Reading.{values_from}
use Rattle.cf_eval.proofs.line.read_values.Given as goal

abbrev pub invariant-loop-i : goal.invariant-loop-i
invariant-loop-i l = record {
  goes : values_from l.limit (drop l.i l.types) l.rest (plains l.out.items) ≡ values_from l.limit l.types l.text [];
  fits : All IsFit l.out.items;
}
