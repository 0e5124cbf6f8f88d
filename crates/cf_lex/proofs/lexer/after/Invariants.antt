use Rattle.std.proofs.Common.{◌≡◌, ◌+◌, ◌≤◌, drop}
use Rattle.cf_lex.specs.Places.{place_after}
use Rattle.cf_lex.proofs.lexer.after.Given as goal

abbrev pub invariant-loop-b : goal.invariant-loop-b
invariant-loop-b l = record {
  is : place_after l.p (drop l.b-index l.bytes) ≡ place_after l.fn.place l.bytes;
  line : l.p.line ≤ l.fn.place.line + l.b-index;
  column : l.p.column ≤ l.fn.place.column + l.b-index;
}
