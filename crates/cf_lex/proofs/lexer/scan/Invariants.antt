use Rattle.std.proofs.Common.{◌+◌, ◌≤◌, length}
use Rattle.cf_lex.proofs.ScanLemmas.{Goes}
use Rattle.cf_lex.proofs.lexer.scan.Given as goal

abbrev pub invariant-pieces : goal.invariant-pieces
invariant-pieces l = record {
  line : l.place.line + length l.rest ≤ 1 + length l.text;
  column : l.place.column + length l.rest ≤ 1 + length l.text;
  goes : Goes l.edition l.limit l.text l.list.items l.place l.rest;
}

abbrev pub decreases-pieces : goal.decreases-pieces
decreases-pieces l = length l.rest
