use Rattle.std.proofs.Common.{rules, arith, sym, eqb-true}
use Rattle.std.proofs.lemmas.Result.{err_from_is_err_and}
use Rattle.cf_lex.proofs.ScanLemmas.{goes_first, goes_next, goes_empty, goes_fault}
use Rattle.cf_lex.proofs.lexer.scan.Goals as goal

pub pieces-init : goal.pieces-init
pieces-init c = record { line = omega arith; column = omega arith; goes = rw c.new-list.ensures.items (goes_first _ _ _) }

pub returns-in_err-found : goal.returns-in_err-found
returns-in_err-found c =
    let p = err_from_is_err_and c.from_residual.result c.from_residual.ensures.1 in
    rw (p.1, p.2) (goes_fault _ c.pieces.invariant.goes c.in_err-found.ensures.is)

pub pieces-preserved : goal.pieces-preserved
pieces-preserved c = record {
  line = search rules;
  column = search rules;
  goes = goes_next _ _ c.pieces.invariant.goes c.in_ok-found.ensures.is c.in_ok-add.ensures c.after-place.ensures.is;
}

pub returns : goal.returns
returns c = goes_empty _ c.pieces.invariant.goes (eqb-true _ _ (sym c.pieces-test.ensures))
