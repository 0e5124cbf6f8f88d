use Rattle.std.proofs.Common.{map}
use Rattle.std.proofs.lemmas.Result.{err_from_is_err_and}
use Rattle.cf_tree.specs.DefView.{def_tree}
use Rattle.cf_program.specs.Typed.{typed_tree}
use Rattle.cf_answer.proofs.MatchClassLemmas.{told_classes}
use Rattle.cf_answer.proofs.source.read_lowered.Goals as goal

pub returns-in_err-typed : goal.returns-in_err-typed
returns-in_err-typed c =
    let p = err_from_is_err_and c.from_residual.result c.from_residual.ensures.1 in rw (p.1, p.2) c.in_err-typed.ensures

pub returns : goal.returns
returns c =
    let typed = c.in_ok-typed.typed in record {
      typed = typed_tree typed;
      is = c.in_ok-typed.ensures;
      defs = c.in_ok-lowered.ensures.defs;
      matches = c.in_ok-lowered.ensures.matches;
      classes = told_classes (map def_tree typed.defs.items) typed.main _ c.main.ensures.typed c.in_ok-lowered.ensures.matches;
    }
