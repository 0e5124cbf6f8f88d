use Rattle.std.proofs.Common.{◌≡◌, ◌<◌, length, get_or, slice_get, Some, sym, subst}
use Rattle.cf_late.specs.Answers.{LateAnswer}
use Rattle.cf_late.proofs.Calls.{run_is, stands_or}
use Rattle.cf_late.proofs.RunnableLaws.{body_runnable}
use Rattle.cf_late.proofs.run.run_main.Goals as goal

pub eval-requires : goal.eval-requires
eval-requires c =
    let defs = c.defs.result.now in
    let main = c.args.main in
    let d = c.index-defs-main.result in
    let stands = subst (λ ds. main < length ds) (sym c.defs.ensures.value) c.requires.stands in
    let at = subst (λ ds. slice_get ds main ≡ Some (get_or defs main d)) c.defs.ensures.value (stands_or defs main d stands) in
    record { runnable = body_runnable c.args.late.now.defs.items c.args.late.now.main main (get_or defs main d) c.defs.ensures.typed at }

pub returns : goal.returns
returns c =
    let defs = c.defs.result.now in
    let main = c.args.main in
    let d = c.index-defs-main.result in
    let stands = subst (λ ds. main < length ds) (sym c.defs.ensures.value) c.requires.stands in
    let at = subst (λ ds. slice_get ds main ≡ Some (get_or defs main d)) c.defs.ensures.value (stands_or defs main d stands) in
    subst (LateAnswer c.eval.result) (sym (run_is c.args.late.now.defs.items main (get_or defs main d) c.args.env at c.requires.stands)) c.eval.ensures.0
