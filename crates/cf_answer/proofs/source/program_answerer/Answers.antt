use Rattle.std.proofs.Common.{refl, rules}
use Rattle.std.proofs.lemmas.Result.{err_from_is_err_and}
use Rattle.cf_tree.specs.DefView.{program_tree}
use Rattle.cf_program.specs.Typed.{typed_tree}
use Rattle.cf_answer.proofs.PassLemmas.{on_err}
use Rattle.cf_answer.proofs.RunLemmas.{target_runs, run_build_refused, run_unruly_or}
use Rattle.cf_answer.proofs.source.program_answerer.Goals as goal

pub returns-in_err-target-in-Ok-clause-verdict : goal.returns-in_err-target-in-Ok-clause-verdict
returns-in_err-target-in-Ok-clause-verdict g c =
    let p = err_from_is_err_and c.from_residual.result c.from_residual.ensures.1 in
    λ text is s. rw (p.1, p.2) (run_build_refused c.args.edition text (program_tree c.args.program.now) (typed_tree c.in-Ok.typed) _ is s c.in-Ok.ensures
    c.in_err-target-in-Ok.ensures.answer)

pub returns-in_err-target-in-Ok-clause-kept : goal.returns-in_err-target-in-Ok-clause-kept
returns-in_err-target-in-Ok-clause-kept g c = on_err c.from_residual.result c.in_err-target-in-Ok.ensures.kept

pub returns-in_ok-target-in-Ok-clause-verdict : goal.returns-in_ok-target-in-Ok-clause-verdict
returns-in_ok-target-in-Ok-clause-verdict g c =
    let target = c.in_ok-target-in-Ok.ensures in
    λ text is s. target_runs c.args.edition text (program_tree c.args.program.now) (typed_tree c.in-Ok.typed) _ _ _ target.turned is s c.in-Ok.ensures
    target.answer

pub returns-in-Err-Rule-clause-verdict : goal.returns-in-Err-Rule-clause-verdict
returns-in-Err-Rule-clause-verdict g c = λ text is s. c.late_answerer.ensures text is s _ _

pub returns-in-Err-Rule-clause-kept : goal.returns-in-Err-Rule-clause-kept
returns-in-Err-Rule-clause-kept g c = on_err c.late_answerer.result refl

pub returns-in-Err-clause-verdict : goal.returns-in-Err-clause-verdict
returns-in-Err-clause-verdict g c =
    λ text is s. run_unruly_or c.args.edition text (program_tree c.args.program.now) c.in-Err.fault (search rules) is s c.in-Err.ensures
