use Rattle.std.proofs.Common.{refl, Ok, Err}
use Rattle.std.proofs.lemmas.Result.{err_from_is_err_and}
use Rattle.cf_tree.specs.DefView.{program_tree}
use Rattle.cf_program.specs.Typed.{typed_tree}
use Rattle.cf_answer.proofs.EmitLemmas.{source_refused}
use Rattle.cf_answer.proofs.PassLemmas.{on_err}
use Rattle.cf_answer.proofs.TextLemmas.{broken_refused, build_refused, read_verdict}
use Rattle.cf_answer.proofs.emit.compiled.Goals as goal

pub returns-in_err-typed-clause-verdict : goal.returns-in_err-typed-clause-verdict
returns-in_err-typed-clause-verdict g c =
    let p = err_from_is_err_and c.from_residual.result c.from_residual.ensures.1 in
    λ text is s. rw (p.1, p.2)
    (source_refused c.args.language text _
    (broken_refused text _ (read_verdict c.args.edition text (program_tree c.args.program.now) (Err c.in_err-typed.field-0.0) is s c.in_err-typed.ensures)))

pub returns-in_err-typed-clause-kept : goal.returns-in_err-typed-clause-kept
returns-in_err-typed-clause-kept g c = on_err c.from_residual.result refl

pub returns-in_err-check_sets-clause-verdict : goal.returns-in_err-check_sets-clause-verdict
returns-in_err-check_sets-clause-verdict g c =
    let p = err_from_is_err_and c.from_residual-in_err-check_sets.result c.from_residual-in_err-check_sets.ensures.1 in
    λ text is s. rw (p.1, p.2) (c.in_err-check_sets.ensures text
    (read_verdict c.args.edition text (program_tree c.args.program.now) (Ok c.in_ok-typed.typed) is s c.in_ok-typed.ensures))

pub returns-in_err-check_sets-clause-kept : goal.returns-in_err-check_sets-clause-kept
returns-in_err-check_sets-clause-kept g c = on_err c.from_residual-in_err-check_sets.result refl

pub returns-in_err-target-clause-verdict : goal.returns-in_err-target-clause-verdict
returns-in_err-target-clause-verdict g c =
    let p = err_from_is_err_and c.from_residual-in_err-target.result c.from_residual-in_err-target.ensures.1 in
    λ text is s. rw (p.1, p.2)
    (source_refused c.args.language text _
    (build_refused text (typed_tree c.in_ok-typed.typed) _
    (read_verdict c.args.edition text (program_tree c.args.program.now) (Ok c.in_ok-typed.typed) is s c.in_ok-typed.ensures) c.in_err-target.ensures.answer))

pub returns-in_err-target-clause-kept : goal.returns-in_err-target-clause-kept
returns-in_err-target-clause-kept g c = on_err c.from_residual-in_err-target.result c.in_err-target.ensures.kept

pub returns-clause-verdict : goal.returns-clause-verdict
returns-clause-verdict g c = λ text is s.
    let source = read_verdict c.args.edition text (program_tree c.args.program.now) (Ok c.in_ok-typed.typed) is s c.in_ok-typed.ensures in
    record {
      compiles = (typed_tree c.in_ok-typed.typed, source, c.in_ok-target.ensures.answer);
      has_form = c.in_ok-check_sets.ensures text source;
    }
