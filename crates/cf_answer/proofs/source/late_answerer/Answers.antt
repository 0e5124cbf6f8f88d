use Rattle.std.proofs.Common.{inl, rules, refl}
use Rattle.std.proofs.lemmas.Result.{err_from_is_err_and}
use Rattle.cf_tree.specs.DefView.{program_tree}
use Rattle.cf_program.specs.Typed.{typed_tree}
use Rattle.cf_answer.proofs.RuleLemmas.{linear_told, rule_other}
use Rattle.cf_answer.proofs.RunLemmas.{late_runs, run_unruly, run_unruly_late}
use Rattle.cf_answer.proofs.source.late_answerer.Goals as goal

pub returns-in_err-late-in-NotLinear : goal.returns-in_err-late-in-NotLinear
returns-in_err-late-in-NotLinear c =
    let p = err_from_is_err_and c.from_residual.result c.from_residual.ensures.1 in
    let plain = linear_told c.args.edition _ (program_tree c.args.program.now) c.in-NotLinear._place _ (rw c.in-NotLinear.is refl) c.requires.broken in
    λ text is s calls given. rw (p.1, p.2) (run_unruly_late c.args.edition text (program_tree c.args.program.now) c.in-NotLinear._place _ is s plain
    c.in_err-late-in-NotLinear.ensures)

pub returns-in_ok-late-in-NotLinear : goal.returns-in_ok-late-in-NotLinear
returns-in_ok-late-in-NotLinear c =
    let plain = linear_told c.args.edition _ (program_tree c.args.program.now) c.in-NotLinear._place _ (rw c.in-NotLinear.is refl) c.requires.broken in
    λ text is s calls given. late_runs c.args.edition text (program_tree c.args.program.now) (typed_tree c.in_ok-late-in-NotLinear.late)
    c.in-NotLinear._place calls given is s c.requires.spelled plain c.in_ok-late-in-NotLinear.ensures

pub returns-in_default : goal.returns-in_default
returns-in_default c =
    λ text is s calls given. inl (run_unruly c.args.edition text (program_tree c.args.program.now) _ (rule_other c.args.fault (search rules)) is s
    c.requires.broken)
