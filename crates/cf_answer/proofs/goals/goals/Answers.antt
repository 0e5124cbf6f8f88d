use Rattle.std.proofs.Common.{◌≡◌, rules, subst}
use Rattle.std.specs.Prelude.{Ok}
use Rattle.std.proofs.lemmas.Result.{err_from_is_err_and}
use Rattle.cf_build.specs.Chooses.{by_number}
use Rattle.cf_build.specs.Solves.{AreSolved}
use Rattle.cf_smt.specs.Heads.{head_text}
use Rattle.cf_answer.specs.Certificates.{asked_in}
use Rattle.cf_answer.specs.Claims.{GoalsWritten}
use Rattle.cf_answer.proofs.ClaimLemmas.{claims_refused, goals_fault, goals_made}
use Rattle.cf_answer.proofs.LoweredLemmas.{lowered_chooses, lowered_refused}
use Rattle.cf_answer.proofs.goals.goals.Goals as goal

pub returns-in_err-chooses : goal.returns-in_err-chooses
returns-in_err-chooses c =
    let p = err_from_is_err_and c.from_residual.result c.from_residual.ensures.1 in
    λ s. rw (p.1, p.2) (claims_refused _ _
    (lowered_refused c.args.source.now c.args.program.now.lowered _ s.lowered c.typed.ensures.value _ c.in_err-chooses.ensures.refused))

pub returns-in-Ok : goal.returns-in-Ok
returns-in-Ok c = λ s.
    let same = lowered_chooses c.args.source.now c.args.program.now.lowered _ s.lowered c.typed.ensures.value in
    let solved = subst (λ qs. AreSolved (by_number qs) c.in_ok-chooses.chooses.items) same c.in_ok-chooses.ensures.solved in
    let head : c.put_head.new.out.items ≡ head_text c.args.source.now = search rules in
    goals_made c.args.source.now c.args.program.now s c.in_ok-chooses.chooses.items solved _
    (subst (λ old. GoalsWritten (asked_in s.lowered.typed) old c.put_all_goals.new.text.items (Ok tt)) head
    ((rw c.deref.ensures.value at c.in-Ok.ensures) _ solved))

pub returns : goal.returns
returns c = λ s.
    let same = lowered_chooses c.args.source.now c.args.program.now.lowered _ s.lowered c.typed.ensures.value in
    let solved = subst (λ qs. AreSolved (by_number qs) c.in_ok-chooses.chooses.items) same c.in_ok-chooses.ensures.solved in
    goals_fault c.args.source.now c.args.program.now s c.in_ok-chooses.chooses.items solved c.in-Err.fault _ c.fault_of.ensures
    ((rw c.deref.ensures.value at c.in-Err.ensures) _ solved)
