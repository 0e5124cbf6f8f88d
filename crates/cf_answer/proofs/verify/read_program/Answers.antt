use Rattle.std.proofs.Common.{◌≡◌, ◌≤◌, ◌<◌, inl, inr, refl, subst, length, arith}
use Rattle.cf_answer.specs.Limits.{text_limit}
use Rattle.cf_answer.specs.Refusals.{too_long, IsBrokenSource}
use Rattle.cf_answer.specs.Steps.{IsVerdict}
use Rattle.cf_answer.specs.Verifying.{IsToldProgram}
use Rattle.cf_answer.proofs.EndedLemmas.{past_whole, whole_read}
use Rattle.cf_answer.proofs.verify.read_program.Goals as goal

pub returns-then-front-longest_text-clause-verdict : goal.returns-then-front-longest_text-clause-verdict
returns-then-front-longest_text-clause-verdict c =
    let past : text_limit < length c.args.front.now = omega (arith, c.if-front-longest_text.true, c.longest_text.ensures.is) in
    λ whole read. inl (too_long (past_whole text_limit whole c.args.front.now read past))

pub returns-clause-verdict : goal.returns-clause-verdict
returns-clause-verdict c =
    let few : length c.args.front.now ≤ text_limit = omega (arith, c.if-front-longest_text.false, c.longest_text.ensures.is) in
    λ whole read. subst (λ text. IsVerdict (IsToldProgram text) (IsBrokenSource text) c.read_told.result) (whole_read text_limit whole c.args.front.now read few)
    c.read_told.ensures

pub returns-clause-short : goal.returns-clause-short
returns-clause-short c = inr (omega (arith, c.if-front-longest_text.false, c.longest_text.ensures.is))
