use Rattle.std.proofs.Common.{◌≡◌, ◌∙◌, ◌<◌, ap, inl, refl, length, arith}
use Rattle.cf_gen.specs.Workload.{gen_source}
use Rattle.cf_answer.specs.Limits.{text_limit}
use Rattle.cf_answer.specs.Refusals.{too_long}
use Rattle.cf_answer.proofs.PassLemmas.{on_err}
use Rattle.cf_answer.proofs.generate.compiled_workload.Goals as goal

pub returns-in_err-text-clause-kept : goal.returns-in_err-text-clause-kept
returns-in_err-text-clause-kept g c = on_err c.from_residual.result refl

pub returns-then-len-longest_text-clause-verdict : goal.returns-then-len-longest_text-clause-verdict
returns-then-len-longest_text-clause-verdict g c =
    let same : c.in_ok-text.text.items ≡ gen_source c.args.size = c.in_ok-text.ensures in
    let long : text_limit < length (gen_source c.args.size) =
    omega (arith, ap length same, c.if-len-longest_text.true, c.longest_text.ensures.is, c.len.ensures) in
    inl (too_long long)

pub returns-clause-verdict : goal.returns-clause-verdict
returns-clause-verdict g c =
    rw (c.deref.ensures.value ∙ c.in_ok-text.ensures) at c.target_of_text.ensures.verdict
