-- Worked examples of what `prove` and `verify` write.
use Rattle.std.proofs.Common.{◌≡◌, refl, [], ◌∷◌, flat_map, codes}
use Rattle.std.specs.Prelude.{Err}
use Rattle.std.specs.Fmt.{digits}
use Rattle.cf_num.specs.Divisors.{gcd_by, factors_by}
use Rattle.cf_num.specs.Parts.{parts_of}
use Rattle.cf_linear.specs.declared.refusal.LimitKind.TheVariants as kind
use Rattle.cf_linear.specs.declared.refusal.Refusal.TheVariants as refusal
use Rattle.cf_linear.specs.Cases.{disjuncts, system_of_case, first_systems, write_atom}
use Rattle.cf_linear.specs.Stages.{run, run_for, clean_stage, equation_stage, bound_stage, unknown_stage, row_stage, stage}
use Rattle.cf_linear.specs.Steps.{clean, pick, searched, dropped, searched_by, bound, bound_passes}
use Rattle.cf_build.specs.Chooses.{solve_of}
use Rattle.cf_emit.specs.Printed.{code_text}
use Rattle.cf_steps.specs.Printed.{cases_text}
use Rattle.cf_cert.specs.declared.verdict.Why.TheVariants as why
use Rattle.cf_elim.specs.Acts.{traced, acts_for, acts_at}
use Rattle.cf_prove.specs.Tracing.{traced_block}
use Rattle.cf_answer.specs.Certificates.{verified_line}
use Rattle.cf_answer.specs.Statuses.{code_of, status_of}
use Rattle.cf_answer.specs.Texts.{answer_line}
use Rattle.cf_answer.specs.declared.fault.Fault.TheVariants as fault
use Rattle.cf_answer.specs.declared.fault.StepsFault.TheVariants as steps_fault
use Rattle.cf_answer.proofs.PreExamples.{rounding}

-- ---- what prove writes
rounding_steps : cases_text (traced_block rounding).cases ≡ codes "case {\nclean;\ndrop 3;\nclean;\n}\n"
unfolding traced acts_for acts_at first_systems disjuncts system_of_case write_atom run run_for stage clean_stage equation_stage bound_stage unknown_stage
    row_stage clean pick searched dropped searched_by bound bound_passes gcd_by factors_by parts_of digits
rounding_steps = refl

rounding_code : code_text (traced_block rounding).target.code ≡ code_text (solve_of rounding)
rounding_code = refl

-- ---- what verify writes
two_verified : flat_map verified_line (rounding ∷ record rounding { number = 12 } ∷ []) ≡ codes "choose 1: verified\nchoose 12: verified\n"
unfolding digits
two_verified = refl

-- ---- steps that are refused
steps_too_long : answer_line (Err (fault.Steps steps_fault.TooLong)) ≡ codes "steps text too long\n"
steps_too_long = refl

steps_bad_byte : answer_line (Err (fault.Steps (steps_fault.BadByte (record { line = 2; column = 7 })))) ≡ codes "steps line 2 column 7: bad byte\n"
unfolding digits
steps_bad_byte = refl

steps_number_past : answer_line (Err (fault.Steps (steps_fault.NumberPast (record { line = 12; column = 1 })))) ≡
    codes "steps line 12 column 1: number past limit\n"
unfolding digits
steps_number_past = refl

steps_syntax : answer_line (Err (fault.Steps (steps_fault.Syntax (record { line = 1; column = 10 })))) ≡ codes "steps line 1 column 10: syntax\n"
unfolding digits
steps_syntax = refl

source_syntax : answer_line (Err (fault.Syntax (record { line = 1; column = 10 }))) ≡ codes "line 1 column 10: syntax\n"
unfolding digits
source_syntax = refl

steps_status : code_of (status_of (Err (fault.Steps (steps_fault.Syntax (record { line = 1; column = 1 }))))) ≡ 6
steps_status = refl

-- ---- steps that are rejected
without_its_clean : answer_line (Err (fault.Rejected 1 1 1 why.Exact)) ≡ codes "choose 1: rejected at case 1 step 1: pair without coefficient 1\n"
unfolding digits
without_its_clean = refl

without_a_block : answer_line (Err (fault.Rejected 1 0 0 why.Blocks)) ≡ codes "choose 1: rejected at case 0 step 0: wrong blocks\n"
unfolding digits
without_a_block = refl

too_many_tuples : answer_line (Err (fault.Rejected 3 2 10 (why.Refused (refusal.Limit kind.Search 2097152)))) ≡
    codes "choose 3: rejected at case 2 step 10: Search 2097152\n"
unfolding digits
too_many_tuples = refl

past_in_a_mix : answer_line (Err (fault.Rejected 1 1 2 (why.Refused refusal.Past))) ≡ codes "choose 1: rejected at case 1 step 2: coefficient past 128 bits\n"
unfolding digits
past_in_a_mix = refl

no_unknown : answer_line (Err (fault.Rejected 1 1 1 why.Unknown)) ≡ codes "choose 1: rejected at case 1 step 1: not an unknown\n"
unfolding digits
no_unknown = refl

no_inverse : answer_line (Err (fault.Rejected 1 1 1 why.Factor)) ≡ codes "choose 1: rejected at case 1 step 1: not invertible\n"
unfolding digits
no_inverse = refl

two_unknowns : answer_line (Err (fault.Rejected 1 1 1 why.Single)) ≡ codes "choose 1: rejected at case 1 step 1: not one unknown\n"
unfolding digits
two_unknowns = refl

in_an_equation : answer_line (Err (fault.Rejected 1 1 1 why.Held)) ≡ codes "choose 1: rejected at case 1 step 1: held by an equation\n"
unfolding digits
in_an_equation = refl

too_few_steps : answer_line (Err (fault.Rejected 1 1 4 why.Left)) ≡ codes "choose 1: rejected at case 1 step 4: not finished\n"
unfolding digits
too_few_steps = refl

another_code : answer_line (Err (fault.Rejected 1 0 0 why.Code)) ≡ codes "choose 1: rejected at case 0 step 0: code differs\n"
unfolding digits
another_code = refl

rejected_status : code_of (status_of (Err (fault.Rejected 1 0 0 why.Code))) ≡ 13
rejected_status = refl
