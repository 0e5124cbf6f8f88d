-- Worked examples of the definitions.
use Rattle.std.proofs.Common.{◌≡◌, inl, inr, ap, refl, ℕ, ◌-◌, ◌^◌, true, false, List, [], ◌∷◌, Some, arith, codes}
use Rattle.std.specs.Fmt.{digits}
use Rattle.std.specs.Prelude.{Ok, Err}
use Rattle.cf_io.specs.Limits.{input_limit}
use Rattle.cf_program.specs.declared.fault.TypeFault.TheVariants as rule
use Rattle.cf_linear.specs.declared.refusal.LimitKind.TheVariants as kind
use Rattle.cf_linear.specs.declared.refusal.Refusal.TheVariants as refusal
use Rattle.cf_pass.specs.Passes.{Told}
use Rattle.cf_words.specs.Commands.{compile, run, pre, exec, verify, gen}
use Rattle.cf_words.specs.declared.command.ReplyForm.{ReplyForm}
use Rattle.cf_answer.specs.Commands.{names_of, reads_input, calls_passes}
use Rattle.cf_answer.specs.Ends.{input_for, answered_lines, behind_lines}
use Rattle.cf_answer.specs.Passes.{AreCalled, ArePassed, applied, closing}
use Rattle.cf_answer.specs.Statuses.{code_of, status_of}
use Rattle.cf_answer.specs.Texts.{answer_line}
use Rattle.cf_answer.specs.declared.fault.Fault.TheVariants as fault

abbrev form : ReplyForm
form = record { key = false; jsonl = false }

-- passes that tell this
abbrev fold : ℕ → ℕ → Told
fold tally turns = record { name = codes "fold"; tally = tally; turns = turns; makes = λ n c. c; whole = true }

abbrev drop_needs : ℕ → ℕ → Told
drop_needs tally turns = record { name = codes "drop-needs"; tally = tally; turns = turns; makes = λ n c. c; whole = true }

abbrev two_passes : List Told
two_passes = fold 12 3 ∷ drop_needs 0 0 ∷ []

tallies : closing (run (record { plain = true; stats = true }) form (codes "a")) two_passes ≡ codes "# fold 12\n# drop-needs 0\n"
unfolding digits
tallies = refl

no_tallies : closing (compile (record { plain = false; stats = false }) (codes "a")) two_passes ≡ []
no_tallies = refl

pre_closes_with_nothing : closing (pre (codes "a")) two_passes ≡ []
pre_closes_with_nothing = refl

-- each had one turn more, and the second has replaced one unit
one_more_unit : AreCalled true two_passes (fold 12 4 ∷ drop_needs 1 1 ∷ [])
one_more_unit = (record { name = refl; tally = omega arith; turns = refl }, (record { name = refl; tally = omega arith; turns = refl }, tt))

one_fewer_unit : AreCalled true two_passes (fold 11 4 ∷ drop_needs 0 1 ∷ []) → ⊥
one_fewer_unit h = omega (arith, h.0.tally)

another_name : AreCalled true two_passes (fold 12 4 ∷ record { name = codes "drop-lets"; tally = 0; turns = 1; makes = λ n c. c; whole = true } ∷ []) → ⊥
another_name h = let same : codes "drop-lets" ≡ codes "drop-needs" = h.1.0.name in cc

-- the second was not called; or it was called twice
one_left_out : AreCalled true two_passes (fold 12 4 ∷ drop_needs 0 0 ∷ []) → ⊥
one_left_out h = let same : 0 ≡ 1 = h.1.0.turns in omega (arith, same)

called_twice : AreCalled true two_passes (fold 12 4 ∷ drop_needs 0 2 ∷ []) → ⊥
called_twice h = let same : 2 ≡ 1 = h.1.0.turns in omega (arith, same)

one_fewer_pass : AreCalled true two_passes (fold 12 4 ∷ []) → ⊥
one_fewer_pass h = h.1

-- a count that stands at its last value stays
last_turn : AreCalled true (fold 0 (2 ^ 64 - 1) ∷ []) (fold 0 (2 ^ 64 - 1) ∷ [])
last_turn = (record { name = refl; tally = omega arith; turns = omega arith }, tt)

-- the turns of the first
abbrev first_turns : List Told → ℕ
first_turns [] = 0
first_turns (p ∷ ps) = p.turns

none_is_called : AreCalled false two_passes (fold 12 4 ∷ drop_needs 0 0 ∷ []) → ⊥
none_is_called h = let same : 4 ≡ 3 = ap first_turns h in omega (arith, same)

-- one was called, and the other was not
half_is_called : ArePassed true two_passes (fold 12 4 ∷ drop_needs 0 0 ∷ []) → ⊥
half_is_called (inl turned) = one_left_out turned
half_is_called (inr kept) = none_is_called kept

two_are_applied : applied true two_passes ≡ two_passes
two_are_applied = refl

none_is_applied : applied false two_passes ≡ []
none_is_applied = refl

run_calls_passes : calls_passes (run (record { plain = false; stats = false }) form (codes "a")) ≡ true
run_calls_passes = refl

plain_calls_none : calls_passes (run (record { plain = true; stats = true }) form (codes "a")) ≡ false
plain_calls_none = refl

two_names : names_of (verify (codes "a") (codes "b")) ≡ codes "a" ∷ codes "b" ∷ []
two_names = refl

no_names : names_of (gen 1) ≡ []
no_names = refl

gen_reads_none : reads_input (gen 1) ≡ false
gen_reads_none = refl

gen_calls_passes : calls_passes (gen 1) ≡ true
gen_calls_passes = refl

gen_tells_no_tallies : closing (gen 1) two_passes ≡ []
gen_tells_no_tallies = refl

exec_reads : reads_input (exec form (codes "a")) ≡ true
exec_reads = refl

verify_reads_none : reads_input (verify (codes "a") (codes "b")) ≡ false
verify_reads_none = refl

compile_reads_none : input_for (compile (record { plain = false; stats = false }) (codes "a")) (codes "1\n") ≡ []
compile_reads_none = refl

run_is_answered : answered_lines (Some input_limit) (input_for (run (record { plain = false; stats = false }) form (codes "a")) (codes "1\n2")) ≡ codes "1" ∷ codes
    "2" ∷ []
unfolding input_limit
run_is_answered = refl

closed_behind : behind_lines (Some input_limit) (codes "1\n2") (codes "# fold 1\n") ≡ codes "# fold 1\n"
unfolding input_limit
closed_behind = refl

done_is_silent : answer_line (Ok tt) ≡ []
done_is_silent = refl

search_status : code_of (status_of (Err (fault.Choose 1 (refusal.Limit kind.Search 2097152)))) ≡ 10
search_status = refl

past_status : code_of (status_of (Err (fault.Choose 1 refusal.Past))) ≡ 9
past_status = refl

linear_status : code_of (status_of (Err (fault.Rule (rule.NotLinear (record { line = 1; column = 1 }))))) ≡ 8
linear_status = refl
