-- Which commands answer lines, and what an opened program owes, worked out.
use Rattle.std.proofs.Common.{◌≡◌, refl, ℕ, true, false, List, [], ◌∷◌, codes}
use Rattle.std.specs.Prelude.{Some, None}
use Rattle.cf_words.specs.Commands.{Emitting, compile, run, pre, check, exec, prove, emit, goals, verify, gen, help, version}
use Rattle.cf_words.specs.declared.command.Flags.{Flags}
use Rattle.cf_words.specs.declared.command.ReplyForm.{ReplyForm}
use Rattle.cf_words.specs.declared.command.Strictness.TheVariants as strictness
use Rattle.cf_answer.specs.Owed.{Replier, AreReplies, Owes}
use Rattle.cf_answer.specs.declared.fault.Fault.TheVariants as fault
use Rattle.cf_lines.specs.Opening.{answers_lines, RepliesFor, IsUnasked}

abbrev none : Flags
none = record { plain = false; stats = false }

abbrev tallies : Flags
tallies = record { plain = true; stats = true }

abbrev as_text : ReplyForm
as_text = record { key = false; jsonl = false }

abbrev as_keyed_json : ReplyForm
as_keyed_json = record { key = true; jsonl = true }

-- `run` without tallies, and `exec`, in each form
run_answers : answers_lines (run none as_text (codes "f")) ≡ true
run_answers = refl

plain_answers : answers_lines (run (record { plain = true; stats = false }) as_keyed_json (codes "f")) ≡ true
plain_answers = refl

exec_answers : answers_lines (exec as_keyed_json (codes "f")) ≡ true
exec_answers = refl

-- tallies stand behind all replies, and no line is the last
tallies_do_not : answers_lines (run tallies as_text (codes "f")) ≡ false
tallies_do_not = refl

-- no other command has a reply to a line
compile_does_not : answers_lines (compile none (codes "f")) ≡ false
compile_does_not = refl

check_does_not : answers_lines (check strictness.Told (codes "f")) ≡ false
check_does_not = refl

pre_does_not : answers_lines (pre (codes "f")) ≡ false
pre_does_not = refl

prove_does_not : answers_lines (prove (codes "f")) ≡ false
prove_does_not = refl

emit_does_not : (e : Emitting) → answers_lines (emit e (codes "f")) ≡ false
emit_does_not e = refl

goals_do_not : answers_lines (goals (codes "f")) ≡ false
goals_do_not = refl

verify_does_not : answers_lines (verify (codes "f") (codes "s")) ≡ false
verify_does_not = refl

gen_does_not : answers_lines (gen 3) ≡ false
gen_does_not = refl

help_does_not : answers_lines help ≡ false
help_does_not = refl

-- words that ask for something else are shown how the program is called, and those of `run` are not
compile_is_unasked : IsUnasked (Some (compile none (codes "f"))) fault.Usage
compile_is_unasked = refl

nothing_is_unasked : IsUnasked None fault.Usage
nothing_is_unasked = tt

run_is_asked : IsUnasked (Some (run none as_text (codes "f"))) fault.Usage → ⊥
run_is_asked e = cc

-- a fault of a file is none of the words
file_is_no_fault_of_words : IsUnasked None fault.File → ⊥
file_is_no_fault_of_words e = e

-- what is opened owes the replies to all lines together, also to none
none_owed : (files : List (List ℕ)) (r : Replier) → RepliesFor (exec as_text (codes "f")) files [] [] r → Owes (exec as_text (codes "f")) files [] [] [] []
none_owed files r is = is [] [] refl
