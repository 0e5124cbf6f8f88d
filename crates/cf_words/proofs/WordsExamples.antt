-- Worked examples of the command that words are.
use Rattle.std.proofs.Common.{◌≡◌, ℕ, List, refl, true, false, [], ◌∷◌, Some, None, codes}
use Rattle.std.specs.Fmt.{digits}
use Rattle.cf_print.specs.declared.language.Language.TheVariants.{C, Python, JavaScript, Rust}
use Rattle.cf_words.specs.Commands.{compile, run, pre, check, exec, prove, emit, goals, verify, gen, help, version}
use Rattle.cf_words.specs.Words.{command_of, is_flag, is_name, is_operand, may_be_read, most_size}
use Rattle.cf_words.specs.declared.command.ReplyForm.{ReplyForm}
use Rattle.cf_words.specs.declared.command.Strictness.TheVariants as strictness

-- nothing is asked of the replies
abbrev plain_form : ReplyForm
plain_form = record { key = false; jsonl = false }

no_flags : command_of (codes "run" ∷ codes "a" ∷ []) ≡ Some (run (record { plain = false; stats = false }) plain_form (codes "a"))
no_flags = refl

flag_before : command_of (codes "compile" ∷ codes "--plain" ∷ codes "a" ∷ []) ≡ Some (compile (record { plain = true; stats = false }) (codes "a"))
flag_before = refl

flag_after : command_of (codes "compile" ∷ codes "a" ∷ codes "--stats" ∷ []) ≡ Some (compile (record { plain = false; stats = true }) (codes "a"))
flag_after = refl

flags_around : command_of (codes "run" ∷ codes "--stats" ∷ codes "a" ∷ codes "--plain" ∷ [])
    ≡ Some (run (record { plain = true; stats = true }) plain_form (codes "a"))
flags_around = refl

plain_twice : command_of (codes "compile" ∷ codes "a" ∷ codes "--plain" ∷ codes "--plain" ∷ []) ≡ None
plain_twice = refl

stats_twice : command_of (codes "run" ∷ codes "--stats" ∷ codes "a" ∷ codes "--stats" ∷ []) ≡ None
stats_twice = refl

another_flag : command_of (codes "run" ∷ codes "--quiet" ∷ codes "a" ∷ []) ≡ None
another_flag = refl

flag_with_value : command_of (codes "run" ∷ codes "--plain=a" ∷ codes "a" ∷ []) ≡ None
flag_with_value = refl

flag_of_pre : command_of (codes "pre" ∷ codes "a" ∷ codes "--plain" ∷ []) ≡ None
flag_of_pre = refl

flag_of_check : command_of (codes "check" ∷ codes "--stats" ∷ codes "a" ∷ []) ≡ None
flag_of_check = refl

flag_of_exec : command_of (codes "exec" ∷ codes "--stats" ∷ codes "a" ∷ []) ≡ None
flag_of_exec = refl

flag_of_gen : command_of (codes "gen" ∷ codes "--plain" ∷ codes "7" ∷ []) ≡ None
flag_of_gen = refl

two_dashes : command_of (codes "run" ∷ codes "--" ∷ codes "a" ∷ []) ≡ None
two_dashes = refl

dash_in_a_name : command_of (codes "exec" ∷ codes "a-b" ∷ []) ≡ Some (exec plain_form (codes "a-b"))
dash_in_a_name = refl

no_words : command_of [] ≡ None
no_words = refl

another_word : command_of (codes "runs" ∷ codes "a" ∷ []) ≡ None
another_word = refl

help_is_no_command : command_of (codes "help" ∷ codes "run" ∷ []) ≡ None
help_is_no_command = refl

flag_first : command_of (codes "--plain" ∷ codes "run" ∷ codes "a" ∷ []) ≡ None
flag_first = refl

empty_name : command_of (codes "run" ∷ [] ∷ []) ≡ None
empty_name = refl

no_operand : command_of (codes "run" ∷ codes "--plain" ∷ []) ≡ None
no_operand = refl

two_operands : command_of (codes "pre" ∷ codes "a" ∷ codes "b" ∷ []) ≡ None
two_operands = refl

pre_file : command_of (codes "pre" ∷ codes "a" ∷ []) ≡ Some (pre (codes "a"))
pre_file = refl

check_file : command_of (codes "check" ∷ codes "a" ∷ []) ≡ Some (check strictness.Told (codes "a"))
check_file = refl

prove_file : command_of (codes "prove" ∷ codes "a" ∷ []) ≡ Some (prove (codes "a"))
prove_file = refl

prove_two_files : command_of (codes "prove" ∷ codes "a" ∷ codes "b" ∷ []) ≡ None
prove_two_files = refl

prove_nothing : command_of (codes "prove" ∷ []) ≡ None
prove_nothing = refl

flag_of_prove : command_of (codes "prove" ∷ codes "a" ∷ codes "--plain" ∷ []) ≡ None
flag_of_prove = refl

verify_files : command_of (codes "verify" ∷ codes "a" ∷ codes "b" ∷ []) ≡ Some (verify (codes "a") (codes "b"))
verify_files = refl

verify_one_file : command_of (codes "verify" ∷ codes "a" ∷ []) ≡ None
verify_one_file = refl

verify_three_files : command_of (codes "verify" ∷ codes "a" ∷ codes "b" ∷ codes "c" ∷ []) ≡ None
verify_three_files = refl

verify_nothing : command_of (codes "verify" ∷ []) ≡ None
verify_nothing = refl

plain_of_verify : command_of (codes "verify" ∷ codes "--plain" ∷ codes "a" ∷ codes "b" ∷ []) ≡ None
plain_of_verify = refl

stats_of_verify : command_of (codes "verify" ∷ codes "a" ∷ codes "b" ∷ codes "--stats" ∷ []) ≡ None
stats_of_verify = refl

flag_between_files : command_of (codes "verify" ∷ codes "a" ∷ codes "--stats" ∷ codes "b" ∷ []) ≡ None
flag_between_files = refl

empty_steps_name : command_of (codes "verify" ∷ codes "a" ∷ [] ∷ []) ≡ None
empty_steps_name = refl

files_named_verify : command_of (codes "verify" ∷ codes "verify" ∷ codes "verify" ∷ []) ≡ Some (verify (codes "verify") (codes "verify"))
files_named_verify = refl

file_named_run : command_of (codes "run" ∷ codes "run" ∷ []) ≡ Some (run (record { plain = false; stats = false }) plain_form (codes "run"))
file_named_run = refl

gen_least : command_of (codes "gen" ∷ codes "1" ∷ []) ≡ Some (gen 1)
unfolding most_size digits
gen_least = refl

gen_most : command_of (codes "gen" ∷ codes "100" ∷ []) ≡ Some (gen 100)
unfolding most_size digits
gen_most = refl

gen_nothing : command_of (codes "gen" ∷ codes "0" ∷ []) ≡ None
unfolding most_size digits
gen_nothing = refl

gen_past : command_of (codes "gen" ∷ codes "101" ∷ []) ≡ None
unfolding most_size digits
gen_past = refl

leading_zeros : command_of (codes "gen" ∷ codes "007" ∷ []) ≡ None
unfolding most_size digits
leading_zeros = refl

no_number : command_of (codes "gen" ∷ codes "x" ∷ []) ≡ None
unfolding most_size digits
no_number = refl

signed_number : command_of (codes "gen" ∷ codes "+7" ∷ []) ≡ None
unfolding most_size digits
signed_number = refl

gen_of_none : command_of (codes "gen" ∷ []) ≡ None
gen_of_none = refl

gen_of_two : command_of (codes "gen" ∷ codes "7" ∷ codes "8" ∷ []) ≡ None
gen_of_two = refl

-- ---- the flags of replies
key_of_run : command_of (codes "run" ∷ codes "--key" ∷ codes "a" ∷ [])
    ≡ Some (run (record { plain = false; stats = false }) (record { key = true; jsonl = false }) (codes "a"))
key_of_run = refl

jsonl_of_run : command_of (codes "run" ∷ codes "a" ∷ codes "--jsonl" ∷ [])
    ≡ Some (run (record { plain = false; stats = false }) (record { key = false; jsonl = true }) (codes "a"))
jsonl_of_run = refl

jsonl_and_plain : command_of (codes "run" ∷ codes "--jsonl" ∷ codes "a" ∷ codes "--plain" ∷ [])
    ≡ Some (run (record { plain = true; stats = false }) (record { key = false; jsonl = true }) (codes "a"))
jsonl_and_plain = refl

all_flags : command_of (codes "run" ∷ codes "--jsonl" ∷ codes "--stats" ∷ codes "a" ∷ codes "--plain" ∷ codes "--key" ∷ [])
    ≡ Some (run (record { plain = true; stats = true }) (record { key = true; jsonl = true }) (codes "a"))
all_flags = refl

key_of_exec : command_of (codes "exec" ∷ codes "a" ∷ codes "--key" ∷ []) ≡ Some (exec (record { key = true; jsonl = false }) (codes "a"))
key_of_exec = refl

jsonl_of_exec : command_of (codes "exec" ∷ codes "--jsonl" ∷ codes "a" ∷ []) ≡ Some (exec (record { key = false; jsonl = true }) (codes "a"))
jsonl_of_exec = refl

both_of_exec : command_of (codes "exec" ∷ codes "--jsonl" ∷ codes "a" ∷ codes "--key" ∷ []) ≡ Some (exec (record { key = true; jsonl = true }) (codes "a"))
both_of_exec = refl

jsonl_and_plain_of_exec : command_of (codes "exec" ∷ codes "--jsonl" ∷ codes "--plain" ∷ codes "a" ∷ []) ≡ None
jsonl_and_plain_of_exec = refl

plain_of_exec : command_of (codes "exec" ∷ codes "a" ∷ codes "--plain" ∷ []) ≡ None
plain_of_exec = refl

key_twice : command_of (codes "run" ∷ codes "--key" ∷ codes "a" ∷ codes "--key" ∷ []) ≡ None
key_twice = refl

jsonl_twice : command_of (codes "exec" ∷ codes "--jsonl" ∷ codes "--jsonl" ∷ codes "a" ∷ []) ≡ None
jsonl_twice = refl

key_twice_unread : may_be_read (codes "run" ∷ codes "--key" ∷ codes "a" ∷ codes "--key" ∷ []) ≡ false
key_twice_unread = refl

jsonl_twice_unread : may_be_read (codes "run" ∷ codes "--jsonl" ∷ codes "a" ∷ codes "--jsonl" ∷ []) ≡ false
jsonl_twice_unread = refl

key_with_value : command_of (codes "run" ∷ codes "--key=a" ∷ codes "a" ∷ []) ≡ None
key_with_value = refl

key_alone : command_of (codes "run" ∷ codes "--key" ∷ []) ≡ None
key_alone = refl

-- the commands that take neither
abbrev IsRefusedWith : List ℕ → List ℕ → Type 0
IsRefusedWith command word =
    (command_of (command ∷ word ∷ codes "1" ∷ []) ≡ None) × (command_of (command ∷ codes "1" ∷ word ∷ []) ≡ None)

key_refused : IsRefusedWith (codes "compile") (codes "--key") × IsRefusedWith (codes "pre") (codes "--key") × IsRefusedWith (codes "check") (codes "--key")
    × IsRefusedWith (codes "prove") (codes "--key") × IsRefusedWith (codes "gen") (codes "--key")
key_refused = ((refl, refl), (refl, refl), (refl, refl), (refl, refl), (refl, refl))

jsonl_refused : IsRefusedWith (codes "compile") (codes "--jsonl") × IsRefusedWith (codes "pre") (codes "--jsonl")
    × IsRefusedWith (codes "check") (codes "--jsonl") × IsRefusedWith (codes "prove") (codes "--jsonl") × IsRefusedWith (codes "gen") (codes "--jsonl")
jsonl_refused = ((refl, refl), (refl, refl), (refl, refl), (refl, refl), (refl, refl))

stats_refused : IsRefusedWith (codes "exec") (codes "--stats") × IsRefusedWith (codes "pre") (codes "--stats") × IsRefusedWith (codes "check") (codes "--stats")
    × IsRefusedWith (codes "prove") (codes "--stats") × IsRefusedWith (codes "gen") (codes "--stats")
stats_refused = ((refl, refl), (refl, refl), (refl, refl), (refl, refl), (refl, refl))

key_of_verify : command_of (codes "verify" ∷ codes "a" ∷ codes "b" ∷ codes "--key" ∷ []) ≡ None
key_of_verify = refl

jsonl_for_steps : command_of (codes "verify" ∷ codes "a" ∷ codes "--jsonl" ∷ []) ≡ None
jsonl_for_steps = refl

-- ---- the flags of `check`
strict_check : command_of (codes "check" ∷ codes "--strict" ∷ codes "a" ∷ []) ≡ Some (check strictness.Existing (codes "a"))
strict_check = refl

strict_behind_the_file : command_of (codes "check" ∷ codes "a" ∷ codes "--strict" ∷ []) ≡ Some (check strictness.Existing (codes "a"))
strict_behind_the_file = refl

strict_and_unique : command_of (codes "check" ∷ codes "--strict" ∷ codes "--unique" ∷ codes "a" ∷ []) ≡ Some (check strictness.Unique (codes "a"))
strict_and_unique = refl

unique_before_strict : command_of (codes "check" ∷ codes "--unique" ∷ codes "-" ∷ codes "--strict" ∷ []) ≡ Some (check strictness.Unique (codes "-"))
unique_before_strict = refl

unique_alone : (command_of (codes "check" ∷ codes "--unique" ∷ codes "a" ∷ []) ≡ None) × (command_of (codes "check" ∷ codes "a" ∷ codes "--unique" ∷ []) ≡ None)
unique_alone = (refl, refl)

strict_twice : (command_of (codes "check" ∷ codes "--strict" ∷ codes "a" ∷ codes "--strict" ∷ []) ≡ None)
    × (may_be_read (codes "check" ∷ codes "--strict" ∷ codes "a" ∷ codes "--strict" ∷ []) ≡ false)
strict_twice = (refl, refl)

unique_twice : (command_of (codes "check" ∷ codes "--strict" ∷ codes "--unique" ∷ codes "--unique" ∷ codes "a" ∷ []) ≡ None)
    × (may_be_read (codes "check" ∷ codes "--strict" ∷ codes "--unique" ∷ codes "--unique" ∷ codes "a" ∷ []) ≡ false)
unique_twice = (refl, refl)

strict_and_plain : command_of (codes "check" ∷ codes "--strict" ∷ codes "--plain" ∷ codes "a" ∷ []) ≡ None
strict_and_plain = refl

strict_and_jsonl : command_of (codes "check" ∷ codes "--strict" ∷ codes "a" ∷ codes "--jsonl" ∷ []) ≡ None
strict_and_jsonl = refl

strict_with_value : command_of (codes "check" ∷ codes "--strict=a" ∷ codes "a" ∷ []) ≡ None
strict_with_value = refl

strict_alone : command_of (codes "check" ∷ codes "--strict" ∷ []) ≡ None
strict_alone = refl

strict_refused : IsRefusedWith (codes "compile") (codes "--strict") × IsRefusedWith (codes "run") (codes "--strict")
    × IsRefusedWith (codes "pre") (codes "--strict") × IsRefusedWith (codes "exec") (codes "--strict") × IsRefusedWith (codes "prove") (codes "--strict")
    × IsRefusedWith (codes "gen") (codes "--strict")
strict_refused = ((refl, refl), (refl, refl), (refl, refl), (refl, refl), (refl, refl), (refl, refl))

unique_refused : IsRefusedWith (codes "compile") (codes "--unique") × IsRefusedWith (codes "run") (codes "--unique")
    × IsRefusedWith (codes "pre") (codes "--unique") × IsRefusedWith (codes "exec") (codes "--unique") × IsRefusedWith (codes "prove") (codes "--unique")
    × IsRefusedWith (codes "gen") (codes "--unique")
unique_refused = ((refl, refl), (refl, refl), (refl, refl), (refl, refl), (refl, refl), (refl, refl))

strict_of_verify : (command_of (codes "verify" ∷ codes "a" ∷ codes "b" ∷ codes "--strict" ∷ []) ≡ None)
    × (command_of (codes "verify" ∷ codes "--strict" ∷ codes "a" ∷ []) ≡ None)
strict_of_verify = (refl, refl)

-- ---- standard input as the file
dash_to_compile : command_of (codes "compile" ∷ codes "-" ∷ []) ≡ Some (compile (record { plain = false; stats = false }) (codes "-"))
dash_to_compile = refl

dash_among_flags : command_of (codes "compile" ∷ codes "--plain" ∷ codes "-" ∷ codes "--stats" ∷ [])
    ≡ Some (compile (record { plain = true; stats = true }) (codes "-"))
dash_among_flags = refl

dash_to_pre : command_of (codes "pre" ∷ codes "-" ∷ []) ≡ Some (pre (codes "-"))
dash_to_pre = refl

dash_to_check : command_of (codes "check" ∷ codes "-" ∷ []) ≡ Some (check strictness.Told (codes "-"))
dash_to_check = refl

dash_to_prove : command_of (codes "prove" ∷ codes "-" ∷ []) ≡ Some (prove (codes "-"))
dash_to_prove = refl

dash_to_run : command_of (codes "run" ∷ codes "-" ∷ []) ≡ None
dash_to_run = refl

dash_to_run_with_key : command_of (codes "run" ∷ codes "--key" ∷ codes "-" ∷ []) ≡ None
dash_to_run_with_key = refl

dash_to_exec : command_of (codes "exec" ∷ codes "-" ∷ []) ≡ None
dash_to_exec = refl

dash_to_gen : command_of (codes "gen" ∷ codes "-" ∷ []) ≡ None
unfolding most_size digits
dash_to_gen = refl

dash_to_verify : (command_of (codes "verify" ∷ codes "-" ∷ codes "a" ∷ []) ≡ None) × (command_of (codes "verify" ∷ codes "a" ∷ codes "-" ∷ []) ≡ None)
    × (command_of (codes "verify" ∷ codes "-" ∷ codes "-" ∷ []) ≡ None)
dash_to_verify = (refl, refl, refl)

dash_and_a_file : command_of (codes "compile" ∷ codes "-" ∷ codes "a" ∷ []) ≡ None
dash_and_a_file = refl

dash_first : command_of (codes "-" ∷ codes "compile" ∷ []) ≡ None
dash_first = refl

dash_and_more : command_of (codes "compile" ∷ codes "-a" ∷ []) ≡ None
dash_and_more = refl

dash_may_be_read : may_be_read (codes "run" ∷ codes "-" ∷ []) ≡ true
dash_may_be_read = refl

dash_is_no_name : (is_operand (codes "-") ≡ true) × (is_name (codes "-") ≡ false) × (is_flag (codes "-") ≡ false)
dash_is_no_name = (refl, refl, refl)

-- ---- words about the program
help_is_told : command_of (codes "--help" ∷ []) ≡ Some help
help_is_told = refl

short_help_is_told : command_of (codes "-h" ∷ []) ≡ Some help
short_help_is_told = refl

version_is_told : command_of (codes "--version" ∷ []) ≡ Some version
version_is_told = refl

help_may_be_read : may_be_read (codes "--help" ∷ []) ≡ true
help_may_be_read = refl

command_may_be_read : may_be_read (codes "run" ∷ codes "a" ∷ []) ≡ true
command_may_be_read = refl

another_dash_may_not_be_read : may_be_read (codes "-V" ∷ []) ≡ false
another_dash_may_not_be_read = refl

help_of_run : command_of (codes "run" ∷ codes "--help" ∷ []) ≡ None
help_of_run = refl

help_before_run : command_of (codes "--help" ∷ codes "run" ∷ []) ≡ None
help_before_run = refl

help_twice : command_of (codes "--help" ∷ codes "--help" ∷ []) ≡ None
help_twice = refl

short_version : command_of (codes "-V" ∷ []) ≡ None
short_version = refl

-- ---- emit
emit_c : command_of (codes "emit" ∷ codes "c" ∷ codes "a" ∷ []) ≡ Some (emit (record { language = C; has_main = false; name = codes "answer" }) (codes "a"))
emit_c = refl

emit_python : command_of (codes "emit" ∷ codes "python" ∷ codes "a" ∷ codes "--main" ∷ [])
    ≡ Some (emit (record { language = Python; has_main = true; name = codes "answer" }) (codes "a"))
emit_python = refl

emit_js : command_of (codes "emit" ∷ codes "--main" ∷ codes "js" ∷ codes "--name" ∷ codes "total_2" ∷ codes "a" ∷ [])
    ≡ Some (emit (record { language = JavaScript; has_main = true; name = codes "total_2" }) (codes "a"))
emit_js = refl

emit_rust : command_of (codes "emit" ∷ codes "rust" ∷ codes "a" ∷ codes "--name" ∷ codes "whole" ∷ [])
    ≡ Some (emit (record { language = Rust; has_main = false; name = codes "whole" }) (codes "a"))
emit_rust = refl

emit_name_first : command_of (codes "emit" ∷ codes "--name" ∷ codes "seconds" ∷ codes "c" ∷ codes "a" ∷ [])
    ≡ Some (emit (record { language = C; has_main = false; name = codes "seconds" }) (codes "a"))
emit_name_first = refl

emit_a_file_named_emit : command_of (codes "emit" ∷ codes "c" ∷ codes "emit" ∷ [])
    ≡ Some (emit (record { language = C; has_main = false; name = codes "answer" }) (codes "emit"))
emit_a_file_named_emit = refl

emit_of_the_input : command_of (codes "emit" ∷ codes "js" ∷ codes "-" ∷ [])
    ≡ Some (emit (record { language = JavaScript; has_main = false; name = codes "answer" }) (codes "-"))
emit_of_the_input = refl

emit_exchanged : command_of (codes "emit" ∷ codes "a" ∷ codes "c" ∷ []) ≡ None
emit_exchanged = refl

emit_in_another_language : command_of (codes "emit" ∷ codes "java" ∷ codes "a" ∷ []) ≡ None
emit_in_another_language = refl

emit_goals_of_a_file : command_of (codes "emit" ∷ codes "smt" ∷ codes "a" ∷ []) ≡ Some (goals (codes "a"))
emit_goals_of_a_file = refl

emit_goals_with_main : command_of (codes "emit" ∷ codes "smt" ∷ codes "a" ∷ codes "--main" ∷ []) ≡ None
emit_goals_with_main = refl

-- also where it is the usual name
emit_goals_with_name : command_of (codes "emit" ∷ codes "--name" ∷ codes "answer" ∷ codes "smt" ∷ codes "a" ∷ []) ≡ None
emit_goals_with_name = refl

emit_without_file : command_of (codes "emit" ∷ codes "c" ∷ []) ≡ None
emit_without_file = refl

emit_alone : command_of (codes "emit" ∷ []) ≡ None
emit_alone = refl

emit_two_files : command_of (codes "emit" ∷ codes "c" ∷ codes "a" ∷ codes "b" ∷ []) ≡ None
emit_two_files = refl

emit_main_twice : command_of (codes "emit" ∷ codes "--main" ∷ codes "c" ∷ codes "a" ∷ codes "--main" ∷ []) ≡ None
emit_main_twice = refl

emit_name_twice : command_of (codes "emit" ∷ codes "c" ∷ codes "a" ∷ codes "--name" ∷ codes "b" ∷ codes "--name" ∷ codes "b" ∷ []) ≡ None
emit_name_twice = refl

emit_no_name : command_of (codes "emit" ∷ codes "c" ∷ codes "a" ∷ codes "--name" ∷ []) ≡ None
emit_no_name = refl

emit_flag_for_a_name : command_of (codes "emit" ∷ codes "c" ∷ codes "a" ∷ codes "--name" ∷ codes "--main" ∷ []) ≡ None
emit_flag_for_a_name = refl

emit_empty_name : command_of (codes "emit" ∷ codes "c" ∷ codes "a" ∷ codes "--name" ∷ [] ∷ []) ≡ None
emit_empty_name = refl

emit_dash_for_a_name : command_of (codes "emit" ∷ codes "c" ∷ codes "a" ∷ codes "--name" ∷ codes "-" ∷ []) ≡ None
emit_dash_for_a_name = refl

emit_digit_first : command_of (codes "emit" ∷ codes "c" ∷ codes "a" ∷ codes "--name" ∷ codes "2b" ∷ []) ≡ None
emit_digit_first = refl

emit_dot_in_a_name : command_of (codes "emit" ∷ codes "c" ∷ codes "a" ∷ codes "--name" ∷ codes "a.b" ∷ []) ≡ None
emit_dot_in_a_name = refl

emit_reserved_name : command_of (codes "emit" ∷ codes "c" ∷ codes "a" ∷ codes "--name" ∷ codes "while" ∷ []) ≡ None
emit_reserved_name = refl

-- a word that a printed program has for itself, and the name of a part
emit_name_of_a_helper : command_of (codes "emit" ∷ codes "python" ∷ codes "a" ∷ codes "--name" ∷ codes "fit" ∷ []) ≡ None
emit_name_of_a_helper = refl

emit_word_of_rust : command_of (codes "emit" ∷ codes "rust" ∷ codes "a" ∷ codes "--name" ∷ codes "match" ∷ []) ≡ None
emit_word_of_rust = refl

emit_name_of_a_part : command_of (codes "emit" ∷ codes "js" ∷ codes "a" ∷ codes "--name" ∷ codes "choose_1" ∷ []) ≡ None
emit_name_of_a_part = refl

emit_a_name_of_another_language : command_of (codes "emit" ∷ codes "js" ∷ codes "a" ∷ codes "--name" ∷ codes "def" ∷ [])
    ≡ Some (emit (record { language = JavaScript; has_main = false; name = codes "def" }) (codes "a"))
emit_a_name_of_another_language = refl

emit_plain : command_of (codes "emit" ∷ codes "c" ∷ codes "a" ∷ codes "--plain" ∷ []) ≡ None
emit_plain = refl

emit_jsonl : command_of (codes "emit" ∷ codes "--jsonl" ∷ codes "c" ∷ codes "a" ∷ []) ≡ None
emit_jsonl = refl

emit_name_attached : command_of (codes "emit" ∷ codes "c" ∷ codes "a" ∷ codes "--name=b" ∷ []) ≡ None
emit_name_attached = refl

main_of_compile : command_of (codes "compile" ∷ codes "a" ∷ codes "--main" ∷ []) ≡ None
main_of_compile = refl

name_of_run : command_of (codes "run" ∷ codes "--name" ∷ codes "a" ∷ []) ≡ None
name_of_run = refl

-- its words may be read, whatever they ask
emit_may_be_read : may_be_read (codes "emit" ∷ codes "smt" ∷ codes "--main" ∷ codes "a" ∷ []) ≡ true
emit_may_be_read = refl

emit_may_not_be_read : may_be_read (codes "emit" ∷ codes "c" ∷ codes "--plain" ∷ codes "a" ∷ []) ≡ false
emit_may_not_be_read = refl
