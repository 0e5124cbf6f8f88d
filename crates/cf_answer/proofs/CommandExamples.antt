-- Each command: the files that it reads, whether it reads the input, and what it does with the passes; each status: whether it comes early.
use Rattle.std.proofs.Common.{◌≡◌, inl, inr, ℕ, Bool, true, false, List, [], ◌∷◌, refl, arith, codes}
use Rattle.cf_pass.specs.Passes.{Told}
use Rattle.cf_print.specs.declared.language.Language.TheVariants.{C, Python}
use Rattle.cf_words.specs.Commands.{Emitting, compile, run, pre, check, exec, prove, emit, goals, verify, gen, help, version}
use Rattle.cf_words.specs.declared.command.Flags.{Flags}
use Rattle.cf_words.specs.declared.command.ReplyForm.{ReplyForm}
use Rattle.cf_words.specs.declared.command.Strictness.TheVariants as strictness
use Rattle.cf_answer.specs.Commands.{names_of, reads_input, calls_passes, tells_tallies}
use Rattle.cf_answer.specs.Ends.{input_for}
use Rattle.cf_answer.specs.Passes.{ArePassed}
use Rattle.cf_answer.specs.Statuses.{IsEarly}
use Rattle.cf_answer.specs.declared.status.Status.TheVariants.{Done, Usage, File, Input, Output, Text}
use Rattle.cf_answer.specs.declared.status.Status.TheVariants.{Types, NotLinear, Past, Limit, InputLong, NoMemory, Rejected, AnswersNo, AnswersUndecided}

abbrev form : ReplyForm
form = record { key = false; jsonl = false }

abbrev flags : Bool → Bool → Flags
flags plain stats = record { plain = plain; stats = stats }

abbrev in_c : Emitting
in_c = record { language = C; has_main = false; name = codes "answer" }

abbrev in_python : Emitting
in_python = record { language = Python; has_main = true; name = codes "answer" }

abbrev a : List ℕ
a = codes "a"

abbrev b : List ℕ
b = codes "b"

-- ---- files
one-name : (names_of (compile (flags false false) a) ≡ a ∷ []) × (names_of (run (flags false false) form a) ≡ a ∷ []) × (names_of (pre a) ≡ a ∷ [])
    × (names_of (check strictness.Told a) ≡ a ∷ []) × (names_of (exec form a) ≡ a ∷ []) × (names_of (prove a) ≡ a ∷ [])
one-name = (refl, refl, refl, refl, refl, refl)

name-of_emit : (names_of (emit in_c a) ≡ a ∷ []) × (names_of (emit in_python a) ≡ a ∷ [])
name-of_emit = (refl, refl)

name-of_goals : names_of (goals a) ≡ a ∷ []
name-of_goals = refl

two-names : names_of (verify a b) ≡ a ∷ b ∷ []
two-names = refl

no-name : (names_of (gen 7) ≡ []) × (names_of help ≡ []) × (names_of version ≡ [])
no-name = (refl, refl, refl)

-- ---- the input
read-by : (reads_input (run (flags true true) form a) ≡ true) × (reads_input (exec form a) ≡ true)
read-by = (refl, refl)

unread-by : (reads_input (compile (flags false false) a) ≡ false) × (reads_input (pre a) ≡ false) × (reads_input (check strictness.Told a) ≡ false)
    × (reads_input (prove a) ≡ false) × (reads_input (verify a b) ≡ false) × (reads_input (gen 7) ≡ false)
    × (reads_input help ≡ false) × (reads_input version ≡ false)
unread-by = (refl, refl, refl, refl, refl, refl, refl, refl)

unread-by_emit : (reads_input (emit in_c a) ≡ false) × (reads_input (emit in_python a) ≡ false)
unread-by_emit = (refl, refl)

unread-by_goals : reads_input (goals a) ≡ false
unread-by_goals = refl

exec-is_given_it : input_for (exec form a) (codes "1\n") ≡ codes "1\n"
exec-is_given_it = refl

-- ---- passes
called-by : (calls_passes (compile (flags false true) a) ≡ true) × (calls_passes (run (flags false true) form a) ≡ true) × (calls_passes (gen 7) ≡ true)
called-by = (refl, refl, refl)

called-by_emit : (calls_passes (emit in_c a) ≡ true) × (tells_tallies (emit in_c a) ≡ false)
called-by_emit = (refl, refl)

uncalled-by_goals : (calls_passes (goals a) ≡ false) × (tells_tallies (goals a) ≡ false)
uncalled-by_goals = (refl, refl)

uncalled-by : (calls_passes (compile (flags true false) a) ≡ false) × (calls_passes (run (flags true false) form a) ≡ false) × (calls_passes (pre a) ≡ false)
    × (calls_passes (check strictness.Told a) ≡ false) × (calls_passes (exec form a) ≡ false) × (calls_passes (prove a) ≡ false) ×
    (calls_passes (verify a b) ≡ false)
    × (calls_passes help ≡ false) × (calls_passes version ≡ false)
uncalled-by = (refl, refl, refl, refl, refl, refl, refl, refl, refl)

tallies-told : (tells_tallies (compile (flags true true) a) ≡ true) × (tells_tallies (run (flags false true) form a) ≡ true)
tallies-told = (refl, refl)

tallies-untold : (tells_tallies (compile (flags true false) a) ≡ false) × (tells_tallies (run (flags true false) form a) ≡ false)
    × (tells_tallies (pre a) ≡ false) × (tells_tallies (check strictness.Told a) ≡ false) × (tells_tallies (exec form a) ≡ false) ×
    (tells_tallies (prove a) ≡ false)
    × (tells_tallies (verify a b) ≡ false) × (tells_tallies (gen 7) ≡ false) × (tells_tallies help ≡ false) × (tells_tallies version ≡ false)
tallies-untold = (refl, refl, refl, refl, refl, refl, refl, refl, refl, refl)

-- a command that calls none leaves them
kept-uncalled : (ArePassed false [] []) × (ArePassed false [] (record { name = a; tally = 0; turns = 1; makes = λ n c. c; whole = true } ∷ []) → ⊥)
kept-uncalled = (refl, λ h. cc h)

-- a command that calls them has called each once, or none
abbrev pass : ℕ → Told
pass turns = record { name = a; tally = 2; turns = turns; makes = λ n c. c; whole = true }

called-or_kept : ArePassed true (pass 3 ∷ []) (pass 4 ∷ []) × ArePassed true (pass 3 ∷ []) (pass 3 ∷ [])
called-or_kept = (inl (record { name = refl; tally = omega arith; turns = refl }, tt), inr refl)

-- ---- statuses after which the input and `out` are as before
early : IsEarly Usage × IsEarly File × IsEarly Text × IsEarly Types × IsEarly NotLinear × IsEarly Past × IsEarly Limit × IsEarly Rejected
early = (tt, tt, tt, tt, tt, tt, tt, tt)

late : (IsEarly Done → ⊥) × (IsEarly Input → ⊥) × (IsEarly Output → ⊥) × (IsEarly InputLong → ⊥) × (IsEarly NoMemory → ⊥)
    × (IsEarly AnswersNo → ⊥) × (IsEarly AnswersUndecided → ⊥)
late = ((λ h. h), (λ h. h), (λ h. h), (λ h. h), (λ h. h), (λ h. h), λ h. h)
