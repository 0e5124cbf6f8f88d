-- The files that each command reads, whether it reads the input, what it does with the passes, and how much it takes and writes.
use Rattle.std.specs.Prelude.{ℕ, Bool, true, false, not, List, [], ◌∷◌, Option, None}
use Rattle.cf_answer.specs.Limits.{text_limit, written_limit, written_most, of_target, most_of}
use Rattle.cf_tree.specs.declared.base.Edition.{Edition}
use Rattle.cf_words.specs.Commands.{Command, compile, run, pre, check, exec, prove, emit, goals, verify, gen, help, version}

-- the names of the files that it reads, in order
abbrev pub names_of : Command → List (List ℕ)
names_of (compile flags file) = file ∷ []
names_of (run flags form file) = file ∷ []
names_of (pre file) = file ∷ []
names_of (check strictness file) = file ∷ []
names_of (exec form file) = file ∷ []
names_of (prove file) = file ∷ []
names_of (emit e file) = file ∷ []
names_of (goals file) = file ∷ []
names_of (verify file steps) = file ∷ steps ∷ []
names_of (gen n) = []
names_of help = []
names_of version = []

abbrev pub reads_input : Command → Bool
reads_input (run flags form file) = true
reads_input (exec form file) = true
reads_input command = false

-- whether the passes rewrite what it compiles
abbrev pub calls_passes : Command → Bool
calls_passes (compile flags file) = not flags.plain
calls_passes (run flags form file) = not flags.plain
calls_passes (emit e file) = true
calls_passes (gen n) = true
calls_passes command = false

-- whether it tells the tallies of the passes
abbrev pub tells_tallies : Command → Bool
tells_tallies (compile flags file) = flags.stats
tells_tallies (run flags form file) = flags.stats
tells_tallies command = false

-- the most bytes that it takes of a file, where its first is of this edition: which one a target is of is known only when it was read
abbrev pub text_most : Command → Edition → ℕ
text_most (exec form file) edition = written_limit
text_most (verify file steps) edition = most_of (of_target edition)
text_most command edition = text_limit

-- the most bytes that it writes, where its source is of this edition, if there is a limit
abbrev pub output_most : Command → Edition → Option ℕ
output_most (compile flags file) edition = written_most edition
output_most (prove file) edition = written_most edition
output_most command edition = None
