-- The top of a file: the source as a comment, which it cannot leave, and what each choose stands on.
use Rattle.std.specs.Prelude.{ℕ, Bool, true, false, not, List, [], ◌∷◌, ◌++◌, codes, nat_eq, if◌then◌else◌}
use Rattle.cf_print.specs.Sources.{shown}
use Rattle.cf_smt.specs.declared.head.TheConstants.{BEFORE_SOURCE, BEHIND_SOURCE}

-- before the first byte of a line, and at its end, where the line is begun or has no byte; and the end of a last line that has none
abbrev pub line_opening : Bool → List ℕ
line_opening true = []
line_opening false = codes ";     "

abbrev pub line_ending : Bool → List ℕ
line_ending true = codes "\n"
line_ending false = codes ";\n"

abbrev pub last_ending : Bool → List ℕ
last_ending true = codes "\n"
last_ending false = []

abbrev pub byte_text : Bool → ℕ → List ℕ
byte_text is_begun x = if nat_eq x 10 then line_ending is_begun else line_opening is_begun ++ (shown x ∷ [])

abbrev pub source_lines : Bool → List ℕ → List ℕ
source_lines is_begun [] = last_ending is_begun
source_lines is_begun (x ∷ text) = byte_text is_begun x ++ source_lines (not (nat_eq x 10)) text

abbrev pub head_text : List ℕ → List ℕ
head_text source = BEFORE_SOURCE.now ++ source_lines false source ++ BEHIND_SOURCE.now
