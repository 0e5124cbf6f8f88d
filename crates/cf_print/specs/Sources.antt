-- The source as a comment at the top of a file, which it cannot leave in any language.
use Rattle.std.specs.Prelude.{ℕ, Bool, ◌&&◌, ◌||◌, List, [], ◌∷◌, ◌++◌, codes, nat_eq, nat_le, nat_lt, if◌then◌else◌, Option, Some, None}
use Rattle.cf_print.specs.declared.language.Language.{Language}
use Rattle.cf_print.specs.declared.language.Language.TheVariants.{C, Python, JavaScript, Rust}

-- a byte as it is shown: a tab as a blank, and one that is not printable as a question mark
abbrev pub shown : ℕ → ℕ
shown x = if nat_eq x 9 then 32 else if nat_le 32 x && nat_lt x 127 then x else 63

-- what ends or begins a comment of C, or ends a trigraph: `*/`, `/*`, `?/`
abbrev pub is_kept_apart : ℕ → ℕ → Bool
is_kept_apart last x = ((nat_eq last 42 || nat_eq last 63) && nat_eq x 47) || (nat_eq last 47 && nat_eq x 42)

-- a shown byte behind another: in a text of Python a quote or a backslash behind a backslash, in C apart
abbrev pub shown_behind : Language → ℕ → ℕ → List ℕ
shown_behind Python last x = if nat_eq x 34 || nat_eq x 92 then 92 ∷ x ∷ [] else x ∷ []
shown_behind C last x = if is_kept_apart last x then 32 ∷ x ∷ [] else x ∷ []
shown_behind JavaScript last x = x ∷ []
shown_behind Rust last x = x ∷ []

-- before a line of the source, and in place of one that is empty
abbrev pub before_source : Language → List ℕ
before_source Python = codes "    "
before_source C = codes " *     "
before_source l = codes "//     "

abbrev pub before_nothing : Language → List ℕ
before_nothing Python = []
before_nothing C = codes " *"
before_nothing l = codes "//"

-- what stands before a byte in its line, behind what was shown last there; and what ends a line
abbrev pub line_opening : Language → Option ℕ → List ℕ
line_opening l None = before_source l
line_opening l (Some last) = []

abbrev pub line_ending : Language → Option ℕ → List ℕ
line_ending l None = before_nothing l ++ codes "\n"
line_ending l (Some last) = codes "\n"

abbrev pub last_or_blank : Option ℕ → ℕ
last_or_blank None = 32
last_or_blank (Some x) = x

-- the text of a byte, and what the next one stands behind
abbrev pub byte_text : Language → Option ℕ → ℕ → List ℕ
byte_text l last x = if nat_eq x 10 then line_ending l last else line_opening l last ++ shown_behind l (last_or_blank last) (shown x)

abbrev pub shown_last : ℕ → Option ℕ
shown_last x = if nat_eq x 10 then None else Some (shown x)

-- the end of a last line that has none
abbrev pub last_ending : Option ℕ → List ℕ
last_ending None = []
last_ending (Some last) = codes "\n"

-- the lines of a source, behind what was shown last
abbrev pub source_lines : Language → Option ℕ → List ℕ → List ℕ
source_lines l last [] = last_ending last
source_lines l last (x ∷ text) = byte_text l last x ++ source_lines l (shown_last x) text

abbrev pub title : List ℕ
title = codes "Written by Comfusy from this source; each change belongs there.\n"

-- what stands before the source at the top of a file, and behind it
abbrev pub before_head : Language → List ℕ
before_head Python = codes "\"\"\"" ++ title ++ codes "\n"
before_head C = codes "/*\n * " ++ title ++ codes " *\n"
before_head l = codes "// " ++ title ++ codes "//\n"

abbrev pub behind_head : Language → List ℕ
behind_head Python = codes "\"\"\"\n\nfrom __future__ import annotations\n"
behind_head C = codes " */\n\n"
behind_head JavaScript = []
behind_head Rust = codes "\n#![forbid(unsafe_code)]\n#![allow(non_snake_case, unused_variables)]\n"

abbrev pub head_of : Language → List ℕ → List ℕ
head_of l source = before_head l ++ source_lines l None source ++ behind_head l
