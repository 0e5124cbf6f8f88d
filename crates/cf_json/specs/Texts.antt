-- Replies as JSON: each is one object.
use Rattle.std.specs.Prelude.{ℕ, zero, suc, ◌+◌, ℤ, List, [], ◌∷◌, ◌++◌, map, Option, Some, None, slice_get, codes, decimal}
use Rattle.std.specs.Fmt.{signed_decimal}
use Rattle.cf_tree.specs.Values.{Value, number, truth, elements, values, no_solution}
use Rattle.cf_tree.specs.Words.{truth_text}
use Rattle.cf_linear.specs.Reasons.{refusal_text}
use Rattle.cf_late.specs.ChooseRun.{LateOutcome, comes_to, overflow, refused}

-- texts with a comma and a space between each two
abbrev pub listed : List (List ℕ) → List ℕ
listed [] = []
listed (x ∷ []) = x
listed (x ∷ y ∷ xs) = x ++ (codes ", " ++ listed (y ∷ xs))

-- what stands before item i of a list: nothing before the first
abbrev pub gap : ℕ → List ℕ
gap zero = []
gap (suc i) = codes ", "

-- a word between quotes; no word that is written has a quote, a backslash or a control byte
abbrev pub quoted : List ℕ → List ℕ
quoted word = (34 ∷ []) ++ word ++ (34 ∷ [])

-- what stands before the value of a member
abbrev pub label : List ℕ → List ℕ
label name = quoted name ++ codes ": "

abbrev pub member : List ℕ → List ℕ → List ℕ
member name value = label name ++ value

abbrev pub object : List (List ℕ) → List ℕ
object members = codes "{" ++ listed members ++ codes "}"

-- the rising elements of a set
abbrev pub array : List ℤ → List ℕ
array zs = codes "[" ++ listed (map signed_decimal zs) ++ codes "]"

abbrev pub value_json : Value → List ℕ
value_json (number z) = signed_decimal z
value_json (truth b) = truth_text b
value_json (elements zs) = array zs

-- the name, or r and the number of the result, counted from 1
abbrev pub name_or : Option (List ℕ) → ℕ → List ℕ
name_or None i = codes "r" ++ decimal (i + 1)
name_or (Some name) i = name

-- the name of the result with index i
abbrev pub name_at : List (List ℕ) → ℕ → List ℕ
name_at names i = name_or (slice_get names i) i

-- a member for each value, where the first is the result with index i
abbrev pub members : List (List ℕ) → ℕ → List Value → List (List ℕ)
members names i [] = []
members names i (v ∷ vs) = member (name_at names i) (value_json v) ∷ members names (i + 1) vs

-- a fault of these words
abbrev pub error_text : List ℕ → List ℕ
error_text words = object (member (codes "error") (quoted words) ∷ [])

-- the same at a choose
abbrev pub choose_error_text : List ℕ → ℕ → List ℕ
choose_error_text words n = object (member (codes "error") (quoted words) ∷ member (codes "choose") (decimal n) ∷ [])

-- what a program comes to whose results have these names
abbrev pub json_text : List (List ℕ) → LateOutcome → List ℕ
json_text names (comes_to (values vs)) = object (members names 0 vs)
json_text names (comes_to (no_solution n)) = choose_error_text (codes "no solution") n
json_text names overflow = error_text (codes "overflow")
json_text names (refused n r) = choose_error_text (refusal_text r) n
