-- Small cases, computed.
use Rattle.std.proofs.Common.{◌≡◌, ℕ, ◌-◌, ℤ, pos, List, [], ◌∷◌, ◌++◌, get_or, map, refl}
use Rattle.cf_tree.specs.Meaning.{means}
use Rattle.cf_tree.specs.Values.{Value, number, elements, values}
use Rattle.cf_linear.specs.Arm.{ColumnLevels, region_code, set_code, fresh_code}
use Rattle.cf_linear.specs.Layout.{Layout}
use Rattle.cf_venn.specs.Columns.{known, column_values, outputs_from}
use Rattle.cf_venn.specs.Lets.{region_values}
use Rattle.cf_venn.specs.Masks.{mask, region, count}
use Rattle.cf_venn.specs.Pieces.{earlier, fresh, piece, outputs}

-- ---- masks of the sets 5, 7 and 1, 7, 9
abbrev two_sets : List (List ℤ)
two_sets = (pos 5 ∷ pos 7 ∷ []) ∷ (pos 1 ∷ pos 7 ∷ pos 9 ∷ []) ∷ []

in_second : mask two_sets (pos 9) ≡ 2
in_second = refl

in_both : mask two_sets (pos 7) ≡ 3
in_both = refl

in_none : mask two_sets (pos 8) ≡ 0
in_none = refl

second_alone : region two_sets 2 ≡ pos 1 ∷ pos 9 ∷ []
second_alone = refl

counted : map (count two_sets) (1 ∷ 2 ∷ 3 ∷ []) ≡ 1 ∷ 2 ∷ 1 ∷ []
counted = refl

-- ---- of the set 1, 2, 3 one element stays out of the output, which has two of its own
abbrev one_set : List (List ℤ)
one_set = (pos 1 ∷ pos 2 ∷ pos 3 ∷ []) ∷ []

abbrev counts : ℕ → ℕ
counts m = get_or (1 ∷ 2 ∷ 2 ∷ []) (m - 1) 0

used : earlier 1 counts 1 2 ≡ 3
used = refl

without_the_mask_0 : earlier 1 counts 0 2 ≡ 2
without_the_mask_0 = refl

numbers_outside : fresh one_set 1 counts ≡ pos 0 ∷ pos 4 ∷ []
numbers_outside = refl

taken : piece one_set 1 counts 3 ≡ pos 2 ∷ pos 3 ∷ []
taken = refl

output_made : outputs one_set 1 counts ≡ (pos 0 ∷ pos 2 ∷ pos 3 ∷ pos 4 ∷ []) ∷ []
output_made = refl

-- ---- columns of a number, a set, a number output and an output set
abbrev layout : Layout
layout = record { scope = 2; numbers = 0 ∷ []; inputs = 1 ∷ []; out_numbers = 2 ∷ []; out_sets = 3 ∷ [] }

abbrev parameters : List Value
parameters = number (pos 7) ∷ elements (pos 1 ∷ pos 2 ∷ pos 3 ∷ []) ∷ []

abbrev results : List Value
results = number (pos 9) ∷ elements (pos 0 ∷ pos 2 ∷ pos 3 ∷ pos 4 ∷ []) ∷ []

known_first : known layout parameters ≡ pos 1 ∷ pos 7 ∷ pos 3 ∷ []
known_first = refl

columns : map (column_values layout (parameters ++ results)) (0 ∷ 1 ∷ 2 ∷ 3 ∷ 4 ∷ 5 ∷ 6 ∷ 7 ∷ []) ≡ pos 1 ∷ pos 7 ∷ pos 3 ∷ pos 9 ∷ pos 1 ∷ pos 2 ∷ pos 2 ∷
    pos 0 ∷ []
columns = refl

and_back : outputs_from layout parameters (column_values layout (parameters ++ results)) ≡ results
and_back = refl

-- ---- codes, where the levels after the parameters hold a region, its count, a number output, counts and fresh numbers
abbrev names : ColumnLevels
names = (2, 3) ∷ (3, 4) ∷ (4, 5) ∷ (5, 6) ∷ (6, 7) ∷ []

abbrev held : List Value
held =
    parameters ++ (elements (pos 1 ∷ pos 2 ∷ pos 3 ∷ []) ∷ number (pos 3) ∷ number (pos 9) ∷ number (pos 1) ∷ number (pos 2) ∷ number (pos 2) ∷
    elements (pos 0 ∷ pos 4 ∷ []) ∷ [])

region_meant : means (region_code layout 1) held ≡ values (elements (pos 1 ∷ pos 2 ∷ pos 3 ∷ []) ∷ [])
region_meant = refl

fresh_meant : means (fresh_code layout names) held ≡ values (elements (pos 0 ∷ pos 4 ∷ []) ∷ [])
fresh_meant = refl

output_meant : means (set_code layout names (λ m. 2) 8 0) held ≡ values (elements (pos 0 ∷ pos 2 ∷ pos 3 ∷ pos 4 ∷ []) ∷ [])
output_meant = refl

region_let : region_values one_set (1 ∷ []) ≡ elements (pos 1 ∷ pos 2 ∷ pos 3 ∷ []) ∷ number (pos 3) ∷ []
region_let = refl
