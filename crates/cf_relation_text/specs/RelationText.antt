-- The printed form of a relation: few parentheses, and the words and signs of sources.
use Rattle.std.specs.Prelude.{ℕ, List, [], ◌∷◌, ◌++◌, Bool, true, false, nat_lt, codes, slice_index_or, if◌then◌else◌}
use Rattle.std.specs.Fmt.{signed_decimal}
use Rattle.cf_tree.specs.RelTree.{SetTree, empty_set, set_var, union_of, inter_of, diff_of, TermTree, term_lit, term_var, term_card, term_neg, term_add, term_sub, term_mul, term_div, term_mod, term_abs, RelTree, rel_true, rel_false, rel_compare, rel_same_set, rel_other_set, rel_subset, rel_divides, rel_and, rel_or, rel_not}
use Rattle.cf_emit.specs.Printed.{order_text}
use Rattle.cf_relation_text.specs.declared.tier.Tier.{Tier}
use Rattle.cf_relation_text.specs.declared.tier.Tier.TheVariants.{Ors, Ands, Comparisons, Sums, Products, Unary}

-- how far inside a tier is
abbrev pub rank : Tier → ℕ
rank Ors = 0
rank Ands = 1
rank Comparisons = 2
rank Sums = 3
rank Products = 4
rank Unary = 5

abbrev pub is_looser : Tier → Tier → Bool
is_looser inner outer = nat_lt (rank inner) (rank outer)

-- the tier of a form: it stands without parentheses where one of this tier, or of one further out, is asked
abbrev pub set_tier : SetTree → Tier
set_tier empty_set = Unary
set_tier (set_var x) = Unary
set_tier (union_of a b) = Sums
set_tier (inter_of a b) = Products
set_tier (diff_of a b) = Sums

abbrev pub term_tier : TermTree → Tier
term_tier (term_lit k) = Unary
term_tier (term_var x) = Unary
term_tier (term_card s) = Unary
term_tier (term_neg a) = Unary
term_tier (term_add a b) = Sums
term_tier (term_sub a b) = Sums
term_tier (term_mul a b) = Products
term_tier (term_div a k) = Unary
term_tier (term_mod a k) = Unary
term_tier (term_abs a) = Unary

abbrev pub rel_tier : RelTree → Tier
rel_tier rel_true = Unary
rel_tier rel_false = Unary
rel_tier (rel_compare o a b) = Comparisons
rel_tier (rel_same_set a b) = Comparisons
rel_tier (rel_other_set a b) = Comparisons
rel_tier (rel_subset a b) = Comparisons
rel_tier (rel_divides k t) = Comparisons
rel_tier (rel_and a b) = Ands
rel_tier (rel_or a b) = Ors
rel_tier (rel_not a) = Unary

-- a byte where it is wanted
abbrev pub byte_if : ℕ → Bool → List ℕ
byte_if b true = b ∷ []
byte_if b false = []

-- the text of a form of one tier where another is asked: in parentheses where it is looser
abbrev pub part : Tier → Tier → List ℕ → List ℕ
part outer inner text = byte_if 40 (is_looser inner outer) ++ text ++ byte_if 41 (is_looser inner outer)

-- the name of a variable, by its level
abbrev pub name_of : List (List ℕ) → ℕ → List ℕ
name_of names x = slice_index_or names x []

-- what stands between the two parts of a form
abbrev pub set_sign : SetTree → List ℕ
set_sign (union_of a b) = codes " union "
set_sign (inter_of a b) = codes " inter "
set_sign (diff_of a b) = codes " diff "
set_sign s = []

abbrev pub term_sign : TermTree → List ℕ
term_sign (term_add a b) = codes " + "
term_sign (term_sub a b) = codes " - "
term_sign (term_mul a b) = codes " * "
term_sign t = []

abbrev pub set_part : Tier → SetTree → List ℕ → List ℕ
set_part outer s text = part outer (set_tier s) text

-- a set form; operations of one row group to the left
abbrev pub set_text : List (List ℕ) → SetTree → List ℕ
set_text names empty_set = codes "{}"
set_text names (set_var x) = name_of names x
set_text names (union_of a b) = set_part Sums a (set_text names a) ++ codes " union " ++ set_part Products b (set_text names b)
set_text names (inter_of a b) = set_part Products a (set_text names a) ++ codes " inter " ++ set_part Unary b (set_text names b)
set_text names (diff_of a b) = set_part Sums a (set_text names a) ++ codes " diff " ++ set_part Products b (set_text names b)

abbrev pub term_part : Tier → TermTree → List ℕ → List ℕ
term_part outer t text = part outer (term_tier t) text

-- a number form
abbrev pub term_text : List (List ℕ) → TermTree → List ℕ
term_text names (term_lit k) = signed_decimal k
term_text names (term_var x) = name_of names x
term_text names (term_card s) = codes "card(" ++ set_text names s ++ codes ")"
term_text names (term_neg a) = codes "-" ++ term_part Unary a (term_text names a)
term_text names (term_add a b) = term_part Sums a (term_text names a) ++ codes " + " ++ term_part Products b (term_text names b)
term_text names (term_sub a b) = term_part Sums a (term_text names a) ++ codes " - " ++ term_part Products b (term_text names b)
term_text names (term_mul a b) = term_part Products a (term_text names a) ++ codes " * " ++ term_part Unary b (term_text names b)
term_text names (term_div a k) = codes "div(" ++ term_text names a ++ codes ", " ++ signed_decimal k ++ codes ")"
term_text names (term_mod a k) = codes "mod(" ++ term_text names a ++ codes ", " ++ signed_decimal k ++ codes ")"
term_text names (term_abs a) = codes "abs(" ++ term_text names a ++ codes ")"

abbrev pub rel_part : Tier → RelTree → List ℕ → List ℕ
rel_part outer r text = part outer (rel_tier r) text

-- a relation, where the variables have these names by level; a comparison is no side of a comparison, and ! stands before one form alone
abbrev pub rel_text : List (List ℕ) → RelTree → List ℕ
rel_text names rel_true = codes "true"
rel_text names rel_false = codes "false"
rel_text names (rel_compare o a b) = term_part Sums a (term_text names a) ++ order_text o ++ term_part Sums b (term_text names b)
rel_text names (rel_same_set a b) = set_part Sums a (set_text names a) ++ codes " == " ++ set_part Sums b (set_text names b)
rel_text names (rel_other_set a b) = set_part Sums a (set_text names a) ++ codes " != " ++ set_part Sums b (set_text names b)
rel_text names (rel_subset a b) = set_part Sums a (set_text names a) ++ codes " subset " ++ set_part Sums b (set_text names b)
rel_text names (rel_divides k t) = signed_decimal k ++ codes " divides " ++ term_part Sums t (term_text names t)
rel_text names (rel_and a b) = rel_part Ands a (rel_text names a) ++ codes " && " ++ rel_part Comparisons b (rel_text names b)
rel_text names (rel_or a b) = rel_part Ors a (rel_text names a) ++ codes " || " ++ rel_part Ands b (rel_text names b)
rel_text names (rel_not a) = codes "!" ++ rel_part Unary a (rel_text names a)
