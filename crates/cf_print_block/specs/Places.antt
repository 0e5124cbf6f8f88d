-- What is known at a place in printed statements, and what is written so far.
use Rattle.std.specs.Prelude.{ℕ, suc, Bool, true, false, nat_eq, List, [], ◌∷◌, ◌++◌, length, take, Option, Some, None, if◌then◌else◌, slice_get}
use Rattle.cf_tree.specs.declared.base.Base.{Base}
use Rattle.cf_tree.specs.declared.base.Base.TheVariants.{Int, Bool as Truth, Set}
use Rattle.cf_tree.specs.CodeTree.{CodeTree, code_lit, code_truth, code_var, code_set_of, code_tuple, code_sum, code_sub, code_mul, code_neg, code_div, code_mod, code_min, code_max, code_compare, code_divides, code_and, code_or, code_not, code_union, code_inter, code_diff, code_subset, code_card, code_slice, code_fresh, code_if, code_let, code_solve, CodeTrees, no_codes, code_more}
use Rattle.cf_range.specs.Ranges.{whole}
use Rattle.cf_range.specs.CodeRanges.{range_of}
use Rattle.cf_range.specs.declared.range.Range.{Range}
use Rattle.cf_print_term.specs.Terms.{text}
use Rattle.cf_print_term.specs.Marks.{mark_text}
use Rattle.cf_print_term.specs.Expressions.{Sight, base_of, is_small, term_of, opposite_of, denied}
use Rattle.cf_print_term.specs.Rows.{table_of}
use Rattle.cf_print.specs.Words.{words_of}
use Rattle.cf_print.specs.Names.{new_name}
use Rattle.cf_print.specs.declared.language.Language.{Language}
use Rattle.cf_print_term.specs.declared.table.Table.{Table}
use Rattle.cf_print_shape.specs.declared.exit.Exit.{Exit}
use Rattle.cf_print_block.specs.declared.place.Giving.{Giving}
use Rattle.cf_print_block.specs.declared.place.Giving.TheVariants.{Results, Choose, Part}
use Rattle.cf_print_block.specs.declared.place.Place.{Place}
use Rattle.cf_print_block.specs.declared.values.AtHand.{AtHand}

-- the language, and the names that are wished for: those of main's results, and of outputs by the number of their choose
pub record Setting : Type 0 where
  pub language : Language
  pub results : List (List ℕ)
  pub outputs : ℕ → List (List ℕ)

abbrev pub table : Setting → Table
table s = table_of s.language

abbrev pub words : Setting → List ℕ
words s = words_of s.language

-- a new name for a value of a base
unfoldable pub name_in : Setting → List (List ℕ) → Base → Option (List ℕ) → List ℕ
name_in s taken b wish = new_name (words s) taken b wish

-- ---- places

unfoldable pub deeper : Place → Place
deeper p = record { depth = suc p.depth; exit = p.exit; arms = 0; giving = p.giving }

unfoldable pub leaving_by : Exit → Place → Place
leaving_by e p = record { depth = p.depth; exit = e; arms = 0; giving = p.giving }

unfoldable pub behind_arm : Place → Place
behind_arm p = record { depth = p.depth; exit = p.exit; arms = suc p.arms; giving = p.giving }

-- the names of the outputs that a place gives
abbrev pub outputs_at : Setting → Giving → List (List ℕ)
outputs_at s Results = s.results
outputs_at s (Choose n) = s.outputs n
outputs_at s Part = []

-- what a function gives that is made for the choose of this number, or for a part of main where that is 0
abbrev pub giving_of : ℕ → Giving
giving_of n = if nat_eq n 0 then Part else Choose n

-- at the arms of a choose whose outputs have names
unfoldable pub giving : Setting → ℕ → Place → Place
giving s n p =
    if nat_eq (length (s.outputs n)) 0 then p else record { depth = p.depth; exit = p.exit; arms = p.arms; giving = Choose n }

-- ---- what is written so far

-- the lines of this function and the names of its pointers, the names that are taken in it, and the functions before it with their numbers
pub record Draft : Type 0 where
  pub lines : List ℕ
  pub pointers : List (List ℕ)
  pub taken : List (List ℕ)
  pub functions : List ℕ
  pub numbers : List ℕ

unfoldable pub put : List ℕ → Draft → Draft
put t d = record { lines = d.lines ++ t; pointers = d.pointers; taken = d.taken; functions = d.functions; numbers = d.numbers }

unfoldable pub taking : List ℕ → Draft → Draft
taking name d =
    record { lines = d.lines; pointers = d.pointers; taken = d.taken ++ (name ∷ []); functions = d.functions; numbers = d.numbers }

-- only so many names are taken, the first
unfoldable pub freed : ℕ → Draft → Draft
freed n d = record { lines = d.lines; pointers = d.pointers; taken = take n d.taken; functions = d.functions; numbers = d.numbers }

-- ---- values at hand

-- a condition's opposite; other values have none
abbrev pub denied_text : Table → Sight → CodeTree → Base → List ℕ
denied_text t w c Truth = text (denied t (opposite_of t w c) (term_of t w c))
denied_text t w c Int = []
denied_text t w c Set = []

abbrev pub is_variable : CodeTree → Bool
is_variable (code_var x) = true
is_variable c = false

unfoldable pub at_hand : Table → Sight → CodeTree → AtHand
at_hand t w c = record {
  text = text (term_of t w c);
  denied = denied_text t w c (base_of w.bases c);
  is_variable = is_variable c;
  is_small = is_small c;
  base = base_of w.bases c;
  range = range_of w.ranges c;
}

abbrev pub all_at_hand : Table → Sight → CodeTrees → List AtHand
all_at_hand t w no_codes = []
all_at_hand t w (code_more c cs) = at_hand t w c ∷ all_at_hand t w cs

-- the values of a code that is an expression, or a tuple of some
abbrev pub given : Table → Sight → CodeTree → List AtHand
given t w (code_tuple cs) = all_at_hand t w cs
given t w c = at_hand t w c ∷ []

abbrev pub not_text : Table → Base → List ℕ → List ℕ
not_text t Truth x = mark_text t.not.text ++ x
not_text t Int x = []
not_text t Set x = []

-- a variable of this name
abbrev pub variable : Table → Base → Range → List ℕ → AtHand
variable t b r x = record { text = x; denied = not_text t b x; is_variable = true; is_small = false; base = b; range = r }

abbrev pub first_at_hand : List AtHand → AtHand
first_at_hand [] = record { text = []; denied = []; is_variable = false; is_small = false; base = Int; range = whole }
first_at_hand (v ∷ vs) = v

unfoldable pub behind_one : Sight → AtHand → Sight
behind_one w v =
    record { names = w.names ++ (v.text ∷ []); bases = w.bases ++ (v.base ∷ []); ranges = w.ranges ++ (v.range ∷ []) }

-- values behind the variables, and one before them
abbrev pub behind : Sight → List AtHand → Sight
behind w [] = w
behind w (v ∷ vs) = behind (behind_one w v) vs

unfoldable pub ahead : AtHand → Sight → Sight
ahead v w = record { names = v.text ∷ w.names; bases = v.base ∷ w.bases; ranges = v.range ∷ w.ranges }

-- values and the draft in which they are at hand
pub record Held : Type 0 where
  pub values : List AtHand
  pub draft : Draft

-- ---- wishes

-- the name at a place, where there is one
abbrev pub wish_at : List (List ℕ) → Option ℕ → Option (List ℕ)
wish_at names None = None
wish_at names (Some k) = slice_get names k
