-- What target code stands for, as a form of a relation, where each variable is what it stands for itself.
use Rattle.std.specs.Prelude.{ℕ, zero, suc, ℤ, pos, int_le, Bool, true, false, ◌||◌, List, [], ◌∷◌, slice_index_or, if◌then◌else◌}
use Rattle.cf_tree.specs.declared.base.Base.{Base}
use Rattle.cf_tree.specs.declared.base.Base.TheVariants.{Int, Bool as Truth, Set}
use Rattle.cf_tree.specs.declared.base.Order.{Order}
use Rattle.cf_tree.specs.declared.base.Order.TheVariants.{Eq, Ne, Lt, Le, Gt, Ge}
use Rattle.cf_tree.specs.CodeTree.{CodeTree, code_lit, code_truth, code_var, code_set_of, code_tuple, code_sum, code_sub, code_mul, code_neg, code_div, code_mod, code_min, code_max, code_compare, code_divides, code_and, code_or, code_not, code_union, code_inter, code_diff, code_subset, code_card, code_slice, code_fresh, code_if, code_let, code_solve, CodeTrees, no_codes, code_more}
use Rattle.cf_tree.specs.RelTree.{SetTree, empty_set, set_var, union_of, inter_of, diff_of, TermTree, term_lit, term_var, term_card, term_neg, term_add, term_sub, term_mul, term_div, term_mod, term_abs, RelTree, rel_true, rel_false, rel_compare, rel_same_set, rel_other_set, rel_subset, rel_divides, rel_and, rel_or, rel_not}
use Rattle.cf_condition.specs.declared.pairing.Pairing.{Pairing}
use Rattle.cf_condition.specs.declared.pairing.Pairing.TheVariants.{Add, Sub, Mul, Union, Inter, Diff, Subset, And, Or, Compare}

-- a number, a set or a truth value over the variables of a scope; or nothing that the language can write
pub data FormTree : Type 0 where
  number_form : TermTree → FormTree
  set_form : SetTree → FormTree
  truth_form : RelTree → FormTree
  unwritten : FormTree

abbrev pub is_written : FormTree → Bool
is_written (number_form t) = true
is_written (set_form s) = true
is_written (truth_form r) = true
is_written unwritten = false

abbrev pub truth_rel : Bool → RelTree
truth_rel true = rel_true
truth_rel false = rel_false

-- ---- operations with one side
abbrev pub negated : FormTree → FormTree
negated (number_form t) = number_form (term_neg t)
negated (set_form s) = unwritten
negated (truth_form r) = unwritten
negated unwritten = unwritten

abbrev pub counted : FormTree → FormTree
counted (number_form t) = unwritten
counted (set_form s) = number_form (term_card s)
counted (truth_form r) = unwritten
counted unwritten = unwritten

abbrev pub opposite : FormTree → FormTree
opposite (number_form t) = unwritten
opposite (set_form s) = unwritten
opposite (truth_form r) = truth_form (rel_not r)
opposite unwritten = unwritten

-- a divisor is at least 1
abbrev pub divided : FormTree → ℤ → FormTree
divided (number_form t) k = if int_le (pos 1) k then number_form (term_div t k) else unwritten
divided (set_form s) k = unwritten
divided (truth_form r) k = unwritten
divided unwritten k = unwritten

abbrev pub left_by : FormTree → ℤ → FormTree
left_by (number_form t) k = if int_le (pos 1) k then number_form (term_mod t k) else unwritten
left_by (set_form s) k = unwritten
left_by (truth_form r) k = unwritten
left_by unwritten k = unwritten

abbrev pub multiple : FormTree → ℤ → FormTree
multiple (number_form t) k = if int_le (pos 1) k then truth_form (rel_divides k t) else unwritten
multiple (set_form s) k = unwritten
multiple (truth_form r) k = unwritten
multiple unwritten k = unwritten

-- the form, where it is a set
abbrev pub if_set : FormTree → FormTree
if_set (number_form t) = unwritten
if_set (set_form s) = set_form s
if_set (truth_form r) = unwritten
if_set unwritten = unwritten

-- ---- operations with two sides
abbrev pub is_literal : TermTree → Bool
is_literal (term_lit k) = true
is_literal (term_var x) = false
is_literal (term_card s) = false
is_literal (term_neg a) = false
is_literal (term_add a b) = false
is_literal (term_sub a b) = false
is_literal (term_mul a b) = false
is_literal (term_div a k) = false
is_literal (term_mod a k) = false
is_literal (term_abs a) = false

-- a product is linear: one side is a literal
abbrev pub product : TermTree → TermTree → FormTree
product t u = if is_literal t || is_literal u then number_form (term_mul t u) else unwritten

abbrev pub paired_numbers : Pairing → TermTree → TermTree → FormTree
paired_numbers Add t u = number_form (term_add t u)
paired_numbers Sub t u = number_form (term_sub t u)
paired_numbers Mul t u = product t u
paired_numbers Union t u = unwritten
paired_numbers Inter t u = unwritten
paired_numbers Diff t u = unwritten
paired_numbers Subset t u = unwritten
paired_numbers And t u = unwritten
paired_numbers Or t u = unwritten
paired_numbers (Compare o) t u = truth_form (rel_compare o t u)

abbrev pub compared_sets : Order → SetTree → SetTree → FormTree
compared_sets Eq s t = truth_form (rel_same_set s t)
compared_sets Ne s t = truth_form (rel_other_set s t)
compared_sets Lt s t = unwritten
compared_sets Le s t = unwritten
compared_sets Gt s t = unwritten
compared_sets Ge s t = unwritten

abbrev pub paired_sets : Pairing → SetTree → SetTree → FormTree
paired_sets Add s t = unwritten
paired_sets Sub s t = unwritten
paired_sets Mul s t = unwritten
paired_sets Union s t = set_form (union_of s t)
paired_sets Inter s t = set_form (inter_of s t)
paired_sets Diff s t = set_form (diff_of s t)
paired_sets Subset s t = truth_form (rel_subset s t)
paired_sets And s t = unwritten
paired_sets Or s t = unwritten
paired_sets (Compare o) s t = compared_sets o s t

abbrev pub is_true : RelTree → Bool
is_true rel_true = true
is_true r = false

abbrev pub is_false : RelTree → Bool
is_false rel_false = true
is_false r = false

-- both relations: one alone where the other always holds
abbrev pub both : RelTree → RelTree → RelTree
both r s = if is_true r then s else (if is_true s then r else rel_and r s)

-- one relation or the other: one alone where the other never holds
abbrev pub either : RelTree → RelTree → RelTree
either r s = if is_false r then s else (if is_false s then r else rel_or r s)

abbrev pub paired_truths : Pairing → RelTree → RelTree → FormTree
paired_truths Add r s = unwritten
paired_truths Sub r s = unwritten
paired_truths Mul r s = unwritten
paired_truths Union r s = unwritten
paired_truths Inter r s = unwritten
paired_truths Diff r s = unwritten
paired_truths Subset r s = unwritten
paired_truths And r s = truth_form (both r s)
paired_truths Or r s = truth_form (either r s)
paired_truths (Compare o) r s = unwritten

-- the operation, where both sides are of the kind that it asks
abbrev pub paired : Pairing → FormTree → FormTree → FormTree
paired p (number_form t) (number_form u) = paired_numbers p t u
paired p (number_form t) (set_form u) = unwritten
paired p (number_form t) (truth_form u) = unwritten
paired p (number_form t) unwritten = unwritten
paired p (set_form s) (number_form t) = unwritten
paired p (set_form s) (set_form t) = paired_sets p s t
paired p (set_form s) (truth_form t) = unwritten
paired p (set_form s) unwritten = unwritten
paired p (truth_form r) (number_form s) = unwritten
paired p (truth_form r) (set_form s) = unwritten
paired p (truth_form r) (truth_form s) = paired_truths p r s
paired p (truth_form r) unwritten = unwritten
paired p unwritten g = unwritten

-- ---- codes
-- the operation of a code with two sides
abbrev pub pairing_of : CodeTree → Pairing
pairing_of (code_sub a b) = Sub
pairing_of (code_mul a b) = Mul
pairing_of (code_diff a b) = Diff
pairing_of (code_subset a b) = Subset
pairing_of (code_and a b) = And
pairing_of (code_or a b) = Or
pairing_of (code_compare o a b) = Compare o
pairing_of c = Add

abbrev pub form_at : List FormTree → ℕ → FormTree
form_at fs x = slice_index_or fs x unwritten

-- of set literals the empty set alone has a form
abbrev pub set_of : CodeTrees → FormTree
set_of no_codes = set_form empty_set
set_of (code_more c cs) = unwritten

abbrev mutual
  -- what a code stands for, where the variables stand for these forms, by level
  pub form_in : List FormTree → CodeTree → FormTree
  form_in fs (code_lit k) = number_form (term_lit k)
  form_in fs (code_truth t) = truth_form (truth_rel t)
  form_in fs (code_var x) = form_at fs x
  form_in fs (code_set_of cs) = set_of cs
  form_in fs (code_tuple cs) = unwritten
  form_in fs (code_sum cs) = joined_in Add fs (number_form (term_lit (pos 0))) cs
  form_in fs (code_sub a b) = paired Sub (form_in fs a) (form_in fs b)
  form_in fs (code_mul a b) = paired Mul (form_in fs a) (form_in fs b)
  form_in fs (code_neg a) = negated (form_in fs a)
  form_in fs (code_div a k) = divided (form_in fs a) k
  form_in fs (code_mod a k) = left_by (form_in fs a) k
  form_in fs (code_min cs) = unwritten
  form_in fs (code_max cs) = unwritten
  form_in fs (code_compare o a b) = paired (Compare o) (form_in fs a) (form_in fs b)
  form_in fs (code_divides k a) = multiple (form_in fs a) k
  form_in fs (code_and a b) = paired And (form_in fs a) (form_in fs b)
  form_in fs (code_or a b) = paired Or (form_in fs a) (form_in fs b)
  form_in fs (code_not a) = opposite (form_in fs a)
  form_in fs (code_union cs) = first_in Union fs cs
  form_in fs (code_inter cs) = first_in Inter fs cs
  form_in fs (code_diff a b) = paired Diff (form_in fs a) (form_in fs b)
  form_in fs (code_subset a b) = paired Subset (form_in fs a) (form_in fs b)
  form_in fs (code_card a) = counted (form_in fs a)
  form_in fs (code_slice a b c) = unwritten
  form_in fs (code_fresh a b) = unwritten
  form_in fs (code_if t a b) = unwritten
  form_in fs (code_let first n a b) = unwritten
  form_in fs (code_solve n arms) = unwritten

  -- each code joined to what stands before it
  pub joined_in : Pairing → List FormTree → FormTree → CodeTrees → FormTree
  joined_in p fs f no_codes = f
  joined_in p fs f (code_more c cs) = joined_in p fs (paired p f (form_in fs c)) cs

  -- sets that are joined; none are the empty set
  pub first_in : Pairing → List FormTree → CodeTrees → FormTree
  first_in p fs no_codes = set_form empty_set
  first_in p fs (code_more c cs) = joined_in p fs (if_set (form_in fs c)) cs

-- ---- the scope
-- truth values of a scope are decided before a choose is solved, so no code speaks of them
abbrev pub form_for : Base → ℕ → FormTree
form_for Int x = number_form (term_var x)
form_for Truth x = unwritten
form_for Set x = set_form (set_var x)

-- the variables from level x on, by their bases
abbrev pub scope_forms : ℕ → List Base → List FormTree
scope_forms x [] = []
scope_forms x (b ∷ bs) = form_for b x ∷ scope_forms (suc x) bs
