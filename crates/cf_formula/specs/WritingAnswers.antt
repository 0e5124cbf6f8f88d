-- Relations as formulas in the program: where a number passes the limit, and what the calls answer.
use Rattle.std.specs.Prelude.{◌≡◌, ℕ, ◌+◌, ◌-◌, ◌*◌, ◌^◌, ◌==◌, nat_lt, nat_le, ℤ, pos, negsuc, neg_ℤ, ◌*ℤ◌, List, [], ◌∷◌, ◌++◌, Bool, true, false, ◌&&◌, ◌||◌, if◌then◌else◌, Option, Some, None, Result, Ok, Err}
use Rattle.std.specs.List.{fold, range_with_len}
use Rattle.cf_tree.specs.declared.base.Order.{Order}
use Rattle.cf_tree.specs.declared.base.Order.TheVariants.{Eq, Ne, Lt, Le, Gt, Ge}
use Rattle.cf_tree.specs.Relation.{is_fixed}
use Rattle.cf_tree.specs.RelTree.{TermTree, term_lit, term_var, term_card, term_neg, term_add, term_sub, term_mul, term_div, term_mod, term_abs}
use Rattle.cf_tree.specs.RelTree.{RelTree, rel_true, rel_false, rel_compare, rel_same_set, rel_other_set, rel_subset, rel_divides, rel_and, rel_or, rel_not}
use Rattle.cf_linear.specs.Cases.{Atom, atom_true, atom_compare, Normal, normal_atom, normal_and, normal_or, negation_normal, Signed, atom_cases, AtomRows, write_atom}
use Rattle.cf_linear.specs.declared.refusal.RowFault.{RowFault}
use Rattle.cf_linear.specs.Layout.{Layout, first_free, known_count}
use Rattle.cf_linear.specs.Parts.{IsRowFault}
use Rattle.cf_linear.specs.Rows.{Row, entry, comb, comb_passes, passes, row_passes}
use Rattle.cf_linear.specs.Written.{write, plus, abs_count}
use Rattle.cf_cases.specs.declared.system_builder.SystemBuilder.{SystemBuilder}
use Rattle.cf_cases.specs.Counts.{order_as, order_ways}
use Rattle.cf_cases.specs.SystemBuilders.{rows_of}
use Rattle.cf_formula.specs.declared.flat.Flat.{Flat as DeclaredFlat}
use Rattle.cf_formula.specs.declared.formula.Formula.{Formula as DeclaredFormula}
use Rattle.cf_formula.specs.declared.ways.Ways.{Ways as DeclaredWays}
use Rattle.cf_formula.specs.declared.ways.Written.{Written as DeclaredWritten}
use Rattle.cf_formula.specs.Formulas.{Formula}
use Rattle.cf_formula.specs.FormulaView.{formula_tree, formula_trees}
use Rattle.cf_formula.specs.Members.{conj, disj}
use Rattle.cf_formula.specs.Writing.{Written, Ways, rows_formula, with_way, Flat, plain_row, is_plain, flattened, no_flat, with_abs, in_order, turned_parts, compared, flat_difference, normal_written, region_formulas}
use Rattle.cf_formula.specs.States.{Columns}

-- ---- what is asked before anything else is known
-- a relation without `and`, `or` and `not`
abbrev pub IsAtom : RelTree → Type 0
IsAtom rel_true = Unit {0}
IsAtom rel_false = Unit {0}
IsAtom (rel_compare o a b) = Unit {0}
IsAtom (rel_same_set a b) = Unit {0}
IsAtom (rel_other_set a b) = Unit {0}
IsAtom (rel_subset a b) = Unit {0}
IsAtom (rel_divides k t) = Unit {0}
IsAtom (rel_and p q) = ⊥
IsAtom (rel_or p q) = ⊥
IsAtom (rel_not p) = ⊥

-- the atom that such a relation, or its negation, is
abbrev pub atom_in : Normal → Atom
atom_in (normal_atom a) = a
atom_in (normal_and p q) = atom_true
atom_in (normal_or p q) = atom_true

-- ---- the ways of an atom
-- how many ways such a relation, or its negation, has
abbrev pub way_count : Bool → RelTree → ℕ
way_count d rel_true = 1
way_count d rel_false = 1
way_count d (rel_compare o a b) = order_ways (order_as d o) * 2 ^ (abs_count a + abs_count b)
way_count d (rel_same_set a b) = 1
way_count d (rel_other_set a b) = 1
way_count d (rel_subset a b) = 1
way_count d (rel_divides k t) = 2 ^ abs_count t
way_count d (rel_and p q) = 0
way_count d (rel_or p q) = 0
way_count d (rel_not p) = 0

abbrev pub empty_rows : ℕ → AtomRows
empty_rows next = record { equations = []; inequalities = []; next = next; passes = false }

-- whether a row of one of the ways passes the limit
abbrev pub ways_pass : Layout → List Signed → ℕ → Bool
ways_pass l [] next = false
ways_pass l (s ∷ ss) next = (write_atom l s next).passes || ways_pass l ss (write_atom l s next).next

-- the ways with that of these rows
abbrev pub with_rows_way : Ways → AtomRows → Ways
with_rows_way w a = record { formulas = w.formulas ++ (rows_formula a ∷ []); next = a.next }

abbrev pub all_ways : Layout → Ways → List Signed → Ways
all_ways l w ss = fold (with_way l) w ss

-- ---- a comparison with few absolute values
-- of what was made, if anything was
abbrev pub passes_behind : {A : Type 0} → (A → Bool) → Option A → Bool
passes_behind p None = false
passes_behind p (Some x) = p x

abbrev pub plain_passes : Layout → TermTree → Bool
plain_passes l t = (write l t [] (first_free l)).passes

abbrev pub with_plain_passes : Layout → TermTree → ℤ → Flat → Bool
with_plain_passes l t k f = is_plain t && (plain_passes l t || comb_passes (pos 1) f.row k (plain_row l t))

-- k times the value of a form that is a number
abbrev pub scaled : Layout → TermTree → ℤ → ℤ
scaled l t k = k *ℤ entry (plain_row l t) 0

abbrev pub scaled_passes : Layout → TermTree → ℤ → Bool
scaled_passes l t k = plain_passes l t || passes (scaled l t k)

-- whether a number passes the limit on the way to k times the form more
abbrev pub flattened_passes : Layout → TermTree → ℤ → Flat → Bool
flattened_passes l (term_lit n) k f = with_plain_passes l (term_lit n) k f
flattened_passes l (term_var x) k f = with_plain_passes l (term_var x) k f
flattened_passes l (term_card s) k f = with_plain_passes l (term_card s) k f
flattened_passes l (term_neg a) k f = flattened_passes l a (neg_ℤ k) f
flattened_passes l (term_add a b) k f = flattened_passes l a k f || passes_behind (flattened_passes l b k) (flattened l a k f)
flattened_passes l (term_sub a b) k f = flattened_passes l a k f || passes_behind (flattened_passes l b (neg_ℤ k)) (flattened l a k f)
flattened_passes l (term_mul a b) k f =
    (if is_fixed a then (if abs_count a == 0 then scaled_passes l a k || flattened_passes l b (scaled l a k) f else false)
    else (if abs_count b == 0 then scaled_passes l b k || flattened_passes l a (scaled l b k) f else false))
flattened_passes l (term_div a n) k f = with_plain_passes l (term_div a n) k f
flattened_passes l (term_mod a n) k f = with_plain_passes l (term_mod a n) k f
flattened_passes l (term_abs a) k f = is_plain a && plain_passes l a

abbrev pub with_abs_passes : Row → List (ℤ × Row) → Bool
with_abs_passes r [] = false
with_abs_passes r ((k, s) ∷ parts) =
    (comb_passes (pos 1) r k s || with_abs_passes (comb (pos 1) r k s) parts) ||
    (comb_passes (pos 1) r (neg_ℤ k) s || with_abs_passes (comb (pos 1) r (neg_ℤ k) s) parts)

-- the same with a part more, of which the row is at least 0
abbrev pub part_passes : Row → ℤ × Row → List (ℤ × Row) → Bool
part_passes r p parts = comb_passes (pos 1) r p.0 p.1 || with_abs_passes (comb (pos 1) r p.0 p.1) parts

abbrev pub with_part : Row → ℤ × Row → List (ℤ × Row) → Formula
with_part r p parts = with_abs (comb (pos 1) r p.0 p.1) parts

-- the row with n more, and the absolute values
abbrev pub raised_passes : ℤ → Row → List (ℤ × Row) → Bool
raised_passes n r parts = row_passes (plus r n) || with_abs_passes (plus r n) parts

abbrev pub at_least_passes : ℤ → Flat → Bool
at_least_passes n f = raised_passes n f.row (in_order f.parts)

abbrev pub at_most_passes : ℤ → Flat → Bool
at_most_passes n f = raised_passes n (comb (negsuc 0) f.row (pos 0) []) (turned_parts f.parts)

abbrev pub compared_passes : Order → Flat → Bool
compared_passes Ge f = at_least_passes (pos 0) f
compared_passes Gt f = at_least_passes (negsuc 0) f
compared_passes Le f = at_most_passes (pos 0) f
compared_passes Lt f = at_most_passes (negsuc 0) f
compared_passes Eq f = at_least_passes (pos 0) f || at_most_passes (pos 0) f
compared_passes Ne f = at_most_passes (negsuc 0) f || at_least_passes (negsuc 0) f

abbrev pub difference_passes : Layout → TermTree → TermTree → Bool
difference_passes l t u =
    (nat_lt 0 (abs_count t + abs_count u) && nat_le (abs_count t + abs_count u) 3) &&
    (flattened_passes l t (pos 1) no_flat || passes_behind (flattened_passes l u (negsuc 0)) (flattened l t (pos 1) no_flat))

-- the formula of the flat form of an atom, if it has one
abbrev pub formula_behind : Order → Option Flat → Option Formula
formula_behind o None = None
formula_behind o (Some f) = Some (compared o f)

abbrev pub flat_formula : Layout → Atom → Option Formula
flat_formula l (atom_compare o t u) = formula_behind o (flat_difference l t u)
flat_formula l a = None

abbrev pub flat_passes : Layout → Atom → Bool
flat_passes l (atom_compare o t u) = difference_passes l t u || passes_behind (compared_passes o) (flat_difference l t u)
flat_passes l a = false

-- the same of a relation without `and`, `or` and `not`, or of its negation
abbrev pub flat_in : Layout → Bool → RelTree → Option Formula
flat_in l d (rel_compare o t u) = flat_formula l (atom_compare (order_as d o) t u)
flat_in l d r = None

abbrev pub flat_in_passes : Layout → Bool → RelTree → Bool
flat_in_passes l d (rel_compare o t u) = flat_passes l (atom_compare (order_as d o) t u)
flat_in_passes l d r = false

-- ---- a relation
abbrev pub written_or : ℕ → Option Formula → Written → Written
written_or next None w = w
written_or next (Some f) w = record { formula = f; next = next }

abbrev pub passes_or : Option Formula → Bool → Bool
passes_or None b = b
passes_or (Some f) b = false

-- whether a number passes the limit on the way to the formula
abbrev pub atom_passes : Layout → Atom → ℕ → Bool
atom_passes l a next = flat_passes l a || passes_or (flat_formula l a) (ways_pass l (atom_cases a) next)

abbrev pub normal_passes : Layout → Normal → ℕ → Bool
normal_passes l (normal_atom a) next = atom_passes l a next
normal_passes l (normal_and p q) next = normal_passes l p next || normal_passes l q (normal_written l p next).next
normal_passes l (normal_or p q) next = normal_passes l p next || normal_passes l q (normal_written l p next).next

abbrev pub relation_passes : Layout → RelTree → Bool
relation_passes l rel = normal_passes l (negation_normal true rel) (first_free l)

-- both, or either
abbrev pub joined_formula : Bool → Formula → Formula → Formula
joined_formula true f g = conj (f ∷ g ∷ [])
joined_formula false f g = disj (f ∷ g ∷ [])

abbrev pub joined_written : Bool → Written → Written → Written
joined_written b w u = record { formula = joined_formula b w.formula u.formula; next = u.next }

-- the formula with those of the counts of regions
abbrev pub with_region_formulas : Layout → Written → Written
with_region_formulas l w = record { formula = conj (w.formula ∷ region_formulas l); next = w.next }

-- the columns of a relation of which the next free column behind the formula is this one
abbrev pub first_columns_of : Layout → ℕ → Columns
first_columns_of l next = record { known = range_with_len 0 (known_count l); unknown = range_with_len (known_count l) (next - known_count l); next = next }

-- ---- what the calls answer
abbrev pub flat_of : DeclaredFlat → Flat
flat_of f = record { row = f.row; parts = f.parts.items }

abbrev pub ways_of : DeclaredWays → Ways
ways_of w = record { formulas = formula_trees w.formulas.items; next = w.next }

abbrev pub written_of : DeclaredWritten → Written
written_of w = record { formula = formula_tree w.formula; next = w.next }

-- the formula and the next column, or Past exactly where b
abbrev pub WrittenAnswer : Bool → Written → Result DeclaredWritten RowFault → Type 0
WrittenAnswer b w (Ok x) = (written_of x ≡ w) × (b ≡ false)
WrittenAnswer b w (Err e) = IsRowFault b e

-- the ways are these now, or Past exactly where b
abbrev pub WaysAnswer : Bool → Ways → DeclaredWays → Result (Unit {0}) RowFault → Type 0
WaysAnswer b w new (Ok u) = (ways_of new ≡ w) × (b ≡ false)
WaysAnswer b w new (Err e) = IsRowFault b e

-- the rows of a way, or Past exactly where one of them passes the limit
abbrev pub RowsAnswer : AtomRows → Result SystemBuilder RowFault → Type 0
RowsAnswer a (Ok d) = rows_of d ≡ a
RowsAnswer a (Err e) = IsRowFault a.passes e

-- whether the flat form is some, and then it is the new one, or Past exactly where b
abbrev pub FlatAnswer : Bool → Option Flat → DeclaredFlat → Result Bool RowFault → Type 0
FlatAnswer b o new (Ok true) = (o ≡ Some (flat_of new)) × (b ≡ false)
FlatAnswer b o new (Ok false) = (o ≡ None) × (b ≡ false)
FlatAnswer b o new (Err e) = IsRowFault b e

abbrev pub DifferenceAnswer : Bool → Option Flat → Result (Option DeclaredFlat) RowFault → Type 0
DifferenceAnswer b o (Ok (Some f)) = (o ≡ Some (flat_of f)) × (b ≡ false)
DifferenceAnswer b o (Ok None) = (o ≡ None) × (b ≡ false)
DifferenceAnswer b o (Err e) = IsRowFault b e

abbrev pub FlatFormulaAnswer : Bool → Option Formula → Result (Option DeclaredFormula) RowFault → Type 0
FlatFormulaAnswer b o (Ok (Some f)) = (o ≡ Some (formula_tree f)) × (b ≡ false)
FlatFormulaAnswer b o (Ok None) = (o ≡ None) × (b ≡ false)
FlatFormulaAnswer b o (Err e) = IsRowFault b e

-- the number, or Past exactly where it passes the limit
abbrev pub NumberAnswer : ℤ → Result ℤ RowFault → Type 0
NumberAnswer z (Ok n) = (n ≡ z) × (passes z ≡ false)
NumberAnswer z (Err e) = IsRowFault (passes z) e

-- k times the value, unless the form has an `abs`
abbrev pub ScaledAnswer : Layout → TermTree → ℤ → Result (Option ℤ) RowFault → Type 0
ScaledAnswer l t k (Ok (Some m)) = ((abs_count t == 0) ≡ true) × (m ≡ scaled l t k) × (scaled_passes l t k ≡ false)
ScaledAnswer l t k (Ok None) = (abs_count t == 0) ≡ false
ScaledAnswer l t k (Err e) = IsRowFault ((abs_count t == 0) && scaled_passes l t k) e
