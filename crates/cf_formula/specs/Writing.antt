-- A relation as one formula over rows, and the columns of its quotients.
use Rattle.std.specs.Prelude.{ℕ, ◌+◌, ◌-◌, ◌%◌, ◌^◌, ◌==◌, nat_le, nat_lt, int_lt, ℤ, pos, negsuc, neg_ℤ, ◌*ℤ◌, List, [], ◌∷◌, ◌++◌, map, filter, not, length, Option, Some, None, option_and_then, Bool, true, ◌&&◌, if◌then◌else◌}
use Rattle.std.specs.List.{fold, range_with_len}
use Rattle.cf_tree.specs.declared.base.Order.{Order}
use Rattle.cf_tree.specs.declared.base.Order.TheVariants.{Eq, Ne, Lt, Le, Gt, Ge}
use Rattle.cf_tree.specs.Relation.{is_fixed}
use Rattle.cf_tree.specs.RelTree.{TermTree, term_lit, term_var, term_card, term_neg, term_add, term_sub, term_mul, term_div, term_mod, term_abs, RelTree}
use Rattle.cf_linear.specs.Cases.{Atom, atom_compare, Normal, normal_atom, normal_and, normal_or, negation_normal, Signed, atom_cases, AtomRows, write_atom, input_row}
use Rattle.cf_linear.specs.Layout.{Layout, masks, set_count, region_column, known_count, first_free}
use Rattle.cf_linear.specs.Rows.{Row, entry, put, comb}
use Rattle.cf_linear.specs.Written.{write, plus, abs_count, quotient_count}
use Rattle.cf_formula.specs.Atoms.{ge, eq}
use Rattle.cf_formula.specs.Formulas.{Formula, always}
use Rattle.cf_formula.specs.Members.{conj, disj}
use Rattle.cf_formula.specs.States.{Conditions, add, no_conditions, Columns}

-- a formula, and the next free column
pub record Written : Type 0 where
  pub formula : Formula
  pub next : ℕ

-- ---- an atom by its ways
pub record Ways : Type 0 where
  pub formulas : List Formula
  pub next : ℕ

-- all rows of the atom
abbrev pub rows_formula : AtomRows → Formula
rows_formula a = conj (map eq a.equations ++ map ge a.inequalities)

-- one way more, with quotients of its own
abbrev pub with_way : Layout → Ways → Signed → Ways
with_way l w s = record { formulas = w.formulas ++ (rows_formula (write_atom l s w.next) ∷ []); next = (write_atom l s w.next).next }

abbrev pub ways_written : Layout → Atom → ℕ → Written
ways_written l a next =
    let w = fold (with_way l) (record { formulas = []; next = next }) (atom_cases a) in record { formula = disj w.formulas; next = w.next }

-- ---- a comparison with few absolute values
-- a row, and absolute values of rows times numbers
pub record Flat : Type 0 where
  pub row : Row
  pub parts : List (ℤ × Row)

-- the row of a form without `abs`, `div` and `mod`
abbrev pub plain_row : Layout → TermTree → Row
plain_row l t = (write l t [] (first_free l)).row

abbrev pub is_plain : TermTree → Bool
is_plain t = (abs_count t == 0) && (quotient_count t == 0)

abbrev pub with_plain : Layout → TermTree → ℤ → Flat → Option Flat
with_plain l t k f = (if is_plain t then Some (record { row = comb (pos 1) f.row k (plain_row l t); parts = f.parts }) else None)

-- k times the form more, if each `abs` in it stands over a form without `abs`, `div` and `mod`
abbrev pub flattened : Layout → TermTree → ℤ → Flat → Option Flat
flattened l (term_lit n) k f = with_plain l (term_lit n) k f
flattened l (term_var x) k f = with_plain l (term_var x) k f
flattened l (term_card s) k f = with_plain l (term_card s) k f
flattened l (term_neg a) k f = flattened l a (neg_ℤ k) f
flattened l (term_add a b) k f = option_and_then (flattened l b k) (flattened l a k f)
flattened l (term_sub a b) k f = option_and_then (flattened l b (neg_ℤ k)) (flattened l a k f)
flattened l (term_mul a b) k f =
    (if is_fixed a then (if abs_count a == 0 then flattened l b (k *ℤ entry (plain_row l a) 0) f else None)
    else (if abs_count b == 0 then flattened l a (k *ℤ entry (plain_row l b) 0) f else None))
flattened l (term_div a n) k f = with_plain l (term_div a n) k f
flattened l (term_mod a n) k f = with_plain l (term_mod a n) k f
flattened l (term_abs a) k f = (if is_plain a then Some (record { row = f.row; parts = f.parts ++ ((k, plain_row l a) ∷ []) }) else None)

-- the row and the absolute values are at least 0 together: both signs of what is taken away, and one sign of what is added
abbrev pub with_abs : Row → List (ℤ × Row) → Formula
with_abs r [] = ge r
with_abs r ((k, s) ∷ parts) =
    (if int_lt k (pos 0) then conj (with_abs (comb (pos 1) r k s) parts ∷ with_abs (comb (pos 1) r (neg_ℤ k) s) parts ∷ [])
    else disj (with_abs (comb (pos 1) r k s) parts ∷ with_abs (comb (pos 1) r (neg_ℤ k) s) parts ∷ []))

-- what is taken away first
abbrev pub in_order : List (ℤ × Row) → List (ℤ × Row)
in_order parts = filter (λ (k, s). not (int_lt (pos 0) k)) parts ++ filter (λ (k, s). int_lt (pos 0) k) parts

abbrev pub turned_parts : List (ℤ × Row) → List (ℤ × Row)
turned_parts parts = in_order (map (λ (k, s). (neg_ℤ k, s)) (in_order parts))

-- at least d, and at most -d
abbrev pub at_least_by : ℤ → Flat → Formula
at_least_by d f = with_abs (plus f.row (neg_ℤ d)) (in_order f.parts)

abbrev pub at_most_by : ℤ → Flat → Formula
at_most_by d f = with_abs (plus (comb (negsuc 0) f.row (pos 0) []) (neg_ℤ d)) (turned_parts f.parts)

-- the comparison of the flat form with 0
abbrev pub compared : Order → Flat → Formula
compared Ge f = at_least_by (pos 0) f
compared Gt f = at_least_by (pos 1) f
compared Le f = at_most_by (pos 0) f
compared Lt f = at_most_by (pos 1) f
compared Eq f = conj (at_least_by (pos 0) f ∷ at_most_by (pos 0) f ∷ [])
compared Ne f = disj (at_most_by (pos 1) f ∷ at_least_by (pos 1) f ∷ [])

abbrev pub no_flat : Flat
no_flat = record { row = []; parts = [] }

-- t less u, where both together have 1 to 3 absolute values
abbrev pub flat_difference : Layout → TermTree → TermTree → Option Flat
flat_difference l t u =
    (if nat_lt 0 (abs_count t + abs_count u) && nat_le (abs_count t + abs_count u) 3
    then option_and_then (flattened l u (negsuc 0)) (flattened l t (pos 1) no_flat) else None)

abbrev pub flat_or_ways : Layout → Atom → Order → ℕ → Option Flat → Written
flat_or_ways l a o next (Some f) = record { formula = compared o f; next = next }
flat_or_ways l a o next None = ways_written l a next

abbrev pub atom_written : Layout → Atom → ℕ → Written
atom_written l (atom_compare o t u) next = flat_or_ways l (atom_compare o t u) o next (flat_difference l t u)
atom_written l a next = ways_written l a next

-- ---- a relation
abbrev pub normal_written : Layout → Normal → ℕ → Written
normal_written l (normal_atom a) next = atom_written l a next
normal_written l (normal_and p q) next =
    let w = normal_written l p next in
    let u = normal_written l q w.next in
    record { formula = conj (w.formula ∷ u.formula ∷ []); next = u.next }
normal_written l (normal_or p q) next =
    let w = normal_written l p next in
    let u = normal_written l q w.next in
    record { formula = disj (w.formula ∷ u.formula ∷ []); next = u.next }

-- the counts of the regions add up to those of the input regions, and are at least 0
abbrev pub region_formulas : Layout → List Formula
region_formulas l =
    map (λ m. eq (input_row l m)) (masks (length l.inputs)) ++ map (λ m. ge (put (region_column l m) (pos 1) [])) (masks (set_count l))

abbrev pub written : Layout → RelTree → Written
written l rel =
    let w = normal_written l (negation_normal true rel) (first_free l) in
    record { formula = conj (w.formula ∷ region_formulas l); next = w.next }

-- the first columns and conditions of a relation
abbrev pub first_columns : Layout → RelTree → Columns
first_columns l rel = record {
  known = range_with_len 0 (known_count l);
  unknown = range_with_len (known_count l) ((written l rel).next - known_count l);
  next = (written l rel).next;
}

abbrev pub first_conditions : Layout → RelTree → Conditions
first_conditions l rel = add (written l rel).formula no_conditions
