-- The rows of a case that are written so far.
use Rattle.std.specs.Prelude.{◌≡◌, ℕ, ◌+◌, ◌-◌, ◌≤◌, ℤ, pos, negsuc, Bool, true, false, ◌||◌, List, [], ◌∷◌, ◌++◌, map, length, Result, Ok, Err}
use Rattle.std.specs.List.{fold, list_any, range_with_len, flat_map}
use Rattle.cf_tree.specs.declared.base.Order.{Order}
use Rattle.cf_tree.specs.Relation.{IsDivisor}
use Rattle.cf_tree.specs.RelTree.{SetTree, union_of, diff_of, RelTree, rel_true, rel_false, rel_compare, rel_same_set, rel_other_set, rel_subset, rel_divides}
use Rattle.cf_tree.specs.RelTree.{rel_and, rel_or, rel_not}
use Rattle.cf_linear.specs.declared.refusal.RowFault.{RowFault}
use Rattle.cf_linear.specs.Rows.{Row, put, row_passes}
use Rattle.cf_linear.specs.Parts.{IsRowFault}
use Rattle.cf_linear.specs.Systems.{System}
use Rattle.cf_linear.specs.Layout.{Layout, masks, set_count, known_count, region_column}
use Rattle.cf_linear.specs.Written.{constant_row, WrittenTree, GuardTree, sign_guard, quotient_guard, plus, above_quotient, below_quotient, guard_rows}
use Rattle.cf_linear.specs.Written.{quotient_count}
use Rattle.cf_linear.specs.Cases.{AtomRows, Signed, atom_rows, rows_then, compare_zero, compare_nonneg, guards_of, in_first, in_one, none_rows, some_row}
use Rattle.cf_linear.specs.Cases.{input_row}
use Rattle.cf_cases.specs.declared.system_builder.SystemBuilder.{SystemBuilder}
use Rattle.cf_cases.specs.declared.regions.Regions.{Regions}
use Rattle.cf_cases.specs.declared.regions.Regions.TheVariants.{InOne, InFirst}

abbrev pub rows_of : SystemBuilder → AtomRows
rows_of d = record { equations = d.equations.items; inequalities = d.inequalities.items; next = d.next; passes = false }

-- the rows with those of more atoms
abbrev pub with_case : Layout → AtomRows → List Signed → AtomRows
with_case l a c = fold (rows_then l) a c

-- the rows a and then the rows b
abbrev pub rows_more : AtomRows → AtomRows → AtomRows
rows_more a b = record { equations = a.equations ++ b.equations; inequalities = a.inequalities ++ b.inequalities; next = b.next; passes = a.passes || b.passes }

-- the rows with these equations and inequalities
abbrev pub with_rows : AtomRows → List Row → List Row → AtomRows
with_rows a es is = record {
  equations = a.equations ++ es;
  inequalities = a.inequalities ++ is;
  next = a.next;
  passes = a.passes ||
      list_any row_passes (es ++ is);
}

-- the rows with those of guards of which no row passes the limit
abbrev pub with_guards : AtomRows → List GuardTree → AtomRows
with_guards a gs = record { equations = a.equations; inequalities = a.inequalities ++ flat_map guard_rows gs; next = a.next; passes = a.passes }

-- no row of the guard passes the limit
abbrev pub IsFine : GuardTree → Type 0
IsFine (sign_guard r) = Unit {0}
IsFine (quotient_guard c r k) = (1 ≤ c) × IsDivisor k × (row_passes (above_quotient c r k) ≡ false) × (row_passes (below_quotient c r k) ≡ false)

-- a written form of which no row passes the limit
abbrev pub written_as : Row → List GuardTree → ℕ → WrittenTree
written_as r gs next = record { row = r; guards = gs; next = next; signs = []; passes = false }

-- the rows with those of a comparison of the row r, of which these are the guards, with the written form u
abbrev pub with_comparison : AtomRows → Order → Row → List GuardTree → WrittenTree → AtomRows
with_comparison a o r gs u = record {
  equations = a.equations ++ compare_zero o r u.row;
  inequalities = a.inequalities ++ ((flat_map guard_rows gs ++ guards_of u) ++ compare_nonneg o r u.row);
  next = u.next;
  passes = u.passes || list_any row_passes (compare_zero o r u.row ++ compare_nonneg o r u.row);
}

-- the rows of the atom that k divides the written form w, where `holds` is true, or that it does not
abbrev pub divided : Bool → ℤ → WrittenTree → AtomRows
divided true k w = atom_rows (guards_of w) (above_quotient w.next w.row k ∷ []) [] (w.next + 1) w.passes
divided false k w = atom_rows (guards_of w) [] (plus (above_quotient w.next w.row k) (negsuc 0) ∷ below_quotient w.next w.row k ∷ []) (w.next + 1) w.passes

-- the rows of true, or of false
abbrev pub false_rows : Bool → List Row
false_rows true = []
false_rows false = constant_row (negsuc 0) ∷ []

-- whether a region is one of those that tell two set forms apart
abbrev pub apart : Regions → Layout → SetTree → SetTree → ℕ → Bool
apart InOne l a b = in_one l a b
apart InFirst l a b = in_first l a b

-- the set form of what lies in these regions
abbrev pub apart_form : Regions → SetTree → SetTree → SetTree
apart_form InOne a b = union_of (diff_of a b) (diff_of b a)
apart_form InFirst a b = diff_of a b

-- the entry 1 at the column, if it is wanted
abbrev pub entries_if : Bool → ℕ → Row
entries_if true c = (c, pos 1) ∷ []
entries_if false c = []

-- each region that passes is empty, where `empty` is true, or some of them is not
abbrev pub region_rows : Bool → AtomRows → Layout → (ℕ → Bool) → AtomRows
region_rows true a l p = with_rows a (none_rows l p) []
region_rows false a l p = with_rows a [] (some_row l p ∷ [])

-- of each column of the row, the row of the column alone
abbrev pub column_rows : Row → List Row
column_rows r = map (λ e. put e.0 (pos 1) []) r

-- any answer but Past
abbrev pub NotPast : Result Row RowFault → Type 0
NotPast (Ok r) = Unit {0}
NotPast (Err e) = IsRowFault false e

-- the builder holds the rows, or Past where one of them passes the limit
abbrev pub BuilderAnswer : AtomRows → SystemBuilder → Result (Unit {0}) RowFault → Type 0
BuilderAnswer a d (Ok u) = rows_of d ≡ a
BuilderAnswer a d (Err e) = IsRowFault a.passes e

-- the system of these rows before any step
abbrev pub system_with : Layout → ℕ → List Row → List Row → System
system_with l next es is = record {
  known = range_with_len 0 (known_count l);
  unknown = range_with_len (known_count l) (next - known_count l);
  next = next;
  equations = es;
  inequalities = is;
  needs = 0;
}

-- the first system of these rows
abbrev pub first_system : Layout → AtomRows → System
first_system l a =
    system_with l a.next (a.equations ++ map (input_row l) (masks (length l.inputs))) (a.inequalities ++
    map (λ m. put (region_column l m) (pos 1) []) (masks (set_count l)))

-- how many quotients a relation has at most
abbrev pub rel_quotients : RelTree → ℕ
rel_quotients rel_true = 0
rel_quotients rel_false = 0
rel_quotients (rel_compare o a b) = quotient_count a + quotient_count b
rel_quotients (rel_same_set a b) = 0
rel_quotients (rel_other_set a b) = 0
rel_quotients (rel_subset a b) = 0
rel_quotients (rel_divides k t) = quotient_count t + 1
rel_quotients (rel_and p q) = rel_quotients p + rel_quotients q
rel_quotients (rel_or p q) = rel_quotients p + rel_quotients q
rel_quotients (rel_not p) = rel_quotients p
