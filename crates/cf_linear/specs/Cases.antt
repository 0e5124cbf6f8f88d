-- The cases of a relation and their first systems.
use Rattle.std.specs.Prelude.{ℕ, zero, suc, ◌+◌, ◌-◌, ◌*◌, ◌^◌, ◌%◌, ◌==◌, ℤ, pos, negsuc, Bool, true, false, not, ◌&&◌, ◌||◌, List, [], ◌∷◌, ◌++◌, length, map, filter}
use Rattle.std.specs.List.{list_any, range_with_len, flat_map, fold}
use Rattle.cf_tree.specs.declared.base.Order.{Order}
use Rattle.cf_tree.specs.declared.base.Order.TheVariants.{Eq, Ne, Lt, Le, Gt, Ge}
use Rattle.cf_tree.specs.RelTree.{SetTree, TermTree, RelTree, rel_true, rel_false, rel_compare, rel_same_set, rel_other_set, rel_subset, rel_divides, rel_and, rel_or, rel_not}
use Rattle.cf_linear.specs.Rows.{Row, comb, put, row_passes}
use Rattle.cf_linear.specs.Systems.{System}
use Rattle.cf_linear.specs.Layout.{Layout, masks, set_count, covers, region_column, input_column, known_count, first_free, region_row}
use Rattle.cf_linear.specs.Written.{WrittenTree, write, plus, guard_rows, above_quotient, below_quotient, abs_count, constant_row}

-- an atom of a relation in which no negation is left
pub data Atom : Type 0 where
  atom_true : Atom
  atom_false : Atom
  atom_compare : Order → TermTree → TermTree → Atom
  atom_divides : ℤ → TermTree → Atom
  atom_not_divides : ℤ → TermTree → Atom
  -- each region of which the first set form and not the second is made is empty, and so the other way round
  atom_same : SetTree → SetTree → Atom
  atom_other : SetTree → SetTree → Atom
  atom_subset : SetTree → SetTree → Atom
  atom_not_subset : SetTree → SetTree → Atom

abbrev pub opposite : Order → Order
opposite Eq = Ne
opposite Ne = Eq
opposite Lt = Ge
opposite Le = Gt
opposite Gt = Le
opposite Ge = Lt

-- a relation of atoms alone
pub data Normal : Type 0 where
  normal_atom : Atom → Normal
  normal_and : Normal → Normal → Normal
  normal_or : Normal → Normal → Normal

-- the relation, where `holds` is true, or its negation, with the negations pushed inwards
abbrev pub negation_normal : Bool → RelTree → Normal
negation_normal true rel_true = normal_atom atom_true
negation_normal false rel_true = normal_atom atom_false
negation_normal true rel_false = normal_atom atom_false
negation_normal false rel_false = normal_atom atom_true
negation_normal true (rel_compare o a b) = normal_atom (atom_compare o a b)
negation_normal false (rel_compare o a b) = normal_atom (atom_compare (opposite o) a b)
negation_normal true (rel_same_set a b) = normal_atom (atom_same a b)
negation_normal false (rel_same_set a b) = normal_atom (atom_other a b)
negation_normal true (rel_other_set a b) = normal_atom (atom_other a b)
negation_normal false (rel_other_set a b) = normal_atom (atom_same a b)
negation_normal true (rel_subset a b) = normal_atom (atom_subset a b)
negation_normal false (rel_subset a b) = normal_atom (atom_not_subset a b)
negation_normal true (rel_divides k t) = normal_atom (atom_divides k t)
negation_normal false (rel_divides k t) = normal_atom (atom_not_divides k t)
negation_normal true (rel_and p q) = normal_and (negation_normal true p) (negation_normal true q)
negation_normal false (rel_and p q) = normal_or (negation_normal false p) (negation_normal false q)
negation_normal true (rel_or p q) = normal_or (negation_normal true p) (negation_normal true q)
negation_normal false (rel_or p q) = normal_and (negation_normal false p) (negation_normal false q)
negation_normal true (rel_not p) = negation_normal false p
negation_normal false (rel_not p) = negation_normal true p

-- ---- choices of signs
abbrev pub atom_signs : Atom → ℕ
atom_signs atom_true = 0
atom_signs atom_false = 0
atom_signs (atom_compare o a b) = abs_count a + abs_count b
atom_signs (atom_divides k t) = abs_count t
atom_signs (atom_not_divides k t) = abs_count t
atom_signs (atom_same a b) = 0
atom_signs (atom_other a b) = 0
atom_signs (atom_subset a b) = 0
atom_signs (atom_not_subset a b) = 0

-- the choices of n signs, the first varying slowest, plus (false) before minus (true)
abbrev pub sign_choices : ℕ → List (List Bool)
sign_choices zero = [] ∷ []
sign_choices (suc n) = map (λ ss. false ∷ ss) (sign_choices n) ++ map (λ ss. true ∷ ss) (sign_choices n)

-- an atom in one choice of signs
abbrev pub Signed : Type 0
Signed = Atom × List Bool

-- the atoms that stand for an atom: `!=` of numbers is first `<` and then `>`
abbrev pub atom_ways : Atom → List Atom
atom_ways (atom_compare Ne a b) = atom_compare Lt a b ∷ atom_compare Gt a b ∷ []
atom_ways (atom_compare Eq a b) = atom_compare Eq a b ∷ []
atom_ways (atom_compare Lt a b) = atom_compare Lt a b ∷ []
atom_ways (atom_compare Le a b) = atom_compare Le a b ∷ []
atom_ways (atom_compare Gt a b) = atom_compare Gt a b ∷ []
atom_ways (atom_compare Ge a b) = atom_compare Ge a b ∷ []
atom_ways atom_true = atom_true ∷ []
atom_ways atom_false = atom_false ∷ []
atom_ways (atom_divides k t) = atom_divides k t ∷ []
atom_ways (atom_not_divides k t) = atom_not_divides k t ∷ []
atom_ways (atom_same a b) = atom_same a b ∷ []
atom_ways (atom_other a b) = atom_other a b ∷ []
atom_ways (atom_subset a b) = atom_subset a b ∷ []
atom_ways (atom_not_subset a b) = atom_not_subset a b ∷ []

abbrev pub atom_cases : Atom → List Signed
atom_cases a = flat_map (λ ss. map (λ w. (w, ss)) (atom_ways a)) (sign_choices (atom_signs a))

-- the cases, each a list of signed atoms: those of the left side and then those of the right side of an `or`, and each left case with each right case of an `and`
unfoldable pub disjuncts : Normal → List (List Signed)
disjuncts (normal_atom a) = map (λ s. s ∷ []) (atom_cases a)
disjuncts (normal_or p q) = disjuncts p ++ disjuncts q
disjuncts (normal_and p q) = flat_map (λ c. map (λ d. c ++ d) (disjuncts q)) (disjuncts p)

-- how many cases there are
unfoldable pub case_count : Normal → ℕ
case_count (normal_atom a) = length (atom_ways a) * 2 ^ atom_signs a
case_count (normal_or p q) = case_count p + case_count q
case_count (normal_and p q) = case_count p * case_count q

-- ---- rows of atoms
pub record AtomRows : Type 0 where
  pub equations : List Row
  pub inequalities : List Row
  pub next : ℕ
  pub passes : Bool

-- guards and rows, and whether one of the rows passes the limit
abbrev pub atom_rows : List Row → List Row → List Row → ℕ → Bool → AtomRows
atom_rows guards equations inequalities next passes = record {
  equations = equations;
  inequalities = guards ++ inequalities;
  next = next;
  passes = passes || list_any row_passes (equations ++ inequalities);
}

abbrev pub less : Row → Row → Row
less r s = comb (pos 1) r (negsuc 0) s

-- the equations and the inequalities of `t` compared with `u`
abbrev pub compare_zero : Order → Row → Row → List Row
compare_zero Eq t u = less t u ∷ []
compare_zero Ne t u = []
compare_zero Lt t u = []
compare_zero Le t u = []
compare_zero Gt t u = []
compare_zero Ge t u = []

abbrev pub compare_nonneg : Order → Row → Row → List Row
compare_nonneg Eq t u = []
compare_nonneg Ne t u = []
compare_nonneg Lt t u = plus (less u t) (negsuc 0) ∷ []
compare_nonneg Le t u = less u t ∷ []
compare_nonneg Gt t u = plus (less t u) (negsuc 0) ∷ []
compare_nonneg Ge t u = less t u ∷ []

-- whether the region lies in the first and not in the second, and whether it lies in exactly one
abbrev pub in_first : Layout → SetTree → SetTree → ℕ → Bool
in_first l a b m = covers l a m && not (covers l b m)

abbrev pub in_one : Layout → SetTree → SetTree → ℕ → Bool
in_one l a b m = in_first l a b m || in_first l b a m

-- each such region is empty, or some of them is not
abbrev pub none_rows : Layout → (ℕ → Bool) → List Row
none_rows l p = map (λ m. put (region_column l m) (pos 1) []) (filter p (masks (set_count l)))

abbrev pub some_row : Layout → (ℕ → Bool) → Row
some_row l p = plus (region_row l p) (negsuc 0)

abbrev pub guards_of : WrittenTree → List Row
guards_of w = flat_map guard_rows w.guards

-- the rows of an atom in a choice of signs, the quotients having the columns from `next` on
unfoldable pub write_atom : Layout → Signed → ℕ → AtomRows
write_atom l (atom_true, ss) next = atom_rows [] [] [] next false
write_atom l (atom_false, ss) next = atom_rows [] [] (constant_row (negsuc 0) ∷ []) next false
write_atom l (atom_compare o a b, ss) next =
    let w = write l a ss next in
    let u = write l b w.signs w.next in
    atom_rows (guards_of w ++ guards_of u) (compare_zero o w.row u.row) (compare_nonneg o w.row u.row) u.next (w.passes || u.passes)
write_atom l (atom_divides k t, ss) next =
    let w = write l t ss next in
    atom_rows (guards_of w) (above_quotient w.next w.row k ∷ []) [] (w.next + 1) w.passes
write_atom l (atom_not_divides k t, ss) next =
    let w = write l t ss next in
    atom_rows (guards_of w) [] (plus (above_quotient w.next w.row k) (negsuc 0) ∷ below_quotient w.next w.row k ∷ []) (w.next + 1) w.passes
write_atom l (atom_same a b, ss) next = atom_rows [] (none_rows l (in_one l a b)) [] next false
write_atom l (atom_other a b, ss) next = atom_rows [] [] (some_row l (in_one l a b) ∷ []) next false
write_atom l (atom_subset a b, ss) next = atom_rows [] (none_rows l (in_first l a b)) [] next false
write_atom l (atom_not_subset a b, ss) next = atom_rows [] [] (some_row l (in_first l a b) ∷ []) next false

-- ---- the first system of a case
-- the sum of the counts of the regions in exactly the input sets of m, less the count of that input region
abbrev pub input_row : Layout → ℕ → Row
input_row l m = put (input_column l m) (negsuc 0) (region_row l (λ r. r % 2 ^ length l.inputs == m))

abbrev pub no_rows : Layout → AtomRows
no_rows l = record { equations = []; inequalities = []; next = first_free l; passes = false }

abbrev pub rows_then : Layout → AtomRows → Signed → AtomRows
rows_then l a s =
    let b = write_atom l s a.next in
    record { equations = a.equations ++ b.equations; inequalities = a.inequalities ++ b.inequalities; next = b.next; passes = a.passes || b.passes }

abbrev pub case_rows : Layout → List Signed → AtomRows
case_rows l c = fold (rows_then l) (no_rows l) c

unfoldable pub system_of_case : Layout → List Signed → System
system_of_case l c =
    let a = case_rows l c in
    record {
      known = range_with_len 0 (known_count l);
      unknown = range_with_len (known_count l) (a.next - known_count l);
      next = a.next;
      equations = a.equations ++ map (input_row l) (masks (length l.inputs));
      inequalities = a.inequalities ++ map (λ m. put (region_column l m) (pos 1) []) (masks (set_count l));
      needs = 0;
    }

-- the first systems of the cases of a relation, in order
unfoldable pub first_systems : Layout → RelTree → List System
first_systems l rel = map (system_of_case l) (disjuncts (negation_normal true rel))

-- whether a written or guard row passes the limit in some choice of signs
unfoldable pub written_passes : Layout → Normal → Bool
written_passes l (normal_atom a) = list_any (λ s. (write_atom l s (first_free l)).passes) (atom_cases a)
written_passes l (normal_and p q) = written_passes l p || written_passes l q
written_passes l (normal_or p q) = written_passes l p || written_passes l q
