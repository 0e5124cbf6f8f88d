-- Rows with opposite keys.
use Rattle.std.proofs.Common.{◌≡◌, ℕ, ◌+◌, ◌<◌, ◌≤◌, ℤ, pos, negsuc, neg_ℤ, ◌+ℤ◌, List, [], true, false, not, ◌||◌, refl, sym, ◌∙◌, ap, arith, get_or, length, drop}
use Rattle.std.specs.Prelude.{◌≤ℤ◌, ◌<ℤ◌, int_lt}
use Rattle.std.specs.List.{list_any}
use Rattle.std.proofs.lemmas.Int.{ints}
use Rattle.std.proofs.Math.ListN.{drop_of_length-le}
use Rattle.cf_linear.specs.Arm.{negated}
use Rattle.cf_linear.specs.Rows.{Row, Rises, IsRow, entry, same_row}
use Rattle.cf_linear.proofs.Canonical.{row_ext}
use Rattle.cf_linear.proofs.CombLemmas.{Rises-comb, Rises-without}
use Rattle.cf_linear.proofs.RowLemmas.{entry-comb}
use Rattle.cf_linear.proofs.RowTests.{same_row-iff}
use Rattle.cf_formula.specs.declared.formula.Formula.{Formula as DeclaredFormula}
use Rattle.cf_formula.specs.Atoms.{key, are_opposite}
use Rattle.cf_formula.specs.Formulas.{Formula}
use Rattle.cf_formula.specs.FormulaView.{formula_tree, formula_trees}
use Rattle.cf_formula.specs.Members.{opposes, has_opposite}
use Rattle.cf_formula.proofs.FormulaLists.{tree_at}
use Rattle.cf_formula.proofs.TestLemmas.{both_ways, ge_is, lt_is}

-- ---- twice turned
twice : (r : Row) → Rises 0 r → negated (negated r) ≡ r
twice r p =
    row_ext 0 (negated (negated r)) r (Rises-comb 0 (negsuc 0) (negated r) (pos 0) [] (Rises-comb 0 (negsuc 0) r (pos 0) [] p tt) tt) p
    (λ x. entry-comb x (negsuc 0) (negated r) (pos 0) [] ∙ rw (entry-comb x (negsuc 0) r (pos 0) []) (omega (arith, ints)))

turned_test : (r s : Row) → Rises 0 r → Rises 0 s → same_row s (negated r) ≡ same_row r (negated s)
turned_test r s p q =
    both_ways (same_row s (negated r)) (same_row r (negated s))
    (λ e. let i = (same_row-iff s (negated r)).0 e in (same_row-iff r (negated s)).1 (sym (twice r p) ∙ ap negated (sym i)))
    (λ e. let i = (same_row-iff r (negated s)).0 e in (same_row-iff s (negated r)).1 (sym (twice s q) ∙ ap negated (sym i)))

key_test : (r s : Row) → IsRow r → IsRow s → same_row (key s) (negated (key r)) ≡ same_row (key r) (negated (key s))
key_test r s p q = turned_test (key r) (key s) (Rises-without 0 0 r p.0) (Rises-without 0 0 s q.0)

pub opposite_keys : (r s o : Row) → IsRow r → IsRow s → o ≡ negated (key r) → same_row (key s) o ≡ false → false ≡ are_opposite r s
opposite_keys r s o p q e f =
    let t : same_row (key r) (negated (key s)) ≡ false = sym (key_test r s p q) ∙ sym (ap (same_row (key s)) e) ∙ f in rw t refl

pub same_keys : (r s o : Row) → IsRow r → IsRow s → o ≡ negated (key r) → same_row (key s) o ≡ true →
    not (int_lt (entry r 0 +ℤ entry s 0) (negsuc 0)) ≡ are_opposite r s
same_keys r s o p q e f =
    let t : same_row (key r) (negated (key s)) ≡ true = sym (key_test r s p q) ∙ sym (ap (same_row (key s)) e) ∙ f in rw t refl

-- ---- one member after the other
pub opposed_next : (r : Row) (fs : List DeclaredFormula) (i : ℕ) (f : DeclaredFormula) → i < length fs → f ≡ get_or fs i f →
    list_any (opposes r) (formula_trees (drop i fs)) ≡ (opposes r (formula_tree f) || list_any (opposes r) (formula_trees (drop (i + 1) fs)))
opposed_next r fs i f h e = ap (list_any (opposes r)) (tree_at fs i f h e)

pub opposed_end : (r : Row) (fs : List DeclaredFormula) (i : ℕ) → length fs ≤ i → list_any (opposes r) (formula_trees (drop i fs)) ≡ false
opposed_end r fs i h = rw (drop_of_length-le fs h) refl

pub opposite_next : (all : List Formula) (fs : List DeclaredFormula) (i : ℕ) (f : DeclaredFormula) → i < length fs → f ≡ get_or fs i f →
    list_any (has_opposite all) (formula_trees (drop i fs)) ≡
    (has_opposite all (formula_tree f) || list_any (has_opposite all) (formula_trees (drop (i + 1) fs)))
opposite_next all fs i f h e = ap (list_any (has_opposite all)) (tree_at fs i f h e)

pub opposite_end : (all : List Formula) (fs : List DeclaredFormula) (i : ℕ) → length fs ≤ i → list_any (has_opposite all) (formula_trees (drop i fs)) ≡ false
opposite_end all fs i h = rw (drop_of_length-le fs h) refl

-- ---- constants
pub great_sum : (a b : ℤ) → (negsuc 0 +ℤ neg_ℤ b) ≤ℤ a → true ≡ not (int_lt (a +ℤ b) (negsuc 0))
great_sum a b h = let t = ge_is (a +ℤ b) (negsuc 0) (omega (arith, ints)) in rw t refl

pub small_sum : (a b : ℤ) → a <ℤ (negsuc 0 +ℤ neg_ℤ b) → false ≡ not (int_lt (a +ℤ b) (negsuc 0))
small_sum a b h = let t = lt_is (a +ℤ b) (negsuc 0) (omega (arith, ints)) in rw t refl
