-- The code that writes relations as formulas.
use Rattle.std.proofs.Common.{◌≡◌, ℕ, suc, ℤ, pos, negsuc, neg_ℤ, ◌+◌, ◌<◌, ◌≤◌, List, [], ◌∷◌, ◌++◌, map, filter, drop, get_or, length, Bool, true, false, cond, not, ◌||◌, Option, Some, None, Result, Ok, refl, sym, ◌∙◌, ap, arith, append_assoc, add-one, drop-cons, subst}
use Rattle.std.specs.Prelude.{int_lt}
use Rattle.std.proofs.lemmas.List.{append-nil, get_or-map, length-map}
use Rattle.std.proofs.Math.ListN.{drop_of_length-le}
use Rattle.cf_tree.specs.declared.base.Order.{Order}
use Rattle.cf_tree.specs.declared.base.Order.TheVariants.{Eq, Ne, Lt, Le, Gt, Ge}
use Rattle.cf_tree.specs.RelTree.{TermTree, RelTree, rel_true, rel_false, rel_compare, rel_same_set, rel_other_set, rel_subset, rel_divides, rel_and, rel_or, rel_not}
use Rattle.cf_linear.specs.Cases.{Atom, atom_true, atom_false, atom_compare, atom_divides, atom_not_divides, atom_same, atom_other, atom_subset, atom_not_subset, Normal, normal_atom, negation_normal, Signed, atom_cases, disjuncts, case_count, write_atom, input_row}
use Rattle.cf_linear.specs.declared.refusal.RowFault.{RowFault}
use Rattle.cf_linear.specs.declared.refusal.RowFault.TheVariants.{Past, NoMemory}
use Rattle.cf_linear.specs.Layout.{Layout, first_free, masks, set_count, region_column}
use Rattle.cf_linear.specs.Rows.{Row, put, comb}
use Rattle.cf_linear.specs.Written.{plus}
use Rattle.cf_formula.specs.Members.{conj, disj}
use Rattle.cf_linear.specs.Parts.{IsRowFault}
use Rattle.cf_cases.specs.Counts.{order_as}
use Rattle.cf_cases.specs.Picking.{atom_at, case_by, joined}
use Rattle.cf_cases.specs.SystemBuilders.{with_case}
use Rattle.cf_cases.proofs.PartLaws.{plain-and, plain-or}
use Rattle.cf_cases.proofs.PickLaws.{length-cases, case-by}
use Rattle.cf_formula.specs.Atoms.{ge, eq}
use Rattle.cf_formula.specs.FormulaView.{formula_tree}
use Rattle.cf_formula.specs.Answers.{FormulaAnswer}
use Rattle.cf_formula.specs.declared.formula.Formula.{Formula as DeclaredFormula}
use Rattle.cf_formula.specs.declared.ways.Written.{Written as DeclaredWritten}
use Rattle.cf_formula.specs.Formulas.{Formula}
use Rattle.cf_formula.specs.Writing.{Written, Ways, with_way, ways_written, Flat, with_abs, in_order, turned_parts, compared, flat_difference, flat_or_ways, atom_written, normal_written, region_formulas, written, first_columns, first_conditions}
use Rattle.cf_formula.specs.States.{add, no_conditions}
use Rattle.cf_formula.specs.WritingAnswers.{IsAtom, atom_in, way_count, empty_rows, ways_pass, with_rows_way, all_ways, formula_behind, flat_formula, flat_passes, flat_in, flat_in_passes, with_abs_passes, part_passes, with_part, at_least_passes, at_most_passes, compared_passes, joined_formula, written_or, normal_passes, joined_written, first_columns_of, WrittenAnswer}

-- ---- lists that a loop walks
pub mapped_step : {A B : Type 0} (f : A → B) (out new whole : List B) (x : A) (rest : List A) (y : B) → y ≡ f x → new ≡ out ++ (y ∷ []) →
    out ++ map f (x ∷ rest) ≡ whole → new ++ map f rest ≡ whole
mapped_step f out new whole x rest y e n inv =
    ap (λ s. s ++ map f rest) n ∙ append_assoc out (y ∷ []) (map f rest) ∙ ap (λ z. out ++ (z ∷ map f rest)) e ∙ inv

pub kept_step : {A : Type 0} (p : A → Bool) (out new whole : List A) (x : A) (rest : List A) (b : Bool) → b ≡ p x →
    new ≡ out ++ cond b (x ∷ []) [] →
    out ++ filter p (x ∷ rest) ≡ whole → new ++ filter p rest ≡ whole
kept_step p out new whole x rest true e n inv = ap (λ s. s ++ filter p rest) n ∙ append_assoc out (x ∷ []) (filter p rest) ∙ (rw (← e) at inv)
kept_step p out new whole x rest false e n inv = ap (λ s. s ++ filter p rest) (n ∙ append-nil out) ∙ (rw (← e) at inv)

-- ---- absolute values
answer_as : (a b : Bool) (f g : Formula) (y : Result DeclaredFormula RowFault) → a ≡ b → f ≡ g → FormulaAnswer b g y → FormulaAnswer a f y
answer_as a b f g y e h k = rw (e, h) k

by_sign : (b : Bool) (f g : Formula) → cond b (conj (f ∷ g ∷ [])) (disj (f ∷ g ∷ [])) ≡ joined_formula b f g
by_sign true f g = refl
by_sign false f g = refl

parts_pass : (r : Row) (p q : ℤ × Row) (parts all : List (ℤ × Row)) → all ≡ p ∷ parts → q ≡ (neg_ℤ p.0, p.1) →
    with_abs_passes r all ≡ (part_passes r p parts || part_passes r q parts)
parts_pass r (k, s) q parts all is t = rw (is, t) refl

parts_made : (r : Row) (p q : ℤ × Row) (parts all : List (ℤ × Row)) → all ≡ p ∷ parts → q ≡ (neg_ℤ p.0, p.1) →
    with_abs r all ≡ joined_formula (int_lt p.0 (pos 0)) (with_part r p parts) (with_part r q parts)
parts_made r (k, s) q parts all is t = rw (is, t) (by_sign (int_lt k (pos 0)) (with_part r (k, s) parts) (with_part r (neg_ℤ k, s) parts))

pub with_abs_by : (r : Row) (p q : ℤ × Row) (parts all : List (ℤ × Row)) (y : Result DeclaredFormula RowFault) →
    FormulaAnswer (part_passes r p parts || part_passes r q parts) (joined_formula (int_lt p.0 (pos 0)) (with_part r p parts) (with_part r q parts)) y →
    all ≡ p ∷ parts → q ≡ (neg_ℤ p.0, p.1) → FormulaAnswer (with_abs_passes r all) (with_abs r all) y
with_abs_by r p q parts all y h is t =
    answer_as (with_abs_passes r all) (part_passes r p parts || part_passes r q parts) (with_abs r all)
    (joined_formula (int_lt p.0 (pos 0)) (with_part r p parts) (with_part r q parts)) y (parts_pass r p q parts all is t) (parts_made r p q parts all is t) h

pub ne_made : (f : Flat) (x y z : Formula) →
    (x ≡ with_abs (plus (comb (negsuc 0) f.row (pos 0) []) (negsuc 0)) (turned_parts f.parts)) × (at_most_passes (negsuc 0) f ≡ false) →
    (y ≡ with_abs (plus f.row (negsuc 0)) (in_order f.parts)) × (at_least_passes (negsuc 0) f ≡ false) → z ≡ joined_formula false x y →
    (z ≡ compared Ne f) × (compared_passes Ne f ≡ false)
ne_made f x y z p q j = (
  j ∙ ap (λ a. disj (a ∷ y ∷ [])) p.0 ∙
      ap (λ a. disj (with_abs (plus (comb (negsuc 0) f.row (pos 0) []) (negsuc 0)) (turned_parts f.parts) ∷ a ∷ [])) q.0,
  rw (p.1, q.1) refl,
)

-- ---- atoms
pub normal_is : (d : Bool) (r : RelTree) → IsAtom r → negation_normal d r ≡ normal_atom (atom_in (negation_normal d r))
normal_is true rel_true h = refl
normal_is false rel_true h = refl
normal_is true rel_false h = refl
normal_is false rel_false h = refl
normal_is true (rel_compare o a b) h = refl
normal_is false (rel_compare o a b) h = refl
normal_is true (rel_same_set a b) h = refl
normal_is false (rel_same_set a b) h = refl
normal_is true (rel_other_set a b) h = refl
normal_is false (rel_other_set a b) h = refl
normal_is true (rel_subset a b) h = refl
normal_is false (rel_subset a b) h = refl
normal_is true (rel_divides k t) h = refl
normal_is false (rel_divides k t) h = refl
normal_is d (rel_and p q) h = absurd h
normal_is d (rel_or p q) h = absurd h
normal_is d (rel_not p) h = absurd h

pub compare_is : (d : Bool) (o : Order) (t u : TermTree) → atom_in (negation_normal d (rel_compare o t u)) ≡ atom_compare (order_as d o) t u
compare_is true o t u = refl
compare_is false o t u = refl

-- ---- ways
pub way_count_is : (d : Bool) (r : RelTree) → IsAtom r → way_count d r ≡ case_count (negation_normal d r)
unfolding case_count
way_count_is true rel_true h = refl
way_count_is false rel_true h = refl
way_count_is true rel_false h = refl
way_count_is false rel_false h = refl
way_count_is true (rel_compare Eq a b) h = refl
way_count_is true (rel_compare Ne a b) h = refl
way_count_is true (rel_compare Lt a b) h = refl
way_count_is true (rel_compare Le a b) h = refl
way_count_is true (rel_compare Gt a b) h = refl
way_count_is true (rel_compare Ge a b) h = refl
way_count_is false (rel_compare Eq a b) h = refl
way_count_is false (rel_compare Ne a b) h = refl
way_count_is false (rel_compare Lt a b) h = refl
way_count_is false (rel_compare Le a b) h = refl
way_count_is false (rel_compare Gt a b) h = refl
way_count_is false (rel_compare Ge a b) h = refl
way_count_is true (rel_same_set a b) h = refl
way_count_is false (rel_same_set a b) h = refl
way_count_is true (rel_other_set a b) h = refl
way_count_is false (rel_other_set a b) h = refl
way_count_is true (rel_subset a b) h = refl
way_count_is false (rel_subset a b) h = refl
way_count_is true (rel_divides k t) h = omega arith
way_count_is false (rel_divides k t) h = omega arith
way_count_is d (rel_and p q) h = absurd h
way_count_is d (rel_or p q) h = absurd h
way_count_is d (rel_not p) h = absurd h

ways_long : (a : Atom) → length (atom_cases a) ≡ case_count (normal_atom a)
unfolding disjuncts
ways_long a = sym (length-map (atom_cases a) (λ (s : Signed). s ∷ [])) ∙ length-cases (normal_atom a)

way_is : (a : Atom) (i : ℕ) → i < case_count (normal_atom a) → drop i (atom_cases a) ≡ atom_at a i ∷ drop (i + 1) (atom_cases a)
unfolding disjuncts case_by
way_is a i h =
    let k : i < length (atom_cases a) = omega (arith, ways_long a) in
    let e : get_or (atom_cases a) i (atom_at a i) ∷ [] ≡ atom_at a i ∷ [] =
    sym (get_or-map (λ (s : Signed). s ∷ []) (atom_cases a) i (atom_at a i) [] k) ∙ case-by (normal_atom a) i h in
    let g : get_or (atom_cases a) i (atom_at a i) ≡ atom_at a i = cc e in
    rw add-one (drop-cons (atom_cases a) i (atom_at a i) k ∙ ap (λ s. s ∷ drop (suc i) (atom_cases a)) g)

pub is_way : (d : Bool) (r : RelTree) (i n : ℕ) → IsAtom r → n ≡ way_count d r → i < n → i < case_count (negation_normal d r)
is_way d r i n h e f = subst (λ m. i < m) (e ∙ way_count_is d r h) f

pub no_way : (d : Bool) (r : RelTree) (i n : ℕ) → IsAtom r → n ≡ way_count d r → n ≤ i → case_count (negation_normal d r) ≤ i
no_way d r i n h e f = subst (λ m. m ≤ i) (e ∙ way_count_is d r h) f

case_is : (a : Atom) (i : ℕ) → case_by (normal_atom a) i ≡ atom_at a i ∷ []
unfolding case_by
case_is a i = refl

-- the ways from an index on are still to come
pub record WaysLeft (l : Layout) (a : Atom) (i : ℕ) (before now : Ways) : Type 0 where
  pub above : first_free l ≤ now.next
  pub more : before.next ≤ now.next
  pub formulas : all_ways l now (drop i (atom_cases a)) ≡ all_ways l before (atom_cases a)
  pub fits : ways_pass l (drop i (atom_cases a)) now.next ≡ ways_pass l (atom_cases a) before.next

pub all_left : (l : Layout) (a : Atom) (w : Ways) → first_free l ≤ w.next → WaysLeft l a 0 w w
all_left l a w h = record { above = h; more = omega arith; formulas = refl; fits = refl }

pub one_way : (l : Layout) (n : Normal) (a : Atom) (i : ℕ) (before now next : Ways) → n ≡ normal_atom a → i < case_count n →
    next ≡ with_rows_way now (with_case l (empty_rows now.next) (case_by n i)) → (with_case l (empty_rows now.next) (case_by n i)).passes ≡ false →
    now.next ≤ next.next → WaysLeft l a i before now → WaysLeft l a (i + 1) before next
one_way l n a i before now next e h g f m w =
    let s = atom_at a i in
    let c : case_by n i ≡ s ∷ [] = ap (λ p. case_by p i) e ∙ case_is a i in
    let is : next ≡ with_way l now s = g ∙ ap (λ ss. with_rows_way now (with_case l (empty_rows now.next) ss)) c in
    let fit : (write_atom l s now.next).passes ≡ false = sym (ap (λ ss. (with_case l (empty_rows now.next) ss).passes) c) ∙ f in
    let d : drop i (atom_cases a) ≡ s ∷ drop (i + 1) (atom_cases a) = way_is a i (subst (λ p. i < case_count p) e h) in
    record {
      above = omega (arith, w.above);
      more = omega (arith, w.more);
      formulas = ap (λ x. all_ways l x (drop (i + 1) (atom_cases a))) is ∙ sym (ap (all_ways l now) d) ∙ w.formulas;
      fits = ap (λ x. ways_pass l (drop (i + 1) (atom_cases a)) x.next) is ∙
          sym (ap (λ ss. ways_pass l ss now.next) d ∙
          ap (λ b. b || ways_pass l (drop (i + 1) (atom_cases a)) (write_atom l s now.next).next) fit) ∙ w.fits;
    }

pub way_fails : (l : Layout) (n : Normal) (a : Atom) (i : ℕ) (before now : Ways) (e : RowFault) → n ≡ normal_atom a → i < case_count n →
    IsRowFault (with_case l (empty_rows now.next) (case_by n i)).passes e → WaysLeft l a i before now →
    IsRowFault (ways_pass l (atom_cases a) before.next) e
way_fails l n a i before now NoMemory e h f w = tt
way_fails l n a i before now Past e h f w =
    let s = atom_at a i in
    let c : case_by n i ≡ s ∷ [] = ap (λ p. case_by p i) e ∙ case_is a i in
    let fit : (write_atom l s now.next).passes ≡ true = sym (ap (λ ss. (with_case l (empty_rows now.next) ss).passes) c) ∙ f in
    let d : drop i (atom_cases a) ≡ s ∷ drop (i + 1) (atom_cases a) = way_is a i (subst (λ p. i < case_count p) e h) in
    sym w.fits ∙ ap (λ ss. ways_pass l ss now.next) d ∙
    ap (λ b. b || ways_pass l (drop (i + 1) (atom_cases a)) (write_atom l s now.next).next) fit

-- none is left
pub ways_end : (l : Layout) (n : Normal) (a : Atom) (i : ℕ) (before now : Ways) → n ≡ normal_atom a → case_count n ≤ i →
    WaysLeft l a i before now →
    (now ≡ all_ways l before (atom_cases a)) × (ways_pass l (atom_cases a) before.next ≡ false)
ways_end l n a i before now e h w =
    let k : length (atom_cases a) ≤ i = omega (arith, ways_long a, subst (λ p. case_count p ≤ i) e h) in
    let d : drop i (atom_cases a) ≡ [] = drop_of_length-le (atom_cases a) k in
    (sym (ap (all_ways l now) d) ∙ w.formulas, sym w.fits ∙ ap (λ ss. ways_pass l ss now.next) d)

-- ---- an atom with or without ways
written_by : (l : Layout) (a : Atom) (next : ℕ) → atom_written l a next ≡ written_or next (flat_formula l a) (ways_written l a next)
written_by l (atom_compare o t u) next = by_flat (flat_difference l t u)
  where
    by_flat : (x : Option Flat) → flat_or_ways l (atom_compare o t u) o next x ≡
        written_or next (formula_behind o x) (ways_written l (atom_compare o t u) next)
    by_flat None = refl
    by_flat (Some f) = refl
written_by l atom_true next = refl
written_by l atom_false next = refl
written_by l (atom_divides k t) next = refl
written_by l (atom_not_divides k t) next = refl
written_by l (atom_same a b) next = refl
written_by l (atom_other a b) next = refl
written_by l (atom_subset a b) next = refl
written_by l (atom_not_subset a b) next = refl

pub flat_made : (l : Layout) (n : Normal) (a : Atom) (next : ℕ) (f : Formula) → n ≡ normal_atom a → flat_formula l a ≡ Some f →
    flat_passes l a ≡ false → (record { formula = f; next = next } ≡ normal_written l n next) × (normal_passes l n next ≡ false)
flat_made l n a next f e g h = rw e (sym (written_by l a next ∙ ap (λ x. written_or next x (ways_written l a next)) g), rw (g, h) refl)

pub ways_made : (l : Layout) (n : Normal) (a : Atom) (next : ℕ) (r : Result DeclaredWritten RowFault) → n ≡ normal_atom a →
    flat_formula l a ≡ None →
    flat_passes l a ≡ false → WrittenAnswer (ways_pass l (atom_cases a) next) (ways_written l a next) r →
    WrittenAnswer (normal_passes l n next) (normal_written l n next) r
ways_made l n a next r e g h k = rw (e, written_by l a next, g, h) k

pub flat_fails : (l : Layout) (n : Normal) (a : Atom) (next : ℕ) (e : RowFault) → n ≡ normal_atom a → IsRowFault (flat_passes l a) e →
    IsRowFault (normal_passes l n next) e
flat_fails l n a next NoMemory e h = tt
flat_fails l n a next Past e h = rw (e, h) refl

flat_is : (l : Layout) (d : Bool) (r : RelTree) → IsAtom r → flat_formula l (atom_in (negation_normal d r)) ≡ flat_in l d r
flat_is l true rel_true h = refl
flat_is l false rel_true h = refl
flat_is l true rel_false h = refl
flat_is l false rel_false h = refl
flat_is l true (rel_compare o a b) h = refl
flat_is l false (rel_compare o a b) h = refl
flat_is l true (rel_same_set a b) h = refl
flat_is l false (rel_same_set a b) h = refl
flat_is l true (rel_other_set a b) h = refl
flat_is l false (rel_other_set a b) h = refl
flat_is l true (rel_subset a b) h = refl
flat_is l false (rel_subset a b) h = refl
flat_is l true (rel_divides k t) h = refl
flat_is l false (rel_divides k t) h = refl
flat_is l d (rel_and p q) h = absurd h
flat_is l d (rel_or p q) h = absurd h
flat_is l d (rel_not p) h = absurd h

passes_is : (l : Layout) (d : Bool) (r : RelTree) → IsAtom r → flat_passes l (atom_in (negation_normal d r)) ≡ flat_in_passes l d r
passes_is l true rel_true h = refl
passes_is l false rel_true h = refl
passes_is l true rel_false h = refl
passes_is l false rel_false h = refl
passes_is l true (rel_compare o a b) h = refl
passes_is l false (rel_compare o a b) h = refl
passes_is l true (rel_same_set a b) h = refl
passes_is l false (rel_same_set a b) h = refl
passes_is l true (rel_other_set a b) h = refl
passes_is l false (rel_other_set a b) h = refl
passes_is l true (rel_subset a b) h = refl
passes_is l false (rel_subset a b) h = refl
passes_is l true (rel_divides k t) h = refl
passes_is l false (rel_divides k t) h = refl
passes_is l d (rel_and p q) h = absurd h
passes_is l d (rel_or p q) h = absurd h
passes_is l d (rel_not p) h = absurd h

pub flat_atom : (l : Layout) (d : Bool) (r : RelTree) (next : ℕ) (x : DeclaredWritten) (f : Formula) → IsAtom r → flat_in l d r ≡ Some f →
    flat_in_passes l d r ≡ false → formula_tree x.formula ≡ f → x.next ≡ next →
    WrittenAnswer (normal_passes l (negation_normal d r) next) (normal_written l (negation_normal d r) next) (Ok x)
flat_atom l d r next x f h e g k m =
    let w = flat_made l (negation_normal d r) (atom_in (negation_normal d r)) next f (normal_is d r h) (flat_is l d r h ∙ e) (passes_is l d r h ∙ g) in
    (rw (k, m) w.0, w.1)

pub ways_atom : (l : Layout) (d : Bool) (r : RelTree) (next : ℕ) (y : Result DeclaredWritten RowFault) → IsAtom r → flat_in l d r ≡ None →
    flat_in_passes l d r ≡ false → WrittenAnswer (ways_pass l (atom_cases (atom_in (negation_normal d r))) next)
    (ways_written l (atom_in (negation_normal d r)) next) y →
    WrittenAnswer (normal_passes l (negation_normal d r) next) (normal_written l (negation_normal d r) next) y
ways_atom l d r next y h e g k =
    ways_made l (negation_normal d r) (atom_in (negation_normal d r)) next y (normal_is d r h) (flat_is l d r h ∙ e) (passes_is l d r h ∙ g) k

pub flat_fault : (l : Layout) (d : Bool) (r : RelTree) (next : ℕ) (e : RowFault) → IsAtom r → IsRowFault (flat_in_passes l d r) e →
    IsRowFault (normal_passes l (negation_normal d r) next) e
flat_fault l d r next e h k =
    flat_fails l (negation_normal d r) (atom_in (negation_normal d r)) next e (normal_is d r h) (subst (λ b. IsRowFault b e) (sym (passes_is l d r h)) k)

-- ---- two parts
two_written : (l : Layout) (b : Bool) (n m : Normal) (next : ℕ) →
    normal_written l (joined b n m) next ≡ joined_written b (normal_written l n next) (normal_written l m (normal_written l n next).next)
two_written l true n m next = refl
two_written l false n m next = refl

two_pass : (l : Layout) (b : Bool) (n m : Normal) (next : ℕ) →
    normal_passes l (joined b n m) next ≡ (normal_passes l n next || normal_passes l m (normal_written l n next).next)
two_pass l true n m next = refl
two_pass l false n m next = refl

pub two_made : (l : Layout) (b : Bool) (whole n m : Normal) (next : ℕ) (w u : Written) (r : Result DeclaredWritten RowFault) → whole ≡ joined b n m →
    w ≡ normal_written l n next → normal_passes l n next ≡ false → u ≡ normal_written l m w.next → normal_passes l m w.next ≡ false →
    WrittenAnswer false (joined_written b w u) r → WrittenAnswer (normal_passes l whole next) (normal_written l whole next) r
two_made l b whole n m next w u r e f g h k a =
    rw (e, two_pass l b n m next, two_written l b n m next, g, ← f, k, ← h) a

pub first_fails : (l : Layout) (b : Bool) (whole n m : Normal) (next : ℕ) (e : RowFault) → whole ≡ joined b n m →
    IsRowFault (normal_passes l n next) e → IsRowFault (normal_passes l whole next) e
first_fails l b whole n m next NoMemory j h = tt
first_fails l b whole n m next Past j h = rw (j, two_pass l b n m next, h) refl

pub second_fails : (l : Layout) (b : Bool) (whole n m : Normal) (next : ℕ) (w : Written) (e : RowFault) → whole ≡ joined b n m →
    w ≡ normal_written l n next → normal_passes l n next ≡ false → IsRowFault (normal_passes l m w.next) e → IsRowFault (normal_passes l whole next) e
second_fails l b whole n m next w NoMemory j f g h = tt
second_fails l b whole n m next w Past j f g h = rw (j, two_pass l b n m next, g, ← f) h

pub and_made : (l : Layout) (d : Bool) (p q : RelTree) (next : ℕ) (w u : Written) (r : Result DeclaredWritten RowFault) →
    w ≡ normal_written l (negation_normal d p) next → normal_passes l (negation_normal d p) next ≡ false →
    u ≡ normal_written l (negation_normal d q) w.next → normal_passes l (negation_normal d q) w.next ≡ false →
    WrittenAnswer false (joined_written d w u) r →
    WrittenAnswer (normal_passes l (negation_normal d (rel_and p q)) next) (normal_written l (negation_normal d (rel_and p q)) next) r
and_made l d p q next w u r = two_made l d (negation_normal d (rel_and p q)) (negation_normal d p) (negation_normal d q) next w u r (plain-and d p q)

pub or_made : (l : Layout) (d : Bool) (p q : RelTree) (next : ℕ) (w u : Written) (r : Result DeclaredWritten RowFault) →
    w ≡ normal_written l (negation_normal d p) next → normal_passes l (negation_normal d p) next ≡ false →
    u ≡ normal_written l (negation_normal d q) w.next → normal_passes l (negation_normal d q) w.next ≡ false →
    WrittenAnswer false (joined_written (not d) w u) r →
    WrittenAnswer (normal_passes l (negation_normal d (rel_or p q)) next) (normal_written l (negation_normal d (rel_or p q)) next) r
or_made l d p q next w u r = two_made l (not d) (negation_normal d (rel_or p q)) (negation_normal d p) (negation_normal d q) next w u r (plain-or d p q)

pub and_first : (l : Layout) (d : Bool) (p q : RelTree) (next : ℕ) (e : RowFault) → IsRowFault (normal_passes l (negation_normal d p) next) e →
    IsRowFault (normal_passes l (negation_normal d (rel_and p q)) next) e
and_first l d p q next e h = first_fails l d (negation_normal d (rel_and p q)) (negation_normal d p) (negation_normal d q) next e (plain-and d p q) h

pub or_first : (l : Layout) (d : Bool) (p q : RelTree) (next : ℕ) (e : RowFault) → IsRowFault (normal_passes l (negation_normal d p) next) e →
    IsRowFault (normal_passes l (negation_normal d (rel_or p q)) next) e
or_first l d p q next e h = first_fails l (not d) (negation_normal d (rel_or p q)) (negation_normal d p) (negation_normal d q) next e (plain-or d p q) h

pub and_second : (l : Layout) (d : Bool) (p q : RelTree) (next : ℕ) (w : Written) (e : RowFault) →
    w ≡ normal_written l (negation_normal d p) next → normal_passes l (negation_normal d p) next ≡ false →
    IsRowFault (normal_passes l (negation_normal d q) w.next) e → IsRowFault (normal_passes l (negation_normal d (rel_and p q)) next) e
and_second l d p q next w e f g h =
    second_fails l d (negation_normal d (rel_and p q)) (negation_normal d p) (negation_normal d q) next w e (plain-and d p q) f g h

pub or_second : (l : Layout) (d : Bool) (p q : RelTree) (next : ℕ) (w : Written) (e : RowFault) →
    w ≡ normal_written l (negation_normal d p) next → normal_passes l (negation_normal d p) next ≡ false →
    IsRowFault (normal_passes l (negation_normal d q) w.next) e → IsRowFault (normal_passes l (negation_normal d (rel_or p q)) next) e
or_second l d p q next w e f g h =
    second_fails l (not d) (negation_normal d (rel_or p q)) (negation_normal d p) (negation_normal d q) next w e (plain-or d p q) f g h

-- ---- regions
two_maps : {A B C : Type 0} (f : B → C) (g : A → B) (xs : List A) → map f (map g xs) ≡ map (λ x. f (g x)) xs
two_maps f g [] = refl
two_maps f g (x ∷ xs) = ap (λ ys. f (g x) ∷ ys) (two_maps f g xs)

pub regions_made : (l : Layout) (a b c : List Formula) (none sums none_too counts : List Row) → none ≡ [] →
    sums ≡ none ++ map (input_row l) (masks (length l.inputs)) → b ≡ a ++ map eq sums → none_too ≡ [] →
    counts ≡ none_too ++ map (λ m. put (region_column l m) (pos 1) []) (masks (set_count l)) → c ≡ b ++ map ge counts → c ≡ a ++ region_formulas l
regions_made l a b c none sums none_too counts n s e m t g =
    let unit : ℕ → Row = λ m. put (region_column l m) (pos 1) [] in
    let x : map eq sums ≡ map (λ m. eq (input_row l m)) (masks (length l.inputs)) =
    ap (map eq) (s ∙ ap (λ rs. rs ++ map (input_row l) (masks (length l.inputs))) n) ∙ two_maps eq (input_row l) (masks (length l.inputs)) in
    let y : map ge counts ≡ map (λ m. ge (unit m)) (masks (set_count l)) =
    ap (map ge) (t ∙ ap (λ rs. rs ++ map unit (masks (set_count l))) m) ∙ two_maps ge unit (masks (set_count l)) in
    g ∙ ap (λ fs. fs ++ map ge counts) e ∙ append_assoc a (map eq sums) (map ge counts) ∙ ap (λ fs. a ++ (fs ++ map ge counts)) x ∙
    ap (λ fs. a ++ (map (λ m. eq (input_row l m)) (masks (length l.inputs)) ++ fs)) y

-- ---- a first state
-- the columns and the conditions that the calls make of the formula are the first ones of the relation
pub columns_are_first : (l : Layout) (rel : RelTree) → first_columns_of l (written l rel).next ≡ first_columns l rel
columns_are_first l rel = refl

pub conditions_are_first : (l : Layout) (rel : RelTree) → add (written l rel).formula no_conditions ≡ first_conditions l rel
conditions_are_first l rel = refl
