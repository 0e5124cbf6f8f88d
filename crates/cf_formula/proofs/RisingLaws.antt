-- The rows of a relation's formula rise.
use Rattle.std.proofs.Common.{◌≡◌, inl, inr, ◌⊎◌, ℕ, zero, suc, ◌+◌, ◌-◌, ◌^◌, ◌%◌, ◌<◌, ◌≤◌, ◌==◌, ℤ, pos, negsuc, neg_ℤ, ◌-ℤ◌, List, [], ◌∷◌, ◌++◌, length, map, zero-le, refl}
use Rattle.std.proofs.Common.{filter, Bool, true, false, arith, Option, Some, None}
use Rattle.std.specs.List.{range_with_len, fold, flat_map}
use Rattle.std.specs.Int.{int_div_euclid}
use Rattle.std.proofs.lemmas.Nat.{pow_pos}
use Rattle.cf_tree.specs.declared.base.Order.{Order}
use Rattle.cf_tree.specs.declared.base.Order.TheVariants.{Eq, Ne, Lt, Le, Gt, Ge}
use Rattle.cf_tree.specs.RelTree.{TermTree, term_lit, term_var, term_card, term_neg, term_add, term_sub, term_mul, term_div, term_mod, term_abs}
use Rattle.cf_tree.specs.Relation.{is_fixed}
use Rattle.cf_linear.specs.Rows.{Row, entry, put, comb, without, Rises}
use Rattle.cf_linear.specs.Steps.{divided}
use Rattle.cf_linear.specs.Systems.{EachRow}
use Rattle.cf_linear.specs.Layout.{Layout, masks, set_count, covers, first_free, known_count, number_column, region_column, region_row, input_column}
use Rattle.cf_linear.specs.Written.{GuardTree, guard_rows, sign_guard, quotient_guard, above_quotient, below_quotient, plus, WrittenTree, first_sign, signed_by, product_by, write, IsPlaced}
use Rattle.cf_linear.specs.Cases.{Atom, atom_true, atom_false, atom_compare, atom_divides, atom_not_divides, atom_same, atom_other, atom_subset, atom_not_subset, Normal, normal_atom, normal_and, normal_or, atom_cases}
use Rattle.cf_linear.specs.Cases.{Signed, AtomRows, less, compare_zero, compare_nonneg, in_first, in_one, guards_of, write_atom, input_row}
use Rattle.cf_linear.proofs.Canonical.{Rises-lower, Rises-put}
use Rattle.cf_linear.proofs.CombLemmas.{Rises-comb, Rises-without}
use Rattle.cf_linear.proofs.KindLemmas.{EachRow-append}
use Rattle.cf_linear.proofs.PassingLemmas.{Rises-plus}
use Rattle.cf_cases.specs.Holding.{EachOf}
use Rattle.cf_cases.proofs.FormedLaws.{Rises-region}
use Rattle.cf_cases.proofs.Quantifiers.{each-append}
use Rattle.cf_formula.specs.Atoms.{ge, eq}
use Rattle.cf_formula.specs.Formulas.{Formula, EachAtom, EachFormula}
use Rattle.cf_formula.specs.Members.{conj, disj}
use Rattle.cf_formula.specs.Writing.{Written, Ways, rows_formula, with_way, ways_written, Flat, compared, flat_difference, flat_or_ways, atom_written, normal_written}
use Rattle.cf_formula.proofs.FlatOver.{compared-through}
use Rattle.cf_formula.proofs.FormulaLemmas.{EachFormula-append}
use Rattle.cf_formula.proofs.OverLaws.{IsKind, ge-through, eq-through, conj-through, disj-through}
use Rattle.cf_formula.proofs.WritingLaws.{AtomPlaced, NormalPlaced}

-- ---- rising rows
pub Rises-column : (c : ℕ) (k : ℤ) → Rises 0 (put c k [])
Rises-column c k = Rises-put 0 c k [] (omega arith) tt

Rises-above : (c : ℕ) (r : Row) (k : ℤ) → Rises 0 r → Rises 0 (above_quotient c r k)
Rises-above c r k p = Rises-comb 0 (pos 1) r (neg_ℤ k) (put c (pos 1) []) p (Rises-column c (pos 1))

Rises-below : (c : ℕ) (r : Row) (k : ℤ) → Rises 0 r → Rises 0 (below_quotient c r k)
Rises-below c r k p = Rises-plus (comb (negsuc 0) r k (put c (pos 1) [])) (k -ℤ pos 1)
    (Rises-comb 0 (negsuc 0) r k (put c (pos 1) []) p (Rises-column c (pos 1)))

Rises-turned : (r : Row) → Rises 0 r → Rises 0 (comb (negsuc 0) r (pos 0) [])
Rises-turned r p = Rises-comb 0 (negsuc 0) r (pos 0) [] p tt

Rises-product : (b : Bool) (r s : Row) → Rises 0 r → Rises 0 s → Rises 0 (product_by b r s)
Rises-product true r s p q = Rises-comb 0 (entry r 0) s (pos 0) [] q tt
Rises-product false r s p q = Rises-comb 0 (entry s 0) r (pos 0) [] p tt

Rises-region_0 : (l : Layout) (p : ℕ → Bool) → Rises 0 (region_row l p)
Rises-region_0 l p = Rises-lower 0 (known_count l + length l.out_numbers) (region_row l p) (omega arith) (Rises-region l p)

-- ---- written forms
abbrev pub GuardRises : GuardTree → Type 0
GuardRises (sign_guard r) = Rises 0 r
GuardRises (quotient_guard c r k) = Rises 0 r

pub record Rising (w : WrittenTree) : Type 0 where
  pub row : Rises 0 w.row
  pub guards : EachOf GuardRises w.guards

rising-sign : (b : Bool) (w : WrittenTree) → Rising w → Rising (signed_by b w)
rising-sign true w f = record {
  row = Rises-turned w.row f.row;
  guards = each-append GuardRises w.guards (sign_guard (plus (comb (negsuc 0) w.row (pos 0) []) (negsuc 0)) ∷ []) f.guards
      (Rises-plus (comb (negsuc 0) w.row (pos 0) []) (negsuc 0) (Rises-turned w.row f.row), tt);
}
rising-sign false w f = record { row = f.row; guards = each-append GuardRises w.guards (sign_guard w.row ∷ []) f.guards (f.row, tt) }

pub write-rises : (l : Layout) (t : TermTree) (ss : List Bool) (q : ℕ) → Rising (write l t ss q)
write-rises l (term_lit n) ss q = record { row = Rises-column 0 n; guards = tt }
write-rises l (term_var x) ss q = record { row = Rises-column (number_column l x) (pos 1); guards = tt }
write-rises l (term_card s) ss q = record { row = Rises-region_0 l (covers l s); guards = tt }
write-rises l (term_neg a) ss q = let f = write-rises l a ss q in record { row = Rises-turned (write l a ss q).row f.row; guards = f.guards }
write-rises l (term_add a b) ss q =
    let w = write l a ss q in
    let u = write l b w.signs w.next in
    let f = write-rises l a ss q in
    let g = write-rises l b w.signs w.next in
    record { row = Rises-comb 0 (pos 1) w.row (pos 1) u.row f.row g.row; guards = each-append GuardRises w.guards u.guards f.guards g.guards }
write-rises l (term_sub a b) ss q =
    let w = write l a ss q in
    let u = write l b w.signs w.next in
    let f = write-rises l a ss q in
    let g = write-rises l b w.signs w.next in
    record { row = Rises-comb 0 (pos 1) w.row (negsuc 0) u.row f.row g.row; guards = each-append GuardRises w.guards u.guards f.guards g.guards }
write-rises l (term_mul a b) ss q =
    let w = write l a ss q in
    let u = write l b w.signs w.next in
    let f = write-rises l a ss q in
    let g = write-rises l b w.signs w.next in
    record { row = Rises-product (is_fixed a) w.row u.row f.row g.row; guards = each-append GuardRises w.guards u.guards f.guards g.guards }
write-rises l (term_div a k) ss q =
    let w = write l a ss q in
    let f = write-rises l a ss q in
    record { row = Rises-column w.next (pos 1); guards = each-append GuardRises w.guards (quotient_guard w.next w.row k ∷ []) f.guards (f.row, tt) }
write-rises l (term_mod a k) ss q =
    let w = write l a ss q in
    let f = write-rises l a ss q in
    record { row = Rises-above w.next w.row k f.row; guards = each-append GuardRises w.guards (quotient_guard w.next w.row k ∷ []) f.guards (f.row, tt) }
write-rises l (term_abs a) ss q = let w = write l a ss q in rising-sign (first_sign w.signs) w (write-rises l a ss q)

guards_rise : (gs : List GuardTree) → EachOf GuardRises gs → EachRow (Rises 0) (flat_map guard_rows gs)
guards_rise [] f = tt
guards_rise (sign_guard r ∷ gs) f = (f.0, guards_rise gs f.1)
guards_rise (quotient_guard c r k ∷ gs) f = (Rises-above c r k f.0, (Rises-below c r k f.0, guards_rise gs f.1))

-- ---- atoms
pub record RowsRise (a : AtomRows) : Type 0 where
  pub zero : EachRow (Rises 0) a.equations
  pub nonneg : EachRow (Rises 0) a.inequalities

Rises-less : (r s : Row) → Rises 0 r → Rises 0 s → Rises 0 (less r s)
Rises-less r s p q = Rises-comb 0 (pos 1) r (negsuc 0) s p q

compare_rises : (o : Order) (r s : Row) → Rises 0 r → Rises 0 s → EachRow (Rises 0) (compare_zero o r s) × EachRow (Rises 0) (compare_nonneg o r s)
compare_rises Eq r s p q = ((Rises-less r s p q, tt), tt)
compare_rises Ne r s p q = (tt, tt)
compare_rises Lt r s p q = (tt, (Rises-plus (less s r) (negsuc 0) (Rises-less s r q p), tt))
compare_rises Le r s p q = (tt, (Rises-less s r q p, tt))
compare_rises Gt r s p q = (tt, (Rises-plus (less r s) (negsuc 0) (Rises-less r s p q), tt))
compare_rises Ge r s p q = (tt, (Rises-less r s p q, tt))

pub columns_rise : (f : ℕ → ℕ) (ms : List ℕ) → EachRow (Rises 0) (map (λ m. put (f m) (pos 1) []) ms)
columns_rise f [] = tt
columns_rise f (m ∷ ms) = (Rises-column (f m) (pos 1), columns_rise f ms)

pub atom-rises : (l : Layout) (s : Signed) (q : ℕ) → RowsRise (write_atom l s q)
unfolding write_atom
atom-rises l (atom_true, ss) q = record { zero = tt; nonneg = tt }
atom-rises l (atom_false, ss) q = record { zero = tt; nonneg = (Rises-column 0 (negsuc 0), tt) }
atom-rises l (atom_compare o a b, ss) q =
    let w = write l a ss q in
    let u = write l b w.signs w.next in
    let f = write-rises l a ss q in
    let g = write-rises l b w.signs w.next in
    let c = compare_rises o w.row u.row f.row g.row in
    record {
      zero = c.0;
      nonneg = EachRow-append (Rises 0) (guards_of w ++ guards_of u) (compare_nonneg o w.row u.row)
          (EachRow-append (Rises 0) (guards_of w) (guards_of u) (guards_rise w.guards f.guards) (guards_rise u.guards g.guards)) c.1;
    }
atom-rises l (atom_divides k t, ss) q =
    let w = write l t ss q in
    let f = write-rises l t ss q in
    record { zero = (Rises-above w.next w.row k f.row, tt); nonneg = EachRow-append (Rises 0) (guards_of w) [] (guards_rise w.guards f.guards) tt }
atom-rises l (atom_not_divides k t, ss) q =
    let w = write l t ss q in
    let f = write-rises l t ss q in
    record {
      zero = tt;
      nonneg = EachRow-append (Rises 0) (guards_of w) (plus (above_quotient w.next w.row k) (negsuc 0) ∷ below_quotient w.next w.row k ∷ [])
          (guards_rise w.guards f.guards)
          (Rises-plus (above_quotient w.next w.row k) (negsuc 0) (Rises-above w.next w.row k f.row), (Rises-below w.next w.row k f.row, tt));
    }
atom-rises l (atom_same a b, ss) q = record { zero = columns_rise (region_column l) (filter (in_one l a b) (masks (set_count l))); nonneg = tt }
atom-rises l (atom_other a b, ss) q = record { zero = tt; nonneg = (Rises-plus (region_row l (in_one l a b)) (negsuc 0) (Rises-region_0 l (in_one l a b)), tt) }
atom-rises l (atom_subset a b, ss) q = record { zero = columns_rise (region_column l) (filter (in_first l a b) (masks (set_count l))); nonneg = tt }
atom-rises l (atom_not_subset a b, ss) q = record {
  zero = tt;
  nonneg =
      (Rises-plus (region_row l (in_first l a b)) (negsuc 0) (Rises-region_0 l (in_first l a b)), tt);
}

pub inputs_rise : (l : Layout) (a k : ℕ) → 1 ≤ a → a + k ≤ 1 + (2 ^ length l.inputs - 1) → EachRow (Rises 0) (map (input_row l) (range_with_len a k))
inputs_rise l a zero h i = tt
inputs_rise l a (suc k) h i =
    let low : suc (input_column l a) ≤ known_count l + length l.out_numbers = omega (arith, pow_pos (length l.inputs)) in (
      Rises-put 0 (input_column l a) (negsuc 0) (region_row l (λ r. r % 2 ^ length l.inputs == a)) (omega arith)
          (Rises-lower (suc (input_column l a)) (known_count l + length l.out_numbers) (region_row l (λ r. r % 2 ^ length l.inputs == a)) low
          (Rises-region l (λ r. r % 2 ^ length l.inputs == a))),
      inputs_rise l (a + 1) k (omega arith) (omega arith),
    )

-- ---- formulas
pub divided-rises : (c g : ℕ) (r : Row) → Rises c r → Rises c (divided g r)
divided-rises c g [] h = tt
divided-rises c g ((d, k) ∷ r) h = Rises-put c d (int_div_euclid k (pos g)) (divided g r) h.0 (divided-rises (suc d) g r h.2)

pub rise_kind : IsKind (Rises 0)
rise_kind = record {
  nothing = tt;
  constant = (zero-le, (λ e. cc e), tt);
  combined = λ a r b s p q. Rises-comb 0 a r b s p q;
  without_column = λ x r p. Rises-without 0 x r p;
  quotients = λ g r p. divided-rises 0 g r p;
}

pub eqs_rise : (rows : List Row) → EachRow (Rises 0) rows → EachFormula (EachAtom (Rises 0)) (map eq rows)
eqs_rise [] h = tt
eqs_rise (r ∷ rows) h = (eq-through (Rises 0) rise_kind r h.0, eqs_rise rows h.1)

pub ges_rise : (rows : List Row) → EachRow (Rises 0) rows → EachFormula (EachAtom (Rises 0)) (map ge rows)
ges_rise [] h = tt
ges_rise (r ∷ rows) h = (ge-through (Rises 0) rise_kind r h.0, ges_rise rows h.1)

way_rises : (l : Layout) (s : Signed) (q : ℕ) → EachAtom (Rises 0) (rows_formula (write_atom l s q))
way_rises l s q =
    let a = write_atom l s q in
    let r = atom-rises l s q in
    conj-through (Rises 0) rise_kind (map eq a.equations ++ map ge a.inequalities)
    ((EachFormula-append (EachAtom (Rises 0)) (map eq a.equations) (map ge a.inequalities)).1 (eqs_rise a.equations r.zero, ges_rise a.inequalities r.nonneg))

ways_rise : (l : Layout) (cases : List Signed) (w : Ways) → EachFormula (EachAtom (Rises 0)) w.formulas →
    EachFormula (EachAtom (Rises 0)) (fold (with_way l) w cases).formulas
ways_rise l [] w h = h
ways_rise l (s ∷ cases) w h =
    ways_rise l cases (with_way l w s)
    ((EachFormula-append (EachAtom (Rises 0)) w.formulas (rows_formula (write_atom l s w.next) ∷ [])).1 (h, (way_rises l s w.next, tt)))

all_ways_rise : (l : Layout) (a : Atom) (next : ℕ) → EachAtom (Rises 0) (ways_written l a next).formula
all_ways_rise l a next =
    let w = fold (with_way l) (record { formulas = []; next = next }) (atom_cases a) in
    disj-through (Rises 0) rise_kind w.formulas (ways_rise l (atom_cases a) (record { formulas = []; next = next }) tt)

flat_rises : (l : Layout) (o : Order) (t u : TermTree) (next : ℕ) (f : Option Flat) → IsPlaced l t → IsPlaced l u → flat_difference l t u ≡ f →
    EachAtom (Rises 0) (flat_or_ways l (atom_compare o t u) o next f).formula
flat_rises l o t u next None p q e = all_ways_rise l (atom_compare o t u) next
flat_rises l o t u next (Some f) p q e =
    compared-through l (Rises 0) rise_kind (λ d. Rises-column 0 d) (λ x i j. (write-rises l x [] (first_free l)).row) o t u f p q e

atom_formula-rises : (l : Layout) (a : Atom) (next : ℕ) → AtomPlaced l a → EachAtom (Rises 0) (atom_written l a next).formula
atom_formula-rises l (atom_compare o t u) next p = flat_rises l o t u next (flat_difference l t u) p.0.0 p.1.0 refl
atom_formula-rises l atom_true next p = all_ways_rise l atom_true next
atom_formula-rises l atom_false next p = all_ways_rise l atom_false next
atom_formula-rises l (atom_divides k t) next p = all_ways_rise l (atom_divides k t) next
atom_formula-rises l (atom_not_divides k t) next p = all_ways_rise l (atom_not_divides k t) next
atom_formula-rises l (atom_same a b) next p = all_ways_rise l (atom_same a b) next
atom_formula-rises l (atom_other a b) next p = all_ways_rise l (atom_other a b) next
atom_formula-rises l (atom_subset a b) next p = all_ways_rise l (atom_subset a b) next
atom_formula-rises l (atom_not_subset a b) next p = all_ways_rise l (atom_not_subset a b) next

pub normal-rises : (l : Layout) (p : Normal) (next : ℕ) → NormalPlaced l p → EachAtom (Rises 0) (normal_written l p next).formula
normal-rises l (normal_atom a) next h = atom_formula-rises l a next h
normal-rises l (normal_and p q) next h =
    let w = normal_written l p next in
    conj-through (Rises 0) rise_kind (w.formula ∷ (normal_written l q w.next).formula ∷ []) (normal-rises l p next h.0, (normal-rises l q w.next h.1, tt))
normal-rises l (normal_or p q) next h =
    let w = normal_written l p next in
    disj-through (Rises 0) rise_kind (w.formula ∷ (normal_written l q w.next).formula ∷ []) (normal-rises l p next h.0, (normal-rises l q w.next h.1, tt))
