-- The first conditions of a relation hold for some quotients exactly where the relation does.
use Rattle.std.proofs.Common.{◌≡◌, ℕ, ◌<◌, ◌≤◌, ℤ, pos, List, [], ◌∷◌, length, map, Bool, true, false, refl, sym, ◌∙◌, arith, inl, inr, ⊎_elim, ◌↔◌}
use Rattle.std.specs.Prelude.{◌-◌, ◌^◌}
use Rattle.std.proofs.lemmas.Int.{ints}
use Rattle.cf_tree.specs.declared.base.Base.{Base}
use Rattle.cf_tree.specs.RelTree.{RelTree, rel_true, rel_false, rel_compare, rel_same_set, rel_other_set, rel_subset, rel_divides, rel_and, rel_or, rel_not}
use Rattle.cf_tree.specs.Relation.{val, Holds as HoldsIn, IsTyped}
use Rattle.cf_tree.specs.Values.{Value}
use Rattle.cf_linear.specs.Cases.{Atom, atom_true, atom_false, atom_compare, atom_divides, atom_not_divides, atom_same, atom_other, atom_subset, atom_not_subset, Normal, normal_atom, normal_and, normal_or, negation_normal, input_row}
use Rattle.cf_linear.specs.Keep.{Over, Same}
use Rattle.cf_linear.specs.Layout.{Layout, masks, set_count, region_column, first_free}
use Rattle.cf_linear.specs.Rows.{Row, Values, value, put, AreBelow, Rises}
use Rattle.cf_linear.specs.Systems.{EachRow}
use Rattle.cf_linear.specs.Written.{val_at}
use Rattle.cf_linear.proofs.KindLemmas.{IsZero, IsNonneg}
use Rattle.cf_cases.specs.Holding.{signs_in, AtomHolds, NormalHolds, AtomAt, AtomFits, AreCounts, IsPlacedRel}
use Rattle.cf_cases.proofs.AgreeLaws.{FormsAgree, val-agrees, case_at, case_holds}
use Rattle.cf_cases.proofs.BelowLaws.{positive_free}
use Rattle.cf_cases.proofs.NormalLaws.{plain-holds}
use Rattle.cf_cases.proofs.SystemLaws.{inputs-below, counts-below, counts-same, rows-raise}
use Rattle.cf_formula.specs.Atoms.{ge, eq}
use Rattle.cf_formula.specs.Formulas.{Formula, Holds, Throughout, EachAtom, EachFormula}
use Rattle.cf_formula.specs.Members.{conj}
use Rattle.cf_formula.specs.States.{Model, no_conditions}
use Rattle.cf_formula.specs.Writing.{normal_written, region_formulas, written, first_conditions}
use Rattle.cf_formula.proofs.AtomLaws.{ge-holds, eq-holds}
use Rattle.cf_formula.proofs.FormulaLemmas.{EachFormula-append}
use Rattle.cf_formula.proofs.MemberLaws.{conj-holds}
use Rattle.cf_formula.proofs.OverLaws.{IsKind, over_kind, ge-through, eq-through, conj-through}
use Rattle.cf_formula.proofs.RisingLaws.{inputs_rise, columns_rise, rise_kind, normal-rises}
use Rattle.cf_formula.proofs.StateLaws.{add-holds}
use Rattle.cf_formula.proofs.WritingLaws.{AtomPlaced, NormalPlaced, NormalAt, IsWritten, signs_long, below_over, still_one, normal_are}

-- ---- a relation and its normal form
pub normal_placed : (l : Layout) (b : Bool) (rel : RelTree) → IsPlacedRel l rel → NormalPlaced l (negation_normal b rel)
normal_placed l true rel_true p = tt
normal_placed l false rel_true p = tt
normal_placed l true rel_false p = tt
normal_placed l false rel_false p = tt
normal_placed l true (rel_compare o a b) p = p
normal_placed l false (rel_compare o a b) p = p
normal_placed l true (rel_same_set a b) p = p
normal_placed l false (rel_same_set a b) p = p
normal_placed l true (rel_other_set a b) p = p
normal_placed l false (rel_other_set a b) p = p
normal_placed l true (rel_subset a b) p = p
normal_placed l false (rel_subset a b) p = p
normal_placed l true (rel_divides k t) p = p
normal_placed l false (rel_divides k t) p = p
normal_placed l true (rel_and p q) h = (normal_placed l true p h.0, normal_placed l true q h.1)
normal_placed l false (rel_and p q) h = (normal_placed l false p h.0, normal_placed l false q h.1)
normal_placed l true (rel_or p q) h = (normal_placed l true p h.0, normal_placed l true q h.1)
normal_placed l false (rel_or p q) h = (normal_placed l false p h.0, normal_placed l false q h.1)
normal_placed l true (rel_not p) h = normal_placed l false p h
normal_placed l false (rel_not p) h = normal_placed l true p h

-- at values that agree with an environment
module _ (l : Layout) (env : List Value) (v : Values) (g : FormsAgree l env v) where
  fits_at : (a : Atom) → AtomFits l a → AtomHolds env a ↔ AtomAt l v a
  fits_at a f = (
    λ h. (case_at l env v g ((a, signs_in (λ t. val t env) a) ∷ []) ((f, signs_long (λ t. val t env) a), tt) ((h, refl), tt)).0.0,
    λ h. (case_holds l env v g ((a, signs_in (val_at l v) a) ∷ []) ((f, signs_long (val_at l v) a), tt) ((h, refl), tt)).0.0,
  )

  atom_agrees : (a : Atom) → AtomPlaced l a → AtomHolds env a ↔ AtomAt l v a
  atom_agrees (atom_compare o a b) f =
      let i = val-agrees l env v g a f.0.0 in
      let j = val-agrees l env v g b f.1.0 in ((λ h. rw (i, j) at h), (λ h. rw (i, j) h))
  atom_agrees atom_true f = fits_at atom_true f
  atom_agrees atom_false f = fits_at atom_false f
  atom_agrees (atom_divides k t) f = fits_at (atom_divides k t) f
  atom_agrees (atom_not_divides k t) f = fits_at (atom_not_divides k t) f
  atom_agrees (atom_same a b) f = fits_at (atom_same a b) f
  atom_agrees (atom_other a b) f = fits_at (atom_other a b) f
  atom_agrees (atom_subset a b) f = fits_at (atom_subset a b) f
  atom_agrees (atom_not_subset a b) f = fits_at (atom_not_subset a b) f

  pub normal-agrees : (p : Normal) → NormalPlaced l p → NormalHolds env p ↔ NormalAt l v p
  normal-agrees (normal_atom a) f = atom_agrees a f
  normal-agrees (normal_and p q) f =
      let i = normal-agrees p f.0 in
      let j = normal-agrees q f.1 in ((λ h. (i.0 h.0, j.0 h.1)), (λ h. (i.1 h.0, j.1 h.1)))
  normal-agrees (normal_or p q) f =
      let i = normal-agrees p f.0 in
      let j = normal-agrees q f.1 in
      ((λ h. ⊎_elim (λ k. inl (i.0 k)) (λ k. inr (j.0 k)) h), (λ h. ⊎_elim (λ k. inl (i.1 k)) (λ k. inr (j.1 k)) h))

  pub relation-agrees : (scope : List Base) (rel : RelTree) → IsTyped scope rel → IsPlacedRel l rel → HoldsIn rel env ↔ NormalAt l v (negation_normal true rel)
  relation-agrees scope rel t p =
      let i = plain-holds scope env rel t in
      let j = normal-agrees (negation_normal true rel) (normal_placed l true rel p) in ((λ h. j.0 (i.1 h)), (λ h. i.0 (j.1 h)))

-- ---- the counts of the regions
eqs_of : (v : Values) → v 0 ≡ pos 1 → (f : ℕ → Row) (ms : List ℕ) → EachFormula (Holds v) (map (λ m. eq (f m)) ms) ↔ EachRow (IsZero v) (map f ms)
eqs_of v one f [] = ((λ h. h), (λ h. h))
eqs_of v one f (m ∷ ms) = let i = eq-holds v one (f m) in let j = eqs_of v one f ms in ((λ h. (i.0 h.0, j.0 h.1)), (λ h. (i.1 h.0, j.1 h.1)))

ges_of : (v : Values) → v 0 ≡ pos 1 → (f : ℕ → Row) (ms : List ℕ) → EachFormula (Holds v) (map (λ m. ge (f m)) ms) ↔ EachRow (IsNonneg v) (map f ms)
ges_of v one f [] = ((λ h. h), (λ h. h))
ges_of v one f (m ∷ ms) = let i = ge-holds v one (f m) in let j = ges_of v one f ms in ((λ h. (i.0 h.0, j.0 h.1)), (λ h. (i.1 h.0, j.1 h.1)))

region-hold : (l : Layout) (v : Values) → v 0 ≡ pos 1 → EachFormula (Holds v) (region_formulas l) ↔ AreCounts l v
region-hold l v one =
    let s = EachFormula-append (Holds v) (map (λ m. eq (input_row l m)) (masks (length l.inputs)))
    (map (λ m. ge (put (region_column l m) (pos 1) [])) (masks (set_count l))) in
    let i = eqs_of v one (input_row l) (masks (length l.inputs)) in
    let j = ges_of v one (λ m. put (region_column l m) (pos 1) []) (masks (set_count l)) in
    ((λ h. let k = s.0 h in record { sums = i.0 k.0; nonneg = j.0 k.1 }), (λ h. s.1 (i.1 h.sums, j.1 h.nonneg)))

-- their formulas are of a kind of which their rows are
module _ (P : Row → Type 0) (kind : IsKind P) where
  eqs_through : (f : ℕ → Row) (ms : List ℕ) → EachRow P (map f ms) → EachFormula (EachAtom P) (map (λ m. eq (f m)) ms)
  eqs_through f [] h = tt
  eqs_through f (m ∷ ms) h = (eq-through P kind (f m) h.0, eqs_through f ms h.1)

  ges_through : (f : ℕ → Row) (ms : List ℕ) → EachRow P (map f ms) → EachFormula (EachAtom P) (map (λ m. ge (f m)) ms)
  ges_through f [] h = tt
  ges_through f (m ∷ ms) h = (ge-through P kind (f m) h.0, ges_through f ms h.1)

  region-through : (l : Layout) → EachRow P (map (input_row l) (masks (length l.inputs))) →
      EachRow P (map (λ m. put (region_column l m) (pos 1) []) (masks (set_count l))) → EachFormula (EachAtom P) (region_formulas l)
  region-through l h k =
      (EachFormula-append (EachAtom P) (map (λ m. eq (input_row l m)) (masks (length l.inputs)))
      (map (λ m. ge (put (region_column l m) (pos 1) [])) (masks (set_count l)))).1
      (eqs_through (input_row l) (masks (length l.inputs)) h, ges_through (λ m. put (region_column l m) (pos 1) []) (masks (set_count l)) k)

all_over : (n : ℕ) (rows : List Row) → EachRow (AreBelow n) rows → EachRow (Over (λ c. c < n)) rows
all_over n [] b = tt
all_over n (r ∷ rows) b = (below_over n r b.0, all_over n rows b.1)

-- ---- the formula of a relation
abbrev pub RelationAt : Layout → RelTree → Values → Type 0
RelationAt l rel v = NormalAt l v (negation_normal true rel) × AreCounts l v

pub written_are : (l : Layout) (rel : RelTree) → IsPlacedRel l rel → IsWritten l (RelationAt l rel) (first_free l) (written l rel)
written_are l rel p =
    let normal = negation_normal true rel in
    let w = normal_written l normal (first_free l) in
    let i = normal_are l normal (first_free l) (normal_placed l true rel p) (omega arith) in
    let up = i.up in
    let z = positive_free l in
    let small = λ (c : ℕ). c < w.next in
    let input_rows = map (input_row l) (masks (length l.inputs)) in
    let count_rows = map (λ m. put (region_column l m) (pos 1) []) (masks (set_count l)) in
    let kind = over_kind small (omega arith) in
    record {
      up = up;
      low = conj-through (Over small) kind (w.formula ∷ region_formulas l) (
        i.low,
        region-through (Over small) kind l
            (all_over w.next input_rows (rows-raise (first_free l) w.next input_rows up
            (inputs-below l 1 (2 ^ length l.inputs - 1) (omega arith) (omega arith))))
            (all_over w.next count_rows (rows-raise (first_free l) w.next count_rows up (counts-below l 1 (2 ^ set_count l - 1) (omega arith) (omega arith)))),
      );
      forth = λ v one at.
          let a = i.forth v one at.0 in
          let there = still_one l (first_free l) v a.0 (omega arith) a.1 one in
          (a.0, a.1, (conj-holds a.0 (w.formula ∷ region_formulas l)).1 (a.2, (region-hold l a.0 there).1 (counts-same l v a.0 a.1 at.1)));
      back = λ v one h.
          let k = (conj-holds v (w.formula ∷ region_formulas l)).0 h in (i.back v one k.0, (region-hold l v one).0 k.1);
    }

pub written-rises : (l : Layout) (rel : RelTree) → IsPlacedRel l rel → EachAtom (Rises 0) (written l rel).formula
written-rises l rel p =
    let normal = negation_normal true rel in
    conj-through (Rises 0) rise_kind ((normal_written l normal (first_free l)).formula ∷ region_formulas l) (
      normal-rises l normal (first_free l) (normal_placed l true rel p),
      region-through (Rises 0) rise_kind l (inputs_rise l 1 (2 ^ length l.inputs - 1) (omega arith) (omega arith))
          (columns_rise (region_column l) (masks (set_count l))),
    )

-- ---- the first conditions
module _ (l : Layout) (rel : RelTree) (p : IsPlacedRel l rel) where
  pub first-forth : (v : Values) → v 0 ≡ pos 1 → RelationAt l rel v → (u : Values) × Same (first_free l) v u × Model (first_conditions l rel) u
  first-forth v one at =
      let a = (written_are l rel p).forth v one at in
      (a.0, a.1, (add-holds a.0 (written l rel).formula no_conditions).1 (a.2, record { alive = refl; zero = tt; nonneg = tt; pending = tt }))

  pub first-back : (v : Values) → v 0 ≡ pos 1 → Model (first_conditions l rel) v → RelationAt l rel v
  first-back v one h = (written_are l rel p).back v one ((add-holds v (written l rel).formula no_conditions).0 h).0
