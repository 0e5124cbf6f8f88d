-- What holds of the rows of formulas, where it is kept by what atoms are made of.
use Rattle.std.proofs.Common.{◌≡◌, ℕ, ℤ, pos, negsuc, List, [], ◌∷◌, not, ◌&&◌, ◌||◌, ◌==◌}
use Rattle.std.specs.Prelude.{filter, nat_le, int_lt}
use Rattle.std.specs.Int.{int_div_euclid}
use Rattle.std.specs.List.{flat_map}
use Rattle.std.proofs.lemmas.Bool.{cond_both}
use Rattle.cf_linear.specs.Arm.{negated}
use Rattle.cf_linear.specs.Keep.{Over}
use Rattle.cf_linear.specs.Rows.{Row, entry, is_zero, comb, without}
use Rattle.cf_linear.specs.Steps.{common, divided, one_at}
use Rattle.cf_linear.proofs.KindLemmas.{Over-filter, Over-put, Over-comb}
use Rattle.cf_formula.specs.Atoms.{key, is_constant, rounded, tight_row, ge, first_entry, upright, is_divided, eq}
use Rattle.cf_formula.specs.Facts.{is_implied, is_excluded, settled_ge, settled_eq, settled}
use Rattle.cf_formula.specs.Formulas.{Formula, always, never, at_least, equal, both, either, EachAtom, EachFormula}
use Rattle.cf_formula.specs.Members.{is_among, distinct_formulas, conjuncts, disjuncts, all_of, any_of, is_needless_or, and_of, conj, is_needless_and, is_covered, or_of, disj}
use Rattle.cf_formula.specs.Rewriting.{rewritten, with_rows}
use Rattle.cf_formula.proofs.FormulaLemmas.{EachFormula-append}
use Rattle.cf_formula.proofs.MemberLaws.{distinct-each, filter-each}

-- what the making of atoms keeps
pub record IsKind (P : Row → Type 0) : Type 0 where
  pub nothing : P []
  pub constant : P (one_at 0)
  pub combined : (a : ℤ) (r : Row) (b : ℤ) (s : Row) → P r → P s → P (comb a r b s)
  pub without_column : (x : ℕ) (r : Row) → P r → P (without x r)
  pub quotients : (g : ℕ) (r : Row) → P r → P (divided g r)

divided-over : (Q : ℕ → Type 0) (g : ℕ) (r : Row) → Over Q r → Over Q (divided g r)
divided-over Q g [] o = tt
divided-over Q g ((c, k) ∷ r) o = Over-put Q c (int_div_euclid k (pos g)) (divided g r) o.0 (divided-over Q g r o.1)

-- rows over a kind of columns, of which the constant is one
pub over_kind : (Q : ℕ → Type 0) → Q 0 → IsKind (Over Q)
over_kind Q z = record {
  nothing = tt;
  constant = (z, tt);
  combined = Over-comb Q;
  without_column = λ x r h. Over-filter Q (λ (c, k). not (c == x)) r h;
  quotients = divided-over Q;
}

module _ (P : Row → Type 0) (kind : IsKind P) where
  -- ---- rows and atoms
  pub negated-kind : (r : Row) → P r → P (negated r)
  negated-kind r o = kind.combined (negsuc 0) r (pos 0) [] o kind.nothing

  pub rounded-kind : (g : ℕ) (r : Row) → P r → P (rounded g r)
  rounded-kind g r o =
      kind.combined (pos 1) (divided g (key r)) (int_div_euclid (entry r 0) (pos g)) (one_at 0) (kind.quotients g (key r) (kind.without_column 0 r o))
      kind.constant

  pub tight-kind : (r : Row) → P r → P (tight_row r)
  tight-kind r o = cond_both (nat_le (common (key r)) 1) r (rounded (common (key r)) r) P (λ e. o) (λ e. rounded-kind (common (key r)) r o)

  pub ge-through : (r : Row) → P r → EachAtom P (ge r)
  ge-through r o =
      cond_both (is_constant r) _ _ (EachAtom P) (λ e. cond_both (int_lt (entry r 0) (pos 0)) never always (EachAtom P) (λ i. tt) (λ i. tt))
      (λ e. tight-kind r o)

  upright-kind : (r : Row) → P r → P (upright r)
  upright-kind r o = cond_both (int_lt (first_entry (key r)) (pos 0)) (negated r) r P (λ e. negated-kind r o) (λ e. o)

  pub eq-through : (r : Row) → P r → EachAtom P (eq r)
  eq-through r o =
      cond_both (is_constant r) _ _ (EachAtom P) (λ e. cond_both (is_zero (entry r 0)) always never (EachAtom P) (λ i. tt) (λ i. tt))
      (λ e. cond_both (is_divided r) _ _ (EachAtom P) (λ i. upright-kind (tight_row r) (tight-kind r o)) (λ i. tt))

  -- ---- members
  conjuncts-through : (f : Formula) → EachAtom P f → EachFormula (EachAtom P) (conjuncts f)
  conjuncts-through always t = tt
  conjuncts-through (both f g) t = (EachFormula-append (EachAtom P) (conjuncts f) (conjuncts g)).1 (conjuncts-through f t.0, conjuncts-through g t.1)
  conjuncts-through f t = (t, tt)

  pub disjuncts-through : (f : Formula) → EachAtom P f → EachFormula (EachAtom P) (disjuncts f)
  disjuncts-through never t = tt
  disjuncts-through (either f g) t = (EachFormula-append (EachAtom P) (disjuncts f) (disjuncts g)).1 (disjuncts-through f t.0, disjuncts-through g t.1)
  disjuncts-through f t = (t, tt)

  all_conjuncts-through : (fs : List Formula) → EachFormula (EachAtom P) fs → EachFormula (EachAtom P) (flat_map conjuncts fs)
  all_conjuncts-through [] t = tt
  all_conjuncts-through (f ∷ fs) t =
      (EachFormula-append (EachAtom P) (conjuncts f) (flat_map conjuncts fs)).1 (conjuncts-through f t.0, all_conjuncts-through fs t.1)

  all_disjuncts-through : (fs : List Formula) → EachFormula (EachAtom P) fs → EachFormula (EachAtom P) (flat_map disjuncts fs)
  all_disjuncts-through [] t = tt
  all_disjuncts-through (f ∷ fs) t =
      (EachFormula-append (EachAtom P) (disjuncts f) (flat_map disjuncts fs)).1 (disjuncts-through f t.0, all_disjuncts-through fs t.1)

  pub all_of-through : (fs : List Formula) → EachFormula (EachAtom P) fs → EachAtom P (all_of fs)
  all_of-through [] t = tt
  all_of-through (f ∷ []) t = t.0
  all_of-through (f ∷ g ∷ fs) t = (t.0, all_of-through (g ∷ fs) t.1)

  any_of-through : (fs : List Formula) → EachFormula (EachAtom P) fs → EachAtom P (any_of fs)
  any_of-through [] t = tt
  any_of-through (f ∷ []) t = t.0
  any_of-through (f ∷ g ∷ fs) t = (t.0, any_of-through (g ∷ fs) t.1)

  pub conj-through : (fs : List Formula) → EachFormula (EachAtom P) fs → EachAtom P (conj fs)
  conj-through fs t =
      let ds = distinct_formulas [] (flat_map conjuncts fs) in
      let d = (distinct-each (EachAtom P) [] (flat_map conjuncts fs) tt).1 (all_conjuncts-through fs t) in
      cond_both (is_among ds never) never (all_of (filter (λ f. not (is_needless_or ds f)) ds)) (EachAtom P) (λ e. tt)
      (λ e. all_of-through (filter (λ f. not (is_needless_or ds f)) ds) (filter-each (EachAtom P) (λ f. not (is_needless_or ds f)) ds d))

  pub disj-through : (fs : List Formula) → EachFormula (EachAtom P) fs → EachAtom P (disj fs)
  disj-through fs t =
      let ds = distinct_formulas [] (flat_map disjuncts fs) in
      let d = (distinct-each (EachAtom P) [] (flat_map disjuncts fs) tt).1 (all_disjuncts-through fs t) in
      cond_both (is_covered ds) always (any_of (filter (λ f. not (is_needless_and ds f)) ds)) (EachAtom P) (λ e. tt)
      (λ e. any_of-through (filter (λ f. not (is_needless_and ds f)) ds) (filter-each (EachAtom P) (λ f. not (is_needless_and ds f)) ds d))

  -- ---- other atoms
  pub rewritten-through : (R : Row → Type 0) (low zero : Row → Formula) → ((r : Row) → R r → EachAtom P (low r)) →
      ((r : Row) → R r → EachAtom P (zero r)) → (f : Formula) → EachAtom R f → EachAtom P (rewritten low zero f)
  rewritten-through R low zero a b always t = tt
  rewritten-through R low zero a b never t = tt
  rewritten-through R low zero a b (at_least r) t = a r t
  rewritten-through R low zero a b (equal r) t = b r t
  rewritten-through R low zero a b (both f g) t =
      conj-through (rewritten low zero f ∷ rewritten low zero g ∷ []) (rewritten-through R low zero a b f t.0, (rewritten-through R low zero a b g t.1, tt))
  rewritten-through R low zero a b (either f g) t =
      disj-through (rewritten low zero f ∷ rewritten low zero g ∷ []) (rewritten-through R low zero a b f t.0, (rewritten-through R low zero a b g t.1, tt))

  pub with_rows-through : (R : Row → Type 0) (change : Row → Row) → ((r : Row) → R r → P (change r)) → (f : Formula) → EachAtom R f →
      EachAtom P (with_rows change f)
  with_rows-through R change k f t =
      rewritten-through R (λ r. ge (change r)) (λ r. eq (change r)) (λ r o. ge-through (change r) (k r o)) (λ r o. eq-through (change r) (k r o)) f t

  pub settled-through : (rows : List Row) (f : Formula) → EachAtom P f → EachAtom P (settled rows f)
  settled-through rows f t =
      rewritten-through P (settled_ge rows) (settled_eq rows)
      (λ r o. cond_both (is_implied rows r) _ _ (EachAtom P) (λ e. tt) (λ e. cond_both (is_excluded rows r) never (at_least r) (EachAtom P) (λ i. tt) (λ i. o)))
      (λ r o. cond_both (is_excluded rows r || is_excluded rows (negated r)) _ _ (EachAtom P) (λ e. tt)
      (λ e. cond_both (is_implied rows r && is_implied rows (negated r)) always (equal r) (EachAtom P) (λ i. tt) (λ i. o))) f t
