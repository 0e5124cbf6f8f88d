-- A relation's formula holds for some quotients exactly where the relation does.
use Rattle.std.proofs.Common.{◌≡◌, ◌≢◌, ℕ, zero, suc, ◌+◌, ◌<◌, ◌≤◌, ℤ, pos, List, [], ◌∷◌, ◌++◌, length, map, Bool, true, false, Option, Some, None, refl, sym, ◌∙◌, ap, arith, length-append, subst, ◌⊎◌, inl, inr, ⊎_elim, ◌↔◌}
use Rattle.std.specs.Prelude.{◌≤ℤ◌, ◌<ℤ◌}
use Rattle.std.specs.List.{fold, flat_map}
use Rattle.std.proofs.lemmas.Int.{ints}
use Rattle.cf_num.proofs.Orders.{le_or_lt_z}
use Rattle.cf_tree.specs.declared.base.Order.{Order}
use Rattle.cf_tree.specs.declared.base.Order.TheVariants.{Eq, Ne, Lt, Le, Gt, Ge}
use Rattle.cf_tree.specs.Numbers.{Compares}
use Rattle.cf_tree.specs.Relation.{IsLinearTerm}
use Rattle.cf_tree.specs.RelTree.{TermTree}
use Rattle.cf_linear.specs.Cases.{Atom, atom_true, atom_false, atom_compare, atom_divides, atom_not_divides, atom_same, atom_other, atom_subset, atom_not_subset, Normal, normal_atom, normal_and, normal_or, Signed, atom_signs, atom_ways, sign_choices, atom_cases, AtomRows, write_atom}
use Rattle.cf_linear.specs.Keep.{Over, Same}
use Rattle.cf_linear.specs.Layout.{Layout, first_free}
use Rattle.cf_linear.specs.Rows.{Row, Values, value, AreBelow}
use Rattle.cf_linear.specs.Systems.{EachRow}
use Rattle.cf_linear.specs.Written.{val_at, IsPlaced}
use Rattle.cf_linear.proofs.KindLemmas.{IsZero, IsNonneg, Over-put}
use Rattle.cf_linear.proofs.ValueLemmas.{Same-trans}
use Rattle.cf_cases.specs.Holding.{EachOf, SomeOf, signs_of, signs_in, AtomAt, SignedAt, AtomFits, SignedFits}
use Rattle.cf_cases.proofs.AtomLaws.{atom_from_rows, rows_from_atom}
use Rattle.cf_cases.proofs.BelowLaws.{positive_free}
use Rattle.cf_cases.proofs.CaseLaws.{length-signs_of}
use Rattle.cf_cases.proofs.Quantifiers.{each-append, each-imp, each-map, each-flat_map, some-left, some-right, some-imp, some-map, some-unmap, some-flat_map, some-unflat_map, some-out}
use Rattle.cf_cases.proofs.SystemLaws.{case-same, atom-low, atom-next}
use Rattle.cf_cases.proofs.WriteLaws.{val_at-same, same-less}
use Rattle.cf_formula.specs.Atoms.{ge, eq}
use Rattle.cf_formula.specs.Formulas.{Formula, Holds, Throughout, EachFormula, SomeFormula}
use Rattle.cf_formula.specs.Members.{conj, disj}
use Rattle.cf_formula.specs.Writing.{Written, Ways, rows_formula, with_way, ways_written, Flat, compared, flat_difference, flat_or_ways, atom_written, normal_written}
use Rattle.cf_formula.proofs.AtomLaws.{ge-holds, eq-holds}
use Rattle.cf_formula.proofs.FlatLaws.{flat-compares}
use Rattle.cf_formula.proofs.FormulaLemmas.{EachFormula-append, SomeFormula-append, Holds-same, Throughout-weaker, then_iff}
use Rattle.cf_formula.proofs.MemberLaws.{conj-holds, disj-holds}
use Rattle.cf_formula.proofs.OverLaws.{over_kind, ge-through, eq-through, conj-through, disj-through}
use Rattle.cf_formula.proofs.FlatOver.{plain-low, compared-through}
use Rattle.cf_formula.proofs.RewritingLaws.{conj_two, disj_two}

-- ---- what is asked of atoms, and what holds at values of the columns
abbrev pub AtomPlaced : Layout → Atom → Type 0
AtomPlaced l (atom_compare o a b) = (IsPlaced l a × IsLinearTerm a) × (IsPlaced l b × IsLinearTerm b)
AtomPlaced l a = AtomFits l a

abbrev pub NormalPlaced : Layout → Normal → Type 0
NormalPlaced l (normal_atom a) = AtomPlaced l a
NormalPlaced l (normal_and p q) = NormalPlaced l p × NormalPlaced l q
NormalPlaced l (normal_or p q) = NormalPlaced l p × NormalPlaced l q

abbrev pub NormalAt : Layout → Values → Normal → Type 0
NormalAt l v (normal_atom a) = AtomAt l v a
NormalAt l v (normal_and p q) = NormalAt l v p × NormalAt l v q
NormalAt l v (normal_or p q) = NormalAt l v p ⊎ NormalAt l v q

-- ---- signs and ways
choice_of : (ss : List Bool) → SomeOf (λ xs. xs ≡ ss) (sign_choices (length ss))
choice_of [] = inl refl
choice_of (false ∷ ss) =
    some-left (λ xs. xs ≡ false ∷ ss) (map (λ xs. false ∷ xs) (sign_choices (length ss))) (map (λ xs. true ∷ xs) (sign_choices (length ss)))
    (some-map (λ xs. xs ≡ false ∷ ss) (λ xs. false ∷ xs) (sign_choices (length ss))
    (some-imp (λ xs. xs ≡ ss) (λ xs. false ∷ xs ≡ false ∷ ss) (λ xs e. ap (λ ys. false ∷ ys) e) (sign_choices (length ss)) (choice_of ss)))
choice_of (true ∷ ss) =
    some-right (λ xs. xs ≡ true ∷ ss) (map (λ xs. false ∷ xs) (sign_choices (length ss))) (map (λ xs. true ∷ xs) (sign_choices (length ss)))
    (some-map (λ xs. xs ≡ true ∷ ss) (λ xs. true ∷ xs) (sign_choices (length ss))
    (some-imp (λ xs. xs ≡ ss) (λ xs. true ∷ xs ≡ true ∷ ss) (λ xs e. ap (λ ys. true ∷ ys) e) (sign_choices (length ss)) (choice_of ss)))

choices_long : (n : ℕ) → EachOf (λ (xs : List Bool). length xs ≡ n) (sign_choices n)
choices_long zero = (refl, tt)
choices_long (suc n) =
    each-append (λ xs. length xs ≡ suc n) (map (λ xs. false ∷ xs) (sign_choices n)) (map (λ xs. true ∷ xs) (sign_choices n))
    (each-map (λ xs. length xs ≡ suc n) (λ xs. false ∷ xs) (sign_choices n)
    (each-imp (λ xs. length xs ≡ n) (λ xs. suc (length xs) ≡ suc n) (λ xs e. ap suc e) (sign_choices n) (choices_long n)))
    (each-map (λ xs. length xs ≡ suc n) (λ xs. true ∷ xs) (sign_choices n)
    (each-imp (λ xs. length xs ≡ n) (λ xs. suc (length xs) ≡ suc n) (λ xs e. ap suc e) (sign_choices n) (choices_long n)))

pub signs_long : (f : TermTree → ℤ) (a : Atom) → length (signs_in f a) ≡ atom_signs a
signs_long f atom_true = refl
signs_long f atom_false = refl
signs_long f (atom_compare o a b) =
    let x = length-signs_of f a in let y = length-signs_of f b in let z = length-append (signs_of f a) (signs_of f b) in omega arith
signs_long f (atom_divides k t) = length-signs_of f t
signs_long f (atom_not_divides k t) = length-signs_of f t
signs_long f (atom_same a b) = refl
signs_long f (atom_other a b) = refl
signs_long f (atom_subset a b) = refl
signs_long f (atom_not_subset a b) = refl

way_signs : (a : Atom) → EachOf (λ (w : Atom). atom_signs w ≡ atom_signs a) (atom_ways a)
way_signs atom_true = (refl, tt)
way_signs atom_false = (refl, tt)
way_signs (atom_compare Eq a b) = (refl, tt)
way_signs (atom_compare Ne a b) = (refl, (refl, tt))
way_signs (atom_compare Lt a b) = (refl, tt)
way_signs (atom_compare Le a b) = (refl, tt)
way_signs (atom_compare Gt a b) = (refl, tt)
way_signs (atom_compare Ge a b) = (refl, tt)
way_signs (atom_divides k t) = (refl, tt)
way_signs (atom_not_divides k t) = (refl, tt)
way_signs (atom_same a b) = (refl, tt)
way_signs (atom_other a b) = (refl, tt)
way_signs (atom_subset a b) = (refl, tt)
way_signs (atom_not_subset a b) = (refl, tt)

ways_fit : (l : Layout) (a : Atom) → AtomPlaced l a → EachOf (λ (w : Atom). AtomFits l w × (atom_signs w ≡ atom_signs a)) (atom_ways a)
ways_fit l atom_true p = ((p, refl), tt)
ways_fit l atom_false p = ((p, refl), tt)
ways_fit l (atom_compare Eq a b) p = ((((λ e. cc e), p.0, p.1), refl), tt)
ways_fit l (atom_compare Ne a b) p = ((((λ e. cc e), p.0, p.1), refl), ((((λ e. cc e), p.0, p.1), refl), tt))
ways_fit l (atom_compare Lt a b) p = ((((λ e. cc e), p.0, p.1), refl), tt)
ways_fit l (atom_compare Le a b) p = ((((λ e. cc e), p.0, p.1), refl), tt)
ways_fit l (atom_compare Gt a b) p = ((((λ e. cc e), p.0, p.1), refl), tt)
ways_fit l (atom_compare Ge a b) p = ((((λ e. cc e), p.0, p.1), refl), tt)
ways_fit l (atom_divides k t) p = ((p, refl), tt)
ways_fit l (atom_not_divides k t) p = ((p, refl), tt)
ways_fit l (atom_same a b) p = ((p, refl), tt)
ways_fit l (atom_other a b) p = ((p, refl), tt)
ways_fit l (atom_subset a b) p = ((p, refl), tt)
ways_fit l (atom_not_subset a b) p = ((p, refl), tt)

cases_fit : (l : Layout) (a : Atom) → AtomPlaced l a → EachOf (SignedFits l) (atom_cases a)
cases_fit l a p =
    each-flat_map (SignedFits l) (λ ss. map (λ w. (w, ss)) (atom_ways a)) (sign_choices (atom_signs a))
    (each-imp (λ xs. length xs ≡ atom_signs a) (λ ss. EachOf (SignedFits l) (map (λ w. (w, ss)) (atom_ways a)))
    (λ ss e. each-map (SignedFits l) (λ w. (w, ss)) (atom_ways a)
    (each-imp (λ w. AtomFits l w × (atom_signs w ≡ atom_signs a)) (λ w. SignedFits l (w, ss)) (λ w q. (q.0, e ∙ sym q.1)) (atom_ways a) (ways_fit l a p)))
    (sign_choices (atom_signs a)) (choices_long (atom_signs a)))

module _ (l : Layout) (v : Values) where
  abbrev IsWay : Atom → Atom → Type 0
  IsWay a w = AtomAt l v w × (signs_in (val_at l v) w ≡ signs_in (val_at l v) a)

  ways_at : (a : Atom) → AtomAt l v a → SomeOf (IsWay a) (atom_ways a)
  ways_at atom_true h = inl (h, refl)
  ways_at atom_false h = inl (h, refl)
  ways_at (atom_compare Eq a b) h = inl (h, refl)
  ways_at (atom_compare Ne a b) h =
      ⊎_elim (λ (p : val_at l v b ≤ℤ val_at l v a). inr (inl (above (val_at l v a) (val_at l v b) p h, refl)))
      (λ (p : val_at l v a <ℤ val_at l v b). inl (p, refl)) (le_or_lt_z (val_at l v b) (val_at l v a))
    where
      above : (x y : ℤ) → y ≤ℤ x → x ≢ y → y <ℤ x
      above x y p n = omega (arith, ints)
  ways_at (atom_compare Lt a b) h = inl (h, refl)
  ways_at (atom_compare Le a b) h = inl (h, refl)
  ways_at (atom_compare Gt a b) h = inl (h, refl)
  ways_at (atom_compare Ge a b) h = inl (h, refl)
  ways_at (atom_divides k t) h = inl (h, refl)
  ways_at (atom_not_divides k t) h = inl (h, refl)
  ways_at (atom_same a b) h = inl (h, refl)
  ways_at (atom_other a b) h = inl (h, refl)
  ways_at (atom_subset a b) h = inl (h, refl)
  ways_at (atom_not_subset a b) h = inl (h, refl)

  only : {P : Type 0} → P ⊎ ⊥ → P
  only h = ⊎_elim (λ p. p) (λ p. absurd p) h

  from_ways : (a : Atom) → SomeOf (AtomAt l v) (atom_ways a) → AtomAt l v a
  from_ways atom_true h = only h
  from_ways atom_false h = only h
  from_ways (atom_compare Eq a b) h = only h
  from_ways (atom_compare Ne a b) h = apart (val_at l v a) (val_at l v b) h
    where
      apart : (x y : ℤ) → (x <ℤ y) ⊎ ((y <ℤ x) ⊎ ⊥) → x ≢ y
      apart x y h = ⊎_elim (λ p e. omega (arith, ints)) (λ q. ⊎_elim (λ p e. omega (arith, ints)) (λ p. absurd p) q) h
  from_ways (atom_compare Lt a b) h = only h
  from_ways (atom_compare Le a b) h = only h
  from_ways (atom_compare Gt a b) h = only h
  from_ways (atom_compare Ge a b) h = only h
  from_ways (atom_divides k t) h = only h
  from_ways (atom_not_divides k t) h = only h
  from_ways (atom_same a b) h = only h
  from_ways (atom_other a b) h = only h
  from_ways (atom_subset a b) h = only h
  from_ways (atom_not_subset a b) h = only h

  to_signed : (a : Atom) → AtomAt l v a → SomeOf (SignedAt l v) (atom_cases a)
  to_signed a h =
      let ss = signs_in (val_at l v) a in
      let chosen = subst (λ n. SomeOf (λ xs. xs ≡ ss) (sign_choices n)) (signs_long (val_at l v) a) (choice_of ss) in
      some-flat_map (SignedAt l v) (λ xs. map (λ w. (w, xs)) (atom_ways a)) (sign_choices (atom_signs a))
      (some-imp (λ xs. xs ≡ ss) (λ xs. SomeOf (SignedAt l v) (map (λ w. (w, xs)) (atom_ways a)))
      (λ xs e. some-map (SignedAt l v) (λ w. (w, xs)) (atom_ways a)
      (some-imp (IsWay a) (λ w. SignedAt l v (w, xs)) (λ w p. (p.0, e ∙ sym p.1)) (atom_ways a) (ways_at a h))) (sign_choices (atom_signs a)) chosen)

  from_signed : (a : Atom) → SomeOf (SignedAt l v) (atom_cases a) → AtomAt l v a
  from_signed a h =
      some-out (λ (xs : List Bool). SomeOf (SignedAt l v) (map (λ w. (w, xs)) (atom_ways a)))
      (λ xs p. from_ways a (some-imp (λ w. SignedAt l v (w, xs)) (AtomAt l v) (λ w q. q.0) (atom_ways a)
      (some-unmap (SignedAt l v) (λ w. (w, xs)) (atom_ways a) p))) (sign_choices (atom_signs a))
      (some-unflat_map (SignedAt l v) (λ xs. map (λ w. (w, xs)) (atom_ways a)) (sign_choices (atom_signs a)) h)

-- ---- the rows of a way
each_eq : (v : Values) → v 0 ≡ pos 1 → (rows : List Row) → EachFormula (Holds v) (map eq rows) ↔ EachRow (IsZero v) rows
each_eq v one [] = ((λ h. h), (λ h. h))
each_eq v one (r ∷ rows) = let i = eq-holds v one r in let j = each_eq v one rows in ((λ h. (i.0 h.0, j.0 h.1)), (λ h. (i.1 h.0, j.1 h.1)))

each_ge : (v : Values) → v 0 ≡ pos 1 → (rows : List Row) → EachFormula (Holds v) (map ge rows) ↔ EachRow (IsNonneg v) rows
each_ge v one [] = ((λ h. h), (λ h. h))
each_ge v one (r ∷ rows) = let i = ge-holds v one r in let j = each_ge v one rows in ((λ h. (i.0 h.0, j.0 h.1)), (λ h. (i.1 h.0, j.1 h.1)))

rows-hold : (v : Values) → v 0 ≡ pos 1 → (a : AtomRows) → Holds v (rows_formula a) ↔ (EachRow (IsZero v) a.equations × EachRow (IsNonneg v) a.inequalities)
rows-hold v one a =
    let c = conj-holds v (map eq a.equations ++ map ge a.inequalities) in
    let s = EachFormula-append (Holds v) (map eq a.equations) (map ge a.inequalities) in
    let i = each_eq v one a.equations in
    let j = each_ge v one a.inequalities in
    ((λ h. let k = s.0 (c.0 h) in (i.0 k.0, j.0 k.1)), (λ h. c.1 (s.1 (i.1 h.0, j.1 h.1))))

pub below_over : (n : ℕ) (r : Row) → AreBelow n r → Over (λ c. c < n) r
below_over n [] b = tt
below_over n ((c, k) ∷ r) b = (b.0, below_over n r b.1)

rows-through : (n : ℕ) → 0 < n → (a : AtomRows) → EachRow (AreBelow n) a.equations → EachRow (AreBelow n) a.inequalities →
    Throughout (λ c. c < n) (rows_formula a)
rows-through n z a e i =
    let small = λ (c : ℕ). c < n in
    let kind = over_kind small z in
    conj-through (Over small) kind (map eq a.equations ++ map ge a.inequalities)
    ((EachFormula-append (Throughout small) (map eq a.equations) (map ge a.inequalities)).1 (eqs a.equations e, ges a.inequalities i))
  where
    eqs : (rows : List Row) → EachRow (AreBelow n) rows → EachFormula (Throughout (λ c. c < n)) (map eq rows)
    eqs [] b = tt
    eqs (r ∷ rows) b = (eq-through (Over (λ c. c < n)) (over_kind (λ c. c < n) z) r (below_over n r b.0), eqs rows b.1)

    ges : (rows : List Row) → EachRow (AreBelow n) rows → EachFormula (Throughout (λ c. c < n)) (map ge rows)
    ges [] b = tt
    ges (r ∷ rows) b = (ge-through (Over (λ c. c < n)) (over_kind (λ c. c < n) z) r (below_over n r b.0), ges rows b.1)

-- ---- what is owed
-- the formula, over columns below the next one, holds for some quotients exactly where P does
pub record IsWritten (l : Layout) (P : Values → Type 0) (next : ℕ) (w : Written) : Type 0 where
  pub up : next ≤ w.next
  pub low : Throughout (λ c. c < w.next) w.formula
  pub forth : (v : Values) → v 0 ≡ pos 1 → P v → (u : Values) × Same next v u × Holds u w.formula
  pub back : (v : Values) → v 0 ≡ pos 1 → Holds v w.formula → P v

raised : (n m : ℕ) → n ≤ m → (f : Formula) → Throughout (λ c. c < n) f → Throughout (λ c. c < m) f
raised n m h f t = Throughout-weaker (λ c. c < n) (λ c. c < m) (λ c k. omega arith) f t

each_raised : (n m : ℕ) → n ≤ m → (fs : List Formula) → EachFormula (Throughout (λ c. c < n)) fs → EachFormula (Throughout (λ c. c < m)) fs
each_raised n m h [] t = tt
each_raised n m h (f ∷ fs) t = (raised n m h f t.0, each_raised n m h fs t.1)

pub still_one : (l : Layout) (n : ℕ) (v u : Values) → first_free l ≤ n → Same n v u → v 0 ≡ pos 1 → u 0 ≡ pos 1
still_one l n v u h s one = sym (s 0 (let z = positive_free l in omega arith)) ∙ one

-- ---- an atom by its ways
module _ (l : Layout) where
  abbrev all_ways : List Signed → Ways → Ways
  all_ways cases w = fold (with_way l) w cases

  ways_up : (cases : List Signed) (w : Ways) → w.next ≤ (fold (with_way l) w cases).next
  ways_up [] w = omega arith
  ways_up (s ∷ cases) w = let i = atom-next l s w.next in let j = ways_up cases (with_way l w s) in omega arith

  ways_keep : (P : Formula → Type 0) (cases : List Signed) (w : Ways) → SomeFormula P w.formulas → SomeFormula P (fold (with_way l) w cases).formulas
  ways_keep P [] w h = h
  ways_keep P (s ∷ cases) w h =
      ways_keep P cases (with_way l w s) ((SomeFormula-append P w.formulas (rows_formula (write_atom l s w.next) ∷ [])).1 (inl h))

  ways_forth : (v : Values) → v 0 ≡ pos 1 → (cases : List Signed) (w : Ways) → EachOf (SignedFits l) cases → first_free l ≤ w.next →
      SomeOf (SignedAt l v) cases →
      (u : Values) × Same w.next v u × SomeFormula (Holds u) (fold (with_way l) w cases).formulas
  ways_forth v one [] w f h s = absurd s
  ways_forth v one (c ∷ cases) w f h s =
      ⊎_elim
      (λ at.
      let m = rows_from_atom l v one c w.next f.0 h at in
      let there = still_one l w.next v m.values h m.same one in
      let holds = (rows-hold m.values there (write_atom l c w.next)).1 (m.zero, m.nonneg) in (
        m.values,
        m.same,
        ways_keep (Holds m.values) cases (with_way l w c)
            ((SomeFormula-append (Holds m.values) w.formulas (rows_formula (write_atom l c w.next) ∷ [])).1 (inr (inl holds))),
      ))
      (λ later.
      let i = atom-next l c w.next in
      let r = ways_forth v one cases (with_way l w c) f.1 (omega arith) later in
      (r.0, (λ d k. r.1 d (omega arith)), r.2)) s

  ways_back : (v : Values) → v 0 ≡ pos 1 → (cases : List Signed) (w : Ways) → EachOf (SignedFits l) cases → first_free l ≤ w.next →
      SomeFormula (Holds v) (fold (with_way l) w cases).formulas → SomeFormula (Holds v) w.formulas ⊎ SomeOf (SignedAt l v) cases
  ways_back v one [] w f h s = inl s
  ways_back v one (c ∷ cases) w f h s =
      let i = atom-next l c w.next in
      ⊎_elim
      (λ k.
      ⊎_elim (λ a. inl a)
      (λ a.
      let holds = ⊎_elim (λ b. b) (λ b. absurd b) a in
      let rows = (rows-hold v one (write_atom l c w.next)).0 holds in
      inr (inl (atom_from_rows l v one c w.next f.0 h rows.0 rows.1)))
      ((SomeFormula-append (Holds v) w.formulas (rows_formula (write_atom l c w.next) ∷ [])).0 k)) (λ k. inr (inr k))
      (ways_back v one cases (with_way l w c) f.1 (omega arith) s)

  ways_low : (cases : List Signed) (w : Ways) → EachOf (SignedFits l) cases → first_free l ≤ w.next → EachFormula (Throughout (λ c. c < w.next)) w.formulas →
      EachFormula (Throughout (λ c. c < (fold (with_way l) w cases).next)) (fold (with_way l) w cases).formulas
  ways_low [] w f h t = t
  ways_low (c ∷ cases) w f h t =
      let a = write_atom l c w.next in
      let i = atom-next l c w.next in
      let low = atom-low l c w.next f.0 h in
      let z = positive_free l in
      ways_low cases (with_way l w c) f.1 (omega arith)
      ((EachFormula-append (Throughout (λ d. d < a.next)) w.formulas (rows_formula a ∷ [])).1
      (each_raised w.next a.next i w.formulas t, (rows-through a.next (omega arith) a low.zero low.nonneg, tt)))

  ways_are : (a : Atom) (next : ℕ) → AtomPlaced l a → first_free l ≤ next → IsWritten l (λ v. AtomAt l v a) next (ways_written l a next)
  ways_are a next p h =
      let start : Ways = record { formulas = []; next = next } in
      let f = cases_fit l a p in
      let w = fold (with_way l) start (atom_cases a) in
      let up = ways_up (atom_cases a) start in
      let z = positive_free l in
      let small = λ (c : ℕ). c < w.next in
      record {
        up = up;
        low = disj-through (Over small) (over_kind small (omega arith)) w.formulas (ways_low (atom_cases a) start f h tt);
        forth = λ v one at.
            let r = ways_forth v one (atom_cases a) start f h (to_signed l v a at) in
            (r.0, r.1, (disj-holds r.0 (still_one l next v r.0 h r.1 one) w.formulas).1 r.2);
        back = λ v one holds.
            from_signed l v a (⊎_elim (λ k. absurd k) (λ k. k) (ways_back v one (atom_cases a) start f h ((disj-holds v one w.formulas).0 holds)));
      }

  -- ---- an atom
  flat_are : (o : Order) (t u : TermTree) (next : ℕ) (f : Option Flat) → AtomPlaced l (atom_compare o t u) → first_free l ≤ next → flat_difference l t u ≡ f →
      IsWritten l (λ v. AtomAt l v (atom_compare o t u)) next (flat_or_ways l (atom_compare o t u) o next f)
  flat_are o t u next None p h e = ways_are (atom_compare o t u) next p h
  flat_are o t u next (Some f) p h e = let z = positive_free l in let small = λ (c : ℕ). c < first_free l in record {
    up = omega arith;
    low = raised (first_free l) next h (compared o f) (compared-through l (Over small) (over_kind small z) (λ d. Over-put small 0 d [] z tt)
        (λ x i j. plain-low l x i j) o t u f p.0.0 p.1.0 e);
    forth = λ v one at. (v, (λ c k. refl), (flat-compares l v one o t u f p.0.1 p.1.1 e).1 at);
    back = λ v one holds. (flat-compares l v one o t u f p.0.1 p.1.1 e).0 holds;
  }

  atom_are : (a : Atom) (next : ℕ) → AtomPlaced l a → first_free l ≤ next → IsWritten l (λ v. AtomAt l v a) next (atom_written l a next)
  atom_are (atom_compare o t u) next p h = flat_are o t u next (flat_difference l t u) p h refl
  atom_are atom_true next p h = ways_are atom_true next p h
  atom_are atom_false next p h = ways_are atom_false next p h
  atom_are (atom_divides k t) next p h = ways_are (atom_divides k t) next p h
  atom_are (atom_not_divides k t) next p h = ways_are (atom_not_divides k t) next p h
  atom_are (atom_same a b) next p h = ways_are (atom_same a b) next p h
  atom_are (atom_other a b) next p h = ways_are (atom_other a b) next p h
  atom_are (atom_subset a b) next p h = ways_are (atom_subset a b) next p h
  atom_are (atom_not_subset a b) next p h = ways_are (atom_not_subset a b) next p h

  -- ---- values that agree on the layout
  fits_same : (v w : Values) → Same (first_free l) v w → (a : Atom) → AtomFits l a → AtomAt l v a → AtomAt l w a
  fits_same v w s a f h =
      (case-same l v w s ((a, signs_in (val_at l v) a) ∷ []) ((f, signs_long (val_at l v) a), tt) ((h, refl), tt)).0.0

  atom_same_at : (v w : Values) → Same (first_free l) v w → (a : Atom) → AtomPlaced l a → AtomAt l v a → AtomAt l w a
  atom_same_at v w s (atom_compare o a b) f h = rw (val_at-same l v w s a f.0.0, val_at-same l v w s b f.1.0) at h
  atom_same_at v w s atom_true f h = h
  atom_same_at v w s atom_false f h = h
  atom_same_at v w s (atom_divides k t) f h = fits_same v w s (atom_divides k t) f h
  atom_same_at v w s (atom_not_divides k t) f h = fits_same v w s (atom_not_divides k t) f h
  atom_same_at v w s (atom_same a b) f h = fits_same v w s (atom_same a b) f h
  atom_same_at v w s (atom_other a b) f h = fits_same v w s (atom_other a b) f h
  atom_same_at v w s (atom_subset a b) f h = fits_same v w s (atom_subset a b) f h
  atom_same_at v w s (atom_not_subset a b) f h = fits_same v w s (atom_not_subset a b) f h

  pub normal-same : (v w : Values) → Same (first_free l) v w → (p : Normal) → NormalPlaced l p → NormalAt l v p → NormalAt l w p
  normal-same v w s (normal_atom a) f h = atom_same_at v w s a f h
  normal-same v w s (normal_and p q) f h = (normal-same v w s p f.0 h.0, normal-same v w s q f.1 h.1)
  normal-same v w s (normal_or p q) f h = ⊎_elim (λ k. inl (normal-same v w s p f.0 k)) (λ k. inr (normal-same v w s q f.1 k)) h

  -- ---- a relation without negations
  pub normal_are : (p : Normal) (next : ℕ) → NormalPlaced l p → first_free l ≤ next → IsWritten l (λ v. NormalAt l v p) next (normal_written l p next)
  normal_are (normal_atom a) next f h = atom_are a next f h
  normal_are (normal_and p q) next f h =
      let w = normal_written l p next in
      let i = normal_are p next f.0 h in
      let iu = i.up in
      let u = normal_written l q w.next in
      let j = normal_are q w.next f.1 (omega arith) in
      let ju = j.up in
      let z = positive_free l in
      let small = λ (c : ℕ). c < u.next in
      record {
        up = omega arith;
        low = conj-through (Over small) (over_kind small (omega arith)) (w.formula ∷ u.formula ∷ []) (raised w.next u.next ju w.formula i.low, (j.low, tt));
        forth = λ v one at.
            let a = i.forth v one at.0 in
            let one_a = still_one l next v a.0 h a.1 one in
            let same_a = same-less (first_free l) next v a.0 h a.1 in
            let b = j.forth a.0 one_a (normal-same v a.0 same_a q f.1 at.1) in (
              b.0,
              (λ c k. a.1 c k ∙ b.1 c (omega arith)),
              (conj_two b.0 w.formula u.formula).1 (Holds-same w.next a.0 b.0 b.1 w.formula i.low a.2, b.2),
            );
        back = λ v one holds. let k = (conj_two v w.formula u.formula).0 holds in (i.back v one k.0, j.back v one k.1);
      }
  normal_are (normal_or p q) next f h =
      let w = normal_written l p next in
      let i = normal_are p next f.0 h in
      let iu = i.up in
      let u = normal_written l q w.next in
      let j = normal_are q w.next f.1 (omega arith) in
      let ju = j.up in
      let z = positive_free l in
      let small = λ (c : ℕ). c < u.next in
      record {
        up = omega arith;
        low = disj-through (Over small) (over_kind small (omega arith)) (w.formula ∷ u.formula ∷ []) (raised w.next u.next ju w.formula i.low, (j.low, tt));
        forth = λ v one at.
            ⊎_elim
            (λ k.
            let a = i.forth v one k in
            (a.0, a.1, (disj_two a.0 (still_one l next v a.0 h a.1 one) w.formula u.formula).1 (inl a.2)))
            (λ k.
            let b = j.forth v one k in
            let s : Same next v b.0 = λ c m. b.1 c (omega arith) in
            (b.0, s, (disj_two b.0 (still_one l next v b.0 h s one) w.formula u.formula).1 (inr b.2))) at;
        back = λ v one holds. ⊎_elim (λ k. inl (i.back v one k)) (λ k. inr (j.back v one k)) ((disj_two v one w.formula u.formula).0 holds);
      }
