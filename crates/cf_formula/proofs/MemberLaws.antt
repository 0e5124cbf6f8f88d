-- The members of an `and` and of an `or`.
use Rattle.std.proofs.Common.{◌≡◌, pos, List, [], ◌∷◌, ◌++◌, Bool, true, false, not, ◌||◌, cond, refl, sym, ap, ap₂, subst, ◌⊎◌, inl, inr, ⊎_elim, ◌↔◌}
use Rattle.std.specs.Prelude.{◌≤ℤ◌, filter}
use Rattle.std.specs.List.{list_any, flat_map}
use Rattle.std.proofs.lemmas.Bool.{cond_both, and_parts}
use Rattle.cf_linear.specs.Rows.{Row, Values, value}
use Rattle.cf_linear.proofs.BoolLemmas.{on_bool}
use Rattle.cf_linear.proofs.RowTests.{same_row-is}
use Rattle.cf_formula.specs.Formulas.{Formula, always, never, at_least, equal, both, either, Holds, EachFormula, SomeFormula}
use Rattle.cf_formula.specs.Atoms.{are_opposite}
use Rattle.cf_formula.specs.Members.{same_formula, is_among, distinct_formulas, conjuncts, disjuncts, all_of, any_of, is_needless_or, and_of, conj, is_needless_and, opposes, has_opposite, is_covered, or_of, disj}
use Rattle.cf_formula.proofs.FormulaLemmas.{EachFormula-append, SomeFormula-append, then_iff}
use Rattle.cf_formula.proofs.AtomLaws.{opposite-hold}

-- ---- equal formulas
pub same_formula-is : (f g : Formula) → same_formula f g ≡ true → f ≡ g
same_formula-is always always e = refl
same_formula-is never never e = refl
same_formula-is (at_least r) (at_least s) e = ap at_least (same_row-is r s e)
same_formula-is (equal r) (equal s) e = ap equal (same_row-is r s e)
same_formula-is (both f g) (both h k) e =
    let p = and_parts (same_formula f h) (same_formula g k) e in
    ap₂ both (same_formula-is f h p.0) (same_formula-is g k p.1)
same_formula-is (either f g) (either h k) e =
    let p = and_parts (same_formula f h) (same_formula g k) e in
    ap₂ either (same_formula-is f h p.0) (same_formula-is g k p.1)
same_formula-is f g e = cc e

-- what holds of each holds of one among them, and what holds of one among them holds of some
among_has : (P : Formula → Type 0) (fs : List Formula) (f : Formula) → EachFormula P fs → is_among fs f ≡ true → P f
among_has P [] f h e = cc e
among_has P (g ∷ fs) f h e =
    on_bool (same_formula f g) (λ i. subst P (sym (same_formula-is f g i)) h.0) (λ i. among_has P fs f h.1 (rw i at e))

some_among : (P : Formula → Type 0) (fs : List Formula) (f : Formula) → P f → is_among fs f ≡ true → SomeFormula P fs
some_among P [] f p e = cc e
some_among P (g ∷ fs) f p e =
    on_bool (same_formula f g) (λ i. inl (subst P (same_formula-is f g i) p)) (λ i. inr (some_among P fs f p (rw i at e)))

-- ---- equal ones once
pub distinct-each : (P : Formula → Type 0) (seen fs : List Formula) → EachFormula P seen → EachFormula P (distinct_formulas seen fs) ↔ EachFormula P fs
distinct-each P seen [] s = ((λ h. h), (λ h. h))
distinct-each P seen (f ∷ fs) s =
    cond_both (is_among seen f) (distinct_formulas seen fs) (f ∷ distinct_formulas (f ∷ seen) fs) (λ ys. EachFormula P ys ↔ EachFormula P (f ∷ fs))
    (λ e. let i = distinct-each P seen fs s in ((λ h. (among_has P seen f s e, i.0 h)), (λ h. i.1 h.1)))
    (λ e. ((λ h. (h.0, (distinct-each P (f ∷ seen) fs (h.0, s)).0 h.1)), (λ h. (h.0, (distinct-each P (f ∷ seen) fs (h.0, s)).1 h.1))))

distinct-forth : (P : Formula → Type 0) (seen fs : List Formula) → SomeFormula P fs → SomeFormula P seen ⊎ SomeFormula P (distinct_formulas seen fs)
distinct-forth P seen [] h = absurd h
distinct-forth P seen (f ∷ fs) h =
    cond_both (is_among seen f) (distinct_formulas seen fs) (f ∷ distinct_formulas (f ∷ seen) fs) (λ ys. SomeFormula P seen ⊎ SomeFormula P ys)
    (λ e. ⊎_elim (λ p. inl (some_among P seen f p e)) (λ s. distinct-forth P seen fs s) h)
    (λ e.
    ⊎_elim (λ p. inr (inl p))
    (λ s. ⊎_elim (λ q. ⊎_elim (λ p. inr (inl p)) (λ t. inl t) q) (λ t. inr (inr t)) (distinct-forth P (f ∷ seen) fs s)) h)

distinct-back : (P : Formula → Type 0) (seen fs : List Formula) → SomeFormula P (distinct_formulas seen fs) → SomeFormula P fs
distinct-back P seen [] h = h
distinct-back P seen (f ∷ fs) h =
    cond_both (is_among seen f) (distinct_formulas seen fs) (f ∷ distinct_formulas (f ∷ seen) fs) (λ ys. SomeFormula P ys → SomeFormula P (f ∷ fs))
    (λ e s. inr (distinct-back P seen fs s)) (λ e s. ⊎_elim (λ p. inl p) (λ t. inr (distinct-back P (f ∷ seen) fs t)) s) h

distinct-some : (P : Formula → Type 0) (fs : List Formula) → SomeFormula P (distinct_formulas [] fs) ↔ SomeFormula P fs
distinct-some P fs = ((λ h. distinct-back P [] fs h), (λ h. ⊎_elim (λ i. absurd i) (λ i. i) (distinct-forth P [] fs h)))

-- ---- members
conjuncts-hold : (v : Values) (f : Formula) → EachFormula (Holds v) (conjuncts f) ↔ Holds v f
conjuncts-hold v always = ((λ h. tt), (λ h. tt))
conjuncts-hold v (both f g) =
    let a = EachFormula-append (Holds v) (conjuncts f) (conjuncts g) in
    let i = conjuncts-hold v f in
    let j = conjuncts-hold v g in
    ((λ h. let k = a.0 h in (i.0 k.0, j.0 k.1)), (λ h. a.1 (i.1 h.0, j.1 h.1)))
conjuncts-hold v f = ((λ h. h.0), (λ h. (h, tt)))

pub disjuncts-hold : (v : Values) (f : Formula) → SomeFormula (Holds v) (disjuncts f) ↔ Holds v f
disjuncts-hold v never = ((λ h. h), (λ h. h))
disjuncts-hold v (either f g) =
    let a = SomeFormula-append (Holds v) (disjuncts f) (disjuncts g) in
    let i = disjuncts-hold v f in
    let j = disjuncts-hold v g in
    ((λ h. ⊎_elim (λ k. inl (i.0 k)) (λ k. inr (j.0 k)) (a.0 h)), (λ h. a.1 (⊎_elim (λ k. inl (i.1 k)) (λ k. inr (j.1 k)) h)))
disjuncts-hold v f = ((λ h. ⊎_elim (λ i. i) (λ i. absurd i) h), (λ h. inl h))

all_conjuncts : (v : Values) (fs : List Formula) → EachFormula (Holds v) (flat_map conjuncts fs) ↔ EachFormula (Holds v) fs
all_conjuncts v [] = ((λ h. h), (λ h. h))
all_conjuncts v (f ∷ fs) =
    let a = EachFormula-append (Holds v) (conjuncts f) (flat_map conjuncts fs) in
    let i = conjuncts-hold v f in
    let j = all_conjuncts v fs in
    ((λ h. let k = a.0 h in (i.0 k.0, j.0 k.1)), (λ h. a.1 (i.1 h.0, j.1 h.1)))

all_disjuncts : (v : Values) (fs : List Formula) → SomeFormula (Holds v) (flat_map disjuncts fs) ↔ SomeFormula (Holds v) fs
all_disjuncts v [] = ((λ h. h), (λ h. h))
all_disjuncts v (f ∷ fs) =
    let a = SomeFormula-append (Holds v) (disjuncts f) (flat_map disjuncts fs) in
    let i = disjuncts-hold v f in
    let j = all_disjuncts v fs in
    ((λ h. ⊎_elim (λ k. inl (i.0 k)) (λ k. inr (j.0 k)) (a.0 h)), (λ h. a.1 (⊎_elim (λ k. inl (i.1 k)) (λ k. inr (j.1 k)) h)))

pub all_of-holds : (v : Values) (fs : List Formula) → Holds v (all_of fs) ↔ EachFormula (Holds v) fs
all_of-holds v [] = ((λ h. h), (λ h. h))
all_of-holds v (f ∷ []) = ((λ h. (h, tt)), (λ h. h.0))
all_of-holds v (f ∷ g ∷ fs) = let i = all_of-holds v (g ∷ fs) in ((λ h. (h.0, i.0 h.1)), (λ h. (h.0, i.1 h.1)))

pub any_of-holds : (v : Values) (fs : List Formula) → Holds v (any_of fs) ↔ SomeFormula (Holds v) fs
any_of-holds v [] = ((λ h. h), (λ h. h))
any_of-holds v (f ∷ []) = ((λ h. inl h), (λ h. ⊎_elim (λ i. i) (λ i. absurd i) h))
any_of-holds v (f ∷ g ∷ fs) =
    let i = any_of-holds v (g ∷ fs) in
    ((λ h. ⊎_elim (λ k. inl k) (λ k. inr (i.0 k)) h), (λ h. ⊎_elim (λ k. inl k) (λ k. inr (i.1 k)) h))

any-append : (p : Formula → Bool) (xs ys : List Formula) → list_any p (xs ++ ys) ≡ true → (list_any p xs ≡ true) ⊎ (list_any p ys ≡ true)
any-append p [] ys e = inr e
any-append p (x ∷ xs) ys e = on_bool (p x) (λ i. inl (rw i refl)) (λ i. ⊎_elim (λ j. inl (rw i j)) (λ j. inr j) (any-append p xs ys (rw i at e)))

-- ---- formulas that pass a test
pub filter-each : (P : Formula → Type 0) (p : Formula → Bool) (fs : List Formula) → EachFormula P fs → EachFormula P (filter p fs)
filter-each P p [] h = tt
filter-each P p (f ∷ fs) h =
    cond_both (p f) (f ∷ filter p fs) (filter p fs) (EachFormula P) (λ e. (h.0, filter-each P p fs h.1)) (λ e. filter-each P p fs h.1)

-- a formula that passes is among those that pass
filter-among : (P : Formula → Type 0) (p : Formula → Bool) (fs : List Formula) (f : Formula) → EachFormula P (filter p fs) → is_among fs f ≡ true → p f ≡ true →
    P f
filter-among P p [] f h e q = cc e
filter-among P p (g ∷ fs) f h e q =
    on_bool (same_formula f g)
    (λ i. let j = same_formula-is f g i in first (p g) (subst (λ y. p y ≡ true) j q) (subst P (sym j)) h)
    (λ i. filter-among P p fs f (rest (p g) h) (rw i at e) q)
  where
    first : (b : Bool) → b ≡ true → (P g → P f) → EachFormula P (cond b (g ∷ filter p fs) (filter p fs)) → P f
    first true i k h = k h.0
    first false i k h = cc i

    rest : (b : Bool) → EachFormula P (cond b (g ∷ filter p fs) (filter p fs)) → EachFormula P (filter p fs)
    rest true h = h.1
    rest false h = h

filter-back : (P : Formula → Type 0) (p : Formula → Bool) (fs : List Formula) → SomeFormula P (filter p fs) → SomeFormula P fs
filter-back P p [] h = h
filter-back P p (f ∷ fs) h =
    cond_both (p f) (f ∷ filter p fs) (filter p fs) (λ ys. SomeFormula P ys → SomeFormula P (f ∷ fs))
    (λ e s. ⊎_elim (λ i. inl i) (λ i. inr (filter-back P p fs i)) s) (λ e s. inr (filter-back P p fs s)) h

filter-keeps : (P : Formula → Type 0) (p : Formula → Bool) (fs : List Formula) (f : Formula) → P f → is_among fs f ≡ true → p f ≡ true →
    SomeFormula P (filter p fs)
filter-keeps P p [] f h e q = cc e
filter-keeps P p (g ∷ fs) f h e q =
    on_bool (same_formula f g)
    (λ i. let j = same_formula-is f g i in first (p g) (subst (λ y. p y ≡ true) j q) (subst P j h))
    (λ i. later (p g) (filter-keeps P p fs f h (rw i at e) q))
  where
    first : (b : Bool) → b ≡ true → P g → SomeFormula P (cond b (g ∷ filter p fs) (filter p fs))
    first true i k = inl k
    first false i k = cc i

    later : (b : Bool) → SomeFormula P (filter p fs) → SomeFormula P (cond b (g ∷ filter p fs) (filter p fs))
    later true s = inr s
    later false s = s

-- ---- an `or` with a member that holds
module _ (v : Values) (fs : List Formula) (h : EachFormula (Holds v) (filter (λ f. not (is_needless_or fs f)) fs)) where
  -- a member that is no `or` and among fs makes its `or` true
  some_disjunct : (f : Formula) → list_any (is_among fs) (disjuncts f) ≡ true → Holds v f
  some_disjunct never e = cc e
  some_disjunct (either f g) e =
      ⊎_elim (λ i. inl (some_disjunct f i)) (λ i. inr (some_disjunct g i)) (any-append (is_among fs) (disjuncts f) (disjuncts g) e)
  some_disjunct f e =
      on_bool (is_among fs f) (λ i. filter-among (Holds v) (λ g. not (is_needless_or fs g)) fs f h i refl) (λ i. let j : false ≡ true = rw i at e in cc)

  needless_or_holds : (f : Formula) → is_needless_or fs f ≡ true → Holds v f
  needless_or_holds (either f g) e = some_disjunct (either f g) e
  needless_or_holds f e = cc e

  all_hold : (gs : List Formula) → EachFormula (Holds v) (filter (λ f. not (is_needless_or fs f)) gs) → EachFormula (Holds v) gs
  all_hold [] k = tt
  all_hold (g ∷ gs) k = by (is_needless_or fs g) (needless_or_holds g) (all_hold gs) k
    where
      by : (b : Bool) → (b ≡ true → Holds v g) → (EachFormula (Holds v) (filter (λ f. not (is_needless_or fs f)) gs) → EachFormula (Holds v) gs) →
          EachFormula (Holds v) (cond (not b) (g ∷ filter (λ f. not (is_needless_or fs f)) gs) (filter (λ f. not (is_needless_or fs f)) gs)) →
          EachFormula (Holds v) (g ∷ gs)
      by true f again k = (f refl, again k)
      by false f again k = (k.0, again k.1)

and_of-holds : (v : Values) (fs : List Formula) → Holds v (and_of fs) ↔ EachFormula (Holds v) fs
and_of-holds v fs =
    cond_both (is_among fs never) never (all_of (filter (λ f. not (is_needless_or fs f)) fs)) (λ f. Holds v f ↔ EachFormula (Holds v) fs)
    (λ e. ((λ h. absurd h), (λ h. among_has (Holds v) fs never h e)))
    (λ e.
    let o = all_of-holds v (filter (λ f. not (is_needless_or fs f)) fs) in
    ((λ h. let k = o.0 h in all_hold v fs k fs k), (λ h. o.1 (filter-each (Holds v) (λ f. not (is_needless_or fs f)) fs h))))

pub conj-holds : (v : Values) (fs : List Formula) → Holds v (conj fs) ↔ EachFormula (Holds v) fs
conj-holds v fs =
    then_iff (and_of-holds v (distinct_formulas [] (flat_map conjuncts fs)))
    (then_iff (distinct-each (Holds v) [] (flat_map conjuncts fs) tt) (all_conjuncts v fs))

-- ---- an `and` with a member beside it
module _ (v : Values) (fs : List Formula) where
  -- a member that is no `and` and among fs is kept
  some_conjunct : (f : Formula) → list_any (is_among fs) (conjuncts f) ≡ true → Holds v f → SomeFormula (Holds v) (filter (λ g. not (is_needless_and fs g)) fs)
  some_conjunct always e h = cc e
  some_conjunct (both f g) e h =
      ⊎_elim (λ i. some_conjunct f i h.0) (λ i. some_conjunct g i h.1) (any-append (is_among fs) (conjuncts f) (conjuncts g) e)
  some_conjunct f e h =
      on_bool (is_among fs f) (λ i. filter-keeps (Holds v) (λ g. not (is_needless_and fs g)) fs f h i refl) (λ i. let j : false ≡ true = rw i at e in cc)

  needless_and_kept : (f : Formula) → is_needless_and fs f ≡ true → Holds v f → SomeFormula (Holds v) (filter (λ g. not (is_needless_and fs g)) fs)
  needless_and_kept (both f g) e h = some_conjunct (both f g) e h
  needless_and_kept f e h = cc e

  some_kept : (gs : List Formula) → SomeFormula (Holds v) gs →
      SomeFormula (Holds v) (filter (λ f. not (is_needless_and fs f)) fs) ⊎ SomeFormula (Holds v) (filter (λ f. not (is_needless_and fs f)) gs)
  some_kept [] k = absurd k
  some_kept (g ∷ gs) k = by (is_needless_and fs g) (needless_and_kept g) (some_kept gs) k
    where
      by : (b : Bool) → (b ≡ true → Holds v g → SomeFormula (Holds v) (filter (λ f. not (is_needless_and fs f)) fs)) →
          (SomeFormula (Holds v) gs →
          SomeFormula (Holds v) (filter (λ f. not (is_needless_and fs f)) fs) ⊎ SomeFormula (Holds v) (filter (λ f. not (is_needless_and fs f)) gs)) →
          SomeFormula (Holds v) (g ∷ gs) →
          SomeFormula (Holds v) (filter (λ f. not (is_needless_and fs f)) fs) ⊎ SomeFormula (Holds v)
          (cond (not b) (g ∷ filter (λ f. not (is_needless_and fs f)) gs) (filter (λ f. not (is_needless_and fs f)) gs))
      by true f again k = ⊎_elim (λ i. inl (f refl i)) (λ i. again i) k
      by false f again k = ⊎_elim (λ i. inr (inl i)) (λ i. ⊎_elim (λ j. inl j) (λ j. inr (inr j)) (again i)) k

  needed-some : SomeFormula (Holds v) (filter (λ f. not (is_needless_and fs f)) fs) ↔ SomeFormula (Holds v) fs
  needed-some = ((λ h. filter-back (Holds v) (λ f. not (is_needless_and fs f)) fs h), (λ h. ⊎_elim (λ i. i) (λ i. i) (some_kept fs h)))

-- ---- two members of which one always holds
module _ (v : Values) (one : v 0 ≡ pos 1) where
  opposed : (r : Row) (fs : List Formula) → list_any (opposes r) fs ≡ true → (pos 0 ≤ℤ value v r) ⊎ SomeFormula (Holds v) fs
  opposed r [] e = cc e
  opposed r (at_least s ∷ fs) e =
      on_bool (are_opposite r s) (λ i. ⊎_elim (λ k. inl k) (λ k. inr (inl k)) (opposite-hold v one r s i))
      (λ i. ⊎_elim (λ k. inl k) (λ k. inr (inr k)) (opposed r fs (rw i at e)))
  opposed r (f ∷ fs) e = ⊎_elim (λ k. inl k) (λ k. inr (inr k)) (opposed r fs e)

  some_opposed : (all fs : List Formula) → list_any (has_opposite all) fs ≡ true → SomeFormula (Holds v) fs ⊎ SomeFormula (Holds v) all
  some_opposed all [] e = cc e
  some_opposed all (at_least r ∷ fs) e =
      on_bool (list_any (opposes r) all) (λ i. ⊎_elim (λ k. inl (inl k)) (λ k. inr k) (opposed r all i))
      (λ i. ⊎_elim (λ k. inl (inr k)) (λ k. inr k) (some_opposed all fs (rw i at e)))
  some_opposed all (f ∷ fs) e = ⊎_elim (λ k. inl (inr k)) (λ k. inr k) (some_opposed all fs e)

  covered-some : (fs : List Formula) → is_covered fs ≡ true → SomeFormula (Holds v) fs
  covered-some fs e =
      on_bool (is_among fs always) (λ i. some_among (Holds v) fs always tt i)
      (λ i. ⊎_elim (λ k. k) (λ k. k) (some_opposed fs fs (rw i at e)))

  or_of-holds : (fs : List Formula) → Holds v (or_of fs) ↔ SomeFormula (Holds v) fs
  or_of-holds fs =
      cond_both (is_covered fs) always (any_of (filter (λ f. not (is_needless_and fs f)) fs)) (λ f. Holds v f ↔ SomeFormula (Holds v) fs)
      (λ e. ((λ h. covered-some fs e), (λ h. tt)))
      (λ e. then_iff (any_of-holds v (filter (λ f. not (is_needless_and fs f)) fs)) (needed-some v fs))

  pub disj-holds : (fs : List Formula) → Holds v (disj fs) ↔ SomeFormula (Holds v) fs
  disj-holds fs =
      then_iff (or_of-holds (distinct_formulas [] (flat_map disjuncts fs)))
      (then_iff (distinct-some (Holds v) (flat_map disjuncts fs)) (all_disjuncts v fs))
