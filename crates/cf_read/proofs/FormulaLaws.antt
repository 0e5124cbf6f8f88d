-- Where a formula holds, its problem has a solution.
use Rattle.std.proofs.Common.{◌≡◌, ℕ, ◌<◌, ◌==◌, ◌⊎◌, inl, inr, ⊎_elim, pos, Bool, true, false, List, [], ◌∷◌, ◌++◌, length, get_or, refl, sym, ◌∙◌, ap, subst, arith, append_assoc}
use Rattle.std.specs.Prelude.{◌||◌}
use Rattle.std.proofs.Math.Seq.{get_or-append_seam}
use Rattle.std.proofs.lemmas.Bool.{eqb-true, eq-eqb}
use Rattle.std.proofs.lemmas.List.{append-nil, get_or_append_left, length-append}
use Rattle.std.proofs.lemmas.List.Elements.{All-push, All-weaker}
use Rattle.cf_linear.specs.Rows.{Values, Row}
use Rattle.cf_close.specs.declared.fact.FactKind.{FactKind}
use Rattle.cf_close.specs.declared.fact.FactKind.TheVariants.{Equation, Inequality}
use Rattle.cf_close.specs.Facts.{FactHolds}
use Rattle.cf_close.specs.Problems.{Conjunction, Marks, OrHolds, ConjunctionHolds, MarkedHold, HasNone}
use Rattle.cf_close.proofs.NodeLemmas.{All-none}
use Rattle.cf_formula.specs.Formulas.{Formula, always, never, at_least, equal, both, either, Holds}
use Rattle.cf_read.specs.Systems.{fact_as}
use Rattle.cf_read.specs.FormulaProblems.{Reading, Branches, no_facts, with_row, with_or, branched, begun, with_branches, with_formula, with_branch, problem_of_formula, read_so}

-- ---- what is made stays
pub record Longer {A : Type 0} (old new : List A) : Type 0 where
  pub more : List A
  pub is : new ≡ old ++ more

no_longer : {A : Type 0} (xs : List A) → Longer xs xs
no_longer xs = record { more = []; is = sym (append-nil xs) }

one_longer : {A : Type 0} (xs : List A) (x : A) → Longer xs (xs ++ x ∷ [])
one_longer xs x = record { more = x ∷ []; is = refl }

still_longer : {A : Type 0} (xs ys zs : List A) → Longer xs ys → Longer ys zs → Longer xs zs
still_longer xs ys zs h k = record { more = h.more ++ k.more; is = k.is ∙ ap (λ ws. ws ++ k.more) h.is ∙ append_assoc xs h.more k.more }

branched_longer : (made : List Conjunction) (places : List ℕ) (r : Reading) → Longer made r.made → Longer made (branched places r).made
branched_longer made places r h = still_longer made r.made (branched places r).made h (one_longer r.made r.next)

mutual
  formula_longer : (f : Formula) (r : Reading) → Longer r.made (with_formula f r).made
  formula_longer always r = no_longer r.made
  formula_longer never r = no_longer r.made
  formula_longer (at_least row) r = no_longer r.made
  formula_longer (equal row) r = no_longer r.made
  formula_longer (both f g) r =
      still_longer r.made (with_formula f r).made (with_formula g (with_formula f r)).made (formula_longer f r) (formula_longer g (with_formula f r))
  formula_longer (either f g) r =
      let b : Branches = record { made = r.made; places = [] } in
      still_longer r.made (with_branch f b).made (with_branch g (with_branch f b)).made (branch_longer f b) (branch_longer g (with_branch f b))

  branch_longer : (f : Formula) (b : Branches) → Longer b.made (with_branch f b).made
  branch_longer always b = branched_longer b.made b.places (begun b.made) (no_longer b.made)
  branch_longer never b = no_longer b.made
  branch_longer (at_least row) b = branched_longer b.made b.places (read_so b.made (with_row Inequality row no_facts)) (no_longer b.made)
  branch_longer (equal row) b = branched_longer b.made b.places (read_so b.made (with_row Equation row no_facts)) (no_longer b.made)
  branch_longer (both f g) b =
      let r = with_formula f (begun b.made) in
      branched_longer b.made b.places (with_formula g r)
      (still_longer b.made r.made (with_formula g r).made (formula_longer f (begun b.made)) (formula_longer g r))
  branch_longer (either f g) b =
      still_longer b.made (with_branch f b).made (with_branch g (with_branch f b)).made (branch_longer f b) (branch_longer g (with_branch f b))

branched_places : (places : List ℕ) (r : Reading) → Longer places (branched places r).places
branched_places places r = one_longer places (length r.made)

places_longer : (f : Formula) (b : Branches) → Longer b.places (with_branch f b).places
places_longer always b = branched_places b.places (begun b.made)
places_longer never b = no_longer b.places
places_longer (at_least row) b = branched_places b.places (read_so b.made (with_row Inequality row no_facts))
places_longer (equal row) b = branched_places b.places (read_so b.made (with_row Equation row no_facts))
places_longer (both f g) b = branched_places b.places (with_formula g (with_formula f (begun b.made)))
places_longer (either f g) b =
    still_longer b.places (with_branch f b).places (with_branch g (with_branch f b)).places (places_longer f b) (places_longer g (with_branch f b))

-- ---- marks
-- the marks of the first so many places
abbrev IsBelow : Marks → ℕ → Type 0
IsBelow m n = (i : ℕ) → m i ≡ true → i < n

-- what is marked stays so
abbrev IsMore : Marks → Marks → Type 0
IsMore m k = (i : ℕ) → m i ≡ true → k i ≡ true

or_more : (m k : Marks) → IsMore m k → (places : List ℕ) → OrHolds m places → OrHolds k places
or_more m k h [] o = absurd o
or_more m k h (i ∷ places) o = ⊎_elim (λ e. inl (h i e)) (λ e. inr (or_more m k h places e)) o

or_left : (m : Marks) (places more : List ℕ) → OrHolds m places → OrHolds m (places ++ more)
or_left m [] more o = absurd o
or_left m (i ∷ places) more o = ⊎_elim (λ e. inl e) (λ e. inr (or_left m places more e)) o

or_last : (m : Marks) (places : List ℕ) (i : ℕ) → m i ≡ true → OrHolds m (places ++ i ∷ [])
or_last m [] i e = inl e
or_last m (j ∷ places) i e = inr (or_last m places i e)

or_longer : (m : Marks) (places all : List ℕ) → Longer places all → OrHolds m places → OrHolds m all
or_longer m places all h o = subst (λ ps. OrHolds m ps) (sym h.is) (or_left m places h.more o)

conjunction_more : (v : Values) (m k : Marks) → IsMore m k → (c : Conjunction) → ConjunctionHolds v m c → ConjunctionHolds v k c
conjunction_more v m k h c holds = record {
  facts_hold = holds.facts_hold;
  ors_hold = All-weaker (OrHolds m) (OrHolds k) (or_more m k h) c.ors holds.ors_hold;
}

-- what is marked among these conjunctions holds, and nothing else is marked
record AreHeld (v : Values) (m : Marks) (made : List Conjunction) : Type 0 where
  pub marked : MarkedHold v m made
  pub below : IsBelow m (length made)

held_longer : (v : Values) (m : Marks) (made all : List Conjunction) → Longer made all → AreHeld v m made → AreHeld v m all
held_longer v m made all h held = record {
  marked = λ i d l e.
      let lt = held.below i e in
      subst (λ c. ConjunctionHolds v m c) (sym (ap (λ cs. get_or cs i d) h.is ∙ get_or_append_left made h.more d i lt)) (held.marked i d lt e);
  below = λ i e.
      let lt = held.below i e in
      let long = ap (λ cs. length cs) h.is ∙ length-append made h.more in
      omega arith;
}

-- ---- one conjunction more, which is marked
abbrev with_mark : ℕ → Marks → Marks
with_mark n m i = (i == n) || m i

mark_more : (n : ℕ) (m : Marks) → IsMore m (with_mark n m)
mark_more n m i e = by (i == n)
  where
    by : (b : Bool) → (b || m i) ≡ true
    by true = refl
    by false = e

mark_there : (n : ℕ) (m : Marks) → with_mark n m n ≡ true
mark_there n m = rw (eq-eqb n n refl) refl

mark_cases : (n : ℕ) (m : Marks) (i : ℕ) → with_mark n m i ≡ true → (i ≡ n) ⊎ (m i ≡ true)
mark_cases n m i e = by (i == n) refl
  where
    by : (b : Bool) → (i == n) ≡ b → (i ≡ n) ⊎ (m i ≡ true)
    by true q = inl (eqb-true i n q)
    by false q = inr (rw q at e)

held_with : (v : Values) (m : Marks) (made : List Conjunction) (c : Conjunction) → AreHeld v m made → ConjunctionHolds v m c →
    AreHeld v (with_mark (length made) m) (made ++ c ∷ [])
held_with v m made c held holds = record {
  marked = λ i d l e. ⊎_elim (at_last i d) (before i d) (mark_cases (length made) m i e);
  below = λ i e.
      let long = length-append made (c ∷ []) in
      ⊎_elim (λ q. omega arith) (λ q. let lt = held.below i q in omega arith) (mark_cases (length made) m i e);
}
  where
    at_last : (i : ℕ) (d : Conjunction) → i ≡ length made → ConjunctionHolds v (with_mark (length made) m) (get_or (made ++ c ∷ []) i d)
    at_last i d q =
        subst (λ x. ConjunctionHolds v (with_mark (length made) m) x)
        (sym (ap (λ k. get_or (made ++ c ∷ []) k d) q ∙ get_or-append_seam made c [] d))
        (conjunction_more v m (with_mark (length made) m) (mark_more (length made) m) c holds)

    before : (i : ℕ) (d : Conjunction) → m i ≡ true → ConjunctionHolds v (with_mark (length made) m) (get_or (made ++ c ∷ []) i d)
    before i d q =
        let lt = held.below i q in
        subst (λ x. ConjunctionHolds v (with_mark (length made) m) x) (sym (get_or_append_left made (c ∷ []) d i lt))
        (conjunction_more v m (with_mark (length made) m) (mark_more (length made) m) (get_or made i d) (held.marked i d lt q))

-- ---- reading
-- more marks, at which what is made is held and what the next one says holds
record Reads (v : Values) (m : Marks) (r : Reading) : Type 0 where
  pub marks : Marks
  pub more : IsMore m marks
  pub held : AreHeld v marks r.made
  pub says : ConjunctionHolds v marks r.next

-- more marks, at which what is made is held and a branch is marked
record Branched (v : Values) (m : Marks) (b : Branches) : Type 0 where
  pub marks : Marks
  pub more : IsMore m marks
  pub held : AreHeld v marks b.made
  pub one : OrHolds marks b.places

reads_before : (v : Values) (m k : Marks) (r : Reading) → IsMore m k → Reads v k r → Reads v m r
reads_before v m k r h q = record { marks = q.marks; more = λ i e. q.more i (h i e); held = q.held; says = q.says }

branched_before : (v : Values) (m k : Marks) (b : Branches) → IsMore m k → Branched v k b → Branched v m b
branched_before v m k b h q = record { marks = q.marks; more = λ i e. q.more i (h i e); held = q.held; one = q.one }

nothing_said : (v : Values) (m : Marks) → ConjunctionHolds v m no_facts
nothing_said v m = record { facts_hold = All-none (FactHolds v); ors_hold = All-none (OrHolds m) }

row_said : (v : Values) (m : Marks) (kind : FactKind) (row : Row) (c : Conjunction) → ConjunctionHolds v m c → FactHolds v (fact_as kind row) →
    ConjunctionHolds v m (with_row kind row c)
row_said v m kind row c h k = record { facts_hold = All-push (FactHolds v) c.facts (fact_as kind row) h.facts_hold k; ors_hold = h.ors_hold }

or_said : (v : Values) (m : Marks) (places : List ℕ) (c : Conjunction) → ConjunctionHolds v m c → OrHolds m places → ConjunctionHolds v m (with_or places c)
or_said v m places c h k = record { facts_hold = h.facts_hold; ors_hold = All-push (OrHolds m) c.ors places h.ors_hold k }

-- what was read becomes a branch
is_branch : (v : Values) (m : Marks) (places : List ℕ) (r : Reading) → Reads v m r → Branched v m (branched places r)
is_branch v m places r q = record {
  marks = with_mark (length r.made) q.marks;
  more = λ i e. mark_more (length r.made) q.marks i (q.more i e);
  held = held_with v q.marks r.made r.next q.held q.says;
  one = or_last (with_mark (length r.made) q.marks) places (length r.made) (mark_there (length r.made) q.marks);
}

-- the or of branches of which one is marked
are_said : (v : Values) (m : Marks) (c : Conjunction) (b : Branches) → ConjunctionHolds v m c → Branched v m b → Reads v m (with_branches c b)
are_said v m c b h q = record {
  marks = q.marks;
  more = q.more;
  held = q.held;
  says = or_said v q.marks b.places c (conjunction_more v m q.marks q.more c h) q.one;
}

-- one of both formulas is a branch that holds
either_branched : (v : Values) (f g : Formula) (m : Marks) (b : Branches) → AreHeld v m b.made → Holds v f ⊎ Holds v g →
    (Holds v f → Branched v m (with_branch f b)) →
    (AreHeld v m (with_branch f b).made → Holds v g → Branched v m (with_branch g (with_branch f b))) → Branched v m (with_branch g (with_branch f b))
either_branched v f g m b held (inl h) first second =
    let q = first h in
    let c = with_branch f b in record {
      marks = q.marks;
      more = q.more;
      held = held_longer v q.marks c.made (with_branch g c).made (branch_longer g c) q.held;
      one = or_longer q.marks c.places (with_branch g c).places (places_longer g c) q.one;
    }
either_branched v f g m b held (inr h) first second = second (held_longer v m b.made (with_branch f b).made (branch_longer f b) held) h

module _ (v : Values) where
  mutual
    formula_reads : (f : Formula) (m : Marks) (r : Reading) → AreHeld v m r.made → ConjunctionHolds v m r.next → Holds v f → Reads v m (with_formula f r)
    formula_reads always m r held says h = record { marks = m; more = λ i e. e; held = held; says = says }
    formula_reads never m r held says h = absurd h
    formula_reads (at_least row) m r held says h =
        record { marks = m; more = λ i e. e; held = held; says = row_said v m Inequality row r.next says h }
    formula_reads (equal row) m r held says h = record { marks = m; more = λ i e. e; held = held; says = row_said v m Equation row r.next says h }
    formula_reads (both f g) m r held says h =
        let q = formula_reads f m r held says h.0 in
        reads_before v m q.marks (with_formula g (with_formula f r)) q.more (formula_reads g q.marks (with_formula f r) q.held q.says h.1)
    formula_reads (either f g) m r held says h =
        let b : Branches = record { made = r.made; places = [] } in
        are_said v m r.next (with_branch g (with_branch f b)) says
        (either_branched v f g m b held h (branch_reads f m b held) (branch_reads g m (with_branch f b)))

    branch_reads : (f : Formula) (m : Marks) (b : Branches) → AreHeld v m b.made → Holds v f → Branched v m (with_branch f b)
    branch_reads always m b held h =
        is_branch v m b.places (begun b.made) (record { marks = m; more = λ i e. e; held = held; says = nothing_said v m })
    branch_reads never m b held h = absurd h
    branch_reads (at_least row) m b held h =
        is_branch v m b.places (read_so b.made (with_row Inequality row no_facts))
        (record { marks = m; more = λ i e. e; held = held; says = row_said v m Inequality row no_facts (nothing_said v m) h })
    branch_reads (equal row) m b held h =
        is_branch v m b.places (read_so b.made (with_row Equation row no_facts))
        (record { marks = m; more = λ i e. e; held = held; says = row_said v m Equation row no_facts (nothing_said v m) h })
    branch_reads (both f g) m b held h =
        let r = with_formula f (begun b.made) in
        let q = formula_reads f m (begun b.made) held (nothing_said v m) h.0 in
        is_branch v m b.places (with_formula g r) (reads_before v m q.marks (with_formula g r) q.more (formula_reads g q.marks r q.held q.says h.1))
    branch_reads (either f g) m b held h =
        either_branched v f g m b held h (branch_reads f m b held) (branch_reads g m (with_branch f b))

-- ---- the problem
abbrev no_marks : Marks
no_marks i = false

nothing_held : (v : Values) → AreHeld v no_marks []
nothing_held v = record { marked = λ i d l e. cc e; below = λ i e. cc e }

-- where the formula holds, its problem has a solution
pub formula_solved : (f : Formula) (v : Values) → v 0 ≡ pos 1 → Holds v f → HasNone (problem_of_formula f) → ⊥
formula_solved f v one h none =
    let r = with_formula f (begun []) in
    let q = formula_reads v f no_marks (begun []) (nothing_held v) (nothing_said v no_marks) h in
    none.none v (with_mark (length r.made) q.marks) (record {
      one = one;
      root = mark_there (length r.made) q.marks;
      marked = (held_with v q.marks r.made r.next q.held q.says).marked;
    })
