-- What nodes keep that are made of a node and a branch of one of its ors.
use Rattle.std.proofs.Common.{◌≡◌, ℕ, zero, suc, ◌<◌, ◌+◌, List, [], ◌∷◌, ◌++◌, true, length, get_or, take, drop, All, sym, ap, ◌∙◌, arith, subst, ◌⊎◌, inl, inr, ⊎_elim}
use Rattle.std.specs.Prelude.{Result, Ok, Err, Option, Some, None, IfOk, IfSome, slice_set}
use Rattle.std.proofs.lemmas.List.Elements.{All-append, All-push, All-set}
use Rattle.cf_linear.specs.Rows.{Row, Values}
use Rattle.cf_close.specs.Facts.{FactHolds}
use Rattle.cf_close.specs.Problems.{Conjunction, Problem, Marks, OrHolds, ConjunctionHolds, Solves}
use Rattle.cf_close.specs.Nodes.{removed, branches, at_least_0, IsMade, IsWeaker, IsRefuted, IsSplit, IsPlace, IsBranch, HasNoBranch, IsBelow, IsOther}
use Rattle.cf_close.specs.Branches.{IsNarrowed, AreParted}
use Rattle.cf_close.proofs.NodeLemmas.{All-removed, All-none, made_holds}

-- ---- which branch
-- the branch at a place is marked, or another one
this_or_other : (m : Marks) (k : ℕ) (is : List ℕ) → k < length is → OrHolds m is → (m (get_or is k 0) ≡ true) ⊎ OrHolds m (removed k is)
this_or_other m k [] l h = absurd h
this_or_other m zero (i ∷ is) l h = h
this_or_other m (suc k) (i ∷ is) l h =
    let e : suc k + 1 ≡ suc (k + 1) = omega arith in
    subst (λ n. (m (get_or is k 0) ≡ true) ⊎ OrHolds m (take (suc k) (i ∷ is) ++ drop n (i ∷ is))) (sym e)
    (⊎_elim (λ p. inr (inl p)) (λ p. ⊎_elim (λ q. inl q) (λ q. inr (inr q)) (this_or_other m k is (omega (arith, l)) p)) h)

only_branch : (m : Marks) (is : List ℕ) → length is ≡ 1 → OrHolds m is → m (get_or is 0 0) ≡ true
only_branch m [] l h = absurd h
only_branch m (i ∷ []) l h = ⊎_elim (λ p. p) (λ p. absurd p) h
only_branch m (i ∷ j ∷ is) l h = absurd (omega (arith, l))

no_branch : (m : Marks) (is : List ℕ) → length is ≡ 0 → OrHolds m is → ⊥
no_branch m [] l h = h
no_branch m (i ∷ is) l h = absurd (omega (arith, l))

-- ---- branches
pub place_ok : (r : Option ℕ) (node : Conjunction) (o k : ℕ) (is : List ℕ) → o < length node.ors → is ≡ branches o node →
    IfSome r (λ i. (k < length is) × (i ≡ get_or is k 0)) → IfSome r (λ i. IsPlace node o k i)
place_ok (Some i) node o k is l e h = record { or_in = l; branch_in = subst (λ y. k < length y) e h.0; is = h.1 ∙ ap (λ y. get_or y k 0) e }
place_ok None node o k is l e h = tt

branch_holds : (v : Values) (m : Marks) (p : Problem) (node c : Conjunction) (o k : ℕ) (b : IsBranch p node o k c) → Solves v m p →
    m (get_or (branches o node) k 0) ≡ true → ConjunctionHolds v m c
branch_holds v m p node c o k b s e =
    subst (λ x. ConjunctionHolds v m x) (sym b.is) (s.marked b.place c b.place_in (subst (λ i. m i ≡ true) (sym b.place_is.is) e))

-- the node with the or in the place of a branch
taken_holds : (v : Values) (m : Marks) (node branch c : Conjunction) (o : ℕ) → IsMade (node.facts ++ branch.facts) (removed o node.ors ++ branch.ors) c →
    ConjunctionHolds v m node → ConjunctionHolds v m branch → ConjunctionHolds v m c
taken_holds v m node branch c o e h k = made_holds v m (node.facts ++ branch.facts) (removed o node.ors ++ branch.ors) c e
    (All-append (FactHolds v) node.facts branch.facts h.facts_hold k.facts_hold)
    (All-append (OrHolds m) (removed o node.ors) branch.ors (All-removed (OrHolds m) o node.ors h.ors_hold) k.ors_hold)

-- the node with the or without a branch
narrowed_holds : (v : Values) (m : Marks) (node c : Conjunction) (o k : ℕ) → IsMade node.facts (slice_set node.ors o (removed k (branches o node))) c →
    ConjunctionHolds v m node → OrHolds m (removed k (branches o node)) → ConjunctionHolds v m c
narrowed_holds v m node c o k e h d = made_holds v m node.facts (slice_set node.ors o (removed k (branches o node))) c e h.facts_hold
    (All-set (OrHolds m) node.ors o (removed k (branches o node)) d h.ors_hold)

or_at_holds : (m : Marks) (node : Conjunction) (o : ℕ) → o < length node.ors → All (OrHolds m) node.ors → OrHolds m (branches o node)
or_at_holds m node o l h = h o [] l

-- the branch holds, or another one
either_branch : (v : Values) (m : Marks) (p : Problem) (node c : Conjunction) (o k : ℕ) → IsBranch p node o k c → Solves v m p → ConjunctionHolds v m node →
    ConjunctionHolds v m c ⊎ OrHolds m (removed k (branches o node))
either_branch v m p node c o k b s h = ⊎_elim (λ e. inl (branch_holds v m p node c o k b s e)) (λ e. inr e)
    (this_or_other m k (branches o node) b.place_is.branch_in (or_at_holds m node o b.place_is.or_in h.ors_hold))

pub or_splits : {S E : Type 0} (first second : S → Conjunction) (r : Result S E) (p : Problem) (node branch : Conjunction) (o k : ℕ) → IsBranch p node o k branch →
    IfOk r (λ s. AreParted node o k branch (first s) (second s)) → IfOk r (λ s. IsSplit p node (first s) (second s))
or_splits first second (Ok s) p node branch o k b e = record {
  either = λ v m t h.
      ⊎_elim (λ x. inl (taken_holds v m node branch (first s) o e.made h x))
      (λ x. ⊎_elim (λ y. inl (taken_holds v m node branch (first s) o e.made h y)) (λ y. inr y) (e.other.either v m t.one h x))
      (either_branch v m p node branch o k b t h);
}
or_splits first second (Err x) p node branch o k b e = tt

pub branch_fails : {E : Type 0} (r : Result Conjunction E) (p : Problem) (node branch : Conjunction) (o k : ℕ) → IsBranch p node o k branch →
    IfOk r (λ c. IsNarrowed node o k branch c) → IfOk r (λ c. IsWeaker p node c)
branch_fails (Ok c) p node branch o k b e = record {
  holds = λ v m s h. ⊎_elim (λ x. absurd (e.fails.never v s.one h.facts_hold x.facts_hold)) (λ x. narrowed_holds v m node c o k e.made h x)
      (either_branch v m p node branch o k b s h);
}
branch_fails (Err x) p node branch o k b e = tt

pub one_is_left : {E : Type 0} (r : Result Conjunction E) (p : Problem) (node branch : Conjunction) (o : ℕ) → length (branches o node) ≡ 1 → IsBranch p node o 0 branch →
    IfOk r (λ c. IsMade (node.facts ++ branch.facts) (removed o node.ors ++ branch.ors) c) → IfOk r (λ c. IsWeaker p node c)
one_is_left (Ok c) p node branch o l b e = record {
  holds = λ v m s h. taken_holds v m node branch c o e h
      (branch_holds v m p node branch o 0 b s (only_branch m (branches o node) l (or_at_holds m node o b.place_is.or_in h.ors_hold)));
}
one_is_left (Err x) p node branch o l b e = tt

pub none_is_left : (p : Problem) (node : Conjunction) (o : ℕ) → HasNoBranch node o → IsRefuted p node
none_is_left p node o n = record { none = λ v m s h. no_branch m (branches o node) n.none (or_at_holds m node o n.or_in h.ors_hold) }

pub other_plain : (branch node c : Conjunction) (o k : ℕ) → IsMade node.facts (slice_set node.ors o (removed k (branches o node))) c → IsOther branch node o k c
other_plain branch node c o k e = record { either = λ v m one h d. inr (narrowed_holds v m node c o k e h d) }

pub other_below : {E : Type 0} (q : Result Conjunction E) (branch node rest : Conjunction) (o k : ℕ) (r : Row) → IsMade (at_least_0 r ∷ []) [] branch →
    IsMade node.facts (slice_set node.ors o (removed k (branches o node))) rest → IfOk q (λ c. IsBelow r rest c) → IfOk q (λ c. IsOther branch node o k c)
other_below (Ok c) branch node rest o k r only e b = record {
  either = λ v m one h d. ⊎_elim
      (λ x. inl (made_holds v m (at_least_0 r ∷ []) [] branch only (All-push (FactHolds v) [] (at_least_0 r) (All-none (FactHolds v)) x) (All-none (OrHolds m))))
      (λ x. inr x) (b.either v m one (narrowed_holds v m node rest o k e h d));
}
other_below (Err x) branch node rest o k r only e b = tt
