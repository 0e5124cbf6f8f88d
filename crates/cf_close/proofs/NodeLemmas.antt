-- What nodes keep that are made of nodes.
use Rattle.std.proofs.Common.{◌≡◌, ℕ, ◌<◌, ◌+◌, pos, List, [], ◌++◌, length, get_or, take, drop, All, sym, arith, subst, ◌⊎◌, inl, inr, ⊎_elim}
use Rattle.std.specs.Prelude.{Result, Ok, Err, IfOk, ◌≤ℤ◌}
use Rattle.std.proofs.lemmas.List.Elements.{All-append, All-push, All-take, All-drop, All-set}
use Rattle.cf_linear.specs.Rows.{Row, Values, value}
use Rattle.cf_close.specs.declared.fact.Fact.{Fact}
use Rattle.cf_close.specs.Facts.{FactHolds}
use Rattle.cf_close.specs.Problems.{Conjunction, Problem, Marks, OrHolds, ConjunctionHolds, Solves}
use Rattle.cf_close.specs.Nodes.{removed, with_fact, with_fact_at, without_or, at_least_0, IsMade, IsRoot, IsCut, IsBelow}

-- ---- lists
pub All-removed : {X : Type 0} (P : X → Type 0) (i : ℕ) (xs : List X) → All P xs → All P (removed i xs)
All-removed P i xs h = All-append P (take i xs) (drop (i + 1) xs) (All-take P i xs h) (All-drop P (i + 1) xs h)

pub All-none : {X : Type 0} (P : X → Type 0) → All P []
All-none P = λ i d l. absurd (omega arith)

-- ---- nodes
pub fact_added : (v : Values) (m : Marks) (f : Fact) (c : Conjunction) → ConjunctionHolds v m c → FactHolds v f → ConjunctionHolds v m (with_fact f c)
fact_added v m f c h k = record { facts_hold = All-push (FactHolds v) c.facts f h.facts_hold k; ors_hold = h.ors_hold }

pub fact_set : (v : Values) (m : Marks) (i : ℕ) (f : Fact) (c : Conjunction) → ConjunctionHolds v m c → FactHolds v f → ConjunctionHolds v m (with_fact_at i f c)
fact_set v m i f c h k = record { facts_hold = All-set (FactHolds v) c.facts i f k h.facts_hold; ors_hold = h.ors_hold }

pub or_dropped : (v : Values) (m : Marks) (o : ℕ) (c : Conjunction) → ConjunctionHolds v m c → ConjunctionHolds v m (without_or o c)
or_dropped v m o c h = record { facts_hold = h.facts_hold; ors_hold = All-removed (OrHolds m) o c.ors h.ors_hold }

pub made_holds : (v : Values) (m : Marks) (fs : List Fact) (os : List (List ℕ)) (c : Conjunction) → IsMade fs os c → All (FactHolds v) fs → All (OrHolds m) os →
    ConjunctionHolds v m c
made_holds v m fs os c e h k = record { facts_hold = subst (λ y. All (FactHolds v) y) (sym e.facts_are) h; ors_hold = subst (λ y. All (OrHolds m) y) (sym e.ors_are) k }

copy_holds : (v : Values) (m : Marks) (node c : Conjunction) → IsMade node.facts node.ors c → ConjunctionHolds v m node → ConjunctionHolds v m c
copy_holds v m node c e h = made_holds v m node.facts node.ors c e h.facts_hold h.ors_hold

-- ---- the root
pub root_ok : {E : Type 0} (r : Result Conjunction E) (p : Problem) (root : Conjunction) → p.root < length p.conjunctions → root ≡ get_or p.conjunctions p.root root →
    IfOk r (λ c. IsMade root.facts root.ors c) → IfOk r (λ c. IsRoot p c)
root_ok (Ok c) p root l e h = record { holds = λ v m s. copy_holds v m root c h (subst (λ y. ConjunctionHolds v m y) (sym e) (s.marked p.root root l s.root)) }
root_ok (Err x) p root l e h = tt

-- ---- rows
pub row_cuts : (node one two first second : Conjunction) (r : Row) → IsMade node.facts node.ors one → first ≡ with_fact (at_least_0 r) one →
    IsMade node.facts node.ors two → IsBelow r two second → IsCut node first second
row_cuts node one two first second r a e b h = record {
  either = λ v m y n. ⊎_elim
      (λ x. inl (subst (λ z. ConjunctionHolds v m z) (sym e) (fact_added v m (at_least_0 r) one (copy_holds v m node one a n) x)))
      (λ x. inr x) (h.either v m y (copy_holds v m node two b n));
}

pub below_by : (r : Row) (node c : Conjunction) (f : Fact) → ((v : Values) → v 0 ≡ pos 1 → (pos 0 ≤ℤ value v r) ⊎ FactHolds v f) → c ≡ with_fact f node → IsBelow r node c
below_by r node c f h e = record {
  either = λ v m one n. ⊎_elim (λ x. inl x) (λ x. inr (subst (λ z. ConjunctionHolds v m z) (sym e) (fact_added v m f node n x))) (h v one);
}
