-- What a refutation keeps of the solutions of its problem.
use Rattle.std.proofs.Common.{◌≡◌, ℕ, ◌+◌, ◌<◌, List, [], ◌∷◌, ◌++◌, Bool, true, false, length, get_or, All, refl, sym, subst, ◌⊎◌, inl, inr, ⊎_elim, arith}
use Rattle.std.specs.Prelude.{Result, Ok, Err, is_ok, if◌then◌else◌}
use Rattle.cf_linear.specs.Rows.{Values}
use Rattle.cf_close.specs.declared.fact.Fact.{Fact}
use Rattle.cf_close.specs.declared.fact.Tightened.TheVariants.{Closed, Tighter}
use Rattle.cf_close.specs.Facts.{FactHolds, Follows, NeverHold, Settles}
use Rattle.cf_close.specs.Problems.{Conjunction, Problem, Marks, ConjunctionHolds, Solves, HasNone}
use Rattle.cf_close.specs.Nodes.{with_fact, with_fact_at, without_or, SomeHolds, IsOpen, IsFound, IsComplete, IsWeaker, IsRefuted, IsSplit, IsCut, HasLeft}
use Rattle.cf_close.proofs.NodeLemmas.{fact_added, fact_set, or_dropped, All-none}

-- ---- one of two lists
some_first : (v : Values) (m : Marks) (xs ys : List Conjunction) → SomeHolds v m xs → SomeHolds v m (xs ++ ys)
some_first v m [] ys h = absurd h
some_first v m (x ∷ xs) ys h = ⊎_elim (λ p. inl p) (λ p. inr (some_first v m xs ys p)) h

some_second : (v : Values) (m : Marks) (xs ys : List Conjunction) → SomeHolds v m ys → SomeHolds v m (xs ++ ys)
some_second v m [] ys h = h
some_second v m (x ∷ xs) ys h = inr (some_second v m xs ys h)

some_split : (v : Values) (m : Marks) (xs ys : List Conjunction) → SomeHolds v m (xs ++ ys) → SomeHolds v m xs ⊎ SomeHolds v m ys
some_split v m [] ys h = inr h
some_split v m (x ∷ xs) ys h = ⊎_elim (λ p. inl (inl p)) (λ p. ⊎_elim (λ q. inl (inr q)) (λ q. inr q) (some_split v m xs ys p)) h

-- ---- begin and end
pub none_when : (p : Problem) (closed : Bool) (top : Conjunction) (rest : List Conjunction) → closed ≡ true → IsComplete p closed top rest → HasNone p
none_when p true top rest e h = record { none = λ v m s. (h.kept v m s).is_open }
none_when p false top rest e h = cc e

-- ---- the node says less, or what follows
open_weaker : (v : Values) (m : Marks) (closed : Bool) (top new : Conjunction) (rest : List Conjunction) → (ConjunctionHolds v m top → ConjunctionHolds v m new) →
    IsOpen v m closed top rest → IsOpen v m closed new rest
open_weaker v m true top new rest w h = h
open_weaker v m false top new rest w h = ⊎_elim (λ p. inl (w p)) (λ p. inr p) h

complete_weaker : (p : Problem) (closed : Bool) (top new : Conjunction) (rest : List Conjunction) → IsComplete p closed top rest → IsWeaker p top new →
    IsComplete p closed new rest
complete_weaker p closed top new rest h w = record {
  kept = λ v m s. let k = h.kept v m s in
      record { values = k.values; solves = k.solves; is_open = open_weaker k.values m closed top new rest (w.holds k.values m k.solves) k.is_open };
}

pub complete_by : (p : Problem) (closed : Bool) (top new made : Conjunction) (rest : List Conjunction) → IsComplete p closed top rest → new ≡ made → IsWeaker p top made →
    IsComplete p closed new rest
complete_by p closed top new made rest h e w = subst (λ y. IsComplete p closed y rest) (sym e) (complete_weaker p closed top made rest h w)

is_same : (p : Problem) (c : Conjunction) → IsWeaker p c c
is_same p c = record { holds = λ v m s h. h }

pub sum_added : {A E : Type 0} (r : Result A E) (p : Problem) (c : Conjunction) (f : Fact) → Follows c.facts f → IsWeaker p c (if is_ok r then with_fact f c else c)
sum_added (Ok a) p c f h = record { holds = λ v m s k. fact_added v m f c k (h.holds v k.facts_hold) }
sum_added (Err e) p c f h = is_same p c

pub sum_replaces : {A E : Type 0} (r : Result A E) (p : Problem) (i : ℕ) (c : Conjunction) (f : Fact) → Follows c.facts f →
    IsWeaker p c (if is_ok r then with_fact_at i f c else c)
sum_replaces (Ok a) p i c f h = record { holds = λ v m s k. fact_set v m i f c k (h.holds v k.facts_hold) }
sum_replaces (Err e) p i c f h = is_same p c

pub division_replaces : {A E : Type 0} (r : Result A E) (p : Problem) (i : ℕ) (c : Conjunction) (f : Fact) → Settles c.facts (Tighter f) →
    IsWeaker p c (if is_ok r then with_fact_at i f c else c)
division_replaces (Ok a) p i c f h = record { holds = λ v m s k. fact_set v m i f c k (h.known v s.one k.facts_hold) }
division_replaces (Err e) p i c f h = is_same p c

pub or_left : {A E : Type 0} (r : Result A E) (p : Problem) (o : ℕ) (c : Conjunction) → IsWeaker p c (if is_ok r then without_or o c else c)
or_left (Ok a) p o c = record { holds = λ v m s h. or_dropped v m o c h }
or_left (Err e) p o c = is_same p c

-- ---- the node is left
onto_rest : (v : Values) (m : Marks) (closed : Bool) (top : Conjunction) (rest : List Conjunction) → (ConjunctionHolds v m top → ⊥) →
    IsOpen v m closed top rest → SomeHolds v m rest
onto_rest v m true top rest w h = absurd h
onto_rest v m false top rest w h = ⊎_elim (λ p. absurd (w p)) (λ p. p) h

pub complete_left : (p : Problem) (closed new_closed : Bool) (top new : Conjunction) (rest left : List Conjunction) → IsComplete p closed top rest →
    IsRefuted p top → HasLeft rest new_closed new left → IsComplete p new_closed new left
complete_left p closed new_closed top new rest left h w l = record {
  kept = λ v m s. let k = h.kept v m s in
      record { values = k.values; solves = k.solves; is_open = l.moves k.values m (onto_rest k.values m closed top rest (w.none k.values m k.solves) k.is_open) };
}

pub conflict_refutes : (p : Problem) (c : Conjunction) → NeverHold c.facts [] → IsRefuted p c
conflict_refutes p c h = record { none = λ v m s k. h.never v s.one k.facts_hold (All-none (FactHolds v)) }

pub division_refutes : (p : Problem) (c : Conjunction) → Settles c.facts Closed → IsRefuted p c
division_refutes p c h = record { none = λ v m s k. h.known v s.one k.facts_hold }

pub left_some : (rest left : List Conjunction) (next : Conjunction) → rest ≡ left ++ next ∷ [] → HasLeft rest false next left
left_some rest left next e = record {
  moves = λ v m h. ⊎_elim (λ k. inr k) (λ k. ⊎_elim (λ n. inl n) (λ n. absurd n) k)
      (some_split v m left (next ∷ []) (subst (λ y. SomeHolds v m y) e h));
}

-- ---- the node gives way to two
open_split : (v : Values) (m : Marks) (closed : Bool) (top first second : Conjunction) (rest : List Conjunction) →
    (ConjunctionHolds v m top → ConjunctionHolds v m first ⊎ ConjunctionHolds v m second) → IsOpen v m closed top rest → IsOpen v m closed first (rest ++ second ∷ [])
open_split v m true top first second rest w h = h
open_split v m false top first second rest w h = ⊎_elim
    (λ p. ⊎_elim (λ x. inl x) (λ x. inr (some_second v m rest (second ∷ []) (inl x))) (w p)) (λ p. inr (some_first v m rest (second ∷ []) p)) h

pub complete_split : (p : Problem) (closed : Bool) (top first second : Conjunction) (rest new : List Conjunction) → IsComplete p closed top rest →
    IsSplit p top first second → new ≡ rest ++ second ∷ [] → IsComplete p closed first new
complete_split p closed top first second rest new h w e = record {
  kept = λ v m s. let k = h.kept v m s in record {
    values = k.values;
    solves = k.solves;
    is_open = subst (λ y. IsOpen k.values m closed first y) (sym e) (open_split k.values m closed top first second rest (w.either k.values m k.solves) k.is_open);
  };
}

pub cut_splits : (p : Problem) (a b c : Conjunction) → IsCut a b c → IsSplit p a b c
cut_splits p a b c h = record { either = λ v m s n. h.either v m s.one n }
