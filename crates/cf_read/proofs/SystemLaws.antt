-- Where a system is satisfied, so is the problem that has it.
use Rattle.std.proofs.Common.{◌≡◌, ℕ, zero, suc, ◌+◌, ◌<◌, ◌≤◌, ◌==◌, ◌⊎◌, inl, inr, ⊎_elim, pos, Bool, true, false, List, [], ◌∷◌, ◌++◌, map, length, get_or, refl, sym, ◌∙◌, ap, subst, arith, All}
use Rattle.std.specs.Prelude.{◌||◌}
use Rattle.std.specs.List.{range_with_len}
use Rattle.std.proofs.Math.Seq.{get_or-append_seam}
use Rattle.std.proofs.lemmas.Bool.{eqb-true, eqb-false, eq-eqb}
use Rattle.std.proofs.lemmas.List.{get_or-map, get_or_append_left, length-map}
use Rattle.std.proofs.lemmas.List.Elements.{All-cons, All-append, All-push}
use Rattle.cf_linear.specs.Rows.{Row, Values, value}
use Rattle.cf_linear.specs.declared.system.System.{System as DeclaredSystem}
use Rattle.cf_linear.specs.Systems.{System, EachRow, Sat}
use Rattle.cf_linear.specs.Views.{system_of}
use Rattle.cf_cases.specs.Holding.{SomeOf}
use Rattle.cf_close.specs.declared.fact.FactKind.{FactKind}
use Rattle.cf_close.specs.declared.fact.FactKind.TheVariants.{Equation, Inequality}
use Rattle.cf_close.specs.Facts.{Holds, FactHolds}
use Rattle.cf_close.specs.Problems.{Conjunction, Problem, Marks, OrHolds, ConjunctionHolds, MarkedHold, HasNone}
use Rattle.cf_close.proofs.NodeLemmas.{All-none}
use Rattle.cf_read.specs.Systems.{fact_as, conjunction_of, conjunction_from, one_of, IsProblemOf}

-- ---- how it is made
range_from : (a n : ℕ) → range_with_len a (n + 1) ≡ range_with_len a n ++ (a + n) ∷ []
range_from a zero = let e : a ≡ a + 0 = omega arith in ap (λ x. x ∷ []) e
range_from a (suc n) =
    let e : suc n + 1 ≡ suc (n + 1) = omega arith in
    let f : a + 1 + n ≡ a + suc n = omega arith in
    ap (λ k. range_with_len a k) e ∙ ap (λ xs. a ∷ xs) (range_from (a + 1) n) ∙ ap (λ x. a ∷ (range_with_len (a + 1) n ++ x ∷ [])) f

pub range_next : (n : ℕ) → range_with_len 0 (n + 1) ≡ range_with_len 0 n ++ n ∷ []
range_next n = let e : 0 + n ≡ n = omega arith in range_from 0 n ∙ ap (λ x. range_with_len 0 n ++ x ∷ []) e

twice_mapped : (xs : List DeclaredSystem) → map conjunction_from xs ≡ map conjunction_of (map system_of xs)
twice_mapped [] = refl
twice_mapped (x ∷ xs) = ap (λ ys. conjunction_from x ∷ ys) (twice_mapped xs)

pub made_problem : (systems : List DeclaredSystem) (all : List Conjunction) (n : ℕ) (p : Problem) → n ≡ length systems → all ≡ map conjunction_from systems →
    p ≡ record { conjunctions = all ++ one_of n ∷ []; root = n } → IsProblemOf (map system_of systems) p
made_problem systems all n p e f is = record {
  conjunctions_are =
      ap (λ q. q.conjunctions) is ∙ ap (λ cs. cs ++ one_of n ∷ []) (f ∙ twice_mapped systems) ∙
      ap (λ k. map conjunction_of (map system_of systems) ++ one_of k ∷ [])
      (e ∙ sym (length-map systems system_of));
  root_is = ap (λ q. q.root) is ∙ e ∙ sym (length-map systems system_of);
}

-- ---- what it says
rows_hold : (v : Values) (kind : FactKind) (rs : List Row) → EachRow (λ r. Holds kind (value v r)) rs → All (FactHolds v) (map (fact_as kind) rs)
rows_hold v kind [] h = All-none (FactHolds v)
rows_hold v kind (r ∷ rs) h = All-cons (FactHolds v) (fact_as kind r) (map (fact_as kind) rs) h.0 (rows_hold v kind rs h.1)

-- the conjunction of a system that is satisfied
system_holds : (v : Values) (m : Marks) (s : System) → Sat s v → ConjunctionHolds v m (conjunction_of s)
system_holds v m s h = record {
  facts_hold = All-append (FactHolds v) (map (fact_as Equation) s.equations) (map (fact_as Inequality) s.inequalities)
      (rows_hold v Equation s.equations h.zero) (rows_hold v Inequality s.inequalities h.nonneg);
  ors_hold = All-none (OrHolds m);
}

or_of_range : (m : Marks) (a n i : ℕ) → a ≤ i → i < a + n → m i ≡ true → OrHolds m (range_with_len a n)
or_of_range m a zero i l h e = absurd (omega arith)
or_of_range m a (suc n) i l h e = by (i == a) refl (λ d. or_of_range m (a + 1) n i d (omega arith) e)
  where
    by : (b : Bool) → (i == a) ≡ b → (a + 1 ≤ i → OrHolds m (range_with_len (a + 1) n)) → OrHolds m (range_with_len a (suc n))
    by true q rest = inl (subst (λ k. m k ≡ true) (eqb-true i a q) e)
    by false q rest = inr (rest (let d = eqb-false i a q in omega arith))

-- the conjunction that one of the first places holds
one_holds : (v : Values) (m : Marks) (n i : ℕ) → i < n → m i ≡ true → ConjunctionHolds v m (one_of n)
one_holds v m n i h e = record {
  facts_hold = All-none (FactHolds v);
  ors_hold = All-push (OrHolds m) [] (range_with_len 0 n) (All-none (OrHolds m)) (or_of_range m 0 n i (omega arith) (omega arith) e);
}

-- ---- the place of a system, and the root
abbrev chosen : ℕ → ℕ → Marks
chosen i n j = (j == i) || (j == n)

one_of_two : (i n j : ℕ) → chosen i n j ≡ true → (j ≡ i) ⊎ (j ≡ n)
one_of_two i n j e = by (j == i) refl
  where
    by : (b : Bool) → (j == i) ≡ b → (j ≡ i) ⊎ (j ≡ n)
    by true q = inl (eqb-true j i q)
    by false q = inr (eqb-true j n (rw q at e))

chosen_place : (i n : ℕ) → chosen i n i ≡ true
chosen_place i n = rw (eq-eqb i i refl) refl

chosen_root : (i n : ℕ) → chosen i n n ≡ true
chosen_root i n = by (n == i)
  where
    by : (b : Bool) → (b || (n == n)) ≡ true
    by true = refl
    by false = eq-eqb n n refl

abbrev all_of : List System → List Conjunction
all_of systems = map conjunction_of systems ++ one_of (length systems) ∷ []

-- the conjunctions at the place of a system, and at the last one
system_at : (systems : List System) (i : ℕ) (s : System) (d : Conjunction) → i < length systems →
    get_or (all_of systems) i d ≡ conjunction_of (get_or systems i s)
system_at systems i s d h =
    get_or_append_left (map conjunction_of systems) (one_of (length systems) ∷ []) d i (omega (arith, length-map systems conjunction_of))
    ∙ get_or-map conjunction_of systems i s d h

root_at : (systems : List System) (d : Conjunction) → get_or (all_of systems) (length systems) d ≡ one_of (length systems)
root_at systems d =
    ap (λ k. get_or (all_of systems) k d) (sym (length-map systems conjunction_of))
    ∙ get_or-append_seam (map conjunction_of systems) (one_of (length systems)) [] d

marked_hold : (systems : List System) (v : Values) (i : ℕ) (s : System) → i < length systems → Sat (get_or systems i s) v →
    MarkedHold v (chosen i (length systems)) (all_of systems)
marked_hold systems v i s h sat j d l e = ⊎_elim at_system at_root (one_of_two i (length systems) j e)
  where
    at_system : j ≡ i → ConjunctionHolds v (chosen i (length systems)) (get_or (all_of systems) j d)
    at_system q =
        subst (λ c. ConjunctionHolds v (chosen i (length systems)) c) (sym (ap (λ k. get_or (all_of systems) k d) q ∙ system_at systems i s d h))
        (system_holds v (chosen i (length systems)) (get_or systems i s) sat)

    at_root : j ≡ length systems → ConjunctionHolds v (chosen i (length systems)) (get_or (all_of systems) j d)
    at_root q =
        subst (λ c. ConjunctionHolds v (chosen i (length systems)) c) (sym (ap (λ k. get_or (all_of systems) k d) q ∙ root_at systems d))
        (one_holds v (chosen i (length systems)) (length systems) i h (chosen_place i (length systems)))

some_at : {A : Type 0} (P : A → Type 0) (xs : List A) (d : A) → SomeOf P xs → (i : ℕ) × (i < length xs) × P (get_or xs i d)
some_at P [] d h = elim h [ ]
some_at P (x ∷ xs) d h = elim h [
  | inl p ↦ (0, omega arith, p)
  | inr q ↦ (let s = some_at P xs d q in (suc s.0, omega (arith, s.1), s.2))
]

-- where one of the systems is satisfied, the problem has a solution
pub problem_solved : (systems : List System) (p : Problem) (s : System) → IsProblemOf systems p →
    SomeOf (λ m. (v : Values) × (v 0 ≡ pos 1) × Sat m v) systems → HasNone p → ⊥
problem_solved systems p s is h none = by (some_at (λ m. (v : Values) × (v 0 ≡ pos 1) × Sat m v) systems s h)
  where
    by : (i : ℕ) × (i < length systems) × ((v : Values) × (v 0 ≡ pos 1) × Sat (get_or systems i s) v) → ⊥
    by t = none.none t.2.0 (chosen t.0 (length systems)) (record {
      one = t.2.1;
      root = rw is.root_is (chosen_root t.0 (length systems));
      marked = subst (λ cs. MarkedHold t.2.0 (chosen t.0 (length systems)) cs) (sym is.conjunctions_are) (marked_hold systems t.2.0 t.0 s t.1 t.2.2);
    })
