-- What the variables of an arm are in its lowered form.
use Rattle.std.proofs.Common.{◌≡◌, ◌↔◌, ℕ, suc, ◌<◌, ℤ, pos, ◌+ℤ◌, ◌*ℤ◌, List, [], ◌∷◌, ◌++◌, length, map, refl, sym, ap, ◌∙◌, subst, arith}
use Rattle.std.proofs.lemmas.Int.{ints}
use Rattle.std.proofs.lemmas.List.{append-nil}
use Rattle.std.proofs.Math.ListN.{get_or-append}
use Rattle.std.proofs.Math.Seq.{get_or-append_seam}
use Rattle.cf_tree.specs.declared.base.Base.{Base}
use Rattle.cf_tree.specs.declared.base.Base.TheVariants.{Int}
use Rattle.cf_tree.specs.declared.base.Order.TheVariants.{Eq}
use Rattle.cf_tree.specs.declared.raw.Param.{Param}
use Rattle.cf_tree.specs.Allowed.{AllowedThen, goes_on, ends_at, Chosen, AllowedIn, pattern_value, Fits}
use Rattle.cf_tree.specs.ExprTree.{ExprTree}
use Rattle.cf_tree.specs.Relation.{val, Holds, Sol}
use Rattle.cf_tree.specs.RelTree.{TermTree, term_lit, term_var, term_add, term_mul, rel_compare}
use Rattle.cf_tree.specs.Values.{Value, number, number_of, Outcome, value_at, HaveBases}
use Rattle.cf_program.specs.Lowered.{added, pattern_term, with_variables}
use Rattle.cf_match.proofs.Outcomes.{Agree}

abbrev pub ints_of : List ℤ → List Base
ints_of factors = map (λ _. Int) factors

pub ints_have : (factors is : List ℤ) → length is ≡ length factors → HaveBases (ints_of factors) (map number is)
ints_have [] [] e = tt
ints_have [] (i ∷ is) e = absurd (omega arith)
ints_have (f ∷ factors) [] e = absurd (omega arith)
ints_have (f ∷ factors) (i ∷ is) e = ((i, refl), ints_have factors is (omega arith))

pub ints_are : (factors : List ℤ) (xs : List Value) → HaveBases (ints_of factors) xs → (is : List ℤ) × (length is ≡ length factors) × (xs ≡ map number is)
ints_are [] [] h = ([], refl, refl)
ints_are [] (v ∷ xs) h = absurd h
ints_are (f ∷ factors) [] h = absurd h
ints_are (f ∷ factors) (v ∷ xs) h =
    let rest = ints_are factors xs h.1 in
    (h.0.0 ∷ rest.0, ap suc rest.1, ap (λ w. w ∷ xs) h.0.1 ∙ ap (λ ws. number h.0.0 ∷ ws) rest.2)

pub value_at-early : (env more : List Value) (x : ℕ) → x < length env → value_at (env ++ more) x ≡ value_at env x
value_at-early env more x h = get_or-append env more (number (pos 0)) x h

pub value_at-end : (env : List Value) (v : Value) (x : ℕ) → x ≡ length env → value_at (env ++ v ∷ []) x ≡ v
value_at-end env v x e = rw e (get_or-append_seam env v [] (number (pos 0)))

-- these numbers stand from level y on
abbrev Stand : ℕ → List ℤ → List Value → Type 0
Stand y [] env = Unit {0}
Stand y (i ∷ is) env = (number_of (value_at env y) ≡ i) × Stand (suc y) is env

stand_later : (y : ℕ) (is : List ℤ) (v : Value) (env : List Value) → Stand y is env → Stand (suc y) is (v ∷ env)
stand_later y [] v env h = tt
stand_later y (i ∷ is) v env h = (h.0, stand_later (suc y) is v env h.1)

stand_all : (is : List ℤ) → Stand 0 is (map number is)
stand_all [] = tt
stand_all (i ∷ is) = (refl, stand_later 0 is (number i) (map number is) (stand_all is))

stand_behind : (env : List Value) (is : List ℤ) → Stand (length env) is (env ++ map number is)
stand_behind [] is = stand_all is
stand_behind (v ∷ env) is = stand_later (length env) is v (env ++ map number is) (stand_behind env is)

one_more : (a f j i p : ℤ) → j ≡ i → a +ℤ f *ℤ j +ℤ p ≡ a +ℤ (f *ℤ i +ℤ p)
one_more a f j i p e = rw e (omega (arith, ints))

added_is : (sum : TermTree) (y : ℕ) (factors : List ℤ) (k : ℤ) (is : List ℤ) (env : List Value) → length is ≡ length factors → Stand y is env →
    val (added sum y factors k) env ≡ val sum env +ℤ pattern_value factors k is
added_is sum y [] k is env e s = refl
added_is sum y (f ∷ factors) k [] env e s = absurd (omega arith)
added_is sum y (f ∷ factors) k (i ∷ is) env e s =
    added_is (term_add sum (term_mul (term_lit f) (term_var y))) (suc y) factors k is env (omega arith) s.1
    ∙ one_more (val sum env) f (number_of (value_at env y)) i (pattern_value factors k is) s.0

first_part : (f j i p : ℤ) → j ≡ i → f *ℤ j +ℤ p ≡ f *ℤ i +ℤ p
first_part f j i p e = rw e refl

pattern_is : (y : ℕ) (factors : List ℤ) (k : ℤ) (is : List ℤ) (env : List Value) → length is ≡ length factors → Stand y is env →
    val (pattern_term y factors k) env ≡ pattern_value factors k is
pattern_is y [] k is env e s = refl
pattern_is y (f ∷ factors) k [] env e s = absurd (omega arith)
pattern_is y (f ∷ factors) k (i ∷ is) env e s =
    added_is (term_mul (term_lit f) (term_var y)) (suc y) factors k is env (omega arith) s.1
    ∙ first_part f (number_of (value_at env y)) i (pattern_value factors k is) s.0

pub holds_is : (env : List Value) (x : ℕ) (z : ℤ) (factors : List ℤ) (k : ℤ) (is : List ℤ) → value_at env x ≡ number z → length env ≡ suc x →
    length is ≡ length factors → Holds (rel_compare Eq (term_var x) (pattern_term (suc x) factors k)) (env ++ map number is) ↔ (z ≡ pattern_value factors k is)
holds_is env x z factors k is at level e =
    let left : number_of (value_at (env ++ map number is) x) ≡ z = ap number_of (value_at-early env (map number is) x (omega arith) ∙ at) in
    let stand = subst (λ y. Stand y is (env ++ map number is)) level (stand_behind env is) in
    let right = pattern_is (suc x) factors k is (env ++ map number is) e stand in
    ((λ h. sym left ∙ h ∙ right), λ h. left ∙ h ∙ sym right)

-- an arm goes on with the numbers that its choose picks
module _ (calls after : ℕ → List Value → Outcome →
    Type 0) (bs : List Base) (env : List Value) (x : ℕ) (z : ℤ) (at : value_at env x ≡ number z) (level : length env ≡ suc x)
    (body low : ExprTree) (k : ℤ) (o : Outcome) where
  abbrev Fitting : List ℤ → Type 0
  Fitting factors = (is : List ℤ) × Fits factors k z is × AllowedIn calls body (env ++ map number is) o

  abbrev Bodies : List ℤ → Type 0
  Bodies factors = (is : List ℤ) → length is ≡ length factors →
      Agree bs o (AllowedIn calls body (env ++ map number is) o) (AllowedIn after low (env ++ map number is) o)

  abbrev Picks : ℕ → List ℤ → Outcome → Type 0
  Picks m factors = Chosen m (Sol (ints_of factors) (rel_compare Eq (term_var x) (pattern_term (suc x) factors k)) env)

  no_variables : Bodies [] → z ≡ k → Agree bs o (Fitting []) (AllowedIn after low env o)
  no_variables ih zk =
      let h = ih [] refl in
      let P : List Value → Type 0 = λ e. AllowedIn after low e o in
      record {
        forth = λ s. subst P (append-nil env) (h.forth (none s.0 s.1.0 s.2));
        back = λ q. ([], (refl, zk), h.back (subst P (sym (append-nil env)) q));
        keeps = λ s. h.keeps (none s.0 s.1.0 s.2);
      }
    where
      none : (is : List ℤ) → length is ≡ 0 → AllowedIn calls body (env ++ map number is) o → AllowedIn calls body (env ++ []) o
      none [] e a = a
      none (i ∷ is) e a = absurd (omega arith)

  some_variables : (m : ℕ) (scope : List Param) (f : ℤ) (fs : List ℤ) → Bodies (f ∷ fs) → ((is : List ℤ) × Fits (f ∷ fs) k z is) →
      Agree bs o (Fitting (f ∷ fs)) (AllowedIn after (with_variables m x scope (f ∷ fs) k low) env o)
  some_variables m scope f fs ih found = record { forth = forth; back = back; keeps = λ s. (ih s.0 s.1.0).keeps s.2 }
    where
      forth : Fitting (f ∷ fs) → AllowedThen (Picks m (f ∷ fs)) (λ xs. AllowedIn after low (env ++ xs)) o
      forth s = goes_on (map number s.0) (ints_have (f ∷ fs) s.0 s.1.0, (holds_is env x z (f ∷ fs) k s.0 at level s.1.0).1 s.1.1) ((ih s.0 s.1.0).forth s.2)

      back : AllowedThen (Picks m (f ∷ fs)) (λ xs. AllowedIn after low (env ++ xs)) o → Fitting (f ∷ fs)
      back (goes_on xs c r) =
          let t = ints_are (f ∷ fs) xs c.0 in
          let holds = subst (λ ys. Holds (rel_compare Eq (term_var x) (pattern_term (suc x) (f ∷ fs) k)) (env ++ ys)) t.2 c.1 in
          let rest = subst (λ ys. AllowedIn after low (env ++ ys) o) t.2 r in
          (t.0, (t.1, (holds_is env x z (f ∷ fs) k t.0 at level t.1).0 holds), (ih t.0 t.1).back rest)
      back (ends_at j c e) =
          absurd (c.1 (map number found.0) (ints_have (f ∷ fs) found.0 found.1.0, (holds_is env x z (f ∷ fs) k found.0 at level found.1.0).1 found.1.1))

  pub with_agrees : (m : ℕ) (scope : List Param) (factors : List ℤ) → Bodies factors → ((is : List ℤ) × Fits factors k z is) →
      Agree bs o (Fitting factors) (AllowedIn after (with_variables m x scope factors k low) env o)
  with_agrees m scope [] ih found = no_variables ih found.1.1
  with_agrees m scope (f ∷ fs) ih found = some_variables m scope f fs ih found
