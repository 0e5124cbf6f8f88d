-- What the bodies compute that chains, `min` and `max` are formed to.
use Rattle.std.proofs.Common.{◌≡◌, ℕ, zero, suc, ◌+◌, ◌-◌, ◌≤◌, ℤ, Bool, true, false, ◌&&◌, not, Some, List, [], ◌∷◌, ◌++◌, length, map, slice_get, refl, sym, ap, ◌∙◌, subst, arith, length-append}
use Rattle.std.specs.Prelude.{int_lt, cond}
use Rattle.std.specs.Bool.{MatchBool}
use Rattle.std.specs.Int.{int_max, int_min}
use Rattle.std.proofs.lemmas.Int.{ints, clamps}
use Rattle.std.proofs.lemmas.List.{length-map}
use Rattle.cf_tree.specs.declared.base.Order.{Order}
use Rattle.cf_tree.specs.declared.base.Order.TheVariants.{Le, Ge}
use Rattle.cf_tree.specs.declared.raw.BinOp.TheVariants.{And, Compare}
use Rattle.cf_tree.specs.Allowed.{AllowedRight, AllowedIn, Gives, chained, best_of, Calling}
use Rattle.cf_tree.specs.ExprTree.{ExprTree, expr_truth, expr_var, expr_binary}
use Rattle.cf_tree.specs.OneOutcome.{AllowsOnly}
use Rattle.cf_tree.specs.Values.{Value, number, truth, compared, value_at}
use Rattle.cf_tree.proofs.OneOutcomeLemmas.{then_only}
use Rattle.cf_tree.proofs.SetLemmas.{lt_is, lt_not}
use Rattle.cf_form.specs.Formed.{comparisons, chain_body, pick, picked_from, best_body}
use Rattle.cf_form.proofs.Halves.{halves_hold}

-- ---- variables
-- the variables from level x on have these values
abbrev pub Read : List Value → ℕ → List Value → Type 0
Read env x [] = Unit {0}
Read env x (v ∷ vs) = (slice_get env x ≡ Some v) × Read env (suc x) vs

pub value_is : (env : List Value) (x : ℕ) (v : Value) → slice_get env x ≡ Some v → value_at env x ≡ v
value_is [] x v e = cc
value_is (w ∷ env) zero v e = cc
value_is (w ∷ env) (suc x) v e = value_is env x v e

pub get_early : (env more : List Value) (x : ℕ) (v : Value) → slice_get env x ≡ Some v → slice_get (env ++ more) x ≡ Some v
get_early [] more x v e = cc
get_early (w ∷ env) more zero v e = e
get_early (w ∷ env) more (suc x) v e = get_early env more x v e

pub get_end : (env : List Value) (v : Value) (more : List Value) → slice_get (env ++ v ∷ more) (length env) ≡ Some v
get_end [] v more = refl
get_end (w ∷ env) v more = get_end env v more

pub read_early : (env more : List Value) (x : ℕ) (vs : List Value) → Read env x vs → Read (env ++ more) x vs
read_early env more x [] r = tt
read_early env more x (v ∷ vs) r = (get_early env more x v r.0, read_early env more (suc x) vs r.1)

read_later : (w : Value) (env : List Value) (x : ℕ) (vs : List Value) → Read env x vs → Read (w ∷ env) (suc x) vs
read_later w env x [] r = tt
read_later w env x (v ∷ vs) r = (r.0, read_later w env (suc x) vs r.1)

read_all : (vs : List Value) → Read vs 0 vs
read_all [] = tt
read_all (v ∷ vs) = (refl, read_later v vs 0 vs (read_all vs))

pub read_behind : (env vs : List Value) → Read (env ++ vs) (length env) vs
read_behind [] vs = read_all vs
read_behind (w ∷ env) vs = read_later w (env ++ vs) (length env) vs (read_behind env vs)

-- ---- forms that give one value
module _ (calls : Calling) (env : List Value) where
  -- an expression gives this value, and nothing else
  abbrev pub Is : ExprTree → Value → Type 0
  Is e v = AllowsOnly (AllowedIn calls e env) (v ∷ [])

  pub var_is : (x : ℕ) (v : Value) → slice_get env x ≡ Some v → Is (expr_var x) v
  var_is x v e =
      let same : value_at env x ≡ v = value_is env x v e in
      subst (λ w. AllowsOnly (Gives w) (v ∷ [])) (sym same) (refl, λ o s. s)

  compare_is : (order : Order) (x y : ℕ) (v w : Value) → slice_get env x ≡ Some v → slice_get env y ≡ Some w →
      Is (expr_binary (Compare order) (expr_var x) (expr_var y)) (truth (compared order v w))
  compare_is order x y v w p q =
      then_only {first = AllowedIn calls (expr_var x) env} (v ∷ []) (truth (compared order v w) ∷ []) (var_is x v p)
      (then_only {first = AllowedIn calls (expr_var y) env} (w ∷ []) (truth (compared order v w) ∷ []) (var_is y w q) (refl, λ o s. s))

  on_truth : (t u : Bool) (q : ExprTree) → Is q (truth u) →
      AllowsOnly (AllowedRight And (truth t) (AllowedIn calls q env)) (truth (t && u) ∷ [])
  on_truth true u q h = h
  on_truth false u q h = (refl, λ o s. s)

  and_is : (p q : ExprTree) (t u : Bool) → Is p (truth t) → Is q (truth u) → Is (expr_binary And p q) (truth (t && u))
  and_is p q t u h k =
      then_only {first = AllowedIn calls p env} (truth t ∷ []) (truth (t && u) ∷ []) h (on_truth t u q k)

  -- ---- chains
  abbrev all_true : List Bool → Bool
  all_true [] = true
  all_true (t ∷ ts) = t && all_true ts

  abbrev AreTruths : List ExprTree → List Bool → Type 0
  AreTruths [] [] = Unit {0}
  AreTruths [] (t ∷ ts) = ⊥
  AreTruths (e ∷ es) [] = ⊥
  AreTruths (e ∷ es) (t ∷ ts) = Is e (truth t) × AreTruths es ts

  and_left : (t u v : Bool) → (t && (u && v)) ≡ ((t && u) && v)
  and_left true u v = refl
  and_left false u v = refl

  and_true : (t : Bool) → t ≡ (t && true)
  and_true true = refl
  and_true false = refl

  abbrev AllGive : List ExprTree → ExprTree → Type 0
  AllGive es e = (ts : List Bool) → AreTruths es ts → Is e (truth (all_true ts))

  no_truths : AllGive [] (expr_truth true)
  no_truths [] h = (refl, λ o s. s)
  no_truths (t ∷ ts) h = absurd h

  one_truth : (e : ExprTree) → AllGive (e ∷ []) e
  one_truth e [] h = absurd h
  one_truth e (t ∷ []) h = subst (λ u. Is e (truth u)) (and_true t) h.0
  one_truth e (t ∷ u ∷ ts) h = absurd h.1

  abbrev Parted : List ExprTree → List ExprTree → List Bool → Type 0
  Parted es fs ts = (us : List Bool) × (vs : List Bool) × AreTruths es us × AreTruths fs vs × (all_true ts ≡ (all_true us && all_true vs))

  parted : (es fs : List ExprTree) (ts : List Bool) → AreTruths (es ++ fs) ts → Parted es fs ts
  parted [] fs ts h = ([], ts, tt, h, refl)
  parted (e ∷ es) fs [] h = absurd h
  parted (e ∷ es) fs (t ∷ ts) h =
      let rest = parted es fs ts h.1 in
      (t ∷ rest.0, rest.1, (h.0, rest.2), rest.3, ap (λ u. t && u) rest.4 ∙ and_left t (all_true rest.0) (all_true rest.1))

  two_truths : (es fs : List ExprTree) (a b : ExprTree) → AllGive es a → AllGive fs b → AllGive (es ++ fs) (expr_binary And a b)
  two_truths es fs a b p q ts h =
      let s = parted es fs ts h in
      subst (λ u. Is (expr_binary And a b) (truth u)) (sym s.4) (and_is a b (all_true s.0) (all_true s.1) (p s.0 s.2) (q s.1 s.3))

  -- how neighbours compare
  abbrev links : List Order → List Value → List Bool
  links [] vs = []
  links (order ∷ orders) [] = []
  links (order ∷ orders) (v ∷ []) = []
  links (order ∷ orders) (v ∷ w ∷ vs) = compared order v w ∷ links orders (w ∷ vs)

  links_chained : (orders : List Order) (vs : List Value) → all_true (links orders vs) ≡ chained orders vs
  links_chained [] vs = refl
  links_chained (order ∷ orders) [] = refl
  links_chained (order ∷ orders) (v ∷ []) = refl
  links_chained (order ∷ orders) (v ∷ w ∷ vs) = ap (λ u. compared order v w && u) (links_chained orders (w ∷ vs))

  comparisons_are : (orders : List Order) (x : ℕ) (vs : List Value) → Read env x vs → length vs ≡ suc (length orders) →
      AreTruths (comparisons x orders) (links orders vs)
  comparisons_are [] x vs r e = tt
  comparisons_are (order ∷ orders) x [] r e = absurd (omega (arith, e))
  comparisons_are (order ∷ orders) x (v ∷ []) r e = absurd (omega (arith, e))
  comparisons_are (order ∷ orders) x (v ∷ w ∷ vs) r e =
      (compare_is order x (suc x) v w r.0 r.1.0, comparisons_are orders (suc x) (w ∷ vs) r.1 (omega (arith, e)))

  -- neighbours compare as in the chain
  pub chain_is : (orders : List Order) (x : ℕ) (vs : List Value) → Read env x vs → length vs ≡ suc (length orders) →
      Is (chain_body x orders) (truth (chained orders vs))
  chain_is orders x vs r e =
      subst (λ u. Is (chain_body x orders) (truth u)) (links_chained orders vs)
      (halves_hold (expr_binary And) (expr_truth true) AllGive no_truths one_truth two_truths (comparisons x orders) (links orders vs)
      (comparisons_are orders x vs r e))

-- ---- least and greatest
-- the order by which the first of two is taken, and what is taken
pub record Takes (order : Order) (better : ℤ → ℤ → ℤ) : Type 0 where
  pub first : (a b : ℤ) → compared order (number a) (number b) ≡ true → better a b ≡ a
  pub second : (a b : ℤ) → compared order (number a) (number b) ≡ false → better a b ≡ b
  pub over_three : (a b c : ℤ) → better (better a b) c ≡ better a (better b c)

not_true : (t : Bool) → not t ≡ true → t ≡ false
not_true true e = cc
not_true false e = refl

not_false : (t : Bool) → not t ≡ false → t ≡ true
not_false true e = refl
not_false false e = cc

pub takes_least : Takes Le int_min
takes_least = record {
  first = λ a b e. ap (λ t. cond t b a) (not_true (int_lt b a) e);
  second = λ a b e. ap (λ t. cond t b a) (not_false (int_lt b a) e);
  over_three = λ a b c. omega (arith, ints, clamps);
}

pub takes_greatest : Takes Ge int_max
takes_greatest = record {
  first = λ a b e. let l = lt_not a b (not_true (int_lt a b) e) in omega (arith, ints, clamps);
  second = λ a b e. let l = lt_is a b (not_false (int_lt a b) e) in omega (arith, ints, clamps);
  over_three = λ a b c. omega (arith, ints, clamps);
}

module _ (calls : Calling) (order : Order) (better : ℤ → ℤ → ℤ) (takes : Takes order better) where
  picked_value : (a b : ℤ) (t : Bool) → compared order (number a) (number b) ≡ t → (env : List Value) (x y : ℕ) → slice_get env x ≡ Some (number a) →
      slice_get env y ≡ Some (number b) →
      AllowsOnly (λ o. MatchBool t (AllowedIn calls (expr_var x) env o) (AllowedIn calls (expr_var y) env o)) (number (better a b) ∷ [])
  picked_value a b true e env x y p q =
      subst (λ c. AllowsOnly (AllowedIn calls (expr_var x) env) (number c ∷ [])) (sym (takes.first a b e)) (var_is calls env x (number a) p)
  picked_value a b false e env x y p q =
      subst (λ c. AllowsOnly (AllowedIn calls (expr_var y) env) (number c ∷ [])) (sym (takes.second a b e)) (var_is calls env y (number b) q)

  pick_is : (a b : ℤ) (env : List Value) (x y : ℕ) → slice_get env x ≡ Some (number a) → slice_get env y ≡ Some (number b) →
      Is calls env (pick order x y) (number (better a b))
  pick_is a b env x y p q =
      then_only {first = AllowedIn calls (expr_binary (Compare order) (expr_var x) (expr_var y)) env} (truth (compared order (number a) (number b)) ∷ [])
      (number (better a b) ∷ [])
      (compare_is calls env order x y (number a) (number b) p q)
      (picked_value a b (compared order (number a) (number b)) refl env x y p q)

  -- the numbers of a list of values are these
  abbrev AreNumbers : List Value → List ℤ → Type 0
  AreNumbers vs zs = vs ≡ map number zs

  one_more : (env : List Value) (v : Value) (z : ℕ) → z ≡ length env → length (env ++ v ∷ []) ≡ suc z
  one_more env v z e = omega (arith, e, length-append env (v ∷ []))

  picked_is : (more : ℕ) (env : List Value) (x y z : ℕ) (a b : ℤ) (cs : List ℤ) → slice_get env x ≡ Some (number a) →
      Read env y (map number (b ∷ cs)) → length cs ≡ more → z ≡ length env →
      Is calls env (picked_from order x y z more) (number (better a (best_of better (b ∷ cs))))
  picked_is zero env x y z a b [] p r l e = pick_is a b env x y p r.0
  picked_is zero env x y z a b (c ∷ cs) p r l e = absurd (omega (arith, l))
  picked_is (suc more) env x y z a b [] p r l e = absurd (omega (arith, l))
  picked_is (suc more) env x y z a b (c ∷ cs) p r l e =
      let v = number (better a b) in
      let rest = picked_is more (env ++ v ∷ []) z (suc y) (suc z) (better a b) c cs
      (rw e (get_end env v [])) (read_early env (v ∷ []) (suc y) (map number (c ∷ cs)) r.1) (omega (arith, l)) (sym (one_more env v z e)) in
      then_only {first = AllowedIn calls (pick order x y) env} (v ∷ []) (number (better a (best_of better (b ∷ c ∷ cs))) ∷ [])
      (pick_is a b env x y p r.0)
      (subst (λ k. Is calls (env ++ v ∷ []) (picked_from order z (suc y) (suc z) more) (number k)) (takes.over_three a b (best_of better (c ∷ cs))) rest)

  -- the body that picks among the numbers from level s on, behind which nothing stands
  pub best_is : (env : List Value) (zs : List ℤ) (s k : ℕ) → 2 ≤ length zs → k ≡ length zs → s ≡ length env →
      Is calls (env ++ map number zs) (best_body order s k) (number (best_of better zs))
  best_is env [] s k m l e = absurd (omega (arith, m))
  best_is env (a ∷ []) s k m l e = absurd (omega (arith, m))
  best_is env (a ∷ b ∷ cs) s k m l e =
      let all = number a ∷ number b ∷ map number cs in
      let r = read_behind env all in
      rw (l, e) (picked_is (length (a ∷ b ∷ cs) - 2) (env ++ all) (length env) (suc (length env)) (length env + length (a ∷ b ∷ cs)) a b cs r.0 r.1 (omega arith)
      (omega (arith, length-append env all, length-map cs number)))
