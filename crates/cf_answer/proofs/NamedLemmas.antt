-- What a sample of a question says of a branch, where it names the truth variables of the branch and all variables of which the question speaks.
use Rattle.std.proofs.Common.{inl, inr, ◌≡◌, ◌∙◌, ℕ, zero, suc, ◌+◌, ◌<◌, ◌≤◌, ◌==◌, pos, Bool, true, false, not, Option, Some, None, List, [], ◌∷◌, length, map, filter, refl, sym, ap, ap₂, subst, true≢false, arith}
use Rattle.std.specs.List.{range_with_len}
use Rattle.std.proofs.lemmas.Bool.{and_parts, cases_lt, cond_both, eq-eqb, eqb-true, ne_eqb, not-true}
use Rattle.std.proofs.lemmas.List.{get_or_past, length-map}
use Rattle.std.proofs.lemmas.List.FromFn.{get_or-map-range_with_len, length-map-range_with_len}
use Rattle.cf_tree.specs.declared.base.Base.{Base}
use Rattle.cf_tree.specs.declared.base.Base.TheVariants.{Int, Bool as Truth, Set}
use Rattle.cf_tree.specs.Occurs.{rel_holds}
use Rattle.cf_tree.specs.RelTree.{RelTree}
use Rattle.cf_tree.specs.Values.{Value, number, truth, value_at, HasBase, HaveBases}
use Rattle.cf_tree.proofs.SetLemmas.{on_bool}
use Rattle.cf_cases.specs.Holding.{EachOf}
use Rattle.cf_form.specs.Branches.{Branch, is_among, is_truth as is_truth_base, values_in}
use Rattle.cf_form.proofs.Outcomes.{length_have}
use Rattle.cf_warn.specs.Questions.{base_at, parameters, parameter_bases}
use Rattle.cf_warn.specs.Solutions.{IsAt}
use Rattle.cf_warn.proofs.ParameterLaws.{each_filtered}
use Rattle.cf_answer.specs.Tells.{IsNamed, is_named, is_truth, are_truths}
use Rattle.cf_answer.specs.ToldChecks.{Asked, at_rest, beside, named_sample, named_value, truth_or}

-- ---- lists of levels
map_each : (f g : ℕ → Value) → ((x : ℕ) → f x ≡ g x) → (xs : List ℕ) → map f xs ≡ map g xs
map_each f g h [] = refl
map_each f g h (x ∷ xs) = ap₂ (λ v vs. v ∷ vs) (h x) (map_each f g h xs)

map_same : (f g : ℕ → Value) (P : ℕ → Type 0) → ((x : ℕ) → P x → f x ≡ g x) → (xs : List ℕ) → EachOf P xs → map f xs ≡ map g xs
map_same f g P h [] e = refl
map_same f g P h (x ∷ xs) e = ap₂ (λ v vs. v ∷ vs) (h x e.0) (map_same f g P h xs e.1)

same_at : (f g : ℕ → Value) (xs : List ℕ) → map f xs ≡ map g xs → (x : ℕ) → is_among x xs ≡ true → f x ≡ g x
same_at f g [] e x h = absurd (cc)
same_at f g (y ∷ ys) e x h =
    let first : f y ≡ g y = cc e in
    let more : map f ys ≡ map g ys = cc e in
    on_bool (x == y) (λ i. let s = eqb-true x y i in ap f s ∙ first ∙ sym (ap g s)) (λ i. same_at f g ys more x (rw i at h))

-- no level stands twice in the list
abbrev Apart : List ℕ → Type 0
Apart [] = Unit {0}
Apart (y ∷ ys) = EachOf (λ x. (x == y) ≡ false) ys × Apart ys

each_ranged : (P : ℕ → Type 0) (q : ℕ → Bool) (a n : ℕ) → ((x : ℕ) → a ≤ x → x < a + n → q x ≡ true → P x) → EachOf P (filter q (range_with_len a n))
each_ranged P q a zero h = tt
each_ranged P q a (suc n) h =
    let more = each_ranged P q (a + 1) n (λ x l k e. h x (omega arith) (omega arith) e) in
    cond_both (q a) (a ∷ filter q (range_with_len (a + 1) n)) (filter q (range_with_len (a + 1) n)) (λ xs. EachOf P xs)
    (λ e. (h a (omega arith) (omega arith) e, more)) (λ _. more)

apart_ranged : (q : ℕ → Bool) (a n : ℕ) → Apart (filter q (range_with_len a n))
apart_ranged q a zero = tt
apart_ranged q a (suc n) =
    let more = apart_ranged q (a + 1) n in
    let other = each_ranged (λ x. (x == a) ≡ false) q (a + 1) n (λ x l k e. ne_eqb x a (λ s. omega arith)) in
    cond_both (q a) (a ∷ filter q (range_with_len (a + 1) n)) (filter q (range_with_len (a + 1) n)) (λ xs. Apart xs) (λ _. (other, more)) (λ _. more)

-- ---- values beside levels
beside_all : (other : ℕ → Value) (xs : List ℕ) (vs : List Value) → Apart xs → length vs ≡ length xs → map (λ x. beside xs vs x (other x)) xs ≡ vs
beside_all other [] [] apart e = refl
beside_all other [] (v ∷ vs) apart e = absurd (omega arith)
beside_all other (x ∷ xs) [] apart e = absurd (omega arith)
beside_all other (x ∷ xs) (v ∷ vs) apart e =
    let here : beside (x ∷ xs) (v ∷ vs) x (other x) ≡ v = rw (eq-eqb x x refl) refl in
    let more : map (λ y. beside (x ∷ xs) (v ∷ vs) y (other y)) xs ≡ map (λ y. beside xs vs y (other y)) xs =
    map_same (λ y. beside (x ∷ xs) (v ∷ vs) y (other y)) (λ y. beside xs vs y (other y)) (λ y. (y == x) ≡ false) (λ y d. rw d refl) xs apart.0 in
    ap₂ (λ w ws. w ∷ ws) here (more ∙ beside_all other xs vs apart.1 (omega arith))

beside_none : (xs : List ℕ) (vs : List Value) (x : ℕ) (other : Value) → EachOf (λ y. (x == y) ≡ false) xs → beside xs vs x other ≡ other
beside_none [] vs x other e = refl
beside_none (y ∷ ys) [] x other e = refl
beside_none (y ∷ ys) (v ∷ vs) x other e = rw e.0 (beside_none ys vs x other e.1)

beside_has : (bs : ℕ → Base) (xs : List ℕ) (vs : List Value) (x : ℕ) (other : Value) → HaveBases (map bs xs) vs → HasBase (bs x) other →
    HasBase (bs x) (beside xs vs x other)
beside_has bs [] vs x other h o = o
beside_has bs (y ∷ ys) [] x other h o = o
beside_has bs (y ∷ ys) (v ∷ vs) x other h o =
    cond_both (x == y) v (beside ys vs x other) (λ w. HasBase (bs x) w) (λ e. subst (λ z. HasBase (bs z) v) (sym (eqb-true x y e)) h.0)
    (λ _. beside_has bs ys vs x other h.1 o)

-- ---- values of bases
pub has_rest : (b : Base) → HasBase b (at_rest b)
has_rest Int = (pos 0, refl)
has_rest Truth = (false, refl)
has_rest Set = ([], refl, tt)

truth_or_has : (o : Option Bool) (b : Base) (v : Value) → ((t : Bool) → o ≡ Some t → is_truth_base b ≡ true) → HasBase b v → HasBase b (truth_or o v)
truth_or_has None b v h k = k
truth_or_has (Some t) Int v h k = absurd (true≢false (sym (h t refl)))
truth_or_has (Some t) Truth v h k = (t, refl)
truth_or_has (Some t) Set v h k = absurd (true≢false (sym (h t refl)))

have_listed : (bs : List Base) (n : ℕ) (f : ℕ → Value) → ((i : ℕ) → i < length bs → HasBase (base_at bs i) (f (n + i))) →
    HaveBases bs (map f (range_with_len n (length bs)))
have_listed [] n f h = tt
have_listed (b ∷ bs) n f h =
    let z : n + 0 ≡ n = omega arith in (
      subst (λ x. HasBase b (f x)) z (h 0 (omega arith)),
      have_listed bs (n + 1) f (λ i l. let s : n + suc i ≡ n + 1 + i = omega arith in subst (λ x. HasBase (base_at bs i) (f x)) s (h (suc i) (omega arith))),
    )

none_unless : (o : Option Bool) → ((t : Bool) → o ≡ Some t → ⊥) → o ≡ None
none_unless None h = refl
none_unless (Some t) h = absurd (h t refl)

-- ---- the truth variables of a branch
truth_is : (a : Asked) (ts : Branch) → are_truths a ts ≡ true → (x : ℕ) (t : Bool) → values_in ts x ≡ Some t → is_truth a x ≡ true
truth_is a [] are x t e = absurd (cc)
truth_is a (s ∷ ts) are x t e =
    let both = and_parts (is_truth a s.0) (are_truths a ts) are in
    on_bool (x == s.0) (λ i. subst (λ y. is_truth a y ≡ true) (sym (eqb-true x s.0 i)) both.0) (λ i. truth_is a ts both.1 x t (rw i at e))

module _ (a : Asked) (truths : Branch) (are : are_truths a truths ≡ true) where
  truth_base : (x : ℕ) (t : Bool) → values_in truths x ≡ Some t → is_truth_base (base_at a.scope x) ≡ true
  truth_base x t e = (and_parts (is_truth_base (base_at a.scope x)) (is_among x a.levels) (truth_is a truths are x t e)).0

  truth_named : (x : ℕ) (t : Bool) → values_in truths x ≡ Some t → is_among x a.levels ≡ true
  truth_named x t e = (and_parts (is_truth_base (base_at a.scope x)) (is_among x a.levels) (truth_is a truths are x t e)).1

  no_truth : (x : ℕ) → is_truth_base (base_at a.scope x) ≡ false → values_in truths x ≡ None
  no_truth x e = none_unless (values_in truths x) (λ t i. true≢false (sym (truth_base x t i) ∙ e))

-- ---- what is named
module _ (a : Asked) (truths : Branch) (rel : RelTree) (sample : List Value) (are : are_truths a truths ≡ true)
    (have : HaveBases (parameter_bases a.scope rel) sample) where
  abbrev name : ℕ → Value
  name x = named_value a.scope truths rel sample x

  -- beside the truth variables
  abbrev own : ℕ → Value
  own x = beside (parameters a.scope rel) sample x (at_rest (base_at a.scope x))

  name_own : (x : ℕ) → is_truth_base (base_at a.scope x) ≡ false → name x ≡ own x
  name_own x e = ap (λ o. truth_or o (own x)) (no_truth a truths are x e)

  name_has : (x : ℕ) → HasBase (base_at a.scope x) (name x)
  name_has x =
      truth_or_has (values_in truths x) (base_at a.scope x) (own x) (λ t e. truth_base a truths are x t e)
      (beside_has (base_at a.scope) (parameters a.scope rel) sample x (at_rest (base_at a.scope x)) have (has_rest (base_at a.scope x)))

  -- no variable in scope
  name_past : (x : ℕ) → length a.scope ≤ x → name x ≡ number (pos 0)
  name_past x l =
      let base : base_at a.scope x ≡ Int = get_or_past a.scope x Int l in
      let other = each_filtered (λ y. (x == y) ≡ false) (λ y. rel_holds y rel) 0 (length a.scope) (λ y k e. ne_eqb x y (λ s. omega arith)) in
      name_own x (subst (λ b. is_truth_base b ≡ false) (sym base) refl)
      ∙ beside_none (parameters a.scope rel) sample x (at_rest (base_at a.scope x)) other ∙ ap at_rest base

  abbrev env_of : List Value
  env_of = map name (range_with_len 0 (length a.scope))

  value_is : (x : ℕ) → value_at env_of x ≡ name x
  value_is x =
      elim (cases_lt x (length a.scope)) [
        | inl l ↦ get_or-map-range_with_len name 0 (length a.scope) x x (number (pos 0)) (omega arith) (omega arith)
        | inr l ↦
            let long = length-map-range_with_len name 0 (length a.scope) in
            get_or_past env_of x (number (pos 0)) (omega arith) ∙ sym (name_past x l)
      ]

  pub named_somewhere : (env : List Value) × IsNamed a (named_sample a.scope a.levels truths rel sample) env
  named_somewhere = (
    env_of,
    record {
      bases = have_listed a.scope 0 name (λ i l. let z : i ≡ 0 + i = omega arith in subst (λ x. HasBase (base_at a.scope i) (name x)) z (name_has i));
      same = map_each (value_at env_of) name value_is a.levels;
    },
  )

  -- ---- where the sample is named
  module _ (env : List Value) (n : IsNamed a (named_sample a.scope a.levels truths rel sample) env) where
    pub named_truths : (x : ℕ) (t : Bool) → values_in truths x ≡ Some t → value_at env x ≡ truth t
    named_truths x t e =
        same_at (value_at env) name a.levels n.same x (truth_named a truths are x t e) ∙ ap (λ o. truth_or o (own x)) e

    module _ (named : (x : ℕ) → x < length a.scope → rel_holds x rel ≡ true → is_named a x ≡ true) where
      named_own : (x : ℕ) → x < length a.scope → rel_holds x rel ≡ true → value_at env x ≡ own x
      named_own x l e =
          let is = and_parts (not (is_truth_base (base_at a.scope x))) (is_among x a.levels) (named x l e) in
          same_at (value_at env) name a.levels n.same x is.1 ∙ name_own x (not-true (is_truth_base (base_at a.scope x)) is.0)

      pub named_at : IsAt a.scope rel sample env
      named_at =
          let long = length_have (parameter_bases a.scope rel) sample have ∙ length-map (parameters a.scope rel) (base_at a.scope) in
          let each = each_filtered (λ x. value_at env x ≡ own x) (λ x. rel_holds x rel) 0 (length a.scope) (λ x l e. named_own x (omega arith) e) in
          record {
            bases = n.bases;
            same = map_same (value_at env) own (λ x. value_at env x ≡ own x) (λ x e. e) (parameters a.scope rel) each
                ∙ beside_all (λ x. at_rest (base_at a.scope x)) (parameters a.scope rel) sample (apart_ranged (λ x. rel_holds x rel) 0 (length a.scope)) long;
          }
