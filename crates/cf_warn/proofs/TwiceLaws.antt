-- The question `twice`: it is typed and linear, and holds exactly at two different solutions at one sample.
use Rattle.std.proofs.Common.{inl, inr, ◌≡◌, ◌≢◌, ◌⊎◌, ◌↔◌, ℕ, zero, suc, ◌+◌, ◌<◌, pos, true, false, unwrap_or, Some, List, [], ◌∷◌, ◌++◌, length, take, slice_get, map, All, subst, refl, sym, ap, ap₂, ◌∙◌, arith}
use Rattle.std.specs.Ordering.{int_eq}
use Rattle.std.proofs.lemmas.List.{length-append, length-map, append_assoc, append-nil}
use Rattle.std.proofs.lemmas.List.Elements.{All-nil, All-cons, All-head, All-tail, All-append}
use Rattle.std.proofs.lemmas.Option.{unwrap_or-slice_get, get_or_from_slice_get}
use Rattle.cf_tree.specs.declared.base.Base.{Base}
use Rattle.cf_tree.specs.declared.base.Base.TheVariants.{Int, Bool as Truth, Set}
use Rattle.cf_tree.specs.Occurs.{rel_holds}
use Rattle.cf_tree.specs.Relation.{Holds, IsTyped, IsLinear}
use Rattle.cf_tree.specs.RelTree.{RelTree, rel_or, rel_false}
use Rattle.cf_tree.specs.Values.{Value, number, elements, number_of, elements_of, value_at, same_list, HasBase, HaveBases}
use Rattle.cf_tree.proofs.SetLemmas.{on_bool, eq_is, eq_differs, same_list-iff}
use Rattle.cf_cases.specs.Holding.{EachOf, SomeOf}
use Rattle.cf_cases.proofs.Quantifiers.{each-map}
use Rattle.cf_venn.proofs.LevelLaws.{length_have}
use Rattle.cf_choose.specs.Solved.{IsOutput}
use Rattle.cf_warn.specs.Questions.{parameters, base_at, parameter_bases, halves, rel_at, level_in, other, others, twice_outputs, twice}
use Rattle.cf_warn.proofs.HalvesLaws.{halves_keep, some_halves}
use Rattle.cf_warn.proofs.OtherLevels.{holds-at, typed-at, linear-at}
use Rattle.cf_warn.proofs.ParameterLaws.{IsHeld, held_rel, held_within, slice_get-early, slice_get-behind, each_filtered, has_parameter, at_level}

-- these things stand in the list from a place on
abbrev pub Stand : {A : Type 0} → List A → ℕ → List A → Type 0
Stand whole x [] = Unit {0}
Stand whole x (a ∷ as_) = (slice_get whole x ≡ Some a) × Stand whole (x + 1) as_

pub stand_behind : {A : Type 0} (front xs back : List A) (x : ℕ) → length front ≡ x → Stand (front ++ (xs ++ back)) x xs
stand_behind front [] back x e = tt
stand_behind front (a ∷ xs) back x e =
    let more : (front ++ (a ∷ [])) ++ (xs ++ back) ≡ front ++ (a ∷ (xs ++ back)) = append_assoc front (a ∷ []) (xs ++ back) in
    let long = length-append front (a ∷ []) in
    let here : length front + 0 ≡ x = omega arith in (
      subst (λ i. slice_get (front ++ (a ∷ (xs ++ back))) i ≡ Some a) here (slice_get-behind front (a ∷ (xs ++ back)) 0),
      subst (λ as_. Stand as_ (x + 1) xs) more (stand_behind (front ++ (a ∷ [])) xs back (x + 1) (omega arith)),
    )

-- ---- so many first ones
take_stand : {A : Type 0} (n : ℕ) (whole : List A) (x : ℕ) (as_ : List A) → Stand whole x as_ → Stand whole x (take n as_)
take_stand zero whole x as_ h = tt
take_stand (suc n) whole x [] h = tt
take_stand (suc n) whole x (a ∷ as_) h = (h.0, take_stand n whole (x + 1) as_ h.1)

take_have : (n : ℕ) (bs : List Base) (xs : List Value) → HaveBases bs xs → HaveBases (take n bs) (take n xs)
take_have zero bs xs h = tt
take_have (suc n) [] [] h = tt
take_have (suc n) [] (v ∷ xs) h = absurd h
take_have (suc n) (b ∷ bs) [] h = absurd h
take_have (suc n) (b ∷ bs) (v ∷ xs) h = (h.0, take_have n bs xs h.1)

take_outputs : (n : ℕ) (bs : List Base) → All IsOutput bs → All IsOutput (take n bs)
take_outputs zero bs o = All-nil IsOutput
take_outputs (suc n) [] o = All-nil IsOutput
take_outputs (suc n) (b ∷ bs) o = All-cons IsOutput b (take n bs) (All-head IsOutput b bs o) (take_outputs n bs (All-tail IsOutput b bs o))

-- ---- values that differ
true_false : true ≡ false → ⊥
true_false e = cc

head_same : (v w : Value) (vs ws : List Value) → v ∷ vs ≡ w ∷ ws → v ≡ w
head_same v w vs ws e = cc

tail_same : (v w : Value) (vs ws : List Value) → v ∷ vs ≡ w ∷ ws → vs ≡ ws
tail_same v w vs ws e = cc

module _ (env : List Value) where
  value_is : (x : ℕ) (v : Value) → slice_get env x ≡ Some v → value_at env x ≡ v
  value_is x v e = get_or_from_slice_get env x v (number (pos 0)) e

  differ : (b : Base) (v w : Value) (x y : ℕ) → value_at env x ≡ v → value_at env y ≡ w → Holds (other b x y) env → v ≢ w
  differ Int v w x y p q h e = h (ap number_of (p ∙ e ∙ sym q))
  differ Truth v w x y p q h e = h (ap number_of (p ∙ e ∙ sym q))
  differ Set v w x y p q h e = h (ap elements_of (p ∙ e ∙ sym q))

  same_or_other : (b : Base) (v w : Value) (x y : ℕ) → IsOutput b → HasBase b v → HasBase b w → value_at env x ≡ v → value_at env y ≡ w →
      (v ≡ w) ⊎ Holds (other b x y) env
  same_or_other Int v w x y o h k p q = on_bool (int_eq h.0 k.0)
      (λ t. inl (h.1 ∙ ap number (eq_is h.0 k.0 t) ∙ sym k.1))
      (λ t. inr (λ e. eq_differs h.0 k.0 t (sym (ap number_of (p ∙ h.1)) ∙ e ∙ ap number_of (q ∙ k.1))))
  same_or_other Truth v w x y o h k p q = absurd o
  same_or_other Set v w x y o h k p q = on_bool (same_list h.0 k.0)
      (λ t. inl (h.1 ∙ ap elements ((same_list-iff h.0 k.0).0 t) ∙ sym k.1))
      (λ t. inr (λ e. true_false (sym ((same_list-iff h.0 k.0).1 (sym (ap elements_of (p ∙ h.1)) ∙ e ∙ ap elements_of (q ∙ k.1))) ∙ t)))

  others_differ : (bs : List Base) (xs ys : List Value) (x y : ℕ) → HaveBases bs xs → HaveBases bs ys → Stand env x xs → Stand env y ys →
      SomeOf (λ r. Holds r env) (others bs x y) → xs ≢ ys
  others_differ [] xs ys x y h k p q s e = s
  others_differ (b ∷ bs) [] ys x y h k p q s e = h
  others_differ (b ∷ bs) (v ∷ vs) [] x y h k p q s e = k
  others_differ (b ∷ bs) (v ∷ vs) (w ∷ ws) x y h k p q s e =
      elim s [
        | inl t ↦ differ b v w x y (value_is x v p.0) (value_is y w q.0) t (head_same v w vs ws e)
        | inr t ↦ others_differ bs vs ws (x + 1) (y + 1) h.1 k.1 p.1 q.1 t (tail_same v w vs ws e)
      ]

  same_or_others : (bs : List Base) (xs ys : List Value) (x y : ℕ) → All IsOutput bs → HaveBases bs xs → HaveBases bs ys → Stand env x xs → Stand env y ys →
      (xs ≡ ys) ⊎ SomeOf (λ r. Holds r env) (others bs x y)
  same_or_others [] [] [] x y o h k p q = inl refl
  same_or_others [] [] (w ∷ ws) x y o h k p q = absurd k
  same_or_others [] (v ∷ vs) ys x y o h k p q = absurd h
  same_or_others (b ∷ bs) [] ys x y o h k p q = absurd h
  same_or_others (b ∷ bs) (v ∷ vs) [] x y o h k p q = absurd k
  same_or_others (b ∷ bs) (v ∷ vs) (w ∷ ws) x y o h k p q =
      elim (same_or_other b v w x y (All-head IsOutput b bs o) h.0 k.0 (value_is x v p.0) (value_is y w q.0)) [
        | inl e ↦ elim (same_or_others bs vs ws (x + 1) (y + 1) (All-tail IsOutput b bs o) h.1 k.1 p.1 q.1)
            [ inl f ↦ inl (ap₂ (λ a as_. a ∷ as_) e f) | inr s ↦ inr (inr s) ]
        | inr s ↦ inr (inl s)
      ]

-- ---- types
typed_other : (scope : List Base) (b : Base) (x y : ℕ) → IsOutput b → slice_get scope x ≡ Some b → slice_get scope y ≡ Some b → IsTyped scope (other b x y)
typed_other scope Int x y o h k = (h, k)
typed_other scope Truth x y o h k = absurd o
typed_other scope Set x y o h k = (h, k)

typed_others : (scope bs : List Base) (x y : ℕ) → All IsOutput bs → Stand scope x bs → Stand scope y bs → EachOf (IsTyped scope) (others bs x y)
typed_others scope [] x y o p q = tt
typed_others scope (b ∷ bs) x y o p q =
    (typed_other scope b x y (All-head IsOutput b bs o) p.0 q.0, typed_others scope bs (x + 1) (y + 1) (All-tail IsOutput b bs o) p.1 q.1)

linear_other : (b : Base) (x y : ℕ) → IsLinear (other b x y)
linear_other Int x y = (tt, tt)
linear_other Truth x y = (tt, tt)
linear_other Set x y = tt

linear_others : (bs : List Base) (x y : ℕ) → EachOf IsLinear (others bs x y)
linear_others [] x y = tt
linear_others (b ∷ bs) x y = (linear_other b x y, linear_others bs (x + 1) (y + 1))

all_from_each : {A : Type 0} (P : A → Type 0) (xs : List A) → EachOf P xs → All P xs
all_from_each P [] h = All-nil P
all_from_each P (x ∷ xs) h = All-cons P x xs h.0 (all_from_each P xs h.1)

base_is : (scope : List Base) (x : ℕ) → IsHeld scope x → IsOutput (base_at scope x)
base_is scope x h = elim h [
  | inl e ↦ subst IsOutput (sym (get_or_from_slice_get scope x Int Int e)) tt
  | inr e ↦ subst IsOutput (sym (get_or_from_slice_get scope x Set Int e)) tt
]

pub have_at : (scope : List Base) (env : List Value) (x : ℕ) → HaveBases scope env → x < length scope → HasBase (base_at scope x) (value_at env x)
have_at [] env x h l = absurd (omega arith)
have_at (b ∷ scope) [] x h l = absurd h
have_at (b ∷ scope) (v ∷ env) zero h l = h.0
have_at (b ∷ scope) (v ∷ env) (suc x) h l = have_at scope env x h.1 (omega arith)

have_each : (scope : List Base) (env : List Value) → HaveBases scope env → (xs : List ℕ) → EachOf (λ x. x < length scope) xs →
    HaveBases (map (base_at scope) xs) (map (value_at env) xs)
have_each scope env h [] l = tt
have_each scope env h (x ∷ xs) l = (have_at scope env x h l.0, have_each scope env h xs l.1)

pub each_within : (scope : List Base) (rel : RelTree) → EachOf (λ x. x < length scope) (parameters scope rel)
each_within scope rel = each_filtered (λ x. x < length scope) (λ x. rel_holds x rel) 0 (length scope) (λ x k e. omega arith)

pub parameters_within : (scope : List Base) (rel : RelTree) → All (λ x. x < length scope) (parameters scope rel)
parameters_within scope rel = all_from_each (λ x. x < length scope) (parameters scope rel) (each_within scope rel)

-- the values of the parameters have their bases
pub have_sample : (scope : List Base) (rel : RelTree) (env : List Value) → HaveBases scope env →
    HaveBases (parameter_bases scope rel) (map (value_at env) (parameters scope rel))
have_sample scope rel env h = have_each scope env h (parameters scope rel) (each_within scope rel)

value_from : (u w : List Value) (i j : ℕ) → slice_get u i ≡ slice_get w j → value_at u i ≡ value_at w j
value_from u w i j e =
    sym (unwrap_or-slice_get u i (number (pos 0))) ∙ ap (λ o. unwrap_or o (number (pos 0))) e ∙ unwrap_or-slice_get w j (number (pos 0))

module _ (scope outputs : List Base) (rel : RelTree) (typed : IsTyped (scope ++ outputs) rel) (are_outputs : All IsOutput outputs) where
  held : (x : ℕ) → rel_holds x rel ≡ true → IsHeld (scope ++ outputs) x
  held x e = held_rel (scope ++ outputs) x rel typed e

  within : (x : ℕ) → rel_holds x rel ≡ true → x < length scope + length outputs
  within x e = let l = held_within (scope ++ outputs) x (held x e) in let s = length-append scope outputs in omega arith

  -- ---- the question is typed and linear
  length-params : length (parameter_bases scope rel) ≡ length (parameters scope rel)
  length-params = length-map (parameters scope rel) (base_at scope)

  typed_first : IsTyped (twice_outputs scope outputs rel) (rel_at (level_in (length scope) (parameters scope rel) 0) rel)
  typed_first =
      typed-at (level_in (length scope) (parameters scope rel) 0) (scope ++ outputs) (twice_outputs scope outputs rel) rel
      (λ x e. at_level Int scope [] outputs outputs (parameters scope rel) (length scope) 0 x refl (λ l. has_parameter scope rel x l e) (within x e) refl) typed

  typed_second : IsTyped (twice_outputs scope outputs rel) (rel_at (level_in (length scope) (parameters scope rel) (length outputs)) rel)
  typed_second =
      subst (λ bs. IsTyped (parameter_bases scope rel ++ (outputs ++ bs)) (rel_at (level_in (length scope) (parameters scope rel) (length outputs)) rel))
      (append-nil outputs)
      (typed-at (level_in (length scope) (parameters scope rel) (length outputs)) (scope ++ outputs) (parameter_bases scope rel ++ (outputs ++ (outputs ++ [])))
      rel
      (λ x e. at_level Int scope outputs outputs [] (parameters scope rel) (length scope) (length outputs) x refl (λ l. has_parameter scope rel x l e)
      (within x e) refl) typed)

  copy_behind : {A : Type 0} (front xs ys : List A) (n : ℕ) → length front + length xs ≡ n → Stand (front ++ (xs ++ ys)) n ys
  copy_behind front xs ys n e =
      let s : (front ++ xs) ++ (ys ++ []) ≡ front ++ (xs ++ ys) = ap (λ zs. (front ++ xs) ++ zs) (append-nil ys) ∙ append_assoc front xs ys in
      let l = length-append front xs in
      subst (λ zs. Stand zs n ys) s (stand_behind (front ++ xs) ys [] n (omega arith))

  typed_third : (shown : ℕ) →
      IsTyped (twice_outputs scope outputs rel)
      (halves rel_or rel_false (others (take shown outputs) (length (parameters scope rel)) (length (parameters scope rel) + length outputs)))
  typed_third shown =
      let n = length (parameters scope rel) in
      let l = length-params in
      halves_keep rel_or rel_false (IsTyped (twice_outputs scope outputs rel)) tt (λ a b p q. (p, q)) (others (take shown outputs) n (n + length outputs))
      (typed_others (twice_outputs scope outputs rel) (take shown outputs) n (n + length outputs) (take_outputs shown outputs are_outputs)
      (take_stand shown (twice_outputs scope outputs rel) n outputs (stand_behind (parameter_bases scope rel) outputs outputs n l))
      (take_stand shown (twice_outputs scope outputs rel) (n + length outputs) outputs
      (copy_behind (parameter_bases scope rel) outputs outputs (n + length outputs) (omega arith))))

  pub twice_typed : (shown : ℕ) → IsTyped (twice_outputs scope outputs rel) (twice scope outputs shown rel)
  twice_typed shown = (typed_first, (typed_second, typed_third shown))

  pub twice_linear : (shown : ℕ) → IsLinear rel → IsLinear (twice scope outputs shown rel)
  twice_linear shown linear = (
    linear-at (level_in (length scope) (parameters scope rel) 0) rel linear,
    (
      linear-at (level_in (length scope) (parameters scope rel) (length outputs)) rel linear,
      halves_keep rel_or rel_false IsLinear tt (λ a b p q. (p, q))
          (others (take shown outputs) (length (parameters scope rel)) (length (parameters scope rel) + length outputs))
          (linear_others (take shown outputs) (length (parameters scope rel)) (length (parameters scope rel) + length outputs)),
    ),
  )

  pub parameters_are_outputs : All IsOutput (parameter_bases scope rel)
  parameters_are_outputs =
      let bases = each_filtered (λ x. IsOutput (base_at scope x)) (λ x. rel_holds x rel) 0 (length scope)
      (λ x l e. base_is scope x (early x (omega arith) (held x e))) in
      all_from_each IsOutput (parameter_bases scope rel) (each-map IsOutput (base_at scope) (parameters scope rel) bases)
    where
      early : (x : ℕ) → x < length scope → IsHeld (scope ++ outputs) x → IsHeld scope x
      early x l h = elim h [ inl e ↦ inl (sym (slice_get-early scope outputs x l) ∙ e) | inr e ↦ inr (sym (slice_get-early scope outputs x l) ∙ e) ]

  pub twice_are_outputs : All IsOutput (twice_outputs scope outputs rel)
  twice_are_outputs =
      All-append IsOutput (parameter_bases scope rel) (outputs ++ outputs) parameters_are_outputs (All-append IsOutput outputs outputs are_outputs are_outputs)

  -- ---- the question holds at two different solutions at one sample
  module _ (env xs ys : List Value) (have : HaveBases scope env) (first : HaveBases outputs xs) (second : HaveBases outputs ys) where
    first_holds : Holds (rel_at (level_in (length scope) (parameters scope rel) 0) rel) (map (value_at env) (parameters scope rel) ++ (xs ++ ys)) ↔ Holds rel
        (env ++ xs)
    first_holds =
        let n = length_have scope env have in
        let k = length_have outputs xs first in
        holds-at (level_in (length scope) (parameters scope rel) 0) (env ++ xs) (map (value_at env) (parameters scope rel) ++ (xs ++ ys)) rel
        (λ x e. value_from (map (value_at env) (parameters scope rel) ++ (xs ++ ys)) (env ++ xs) (level_in (length scope) (parameters scope rel) 0 x) x
        (at_level (number (pos 0)) env [] xs ys (parameters scope rel) (length scope) 0 x n (λ l. has_parameter scope rel x l e) (let w = within x e in
        omega arith) refl))

    second_holds : Holds (rel_at (level_in (length scope) (parameters scope rel) (length outputs)) rel)
        (map (value_at env) (parameters scope rel) ++ (xs ++ ys)) ↔ Holds rel (env ++ ys)
    second_holds =
        let n = length_have scope env have in
        let k = length_have outputs xs first in
        let j = length_have outputs ys second in
        let s : ys ++ [] ≡ ys = append-nil ys in
        subst (λ zs. Holds (rel_at (level_in (length scope) (parameters scope rel) (length outputs)) rel)
        (map (value_at env) (parameters scope rel) ++ (xs ++ zs)) ↔ Holds rel (env ++ ys)) s
        (holds-at (level_in (length scope) (parameters scope rel) (length outputs)) (env ++ ys)
        (map (value_at env) (parameters scope rel) ++ (xs ++ (ys ++ []))) rel
        (λ x e. value_from (map (value_at env) (parameters scope rel) ++ (xs ++ (ys ++ []))) (env ++ ys)
        (level_in (length scope) (parameters scope rel) (length outputs) x) x
        (at_level (number (pos 0)) env xs ys [] (parameters scope rel) (length scope) (length outputs) x n (λ l. has_parameter scope rel x l e)
        (let w = within x e in omega arith) k)))

    pub twice_solved : (shown : ℕ) → Holds (twice scope outputs shown rel) (map (value_at env) (parameters scope rel) ++ (xs ++ ys)) →
        Holds rel (env ++ xs) × Holds rel (env ++ ys)
    twice_solved shown h = (first_holds.0 h.0, second_holds.0 h.1.0)

    -- two solutions are the same in what is shown, or solve the question
    pub same_or_twice : (shown : ℕ) → Holds rel (env ++ xs) → Holds rel (env ++ ys) →
        (take shown xs ≡ take shown ys) ⊎ Holds (twice scope outputs shown rel) (map (value_at env) (parameters scope rel) ++ (xs ++ ys))
    same_or_twice shown p q =
        let l = length-map (parameters scope rel) (value_at env) in
        let k = length_have outputs xs first in
        let n = length (parameters scope rel) in
        let whole = map (value_at env) (parameters scope rel) ++ (xs ++ ys) in
        elim (same_or_others whole (take shown outputs) (take shown xs) (take shown ys) n (n + length outputs) (take_outputs shown outputs are_outputs)
        (take_have shown outputs xs first) (take_have shown outputs ys second)
        (take_stand shown whole n xs (stand_behind (map (value_at env) (parameters scope rel)) xs ys n l))
        (take_stand shown whole (n + length outputs) ys
        (copy_behind (map (value_at env) (parameters scope rel)) xs ys (n + length outputs) (omega arith)))) [
          | inl e ↦ inl e
          | inr s ↦ inr (
            first_holds.1 p,
            (
              second_holds.1 q,
              (some_halves whole (others (take shown outputs) n (n + length outputs))).1 s,
            ),
          )
        ]

  -- a solution of the question has two lists of outputs that differ in what is shown
  pub twice_differ : (shown : ℕ) (sample xs ys : List Value) → HaveBases (parameter_bases scope rel) sample → HaveBases outputs xs → HaveBases outputs ys →
      Holds (twice scope outputs shown rel) (sample ++ (xs ++ ys)) → take shown xs ≢ take shown ys
  twice_differ shown sample xs ys have first second h =
      let l = length_have (parameter_bases scope rel) sample have in
      let m = length-params in
      let k = length_have outputs xs first in
      let n = length (parameters scope rel) in
      let whole = sample ++ (xs ++ ys) in
      others_differ whole (take shown outputs) (take shown xs) (take shown ys) n (n + length outputs) (take_have shown outputs xs first)
      (take_have shown outputs ys second) (take_stand shown whole n xs (stand_behind sample xs ys n (omega arith)))
      (take_stand shown whole (n + length outputs) ys (copy_behind sample xs ys (n + length outputs) (omega arith)))
      ((some_halves whole (others (take shown outputs) n (n + length outputs))).0 h.1.1)
