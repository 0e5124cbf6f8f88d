-- Trees of halves: how they are made, what they keep and what they mean.
use Rattle.std.proofs.Common.{inl, inr, ◌≡◌, ◌⊎◌, ◌↔◌, ℕ, zero, suc, ◌/◌, ◌≤◌, List, [], ◌∷◌, ◌++◌, length, take, drop, map, subst, refl, sym, ap, ap₂, ◌∙◌, take-append-drop, arith}
use Rattle.std.specs.List.{take-map, drop-map}
use Rattle.std.proofs.lemmas.List.{length-take, length-drop, length-map}
use Rattle.cf_tree.specs.Relation.{Holds}
use Rattle.cf_tree.specs.RelTree.{RelTree, rel_true, rel_false, rel_and, rel_or}
use Rattle.cf_tree.specs.Values.{Value}
use Rattle.cf_cases.specs.Holding.{EachOf, SomeOf}
use Rattle.cf_cases.proofs.Quantifiers.{each-append, each-split, some-split, some-left, some-right}
use Rattle.cf_warn.specs.Questions.{halves_within, halves}

-- the halves of a list of two or more are shorter
pub front_fits : {A : Type 0} (n : ℕ) (p q : A) (ps : List A) → length (p ∷ q ∷ ps) ≤ suc n → length (take (length (p ∷ q ∷ ps) / 2) (p ∷ q ∷ ps)) ≤ n
front_fits n p q ps h = let e = length-take (length (p ∷ q ∷ ps) / 2) (p ∷ q ∷ ps) in omega arith

pub back_fits : {A : Type 0} (n : ℕ) (p q : A) (ps : List A) → length (p ∷ q ∷ ps) ≤ suc n → length (drop (length (p ∷ q ∷ ps) / 2) (p ∷ q ∷ ps)) ≤ n
back_fits n p q ps h = let e = length-drop (length (p ∷ q ∷ ps) / 2) (p ∷ q ∷ ps) in omega arith

module _ {A : Type 0} (join : A → A → A) (empty : A) where
  -- a greater number changes nothing
  halves_same : (m n : ℕ) (ps : List A) → length ps ≤ m → length ps ≤ n → halves_within m join empty ps ≡ halves_within n join empty ps
  halves_same zero zero ps h k = refl
  halves_same zero (suc n) [] h k = refl
  halves_same zero (suc n) (p ∷ ps) h k = absurd (omega arith)
  halves_same (suc m) zero [] h k = refl
  halves_same (suc m) zero (p ∷ ps) h k = absurd (omega arith)
  halves_same (suc m) (suc n) [] h k = refl
  halves_same (suc m) (suc n) (p ∷ []) h k = refl
  halves_same (suc m) (suc n) (p ∷ q ∷ ps) h k =
      ap₂ join
      (halves_same m n (take (length (p ∷ q ∷ ps) / 2) (p ∷ q ∷ ps)) (front_fits m p q ps h) (front_fits n p q ps k))
      (halves_same m n (drop (length (p ∷ q ∷ ps) / 2) (p ∷ q ∷ ps)) (back_fits m p q ps h) (back_fits n p q ps k))

  -- two or more parts are their two halves
  pub halves_two : (ps : List A) → 2 ≤ length ps →
      halves join empty ps ≡ join (halves join empty (take (length ps / 2) ps)) (halves join empty (drop (length ps / 2) ps))
  halves_two [] h = absurd (omega arith)
  halves_two (p ∷ []) h = absurd (omega arith)
  halves_two (p ∷ q ∷ ps) h =
      let front = take (length (p ∷ q ∷ ps) / 2) (p ∷ q ∷ ps) in
      let back = drop (length (p ∷ q ∷ ps) / 2) (p ∷ q ∷ ps) in
      ap₂ join
      (halves_same (suc (length ps)) (length front) front (front_fits (suc (length ps)) p q ps (omega arith)) (omega arith))
      (halves_same (suc (length ps)) (length back) back (back_fits (suc (length ps)) p q ps (omega arith)) (omega arith))

  -- what each part and the empty tree have, and a join keeps, the tree has
  module _ (P : A → Type 0) (none : P empty) (keeps : (a b : A) → P a → P b → P (join a b)) where
    halves_within_keep : (n : ℕ) (ps : List A) → EachOf P ps → P (halves_within n join empty ps)
    halves_within_keep zero ps h = none
    halves_within_keep (suc n) [] h = none
    halves_within_keep (suc n) (p ∷ []) h = h.0
    halves_within_keep (suc n) (p ∷ q ∷ ps) h =
        let front = take (length (p ∷ q ∷ ps) / 2) (p ∷ q ∷ ps) in
        let back = drop (length (p ∷ q ∷ ps) / 2) (p ∷ q ∷ ps) in
        let whole : front ++ back ≡ p ∷ q ∷ ps = take-append-drop (length (p ∷ q ∷ ps) / 2) (p ∷ q ∷ ps) in
        let both = each-split P front back (subst (λ xs. EachOf P xs) (sym whole) h) in
        keeps (halves_within n join empty front) (halves_within n join empty back) (halves_within_keep n front both.0) (halves_within_keep n back both.1)

    pub halves_keep : (ps : List A) → EachOf P ps → P (halves join empty ps)
    halves_keep ps h = halves_within_keep (length ps) ps h

  -- two halves of parts of the program
  pub halves_of_two : {X : Type 0} (tree : X → A) (parts front back : List X) (left right : A) → 2 ≤ length parts → front ≡ take (length parts / 2) parts →
      back ≡ drop (length parts / 2) parts → left ≡ halves join empty (map tree front) → right ≡ halves join empty (map tree back) →
      join left right ≡ halves join empty (map tree parts)
  halves_of_two tree parts front back left right h f b l r =
      let n : length (map tree parts) ≡ length parts = length-map parts tree in
      let x : take (length (map tree parts) / 2) (map tree parts) ≡ map tree front =
      ap (λ k. take (k / 2) (map tree parts)) n ∙ take-map tree (length parts / 2) parts ∙ ap (map tree) (sym f) in
      let y : drop (length (map tree parts) / 2) (map tree parts) ≡ map tree back =
      ap (λ k. drop (k / 2) (map tree parts)) n ∙ drop-map tree (length parts / 2) parts ∙ ap (map tree) (sym b) in
      let whole : halves join empty (map tree parts) ≡ join (halves join empty (map tree front)) (halves join empty (map tree back)) =
      halves_two (map tree parts) (omega arith)
      ∙ ap₂ join (ap (λ ps. halves join empty ps) x) (ap (λ ps. halves join empty ps) y) in
      ap₂ join l r ∙ sym whole

-- ---- relations joined
module _ (env : List Value) where
  abbrev Any : List RelTree → Type 0
  Any ps = SomeOf (λ r. Holds r env) ps

  from_front : (ps qs whole : List RelTree) → ps ++ qs ≡ whole → Any ps → Any whole
  from_front ps qs whole e h = subst Any e (some-left (λ r. Holds r env) ps qs h)

  from_back : (ps qs whole : List RelTree) → ps ++ qs ≡ whole → Any qs → Any whole
  from_back ps qs whole e h = subst Any e (some-right (λ r. Holds r env) ps qs h)

  into_parts : (ps qs whole : List RelTree) → ps ++ qs ≡ whole → Any whole → Any ps ⊎ Any qs
  into_parts ps qs whole e h = some-split (λ r. Holds r env) ps qs (subst Any (sym e) h)

  some_within : (n : ℕ) (ps : List RelTree) → length ps ≤ n → Holds (halves_within n rel_or rel_false ps) env ↔ Any ps
  some_within zero [] h = (λ u. u, λ u. u)
  some_within zero (p ∷ ps) h = absurd (omega arith)
  some_within (suc n) [] h = (λ u. u, λ u. u)
  some_within (suc n) (p ∷ []) h = (λ u. inl u, λ u. elim u [ inl v ↦ v | inr v ↦ absurd v ])
  some_within (suc n) (p ∷ q ∷ ps) h =
      let front = take (length (p ∷ q ∷ ps) / 2) (p ∷ q ∷ ps) in
      let back = drop (length (p ∷ q ∷ ps) / 2) (p ∷ q ∷ ps) in
      let whole : front ++ back ≡ p ∷ q ∷ ps = take-append-drop (length (p ∷ q ∷ ps) / 2) (p ∷ q ∷ ps) in
      let f = some_within n front (front_fits n p q ps h) in
      let b = some_within n back (back_fits n p q ps h) in (
        λ u. elim u [ inl v ↦ from_front front back (p ∷ q ∷ ps) whole (f.0 v) | inr v ↦ from_back front back (p ∷ q ∷ ps) whole (b.0 v) ],
        λ u. elim (into_parts front back (p ∷ q ∷ ps) whole u) [ inl v ↦ inl (f.1 v) | inr v ↦ inr (b.1 v) ],
      )

  -- a tree of halves of relations joined by `||` holds exactly where one of them does
  pub some_halves : (ps : List RelTree) → Holds (halves rel_or rel_false ps) env ↔ SomeOf (λ r. Holds r env) ps
  some_halves ps = some_within (length ps) ps (omega arith)

  abbrev Each : List RelTree → Type 0
  Each ps = EachOf (λ r. Holds r env) ps

  each_within : (n : ℕ) (ps : List RelTree) → length ps ≤ n → Holds (halves_within n (λ a b. rel_and a b) rel_true ps) env ↔ Each ps
  each_within zero [] h = (λ u. u, λ u. u)
  each_within zero (p ∷ ps) h = absurd (omega arith)
  each_within (suc n) [] h = (λ u. u, λ u. u)
  each_within (suc n) (p ∷ []) h = (λ u. (u, tt), λ u. u.0)
  each_within (suc n) (p ∷ q ∷ ps) h =
      let front = take (length (p ∷ q ∷ ps) / 2) (p ∷ q ∷ ps) in
      let back = drop (length (p ∷ q ∷ ps) / 2) (p ∷ q ∷ ps) in
      let whole : front ++ back ≡ p ∷ q ∷ ps = take-append-drop (length (p ∷ q ∷ ps) / 2) (p ∷ q ∷ ps) in
      let f = each_within n front (front_fits n p q ps h) in
      let b = each_within n back (back_fits n p q ps h) in (
        λ u. subst Each whole (each-append (λ r. Holds r env) front back (f.0 u.0) (b.0 u.1)),
        λ u. let s = each-split (λ r. Holds r env) front back (subst Each (sym whole) u) in (f.1 s.0, b.1 s.1),
      )

  -- and one of relations joined by `&&` exactly where all do
  pub each_halves : (ps : List RelTree) → Holds (halves (λ a b. rel_and a b) rel_true ps) env ↔ EachOf (λ r. Holds r env) ps
  each_halves ps = each_within (length ps) ps (omega arith)
