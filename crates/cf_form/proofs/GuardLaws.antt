-- Guarded forms that cover all that a form may be: the guards of some hold, and each whose guards hold has what is asked.
use Rattle.std.specs.Prelude.{ℤ, ◌≡◌, ◌⊎◌, Bool, true, false, not, List, [], ◌∷◌, ◌++◌, map}
use Rattle.std.specs.Int.{int_max, int_min}
use Rattle.std.proofs.Common.{refl, sym, ap, ◌∙◌, subst, arith, inl, inr}
use Rattle.std.proofs.lemmas.Int.{ints, clamps}
use Rattle.cf_tree.specs.declared.base.Order.{Order}
use Rattle.cf_tree.specs.declared.base.Order.TheVariants.{Lt, Le, Gt, Ge}
use Rattle.cf_tree.specs.Allowed.{chained, best_of as best_number}
use Rattle.cf_tree.specs.Numbers.{Compares}
use Rattle.cf_tree.specs.Relation.{Holds, val}
use Rattle.cf_tree.specs.RelTree.{TermTree, RelTree, rel_compare, rel_not}
use Rattle.cf_tree.specs.Values.{Value, number, compared}
use Rattle.cf_form.specs.Alternatives.{all_of, Guarded, alone, over_one, over_two, behind, one_of, one_of_each, best_of_two, best_behind, best_of, some_atom, links}
use Rattle.cf_form.specs.Polarity.{itself}
use Rattle.cf_form.proofs.HalfLaws.{HoldAll, HoldSome, all_joined, all_apart, all_holds, some_holds}
use Rattle.cf_form.proofs.SaidBy.{Says, says_and, says_or, says_not, says_same, compares_says, not_and}

-- the guards of some hold
abbrev pub SomeHolds : {A : Type 0} → List Value → List (Guarded A) → Type 0
SomeHolds env [] = ⊥
SomeHolds env (x ∷ xs) = HoldAll x.guards env ⊎ SomeHolds env xs

-- each whose guards hold has P
abbrev pub EachHas : {A : Type 0} → (A → Type 0) → List Value → List (Guarded A) → Type 0
EachHas P env [] = Unit {0}
EachHas P env (x ∷ xs) = (HoldAll x.guards env → P x.form) × EachHas P env xs

pub record Covers {A : Type 0} (P : A → Type 0) (env : List Value) (xs : List (Guarded A)) : Type 0 where
  pub some : SomeHolds env xs
  pub each : EachHas P env xs

some_left : {A : Type 0} (env : List Value) (xs ys : List (Guarded A)) → SomeHolds env xs → SomeHolds env (xs ++ ys)
some_left env [] ys h = absurd h
some_left env (x ∷ xs) ys h = elim h as (λ _. SomeHolds env (x ∷ (xs ++ ys))) [ inl p ↦ inl p | inr q ↦ inr (some_left env xs ys q) ]

some_right : {A : Type 0} (env : List Value) (xs ys : List (Guarded A)) → SomeHolds env ys → SomeHolds env (xs ++ ys)
some_right env [] ys h = h
some_right env (x ∷ xs) ys h = inr (some_right env xs ys h)

each_joined : {A : Type 0} (P : A → Type 0) (env : List Value) (xs ys : List (Guarded A)) → EachHas P env xs → EachHas P env ys → EachHas P env (xs ++ ys)
each_joined P env [] ys h k = k
each_joined P env (x ∷ xs) ys h k = (h.0, each_joined P env xs ys h.1 k)

pub covers_alone : {A : Type 0} (P : A → Type 0) (env : List Value) (a : A) → P a → Covers P env (alone a)
covers_alone P env a p = record { some = inl tt; each = (λ _. p, tt) }

-- ---- of one part
some_one : {A B : Type 0} (f : A → B) (env : List Value) (xs : List (Guarded A)) → SomeHolds env xs → SomeHolds env (over_one f xs)
some_one f env [] h = absurd h
some_one f env (x ∷ xs) h = elim h as (λ _. SomeHolds env (over_one f (x ∷ xs))) [ inl p ↦ inl p | inr q ↦ inr (some_one f env xs q) ]

each_one : {A B : Type 0} (P : A → Type 0) (Q : B → Type 0) (f : A → B) (env : List Value) → ((a : A) → P a → Q (f a)) → (xs : List (Guarded A))
    → EachHas P env xs → EachHas Q env (over_one f xs)
each_one P Q f env k [] h = tt
each_one P Q f env k (x ∷ xs) h = (λ g. k x.form (h.0 g), each_one P Q f env k xs h.1)

pub covers_one : {A B : Type 0} (P : A → Type 0) (Q : B → Type 0) (f : A → B) (env : List Value) (xs : List (Guarded A)) → ((a : A) → P a → Q (f a))
    → Covers P env xs → Covers Q env (over_one f xs)
covers_one P Q f env xs k c = record { some = some_one f env xs c.some; each = each_one P Q f env k xs c.each }

-- ---- of two parts
abbrev with_first : {A B C : Type 0} → (A → B → C) → Guarded A → Guarded B → Guarded C
with_first f x y = record { guards = x.guards ++ y.guards; form = f x.form y.form }

some_with : {A B C : Type 0} (f : A → B → C) (env : List Value) (x : Guarded A) (ys : List (Guarded B)) → HoldAll x.guards env → SomeHolds env ys
    → SomeHolds env (map (with_first f x) ys)
some_with f env x [] g h = absurd h
some_with f env x (y ∷ ys) g h =
    elim h as (λ _. SomeHolds env (map (with_first f x) (y ∷ ys)))
    [ inl p ↦ inl (all_joined x.guards y.guards env g p) | inr q ↦ inr (some_with f env x ys g q) ]

each_with : {A B C : Type 0} (P : A → Type 0) (Q : B → Type 0) (R : C → Type 0) (f : A → B → C) (env : List Value)
    → ((a : A) (b : B) → P a → Q b → R (f a b)) → (x : Guarded A) → (HoldAll x.guards env → P x.form) → (ys : List (Guarded B)) → EachHas Q env ys
    → EachHas R env (map (with_first f x) ys)
each_with P Q R f env k x first [] h = tt
each_with P Q R f env k x first (y ∷ ys) h =
    (λ g. let p = all_apart x.guards y.guards env g in k x.form y.form (first p.0) (h.0 p.1), each_with P Q R f env k x first ys h.1)

some_two : {A B C : Type 0} (f : A → B → C) (env : List Value) (xs : List (Guarded A)) (ys : List (Guarded B)) → SomeHolds env xs → SomeHolds env ys
    → SomeHolds env (over_two f xs ys)
some_two f env [] ys h k = absurd h
some_two f env (x ∷ xs) ys h k =
    elim h as (λ _. SomeHolds env (over_two f (x ∷ xs) ys)) [
      | inl p ↦ some_left env (map (with_first f x) ys) (over_two f xs ys) (some_with f env x ys p k)
      | inr q ↦ some_right env (map (with_first f x) ys) (over_two f xs ys) (some_two f env xs ys q k)
    ]

each_two : {A B C : Type 0} (P : A → Type 0) (Q : B → Type 0) (R : C → Type 0) (f : A → B → C) (env : List Value)
    → ((a : A) (b : B) → P a → Q b → R (f a b)) → (xs : List (Guarded A)) (ys : List (Guarded B)) → EachHas P env xs → EachHas Q env ys
    → EachHas R env (over_two f xs ys)
each_two P Q R f env k [] ys h l = tt
each_two P Q R f env k (x ∷ xs) ys h l =
    each_joined R env (map (with_first f x) ys) (over_two f xs ys) (each_with P Q R f env k x h.0 ys l) (each_two P Q R f env k xs ys h.1 l)

pub covers_two : {A B C : Type 0} (P : A → Type 0) (Q : B → Type 0) (R : C → Type 0) (f : A → B → C) (env : List Value)
    (xs : List (Guarded A)) (ys : List (Guarded B)) → ((a : A) (b : B) → P a → Q b → R (f a b)) → Covers P env xs → Covers Q env ys
    → Covers R env (over_two f xs ys)
covers_two P Q R f env xs ys k c d =
    record { some = some_two f env xs ys c.some d.some; each = each_two P Q R f env k xs ys c.each d.each }

-- ---- of an `if`
some_behind : {A : Type 0} (env : List Value) (r : RelTree) (xs : List (Guarded A)) → Holds r env → SomeHolds env xs → SomeHolds env (behind r xs)
some_behind env r [] g h = absurd h
some_behind env r (x ∷ xs) g h =
    elim h as (λ _. SomeHolds env (behind r (x ∷ xs))) [ inl p ↦ inl (g, p) | inr q ↦ inr (some_behind env r xs g q) ]

each_behind : {A : Type 0} (P Q : A → Type 0) (env : List Value) (r : RelTree) (xs : List (Guarded A)) → (Holds r env → (a : A) → P a → Q a)
    → EachHas P env xs → EachHas Q env (behind r xs)
each_behind P Q env r [] k h = tt
each_behind P Q env r (x ∷ xs) k h = (λ g. k g.0 x.form (h.0 g.1), each_behind P Q env r xs k h.1)

pub covers_ways : {A : Type 0} (P Q R : A → Type 0) (env : List Value) (r s : RelTree) (t : Bool) (xs ys : List (Guarded A)) → Says (Holds r env) t
    → Says (Holds s env) (not t) → (t ≡ true → (a : A) → P a → R a) → (t ≡ false → (a : A) → Q a → R a) → Covers P env xs → Covers Q env ys
    → Covers R env (behind r xs ++ behind s ys)
covers_ways P Q R env r s true xs ys g h k l c d =
    record {
      some = some_left env (behind r xs) (behind s ys) (some_behind env r xs g c.some);
      each = each_joined R env (behind r xs) (behind s ys) (each_behind P R env r xs (λ _. k refl) c.each)
          (each_behind Q R env s ys (λ f. absurd (h f)) d.each);
    }
covers_ways P Q R env r s false xs ys g h k l c d =
    record {
      some = some_right env (behind r xs) (behind s ys) (some_behind env s ys h d.some);
      each = each_joined R env (behind r xs) (behind s ys) (each_behind P R env r xs (λ f. absurd (g f)) c.each)
          (each_behind Q R env s ys (λ _. l refl) d.each);
    }

-- ---- the least or greatest of some numbers
-- which of two numbers is the better, by the orders of its guards
pub record IsBetterBy (first other : Order) (better : ℤ → ℤ → ℤ) : Type 0 where
  pub one : (v w : ℤ) → Compares first v w ⊎ Compares other v w
  pub at_first : (v w : ℤ) → Compares first v w → better v w ≡ v
  pub at_other : (v w : ℤ) → Compares other v w → better v w ≡ w
  pub assoc : (u v w : ℤ) → better u (better v w) ≡ better (better u v) w

pub least_is : IsBetterBy Le Gt int_min
least_is = record {
  one = λ v w. grind (arith, ints);
  at_first = λ v w h. omega (arith, ints, clamps);
  at_other = λ v w h. omega (arith, ints, clamps);
  assoc = λ u v w. omega (arith, ints, clamps);
}

pub greatest_is : IsBetterBy Ge Lt int_max
greatest_is = record {
  one = λ v w. grind (arith, ints);
  at_first = λ v w h. omega (arith, ints, clamps);
  at_other = λ v w h. omega (arith, ints, clamps);
  assoc = λ u v w. omega (arith, ints, clamps);
}

-- a number form has this value
abbrev pub Is : List Value → ℤ → TermTree → Type 0
Is env z t = val t env ≡ z

module _ (first other : Order) (better : ℤ → ℤ → ℤ) (by : IsBetterBy first other better) (env : List Value) where
  some_of_two : (v w : ℤ) (x y : Guarded TermTree) → HoldAll x.guards env → HoldAll y.guards env → val x.form env ≡ v → val y.form env ≡ w
      → SomeHolds env (one_of first other x y)
  some_of_two v w x y g h e f =
      let both = all_joined x.guards y.guards env g h in
      elim (by.one (val x.form env) (val y.form env)) as (λ _. SomeHolds env (one_of first other x y)) [
        | inl p ↦ inl (all_joined (x.guards ++ y.guards) (rel_compare first x.form y.form ∷ []) env both (p, tt))
        | inr q ↦ inr (inl (all_joined (x.guards ++ y.guards) (rel_compare other x.form y.form ∷ []) env both (q, tt)))
      ]

  each_of_two : (v w : ℤ) (x y : Guarded TermTree) → (HoldAll x.guards env → val x.form env ≡ v) → (HoldAll y.guards env → val y.form env ≡ w)
      → EachHas (Is env (better v w)) env (one_of first other x y)
  each_of_two v w x y e f = (
    (λ g.
        let p = all_apart (x.guards ++ y.guards) (rel_compare first x.form y.form ∷ []) env g in
        let q = all_apart x.guards y.guards env p.0 in
        let a = e q.0 in let b = f q.1 in
        rw (← a, ← b) (sym (by.at_first (val x.form env) (val y.form env) p.1.0))),
    (
      (λ g.
          let p = all_apart (x.guards ++ y.guards) (rel_compare other x.form y.form ∷ []) env g in
          let q = all_apart x.guards y.guards env p.0 in
          let a = e q.0 in let b = f q.1 in
          rw (← a, ← b) (sym (by.at_other (val x.form env) (val y.form env) p.1.0))),
      tt,
    ),
  )

  some_of_each : (v w : ℤ) (x : Guarded TermTree) (ys : List (Guarded TermTree)) → HoldAll x.guards env → val x.form env ≡ v → EachHas (Is env w) env ys
      → SomeHolds env ys → SomeHolds env (one_of_each first other x ys)
  some_of_each v w x [] g e f h = absurd h
  some_of_each v w x (y ∷ ys) g e f h =
      elim h as (λ _. SomeHolds env (one_of_each first other x (y ∷ ys))) [
        | inl p ↦ some_left env (one_of first other x y) (one_of_each first other x ys) (some_of_two v w x y g p e (f.0 p))
        | inr q ↦ some_right env (one_of first other x y) (one_of_each first other x ys) (some_of_each v w x ys g e f.1 q)
      ]

  each_of_each : (v w : ℤ) (x : Guarded TermTree) (ys : List (Guarded TermTree)) → (HoldAll x.guards env → val x.form env ≡ v) → EachHas (Is env w) env ys
      → EachHas (Is env (better v w)) env (one_of_each first other x ys)
  each_of_each v w x [] e f = tt
  each_of_each v w x (y ∷ ys) e f =
      each_joined (Is env (better v w)) env (one_of first other x y) (one_of_each first other x ys) (each_of_two v w x y e f.0)
      (each_of_each v w x ys e f.1)

  some_of_best : (v w : ℤ) (xs ys : List (Guarded TermTree)) → EachHas (Is env v) env xs → EachHas (Is env w) env ys → SomeHolds env xs → SomeHolds env ys
      → SomeHolds env (best_of_two first other xs ys)
  some_of_best v w [] ys e f h k = absurd h
  some_of_best v w (x ∷ xs) ys e f h k =
      elim h as (λ _. SomeHolds env (best_of_two first other (x ∷ xs) ys)) [
        | inl p ↦ some_left env (one_of_each first other x ys) (best_of_two first other xs ys) (some_of_each v w x ys p (e.0 p) f k)
        | inr q ↦ some_right env (one_of_each first other x ys) (best_of_two first other xs ys) (some_of_best v w xs ys e.1 f q k)
      ]

  each_of_best : (v w : ℤ) (xs ys : List (Guarded TermTree)) → EachHas (Is env v) env xs → EachHas (Is env w) env ys
      → EachHas (Is env (better v w)) env (best_of_two first other xs ys)
  each_of_best v w [] ys e f = tt
  each_of_best v w (x ∷ xs) ys e f =
      each_joined (Is env (better v w)) env (one_of_each first other x ys) (best_of_two first other xs ys) (each_of_each v w x ys e.0 f)
      (each_of_best v w xs ys e.1 f)

  covers_best_two : (v w : ℤ) (xs ys : List (Guarded TermTree)) → Covers (Is env v) env xs → Covers (Is env w) env ys
      → Covers (Is env (better v w)) env (best_of_two first other xs ys)
  covers_best_two v w xs ys c d =
      record { some = some_of_best v w xs ys c.each d.each c.some d.some; each = each_of_best v w xs ys c.each d.each }

-- each of some number forms is covered, with its value
abbrev pub AllCover : List Value → List ℤ → List (List (Guarded TermTree)) → Type 0
AllCover env [] [] = Unit {0}
AllCover env [] (xs ∷ more) = ⊥
AllCover env (z ∷ zs) [] = ⊥
AllCover env (z ∷ zs) (xs ∷ more) = Covers (Is env z) env xs × AllCover env zs more

-- the best of a number and of those behind it, from the left
best_from : (ℤ → ℤ → ℤ) → ℤ → List ℤ → ℤ
best_from better v [] = v
best_from better v (w ∷ ws) = best_from better (better v w) ws

best_of_first : (first other : Order) (better : ℤ → ℤ → ℤ) → IsBetterBy first other better → (u v : ℤ) (ws : List ℤ)
    → better u (best_from better v ws) ≡ best_from better (better u v) ws
unfolding best_from
best_of_first first other better by u v [] = refl
best_of_first first other better by u v (w ∷ ws) =
    best_of_first first other better by u (better v w) ws ∙ ap (λ z. best_from better z ws) (by.assoc u v w)

best_is : (first other : Order) (better : ℤ → ℤ → ℤ) → IsBetterBy first other better → (v : ℤ) (ws : List ℤ)
    → best_number better (v ∷ ws) ≡ best_from better v ws
unfolding best_from
best_is first other better by v [] = refl
best_is first other better by v (w ∷ ws) =
    ap (better v) (best_is first other better by w ws) ∙ best_of_first first other better by v w ws

covers_behind : (first other : Order) (better : ℤ → ℤ → ℤ) → IsBetterBy first other better → (env : List Value) (v : ℤ) (ws : List ℤ)
    (xs : List (Guarded TermTree)) (more : List (List (Guarded TermTree))) → Covers (Is env v) env xs → AllCover env ws more
    → Covers (Is env (best_from better v ws)) env (best_behind first other xs more)
unfolding best_from
covers_behind first other better by env v [] xs [] c h = c
covers_behind first other better by env v [] xs (ys ∷ more) c h = absurd h
covers_behind first other better by env v (w ∷ ws) xs [] c h = absurd h
covers_behind first other better by env v (w ∷ ws) xs (ys ∷ more) c h =
    covers_behind first other better by env (better v w) ws (best_of_two first other xs ys) more
    (covers_best_two first other better by env v w xs ys c h.0) h.1

pub covers_best : (first other : Order) (better : ℤ → ℤ → ℤ) → IsBetterBy first other better → (env : List Value) (v : ℤ) (ws : List ℤ)
    (parts : List (List (Guarded TermTree))) → AllCover env (v ∷ ws) parts → Covers (Is env (best_number better (v ∷ ws))) env (best_of first other parts)
covers_best first other better by env v ws [] h = absurd h
covers_best first other better by env v ws (xs ∷ more) h =
    subst (λ z. Covers (Is env z) env (best_behind first other xs more)) (sym (best_is first other better by v ws))
    (covers_behind first other better by env v ws xs more h.0 h.1)

-- ---- atoms
abbrev pub AtomSays : List Value → Bool → RelTree → Type 0
AtomSays env b r = Says (Holds r env) b

abbrev atoms : (RelTree → RelTree) → List (Guarded RelTree) → List RelTree
atoms last xs = map (λ x. all_of (x.guards ++ last x.form ∷ [])) xs

some_atom_holds : (last : RelTree → RelTree) (env : List Value) (b : Bool) (xs : List (Guarded RelTree))
    → ((r : RelTree) → AtomSays env b r → Holds (last r) env) → SomeHolds env xs → EachHas (AtomSays env b) env xs → HoldSome (atoms last xs) env
some_atom_holds last env b [] k h e = absurd h
some_atom_holds last env b (x ∷ xs) k h e =
    elim h as (λ _. HoldSome (atoms last (x ∷ xs)) env) [
      | inl p ↦ inl ((all_holds (x.guards ++ last x.form ∷ []) env).1 (all_joined x.guards (last x.form ∷ []) env p (k x.form (e.0 p), tt)))
      | inr q ↦ inr (some_atom_holds last env b xs k q e.1)
    ]

no_atom_holds : (last : RelTree → RelTree) (env : List Value) (b : Bool) (xs : List (Guarded RelTree))
    → ((r : RelTree) → AtomSays env b r → Holds (last r) env → ⊥) → EachHas (AtomSays env b) env xs → HoldSome (atoms last xs) env → ⊥
no_atom_holds last env b [] k e h = h
no_atom_holds last env b (x ∷ xs) k e h =
    elim h [
      | inl p ↦ (
          let q = all_apart x.guards (last x.form ∷ []) env ((all_holds (x.guards ++ last x.form ∷ []) env).0 p) in
          k x.form (e.0 q.0) q.1.0)
      | inr q ↦ no_atom_holds last env b xs k e.1 q
    ]

pub some_atom_says : (last : RelTree → RelTree) (env : List Value) (b c : Bool) (xs : List (Guarded RelTree))
    → ((r : RelTree) → AtomSays env b r → AtomSays env c (last r)) → Covers (AtomSays env b) env xs → AtomSays env c (some_atom last xs)
some_atom_says last env b true xs k d = (some_holds (atoms last xs) env).1 (some_atom_holds last env b xs k d.some d.each)
some_atom_says last env b false xs k d = λ h. no_atom_holds last env b xs k d.each ((some_holds (atoms last xs) env).0 h)

-- the atom as it stands, and its negation
pub atom_says : (env : List Value) (b : Bool) (xs : List (Guarded RelTree)) → Covers (AtomSays env b) env xs → AtomSays env b (some_atom itself xs)
atom_says env b xs d = some_atom_says itself env b b xs (λ r h. h) d

pub not_atom_says : (env : List Value) (b : Bool) (xs : List (Guarded RelTree)) → Covers (AtomSays env b) env xs
    → AtomSays env (not b) (some_atom rel_not xs)
not_atom_says env b xs d = some_atom_says rel_not env b (not b) xs (λ r h. says_not (Holds r env) b h) d

pub covers_compared : (env : List Value) (o : Order) (v w : ℤ) (xs ys : List (Guarded TermTree)) → Covers (Is env v) env xs → Covers (Is env w) env ys
    → Covers (AtomSays env (compared o (number v) (number w))) env (over_two (rel_compare o) xs ys)
covers_compared env o v w xs ys c d =
    covers_two (Is env v) (Is env w) (AtomSays env (compared o (number v) (number w))) (rel_compare o) env xs ys
    (λ a b e f. rw (← e, ← f) (compares_says o (val a env) (val b env))) c d

-- ---- chains
pub all_links_say : (env : List Value) (orders : List Order) (zs : List ℤ) (parts : List (List (Guarded TermTree))) → AllCover env zs parts
    → Says (HoldAll (links itself orders parts) env) (chained orders (map number zs))
all_links_say env [] zs parts h = tt
all_links_say env (o ∷ orders) [] [] h = tt
all_links_say env (o ∷ orders) [] (xs ∷ parts) h = absurd h
all_links_say env (o ∷ orders) (z ∷ zs) [] h = absurd h
all_links_say env (o ∷ orders) (z ∷ []) (xs ∷ []) h = tt
all_links_say env (o ∷ orders) (z ∷ []) (xs ∷ ys ∷ parts) h = absurd h.1
all_links_say env (o ∷ orders) (z ∷ w ∷ zs) (xs ∷ []) h = absurd h.1
all_links_say env (o ∷ orders) (z ∷ w ∷ zs) (xs ∷ ys ∷ parts) h =
    says_and _ _ (compared o (number z) (number w)) (chained orders (map number (w ∷ zs)))
    (atom_says env (compared o (number z) (number w)) (over_two (rel_compare o) xs ys) (covers_compared env o z w xs ys h.0 h.1.0))
    (all_links_say env orders (w ∷ zs) (ys ∷ parts) h.1)

pub some_links_say : (env : List Value) (orders : List Order) (zs : List ℤ) (parts : List (List (Guarded TermTree))) → AllCover env zs parts
    → Says (HoldSome (links rel_not orders parts) env) (not (chained orders (map number zs)))
some_links_say env [] zs parts h = λ x. x
some_links_say env (o ∷ orders) [] [] h = λ x. x
some_links_say env (o ∷ orders) [] (xs ∷ parts) h = absurd h
some_links_say env (o ∷ orders) (z ∷ zs) [] h = absurd h
some_links_say env (o ∷ orders) (z ∷ []) (xs ∷ []) h = λ x. x
some_links_say env (o ∷ orders) (z ∷ []) (xs ∷ ys ∷ parts) h = absurd h.1
some_links_say env (o ∷ orders) (z ∷ w ∷ zs) (xs ∷ []) h = absurd h.1
some_links_say env (o ∷ orders) (z ∷ w ∷ zs) (xs ∷ ys ∷ parts) h =
    says_same _ _ _ (not_and (compared o (number z) (number w)) (chained orders (map number (w ∷ zs)))) (
    says_or _ _ (not (compared o (number z) (number w))) (not (chained orders (map number (w ∷ zs))))
    (not_atom_says env (compared o (number z) (number w)) (over_two (rel_compare o) xs ys) (covers_compared env o z w xs ys h.0 h.1.0))
    (some_links_say env orders (w ∷ zs) (ys ∷ parts) h.1))
