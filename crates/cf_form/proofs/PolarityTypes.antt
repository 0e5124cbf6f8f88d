-- What a typed and linear wide relation is in a branch is typed and linear.
use Rattle.std.proofs.Common.{◌≡◌, ℕ, Bool, true, false, ◌&&◌, ◌||◌, Option, Some, None, List, [], ◌∷◌, ◌++◌, map, slice_get, refl, ◌∙◌, arith}
use Rattle.std.proofs.lemmas.Int.{ints}
use Rattle.std.specs.List.{AllByRecursion}
use Rattle.std.specs.Prelude.{IsTrue}
use Rattle.cf_tree.specs.declared.base.Base.{Base}
use Rattle.cf_tree.specs.declared.base.Base.TheVariants.{Int}
use Rattle.cf_tree.specs.declared.base.Order.{Order}
use Rattle.cf_tree.specs.declared.base.Order.TheVariants.{Lt, Le, Gt, Ge}
use Rattle.cf_tree.specs.Relation.{IsTypedSet, IsTypedTerm, IsTyped}
use Rattle.cf_tree.specs.RelTree.{empty_set, set_var, union_of, inter_of, diff_of, TermTree, term_lit, term_var, term_card, term_neg, term_add, term_sub, term_mul, term_div, term_mod, term_abs, RelTree, rel_true, rel_false, rel_compare, rel_same_set, rel_other_set, rel_subset, rel_divides, rel_and, rel_or, rel_not}
use Rattle.cf_program.specs.LateLinear.{is_fixed_below, IsLateLinearTerm, IsLateLinear}
use Rattle.cf_form.specs.Alternatives.{Guarded, alone, over_one, over_two, behind, one_of_each, best_of_two, best_behind, best_of, all_of, some_of, some_atom, links}
use Rattle.cf_form.specs.LinearWide.{is_held_below, are_held_below, IsLinearWideTerm, AreLinearWideTerms, IsLinearWideSet, IsLinearWide}
use Rattle.cf_form.specs.Polarity.{Truths, truth_holds, truth_fails, not_or, two_ways, itself, set_alternatives, alternatives, all_alternatives, holding, failing}
use Rattle.cf_form.specs.Wide.{WideTerm, wide_lit, wide_var, wide_card, wide_neg, wide_add, wide_sub, wide_mul, wide_div, wide_mod, wide_abs, wide_if, wide_min, wide_max, WideTerms, no_wides, wide_more, WideSet, wide_empty, wide_set, wide_union, wide_inter, wide_diff, wide_if_set, WideRel, wide_true, wide_false, wide_truth, wide_compare, wide_same_set, wide_other_set, wide_subset, wide_divides, wide_not, wide_and, wide_or, wide_implies, wide_same, wide_other, wide_if_truth, wide_chain, is_plain}
use Rattle.cf_form.proofs.Halves.{halves_hold}
use Rattle.cf_form.proofs.Lists.{rec_left, rec_right, rec_append}
use Rattle.cf_form.proofs.WideTypes.{IsWideTerm, AreWideTerms, IsWideSet, IsWideRel}

module _ (scope : List Base) (n : ℕ) where
  -- typed, and linear where n variables are known
  abbrev pub IsFine : RelTree → Type 0
  IsFine r = IsTyped scope r × IsLateLinear n r

  -- the same, and fixed where that is asked
  abbrev pub IsFineTerm : Bool → TermTree → Type 0
  IsFineTerm held t = IsTypedTerm scope t × IsLateLinearTerm n t × (held ≡ true → is_fixed_below n t ≡ true)

  -- alternatives with fine guards, and forms of which P holds
  abbrev AreFine : {A : Type 0} → (A → Type 0) → List (Guarded A) → Type 0
  AreFine P xs = AllByRecursion (λ x. AllByRecursion IsFine x.guards × P x.form) xs

  alone_fine : {A : Type 0} (P : A → Type 0) (a : A) → P a → AreFine P (alone a)
  alone_fine P a h = ((tt, h), tt)

  weaker : {A : Type 0} (P Q : A → Type 0) → ((a : A) → P a → Q a) → (xs : List (Guarded A)) → AreFine P xs → AreFine Q xs
  weaker P Q f [] h = tt
  weaker P Q f (x ∷ xs) h = ((h.0.0, f x.form h.0.1), weaker P Q f xs h.1)

  over_one_fine : {A B : Type 0} (P : A → Type 0) (Q : B → Type 0) (f : A → B) → ((a : A) → P a → Q (f a)) → (xs : List (Guarded A)) → AreFine P xs →
      AreFine Q (over_one f xs)
  over_one_fine P Q f k [] h = tt
  over_one_fine P Q f k (x ∷ xs) h = ((h.0.0, k x.form h.0.1), over_one_fine P Q f k xs h.1)

  with_each : {A B C : Type 0} (P : A → Type 0) (Q : B → Type 0) (R : C → Type 0) (f : A → B → C) → ((a : A) (b : B) → P a → Q b → R (f a b)) →
      (x : Guarded A) → AllByRecursion IsFine x.guards → P x.form → (ys : List (Guarded B)) → AreFine Q ys →
      AreFine R (map (λ y. record { guards = x.guards ++ y.guards; form = f x.form y.form }) ys)
  with_each P Q R f k x g p [] h = tt
  with_each P Q R f k x g p (y ∷ ys) h = ((rec_append IsFine x.guards y.guards g h.0.0, k x.form y.form p h.0.1), with_each P Q R f k x g p ys h.1)

  over_two_fine : {A B C : Type 0} (P : A → Type 0) (Q : B → Type 0) (R : C → Type 0) (f : A → B → C) → ((a : A) (b : B) → P a → Q b → R (f a b)) →
      (xs : List (Guarded A)) → AreFine P xs → (ys : List (Guarded B)) → AreFine Q ys → AreFine R (over_two f xs ys)
  over_two_fine P Q R f k [] h ys j = tt
  over_two_fine P Q R f k (x ∷ xs) h ys j =
      rec_append _ (map (λ y. record { guards = x.guards ++ y.guards; form = f x.form y.form }) ys) (over_two f xs ys)
      (with_each P Q R f k x h.0.0 h.0.1 ys j) (over_two_fine P Q R f k xs h.1 ys j)

  behind_fine : {A : Type 0} (P : A → Type 0) (g : RelTree) → IsFine g → (xs : List (Guarded A)) → AreFine P xs → AreFine P (behind g xs)
  behind_fine P g f [] h = tt
  behind_fine P g f (x ∷ xs) h = (((f, h.0.0), h.0.1), behind_fine P g f xs h.1)

  -- ---- least and greatest
  module _ (held : Bool) (first other : Order) where
    guards_fine : (x y : Guarded TermTree) (o : Order) → AllByRecursion IsFine x.guards → AllByRecursion IsFine y.guards → IsFineTerm held x.form →
        IsFineTerm held y.form → AllByRecursion IsFine (x.guards ++ y.guards ++ rel_compare o x.form y.form ∷ [])
    guards_fine x y o g h p q =
        rec_append IsFine (x.guards ++ y.guards) (rel_compare o x.form y.form ∷ []) (rec_append IsFine x.guards y.guards g h) (((p.0, q.0), (p.1, q.1)), tt)

    each_fine : (x : Guarded TermTree) → AllByRecursion IsFine x.guards → IsFineTerm held x.form → (ys : List (Guarded TermTree)) → AreFine (IsFineTerm held) ys →
        AreFine (IsFineTerm held) (one_of_each first other x ys)
    each_fine x g p [] h = tt
    each_fine x g p (y ∷ ys) h = (
      (guards_fine x y first g h.0.0 p h.0.1, p),
      ((guards_fine x y other g h.0.0 p h.0.1, h.0.1), each_fine x g p ys h.1),
    )

    two_fine : (xs : List (Guarded TermTree)) → AreFine (IsFineTerm held) xs → (ys : List (Guarded TermTree)) → AreFine (IsFineTerm held) ys →
        AreFine (IsFineTerm held) (best_of_two first other xs ys)
    two_fine [] h ys j = tt
    two_fine (x ∷ xs) h ys j =
        rec_append _ (one_of_each first other x ys) (best_of_two first other xs ys) (each_fine x h.0.0 h.0.1 ys j) (two_fine xs h.1 ys j)

    best_behind_fine : (more : List (List (Guarded TermTree))) → AllByRecursion (AreFine (IsFineTerm held)) more → (xs : List (Guarded TermTree)) →
        AreFine (IsFineTerm held) xs → AreFine (IsFineTerm held) (best_behind first other xs more)
    best_behind_fine [] j xs h = h
    best_behind_fine (ys ∷ more) j xs h = best_behind_fine more j.1 (best_of_two first other xs ys) (two_fine xs h ys j.0)

    best_fine : (more : List (List (Guarded TermTree))) → AllByRecursion (AreFine (IsFineTerm held)) more → AreFine (IsFineTerm held) (best_of first other more)
    best_fine [] j = tt
    best_fine (xs ∷ more) j = best_behind_fine more j.1 xs j.0

  -- ---- trees of relations
  pub all_fine : (rs : List RelTree) → AllByRecursion IsFine rs → IsFine (all_of rs)
  all_fine rs h =
      halves_hold rel_and rel_true (λ rs r. AllByRecursion IsFine rs → IsFine r) (λ h. (tt, tt)) (λ r h. h.0)
      (λ ps qs a b f g h. let p = f (rec_left IsFine ps qs h) in let q = g (rec_right IsFine ps qs h) in ((p.0, q.0), (p.1, q.1))) rs h

  some_fine : (rs : List RelTree) → AllByRecursion IsFine rs → IsFine (some_of rs)
  some_fine rs h =
      halves_hold rel_or rel_false (λ rs r. AllByRecursion IsFine rs → IsFine r) (λ h. (tt, tt)) (λ r h. h.0)
      (λ ps qs a b f g h. let p = f (rec_left IsFine ps qs h) in let q = g (rec_right IsFine ps qs h) in ((p.0, q.0), (p.1, q.1))) rs h

  -- an atom at the end stays fine
  abbrev KeepsFine : (RelTree → RelTree) → Type 0
  KeepsFine last = (r : RelTree) → IsFine r → IsFine (last r)

  each_atom : (last : RelTree → RelTree) → KeepsFine last → (xs : List (Guarded RelTree)) → AreFine IsFine xs →
      AllByRecursion IsFine (map (λ x. all_of (x.guards ++ last x.form ∷ [])) xs)
  each_atom last k [] h = tt
  each_atom last k (x ∷ xs) h =
      (all_fine (x.guards ++ last x.form ∷ []) (rec_append IsFine x.guards (last x.form ∷ []) h.0.0 (k x.form h.0.1, tt)), each_atom last k xs h.1)

  atom_fine : (last : RelTree → RelTree) → KeepsFine last → (xs : List (Guarded RelTree)) → AreFine IsFine xs → IsFine (some_atom last xs)
  atom_fine last k xs h = some_fine (map (λ x. all_of (x.guards ++ last x.form ∷ [])) xs) (each_atom last k xs h)

  compare_fine : (held other : Bool) (o : Order) (xs ys : List (Guarded TermTree)) → AreFine (IsFineTerm held) xs → AreFine (IsFineTerm other) ys →
      AreFine IsFine (over_two (rel_compare o) xs ys)
  compare_fine held other o xs ys h j =
      over_two_fine (IsFineTerm held) (IsFineTerm other) IsFine (rel_compare o) (λ a b p q. ((p.0, q.0), (p.1, q.1))) xs h ys j

  links_fine : (held : Bool) (last : RelTree → RelTree) → KeepsFine last → (orders : List Order) (parts : List (List (Guarded TermTree))) →
      AllByRecursion (AreFine (IsFineTerm held)) parts → AllByRecursion IsFine (links last orders parts)
  links_fine held last k [] parts h = tt
  links_fine held last k (o ∷ orders) [] h = tt
  links_fine held last k (o ∷ orders) (xs ∷ []) h = tt
  links_fine held last k (o ∷ orders) (xs ∷ ys ∷ parts) h =
      (atom_fine last k (over_two (rel_compare o) xs ys) (compare_fine held held o xs ys h.0 h.1.0), links_fine held last k orders (ys ∷ parts) h.1)

  and_fixed : (a b c d : Bool) → (a ≡ true → c ≡ true) → (b ≡ true → d ≡ true) → (a && b) ≡ true → (c && d) ≡ true
  and_fixed true b c d f g e = let h = f refl in rw h (g e)
  and_fixed false b c d f g e = cc

  or_fixed : (a b c d : Bool) → (a ≡ true → c ≡ true) → (b ≡ true → d ≡ true) → IsTrue (a || b) → IsTrue (c || d)
  or_fixed true b c d f g e = let h = f refl in rw h refl
  or_fixed false b true d f g e = refl
  or_fixed false b false d f g e = g e

  left_true : (a b : Bool) → (a && b) ≡ true → a ≡ true
  left_true true b e = refl
  left_true false b e = cc

  right_true : (a b : Bool) → (a && b) ≡ true → b ≡ true
  right_true true b e = e
  right_true false b e = cc

  none_true : {A : Type 0} → false ≡ true → A
  none_true e = cc

  held_weaker : (held less : Bool) → (less ≡ true → held ≡ true) → (t : TermTree) → IsFineTerm held t → IsFineTerm less t
  held_weaker held less f t h = (h.0, h.1, λ e. h.2 (f e))

  both_terms : (a b : Bool) (join : TermTree → TermTree → TermTree) →
      ((s t : TermTree) → IsTypedTerm scope s → IsTypedTerm scope t → IsTypedTerm scope (join s t)) →
      ((s t : TermTree) → IsLateLinearTerm n s → IsLateLinearTerm n t → IsLateLinearTerm n (join s t)) →
      ((s t : TermTree) → is_fixed_below n (join s t) ≡ (is_fixed_below n s && is_fixed_below n t)) → (s t : TermTree) → IsFineTerm a s → IsFineTerm b t →
      IsFineTerm (a && b) (join s t)
  both_terms a b join f g k s t p q =
      (f s t p.0 q.0, g s t p.1 q.1, λ e. k s t ∙ and_fixed a b (is_fixed_below n s) (is_fixed_below n t) p.2 q.2 e)

  times_fine : (a b : Bool) → IsTrue (a || b) → (s t : TermTree) → IsFineTerm a s → IsFineTerm b t → IsFineTerm (a && b) (term_mul s t)
  times_fine a b l s t p q = (
    (p.0, q.0),
    (p.1, q.1, or_fixed a b (is_fixed_below n s) (is_fixed_below n t) p.2 q.2 l),
    λ e. and_fixed a b (is_fixed_below n s) (is_fixed_below n t) p.2 q.2 e,
  )

  not_or_fine : (plain : Bool) (holds by_parts : RelTree) → IsFine holds → IsFine by_parts → IsFine (not_or plain holds by_parts)
  not_or_fine true holds by_parts h k = h
  not_or_fine false holds by_parts h k = k

  either_fine : (a b c d : RelTree) → IsFine a → IsFine b → IsFine c → IsFine d → IsFine (two_ways a b c d)
  either_fine a b c d h i j k = (((h.0, i.0), (j.0, k.0)), ((h.1, i.1), (j.1, k.1)))

  join_fine : (a b : RelTree) → IsFine a → IsFine b → IsFine (rel_or a b)
  join_fine a b h i = ((h.0, i.0), (h.1, i.1))

  meet_fine : (a b : RelTree) → IsFine a → IsFine b → IsFine (rel_and a b)
  meet_fine a b h i = ((h.0, i.0), (h.1, i.1))

  module _ (truths : Truths) where
    -- a truth variable has a value, or is a number
    abbrev pub IsKnown : ℕ → Type 0
    IsKnown x = truths x ≡ None → slice_get scope x ≡ Some Int

    truth_fine : (v : Option Bool) (x : ℕ) → (v ≡ None → slice_get scope x ≡ Some Int) → IsFine (truth_holds v x) × IsFine (truth_fails v x)
    truth_fine (Some true) x h = ((tt, tt), (tt, tt))
    truth_fine (Some false) x h = ((tt, tt), (tt, tt))
    truth_fine None x h = (((h refl, omega (arith, ints)), (tt, tt)), ((h refl, omega (arith, ints)), (tt, tt)))

    mutual
      sets_fine : (s : WideSet) → IsWideSet IsKnown scope s → IsLinearWideSet n s → AreFine (IsTypedSet scope) (set_alternatives truths s)
      sets_fine wide_empty h l = alone_fine (IsTypedSet scope) empty_set tt
      sets_fine (wide_set x) h l = alone_fine (IsTypedSet scope) (set_var x) h
      sets_fine (wide_union a b) h l =
          over_two_fine (IsTypedSet scope) (IsTypedSet scope) (IsTypedSet scope) union_of (λ s t p q. (p, q)) (set_alternatives truths a) (sets_fine a h.0 l.0) (set_alternatives truths b) (sets_fine b h.1 l.1)
      sets_fine (wide_inter a b) h l =
          over_two_fine (IsTypedSet scope) (IsTypedSet scope) (IsTypedSet scope) inter_of (λ s t p q. (p, q)) (set_alternatives truths a) (sets_fine a h.0 l.0) (set_alternatives truths b) (sets_fine b h.1 l.1)
      sets_fine (wide_diff a b) h l =
          over_two_fine (IsTypedSet scope) (IsTypedSet scope) (IsTypedSet scope) diff_of (λ s t p q. (p, q)) (set_alternatives truths a) (sets_fine a h.0 l.0) (set_alternatives truths b) (sets_fine b h.1 l.1)
      sets_fine (wide_if_set c a b) h l =
          let t = fine c h.0 l.0 in
          rec_append _ (behind (holding truths c) (set_alternatives truths a)) (behind (failing truths c) (set_alternatives truths b))
          (behind_fine (IsTypedSet scope) (holding truths c) t.0 (set_alternatives truths a) (sets_fine a h.1 l.1))
          (behind_fine (IsTypedSet scope) (failing truths c) t.1 (set_alternatives truths b) (sets_fine b h.2 l.2))

      terms_fine : (t : WideTerm) → IsWideTerm IsKnown scope t → IsLinearWideTerm n t → AreFine (IsFineTerm (is_held_below n t)) (alternatives truths t)
      terms_fine (wide_lit k) h l = alone_fine (IsFineTerm true) (term_lit k) (h, tt, λ e. refl)
      terms_fine (wide_var x) h l = alone_fine (IsFineTerm (is_held_below n (wide_var x))) (term_var x) (h, tt, λ e. e)
      terms_fine (wide_card s) h l = over_one_fine (IsTypedSet scope) (IsFineTerm false) term_card (λ s p. (p, tt, λ e. none_true e)) (set_alternatives truths s) (sets_fine s h l)
      terms_fine (wide_neg a) h l =
          over_one_fine (IsFineTerm (is_held_below n a)) (IsFineTerm (is_held_below n a)) term_neg (λ t p. p) (alternatives truths a) (terms_fine a h l)
      terms_fine (wide_add a b) h l =
          over_two_fine (IsFineTerm (is_held_below n a)) (IsFineTerm (is_held_below n b)) (IsFineTerm (is_held_below n a && is_held_below n b)) term_add
          (both_terms (is_held_below n a) (is_held_below n b) term_add (λ s t p q. (p, q)) (λ s t p q. (p, q)) (λ s t. refl)) (alternatives truths a) (terms_fine a h.0 l.0) (alternatives truths b)
          (terms_fine b h.1 l.1)
      terms_fine (wide_sub a b) h l =
          over_two_fine (IsFineTerm (is_held_below n a)) (IsFineTerm (is_held_below n b)) (IsFineTerm (is_held_below n a && is_held_below n b)) term_sub
          (both_terms (is_held_below n a) (is_held_below n b) term_sub (λ s t p q. (p, q)) (λ s t p q. (p, q)) (λ s t. refl)) (alternatives truths a) (terms_fine a h.0 l.0) (alternatives truths b)
          (terms_fine b h.1 l.1)
      terms_fine (wide_mul a b) h l =
          over_two_fine (IsFineTerm (is_held_below n a)) (IsFineTerm (is_held_below n b)) (IsFineTerm (is_held_below n a && is_held_below n b)) term_mul
          (times_fine (is_held_below n a) (is_held_below n b) l.2) (alternatives truths a) (terms_fine a h.0 l.0) (alternatives truths b) (terms_fine b h.1 l.1)
      terms_fine (wide_div a k) h l =
          over_one_fine (IsFineTerm (is_held_below n a)) (IsFineTerm false) (λ t. term_div t k) (λ t p. ((p.0, h.1), p.1, λ e. none_true e)) (alternatives truths a) (terms_fine a h.0 l)
      terms_fine (wide_mod a k) h l =
          over_one_fine (IsFineTerm (is_held_below n a)) (IsFineTerm false) (λ t. term_mod t k) (λ t p. ((p.0, h.1), p.1, λ e. none_true e)) (alternatives truths a) (terms_fine a h.0 l)
      terms_fine (wide_abs a) h l =
          over_one_fine (IsFineTerm (is_held_below n a)) (IsFineTerm (is_held_below n a)) term_abs (λ t p. p) (alternatives truths a) (terms_fine a h l)
      terms_fine (wide_if c a b) h l =
          let t = fine c h.0 l.0 in
          let both = is_held_below n a && is_held_below n b in
          rec_append _ (behind (holding truths c) (alternatives truths a)) (behind (failing truths c) (alternatives truths b))
          (behind_fine (IsFineTerm both) (holding truths c) t.0 (alternatives truths a)
          (weaker (IsFineTerm (is_held_below n a)) (IsFineTerm both) (held_weaker (is_held_below n a) both (left_true (is_held_below n a) (is_held_below n b))) (alternatives truths a)
          (terms_fine a h.1 l.1)))
          (behind_fine (IsFineTerm both) (failing truths c) t.1 (alternatives truths b)
          (weaker (IsFineTerm (is_held_below n b)) (IsFineTerm both) (held_weaker (is_held_below n b) both (right_true (is_held_below n a) (is_held_below n b))) (alternatives truths b)
          (terms_fine b h.2 l.2)))
      terms_fine (wide_min ts) h l = best_fine (are_held_below n ts) Le Gt (all_alternatives truths ts) (all_terms_fine ts h l (are_held_below n ts) (λ e. e))
      terms_fine (wide_max ts) h l = best_fine (are_held_below n ts) Ge Lt (all_alternatives truths ts) (all_terms_fine ts h l (are_held_below n ts) (λ e. e))

      all_terms_fine : (ts : WideTerms) → AreWideTerms IsKnown scope ts → AreLinearWideTerms n ts → (held : Bool) → (held ≡ true → are_held_below n ts ≡ true) →
          AllByRecursion (AreFine (IsFineTerm held)) (all_alternatives truths ts)
      all_terms_fine no_wides h l held f = tt
      all_terms_fine (wide_more t ts) h l held f = (
        weaker (IsFineTerm (is_held_below n t)) (IsFineTerm held)
            (held_weaker (is_held_below n t) held (λ e. left_true (is_held_below n t) (are_held_below n ts) (f e))) (alternatives truths t) (terms_fine t h.0 l.0),
        all_terms_fine ts h.1 l.1 held (λ e. right_true (is_held_below n t) (are_held_below n ts) (f e)),
      )

      -- a relation and its negation
      pub fine : (r : WideRel) → IsWideRel IsKnown scope r → IsLinearWide n r → IsFine (holding truths r) × IsFine (failing truths r)
      fine wide_true h l = ((tt, tt), (tt, tt))
      fine wide_false h l = ((tt, tt), (tt, tt))
      fine (wide_truth x) h l = truth_fine (truths x) x h
      fine (wide_compare o a b) h l =
          let xs = compare_fine (is_held_below n a) (is_held_below n b) o (alternatives truths a) (alternatives truths b) (terms_fine a h.0 l.0) (terms_fine b h.1 l.1) in
          (atom_fine itself (λ r p. p) (over_two (rel_compare o) (alternatives truths a) (alternatives truths b)) xs, atom_fine rel_not (λ r p. p) (over_two (rel_compare o) (alternatives truths a) (alternatives truths b)) xs)
      fine (wide_same_set a b) h l =
          let xs = over_two_fine (IsTypedSet scope) (IsTypedSet scope) IsFine rel_same_set (λ s t p q. ((p, q), tt)) (set_alternatives truths a) (sets_fine a h.0 l.0) (set_alternatives truths b) (sets_fine b h.1 l.1) in
          (atom_fine itself (λ r p. p) (over_two rel_same_set (set_alternatives truths a) (set_alternatives truths b)) xs, atom_fine rel_not (λ r p. p) (over_two rel_same_set (set_alternatives truths a) (set_alternatives truths b)) xs)
      fine (wide_other_set a b) h l =
          let xs = over_two_fine (IsTypedSet scope) (IsTypedSet scope) IsFine rel_other_set (λ s t p q. ((p, q), tt)) (set_alternatives truths a) (sets_fine a h.0 l.0) (set_alternatives truths b) (sets_fine b h.1 l.1) in
          (atom_fine itself (λ r p. p) (over_two rel_other_set (set_alternatives truths a) (set_alternatives truths b)) xs, atom_fine rel_not (λ r p. p) (over_two rel_other_set (set_alternatives truths a) (set_alternatives truths b)) xs)
      fine (wide_subset a b) h l =
          let xs = over_two_fine (IsTypedSet scope) (IsTypedSet scope) IsFine rel_subset (λ s t p q. ((p, q), tt)) (set_alternatives truths a) (sets_fine a h.0 l.0) (set_alternatives truths b) (sets_fine b h.1 l.1) in
          (atom_fine itself (λ r p. p) (over_two rel_subset (set_alternatives truths a) (set_alternatives truths b)) xs, atom_fine rel_not (λ r p. p) (over_two rel_subset (set_alternatives truths a) (set_alternatives truths b)) xs)
      fine (wide_divides k t) h l =
          let xs = over_one_fine (IsFineTerm (is_held_below n t)) IsFine (rel_divides k) (λ s p. ((h.0, p.0), p.1)) (alternatives truths t) (terms_fine t h.1 l) in
          (atom_fine itself (λ r p. p) (over_one (rel_divides k) (alternatives truths t)) xs, atom_fine rel_not (λ r p. p) (over_one (rel_divides k) (alternatives truths t)) xs)
      fine (wide_not p) h l =
          let a = fine p h l in (a.1, not_or_fine (is_plain p) (failing truths p) (holding truths p) a.1 a.0)
      fine (wide_and p q) h l =
          let a = fine p h.0 l.0 in
          let b = fine q h.1 l.1 in (meet_fine (holding truths p) (holding truths q) a.0 b.0, not_or_fine (is_plain p && is_plain q) (rel_and (holding truths p) (holding truths q)) (rel_or (failing truths p) (failing truths q)) (meet_fine (holding truths p) (holding truths q) a.0 b.0) (join_fine (failing truths p) (failing truths q) a.1 b.1))
      fine (wide_or p q) h l =
          let a = fine p h.0 l.0 in
          let b = fine q h.1 l.1 in (join_fine (holding truths p) (holding truths q) a.0 b.0, not_or_fine (is_plain p && is_plain q) (rel_or (holding truths p) (holding truths q)) (rel_and (failing truths p) (failing truths q)) (join_fine (holding truths p) (holding truths q) a.0 b.0) (meet_fine (failing truths p) (failing truths q) a.1 b.1))
      fine (wide_implies p q) h l =
          let a = fine p h.0 l.0 in
          let b = fine q h.1 l.1 in (join_fine (failing truths p) (holding truths q) a.1 b.0, meet_fine (holding truths p) (failing truths q) a.0 b.1)
      fine (wide_same p q) h l =
          let a = fine p h.0 l.0 in
          let b = fine q h.1 l.1 in (either_fine (holding truths p) (holding truths q) (failing truths p) (failing truths q) a.0 b.0 a.1 b.1, either_fine (holding truths p) (failing truths q) (failing truths p) (holding truths q) a.0 b.1 a.1 b.0)
      fine (wide_other p q) h l =
          let a = fine p h.0 l.0 in
          let b = fine q h.1 l.1 in (either_fine (holding truths p) (failing truths q) (failing truths p) (holding truths q) a.0 b.1 a.1 b.0, either_fine (holding truths p) (holding truths q) (failing truths p) (failing truths q) a.0 b.0 a.1 b.1)
      fine (wide_if_truth c p q) h l =
          let t = fine c h.0 l.0 in
          let a = fine p h.1 l.1 in
          let b = fine q h.2 l.2 in (either_fine (holding truths c) (holding truths p) (failing truths c) (holding truths q) t.0 a.0 t.1 b.0, either_fine (holding truths c) (failing truths p) (failing truths c) (failing truths q) t.0 a.1 t.1 b.1)
      fine (wide_chain orders ts) h l =
          let parts = all_terms_fine ts h l false (λ e. none_true e) in (
            all_fine (links itself orders (all_alternatives truths ts)) (links_fine false itself (λ r p. p) orders (all_alternatives truths ts) parts),
            some_fine (links rel_not orders (all_alternatives truths ts)) (links_fine false rel_not (λ r p. p) orders (all_alternatives truths ts) parts),
          )
