-- Relations over other levels: their meaning, their types, and what is linear.
use Rattle.std.proofs.Common.{inl, inr, ◌≡◌, ◌≢◌, ◌↔◌, ℕ, ℤ, pos, ◌+ℤ◌, ◌-ℤ◌, ◌*ℤ◌, neg_ℤ, ◌==◌, true, ◌&&◌, ◌||◌, List, length, slice_get, subst, refl, sym, ap, ap₂, ◌∙◌}
use Rattle.std.specs.Prelude.{IsTrue}
use Rattle.std.proofs.lemmas.Bool.{eq-eqb}
use Rattle.cf_tree.specs.declared.base.Base.{Base}
use Rattle.cf_tree.specs.Numbers.{quotient, remainder, absolute, Compares}
use Rattle.cf_tree.specs.Occurs.{set_holds, term_holds, rel_holds}
use Rattle.cf_tree.specs.Relation.{members, val, Holds, is_fixed, IsLinearTerm, IsLinear, IsTypedSet, IsTypedTerm, IsTyped}
use Rattle.cf_tree.specs.RelTree.{SetTree, empty_set, set_var, union_of, inter_of, diff_of, TermTree, term_lit, term_var, term_card, term_neg, term_add, term_sub, term_mul, term_div, term_mod, term_abs, RelTree, rel_true, rel_false, rel_compare, rel_same_set, rel_other_set, rel_subset, rel_divides, rel_and, rel_or, rel_not}
use Rattle.cf_tree.specs.Sets.{set_union, set_inter, set_diff, has}
use Rattle.cf_tree.specs.Values.{Value, elements_of, number_of, value_at}
use Rattle.cf_linear.proofs.PassingLemmas.{or_left, or_right}
use Rattle.cf_warn.specs.Questions.{set_at, term_at, rel_at}

itself : (x : ℕ) → (x == x) ≡ true
itself x = eq-eqb x x refl

same_two : {A B : Type 0} (P : A → B → Type 0) (a c : A) (b d : B) → a ≡ c → b ≡ d → P a b ↔ P c d
same_two P a c b d e f =
    (λ h. subst (λ y. P c y) f (subst (λ x. P x b) e h), λ h. subst (λ x. P x b) (sym e) (subst (λ y. P c y) (sym f) h))

same_one : {A : Type 0} (P : A → Type 0) (a c : A) → a ≡ c → P a ↔ P c
same_one P a c e = (λ h. subst P e h, λ h. subst P (sym e) h)

-- ---- the meaning, where each variable that occurs has one value
module _ (to : ℕ → ℕ) (env other : List Value) where
  members-at : (s : SetTree) → ((x : ℕ) → set_holds x s ≡ true → value_at other (to x) ≡ value_at env x) → members (set_at to s) other ≡ members s env
  members-at empty_set h = refl
  members-at (set_var x) h = ap elements_of (h x (itself x))
  members-at (union_of a b) h =
      ap₂ set_union (members-at a (λ x k. h x (or_left (set_holds x a) (set_holds x b) k)))
      (members-at b (λ x k. h x (or_right (set_holds x a) (set_holds x b) k)))
  members-at (inter_of a b) h =
      ap₂ set_inter (members-at a (λ x k. h x (or_left (set_holds x a) (set_holds x b) k)))
      (members-at b (λ x k. h x (or_right (set_holds x a) (set_holds x b) k)))
  members-at (diff_of a b) h =
      ap₂ set_diff (members-at a (λ x k. h x (or_left (set_holds x a) (set_holds x b) k)))
      (members-at b (λ x k. h x (or_right (set_holds x a) (set_holds x b) k)))

  val-at : (t : TermTree) → ((x : ℕ) → term_holds x t ≡ true → value_at other (to x) ≡ value_at env x) → val (term_at to t) other ≡ val t env
  val-at (term_lit n) h = refl
  val-at (term_var x) h = ap number_of (h x (itself x))
  val-at (term_card s) h = ap (λ zs. pos (length zs)) (members-at s h)
  val-at (term_neg a) h = ap neg_ℤ (val-at a h)
  val-at (term_add a b) h =
      ap₂ (λ y z. y +ℤ z) (val-at a (λ x k. h x (or_left (term_holds x a) (term_holds x b) k)))
      (val-at b (λ x k. h x (or_right (term_holds x a) (term_holds x b) k)))
  val-at (term_sub a b) h =
      ap₂ (λ y z. y -ℤ z) (val-at a (λ x k. h x (or_left (term_holds x a) (term_holds x b) k)))
      (val-at b (λ x k. h x (or_right (term_holds x a) (term_holds x b) k)))
  val-at (term_mul a b) h =
      ap₂ (λ y z. y *ℤ z) (val-at a (λ x k. h x (or_left (term_holds x a) (term_holds x b) k)))
      (val-at b (λ x k. h x (or_right (term_holds x a) (term_holds x b) k)))
  val-at (term_div a k) h = ap (λ z. quotient z k) (val-at a h)
  val-at (term_mod a k) h = ap (λ z. remainder z k) (val-at a h)
  val-at (term_abs a) h = ap absolute (val-at a h)

  pub holds-at : (r : RelTree) → ((x : ℕ) → rel_holds x r ≡ true → value_at other (to x) ≡ value_at env x) → Holds (rel_at to r) other ↔ Holds r env
  holds-at rel_true h = (λ u. u, λ u. u)
  holds-at rel_false h = (λ u. u, λ u. u)
  holds-at (rel_compare o a b) h =
      same_two (Compares o) (val (term_at to a) other) (val a env) (val (term_at to b) other) (val b env)
      (val-at a (λ x k. h x (or_left (term_holds x a) (term_holds x b) k))) (val-at b (λ x k. h x (or_right (term_holds x a) (term_holds x b) k)))
  holds-at (rel_same_set a b) h =
      same_two (λ xs ys. xs ≡ ys) (members (set_at to a) other) (members a env) (members (set_at to b) other) (members b env)
      (members-at a (λ x k. h x (or_left (set_holds x a) (set_holds x b) k))) (members-at b (λ x k. h x (or_right (set_holds x a) (set_holds x b) k)))
  holds-at (rel_other_set a b) h =
      same_two (λ xs ys. xs ≢ ys) (members (set_at to a) other) (members a env) (members (set_at to b) other) (members b env)
      (members-at a (λ x k. h x (or_left (set_holds x a) (set_holds x b) k))) (members-at b (λ x k. h x (or_right (set_holds x a) (set_holds x b) k)))
  holds-at (rel_subset a b) h =
      same_two (λ xs ys. (x : ℤ) → has xs x ≡ true → has ys x ≡ true) (members (set_at to a) other) (members a env) (members (set_at to b) other)
      (members b env)
      (members-at a (λ x k. h x (or_left (set_holds x a) (set_holds x b) k))) (members-at b (λ x k. h x (or_right (set_holds x a) (set_holds x b) k)))
  holds-at (rel_divides k t) h = same_one (λ z. (q : ℤ) × (z ≡ k *ℤ q)) (val (term_at to t) other) (val t env) (val-at t h)
  holds-at (rel_and a b) h =
      let p = holds-at a (λ x k. h x (or_left (rel_holds x a) (rel_holds x b) k)) in
      let q = holds-at b (λ x k. h x (or_right (rel_holds x a) (rel_holds x b) k)) in
      (λ u. (p.0 u.0, q.0 u.1), λ u. (p.1 u.0, q.1 u.1))
  holds-at (rel_or a b) h =
      let p = holds-at a (λ x k. h x (or_left (rel_holds x a) (rel_holds x b) k)) in
      let q = holds-at b (λ x k. h x (or_right (rel_holds x a) (rel_holds x b) k)) in
      (λ u. elim u [ inl v ↦ inl (p.0 v) | inr v ↦ inr (q.0 v) ], λ u. elim u [ inl v ↦ inl (p.1 v) | inr v ↦ inr (q.1 v) ])
  holds-at (rel_not a) h = let p = holds-at a h in (λ u v. u (p.1 v), λ u v. u (p.0 v))

-- ---- types, where each variable that occurs has one base
module _ (to : ℕ → ℕ) (scope other : List Base) where
  typed_set-at : (s : SetTree) → ((x : ℕ) → set_holds x s ≡ true → slice_get other (to x) ≡ slice_get scope x) → IsTypedSet scope s →
      IsTypedSet other (set_at to s)
  typed_set-at empty_set h t = tt
  typed_set-at (set_var x) h t = h x (itself x) ∙ t
  typed_set-at (union_of a b) h t = (
    typed_set-at a (λ x k. h x (or_left (set_holds x a) (set_holds x b) k)) t.0,
    typed_set-at b (λ x k. h x (or_right (set_holds x a) (set_holds x b) k))
        t.1,
  )
  typed_set-at (inter_of a b) h t = (
    typed_set-at a (λ x k. h x (or_left (set_holds x a) (set_holds x b) k)) t.0,
    typed_set-at b (λ x k. h x (or_right (set_holds x a) (set_holds x b) k))
        t.1,
  )
  typed_set-at (diff_of a b) h t = (
    typed_set-at a (λ x k. h x (or_left (set_holds x a) (set_holds x b) k)) t.0,
    typed_set-at b (λ x k. h x (or_right (set_holds x a) (set_holds x b) k))
        t.1,
  )

  typed_term-at : (t : TermTree) → ((x : ℕ) → term_holds x t ≡ true → slice_get other (to x) ≡ slice_get scope x) → IsTypedTerm scope t →
      IsTypedTerm other (term_at to t)
  typed_term-at (term_lit n) h t = t
  typed_term-at (term_var x) h t = h x (itself x) ∙ t
  typed_term-at (term_card s) h t = typed_set-at s h t
  typed_term-at (term_neg a) h t = typed_term-at a h t
  typed_term-at (term_add a b) h t = (
    typed_term-at a (λ x k. h x (or_left (term_holds x a) (term_holds x b) k)) t.0,
    typed_term-at b (λ x k. h x (or_right (term_holds x a) (term_holds x b) k)) t.1,
  )
  typed_term-at (term_sub a b) h t = (
    typed_term-at a (λ x k. h x (or_left (term_holds x a) (term_holds x b) k)) t.0,
    typed_term-at b (λ x k. h x (or_right (term_holds x a) (term_holds x b) k)) t.1,
  )
  typed_term-at (term_mul a b) h t = (
    typed_term-at a (λ x k. h x (or_left (term_holds x a) (term_holds x b) k)) t.0,
    typed_term-at b (λ x k. h x (or_right (term_holds x a) (term_holds x b) k)) t.1,
  )
  typed_term-at (term_div a k) h t = (typed_term-at a h t.0, t.1)
  typed_term-at (term_mod a k) h t = (typed_term-at a h t.0, t.1)
  typed_term-at (term_abs a) h t = typed_term-at a h t

  pub typed-at : (r : RelTree) → ((x : ℕ) → rel_holds x r ≡ true → slice_get other (to x) ≡ slice_get scope x) → IsTyped scope r → IsTyped other (rel_at to r)
  typed-at rel_true h t = tt
  typed-at rel_false h t = tt
  typed-at (rel_compare o a b) h t = (
    typed_term-at a (λ x k. h x (or_left (term_holds x a) (term_holds x b) k)) t.0,
    typed_term-at b (λ x k. h x (or_right (term_holds x a) (term_holds x b) k)) t.1,
  )
  typed-at (rel_same_set a b) h t = (
    typed_set-at a (λ x k. h x (or_left (set_holds x a) (set_holds x b) k)) t.0,
    typed_set-at b (λ x k. h x (or_right (set_holds x a) (set_holds x b) k))
        t.1,
  )
  typed-at (rel_other_set a b) h t = (
    typed_set-at a (λ x k. h x (or_left (set_holds x a) (set_holds x b) k)) t.0,
    typed_set-at b (λ x k. h x (or_right (set_holds x a) (set_holds x b) k))
        t.1,
  )
  typed-at (rel_subset a b) h t = (
    typed_set-at a (λ x k. h x (or_left (set_holds x a) (set_holds x b) k)) t.0,
    typed_set-at b (λ x k. h x (or_right (set_holds x a) (set_holds x b) k))
        t.1,
  )
  typed-at (rel_divides k u) h t = (t.0, typed_term-at u h t.1)
  typed-at (rel_and a b) h t =
      (typed-at a (λ x k. h x (or_left (rel_holds x a) (rel_holds x b) k)) t.0, typed-at b (λ x k. h x (or_right (rel_holds x a) (rel_holds x b) k)) t.1)
  typed-at (rel_or a b) h t =
      (typed-at a (λ x k. h x (or_left (rel_holds x a) (rel_holds x b) k)) t.0, typed-at b (λ x k. h x (or_right (rel_holds x a) (rel_holds x b) k)) t.1)
  typed-at (rel_not a) h t = typed-at a h t

-- ---- what is linear
module _ (to : ℕ → ℕ) where
  fixed-at : (t : TermTree) → is_fixed (term_at to t) ≡ is_fixed t
  fixed-at (term_lit n) = refl
  fixed-at (term_var x) = refl
  fixed-at (term_card s) = refl
  fixed-at (term_neg a) = fixed-at a
  fixed-at (term_add a b) = ap₂ (λ x y. x && y) (fixed-at a) (fixed-at b)
  fixed-at (term_sub a b) = ap₂ (λ x y. x && y) (fixed-at a) (fixed-at b)
  fixed-at (term_mul a b) = ap₂ (λ x y. x && y) (fixed-at a) (fixed-at b)
  fixed-at (term_div a k) = refl
  fixed-at (term_mod a k) = refl
  fixed-at (term_abs a) = fixed-at a

  linear_term-at : (t : TermTree) → IsLinearTerm t → IsLinearTerm (term_at to t)
  linear_term-at (term_lit n) h = tt
  linear_term-at (term_var x) h = tt
  linear_term-at (term_card s) h = tt
  linear_term-at (term_neg a) h = linear_term-at a h
  linear_term-at (term_add a b) h = (linear_term-at a h.0, linear_term-at b h.1)
  linear_term-at (term_sub a b) h = (linear_term-at a h.0, linear_term-at b h.1)
  linear_term-at (term_mul a b) h =
      (linear_term-at a h.0, linear_term-at b h.1, subst (λ c. IsTrue c) (sym (ap₂ (λ x y. x || y) (fixed-at a) (fixed-at b))) h.2)
  linear_term-at (term_div a k) h = linear_term-at a h
  linear_term-at (term_mod a k) h = linear_term-at a h
  linear_term-at (term_abs a) h = linear_term-at a h

  pub linear-at : (r : RelTree) → IsLinear r → IsLinear (rel_at to r)
  linear-at rel_true h = tt
  linear-at rel_false h = tt
  linear-at (rel_compare o a b) h = (linear_term-at a h.0, linear_term-at b h.1)
  linear-at (rel_same_set a b) h = tt
  linear-at (rel_other_set a b) h = tt
  linear-at (rel_subset a b) h = tt
  linear-at (rel_divides k t) h = linear_term-at t h
  linear-at (rel_and a b) h = (linear-at a h.0, linear-at b h.1)
  linear-at (rel_or a b) h = (linear-at a h.0, linear-at b h.1)
  linear-at (rel_not a) h = linear-at a h
