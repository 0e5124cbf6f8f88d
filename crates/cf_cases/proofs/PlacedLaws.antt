-- The variables of a well-typed relation are in its layout.
use Rattle.std.proofs.Common.{inl, inr, ◌≡◌, ℕ, zero, suc, ◌+◌, ◌-◌, ◌<◌, ◌≤◌, ◌==◌, List, [], ◌∷◌, ◌++◌, length, filter, Bool, true, ◌||◌, Some, refl, sym}
use Rattle.std.proofs.Common.{◌∙◌, ap, arith}
use Rattle.std.specs.Prelude.{IsTrue, slice_get}
use Rattle.std.proofs.lemmas.Bool.{cond_both, cases_lt, eq-eqb, eqb-true}
use Rattle.cf_tree.specs.declared.base.Base.{Base}
use Rattle.cf_tree.specs.declared.base.Base.TheVariants.{Int, Set}
use Rattle.cf_tree.specs.Occurs.{set_holds, term_holds, rel_holds}
use Rattle.cf_tree.specs.RelTree.{SetTree, empty_set, set_var, union_of, inter_of, diff_of, TermTree, term_lit, term_var, term_card, term_neg, term_add}
use Rattle.cf_tree.specs.RelTree.{term_sub, term_mul, term_div, term_mod, term_abs, RelTree, rel_true, rel_false, rel_compare, rel_same_set, rel_other_set}
use Rattle.cf_tree.specs.RelTree.{rel_subset, rel_divides, rel_and, rel_or, rel_not}
use Rattle.cf_tree.specs.Relation.{IsLinear, IsTypedSet, IsTypedTerm, IsTyped}
use Rattle.cf_linear.specs.Layout.{is_number, is_set, levels_with, layout_of, has_level}
use Rattle.cf_linear.specs.Written.{IsPlaced, IsPlacedSet}
use Rattle.cf_linear.proofs.BoolLemmas.{on_bool}
use Rattle.cf_linear.proofs.PassingLemmas.{or_left, or_right}
use Rattle.cf_cases.specs.Holding.{IsPlacedRel}

same_level : (x : ℕ) → (x == x) ≡ true
same_level x = eq-eqb x x refl

pub has_filtered : (q : ℕ → Bool) (xs : List ℕ) (x : ℕ) → has_level xs x ≡ true → q x ≡ true → has_level (filter q xs) x ≡ true
has_filtered q [] x h k = h
has_filtered q (y ∷ ys) x h k = on_bool (y == x)
    (λ e. let i : q y ≡ true = ap q (eqb-true y x e) ∙ k in rw (i, e) refl)
    (λ e. let g : has_level ys x ≡ true = rw e at h in
    cond_both (q y) (y ∷ filter q ys) (filter q ys) (λ (l : List ℕ). has_level l x ≡ true) (λ i. rw (e, has_filtered q ys x g k) refl)
    (λ i. has_filtered q ys x g k))

levels_have : (p : Base → Bool) (n : ℕ) (bs : List Base) (i : ℕ) (b : Base) → slice_get bs i ≡ Some b → p b ≡ true →
    has_level (levels_with p n bs) (n + i) ≡ true
levels_have p n [] i b e h = absurd (cc)
levels_have p n (c ∷ bs) zero b e h =
    let f : c ≡ b = cc in
    let z : n + 0 ≡ n = omega arith in
    rw (ap p f ∙ h, z, same_level n) refl
levels_have p n (c ∷ bs) (suc i) b e h =
    let z : n + suc i ≡ n + 1 + i = omega arith in
    let g : has_level (levels_with p (n + 1) bs) (n + 1 + i) ≡ true = levels_have p (n + 1) bs i b e h in
    rw z (cond_both (p c) (n ∷ levels_with p (n + 1) bs) (levels_with p (n + 1) bs) (λ (l : List ℕ). has_level l (n + 1 + i) ≡ true)
    (λ k. or_right (n == (n + 1 + i)) (has_level (levels_with p (n + 1) bs) (n + 1 + i)) g) (λ k. g))

true_is : (b : Bool) → b ≡ true → IsTrue b
true_is b e = e

after_scope : (scope outputs : List Base) (x : ℕ) → length scope ≤ x → slice_get (scope ++ outputs) x ≡ slice_get outputs (x - length scope)
after_scope [] outputs x h = let e : x - 0 ≡ x = omega arith in rw e refl
after_scope (b ∷ scope) outputs zero h = absurd (omega arith)
after_scope (b ∷ scope) outputs (suc x) h = let e : suc x - suc (length scope) ≡ x - length scope = omega arith in
    after_scope scope outputs x (omega arith) ∙ rw e refl

before_outputs : (scope outputs : List Base) (x : ℕ) → x < length scope → slice_get (scope ++ outputs) x ≡ slice_get scope x
before_outputs [] outputs x h = absurd (omega arith)
before_outputs (b ∷ scope) outputs zero h = refl
before_outputs (b ∷ scope) outputs (suc x) h = before_outputs scope outputs x (omega arith)

module _ (scope outputs : List Base) (rel : RelTree) where
  -- a variable of the base is among the levels
  placed : (p : Base → Bool) (b : Base) (x : ℕ) → p b ≡ true → slice_get (scope ++ outputs) x ≡ Some b → rel_holds x rel ≡ true →
      (has_level (filter (λ y. rel_holds y rel) (levels_with p 0 scope)) x || has_level (levels_with p (length scope) outputs) x) ≡ true
  placed p b x h e r = elim (cases_lt x (length scope)) [
    | inl i ↦ (let k : has_level (levels_with p 0 scope) (0 + x) ≡ true = levels_have p 0 scope x b (sym (before_outputs scope outputs x i) ∙ e) h in
        let z : 0 + x ≡ x = omega arith in
        or_left (has_level (filter (λ y. rel_holds y rel) (levels_with p 0 scope)) x) (has_level (levels_with p (length scope) outputs) x)
        (has_filtered (λ y. rel_holds y rel) (levels_with p 0 scope) x (rw z at k) r))
    | inr i ↦ (let k = levels_have p (length scope) outputs (x - length scope) b (sym (after_scope scope outputs x i) ∙ e) h in
        let z : length scope + (x - length scope) ≡ x = omega arith in
        or_right (has_level (filter (λ y. rel_holds y rel) (levels_with p 0 scope)) x) (has_level (levels_with p (length scope) outputs) x) (rw z at k))
  ]

  placed_set : (s : SetTree) → IsTypedSet (scope ++ outputs) s → ((x : ℕ) → set_holds x s ≡ true → rel_holds x rel ≡ true) →
      IsPlacedSet (layout_of scope outputs rel) s
  placed_set empty_set t h = tt
  placed_set (set_var y) t h = true_is _ (placed is_set Set y refl t (h y (same_level y)))
  placed_set (union_of a b) t h = (
    placed_set a t.0 (λ x e. h x (or_left (set_holds x a) (set_holds x b) e)),
    placed_set b t.1 (λ x e. h x (or_right (set_holds x a) (set_holds x b) e)),
  )
  placed_set (inter_of a b) t h = (
    placed_set a t.0 (λ x e. h x (or_left (set_holds x a) (set_holds x b) e)),
    placed_set b t.1 (λ x e. h x (or_right (set_holds x a) (set_holds x b) e)),
  )
  placed_set (diff_of a b) t h = (
    placed_set a t.0 (λ x e. h x (or_left (set_holds x a) (set_holds x b) e)),
    placed_set b t.1 (λ x e. h x (or_right (set_holds x a) (set_holds x b) e)),
  )

  placed_term : (s : TermTree) → IsTypedTerm (scope ++ outputs) s → ((x : ℕ) → term_holds x s ≡ true → rel_holds x rel ≡ true) →
      IsPlaced (layout_of scope outputs rel) s
  placed_term (term_lit n) t h = t
  placed_term (term_var y) t h = true_is _ (placed is_number Int y refl t (h y (same_level y)))
  placed_term (term_card s) t h = placed_set s t h
  placed_term (term_neg a) t h = placed_term a t h
  placed_term (term_add a b) t h = (
    placed_term a t.0 (λ x e. h x (or_left (term_holds x a) (term_holds x b) e)),
    placed_term b t.1 (λ x e. h x (or_right (term_holds x a) (term_holds x b) e)),
  )
  placed_term (term_sub a b) t h = (
    placed_term a t.0 (λ x e. h x (or_left (term_holds x a) (term_holds x b) e)),
    placed_term b t.1 (λ x e. h x (or_right (term_holds x a) (term_holds x b) e)),
  )
  placed_term (term_mul a b) t h = (
    placed_term a t.0 (λ x e. h x (or_left (term_holds x a) (term_holds x b) e)),
    placed_term b t.1 (λ x e. h x (or_right (term_holds x a) (term_holds x b) e)),
  )
  placed_term (term_div a k) t h = (placed_term a t.0 h, t.1)
  placed_term (term_mod a k) t h = (placed_term a t.0 h, t.1)
  placed_term (term_abs a) t h = placed_term a t h

  placed_part : (p : RelTree) → IsTyped (scope ++ outputs) p → IsLinear p → ((x : ℕ) → rel_holds x p ≡ true → rel_holds x rel ≡ true) →
      IsPlacedRel (layout_of scope outputs rel) p
  placed_part rel_true t l h = tt
  placed_part rel_false t l h = tt
  placed_part (rel_compare o a b) t l h = (
    (placed_term a t.0 (λ x e. h x (or_left (term_holds x a) (term_holds x b) e)), l.0),
    (placed_term b t.1 (λ x e. h x (or_right (term_holds x a) (term_holds x b) e)), l.1),
  )
  placed_part (rel_same_set a b) t l h = (
    placed_set a t.0 (λ x e. h x (or_left (set_holds x a) (set_holds x b) e)),
    placed_set b t.1 (λ x e. h x (or_right (set_holds x a) (set_holds x b) e)),
  )
  placed_part (rel_other_set a b) t l h = (
    placed_set a t.0 (λ x e. h x (or_left (set_holds x a) (set_holds x b) e)),
    placed_set b t.1 (λ x e. h x (or_right (set_holds x a) (set_holds x b) e)),
  )
  placed_part (rel_subset a b) t l h = (
    placed_set a t.0 (λ x e. h x (or_left (set_holds x a) (set_holds x b) e)),
    placed_set b t.1 (λ x e. h x (or_right (set_holds x a) (set_holds x b) e)),
  )
  placed_part (rel_divides k a) t l h = (t.0, placed_term a t.1 h, l)
  placed_part (rel_and p q) t l h = (
    placed_part p t.0 l.0 (λ x e. h x (or_left (rel_holds x p) (rel_holds x q) e)),
    placed_part q t.1 l.1 (λ x e. h x (or_right (rel_holds x p) (rel_holds x q) e)),
  )
  placed_part (rel_or p q) t l h = (
    placed_part p t.0 l.0 (λ x e. h x (or_left (rel_holds x p) (rel_holds x q) e)),
    placed_part q t.1 l.1 (λ x e. h x (or_right (rel_holds x p) (rel_holds x q) e)),
  )
  placed_part (rel_not p) t l h = placed_part p t l h

-- a well-typed linear relation fits its layout
pub placed-rel : (scope outputs : List Base) (rel : RelTree) → IsTyped (scope ++ outputs) rel → IsLinear rel → IsPlacedRel (layout_of scope outputs rel) rel
placed-rel scope outputs rel t l = placed_part scope outputs rel rel t l (λ x e. e)
