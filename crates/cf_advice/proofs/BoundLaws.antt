-- A number that counts 0 times bounds nothing.
use Rattle.std.proofs.Common.{◌≡◌, ◌≢◌, ◌⊎◌, inl, inr, ℕ, ℤ, pos, neg_ℤ, ◌+ℤ◌, ◌-ℤ◌, ◌*ℤ◌, ◌≤ℤ◌, ◌<ℤ◌, ◌==◌, ◌&&◌, Bool, true, false, if◌then◌else◌, List, [], length, eqb-true, refl, sym, ◌∙◌, ap, ap₂, subst, arith}
use Rattle.std.specs.Prelude.{IsTrue, MatchBool}
use Rattle.std.proofs.lemmas.Bool.{eqb-false}
use Rattle.std.proofs.lemmas.Int.{ints}
use Rattle.cf_num.proofs.Ring.{ring, mul_comm_z}
use Rattle.cf_tree.specs.declared.base.Order.{Order}
use Rattle.cf_tree.specs.declared.base.Order.TheVariants.{Eq, Ne, Lt, Le, Gt, Ge}
use Rattle.cf_tree.specs.Numbers.{Compares, absolute, quotient, remainder}
use Rattle.cf_tree.specs.Relation.{Holds, is_fixed, members, val}
use Rattle.cf_tree.specs.RelTree.{SetTree, empty_set, set_var, union_of, inter_of, diff_of, TermTree, term_lit, term_var, term_card, term_neg, term_add, term_sub, term_mul, term_div, term_mod, term_abs, RelTree, rel_true, rel_false, rel_compare, rel_same_set, rel_other_set, rel_subset, rel_divides, rel_and, rel_or, rel_not}
use Rattle.cf_tree.specs.Sets.{set_union, set_inter, set_diff, has}
use Rattle.cf_tree.specs.Values.{Value, number_of, value_at}
use Rattle.cf_advice.specs.Bounds.{AreButFor, IsUnbounded}
use Rattle.cf_advice.specs.Factors.{IsFlat, IsLevel, factor}

-- ---- plain numbers
both : (a b : Bool) → (a && b) ≡ true → (a ≡ true) × (b ≡ true)
both true b e = (refl, e)
both false b e = let d : false ≡ true = e in cc

is_true : (b : Bool) → IsTrue b → b ≡ true
is_true b h = h

neg_grown : (p a k d : ℤ) → p ≡ a +ℤ k *ℤ d → neg_ℤ p ≡ neg_ℤ a +ℤ neg_ℤ k *ℤ d
neg_grown p a k d e = simp ring (omega (arith, ints))

add_grown : (p a j q b k d : ℤ) → p ≡ a +ℤ j *ℤ d → q ≡ b +ℤ k *ℤ d → p +ℤ q ≡ (a +ℤ b) +ℤ (j +ℤ k) *ℤ d
add_grown p a j q b k d e f = simp ring (omega (arith, ints))

sub_grown : (p a j q b k d : ℤ) → p ≡ a +ℤ j *ℤ d → q ≡ b +ℤ k *ℤ d → p -ℤ q ≡ (a -ℤ b) +ℤ (j -ℤ k) *ℤ d
sub_grown p a j q b k d e f = simp ring (omega (arith, ints))

times_right : (p a c q b k d : ℤ) → p ≡ c → a ≡ c → q ≡ b +ℤ k *ℤ d → p *ℤ q ≡ a *ℤ b +ℤ (c *ℤ k) *ℤ d
times_right p a c q b k d e f g = rw (e, f, g) (simp ring (omega (arith, ints)))

times_left : (p a c q b k d : ℤ) → p ≡ c → a ≡ c → q ≡ b +ℤ k *ℤ d → q *ℤ p ≡ b *ℤ a +ℤ (k *ℤ c) *ℤ d
times_left p a c q b k d e f g = rw (e, f, g) (simp ring (omega (arith, ints, mul_comm_z d c)))

moved : (o : Order) (a b p q t : ℤ) → p ≡ a +ℤ t → q ≡ b +ℤ t → Compares o a b → Compares o p q
moved Eq a b p q t e f h = omega (arith, ints)
moved Ne a b p q t e f h = λ g. h (omega (arith, ints))
moved Lt a b p q t e f h = omega (arith, ints)
moved Le a b p q t e f h = omega (arith, ints)
moved Gt a b p q t e f h = omega (arith, ints)
moved Ge a b p q t e f h = omega (arith, ints)

-- ---- forms without variables
fixed_val : (t : TermTree) (env : List Value) → is_fixed t ≡ true → val t env ≡ val t []
fixed_val (term_lit n) env h = refl
fixed_val (term_var x) env h = let d : false ≡ true = h in cc
fixed_val (term_card s) env h = let d : false ≡ true = h in cc
fixed_val (term_neg a) env h = ap neg_ℤ (fixed_val a env h)
fixed_val (term_add a b) env h = let s = both (is_fixed a) (is_fixed b) h in ap₂ (λ y z. y +ℤ z) (fixed_val a env s.0) (fixed_val b env s.1)
fixed_val (term_sub a b) env h = let s = both (is_fixed a) (is_fixed b) h in ap₂ (λ y z. y -ℤ z) (fixed_val a env s.0) (fixed_val b env s.1)
fixed_val (term_mul a b) env h = let s = both (is_fixed a) (is_fixed b) h in ap₂ (λ y z. y *ℤ z) (fixed_val a env s.0) (fixed_val b env s.1)
fixed_val (term_div a k) env h = let d : false ≡ true = h in cc
fixed_val (term_mod a k) env h = let d : false ≡ true = h in cc
fixed_val (term_abs a) env h = ap absolute (fixed_val a env h)

-- ---- two environments
pub turned : (x : ℕ) (env other : List Value) → AreButFor x env other → AreButFor x other env
turned x env other s = record { numbers = λ y n. sym (s.numbers y n); sets = λ y. sym (s.sets y) }

module _ (x : ℕ) (env other : List Value) (same : AreButFor x env other) where
  pub same_members : (s : SetTree) → members s other ≡ members s env
  same_members empty_set = refl
  same_members (set_var y) = same.sets y
  same_members (union_of a b) = ap₂ set_union (same_members a) (same_members b)
  same_members (inter_of a b) = ap₂ set_inter (same_members a) (same_members b)
  same_members (diff_of a b) = ap₂ set_diff (same_members a) (same_members b)

  -- by how much the number grows
  abbrev d : ℤ
  d = number_of (value_at other x) -ℤ number_of (value_at env x)

  own : (y : ℕ) (b : Bool) → (x == y) ≡ b →
      number_of (value_at other y) ≡ number_of (value_at env y) +ℤ (if b then pos 1 else pos 0) *ℤ d
  own y true e = subst (λ z. number_of (value_at other z) ≡ number_of (value_at env z) +ℤ pos 1 *ℤ d) (eqb-true x y e) (omega (arith, ints))
  own y false e = same.numbers y (λ f. eqb-false x y e (sym f)) ∙ omega (arith, ints)

  still : (p a k : ℤ) → p ≡ a +ℤ k *ℤ d → k ≡ pos 0 → p ≡ a
  still p a k e f = e ∙ ap (λ z. a +ℤ z *ℤ d) f ∙ omega (arith, ints)

  product : (a b : TermTree) (f : Bool) → is_fixed a ≡ f → MatchBool f (IsFlat x b) (IsTrue (is_fixed b) × IsFlat x a) →
      (IsFlat x a → val a other ≡ val a env +ℤ factor x a *ℤ d) → (IsFlat x b → val b other ≡ val b env +ℤ factor x b *ℤ d) →
      val a other *ℤ val b other ≡ val a env *ℤ val b env +ℤ (if f then val a [] *ℤ factor x b else factor x a *ℤ val b []) *ℤ d
  product a b true e h on_a on_b = times_right (val a other) (val a env) (val a []) (val b other) (val b env) (factor x b) d (fixed_val a other e) (fixed_val a env e) (on_b h)
  product a b false e h on_a on_b =
      times_left (val b other) (val b env) (val b []) (val a other) (val a env) (factor x a) d (fixed_val b other (is_true (is_fixed b) h.0))
      (fixed_val b env (is_true (is_fixed b) h.0)) (on_a h.1)

  pub grown : (t : TermTree) → IsFlat x t → val t other ≡ val t env +ℤ factor x t *ℤ d
  grown (term_lit n) h = omega (arith, ints)
  grown (term_var y) h = own y (x == y) refl
  grown (term_card s) h = ap (λ zs. pos (length zs)) (same_members s) ∙ omega (arith, ints)
  grown (term_neg a) h = neg_grown (val a other) (val a env) (factor x a) d (grown a h)
  grown (term_add a b) h =
      add_grown (val a other) (val a env) (factor x a) (val b other) (val b env) (factor x b) d (grown a h.0) (grown b h.1)
  grown (term_sub a b) h =
      sub_grown (val a other) (val a env) (factor x a) (val b other) (val b env) (factor x b) d (grown a h.0) (grown b h.1)
  grown (term_mul a b) h = product a b (is_fixed a) refl h (grown a) (grown b)
  grown (term_div a k) h = ap (λ z. quotient z k) (still (val a other) (val a env) (factor x a) (grown a h.0) h.1) ∙ omega (arith, ints)
  grown (term_mod a k) h = ap (λ z. remainder z k) (still (val a other) (val a env) (factor x a) (grown a h.0) h.1) ∙ omega (arith, ints)
  grown (term_abs a) h = ap absolute (still (val a other) (val a env) (factor x a) (grown a h.0) h.1) ∙ omega (arith, ints)

  pub flat_same : (t : TermTree) → IsFlat x t → factor x t ≡ pos 0 → val t other ≡ val t env
  flat_same t h z = still (val t other) (val t env) (factor x t) (grown t h) z

  pub compares : (o : Order) (a b : TermTree) → IsFlat x a × IsFlat x b × (factor x a ≡ factor x b) →
      Compares o (val a env) (val b env) → Compares o (val a other) (val b other)
  compares o a b h =
      moved o (val a env) (val b env) (val a other) (val b other) (factor x b *ℤ d)
      (grown a h.0 ∙ ap (λ k. val a env +ℤ k *ℤ d) h.2) (grown b h.1)

-- with any other number
pub held : (x : ℕ) (r : RelTree) → IsLevel x r → (env other : List Value) → AreButFor x env other → Holds r env → Holds r other
held x rel_true h env other s u = u
held x rel_false h env other s u = u
held x (rel_compare o a b) h env other s u = compares x env other s o a b h u
held x (rel_same_set a b) h env other s u = same_members x env other s a ∙ u ∙ sym (same_members x env other s b)
held x (rel_other_set a b) h env other s u =
    λ e. u (sym (same_members x env other s a) ∙ e ∙ same_members x env other s b)
held x (rel_subset a b) h env other s u =
    subst (λ xs. (z : ℤ) → has xs z ≡ true → has (members b other) z ≡ true) (sym (same_members x env other s a))
    (subst (λ ys. (z : ℤ) → has (members a env) z ≡ true → has ys z ≡ true) (sym (same_members x env other s b)) u)
held x (rel_divides k t) h env other s u = (u.0, flat_same x env other s t h.0 h.1 ∙ u.1)
held x (rel_and p q) h env other s u = (held x p h.0 env other s u.0, held x q h.1 env other s u.1)
held x (rel_or p q) h env other s u = elim u [ inl v ↦ inl (held x p h.0 env other s v) | inr v ↦ inr (held x q h.1 env other s v) ]
held x (rel_not p) h env other s u = λ v. u (held x p h other env (turned x env other s) v)

pub is_unbounded : (x : ℕ) (r : RelTree) → IsLevel x r → IsUnbounded x r
is_unbounded x r h = record { any = held x r h }
