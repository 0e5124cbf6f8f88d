-- What is put more simply holds where it held.
use Rattle.std.proofs.Common.{◌≡◌, ◌⊎◌, ℕ, zero, suc, ℤ, pos, negsuc, neg_ℤ, ◌+ℤ◌, ◌*ℤ◌, Bool, true, false, List, [], ◌∷◌, Option, Some, None, refl, sym, ap, subst, inl, inr, ◌∙◌, arith}
use Rattle.std.specs.Prelude.{◌↔◌, ◌-ℤ◌, ◌≤ℤ◌, ◌<ℤ◌, ◌≢◌, int_lt, int_le, ◌||◌, if◌then◌else◌}
use Rattle.std.specs.Ordering.{int_eq}
use Rattle.std.proofs.lemmas.Int.{ints}
use Rattle.cf_num.proofs.Ring.{ring}
use Rattle.cf_tree.specs.declared.base.Order.{Order}
use Rattle.cf_tree.specs.declared.base.Order.TheVariants.{Eq, Ne, Lt, Le, Gt, Ge}
use Rattle.cf_tree.specs.Numbers.{quotient, remainder, Compares}
use Rattle.cf_tree.specs.Relation.{val, members, Holds}
use Rattle.cf_tree.specs.RelTree.{TermTree, SetTree, RelTree, rel_true, rel_false, rel_compare, rel_same_set, rel_other_set, rel_subset, rel_divides, rel_and, rel_or, rel_not}
use Rattle.cf_tree.specs.Values.{Value, same_list}
use Rattle.cf_tree.proofs.SetLemmas.{eq_is, eq_same, lt_is, lt_not, same_list-iff}
use Rattle.cf_simple.specs.Lines.{Part, Line, parts_value, line_value, just, plus, times}
use Rattle.cf_simple.specs.Quotients.{common_factor, divided_by}
use Rattle.cf_simple.specs.Terms.{line_of}
use Rattle.cf_simple.specs.Comparisons.{decided, sides, constant_of, divides_line, at_least}
use Rattle.cf_simple.specs.Simple.{is_zero_by, is_zero_line, turned_order, opposite, compared, simple, SimpleMeansTheSame}
use Rattle.cf_simple.proofs.LineLaws.{plus_value, times_value, just_value}
use Rattle.cf_simple.proofs.QuotientLaws.{once, divided_value, common_is}
use Rattle.cf_simple.proofs.TermLaws.{line_of_value, one_at_most}
use Rattle.cf_simple.proofs.JoinedLaws.{all_hold, any_holds}
use Rattle.cf_simple.proofs.ComparisonLaws.{then_same, back_same, sides_eq, Divides, divides_rest, same_divides, decided_eq, cancelled, constant_is, line_divides, line_at_least}

-- ---- a line that is 0
zero_times : (g x : ℤ) → pos 1 ≤ℤ g → (g *ℤ x ≡ pos 0) ↔ (x ≡ pos 0)
zero_times g x l = (λ e. cancelled g g x (pos 0) l (e ∙ omega (arith, ints)), λ e. rw e (omega (arith, ints)))

no_zero : (g x c : ℤ) → pos 1 ≤ℤ g → int_eq (remainder c g) (pos 0) ≡ false → g *ℤ x +ℤ c ≡ pos 0 → ⊥
no_zero g x c l e h =
    let d : Divides g c = (neg_ℤ x, simp ring (omega (arith, ints, h))) in
    let f : false ≡ true = sym e ∙ eq_same (remainder c g) (pos 0) ((divides_rest g c l).0 d) in
    absurd (cc)

zero_by : (l : Line) (c : Option ℤ) (env : List Value) → ((d : ℤ) → c ≡ Some d → line_value l env ≡ d) →
    Holds (is_zero_by (common_factor 0 l.parts) l c) env ↔ (line_value l env ≡ pos 0)
zero_by l (Some c) env h = rw (h c refl) (decided_eq c (pos 0) env)
zero_by l None env h = by (int_eq (remainder l.constant g) (pos 0)) refl
  where
    g : ℤ
    g = common_factor 0 l.parts

    x : ℤ
    x = parts_value (divided_by g l.parts) env

    whole : line_value l env ≡ g *ℤ x +ℤ l.constant
    whole = rw (divided_value g l.parts env (common_is 0 l.parts).all) refl

    by : (b : Bool) → int_eq (remainder l.constant g) (pos 0) ≡ b →
        Holds (if b then sides Eq (record { parts = divided_by g l.parts; constant = quotient l.constant g }) else rel_false) env ↔ (line_value l env ≡ pos 0)
    by true e =
        let i = eq_is (remainder l.constant g) (pos 0) e in
        let same : line_value l env ≡ g *ℤ (x +ℤ quotient l.constant g) = whole ∙ simp ring (omega (arith, ints, i)) in
        then_same (sides_eq (record { parts = divided_by g l.parts; constant = quotient l.constant g }) env)
        (subst (λ z. (x +ℤ quotient l.constant g ≡ pos 0) ↔ (z ≡ pos 0)) (sym same)
        (back_same (zero_times g (x +ℤ quotient l.constant g) (common_is 0 l.parts).positive)))
    by false e =
        (λ h. absurd h, λ h. absurd (no_zero g x l.constant (common_is 0 l.parts).positive e (sym whole ∙ h)))

line_zero : (l : Line) (env : List Value) → Holds (is_zero_line l) env ↔ (line_value l env ≡ pos 0)
line_zero l env = zero_by l (constant_of l) env (λ d e. constant_is l.parts l.constant d env e)

-- ---- the opposite
opposite_order : (o : Order) (x y : ℤ) → Compares (turned_order o) x y ↔ (Compares o x y → ⊥)
opposite_order Eq x y = (λ h. h, λ h. h)
opposite_order Ne x y = (λ e h. h e, λ h. by (int_eq x y) refl h)
  where
    by : (b : Bool) → int_eq x y ≡ b → (x ≢ y → ⊥) → x ≡ y
    by true e h = eq_is x y e
    by false e h = absurd (h (λ d. let f : false ≡ true = sym e ∙ eq_same x y d in absurd (cc)))
opposite_order Lt x y = (λ h i. omega (arith, ints, h, i), λ h. by (int_lt x y) refl h)
  where
    by : (b : Bool) → int_lt x y ≡ b → (x <ℤ y → ⊥) → y ≤ℤ x
    by true e h = absurd (h (lt_is x y e))
    by false e h = lt_not x y e
opposite_order Le x y = (λ h i. omega (arith, ints, h, i), λ h. by (int_lt y x) refl h)
  where
    by : (b : Bool) → int_lt y x ≡ b → (x ≤ℤ y → ⊥) → y <ℤ x
    by true e h = lt_is y x e
    by false e h = absurd (h (lt_not y x e))
opposite_order Gt x y = (λ h i. omega (arith, ints, h, i), λ h. by (int_lt y x) refl h)
  where
    by : (b : Bool) → int_lt y x ≡ b → (y <ℤ x → ⊥) → x ≤ℤ y
    by true e h = absurd (h (lt_is y x e))
    by false e h = lt_not y x e
opposite_order Ge x y = (λ h i. omega (arith, ints, h, i), λ h. by (int_lt x y) refl h)
  where
    by : (b : Bool) → int_lt x y ≡ b → (y ≤ℤ x → ⊥) → x <ℤ y
    by true e h = lt_is x y e
    by false e h = absurd (h (lt_not x y e))

same_from_not : (xs ys : List ℤ) → (xs ≢ ys → ⊥) → xs ≡ ys
same_from_not xs ys h = by (same_list xs ys) refl
  where
    by : (b : Bool) → same_list xs ys ≡ b → xs ≡ ys
    by true e = (same_list-iff xs ys).0 e
    by false e = absurd (h (λ d. let f : false ≡ true = sym e ∙ (same_list-iff xs ys).1 d in absurd (cc)))

opposite_holds : (r : RelTree) (env : List Value) → Holds (opposite r) env ↔ (Holds r env → ⊥)
opposite_holds rel_true env = (λ h. absurd h, λ h. h tt)
opposite_holds rel_false env = (λ h i. i, λ h. tt)
opposite_holds (rel_compare o a b) env = opposite_order o (val a env) (val b env)
opposite_holds (rel_same_set a b) env = (λ h. h, λ h. h)
opposite_holds (rel_other_set a b) env = (λ e h. h e, λ h. same_from_not (members a env) (members b env) h)
opposite_holds (rel_subset a b) env = (λ h. h, λ h. h)
opposite_holds (rel_divides k t) env = (λ h. h, λ h. h)
opposite_holds (rel_and a b) env = (λ h. h, λ h. h)
opposite_holds (rel_or a b) env = (λ h. h, λ h. h)
opposite_holds (rel_not a) env = (λ h. h, λ h. h)

-- ---- comparisons
compared_holds : (o : Order) (l : Line) (env : List Value) → Holds (compared o l) env ↔ Compares o (line_value l env) (pos 0)
compared_holds Eq l env = line_zero l env
compared_holds Ne l env =
    then_same (opposite_holds (is_zero_line l) env) (λ h e. h ((line_zero l env).1 e), λ h e. h ((line_zero l env).0 e))
compared_holds Ge l env = line_at_least 100 l env
compared_holds Gt l env =
    let e : line_value (plus l (negsuc 0) (just (pos 1))) env ≡ line_value l env +ℤ negsuc 0 *ℤ pos 1 = plus_value l (negsuc 0) (just (pos 1)) env in
    then_same (line_at_least 100 (plus l (negsuc 0) (just (pos 1))) env) (λ h. omega (arith, ints, h, e), λ h. omega (arith, ints, h, e))
compared_holds Le l env =
    let e = times_value (negsuc 0) l env in
    then_same (line_at_least 100 (times (negsuc 0) l) env) (λ h. omega (arith, ints, h, e), λ h. omega (arith, ints, h, e))
compared_holds Lt l env =
    let d = times_value (negsuc 0) l env in
    let e : line_value (plus (times (negsuc 0) l) (negsuc 0) (just (pos 1))) env ≡ line_value (times (negsuc 0) l) env +ℤ negsuc 0 *ℤ pos 1 =
    plus_value (times (negsuc 0) l) (negsuc 0) (just (pos 1)) env in
    then_same (line_at_least 100 (plus (times (negsuc 0) l) (negsuc 0) (just (pos 1))) env)
    (λ h. omega (arith, ints, h, d, e), λ h. omega (arith, ints, h, d, e))

difference_same : (o : Order) (x y z : ℤ) → z ≡ x -ℤ y → Compares o z (pos 0) ↔ Compares o x y
difference_same Eq x y z e = (λ h. omega (arith, ints, h, e), λ h. omega (arith, ints, h, e))
difference_same Ne x y z e = (λ h i. h (omega (arith, ints, i, e)), λ h i. h (omega (arith, ints, i, e)))
difference_same Lt x y z e = (λ h. omega (arith, ints, h, e), λ h. omega (arith, ints, h, e))
difference_same Le x y z e = (λ h. omega (arith, ints, h, e), λ h. omega (arith, ints, h, e))
difference_same Gt x y z e = (λ h. omega (arith, ints, h, e), λ h. omega (arith, ints, h, e))
difference_same Ge x y z e = (λ h. omega (arith, ints, h, e), λ h. omega (arith, ints, h, e))

-- ---- relations
simple_holds : (r : RelTree) (env : List Value) → Holds (simple r) env ↔ Holds r env
simple_holds rel_true env = (λ h. h, λ h. h)
simple_holds rel_false env = (λ h. h, λ h. h)
simple_holds (rel_compare o a b) env =
    let l = plus (line_of a) (negsuc 0) (line_of b) in
    let e : line_value l env ≡ val a env -ℤ val b env =
    plus_value (line_of a) (negsuc 0) (line_of b) env ∙ rw (line_of_value a env, line_of_value b env) (omega (arith, ints)) in
    then_same (compared_holds o l env) (difference_same o (val a env) (val b env) (line_value l env) e)
simple_holds (rel_same_set a b) env = (λ h. h, λ h. h)
simple_holds (rel_other_set a b) env = (λ h. h, λ h. h)
simple_holds (rel_subset a b) env = (λ h. h, λ h. h)
simple_holds (rel_divides k t) env = by (int_le (pos 1) k) refl
  where
    by : (b : Bool) → int_le (pos 1) k ≡ b → Holds (if b then divides_line k (line_of t) else rel_divides k t) env ↔ Holds (rel_divides k t) env
    by true e = then_same (line_divides k (line_of t) env (one_at_most k e)) (same_divides k _ _ (line_of_value t env))
    by false e = (λ h. h, λ h. h)
simple_holds (rel_and a b) env =
    then_same (all_hold (simple a) (simple b) env)
    (λ p. ((simple_holds a env).0 p.0, (simple_holds b env).0 p.1), λ p. ((simple_holds a env).1 p.0, (simple_holds b env).1 p.1))
simple_holds (rel_or a b) env =
    then_same (any_holds (simple a) (simple b) env) (
      λ p. elim p [ inl x ↦ inl ((simple_holds a env).0 x) | inr x ↦ inr ((simple_holds b env).0 x) ],
      λ p. elim p [ inl x ↦ inl ((simple_holds a env).1 x) | inr x ↦ inr ((simple_holds b env).1 x) ],
    )
simple_holds (rel_not a) env =
    then_same (opposite_holds (simple a) env) (λ h x. h ((simple_holds a env).1 x), λ h x. h ((simple_holds a env).0 x))

pub simple_means_the_same : SimpleMeansTheSame simple
simple_means_the_same = simple_holds
