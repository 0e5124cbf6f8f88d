-- The test whether a relation holds decides it.
use Rattle.std.proofs.Common.{inl, inr, refl, ◌≡◌, ◌≤ℤ◌, ◌<ℤ◌, ◌-ℤ◌, ◌+ℤ◌, ◌*ℤ◌, ◌⊎◌, ◌∙◌, ℤ, zero, suc, pos, negsuc, neg_ℤ, int_lt, Bool, true, false, not, ◌&&◌, ◌||◌, List, Decides, Result, Ok, Err, IfOk, sym, subst, arith}
use Rattle.cf_num.proofs.Ring.{ring}
use Rattle.std.proofs.lemmas.Int.{ints}
use Rattle.std.specs.Int.{int_div_euclid}
use Rattle.std.specs.Ordering.{int_eq}
use Rattle.cf_num.proofs.DivisionLemmas.{int_div_euclid_once}
use Rattle.cf_tree.specs.declared.base.Order.{Order}
use Rattle.cf_tree.specs.declared.base.Order.TheVariants.{Eq, Ne, Lt, Le, Gt, Ge}
use Rattle.cf_tree.specs.Numbers.{Compares, quotient, remainder, is_multiple}
use Rattle.cf_tree.specs.Relation.{Holds, members, val}
use Rattle.cf_tree.specs.RelTree.{RelTree, rel_true, rel_false, rel_compare, rel_same_set, rel_other_set, rel_subset, rel_divides, rel_and, rel_or, rel_not}
use Rattle.cf_tree.specs.Values.{Value, number, compared, same_list}
use Rattle.cf_tree.proofs.SetLemmas.{eq_is, eq_same, lt_is, lt_not, is_subset-iff, same_list-iff}
use Rattle.cf_holds.specs.declared.fault.HoldFault.{HoldFault}
use Rattle.cf_holds.specs.Truth.{divides, is_true}

-- ---- joined
decides_and : (P Q : Type 0) (a b : Bool) → Decides a P → Decides b Q → Decides (a && b) (P × Q)
decides_and P Q true b p q = (λ e. (p.0 refl, q.0 e), λ h. q.1 h.1)
decides_and P Q false b p q = (λ e. let d : false ≡ true = e in cc, λ h. p.1 h.0)

decides_or : (P Q : Type 0) (a b : Bool) → Decides a P → Decides b Q → Decides (a || b) (P ⊎ Q)
decides_or P Q true b p q = (λ e. inl (p.0 refl), λ h. refl)
decides_or P Q false b p q = (λ e. inr (q.0 e), λ h. elim h [ inl x ↦ (let e : false ≡ true = p.1 x in cc) | inr y ↦ q.1 y ])

decides_not : (P : Type 0) (a : Bool) → Decides a P → Decides (not a) (P → ⊥)
decides_not P true p = (λ e. let d : false ≡ true = e in cc, λ h. absurd (h (p.0 refl)))
decides_not P false p = (λ e x. let d : false ≡ true = p.1 x in cc, λ h. refl)

decides_as : (P Q : Type 0) (a : Bool) → (P → Q) → (Q → P) → Decides a P → Decides a Q
decides_as P Q a f g p = (λ e. f (p.0 e), λ q. p.1 (g q))

-- where the test decides what is not so
decides_unless : (P : Type 0) (b : Bool) → (b ≡ false → P) → (b ≡ true → P → ⊥) → Decides (not b) P
decides_unless P true f g = (λ e. let d : false ≡ true = e in cc, λ p. absurd (g refl p))
decides_unless P false f g = (λ e. f refl, λ p. refl)

-- ---- comparisons
compares : (o : Order) (x y : ℤ) → Decides (compared o (number x) (number y)) (Compares o x y)
compares Eq x y = (eq_is x y, eq_same x y)
compares Ne x y = decides_not (x ≡ y) (int_eq x y) (eq_is x y, eq_same x y)
compares Lt x y = (lt_is x y, λ h. grind (arith, ints))
compares Le x y = decides_unless _ (int_lt y x) (lt_not y x) (λ e h. let g = lt_is y x e in omega (arith, ints))
compares Gt x y = (lt_is y x, λ h. grind (arith, ints))
compares Ge x y = decides_unless _ (int_lt x y) (lt_not x y) (λ e h. let g = lt_is x y e in omega (arith, ints))

-- ---- multiples
abbrev IsMultiple : ℤ → ℤ → Type 0
IsMultiple k z = (q : ℤ) × (z ≡ k *ℤ q)

positive_quotient : (z k : ℤ) → pos 1 ≤ℤ k → quotient z k ≡ int_div_euclid z k
positive_quotient z k l =
    let some : int_lt (pos 0) k ≡ true = grind (arith, ints) in
    rw some refl

multiple_low : (z m k : ℤ) → z ≡ m → pos 1 ≤ℤ k → (m ≤ℤ z) × (z <ℤ (m +ℤ k))
multiple_low z m k e h = (omega (arith, ints), omega (arith, ints))

multiple_none : (k z q : ℤ) → pos 1 ≤ℤ k → z ≡ k *ℤ q → remainder z k ≡ pos 0
multiple_none k z q l e =
    let low = multiple_low z (k *ℤ q) k e l in
    let same : quotient z k ≡ q = positive_quotient z k l ∙ int_div_euclid_once z k q (omega (arith, ints)) low.0 low.1 in
    rw (same, e) (omega (arith, ints))

no_rest : (z m : ℤ) → z -ℤ m ≡ pos 0 → z ≡ m
no_rest z m e = omega (arith, ints)

positive : (k z : ℤ) → pos 1 ≤ℤ k → Decides (is_multiple k z) (IsMultiple k z)
positive k z l =
    (λ e. (quotient z k, no_rest z (k *ℤ quotient z k) (eq_is (remainder z k) (pos 0) e)), λ h. eq_same (remainder z k) (pos 0) (multiple_none k z h.0 l h.1))

none_of_zero : (z q : ℤ) → z ≡ pos 0 *ℤ q → z -ℤ pos 0 *ℤ pos 0 ≡ pos 0
none_of_zero z q e = omega (arith, ints)

multiples : (k z : ℤ) → Decides (divides k z) (IsMultiple k z)
multiples (pos zero) z =
    (λ e. (pos 0, no_rest z (pos 0 *ℤ pos 0) (eq_is (z -ℤ pos 0 *ℤ pos 0) (pos 0) e)), λ h. eq_same (z -ℤ pos 0 *ℤ pos 0) (pos 0) (none_of_zero z h.0 h.1))
multiples (pos (suc n)) z = positive (pos (suc n)) z (omega (arith, ints))
multiples (negsuc n) z =
    decides_as (IsMultiple (pos (suc n)) z) (IsMultiple (negsuc n) z) (divides (negsuc n) z)
    (λ h. (neg_ℤ h.0, h.1 ∙ turned (pos (suc n)) h.0))
    (λ h. (neg_ℤ h.0, h.1 ∙ turned (negsuc n) h.0)) (positive (pos (suc n)) z (omega (arith, ints)))
  where
    turned : (k q : ℤ) → k *ℤ q ≡ neg_ℤ k *ℤ neg_ℤ q
    turned k q = simp ring (omega (arith, ints))

-- ---- the whole
pub decided : (r : RelTree) (env : List Value) → Decides (is_true r env) (Holds r env)
decided rel_true env = (λ e. tt, λ h. refl)
decided rel_false env = (λ e. let d : false ≡ true = e in cc, λ h. absurd h)
decided (rel_compare o a b) env = compares o (val a env) (val b env)
decided (rel_same_set a b) env = same_list-iff (members a env) (members b env)
decided (rel_other_set a b) env = decides_not (members a env ≡ members b env) (same_list (members a env) (members b env)) (same_list-iff (members a env) (members b env))
decided (rel_subset a b) env = is_subset-iff (members a env) (members b env)
decided (rel_divides k t) env = multiples k (val t env)
decided (rel_and a b) env = decides_and (Holds a env) (Holds b env) (is_true a env) (is_true b env) (decided a env) (decided b env)
decided (rel_or a b) env = decides_or (Holds a env) (Holds b env) (is_true a env) (is_true b env) (decided a env) (decided b env)
decided (rel_not a) env = decides_not (Holds a env) (is_true a env) (decided a env)

pub told : (r : RelTree) (env : List Value) (o : Result Bool HoldFault) → IfOk o (λ b. b ≡ is_true r env) → IfOk o (λ b. Decides b (Holds r env))
told r env (Ok b) e = subst (λ t. Decides t (Holds r env)) (sym e) (decided r env)
told r env (Err f) e = tt
