-- Numbers within the limit, and their absolute values.
use Rattle.std.proofs.Common.{◌≡◌, ◌≤ℤ◌, ◌<ℤ◌, ◌-◌, ◌^◌, ◌*ℤ◌, ℕ, ℤ, pos, negsuc, neg_ℤ, unsigned_abs, nat_le, Bool, true, false, [], Option, Some, None, IfSome, if◌then◌else◌, refl, sym, subst, ◌∙◌, arith}
use Rattle.std.specs.Prelude.{IsTrue, MatchBool}
use Rattle.std.proofs.lemmas.Int.{ints}
use Rattle.cf_num.specs.Limit.{within}
use Rattle.cf_tree.specs.Numbers.{absolute}
use Rattle.cf_tree.specs.Relation.{is_fixed, val}
use Rattle.cf_tree.specs.RelTree.{TermTree, term_mul}
use Rattle.cf_advice.specs.Factors.{IsFlat, factor}

kept : (z : ℤ) (fits : Bool) → IfSome (if fits then Some z else None) (λ k. k ≡ z)
kept z true = refl
kept z false = tt

-- a number within the limit is the one that was computed
pub within_is : (z : ℤ) (n : Option ℤ) → n ≡ within z → IfSome n (λ k. k ≡ z)
within_is z n e = subst (λ m. IfSome m (λ k. k ≡ z)) (sym e) (kept z (nat_le (unsigned_abs z) (2 ^ 127 - 1)))

pub negative : (x : ℤ) → x <ℤ pos 0 → neg_ℤ x ≡ absolute x
negative (pos n) l = absurd (omega (arith, ints))
negative (negsuc n) l = refl

pub other : (x : ℤ) → pos 0 ≤ℤ x → x ≡ absolute x
other (pos n) l = refl
other (negsuc n) l = absurd (omega (arith, ints))

-- ---- products
-- by which side is fixed
left_by : (f : Bool) (m n : ℤ) → f ≡ true → (if f then m else n) ≡ m
left_by true m n e = refl
left_by false m n e = let d : false ≡ true = e in cc

right_by : (f : Bool) (m n : ℤ) → f ≡ false → (if f then m else n) ≡ n
right_by true m n e = let d : true ≡ false = e in cc
right_by false m n e = refl

is_so : (b : Bool) → b ≡ true → IsTrue b
is_so b e = e

flat_left : (f : Bool) (P Q : Type 0) → f ≡ true → P → MatchBool f P Q
flat_left true P Q e p = p
flat_left false P Q e p = let d : false ≡ true = e in cc

flat_right : (f : Bool) (P Q : Type 0) → f ≡ false → Q → MatchBool f P Q
flat_right true P Q e q = let d : true ≡ false = e in cc
flat_right false P Q e q = q

pub left_value : (x : ℕ) (a b : TermTree) (c k n : ℤ) → is_fixed a ≡ true → c ≡ val a [] → k ≡ factor x b → n ≡ c *ℤ k → n ≡ factor x (term_mul a b)
left_value x a b c k n e f g h = h ∙ rw (f, g) (sym (left_by (is_fixed a) (val a [] *ℤ factor x b) (factor x a *ℤ val b []) e))

pub right_value : (x : ℕ) (a b : TermTree) (c k n : ℤ) → is_fixed a ≡ false → c ≡ val b [] → k ≡ factor x a → n ≡ k *ℤ c → n ≡ factor x (term_mul a b)
right_value x a b c k n e f g h = h ∙ rw (f, g) (sym (right_by (is_fixed a) (val a [] *ℤ factor x b) (factor x a *ℤ val b []) e))

pub left_flat : (x : ℕ) (a b : TermTree) → is_fixed a ≡ true → IsFlat x b → IsFlat x (term_mul a b)
left_flat x a b e h = flat_left (is_fixed a) (IsFlat x b) (IsTrue (is_fixed b) × IsFlat x a) e h

pub right_flat : (x : ℕ) (a b : TermTree) → is_fixed a ≡ false → is_fixed b ≡ true → IsFlat x a → IsFlat x (term_mul a b)
right_flat x a b e f h = flat_right (is_fixed a) (IsFlat x b) (IsTrue (is_fixed b) × IsFlat x a) e (is_so (is_fixed b) f, h)
