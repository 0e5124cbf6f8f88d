-- Numbers that lie in ranges, and what arithmetic makes of them.
use Rattle.std.proofs.Common.{◌≡◌, ◌≤◌, ℕ, ℤ, pos, neg_ℤ, ◌+ℤ◌, ◌-ℤ◌, ◌*ℤ◌, Bool, true, false, ◌||◌, cond, length, refl, ◌∙◌, arith}
use Rattle.std.specs.Prelude.{unsigned_abs, int_lt, ◌≤ℤ◌, ◌<ℤ◌}
use Rattle.std.specs.Int.{int_min, int_max, int_div_euclid}
use Rattle.std.proofs.lemmas.Int.{ints, clamps, by_lt_z}
use Rattle.std.proofs.lemmas.Bool.{ltb-false}
use Rattle.cf_num.specs.Limit.{limit, IsWithin}
use Rattle.cf_num.proofs.Ring.{mul_comm_z, neg-mul_z, add-mul_z}
use Rattle.cf_num.proofs.Orders.{mul-le_z}
use Rattle.cf_num.proofs.DivisionLemmas.{int_div_euclid-bounds, le-int_div_euclid}
use Rattle.cf_tree.specs.Numbers.{quotient, remainder}
use Rattle.cf_tree.specs.Values.{Value, number, truth, elements, elements_of}
use Rattle.cf_tree.specs.declared.base.Base.TheVariants.{Set}
use Rattle.cf_range.specs.Ranges.{between, whole, LiesIn, IsSized, IsHeld, param_range, passes, nearest, plus, minus, times, plus_passes, minus_passes, times_passes, negated, divided, left_by, sizes, better_of, either}
use Rattle.cf_range.specs.declared.range.Range.{Range}
use Rattle.cf_range.proofs.RisenLaws.{Rises}

pub or_false : (a b : Bool) → (a || b) ≡ false → (a ≡ false) × (b ≡ false)
or_false true b e = cc
or_false false b e = (refl, e)

pub within_is : (z : ℤ) → passes z ≡ false → IsWithin z
within_is z h = ltb-false limit (unsigned_abs z) h

le_then : (a b c : ℤ) → a ≤ℤ b → b ≤ℤ c → a ≤ℤ c
le_then a b c h k = omega (arith, ints)

-- ---- the nearest number within the limit
near_low : (a z : ℤ) → IsWithin z → a ≤ℤ z → nearest a ≤ℤ z
near_low a z w h = omega (arith, ints, clamps)

near_high : (a z : ℤ) → IsWithin z → z ≤ℤ a → z ≤ℤ nearest a
near_high a z w h = omega (arith, ints, clamps)

pub lies_whole : (z : ℤ) → IsWithin z → LiesIn whole z
lies_whole z w = (w, omega (arith, ints), omega (arith, ints))

pub lies_exactly : (z : ℤ) → IsWithin z → LiesIn (between (nearest z) (nearest z)) z
lies_exactly z w = (w, near_low z z w (omega (arith, ints)), near_high z z w (omega (arith, ints)))

pub zero_lies : LiesIn (between (pos 0) (pos 0)) (pos 0)
zero_lies = (omega arith, omega (arith, ints), omega (arith, ints))

-- ---- sizes of sets
pub sized_whole : (v : Value) → Rises v → IsSized whole v
sized_whole (number z) h = tt
sized_whole (truth b) h = tt
sized_whole (elements zs) h = (h, most (length zs))
  where
    most : (n : ℕ) → nearest (pos n) ≤ℤ pos limit
    most n = omega (arith, ints, clamps)

pub sized_held : (v : Value) → Rises v → IsHeld v → IsSized (param_range Set) v
sized_held (number z) h k = tt
sized_held (truth b) h k = tt
sized_held (elements zs) h k = (h, most (length zs) k)
  where
    most : (n : ℕ) → n ≤ 9223372036854775807 → nearest (pos n) ≤ℤ pos 9223372036854775807
    most n k = omega (arith, ints, clamps, k)

pub sized_rises : (r : Range) (v : Value) → IsSized r v → Rises v
sized_rises r (number z) h = tt
sized_rises r (truth b) h = tt
sized_rises r (elements zs) h = h.0

size_in : (high : ℤ) (n : ℕ) → IsWithin (pos n) → nearest (pos n) ≤ℤ high → LiesIn (between (pos 0) (int_max (pos 0) high)) (pos n)
size_in high n w h = (w, omega (arith, ints), omega (arith, ints, clamps))

none_in : (high : ℤ) → LiesIn (between (pos 0) (int_max (pos 0) high)) (pos 0)
none_in high = (omega arith, omega (arith, ints), omega (arith, ints, clamps))

pub size_lies : (r : Range) (v : Value) → IsSized r v → IsWithin (pos (length (elements_of v))) → LiesIn (sizes r) (pos (length (elements_of v)))
size_lies r (number z) h w = none_in r.high
size_lies r (truth b) h w = none_in r.high
size_lies r (elements zs) h w = size_in r.high (length zs) w h.1

sized_more : (r s : Range) (v : Value) → r.high ≤ℤ s.high → IsSized r v → IsSized s v
sized_more r s (number z) l h = tt
sized_more r s (truth b) l h = tt
sized_more r s (elements zs) l h = (h.0, le_then (nearest (pos (length zs))) r.high s.high h.1 l)

pub sized_either : (r s : Range) (t : Bool) (v : Value) → IsSized (cond t r s) v → IsSized (either r s) v
sized_either r s true v h = sized_more r (either r s) v (omega (arith, ints, clamps)) h
sized_either r s false v h = sized_more s (either r s) v (omega (arith, ints, clamps)) h

-- ---- sums and differences
pub sum_lies : (r s : Range) (x y : ℤ) → LiesIn r x → LiesIn s y → IsWithin (x +ℤ y) → LiesIn (plus r s) (x +ℤ y)
sum_lies r s x y (a, b, c) (d, e, f) w =
    (w, near_low (r.low +ℤ s.low) (x +ℤ y) w (omega (arith, ints)), near_high (r.high +ℤ s.high) (x +ℤ y) w (omega (arith, ints)))

pub difference_lies : (r s : Range) (x y : ℤ) → LiesIn r x → LiesIn s y → IsWithin (x -ℤ y) → LiesIn (minus r s) (x -ℤ y)
difference_lies r s x y (a, b, c) (d, e, f) w =
    (w, near_low (r.low -ℤ s.high) (x -ℤ y) w (omega (arith, ints)), near_high (r.high -ℤ s.low) (x -ℤ y) w (omega (arith, ints)))

pub sum_fits : (r s : Range) (x y : ℤ) → LiesIn r x → LiesIn s y → plus_passes r s ≡ false → IsWithin (x +ℤ y)
sum_fits r s x y (a, b, c) (d, e, f) p =
    let o = or_false _ _ p in
    let low = within_is (r.low +ℤ s.low) o.0 in
    let high = within_is (r.high +ℤ s.high) o.1 in
    omega (arith, ints)

pub difference_fits : (r s : Range) (x y : ℤ) → LiesIn r x → LiesIn s y → minus_passes r s ≡ false → IsWithin (x -ℤ y)
difference_fits r s x y (a, b, c) (d, e, f) p =
    let o = or_false _ _ p in
    let low = within_is (r.low -ℤ s.high) o.0 in
    let high = within_is (r.high -ℤ s.low) o.1 in
    omega (arith, ints)

-- ---- products
-- a product with a factor between two numbers is not below both products with these, and not above both
not_below : {P : Type 0} (a b x y : ℤ) → a ≤ℤ x → x ≤ℤ b → ((a *ℤ y) ≤ℤ (x *ℤ y) → P) → ((b *ℤ y) ≤ℤ (x *ℤ y) → P) → P
not_below a b x y h k f g = by_lt_z y (pos 0)
    (λ n. g (let p = mul-le_z (neg_ℤ y) x b (omega (arith, ints)) k in
    omega (arith, ints, neg-mul_z y x, neg-mul_z y b, mul_comm_z x y, mul_comm_z b y)))
    (λ n. f (let p = mul-le_z y a x n h in omega (arith, ints, mul_comm_z x y, mul_comm_z a y)))

not_above : {P : Type 0} (a b x y : ℤ) → a ≤ℤ x → x ≤ℤ b → ((x *ℤ y) ≤ℤ (a *ℤ y) → P) → ((x *ℤ y) ≤ℤ (b *ℤ y) → P) → P
not_above a b x y h k f g = by_lt_z y (pos 0)
    (λ n. f (let p = mul-le_z (neg_ℤ y) a x (omega (arith, ints)) h in
    omega (arith, ints, neg-mul_z y x, neg-mul_z y a, mul_comm_z x y, mul_comm_z a y)))
    (λ n. g (let p = mul-le_z y x b n k in omega (arith, ints, mul_comm_z x y, mul_comm_z b y)))

-- so some corner is not above it
some_below : {P : Type 0} (r s : Range) (x y : ℤ) → LiesIn r x → LiesIn s y → ((r.low *ℤ s.low) ≤ℤ (x *ℤ y) → P) →
    ((r.low *ℤ s.high) ≤ℤ (x *ℤ y) → P) → ((r.high *ℤ s.low) ≤ℤ (x *ℤ y) → P) → ((r.high *ℤ s.high) ≤ℤ (x *ℤ y) → P) → P
some_below r s x y (a, b, c) (d, e, f) ll lh hl hh = not_below r.low r.high x y b c
    (λ p. not_below s.low s.high y r.low e f
    (λ q. ll (omega (arith, ints, mul_comm_z s.low r.low, mul_comm_z y r.low)))
    (λ q. lh (omega (arith, ints, mul_comm_z s.high r.low, mul_comm_z y r.low))))
    (λ p. not_below s.low s.high y r.high e f
    (λ q. hl (omega (arith, ints, mul_comm_z s.low r.high, mul_comm_z y r.high)))
    (λ q. hh (omega (arith, ints, mul_comm_z s.high r.high, mul_comm_z y r.high))))

some_above : {P : Type 0} (r s : Range) (x y : ℤ) → LiesIn r x → LiesIn s y → ((x *ℤ y) ≤ℤ (r.low *ℤ s.low) → P) →
    ((x *ℤ y) ≤ℤ (r.low *ℤ s.high) → P) → ((x *ℤ y) ≤ℤ (r.high *ℤ s.low) → P) → ((x *ℤ y) ≤ℤ (r.high *ℤ s.high) → P) → P
some_above r s x y (a, b, c) (d, e, f) ll lh hl hh = not_above r.low r.high x y b c
    (λ p. not_above s.low s.high y r.low e f
    (λ q. ll (omega (arith, ints, mul_comm_z s.low r.low, mul_comm_z y r.low)))
    (λ q. lh (omega (arith, ints, mul_comm_z s.high r.low, mul_comm_z y r.low))))
    (λ p. not_above s.low s.high y r.high e f
    (λ q. hl (omega (arith, ints, mul_comm_z s.low r.high, mul_comm_z y r.high)))
    (λ q. hh (omega (arith, ints, mul_comm_z s.high r.high, mul_comm_z y r.high))))

abbrev least_of_four : ℤ → ℤ → ℤ → ℤ → ℤ
least_of_four a b c d = int_min (int_min a b) (int_min c d)

abbrev greatest_of_four : ℤ → ℤ → ℤ → ℤ → ℤ
greatest_of_four a b c d = int_max (int_max a b) (int_max c d)

least_is : (a b c d : ℤ) → let m = least_of_four a b c d in (m ≤ℤ a) × (m ≤ℤ b) × (m ≤ℤ c) × (m ≤ℤ d)
least_is a b c d = (omega (arith, ints, clamps), omega (arith, ints, clamps), omega (arith, ints, clamps), omega (arith, ints, clamps))

greatest_is : (a b c d : ℤ) → let m = greatest_of_four a b c d in (a ≤ℤ m) × (b ≤ℤ m) × (c ≤ℤ m) × (d ≤ℤ m)
greatest_is a b c d = (omega (arith, ints, clamps), omega (arith, ints, clamps), omega (arith, ints, clamps), omega (arith, ints, clamps))

pub product_lies : (r s : Range) (x y : ℤ) → LiesIn r x → LiesIn s y → IsWithin (x *ℤ y) → LiesIn (times r s) (x *ℤ y)
product_lies r s x y h k w =
    let z = x *ℤ y in
    let m = least_is (nearest (r.low *ℤ s.low)) (nearest (r.high *ℤ s.low)) (nearest (r.low *ℤ s.high)) (nearest (r.high *ℤ s.high)) in
    let n = greatest_is (nearest (r.low *ℤ s.low)) (nearest (r.high *ℤ s.low)) (nearest (r.low *ℤ s.high)) (nearest (r.high *ℤ s.high)) in (
      w,
      some_below r s x y h k
          (λ p. le_then _ _ _ m.0 (near_low (r.low *ℤ s.low) z w p))
          (λ p. le_then _ _ _ m.2 (near_low (r.low *ℤ s.high) z w p))
          (λ p. le_then _ _ _ m.1 (near_low (r.high *ℤ s.low) z w p))
          (λ p. le_then _ _ _ m.3 (near_low (r.high *ℤ s.high) z w p)),
      some_above r s x y h k
          (λ p. le_then _ _ _ (near_high (r.low *ℤ s.low) z w p) n.0)
          (λ p. le_then _ _ _ (near_high (r.low *ℤ s.high) z w p) n.2)
          (λ p. le_then _ _ _ (near_high (r.high *ℤ s.low) z w p) n.1)
          (λ p. le_then _ _ _ (near_high (r.high *ℤ s.high) z w p) n.3),
    )

-- a number between two that are within the limit
low_end : (a z : ℤ) → IsWithin a → a ≤ℤ z → neg_ℤ (pos limit) ≤ℤ z
low_end a z w h = omega (arith, ints)

high_end : (a z : ℤ) → IsWithin a → z ≤ℤ a → z ≤ℤ pos limit
high_end a z w h = omega (arith, ints)

both_ends : (z : ℤ) → neg_ℤ (pos limit) ≤ℤ z → z ≤ℤ pos limit → IsWithin z
both_ends z h k = omega (arith, ints)

pub product_fits : (r s : Range) (x y : ℤ) → LiesIn r x → LiesIn s y → times_passes r s ≡ false → IsWithin (x *ℤ y)
product_fits r s x y h k p =
    let z = x *ℤ y in
    let o = or_false _ _ p in
    let low = or_false _ _ o.0 in
    let high = or_false _ _ o.1 in
    let ll = within_is (r.low *ℤ s.low) low.0 in
    let lh = within_is (r.low *ℤ s.high) low.1 in
    let hl = within_is (r.high *ℤ s.low) high.0 in
    let hh = within_is (r.high *ℤ s.high) high.1 in
    both_ends z (some_below r s x y h k (low_end _ z ll) (low_end _ z lh) (low_end _ z hl) (low_end _ z hh))
    (some_above r s x y h k (high_end _ z ll) (high_end _ z lh) (high_end _ z hl) (high_end _ z hh))

-- ---- the other operations
pub negation_fits : (x : ℤ) → IsWithin x → IsWithin (neg_ℤ x)
negation_fits x w = omega (arith, ints)

pub negation_lies : (r : Range) (x : ℤ) → LiesIn r x → LiesIn (negated r) (neg_ℤ x)
negation_lies r x (a, b, c) =
    let w = negation_fits x a in
    (w, near_low (neg_ℤ r.high) (neg_ℤ x) w (omega (arith, ints)), near_high (neg_ℤ r.low) (neg_ℤ x) w (omega (arith, ints)))

pub on_bool : {P : Type 0} (b : Bool) → (b ≡ true → P) → (b ≡ false → P) → P
on_bool true f g = f refl
on_bool false f g = g refl

is_positive : (k : ℤ) → int_lt (pos 0) k ≡ true → pos 0 <ℤ k
is_positive k h = omega (arith, ints, h)

-- a quotient by a positive number rises
div_rises : (a x k : ℤ) → pos 0 <ℤ k → a ≤ℤ x → int_div_euclid a k ≤ℤ int_div_euclid x k
div_rises a x k h l = (le-int_div_euclid (int_div_euclid a k) x k h).1 (let b = int_div_euclid-bounds a k h in omega (arith, ints, b.0))

pub quotient_rises : (a x k : ℤ) → a ≤ℤ x → quotient a k ≤ℤ quotient x k
quotient_rises a x k l = on_bool (int_lt (pos 0) k)
    (λ e. rw e (div_rises a x k (is_positive k e) l))
    (λ e. rw e (omega (arith, ints)))

div_fits : (x k : ℤ) → pos 0 <ℤ k → IsWithin x → IsWithin (int_div_euclid x k)
div_fits x k h w =
    let b = int_div_euclid-bounds x k h in
    let one : pos 1 ≤ℤ k = omega (arith, ints) in
    let q = int_div_euclid x k in
    by_lt_z q (pos 0)
    (λ n. let p = mul-le_z (neg_ℤ (q +ℤ pos 1)) (pos 1) k (omega (arith, ints)) one in
    omega (arith, ints, b.0, b.1, neg-mul_z (q +ℤ pos 1) k, neg-mul_z (q +ℤ pos 1) (pos 1), times_more q k))
    (λ n. let p = mul-le_z q (pos 1) k n one in omega (arith, ints, b.0, b.1, mul_comm_z q k))
  where
    times_more : (q k : ℤ) → (q +ℤ pos 1) *ℤ k ≡ k *ℤ q +ℤ k
    times_more q k = add-mul_z q (pos 1) k ∙ omega (arith, ints)

pub quotient_fits : (x k : ℤ) → IsWithin x → IsWithin (quotient x k)
quotient_fits x k w = on_bool (int_lt (pos 0) k)
    (λ e. rw e (div_fits x k (is_positive k e) w))
    (λ e. rw e (omega arith))

pub quotient_lies : (r : Range) (x k : ℤ) → LiesIn r x → LiesIn (divided r k) (quotient x k)
quotient_lies r x k (a, b, c) = (quotient_fits x k a, quotient_rises r.low x k b, quotient_rises x r.high k c)

pub remainder_fits : (x k : ℤ) → IsWithin x → IsWithin k → IsWithin (remainder x k)
remainder_fits x k w l = on_bool (int_lt (pos 0) k)
    (λ e. rw e (let b = int_div_euclid-bounds x k (is_positive k e) in omega (arith, ints, b.0, b.1)))
    (λ e. rw e (omega (arith, ints)))

pub remainder_lies : (r : Range) (x k : ℤ) → LiesIn r x → IsWithin (remainder x k) → LiesIn (left_by r k) (remainder x k)
remainder_lies r x k (a, b, c) w = on_bool (int_lt (pos 0) k)
    (λ e. let d = int_div_euclid-bounds x k (is_positive k e) in
    rw e (rw e at w, omega (arith, ints, d.0, d.1), omega (arith, ints, d.0, d.1)))
    (λ e. rw e (rw e at w, omega (arith, ints), omega (arith, ints)))

-- ---- the better of two numbers
-- it is one of both, and rises with both
pub record Chooses (better : ℤ → ℤ → ℤ) : Type 0 where
  pub fits : (x y : ℤ) → IsWithin x → IsWithin y → IsWithin (better x y)
  pub rises : (a b x y : ℤ) → a ≤ℤ x → b ≤ℤ y → better a b ≤ℤ better x y

pub least_chooses : Chooses int_min
least_chooses = record {
  fits = λ x y h k. omega (arith, ints, clamps);
  rises = λ a b x y h k. omega (arith, ints, clamps);
}

pub greatest_chooses : Chooses int_max
greatest_chooses = record {
  fits = λ x y h k. omega (arith, ints, clamps);
  rises = λ a b x y h k. omega (arith, ints, clamps);
}

pub better_lies : (better : ℤ → ℤ → ℤ) → Chooses better → (r s : Range) (x y : ℤ) → LiesIn r x → LiesIn s y → LiesIn (better_of better r s) (better x y)
better_lies better h r s x y (a, b, c) (d, e, f) = (h.fits x y a d, h.rises r.low s.low x y b e, h.rises x y r.high s.high c f)

pub either_lies : (r s : Range) (z : ℤ) (t : Bool) → LiesIn (cond t r s) z → LiesIn (either r s) z
either_lies r s z true (a, b, c) = (a, omega (arith, ints, clamps), omega (arith, ints, clamps))
either_lies r s z false (a, b, c) = (a, omega (arith, ints, clamps), omega (arith, ints, clamps))
