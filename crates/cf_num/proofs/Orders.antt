-- Order and products of whole numbers.
use Rattle.std.proofs.Common.{◌≡◌, ◌≢◌, ℤ, pos, negsuc, neg_ℤ, ◌*ℤ◌, zero, suc, ◌<◌, refl, arith, ◌⊎◌, inl, inr, ⊎_elim}
use Rattle.std.specs.Prelude.{◌≤ℤ◌, ◌<ℤ◌}
use Rattle.std.proofs.lemmas.Int.{ints, by_lt_z}
use Rattle.std.proofs.Math.Nat.{mul-le-mul_left, mul-lt-mul_of_pos_left}
use Rattle.cf_num.proofs.Ring.{ring}
use borrow.Author.Differences.{le_out, lt_out}

-- a positive or zero factor keeps an order
pub mul-le_z : (c a b : ℤ) → pos 0 ≤ℤ c → a ≤ℤ b → (c *ℤ a) ≤ℤ (c *ℤ b)
mul-le_z (pos n) a b k h = omega (arith, ints, mul-le-mul_left n (le_out a b h))
mul-le_z (negsuc n) a b k h = absurd (omega (arith, ints))

pub mul-lt_z : (c a b : ℤ) → pos 0 <ℤ c → a <ℤ b → (c *ℤ a) <ℤ (c *ℤ b)
mul-lt_z (pos n) a b k h = let p : 0 < n = omega (arith, ints) in omega (arith, ints, mul-lt-mul_of_pos_left (lt_out a b h) p)
mul-lt_z (negsuc n) a b k h = absurd (omega (arith, ints))

-- an order by cases
pub le_or_lt_z : (a b : ℤ) → (a ≤ℤ b) ⊎ (b <ℤ a)
le_or_lt_z a b = by_lt_z b a inr inl

-- cancellation of a positive factor
pub le-mul_cancel_z : (c a b : ℤ) → pos 0 <ℤ c → (c *ℤ a) ≤ℤ (c *ℤ b) → a ≤ℤ b
le-mul_cancel_z c a b k h = ⊎_elim (λ p. p) (λ p. absurd (let q = mul-lt_z c b a k p in omega (arith, ints))) (le_or_lt_z a b)

pub lt-mul_cancel_z : (c a b : ℤ) → pos 0 <ℤ c → (c *ℤ a) <ℤ (c *ℤ b) → a <ℤ b
lt-mul_cancel_z c a b k h = by_lt_z a b (λ p. p) (λ p. absurd (let q = mul-le_z c b a (omega (arith, ints)) p in omega (arith, ints)))

pub mul_cancel_z : (c a b : ℤ) → pos 0 <ℤ c → c *ℤ a ≡ c *ℤ b → a ≡ b
mul_cancel_z c a b k h =
    let p = le-mul_cancel_z c a b k (omega (arith, ints)) in
    let q = le-mul_cancel_z c b a k (omega (arith, ints)) in
    omega (arith, ints)

-- a factor other than 0 is cancelled
pub cancel_some_z : (c a b : ℤ) → c ≢ pos 0 → c *ℤ a ≡ c *ℤ b → a ≡ b
cancel_some_z (pos zero) a b h e = absurd (h refl)
cancel_some_z (pos (suc n)) a b h e = mul_cancel_z (pos (suc n)) a b (omega (arith, ints)) e
cancel_some_z (negsuc n) a b h e = mul_cancel_z (pos (suc n)) a b (omega (arith, ints)) (omega (arith, ints, e))

-- a multiple of n that is nearer to 0 than n is 0
pub zero_from_multiple : (n k : ℤ) → pos 0 <ℤ n → (n *ℤ k) <ℤ n → neg_ℤ n <ℤ (n *ℤ k) → k ≡ pos 0
zero_from_multiple n k h p q =
    let i = lt-mul_cancel_z n k (pos 1) h (omega (arith, ints)) in
    let j = lt-mul_cancel_z n (neg_ℤ (pos 1)) k h (simp ring (omega (arith, ints))) in
    omega (arith, ints)
