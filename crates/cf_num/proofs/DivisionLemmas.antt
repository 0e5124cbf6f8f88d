-- Division by a positive number, rounded down and up.
use Rattle.std.proofs.Common.{◌≡◌, ℤ, pos, negsuc, neg_ℤ, ◌+ℤ◌, ◌*ℤ◌, ◌<◌, arith, ⊎_elim}
use Rattle.std.specs.Prelude.{◌≤ℤ◌, ◌<ℤ◌, ◌↔◌}
use Rattle.std.specs.Int.{int_div_euclid}
use Rattle.std.proofs.lemmas.Int.{ints}
use Rattle.std.proofs.Math.Nat.{div-add-mod, mod-lt}
use Rattle.cf_num.specs.Division.{IsFloor, IsCeiling}
use Rattle.cf_num.proofs.Ring.{ring, mul-add_z, mul_comm_z, neg-mul_z}
use Rattle.cf_num.proofs.Orders.{mul-le_z, le_or_lt_z, lt-mul_cancel_z}

-- `int_div_euclid a k`, for k at least 1, is the one n with n * k <= a < n * k + k
pub int_div_euclid-bounds : (a k : ℤ) → pos 0 <ℤ k → ((k *ℤ int_div_euclid a k) ≤ℤ a) × (a <ℤ (k *ℤ int_div_euclid a k +ℤ k))
int_div_euclid-bounds (pos a) (pos k) h = let p : 0 < k = omega (arith, ints) in
    (omega (arith, ints, div-add-mod a k), omega (arith, ints, mod-lt a p, div-add-mod a k))
int_div_euclid-bounds (negsuc a) (pos k) h = let p : 0 < k = omega (arith, ints) in
    (omega (arith, ints, mod-lt a p, div-add-mod a k), omega (arith, ints, div-add-mod a k))
int_div_euclid-bounds a (negsuc k) h = absurd (omega (arith, ints))

-- n is at most the quotient exactly where n * k is at most a
pub le-int_div_euclid : (n a k : ℤ) → pos 0 <ℤ k → (n ≤ℤ int_div_euclid a k) ↔ ((k *ℤ n) ≤ℤ a)
le-int_div_euclid n a k h =
    let d = int_div_euclid-bounds a k h in (
      λ p. let q = mul-le_z k n (int_div_euclid a k) (omega (arith, ints)) p in omega (arith, ints),
      λ p. ⊎_elim (λ q. q) (λ q. absurd (
          let r : (int_div_euclid a k +ℤ pos 1) ≤ℤ n = omega (arith, ints) in
          let s = simp mul-add_z at (mul-le_z k (int_div_euclid a k +ℤ pos 1) n (omega (arith, ints)) r) in
          omega (arith, ints))) (le_or_lt_z n (int_div_euclid a k)),
    )

-- the quotient is the one n with k * n <= a < k * n + k
pub int_div_euclid_once : (a k n : ℤ) → pos 0 <ℤ k → (k *ℤ n) ≤ℤ a → a <ℤ (k *ℤ n +ℤ k) → int_div_euclid a k ≡ n
int_div_euclid_once a k n h p q =
    let d = int_div_euclid-bounds a k h in
    let i : n ≤ℤ int_div_euclid a k = (le-int_div_euclid n a k h).1 p in
    let j : (k *ℤ int_div_euclid a k) <ℤ (k *ℤ (n +ℤ pos 1)) = simp ring (omega (arith, ints)) in
    let l = lt-mul_cancel_z k (int_div_euclid a k) (n +ℤ pos 1) h j in
    omega (arith, ints)

pub int_div_euclid-one : (a : ℤ) → int_div_euclid a (pos 1) ≡ a
int_div_euclid-one a = let one : pos 0 <ℤ pos 1 = omega (arith, ints) in int_div_euclid_once a (pos 1) a one (omega (arith, ints)) (omega (arith, ints))

pub IsFloor-int_div_euclid : (a k : ℤ) → pos 0 <ℤ k → IsFloor a k (int_div_euclid a k)
IsFloor-int_div_euclid a k h m =
    let w = le-int_div_euclid m a k h in
    let c = mul_comm_z m k in
    ((λ p. w.1 (omega (arith, ints))), (λ p. let q = w.0 p in omega (arith, ints)))

pub IsCeiling-int_div_euclid : (a k : ℤ) → pos 0 <ℤ k → IsCeiling a k (neg_ℤ (int_div_euclid (neg_ℤ a) k))
IsCeiling-int_div_euclid a k h m =
    let w = IsFloor-int_div_euclid (neg_ℤ a) k h (neg_ℤ m) in
    let c = neg-mul_z m k in
    ((λ p. let q = w.0 (omega (arith, ints)) in omega (arith, ints)), (λ p. let q = w.1 (omega (arith, ints)) in omega (arith, ints)))

-- a number has one floor
pub floor_once : (a k n m : ℤ) → IsFloor a k n → IsFloor a k m → n ≡ m
floor_once a k n m f g =
    let p = (g n).0 ((f n).1 (omega (arith, ints))) in
    let q = (f m).0 ((g m).1 (omega (arith, ints))) in
    omega (arith, ints)

-- and one ceiling
pub ceiling_once : (a k n m : ℤ) → IsCeiling a k n → IsCeiling a k m → n ≡ m
ceiling_once a k n m f g =
    let p = (f m).0 ((g m).1 (omega (arith, ints))) in
    let q = (g n).0 ((f n).1 (omega (arith, ints))) in
    omega (arith, ints)
