-- The arithmetic of Clean and of a Bound step, over whole numbers without bound.
use Rattle.std.proofs.Common.{◌≡◌, ℤ, pos, neg_ℤ, ◌+ℤ◌, ◌-ℤ◌, ◌*ℤ◌, ap, arith, ◌⊎◌, ⊎_elim, ◌↔◌}
use Rattle.std.specs.Prelude.{◌≤ℤ◌, ◌<ℤ◌}
use Rattle.std.specs.Int.{int_div_euclid}
use Rattle.std.proofs.lemmas.Int.{ints}
use Rattle.cf_num.proofs.Ring.{ring}
use Rattle.cf_num.proofs.Orders.{mul-le_z, lt-mul_cancel_z}
use Rattle.cf_num.proofs.DivisionLemmas.{int_div_euclid-bounds, le-int_div_euclid, int_div_euclid-one}

abbrev pub zero_value : ℤ → Type 0
zero_value z = z ≡ pos 0

abbrev pub nonneg_value : ℤ → Type 0
nonneg_value z = pos 0 ≤ℤ z

-- ---- Clean: a common factor of the unknowns' part
pub tighten : (g u r : ℤ) → pos 0 <ℤ g → (pos 0 ≤ℤ (g *ℤ u +ℤ r)) ↔ (pos 0 ≤ℤ (u +ℤ int_div_euclid r g))
tighten g u r h =
    let k = le-int_div_euclid (neg_ℤ u) r g h in (
      λ p. let i : (g *ℤ neg_ℤ u) ≤ℤ r = simp ring (omega (arith, ints)) in let j = k.1 i in omega (arith, ints),
      λ p. let i = simp ring at (k.0 (omega (arith, ints))) in omega (arith, ints),
    )

-- ---- Bound: a pair of bounds
-- what two bounds say of each other
pub pair_from : (p q l m x : ℤ) → pos 0 <ℤ p → pos 0 <ℤ q → pos 0 ≤ℤ (p *ℤ x +ℤ l) → pos 0 ≤ℤ (neg_ℤ q *ℤ x +ℤ m) → pos 0 ≤ℤ (q *ℤ l +ℤ p *ℤ m)
pair_from p q l m x hp hq lower upper =
    let i = simp ring at (mul-le_z q (pos 0) (p *ℤ x +ℤ l) (omega (arith, ints)) lower) in
    let j = simp ring at (mul-le_z p (pos 0) (neg_ℤ q *ℤ x +ℤ m) (omega (arith, ints)) upper) in
    omega (arith, ints)

pub lower_iff : (p l x : ℤ) → pos 0 <ℤ p → (pos 0 ≤ℤ (p *ℤ x +ℤ l)) ↔ (neg_ℤ (int_div_euclid l p) ≤ℤ x)
lower_iff p l x h =
    let k = tighten p x l h in
    (λ i. let j = k.0 i in omega (arith, ints), λ i. k.1 (omega (arith, ints)))

pub upper_iff : (q m x : ℤ) → pos 0 <ℤ q → (pos 0 ≤ℤ (neg_ℤ q *ℤ x +ℤ m)) ↔ (x ≤ℤ int_div_euclid m q)
upper_iff q m x h =
    let k = le-int_div_euclid x m q h in
    (λ i. k.1 (let j = simp ring at i in omega (arith, ints)), λ i. let j = k.0 i in simp ring (omega (arith, ints)))

-- the lowest x of a lower bound meets an upper bound, where one of the two coefficients is 1
pub pair_meets : (p q l m : ℤ) → pos 0 <ℤ p → pos 0 <ℤ q → (p ≡ pos 1) ⊎ (q ≡ pos 1) → pos 0 ≤ℤ (q *ℤ l +ℤ p *ℤ m) →
    pos 0 ≤ℤ (neg_ℤ q *ℤ neg_ℤ (int_div_euclid l p) +ℤ m)
pair_meets p q l m hp hq one h =
    ⊎_elim
    (λ e. let f : int_div_euclid l p ≡ l = rw e (int_div_euclid-one l) in let h' = rw e at h in rw f (simp ring (omega (arith, ints))))
    (λ e. let h' = rw e at h in let i = (tighten p m l hp).0 (omega (arith, ints)) in rw e (omega (arith, ints))) one

-- ---- Bound: the search over remainders
-- each x of the lower bound has a k, and the k and n do not depend on x
pub search_from : (p l x : ℤ) → pos 0 <ℤ p → pos 0 ≤ℤ (p *ℤ x +ℤ l) →
    (k : ℤ) × (n : ℤ) × (pos 0 ≤ℤ k) × (k <ℤ p) × (neg_ℤ l +ℤ k -ℤ p *ℤ n ≡ pos 0) × (pos 0 ≤ℤ (x -ℤ n))
search_from p l x h i =
    let n = neg_ℤ (int_div_euclid l p) in
    let d = int_div_euclid-bounds l p h in
    let j = (lower_iff p l x h).0 i in
    (l +ℤ p *ℤ n, n, simp ring (omega (arith, ints)), simp ring (omega (arith, ints)), omega (arith, ints), omega (arith, ints))

pub search_back : (p l x k n : ℤ) → pos 0 <ℤ p → pos 0 ≤ℤ k → neg_ℤ l +ℤ k -ℤ p *ℤ n ≡ pos 0 → pos 0 ≤ℤ (x -ℤ n) → pos 0 ≤ℤ (p *ℤ x +ℤ l)
search_back p l x k n h low e i =
    let j = mul-le_z p n x (omega (arith, ints)) (omega (arith, ints)) in
    omega (arith, ints)

-- no other k does
pub search_once : (p l k n k' n' : ℤ) → pos 0 <ℤ p → pos 0 ≤ℤ k → k <ℤ p → pos 0 ≤ℤ k' → k' <ℤ p →
    neg_ℤ l +ℤ k -ℤ p *ℤ n ≡ pos 0 → neg_ℤ l +ℤ k' -ℤ p *ℤ n' ≡ pos 0 → (k ≡ k') × (n ≡ n')
search_once p l k n k' n' h a b a' b' e e' =
    let below : (x y : ℤ) → (p *ℤ x) <ℤ (p *ℤ y +ℤ p) → x ≤ℤ y = λ (x y : ℤ). λ (q : (p *ℤ x) <ℤ (p *ℤ y +ℤ p)).
    let z : (p *ℤ x) <ℤ (p *ℤ (y +ℤ pos 1)) = simp ring (omega (arith, ints)) in
    let w = lt-mul_cancel_z p x (y +ℤ pos 1) h z in omega (arith, ints)
    in
    let s : n ≡ n' = let i = below n n' (omega (arith, ints)) in let j = below n' n (omega (arith, ints)) in omega (arith, ints) in
    (let t = ap (λ x. p *ℤ x) s in omega (arith, ints), s)
