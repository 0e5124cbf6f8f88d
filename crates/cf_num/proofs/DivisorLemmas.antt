-- `gcd_of` gives the greatest common divisor, and `parts_of` the one triple of `IsBezout`.
use Rattle.std.proofs.Common.{◌≡◌, ◌≢◌, ℕ, zero, suc, ◌*◌, ◌/◌, ◌%◌, ◌<◌, ◌≤◌, ℤ, pos, negsuc, neg_ℤ, ◌+ℤ◌, ◌-ℤ◌, ◌*ℤ◌, refl, sym, ap, ◌∙◌, arith}
use Rattle.std.specs.Prelude.{◌≤ℤ◌, ◌<ℤ◌, unsigned_abs}
use Rattle.std.specs.Int.{IsGcd, int_div_euclid, int_rem_euclid}
use Rattle.std.proofs.Math.Nat.{div-add-mod, mod-lt, div-mul_cancel}
use Rattle.std.proofs.lemmas.Nat.Gcd.{IsGcd-from_zero, IsGcd-from_mod, same_from_IsGcd, le_of_dvd}
use Rattle.std.proofs.lemmas.Int.{ints}
use Rattle.cf_num.specs.declared.GcdParts.{GcdParts}
use Rattle.cf_num.specs.Divisors.{gcd_by, gcd_of, factors_by}
use Rattle.cf_num.specs.Parts.{IsBezout, sign_of, parts_of}
use Rattle.cf_num.proofs.Ring.{ring, mul_comm_z}
use Rattle.cf_num.proofs.Orders.{mul-le_z, mul-lt_z, le-mul_cancel_z, mul_cancel_z, cancel_some_z, zero_from_multiple}
use Rattle.cf_num.proofs.DivisionLemmas.{int_div_euclid-bounds, int_div_euclid_once}

pub gcd_by-is : (n a b : ℕ) → b ≤ n → IsGcd a b (gcd_by n a b)
unfolding gcd_by
gcd_by-is zero a b h = IsGcd-from_zero a b (omega arith)
gcd_by-is (suc n) a zero h = IsGcd-from_zero a zero refl
gcd_by-is (suc n) a (suc b) h =
    let p : 0 < suc b = omega arith in
    let m = mod-lt a p in
    IsGcd-from_mod a (suc b) (gcd_by n (suc b) (a % suc b)) (gcd_by-is n (suc b) (a % suc b) (omega arith))

pub gcd_of-is : (a b : ℕ) → IsGcd a b (gcd_of a b)
gcd_of-is a b = gcd_by-is b a b (omega arith)

pub factors_by-is : (n a b : ℕ) → b ≤ n → (factors_by n a b).0 *ℤ pos a +ℤ (factors_by n a b).1 *ℤ pos b ≡ pos (gcd_by n a b)
unfolding gcd_by factors_by
factors_by-is zero a b h = omega (arith, ints)
factors_by-is (suc n) a zero h = omega (arith, ints)
factors_by-is (suc n) a (suc b) h =
    let p : 0 < suc b = omega arith in
    let m = mod-lt a p in
    let again = factors_by-is n (suc b) (a % suc b) (omega arith) in
    let split : pos a ≡ pos (suc b) *ℤ pos (a / suc b) +ℤ pos (a % suc b) = ap pos (sym (div-add-mod a (suc b))) in
    let times = simp ring at (ap (λ z. (factors_by n (suc b) (a % suc b)).1 *ℤ z) split) in
    simp ring (omega (arith, ints))

same_fields : (g s t g' s' t' : ℤ) → g ≡ g' → s ≡ s' → t ≡ t' → ◌≡◌ {A = GcdParts} (record { g = g; s = s; t = t }) (record { g = g'; s = s'; t = t' })
same_fields g s t g' s' t' x y z = rw (x, y, z) refl

-- a multiple of b that is nearer to 0 than b is 0
zero_multiple : (b k : ℤ) → b ≢ pos 0 → (b *ℤ k) <ℤ pos (unsigned_abs b) → neg_ℤ (pos (unsigned_abs b)) <ℤ (b *ℤ k) → k ≡ pos 0
zero_multiple (pos zero) k h p q = absurd (h refl)
zero_multiple (pos (suc n)) k h p q = zero_from_multiple (pos (suc n)) k (omega (arith, ints)) p q
zero_multiple (negsuc n) k h p q =
    let z = zero_from_multiple (pos (suc n)) (neg_ℤ k) (omega (arith, ints)) (simp ring (omega (arith, ints))) (simp ring (omega (arith, ints))) in
    omega (arith, ints)

-- the parts are determined
pub parts_once : (a b : ℤ) (p q : GcdParts) → b ≢ pos 0 → IsBezout a b p → IsBezout a b q → p ≡ q
parts_once a b p q h i j =
    let same = same_from_IsGcd (unsigned_abs a) (unsigned_abs b) (unsigned_abs p.g) (unsigned_abs q.g) i.divisor j.divisor in
    let pg = i.positive in
    let qg = j.positive in
    let g : p.g ≡ q.g = omega (arith, ints) in
    let e = i.sum in
    let f = j.sum in
    let x = simp ring at (ap (λ z. q.s *ℤ z) e) in
    let y = simp ring at (ap (λ z. p.s *ℤ z) f) in
    let gp = ap (λ z. q.s *ℤ z) g in
    let gq = ap (λ z. p.s *ℤ z) g in
    let d : b *ℤ (q.s *ℤ p.t -ℤ p.s *ℤ q.t) ≡ q.s *ℤ q.g -ℤ p.s *ℤ p.g = simp ring (omega (arith, ints)) in
    let sl = mul-le_z p.g (pos 0) p.s (omega (arith, ints)) i.low in
    let tl = mul-le_z q.g (pos 0) q.s (omega (arith, ints)) j.low in
    let sh = i.high in
    let th = j.high in
    let cp = mul_comm_z p.g p.s in
    let cq = mul_comm_z q.g q.s in
    let z = zero_multiple b (q.s *ℤ p.t -ℤ p.s *ℤ q.t) h (omega (arith, ints)) (omega (arith, ints)) in
    let bz = ap (λ x. b *ℤ x) z in
    let s : p.s ≡ q.s = mul_cancel_z p.g p.s q.s pg (omega (arith, ints, mul_comm_z p.g q.s)) in
    let sa = ap (λ z. z *ℤ a) s in
    let t : p.t ≡ q.t = cancel_some_z b p.t q.t h (omega (arith, ints, mul_comm_z b p.t, mul_comm_z b q.t)) in
    same_fields p.g p.s p.t q.g q.s q.t g s t

-- the quotient by a negative number
int_div_euclid-negsuc : (z : ℤ) (n : ℕ) → int_div_euclid z (negsuc n) ≡ neg_ℤ (int_div_euclid z (pos (suc n)))
int_div_euclid-negsuc (pos a) n = refl
int_div_euclid-negsuc (negsuc a) n = refl

-- the quotient of a multiple
pub int_div_euclid-multiple : (b t : ℤ) → b ≢ pos 0 → int_div_euclid (b *ℤ t) b ≡ t
int_div_euclid-multiple (pos zero) t h = absurd (h refl)
int_div_euclid-multiple (pos (suc n)) t h =
    int_div_euclid_once (pos (suc n) *ℤ t) (pos (suc n)) t (omega (arith, ints)) (omega (arith, ints)) (omega (arith, ints))
int_div_euclid-multiple (negsuc n) t h =
    let q = int_div_euclid_once (negsuc n *ℤ t) (pos (suc n)) (neg_ℤ t) (omega (arith, ints)) (simp ring (omega (arith, ints)))
    (simp ring (omega (arith, ints))) in
    int_div_euclid-negsuc (negsuc n *ℤ t) n ∙ ap neg_ℤ q ∙ omega (arith, ints)

-- what a division by a positive number leaves
pub int_rem_euclid-is : (z : ℤ) (n : ℕ) → 0 < n → int_rem_euclid z (pos n) ≡ z -ℤ pos n *ℤ int_div_euclid z (pos n)
int_rem_euclid-is (pos a) n h = omega (arith, ints, div-add-mod a n)
int_rem_euclid-is (negsuc a) n h = omega (arith, ints, div-add-mod a n, mod-lt a h)

algebra : (a b u v sa sb q n m g x y : ℤ) → sa *ℤ a ≡ x → a ≡ sa *ℤ x → y ≡ sb *ℤ b → n *ℤ g ≡ y → m *ℤ g ≡ x → u *ℤ x +ℤ v *ℤ y ≡ g →
    g -ℤ (sa *ℤ u -ℤ n *ℤ q) *ℤ a ≡ b *ℤ (sb *ℤ (v +ℤ q *ℤ (sa *ℤ m)))
algebra a b u v sa sb q n m g x y e1 e2 e3 en em eu =
    let h1 = simp ring at (ap (λ z. u *ℤ z) e1) in
    let h2 = simp ring at (ap (λ z. q *ℤ (n *ℤ z)) e2) in
    let h3 = simp ring at (ap (λ z. q *ℤ (n *ℤ (sa *ℤ z))) em) in
    let h4 = simp ring at (ap (λ z. q *ℤ (sa *ℤ (m *ℤ z))) en) in
    let h5 = simp ring at (ap (λ z. q *ℤ (sa *ℤ (m *ℤ z))) e3) in
    let h6 = simp ring at (ap (λ z. v *ℤ z) e3) in
    simp ring (omega (arith, ints))

sign_times : (a : ℤ) → (sign_of a *ℤ a ≡ pos (unsigned_abs a)) × (a ≡ sign_of a *ℤ pos (unsigned_abs a))
sign_times (pos n) = (omega (arith, ints), omega (arith, ints))
sign_times (negsuc n) = (omega (arith, ints), omega (arith, ints))

some_size : (a : ℤ) → a ≢ pos 0 → 0 < unsigned_abs a
some_size (pos zero) h = absurd (h refl)
some_size (pos (suc n)) h = omega arith
some_size (negsuc n) h = omega arith

some_factor : (n g b : ℕ) → n * g ≡ b → 0 < b → (0 < n) × (0 < g)
some_factor zero g b e h = absurd (omega arith)
some_factor (suc n) zero b e h = absurd (omega arith)
some_factor (suc n) (suc g) b e h = (omega arith, omega arith)

below : (s n g y : ℤ) → pos 0 <ℤ g → n *ℤ g ≡ y → s <ℤ n → (s *ℤ g) <ℤ y
below s n g y h e k = let l = mul-lt_z g s n h k in omega (arith, ints, mul_comm_z g s, mul_comm_z g n)

parts_from : (a b : ℤ) (g : ℕ) (u v : ℤ) → a ≢ pos 0 → b ≢ pos 0 → IsGcd (unsigned_abs a) (unsigned_abs b) g →
    u *ℤ pos (unsigned_abs a) +ℤ v *ℤ pos (unsigned_abs b) ≡ pos g →
    (s : ℤ) → s ≡ int_rem_euclid (sign_of a *ℤ u) (pos (unsigned_abs b / g)) →
    IsBezout a b (record { g = pos g; s = s; t = int_div_euclid (pos g -ℤ s *ℤ a) b })
parts_from a b g u v h k d e s s_is =
    let n = unsigned_abs b / g in
    let m = unsigned_abs a / g in
    let en : n * g ≡ unsigned_abs b = div-mul_cancel g d.1 in
    let em : m * g ≡ unsigned_abs a = div-mul_cancel g d.0 in
    let some = some_factor n g (unsigned_abs b) en (some_size b k) in
    let z = sign_of a *ℤ u in
    let q = int_div_euclid z (pos n) in
    let r : s ≡ z -ℤ pos n *ℤ q = s_is ∙ int_rem_euclid-is z n some.0 in
    let bounds = int_div_euclid-bounds z (pos n) (omega (arith, ints)) in
    let t = sign_of b *ℤ (v +ℤ q *ℤ (sign_of a *ℤ pos m)) in
    let eq : pos g -ℤ (z -ℤ pos n *ℤ q) *ℤ a ≡ b *ℤ t =
    algebra a b u v (sign_of a) (sign_of b) q (pos n) (pos m) (pos g) (pos (unsigned_abs a)) (pos (unsigned_abs b)) (sign_times a).0 (sign_times a).1
    (sym (sign_times b).0) (ap pos en) (ap pos em) e in
    let eq_s : pos g -ℤ s *ℤ a ≡ b *ℤ t = ap (λ x. pos g -ℤ x *ℤ a) r ∙ eq in
    let t_is : int_div_euclid (pos g -ℤ s *ℤ a) b ≡ t = ap (λ x. int_div_euclid x b) eq_s ∙ int_div_euclid-multiple b t k in
    record {
      sum = rw t_is (omega (arith, ints, mul_comm_z t b));
      low = omega (arith, ints);
      high = below s (pos n) (pos g) (pos (unsigned_abs b)) (omega (arith, ints)) (ap pos en) (omega (arith, ints));
      positive = omega (arith, ints);
      divisor = d;
    }

pub parts_of-is : (a b : ℤ) → a ≢ pos 0 → b ≢ pos 0 → IsBezout a b (parts_of a b)
unfolding parts_of
parts_of-is a b h k =
    let x = unsigned_abs a in
    let y = unsigned_abs b in
    parts_from a b (gcd_of x y) (factors_by y x y).0 (factors_by y x y).1 h k (gcd_of-is x y) (factors_by-is y x y (omega arith)) _ refl

-- a factor t with n * t = g - s * a is at most a in absolute value
size_of_second : (a x n g s t : ℤ) → pos 0 <ℤ n → pos 0 <ℤ g → g ≤ℤ x → neg_ℤ x ≤ℤ a → a ≤ℤ x → pos 0 ≤ℤ s → s <ℤ n → n *ℤ t ≡ g -ℤ s *ℤ a →
    (neg_ℤ x ≤ℤ t) × (t ≤ℤ x)
size_of_second a x n g s t some g_low g_high a_low a_high low high e =
    let l1 = simp ring at (mul-le_z s (neg_ℤ x) a low a_low) in
    let l2 = mul-le_z s a x low a_high in
    let l3 = simp ring at (mul-le_z x s (n -ℤ pos 1) (omega (arith, ints)) (omega (arith, ints))) in
    let c1 = mul_comm_z x s in
    let c2 = mul_comm_z x n in
    let up : (n *ℤ t) ≤ℤ (n *ℤ x) = omega (arith, ints) in
    let down : (n *ℤ neg_ℤ x) ≤ℤ (n *ℤ t) = simp ring (omega (arith, ints)) in
    (le-mul_cancel_z n (neg_ℤ x) t some down, le-mul_cancel_z n t x some up)

-- the divisor is at most a, and the first factor below b
divisor_within : (a b : ℤ) (p : GcdParts) → a ≢ pos 0 → IsBezout a b p → (p.g ≤ℤ pos (unsigned_abs a)) × (p.s <ℤ pos (unsigned_abs b))
divisor_within a b p h i =
    let g = i.positive in
    let l = le_of_dvd (some_size a h) i.divisor.0 in
    let m = mul-le_z p.s (pos 1) p.g i.low (omega (arith, ints)) in
    let k = i.high in
    (omega (arith, ints), omega (arith, ints))

-- the second factor is at most a in absolute value
pub t_within : (a b : ℤ) (p : GcdParts) → a ≢ pos 0 → b ≢ pos 0 → IsBezout a b p → unsigned_abs p.t ≤ unsigned_abs a
t_within a b p h k i =
    let d = divisor_within a b p h i in
    let sb = sign_times b in
    let size = some_size b k in
    let e = i.sum in
    let f = simp ring at (ap (λ z. p.t *ℤ z) sb.1) in
    let eq : pos (unsigned_abs b) *ℤ (sign_of b *ℤ p.t) ≡ p.g -ℤ p.s *ℤ a = simp ring (omega (arith, ints)) in
    let r = size_of_second a (pos (unsigned_abs a)) (pos (unsigned_abs b)) p.g p.s (sign_of b *ℤ p.t) (omega (arith, ints)) i.positive d.0 (omega (arith, ints))
    (omega (arith, ints)) i.low d.1 eq in
    same_size b p.t r
  where
    same_size : (b t : ℤ) → (neg_ℤ (pos (unsigned_abs a)) ≤ℤ (sign_of b *ℤ t)) × ((sign_of b *ℤ t) ≤ℤ pos (unsigned_abs a)) → unsigned_abs t ≤ unsigned_abs a
    same_size (pos n) t r = omega (arith, ints)
    same_size (negsuc n) t r = omega (arith, ints)
