-- Numbers of 64 bits as 128 bits hold them, and what plain arithmetic makes of two of them.
use Rattle.std.proofs.Common.{◌≡◌, ◌∙◌, ℤ, pos, negsuc, ◌*ℤ◌, ◌-ℤ◌, ◌-◌, ◌*◌, ◌^◌, ◌<◌, ◌≤◌, Some, unsigned_abs, nat_le, true, refl, arith, w64, to_z, of_z, SFits}
use Rattle.std.specs.Int.{w128}
use Rattle.std.proofs.lemmas.Int.{ints, to_z-of_z, fits_signed_from_abs, fits_signed_mul, unsigned_abs-mul}
use Rattle.std.proofs.lemmas.Bool.Decides.{nat_tests}
use Rattle.std.proofs.Math.Nat.{mul-le-mul}
use Rattle.cf_num.specs.Limit.{IsWithin, within}

narrow_size : (z : ℤ) → SFits w64 z → unsigned_abs z ≤ 2 ^ 63
narrow_size (pos n) h = omega (arith, h.sfits)
narrow_size (negsuc n) h = omega (arith, h.sfits)

pub widened : (r x : ℤ) → SFits w128 r → r ≡ to_z w64 (of_z w64 x) → SFits w64 x → to_z w128 (of_z w128 r) ≡ x
widened r x w e f = to_z-of_z w128 r w ∙ e ∙ to_z-of_z w64 x f

pub product_held : (a b x y : ℤ) → a ≡ x → b ≡ y → SFits w64 x → SFits w64 y → to_z w128 (of_z w128 (a *ℤ b)) ≡ x *ℤ y
product_held a b x y e f p q =
    let low : 2 ^ 63 * 2 ^ 63 < 2 ^ 127 = omega arith in
    rw (e, f) (to_z-of_z w128 (x *ℤ y) (fits_signed_mul w128 x y (2 ^ 63) (2 ^ 63) (narrow_size x p) (narrow_size y q) low))

pub product_in : (x y : ℤ) → SFits w64 x → SFits w64 y → IsWithin (x *ℤ y)
product_in x y p q =
    let least : unsigned_abs x * unsigned_abs y ≤ 2 ^ 63 * 2 ^ 63 = mul-le-mul (narrow_size x p) (narrow_size y q) in
    omega (arith, unsigned_abs-mul x y, least)

pub product_met : (x y : ℤ) → SFits w64 x → SFits w64 y → within (x *ℤ y) ≡ Some (x *ℤ y)
product_met x y p q =
    let h : IsWithin (x *ℤ y) = product_in x y p q in
    let test : nat_le (unsigned_abs (x *ℤ y)) (2 ^ 127 - 1) ≡ true = grind (arith, nat_tests) in
    rw test refl

pub difference_fits : (x y : ℤ) → SFits w64 x → SFits w64 y → SFits w128 (x -ℤ y)
difference_fits x y p q =
    let low : unsigned_abs (x -ℤ y) < 2 ^ 127 = omega (arith, ints, narrow_size x p, narrow_size y q) in
    fits_signed_from_abs w128 (x -ℤ y) low

pub difference_held : (a b x y : ℤ) → a ≡ x → b ≡ y → SFits w64 x → SFits w64 y → to_z w128 (of_z w128 (a -ℤ b)) ≡ x -ℤ y
difference_held a b x y e f p q = rw (e, f) (to_z-of_z w128 (x -ℤ y) (difference_fits x y p q))
