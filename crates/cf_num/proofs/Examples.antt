-- Values of the definitions.
use Rattle.std.specs.Prelude.{◌≡◌, pos, negsuc, neg_ℤ, refl}
use Rattle.std.specs.Int.{int_div_euclid}
use Rattle.cf_num.specs.Divisors.{gcd_by, gcd_of, factors_by}
use Rattle.cf_num.specs.Parts.{parts_of}

-- -7 / 2 down is -4, up is -3
floor-negative : int_div_euclid (negsuc 6) (pos 2) ≡ negsuc 3
floor-negative = refl

ceiling-negative : neg_ℤ (int_div_euclid (neg_ℤ (negsuc 6)) (pos 2)) ≡ negsuc 2
ceiling-negative = refl

floor-exact : int_div_euclid (negsuc 5) (pos 2) ≡ negsuc 2
floor-exact = refl

gcd_of-zeros : gcd_of 0 0 ≡ 0
unfolding gcd_by
gcd_of-zeros = refl

gcd_of-zero : gcd_of 0 5 ≡ 5
unfolding gcd_by
gcd_of-zero = refl

gcd_of-some : gcd_of 12 18 ≡ 6
unfolding gcd_by
gcd_of-some = refl

-- 2 * 6 - 1 * 10 = 2
parts_of-positive : parts_of (pos 6) (pos 10) ≡ record { g = pos 2; s = pos 2; t = negsuc 0 }
unfolding gcd_by factors_by parts_of
parts_of-positive = refl

-- 3 * -6 + 2 * 10 = 2
parts_of-negative : parts_of (negsuc 5) (pos 10) ≡ record { g = pos 2; s = pos 3; t = pos 2 }
unfolding gcd_by factors_by parts_of
parts_of-negative = refl

-- 2 * 3 - 1 * 5 = 1
parts_of-coprime : parts_of (pos 3) (pos 5) ≡ record { g = pos 1; s = pos 2; t = negsuc 0 }
unfolding gcd_by factors_by parts_of
parts_of-coprime = refl

-- 2 * 6 + 1 * -10 = 2
parts_of-negative_second : parts_of (pos 6) (negsuc 9) ≡ record { g = pos 2; s = pos 2; t = pos 1 }
unfolding gcd_by factors_by parts_of
parts_of-negative_second = refl

-- 0 * 8 + 1 * 4 = 4
parts_of-multiple : parts_of (pos 8) (pos 4) ≡ record { g = pos 4; s = pos 0; t = pos 1 }
unfolding gcd_by factors_by parts_of
parts_of-multiple = refl
