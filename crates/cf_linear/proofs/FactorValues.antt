-- The factors of a Merge from their parts.
use Rattle.std.proofs.Common.{◌≡◌, ℤ, neg_ℤ, refl}
use Rattle.std.specs.Int.{int_div_euclid}
use Rattle.cf_num.specs.declared.GcdParts.{GcdParts}
use Rattle.cf_num.specs.Parts.{parts_of}
use Rattle.cf_linear.specs.Steps.{factors_of}
use Rattle.cf_linear.specs.Factors.{plain_factors}

pub factors_are : (a b : ℤ) (p : GcdParts) (m n x : ℤ) → p ≡ parts_of a b → x ≡ int_div_euclid b p.g → m ≡ neg_ℤ x → n ≡ int_div_euclid a p.g →
    plain_factors (record { s = p.s; m = m; t = p.t; n = n }) ≡ factors_of a b
unfolding factors_of
factors_are a b p m n x e f g h = rw (g, f, h, e) refl
