-- Truth values, and tests of numbers.
use Rattle.std.proofs.Common.{◌≡◌, ℕ, ◌<◌, ◌≤◌, ℤ, Bool, true, false, ◌||◌, refl, sym, arith}
use Rattle.std.specs.Prelude.{◌≤ℤ◌, ◌<ℤ◌, nat_le, int_lt}
use Rattle.std.proofs.lemmas.Int.{ints}
use Rattle.std.proofs.lemmas.Bool.{leb-true, leb-false}
use Rattle.cf_linear.proofs.BoolLemmas.{on_bool}
use Rattle.cf_formula.proofs.AtomLaws.{lt_so, not_lt_so}

pub both_ways : (a b : Bool) → (a ≡ true → b ≡ true) → (b ≡ true → a ≡ true) → a ≡ b
both_ways true b f g = sym (f refl)
both_ways false true f g = g refl
both_ways false false f g = refl

pub or_so : (a b : Bool) (P : Type 0) → (a ≡ true → P) → (b ≡ true → P) → (a || b) ≡ true → P
or_so true b P f g e = f refl
or_so false b P f g e = g e

pub or_left : (a b : Bool) → a ≡ true → (a || b) ≡ true
or_left a b e = rw e refl

pub or_right : (a b : Bool) → b ≡ true → (a || b) ≡ true
or_right true b e = refl
or_right false b e = e

pub not_both : (b : Bool) (P : Type 0) → b ≡ true → b ≡ false → P
not_both true P e f = let i : true ≡ false = f in cc i
not_both false P e f = let i : false ≡ true = e in cc i

-- ---- numbers
pub lt_is : (a b : ℤ) → a <ℤ b → int_lt a b ≡ true
lt_is a b h = on_bool (int_lt a b) (λ e. e) (λ e. let l = not_lt_so a b (rw e refl) in absurd (omega (arith, ints)))

pub ge_is : (a b : ℤ) → b ≤ℤ a → int_lt a b ≡ false
ge_is a b h = on_bool (int_lt a b) (λ e. let l = lt_so a b e in absurd (omega (arith, ints))) (λ e. e)

pub le_is : (a b : ℕ) → a ≤ b → nat_le a b ≡ true
le_is a b h = on_bool (nat_le a b) (λ e. e) (λ e. let l = leb-false a b e in absurd (omega arith))

pub gt_is : (a b : ℕ) → b < a → nat_le a b ≡ false
gt_is a b h = on_bool (nat_le a b) (λ e. let l = leb-true a b e in absurd (omega arith)) (λ e. e)
