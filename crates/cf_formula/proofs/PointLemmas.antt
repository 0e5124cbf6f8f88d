-- Test points.
use Rattle.std.proofs.Common.{◌≡◌, ℤ, pos, negsuc, neg_ℤ, ◌+ℤ◌, ◌*ℤ◌, refl, arith, suc, zero, ◌↔◌}
use Rattle.std.specs.Prelude.{◌≤ℤ◌, ◌<ℤ◌}
use Rattle.std.specs.Int.{int_div_euclid}
use Rattle.std.proofs.lemmas.Int.{ints}
use Rattle.cf_num.proofs.Ring.{ring}
use Rattle.cf_num.proofs.DivisionLemmas.{le-int_div_euclid}
use Rattle.cf_formula.specs.Tight.{by_sign}
use Rattle.cf_formula.proofs.Rounding.{tighten}

pub lower_iff : (p l x : ℤ) → pos 0 <ℤ p → (pos 0 ≤ℤ (p *ℤ x +ℤ l)) ↔ (neg_ℤ (int_div_euclid l p) ≤ℤ x)
lower_iff p l x h =
    let k = tighten p x l h in
    (λ i. let j = k.0 i in omega (arith, ints), λ i. k.1 (omega (arith, ints)))

pub upper_iff : (q m x : ℤ) → q <ℤ pos 0 → (pos 0 ≤ℤ (q *ℤ x +ℤ m)) ↔ (x ≤ℤ int_div_euclid m (neg_ℤ q))
upper_iff q m x h =
    let k = le-int_div_euclid x m (neg_ℤ q) (omega (arith, ints)) in
    (λ i. k.1 (simp ring (omega (arith, ints))), λ i. let j = simp ring at (k.0 i) in omega (arith, ints))

-- three cases of a coefficient
pub sign_cases : {A : Type 0} (k : ℤ) (n z p : A) (P : A → Type 0) → (k <ℤ pos 0 → P n) → (k ≡ pos 0 → P z) → (pos 0 <ℤ k → P p) → P (by_sign k n z p)
sign_cases (pos zero) n z p P f g h = g refl
sign_cases (pos (suc k)) n z p P f g h = h (omega (arith, ints))
sign_cases (negsuc k) n z p P f g h = f (omega (arith, ints))

-- the same for two things that depend on the coefficient
pub sign_both : {A B : Type 0} (k : ℤ) (n z p : A) (n' z' p' : B) (P : A → B → Type 0) → (k <ℤ pos 0 → P n n') → (k ≡ pos 0 → P z z') → (pos 0 <ℤ k → P p p') →
    P (by_sign k n z p) (by_sign k n' z' p')
sign_both (pos zero) n z p n' z' p' P f g h = g refl
sign_both (pos (suc k)) n z p n' z' p' P f g h = h (omega (arith, ints))
sign_both (negsuc k) n z p n' z' p' P f g h = f (omega (arith, ints))
