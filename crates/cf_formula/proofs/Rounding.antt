-- A sum of a multiple and a rest, rounded.
use Rattle.std.proofs.Common.{◌≡◌, ℤ, pos, neg_ℤ, ◌+ℤ◌, ◌*ℤ◌, arith, ◌↔◌}
use Rattle.std.specs.Prelude.{◌≤ℤ◌, ◌<ℤ◌}
use Rattle.std.specs.Int.{int_div_euclid}
use Rattle.std.proofs.lemmas.Int.{ints}
use Rattle.cf_num.proofs.Ring.{ring}
use Rattle.cf_num.proofs.DivisionLemmas.{le-int_div_euclid}

pub tighten : (g u r : ℤ) → pos 0 <ℤ g → (pos 0 ≤ℤ (g *ℤ u +ℤ r)) ↔ (pos 0 ≤ℤ (u +ℤ int_div_euclid r g))
tighten g u r h =
    let k = le-int_div_euclid (neg_ℤ u) r g h in (
      λ p. let i : (g *ℤ neg_ℤ u) ≤ℤ r = simp ring (omega (arith, ints)) in let j = k.1 i in omega (arith, ints),
      λ p. let i = simp ring at (k.0 (omega (arith, ints))) in omega (arith, ints),
    )
