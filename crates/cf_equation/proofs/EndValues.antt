-- The end of an equation from its parts.
use Rattle.std.proofs.Common.{◌≡◌, ℕ, suc, ℤ, pos, negsuc, neg_ℤ, ◌+ℤ◌, ◌*ℤ◌, [], ◌∷◌, map, true, false, refl, sym, subst, arith}
use Rattle.std.proofs.lemmas.Int.{ints}
use Rattle.std.proofs.lemmas.Bool.{eqb-true}
use Rattle.cf_num.specs.Limit.{IsWithin}
use Rattle.cf_linear.specs.Rows.{Row, entry, without, comb, sum_passes, comb_passes, IsRow}
use Rattle.cf_linear.specs.Systems.{System, row_how}
use Rattle.cf_linear.specs.Steps.{last, is_unit}
use Rattle.cf_linear.proofs.PassingLemmas.{within_not, entry-within}
use Rattle.cf_linear.proofs.Joining.{passes_nowhere}
use Rattle.cf_linear.specs.Views.{step_of}
use Rattle.cf_equation.specs.declared.replace.Left.{Left}
use Rattle.cf_equation.specs.declared.end.Solution.{Solution}
use Rattle.cf_equation.specs.Equations.{first_of, rest_of}
use Rattle.cf_equation.specs.Ending.{IsLeft, IsSolution}

pub last_is : (m : System) (u : ℕ) (s : Solution) (l : Left) → IsSolution m (entry (first_of m) u) (without u (first_of m)) s → IsLeft m u s.row l →
    last m (first_of m) (rest_of m) u ≡ record {
      system = record {
        known = s.known.items;
        unknown = l.unknown.items;
        next = s.next;
        equations = l.equations.items;
        inequalities =
            l.inequalities.items;
        needs = s.needs;
      };
      steps = map step_of s.steps.items;
      back = (u, row_how s.row) ∷ [];
      bounds = [];
    }
unfolding last
last_is m u s l h k = rw (k.unknown, k.equations, k.inequalities, h.row, h.known, h.next, h.needs, h.steps) refl

-- a row times 1 or -1 passes no limit
fine_sum : (k e : ℤ) → IsWithin (k *ℤ e) → IsWithin (k *ℤ e +ℤ pos 0 *ℤ pos 0) → sum_passes k e (pos 0) (pos 0) ≡ false
fine_sum k e h g = rw (within_not (k *ℤ e) h, within_not (k *ℤ e +ℤ pos 0 *ℤ pos 0) g) refl

unit_sum : (c e : ℤ) → is_unit c ≡ true → IsWithin e → sum_passes (neg_ℤ c) e (pos 0) (pos 0) ≡ false
unit_sum (pos n) e u h =
    let i : n ≡ 1 = eqb-true n 1 u in
    subst (λ (k : ℕ). sum_passes (neg_ℤ (pos k)) e (pos 0) (pos 0) ≡ false) (sym i) (fine_sum (negsuc 0) e (omega (arith, ints)) (omega (arith, ints)))
unit_sum (negsuc n) e u h =
    let i : n ≡ 0 = let k = eqb-true (suc n) 1 u in omega arith in
    subst (λ (k : ℕ). sum_passes (neg_ℤ (negsuc k)) e (pos 0) (pos 0) ≡ false) (sym i) (fine_sum (pos 1) e (omega (arith, ints)) (omega (arith, ints)))

pub unit_fine : (c : ℤ) (r : Row) → is_unit c ≡ true → IsRow r → comb_passes (neg_ℤ c) r (pos 0) [] ≡ false
unit_fine c r u h = passes_nowhere (neg_ℤ c) r (pos 0) [] (λ x. unit_sum c (entry r x) u (entry-within r 0 x h.0 h.1))

pub unit_solution : (m : System) (c : ℤ) (r : Row) (s : Solution) → is_unit c ≡ true → s.row ≡ comb (neg_ℤ c) r (pos 0) [] → s.known.items ≡ m.known →
    s.next ≡ m.next → s.needs ≡ m.needs →
    map step_of s.steps.items ≡ [] → IsSolution m c r s
unit_solution m c r s u a b n d e = record { row = rw u a; known = rw u b; next = rw u n; needs = rw u d; steps = rw u e }
