-- Whether two rows are the same.
use Rattle.std.proofs.Common.{◌≡◌, ◌↔◌, ℤ, pos, ◌-ℤ◌, [], ◌∷◌, true, false, ◌&&◌, ◌==◌, refl, ap, arith, subst, length}
use Rattle.std.proofs.lemmas.Int.{ints}
use Rattle.std.proofs.lemmas.Bool.{eqb-true, eq-eqb, and_parts}
use Rattle.cf_linear.specs.Rows.{Row, is_zero, same_row}
use Rattle.cf_linear.proofs.RowLemmas.{zero_from_is_zero}
use Rattle.cf_linear.proofs.BoolLemmas.{on_bool}

minus_self : (k : ℤ) → is_zero (k -ℤ k) ≡ true
minus_self k = let e : k -ℤ k ≡ pos 0 = omega (arith, ints) in rw e refl

pub same_row-refl : (r : Row) → same_row r r ≡ true
same_row-refl [] = refl
same_row-refl ((c, k) ∷ r) = rw (eq-eqb c c refl, minus_self k, same_row-refl r) refl

pub same_row-is : (r s : Row) → same_row r s ≡ true → r ≡ s
same_row-is [] [] e = refl
same_row-is [] ((d, m) ∷ s) e = cc
same_row-is ((c, k) ∷ r) [] e = cc
same_row-is ((c, k) ∷ r) ((d, m) ∷ s) e =
    let p = and_parts ((c == d) && is_zero (k -ℤ m)) (same_row r s) e in
    let q = and_parts (c == d) (is_zero (k -ℤ m)) p.0 in
    let i : c ≡ d = eqb-true c d q.0 in
    let z = zero_from_is_zero (k -ℤ m) q.1 in
    let j : k ≡ m = omega (arith, ints) in
    let t : r ≡ s = same_row-is r s p.1 in
    cc

pub same_row-iff : (r s : Row) → (same_row r s ≡ true) ↔ (r ≡ s)
same_row-iff r s = (same_row-is r s, λ e. subst (λ (x : Row). same_row r x ≡ true) e (same_row-refl r))

pub different_length : (r s : Row) → (length r ≡ length s → ⊥) → same_row r s ≡ false
different_length r s n = on_bool (same_row r s) (λ e. absurd (n (ap length (same_row-is r s e)))) (λ e. e)
