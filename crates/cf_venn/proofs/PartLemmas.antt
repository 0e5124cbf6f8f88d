-- A number below p, and a multiple of p.
use Rattle.std.proofs.Common.{◌≡◌, ℕ, zero, suc, ◌+◌, ◌*◌, ◌/◌, ◌%◌, ◌<◌, ◌==◌, ap, sym, ◌∙◌, arith}
use Rattle.std.proofs.lemmas.Bool.{eq-eqb, ne_eqb, eqb-true, eqb-false}
use Rattle.std.proofs.Math.Nat.{add-mul-div_left, div-eq_of_lt, mod-lt, div-lt_iff_lt-mul, mul-le-mul_left, mul_comm}
use Rattle.cf_tree.proofs.SetLemmas.{on_bool}

pub mod_parts : (p m : ℕ) → m % p + p * (m / p) ≡ m
mod_parts p m = omega arith

pub pos_parts : (p m o : ℕ) → 0 < p → 0 < m + o → 0 < m + p * o
pos_parts p m zero l k = omega arith
pos_parts p m (suc o) l k = omega arith

pub some_part : (p a b m : ℕ) → a + p * b ≡ m → 0 < m → 0 < a + b
some_part p a zero m e l = omega arith
some_part p a (suc b) m e l = omega arith

pub high_below : (m p u : ℕ) → 0 < p → m < p * u → m / p < u
high_below m p u z l = (div-lt_iff_lt-mul z).1 (rw (mul_comm u p) l)

pub below_product : (p u m o : ℕ) → m < p → o < u → m + p * o < p * u
below_product p u m o l k = let h = mul-le-mul_left p k in omega arith

pub parts_once : (p m o n u : ℕ) → m < p → n < p → m + p * o ≡ n + p * u → (m ≡ n) × (o ≡ u)
parts_once p m o n u l k e =
    let f = rw (add-mul-div_left m o {y = p} (omega arith), add-mul-div_left n u {y = p} (omega arith), div-eq_of_lt l, div-eq_of_lt k) at
    (ap (λ x. x / p) e) in
    let same : o ≡ u = omega arith in
    let g = rw same at e in
    (omega arith, same)

module _ (p m o : ℕ) (l : m < p) where
  both : ((m + p * o) % p ≡ m) × ((m + p * o) / p ≡ o)
  both = parts_once p ((m + p * o) % p) ((m + p * o) / p) m o (mod-lt (m + p * o) (omega arith)) l (mod_parts p (m + p * o))

  pub part_mod : (m + p * o) % p ≡ m
  part_mod = both.0

  pub part_div : (m + p * o) / p ≡ o
  part_div = both.1

-- whether a number has the lower part m, among those with the higher part o
pub part_test : (p o m j : ℕ) → j < p → ((j + p * o) % p == m) ≡ (m + p * o == j + p * o)
part_test p o m j l = rw (part_mod p j o l) (on_bool (j == m)
    (λ e. let f = eqb-true j m e in e ∙ sym (eq-eqb (m + p * o) (j + p * o) (omega arith)))
    (λ e. let f = eqb-false j m e in e ∙ sym (ne_eqb (m + p * o) (j + p * o) (λ g. f (omega arith)))))
