-- Rows, their keys and their atoms.
use Rattle.std.proofs.Common.{◌≡◌, ℕ, ◌<◌, ◌/◌, ℤ, pos, negsuc, neg_ℤ, ◌+ℤ◌, ◌*ℤ◌, [], ◌∷◌, true, false, not, ◌||◌, refl, sym, ◌∙◌, ap, arith, ◌⊎◌, inl, inr, ⊎_elim, ◌↔◌}
use Rattle.std.specs.Prelude.{◌≤ℤ◌, ◌<ℤ◌, nat_le, int_lt, unsigned_abs}
use Rattle.std.specs.Int.{int_div_euclid, int_rem_euclid}
use Rattle.std.proofs.lemmas.Int.{ints}
use Rattle.std.proofs.lemmas.Bool.{cond_both, leb-false, and_parts, or_parts}
use Rattle.std.proofs.Math.Nat.{mul-div_cancel'}
use Rattle.cf_num.specs.Divisors.{gcd_of}
use Rattle.cf_num.proofs.Ring.{ring}
use Rattle.cf_num.proofs.Orders.{le_or_lt_z, mul_cancel_z}
use Rattle.cf_num.proofs.DivisorLemmas.{gcd_of-is, int_rem_euclid-is}
use Rattle.cf_num.proofs.DivisionLemmas.{int_div_euclid_once}
use Rattle.cf_linear.specs.Arm.{negated}
use Rattle.cf_linear.specs.Rows.{Row, Values, entry, value, is_zero, comb, same_row}
use Rattle.cf_linear.specs.Relations.{Divides}
use Rattle.cf_linear.specs.Steps.{common, divided, divides_it, one_at}
use Rattle.cf_linear.proofs.Canonical.{is_zero_at_zero}
use Rattle.cf_linear.proofs.RowLemmas.{value-comb, value-put, zero_from_is_zero}
use Rattle.cf_linear.proofs.RowTests.{same_row-is}
use Rattle.cf_linear.proofs.BoolLemmas.{on_bool}
use Rattle.cf_linear.proofs.ValueLemmas.{value-split, one_z}
use Rattle.cf_formula.specs.Formulas.{always, never, at_least, Holds}
use Rattle.cf_formula.specs.Atoms.{key, is_constant, tight_row, ge, first_entry, upright, is_divided, eq, are_opposite}
use Rattle.cf_formula.proofs.FormulaLemmas.{then_iff}
use Rattle.cf_formula.proofs.Rounding.{tighten}

pub lt_so : (a b : ℤ) → int_lt a b ≡ true → a <ℤ b
lt_so a b e = grind (arith, ints)

pub not_lt_so : (a b : ℤ) → not (int_lt a b) ≡ true → b ≤ℤ a
not_lt_so a b e = grind (arith, ints)

ge_so : (a b : ℤ) → int_lt a b ≡ false → b ≤ℤ a
ge_so a b e = not_lt_so a b (rw e refl)

-- ---- a row as its key and its constant
pub value-key : (v : Values) → v 0 ≡ pos 1 → (r : Row) → value v r ≡ value v (key r) +ℤ entry r 0
value-key v one r = value-split v 0 r ∙ rw one (omega (arith, ints))

pub value-negated : (v : Values) (r : Row) → value v (negated r) ≡ neg_ℤ (value v r)
value-negated v r = value-comb v (negsuc 0) r (pos 0) [] ∙ omega (arith, ints)

value-constant : (v : Values) → v 0 ≡ pos 1 → (r : Row) → is_constant r ≡ true → value v r ≡ entry r 0
value-constant v one r e = value-key v one r ∙ rw (same_row-is (key r) [] e) (omega (arith, ints))

-- each entry is a multiple of g
abbrev pub EntriesDiv : ℕ → Row → Type 0
EntriesDiv g [] = Unit {0}
EntriesDiv g ((c, k) ∷ r) = Divides (pos g) k × EntriesDiv g r

divides_abs : (g : ℕ) (k : ℤ) → Divides (pos g) (pos (unsigned_abs k)) → Divides (pos g) k
divides_abs g (pos n) d = d
divides_abs g (negsuc n) d = (neg_ℤ d.0, let e = d.1 in simp ring (omega (arith, ints)))

pub divides_trans : (g h k : ℤ) → Divides g h → Divides h k → Divides g k
divides_trans g h k d e = (d.0 *ℤ e.0, let i = d.1 in e.1 ∙ rw i (simp ring (omega (arith, ints))))

pub common-divides : (r : Row) → EntriesDiv (common r) r
common-divides [] = tt
common-divides ((c, k) ∷ r) =
    let is = gcd_of-is (unsigned_abs k) (common r) in
    let g = gcd_of (unsigned_abs k) (common r) in
    let first : pos (unsigned_abs k) ≡ pos g *ℤ pos (unsigned_abs k / g) = ap pos (sym (mul-div_cancel' g is.0)) in
    let rest : pos (common r) ≡ pos g *ℤ pos (common r / g) = ap pos (sym (mul-div_cancel' g is.1)) in
    (divides_abs g k (pos (unsigned_abs k / g), first), all (common r) g (pos (common r / g), rest) r (common-divides r))
  where
    all : (h g : ℕ) → Divides (pos g) (pos h) → (r : Row) → EntriesDiv h r → EntriesDiv g r
    all h g d [] e = tt
    all h g d ((c, k) ∷ r) e = (divides_trans (pos g) (pos h) k d e.0, all h g d r e.1)

exact_quotient : (g : ℕ) (k : ℤ) → 0 < g → Divides (pos g) k → pos g *ℤ int_div_euclid k (pos g) ≡ k
exact_quotient g k h d =
    let f = int_div_euclid_once k (pos g) d.0 (omega (arith, ints)) (omega (arith, ints, d.1)) (omega (arith, ints, d.1)) in
    rw f (sym d.1)

pub value-divided : (v : Values) (g : ℕ) (r : Row) → 0 < g → EntriesDiv g r → pos g *ℤ value v (divided g r) ≡ value v r
value-divided v g [] h d = omega (arith, ints)
value-divided v g ((c, k) ∷ r) h d =
    let e = exact_quotient g k h d.0 in
    let again = value-divided v g r h d.1 in
    let t = simp ring at (ap (λ x. x *ℤ v c) e) in
    rw (value-put v c (int_div_euclid k (pos g)) (divided g r)) (simp ring (omega (arith, ints)))

-- ---- the row as g times a row, and the constant
module _ (v : Values) (one : v 0 ≡ pos 1) (r : Row) (large : 1 < common (key r)) where
  abbrev g : ℕ
  g = common (key r)

  abbrev part : ℤ
  part = value v (divided g (key r))

  value-parted : value v r ≡ pos g *ℤ part +ℤ entry r 0
  value-parted = value-key v one r ∙ rw (← value-divided v g (key r) (omega arith) (common-divides (key r))) refl

  value-tight : value v (comb (pos 1) (divided g (key r)) (int_div_euclid (entry r 0) (pos g)) (one_at 0)) ≡ part +ℤ int_div_euclid (entry r 0) (pos g)
  value-tight = value-comb v (pos 1) (divided g (key r)) (int_div_euclid (entry r 0) (pos g)) (one_at 0) ∙ rw (one_z (v 0), one) (omega (arith, ints))

  above_zero : pos 0 <ℤ pos g
  above_zero = omega (arith, ints)

  tight_iff : (pos 0 ≤ℤ value v (comb (pos 1) (divided g (key r)) (int_div_euclid (entry r 0) (pos g)) (one_at 0))) ↔ (pos 0 ≤ℤ value v r)
  tight_iff =
      let t = tighten (pos g) part (entry r 0) above_zero in
      rw (value-tight, value-parted) ((λ h. t.1 h), (λ h. t.0 h))

  rest_is : int_rem_euclid (entry r 0) (pos g) ≡ entry r 0 +ℤ neg_ℤ (pos g *ℤ int_div_euclid (entry r 0) (pos g))
  rest_is = int_rem_euclid-is (entry r 0) g (omega arith) ∙ omega (arith, ints)

  -- where g divides the constant
  divided_iff : divides_it g (entry r 0) ≡ true →
      (value v (comb (pos 1) (divided g (key r)) (int_div_euclid (entry r 0) (pos g)) (one_at 0)) ≡ pos 0) ↔ (value v r ≡ pos 0)
  divided_iff e =
      let q = int_div_euclid (entry r 0) (pos g) in
      let z : entry r 0 ≡ pos g *ℤ q = let i = zero_from_is_zero (int_rem_euclid (entry r 0) (pos g)) e in let j = rest_is in omega (arith, ints) in
      rw (value-tight, value-parted) (both_ways (pos g) part q (entry r 0) above_zero z)
    where
      both_ways : (g u q c : ℤ) → pos 0 <ℤ g → c ≡ g *ℤ q → (u +ℤ q ≡ pos 0) ↔ (g *ℤ u +ℤ c ≡ pos 0)
      both_ways g u q c p z =
          let s : g *ℤ (u +ℤ q) ≡ g *ℤ u +ℤ c = simp ring (omega (arith, ints)) in
          ((λ h. sym s ∙ rw h (omega (arith, ints))), (λ h. mul_cancel_z g (u +ℤ q) (pos 0) p (s ∙ (h ∙ omega (arith, ints)))))

  -- where it does not
  undivided : divides_it g (entry r 0) ≡ false → value v r ≡ pos 0 → ⊥
  undivided e h =
      let i = int_div_euclid_once (entry r 0) (pos g) (neg_ℤ part) above_zero in
      let p = value-parted in
      let m : pos g *ℤ neg_ℤ part ≡ entry r 0 = simp ring (omega (arith, ints)) in
      let q = i (omega (arith, ints)) (omega (arith, ints)) in
      let z : int_rem_euclid (entry r 0) (pos g) ≡ pos 0 = rest_is ∙ rw (q, m) (omega (arith, ints)) in
      let t : divides_it g (entry r 0) ≡ true = rw z refl in
      let n : true ≡ false = sym t ∙ e in
      cc

-- ---- the laws
pub tight-holds : (v : Values) → v 0 ≡ pos 1 → (r : Row) → (pos 0 ≤ℤ value v (tight_row r)) ↔ (pos 0 ≤ℤ value v r)
tight-holds v one r =
    cond_both (nat_le (common (key r)) 1) _ _ (λ s. (pos 0 ≤ℤ value v s) ↔ (pos 0 ≤ℤ value v r)) (λ e. ((λ h. h), (λ h. h)))
    (λ e. tight_iff v one r (leb-false (common (key r)) 1 e))

pub ge-holds : (v : Values) → v 0 ≡ pos 1 → (r : Row) → Holds v (ge r) ↔ (pos 0 ≤ℤ value v r)
ge-holds v one r =
    cond_both (is_constant r) _ _ (λ f. Holds v f ↔ (pos 0 ≤ℤ value v r))
    (λ e.
    let c = value-constant v one r e in
    cond_both (int_lt (entry r 0) (pos 0)) never always (λ f. Holds v f ↔ (pos 0 ≤ℤ value v r))
    (λ i. let l = lt_so (entry r 0) (pos 0) i in ((λ h. absurd h), (λ h. omega (arith, ints))))
    (λ i. let l = ge_so (entry r 0) (pos 0) i in ((λ h. omega (arith, ints)), (λ h. tt))))
    (λ e. tight-holds v one r)

-- a row of which the key's divisor divides the constant, and one of which it does not
tight_zero : (v : Values) → v 0 ≡ pos 1 → (r : Row) → is_divided r ≡ true → (value v (tight_row r) ≡ pos 0) ↔ (value v r ≡ pos 0)
tight_zero v one r d =
    on_bool (nat_le (common (key r)) 1) (λ e. rw e ((λ h. h), (λ h. h)))
    (λ e. rw e (divided_iff v one r (leb-false (common (key r)) 1 e) (rw e at d)))

undivided_not : (v : Values) → v 0 ≡ pos 1 → (r : Row) → is_divided r ≡ false → value v r ≡ pos 0 → ⊥
undivided_not v one r d h =
    let p = or_parts (nat_le (common (key r)) 1) (divides_it (common (key r)) (entry r 0)) d in
    undivided v one r (leb-false (common (key r)) 1 p.0) p.1 h

upright_zero : (v : Values) (r : Row) → (value v (upright r) ≡ pos 0) ↔ (value v r ≡ pos 0)
upright_zero v r =
    cond_both (int_lt (first_entry (key r)) (pos 0)) (negated r) r (λ s. (value v s ≡ pos 0) ↔ (value v r ≡ pos 0))
    (λ e. let n = value-negated v r in ((λ h. omega (arith, ints)), (λ h. omega (arith, ints)))) (λ e. ((λ h. h), (λ h. h)))

pub eq-holds : (v : Values) → v 0 ≡ pos 1 → (r : Row) → Holds v (eq r) ↔ (value v r ≡ pos 0)
eq-holds v one r =
    cond_both (is_constant r) _ _ (λ f. Holds v f ↔ (value v r ≡ pos 0))
    (λ e.
    let c = value-constant v one r e in
    cond_both (is_zero (entry r 0)) always never (λ f. Holds v f ↔ (value v r ≡ pos 0))
    (λ i. let z = zero_from_is_zero (entry r 0) i in ((λ h. omega (arith, ints)), (λ h. tt)))
    (λ i. ((λ h. absurd h), (λ h. is_zero_at_zero (entry r 0) i (sym c ∙ h)))))
    (λ e.
    cond_both (is_divided r) _ _ (λ f. Holds v f ↔ (value v r ≡ pos 0))
    (λ i. then_iff (upright_zero v (tight_row r)) (tight_zero v one r i)) (λ i. ((λ h. absurd h), (λ h. undivided_not v one r i h))))

-- an `or` of the two is always true
pub opposite-hold : (v : Values) → v 0 ≡ pos 1 → (r s : Row) → are_opposite r s ≡ true → (pos 0 ≤ℤ value v r) ⊎ (pos 0 ≤ℤ value v s)
opposite-hold v one r s e =
    let p = and_parts (same_row (key r) (negated (key s))) (not (int_lt (entry r 0 +ℤ entry s 0) (negsuc 0))) e in
    let k : value v (key r) ≡ neg_ℤ (value v (key s)) = ap (value v) (same_row-is (key r) (negated (key s)) p.0) ∙ value-negated v (key s) in
    let c = not_lt_so (entry r 0 +ℤ entry s 0) (negsuc 0) p.1 in
    let i = value-key v one r in
    let j = value-key v one s in
    ⊎_elim (λ q. inl q) (λ (q : value v r <ℤ pos 0). inr (omega (arith, ints))) (le_or_lt_z (pos 0) (value v r))
