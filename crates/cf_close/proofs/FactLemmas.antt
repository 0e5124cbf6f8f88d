-- What follows from facts.
use Rattle.std.proofs.Common.{rules, ◌≡◌, ◌≢◌, ℕ, zero, suc, ◌<◌, ◌≤◌, ℤ, pos, negsuc, ◌+ℤ◌, ◌*ℤ◌, List, [], ◌∷◌, Bool, true, false, cond, ◌==◌, ◌%◌, length, get_or, neg_ℤ, refl, sym, ◌∙◌, ap, arith, subst, ◌⊎◌, inl, inr, ⊎_elim}
use Rattle.std.specs.Prelude.{◌≤ℤ◌, ◌<ℤ◌, ◌-ℤ◌, ◌||◌, ◌&&◌, not, unsigned_abs}
use Rattle.std.specs.List.{list_all}
use Rattle.std.specs.Int.{int_div_euclid, int_rem_euclid}
use Rattle.std.proofs.lemmas.Int.{ints}
use Rattle.std.proofs.lemmas.Bool.{cond_both, and_parts, eqb-true, ne_eqb}
use Rattle.std.proofs.Math.Nat.{div-add-mod}
use Rattle.cf_num.proofs.Ring.{ring, mul-add_z, mul-neg_z}
use Rattle.cf_num.proofs.Orders.{mul-le_z, lt-mul_cancel_z, mul_cancel_z, le_or_lt_z}
use Rattle.cf_num.proofs.DivisionLemmas.{int_div_euclid-bounds, int_div_euclid_once, le-int_div_euclid}
use Rattle.cf_linear.specs.Rows.{Row, Values, value, entry, comb, is_zero, Rises}
use Rattle.cf_linear.specs.Steps.{divided}
use Rattle.cf_linear.proofs.RowLemmas.{value-comb, value-put, zero_from_is_zero}
use Rattle.cf_linear.specs.RowParts.{divides_known, divided_by}
use Rattle.cf_num.specs.Limit.{IsWithin}
use Rattle.cf_close.specs.declared.fact.FactKind.{FactKind}
use Rattle.cf_close.specs.declared.fact.FactKind.TheVariants.{Equation, Inequality}
use Rattle.cf_close.specs.Facts.{Holds, MayTake, both, is_equation}

-- ---- combine
scaled : (k z : ℤ) (e : FactKind) → MayTake k e → Holds e z → Holds e (k *ℤ z)
scaled k z Equation m h = rw h (omega (arith, ints))
scaled k z Inequality m h = let l = mul-le_z k (pos 0) z m h in omega (arith, ints)

summed : (x y : ℤ) (d e : FactKind) → Holds d x → Holds e y → Holds (both d e) (x +ℤ y)
summed x y Equation Equation h k = rw (h, k) (omega (arith, ints))
summed x y Equation Inequality h k = rw h (omega (arith, ints))
summed x y Inequality Equation h k = rw k (omega (arith, ints))
summed x y Inequality Inequality h k = omega (arith, ints)

pub combined : (v : Values) (a : ℤ) (r : Row) (b : ℤ) (s : Row) (d e : FactKind) → MayTake a d → MayTake b e → Holds d (value v r) → Holds e (value v s) →
    Holds (both d e) (value v (comb a r b s))
combined v a r b s d e m n h k =
    subst (λ z. Holds (both d e) z) (sym (value-comb v a r b s))
    (summed (a *ℤ value v r) (b *ℤ value v s) d e (scaled a (value v r) d m h) (scaled b (value v s) e n k))

-- two rows whose sum has no entry are 0
pub opposed : (v : Values) (r s : Row) (d e : FactKind) → length (comb (pos 1) r (pos 1) s) ≡ 0 → Holds d (value v r) → Holds e (value v s) → value v r ≡ pos 0
opposed v r s d e l h k = by d e (value-comb v (pos 1) r (pos 1) s) (nothing_is (comb (pos 1) r (pos 1) s) l) h k
  where
    nothing_is : (t : Row) → length t ≡ 0 → value v t ≡ pos 0
    nothing_is [] m = refl
    nothing_is (x ∷ t) m = absurd (omega arith)

    by : (d e : FactKind) → value v (comb (pos 1) r (pos 1) s) ≡ pos 1 *ℤ value v r +ℤ pos 1 *ℤ value v s → value v (comb (pos 1) r (pos 1) s) ≡ pos 0 →
        Holds d (value v r) → Holds e (value v s) → value v r ≡ pos 0
    by Equation e x z h k = h
    by Inequality Equation x z h k = omega (arith, ints)
    by Inequality Inequality x z h k = omega (arith, ints)

-- ---- tighten
-- what division by g leaves of the constant alone
pub record Divided (v : Values) (g : ℤ) (r s : Row) : Type 0 where
  pub rest : ℤ
  pub whole : value v r ≡ g *ℤ rest +ℤ entry r 0
  pub rounded : value v s ≡ rest +ℤ int_div_euclid (entry r 0) g

exact : (g : ℕ) (k : ℤ) → 0 < g → is_zero (int_rem_euclid k (pos g)) ≡ true → pos g *ℤ int_div_euclid k (pos g) ≡ k
exact g (pos n) h e =
    let i : n % g ≡ 0 = eqb-true (n % g) 0 e in
    ap pos (let d = div-add-mod n g in omega (arith, d))
exact g (negsuc n) h e =
    let i = zero_from_is_zero (int_rem_euclid (negsuc n) (pos g)) e in
    let d = div-add-mod n g in omega (arith, ints, d)

-- above the constant, division is exact
value_above : (v : Values) (g c : ℕ) (r : Row) → 0 < g → Rises (suc c) r → divides_known (pos g) r ≡ true → value v r ≡ pos g *ℤ value v (divided g r)
value_above v g c [] h s e = omega (arith, ints)
value_above v g c ((d, k) ∷ r) h s e =
    let a = and_parts ((d == 0) || is_zero (int_rem_euclid k (pos g))) (list_all (λ (c, k). (c == 0) || is_zero (int_rem_euclid k (pos g))) r) e in
    let n : d == 0 ≡ false = ne_eqb d 0 (λ i. let l = s.0 in omega arith) in
    let x = exact g k h (rw n at a.0) in
    let again = value_above v g d r h s.2 a.1 in
    let t = simp ring at (ap (λ z. z *ℤ v d) x) in
    rw (value-put v d (int_div_euclid k (pos g)) (divided g r)) (simp ring (omega (arith, ints)))

entry_above : (c : ℕ) (r : Row) → Rises (suc c) r → entry r 0 ≡ pos 0
entry_above c [] s = refl
entry_above c ((d, k) ∷ r) s =
    let n : d == 0 ≡ false = ne_eqb d 0 (λ i. let l = s.0 in omega arith) in
    rw (n, entry_above d r s.2) refl

zero_over : (g : ℕ) → 0 < g → int_div_euclid (pos 0) (pos g) ≡ pos 0
zero_over g h = int_div_euclid_once (pos 0) (pos g) (pos 0) (omega (arith, ints)) (omega (arith, ints)) (omega (arith, ints))

divided_above : (v : Values) (g c : ℕ) (r : Row) → 0 < g → Rises (suc c) r → divides_known (pos g) r ≡ true → Divided v (pos g) r (divided g r)
divided_above v g c r h s e = record {
  rest = value v (divided g r);
  whole = (let y = entry_above c r s in rw y (let w = value_above v g c r h s e in omega (arith, ints)));
  rounded = (let y = entry_above c r s in let z = zero_over g h in rw (y, z) (omega (arith, ints)));
}

divided_row : (v : Values) (g : ℕ) (r : Row) → 0 < g → v 0 ≡ pos 1 → Rises 0 r → divides_known (pos g) r ≡ true → Divided v (pos g) r (divided g r)
divided_row v g [] h one s e = divided_above v g 0 [] h tt e
divided_row v g ((zero, k) ∷ r) h one s e =
    let x = value_above v g 0 r h s.2 e in
    let y = entry_above 0 r s.2 in
    let a : k *ℤ pos 1 ≡ k = omega (arith, ints) in
    let b : int_div_euclid k (pos g) *ℤ pos 1 ≡ int_div_euclid k (pos g) = omega (arith, ints) in
    let z : k +ℤ pos 0 ≡ k = omega (arith, ints) in
    record {
      rest = value v (divided g r);
      whole = rw (one, a, y, x) (omega (arith, ints));
      rounded = value-put v 0 (int_div_euclid k (pos g)) (divided g r) ∙ rw (one, b, y, z) (omega (arith, ints));
    }
divided_row v g ((suc c, k) ∷ r) h one s e = divided_above v g c ((suc c, k) ∷ r) h (omega arith, s.1, s.2) e

kept : (v : Values) (g : ℤ) (r s : Row) (b : FactKind) → pos 0 <ℤ g → Divided v g r s → is_equation b && not (is_zero (entry r 0 -ℤ g *ℤ int_div_euclid (entry r 0) g)) ≡ false →
    Holds b (value v r) → Holds b (value v s)
kept v g r s Equation h d e k =
    let z = zero_from_is_zero (entry r 0 -ℤ g *ℤ int_div_euclid (entry r 0) g) (not_false (is_zero (entry r 0 -ℤ g *ℤ int_div_euclid (entry r 0) g)) e) in
    let w = d.whole in
    let x = mul-add_z g d.rest (int_div_euclid (entry r 0) g) in
    let y : g *ℤ pos 0 ≡ pos 0 = omega (arith, ints) in
    rw d.rounded (mul_cancel_z g (d.rest +ℤ int_div_euclid (entry r 0) g) (pos 0) h (omega (arith, ints)))
  where
    not_false : (t : Bool) → not t ≡ false → t ≡ true
    not_false true e = refl
    not_false false e = cc
kept v g r s Inequality h d e k =
    let q = int_div_euclid-bounds (entry r 0) g h in
    let w = d.whole in
    let x = mul-add_z g d.rest (int_div_euclid (entry r 0) g +ℤ pos 1) in
    let t = mul-add_z g (int_div_euclid (entry r 0) g) (pos 1) in
    let o : g *ℤ pos 1 ≡ g = omega (arith, ints) in
    let y : g *ℤ pos 0 ≡ pos 0 = omega (arith, ints) in
    let l = lt-mul_cancel_z g (pos 0) (d.rest +ℤ (int_div_euclid (entry r 0) g +ℤ pos 1)) h (omega (arith, ints)) in
    rw d.rounded (omega (arith, ints))

sized : (g : ℤ) → pos 0 <ℤ g → (n : ℕ) × (g ≡ pos n) × (0 < n)
sized (pos n) h = (n, refl, omega (arith, ints))
sized (negsuc n) h = absurd (omega (arith, ints))

divided_is : (v : Values) (g : ℤ) (r : Row) → pos 0 <ℤ g → v 0 ≡ pos 1 → Rises 0 r → divides_known g r ≡ true → Divided v g r (divided_by g r)
divided_is v (pos n) r h one s e = divided_row v n r (omega (arith, ints)) one s e
divided_is v (negsuc n) r h one s e = absurd (omega (arith, ints))

pub tightened : (v : Values) (g : ℤ) (r : Row) (b : FactKind) → pos 0 <ℤ g → v 0 ≡ pos 1 → Rises 0 r → divides_known g r ≡ true →
    is_equation b && not (is_zero (entry r 0 -ℤ g *ℤ int_div_euclid (entry r 0) g)) ≡ false → Holds b (value v r) → Holds b (value v (divided_by g r))
tightened v g r b h one s e f k = kept v g r (divided_by g r) b h (divided_is v g r h one s e) f k

pub closed : (v : Values) (g : ℤ) (r : Row) (b : FactKind) → pos 0 <ℤ g → v 0 ≡ pos 1 → Rises 0 r → divides_known g r ≡ true →
    is_equation b && not (is_zero (entry r 0 -ℤ g *ℤ int_div_euclid (entry r 0) g)) ≡ true → Holds b (value v r) → ⊥
closed v g r Equation h one s e f k =
    let d = divided_is v g r h one s e in
    let w = d.whole in
    let n = mul-neg_z g d.rest in
    let q = int_div_euclid_once (entry r 0) g (neg_ℤ d.rest) h (omega (arith, ints)) (omega (arith, ints)) in
    let z : entry r 0 -ℤ g *ℤ int_div_euclid (entry r 0) g ≡ pos 0 = rw q (omega (arith, ints)) in
    no_zero (entry r 0 -ℤ g *ℤ int_div_euclid (entry r 0) g) z f
  where
    no_zero : (y : ℤ) → y ≡ pos 0 → not (is_zero y) ≡ true → ⊥
    no_zero y i j = let k : not (is_zero (pos 0)) ≡ true = rw i at j in cc k
closed v g r Inequality h one s e f k = cc f

-- ---- constant
pub absurd_row : (v : Values) (r : Row) (b : FactKind) → v 0 ≡ pos 1 → Rises 0 r → length r ≡ 1 → (get_or r 0 (0, pos 0)).0 ≡ 0 →
    ((get_or r 0 (0, pos 0)).1 ≢ pos 0 → Holds b ((get_or r 0 (0, pos 0)).1) → ⊥) → Holds b (value v r) → ⊥
absurd_row v [] b one s l c n h = absurd (omega arith)
absurd_row v ((d, k) ∷ []) b one s l c n h =
    let x : k *ℤ pos 1 +ℤ pos 0 ≡ k = omega (arith, ints) in
    n s.1 (subst (λ z. Holds b z) x (rw (c, one) at h))
absurd_row v (x ∷ y ∷ r) b one s l c n h = absurd (omega arith)

-- ---- a row and its opposite
pub split : (v : Values) (r s : Row) → s ≡ comb (negsuc 0) r (negsuc 0) ((0, pos 1) ∷ []) → v 0 ≡ pos 1 → (pos 0 ≤ℤ value v r) ⊎ (pos 0 ≤ℤ value v s)
split v r s e one =
    let i : value v s ≡ negsuc 0 *ℤ value v r +ℤ negsuc 0 *ℤ (pos 1 *ℤ v 0 +ℤ pos 0) = ap (value v) e ∙ value-comb v (negsuc 0) r (negsuc 0) ((0, pos 1) ∷ []) in
    let j = rw one at i in
    ⊎_elim (λ p. inl p) (λ p. inr (omega (arith, ints))) (le_or_lt_z (pos 0) (value v r))
