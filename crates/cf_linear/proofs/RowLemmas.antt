-- Values of rows are linear.
use Rattle.std.proofs.Common.{◌≡◌, ℕ, ℤ, pos, negsuc, ◌+ℤ◌, ◌*ℤ◌, [], ◌∷◌, true, cond, ◌==◌, refl, ◌∙◌, ap, arith}
use Rattle.std.specs.Prelude.{nat_lt}
use Rattle.std.proofs.lemmas.Int.{ints}
use Rattle.std.proofs.lemmas.Bool.{cond_both, eqb-true}
use Rattle.cf_num.proofs.Ring.{ring}
use Rattle.cf_linear.specs.Rows.{Row, Values, entry, value, is_zero, put, add_at, comb}

pub zero_from_is_zero : (k : ℤ) → is_zero k ≡ true → k ≡ pos 0
zero_from_is_zero (pos n) e = ap pos (eqb-true n 0 e)
zero_from_is_zero (negsuc n) e = cc

pub value-put : (v : Values) (c : ℕ) (k : ℤ) (r : Row) → value v (put c k r) ≡ k *ℤ v c +ℤ value v r
value-put v c k r = cond_both (is_zero k) r ((c, k) ∷ r) (λ x. value v x ≡ k *ℤ v c +ℤ value v r)
    (λ e. rw (zero_from_is_zero k e) (omega (arith, ints)))
    (λ e. refl)

pub value-add_at : (v : Values) (c : ℕ) (k : ℤ) (r : Row) → value v (add_at c k r) ≡ k *ℤ v c +ℤ value v r
value-add_at v c k [] = value-put v c k []
value-add_at v c k ((d, m) ∷ r) =
    cond_both (nat_lt c d) _ _ (λ x. value v x ≡ k *ℤ v c +ℤ (m *ℤ v d +ℤ value v r))
    (λ e. value-put v c k ((d, m) ∷ r))
    (λ e. cond_both (c == d) _ _ (λ x. value v x ≡ k *ℤ v c +ℤ (m *ℤ v d +ℤ value v r))
    (λ e'. value-put v c (k +ℤ m) r ∙ rw (← eqb-true c d e') (simp ring (omega (arith, ints))))
    (λ e'. rw (value-add_at v c k r) (omega (arith, ints))))

pub value-comb : (v : Values) (a : ℤ) (r : Row) (b : ℤ) (s : Row) → value v (comb a r b s) ≡ a *ℤ value v r +ℤ b *ℤ value v s
value-comb v a [] b [] = omega (arith, ints)
value-comb v a [] b ((d, m) ∷ s) = value-put v d (b *ℤ m) (comb a [] b s) ∙ rw (value-comb v a [] b s) (simp ring (omega (arith, ints)))
value-comb v a ((c, k) ∷ r) b s = value-add_at v c (a *ℤ k) (comb a r b s) ∙ rw (value-comb v a r b s) (simp ring (omega (arith, ints)))

-- an entry is a value
pub entry_is_value : (c : ℕ) (r : Row) → entry r c ≡ value (λ d. cond (d == c) (pos 1) (pos 0)) r
entry_is_value c [] = refl
entry_is_value c ((d, k) ∷ r) = cond_both (d == c) (pos 1) (pos 0)
    (λ x. cond (d == c) k (pos 0) +ℤ entry r c ≡ k *ℤ x +ℤ value (λ d. cond (d == c) (pos 1) (pos 0)) r)
    (λ e. rw (e, entry_is_value c r) (omega (arith, ints))) (λ e. rw (e, entry_is_value c r) (omega (arith, ints)))

pub entry-comb : (c : ℕ) (a : ℤ) (r : Row) (b : ℤ) (s : Row) → entry (comb a r b s) c ≡ a *ℤ entry r c +ℤ b *ℤ entry s c
entry-comb c a r b s = rw (entry_is_value c (comb a r b s), entry_is_value c r, entry_is_value c s) (value-comb (λ d. cond (d == c) (pos 1) (pos 0)) a r b s)
