-- Two rows combined from their least column on.
use Rattle.std.proofs.Common.{◌≡◌, ℕ, ℤ, pos, ◌+ℤ◌, ◌*ℤ◌, [], ◌∷◌, ◌++◌, Bool, true, false, not, cond, ◌==◌, refl, sym, ◌∙◌, arith, suc}
use Rattle.std.proofs.lemmas.Int.{ints}
use Rattle.std.proofs.lemmas.Bool.{cond_both, eqb-true, eqb-false, ne_eqb}
use Rattle.cf_linear.specs.Rows.{Row, entry, is_zero, put, comb, Rises, without}
use Rattle.cf_linear.proofs.BoolLemmas.{on_bool}
use Rattle.cf_linear.proofs.RowLemmas.{zero_from_is_zero, entry-comb}
use Rattle.cf_linear.proofs.Canonical.{Rises-add_at, Rises-put, Rises-lower, row_ext}

pub Rises-comb : (c : ℕ) (a : ℤ) (r : Row) (b : ℤ) (s : Row) → Rises c r → Rises c s → Rises c (comb a r b s)
Rises-comb c a [] b [] p q = tt
Rises-comb c a [] b ((d, m) ∷ s) p q = Rises-put c d (b *ℤ m) (comb a [] b s) q.0 (Rises-comb (suc d) a [] b s tt q.2)
Rises-comb c a ((d, k) ∷ r) b s p q = Rises-add_at c d (a *ℤ k) (comb a r b s) p.0
    (Rises-comb c a r b s (Rises-lower c (suc d) r (let l = p.0 in omega arith) p.2) q)

pub entry-put : (x c : ℕ) (k : ℤ) (r : Row) → entry (put c k r) x ≡ cond (c == x) k (pos 0) +ℤ entry r x
entry-put x c k r = cond_both (is_zero k) r ((c, k) ∷ r) (λ y. entry y x ≡ cond (c == x) k (pos 0) +ℤ entry r x)
    (λ e. rw (zero_from_is_zero k e) (cond_both (c == x) (pos 0) (pos 0) (λ z. entry r x ≡ z +ℤ entry r x) (λ _. omega (arith, ints))
    (λ _. omega (arith, ints))))
    (λ e. refl)

pub Rises-without : (c x : ℕ) (r : Row) → Rises c r → Rises c (without x r)
Rises-without c x [] p = tt
Rises-without c x ((d, k) ∷ r) p = cond_both (not (d == x)) ((d, k) ∷ without x r) (without x r) (λ y. Rises c y)
    (λ e. (p.0, p.1, Rises-without (suc d) x r p.2))
    (λ e. Rises-lower c (suc d) (without x r) (let l = p.0 in omega arith) (Rises-without (suc d) x r p.2))

-- what is left after the least column
pub Rises-after : (c : ℕ) (r : Row) → Rises c r → Rises (suc c) (without c r)
Rises-after c [] p = tt
Rises-after c ((d, k) ∷ r) p = cond_both (d == c) (without c r) ((d, k) ∷ without c r)
    (λ y. Rises (suc c) (cond (not (d == c)) ((d, k) ∷ without c r) (without c r)))
    (λ e. rw e (Rises-without (suc c) c r (rw (eqb-true d c e) at p.2)))
    (λ e. rw e (let n = eqb-false d c e in let l = p.0 in omega arith, p.1, Rises-without (suc d) c r p.2))

twice_gone : (t : Bool) (k z : ℤ) → cond t (pos 0) z ≡ cond t (pos 0) (cond t k (pos 0) +ℤ z)
twice_gone true k z = refl
twice_gone false k z = omega (arith, ints)

pub entry-without : (c x : ℕ) (r : Row) → entry (without c r) x ≡ cond (c == x) (pos 0) (entry r x)
entry-without c x [] = cond_both (c == x) (pos 0) (pos 0) (λ y. pos 0 ≡ y) (λ _. refl) (λ _. refl)
entry-without c x ((d, k) ∷ r) = on_bool (d == c)
    (λ e. rw (e, entry-without c x r, eqb-true d c e) (twice_gone (c == x) k (entry r x)))
    (λ e. rw (e, entry-without c x r) (on_bool (c == x)
    (λ f. let n : d == x ≡ false = rw (eqb-true c x f) at e in rw (f, n) refl)
    (λ f. rw f refl)))

pub comb-next : (c : ℕ) (a : ℤ) (r : Row) (b : ℤ) (s : Row) → Rises c r → Rises c s →
    comb a r b s ≡ put c (a *ℤ entry r c +ℤ b *ℤ entry s c) (comb a (without c r) b (without c s))
comb-next c a r b s p q =
    row_ext c (comb a r b s) (put c (a *ℤ entry r c +ℤ b *ℤ entry s c) (comb a (without c r) b (without c s)))
    (Rises-comb c a r b s p q)
    (Rises-put c c (a *ℤ entry r c +ℤ b *ℤ entry s c) (comb a (without c r) b (without c s)) (omega arith)
    (Rises-comb (suc c) a (without c r) b (without c s) (Rises-after c r p) (Rises-after c s q)))
    (λ x. entry-comb x a r b s ∙ sym (entry-put x c (a *ℤ entry r c +ℤ b *ℤ entry s c) (comb a (without c r) b (without c s)) ∙
    rw (entry-comb x a (without c r) b (without c s), entry-without c x r, entry-without c x s) (at x)))
  where
    at : (x : ℕ) → cond (c == x) (a *ℤ entry r c +ℤ b *ℤ entry s c) (pos 0) +ℤ
        (a *ℤ cond (c == x) (pos 0) (entry r x) +ℤ b *ℤ cond (c == x) (pos 0) (entry s x)) ≡ a *ℤ entry r x +ℤ b *ℤ entry s x
    at x = on_bool (c == x)
        (λ e. rw (e, eqb-true c x e) (omega (arith, ints)))
        (λ e. rw e (omega (arith, ints)))

-- a row without a column that is below it
pub without-low : (c : ℕ) (r : Row) → Rises (suc c) r → without c r ≡ r
without-low c [] p = refl
without-low c ((d, k) ∷ r) p =
    let n : d == c ≡ false = ne_eqb d c (λ e. let l = p.0 in omega arith) in
    rw (n, without-low c r (Rises-lower (suc c) (suc d) r (let l = p.0 in omega arith) p.2)) refl

pub put-append : (c : ℕ) (k : ℤ) (r : Row) → put c k r ≡ put c k [] ++ r
put-append c k r = cond_both (is_zero k) r ((c, k) ∷ r) (λ y. y ≡ cond (is_zero k) [] ((c, k) ∷ []) ++ r) (λ e. rw e refl) (λ e. rw e refl)
