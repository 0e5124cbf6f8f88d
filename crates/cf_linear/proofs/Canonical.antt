-- A row is determined by its entries.
use Rattle.std.proofs.Common.{◌≡◌, ◌≢◌, ℕ, ◌<◌, ◌≤◌, ℤ, pos, ◌+ℤ◌, [], ◌∷◌, false, cond, ◌==◌, refl, sym, ◌∙◌, ap, arith, suc, ⊎_elim, subst}
use Rattle.std.specs.Prelude.{nat_lt}
use Rattle.std.proofs.lemmas.Int.{ints}
use Rattle.std.proofs.lemmas.Bool.{cond_both, eqb-true, eqb-false, ltb-true, ltb-false, cases_order, eq-eqb, ne_eqb}
use Rattle.cf_linear.specs.Rows.{Row, entry, is_zero, put, add_at, Rises}

pub Rises-lower : (c d : ℕ) (r : Row) → c ≤ d → Rises d r → Rises c r
Rises-lower c d [] h p = tt
Rises-lower c d ((e, k) ∷ r) h p = (omega arith, p.1, p.2)

pub is_zero_at_zero : (k : ℤ) → is_zero k ≡ false → k ≢ pos 0
is_zero_at_zero k e p = let q : is_zero (pos 0) ≡ false = rw p at e in cc

pub Rises-put : (c d : ℕ) (k : ℤ) (r : Row) → c ≤ d → Rises (suc d) r → Rises c (put d k r)
Rises-put c d k r h p = cond_both (is_zero k) r ((d, k) ∷ r) (λ x. Rises c x)
    (λ e. Rises-lower c (suc d) r (omega arith) p)
    (λ e. (h, is_zero_at_zero k e, p))

pub Rises-add_at : (c d : ℕ) (k : ℤ) (r : Row) → c ≤ d → Rises c r → Rises c (add_at d k r)
Rises-add_at c d k [] h p = Rises-put c d k [] h tt
Rises-add_at c d k ((e, m) ∷ r) h p =
    cond_both (nat_lt d e) _ _ (λ x. Rises c x)
    (λ q. Rises-put c d k ((e, m) ∷ r) h (omega (arith, ltb-true d e q), p.1, p.2))
    (λ q. cond_both (d == e) _ _ (λ x. Rises c x)
    (λ q'. Rises-put c d (k +ℤ m) r h (subst (λ y. Rises (suc y) r) (sym (eqb-true d e q')) p.2))
    (λ q'. (p.0, p.1, Rises-add_at (suc e) d k r (let l = ltb-false d e q in let n = eqb-false d e q' in omega arith) p.2)))

pub entry-low : (c : ℕ) (r : Row) (x : ℕ) → Rises c r → x < c → entry r x ≡ pos 0
entry-low c [] x p h = refl
entry-low c ((d, k) ∷ r) x p h =
    let n : d == x ≡ false = ne_eqb d x (λ e. let l = p.0 in omega arith) in
    rw (n, entry-low (suc d) r x p.2 (let l = p.0 in omega arith)) refl

pub entry-head : (c d : ℕ) (k : ℤ) (r : Row) → Rises c ((d, k) ∷ r) → entry ((d, k) ∷ r) d ≡ k
entry-head c d k r p = rw (eq-eqb d d refl, entry-low (suc d) r d p.2 (omega arith)) (omega (arith, ints))

-- the entries after the head
entry-tail : (c d : ℕ) (k : ℤ) (r : Row) → Rises c ((d, k) ∷ r) → (x : ℕ) → entry r x ≡ cond (d == x) (pos 0) (entry ((d, k) ∷ r) x)
entry-tail c d k r p x =
    cond_both (d == x) (pos 0) (entry ((d, k) ∷ r) x) (λ y. entry r x ≡ y)
    (λ e. rw (← eqb-true d x e) (entry-low (suc d) r d p.2 (omega arith)))
    (λ e. rw e (omega (arith, ints)))

pub row_ext : (c : ℕ) (r s : Row) → Rises c r → Rises c s → ((x : ℕ) → entry r x ≡ entry s x) → r ≡ s
row_ext c [] [] p q h = refl
row_ext c [] ((d, m) ∷ s) p q h = absurd (q.1 (sym (entry-head c d m s q) ∙ sym (h d)))
row_ext c ((d, k) ∷ r) [] p q h = absurd (p.1 (sym (entry-head c d k r p) ∙ h d))
row_ext c ((d, k) ∷ r) ((e, m) ∷ s) p q h =
    ⊎_elim (same (λ t i. row_ext (suc d) r s p.2 t i))
    (λ o. ⊎_elim (λ l. absurd (p.1 (sym (entry-head c d k r p) ∙ h d ∙ entry-low e ((e, m) ∷ s) d (omega arith, q.1, q.2) l)))
    (λ l. absurd (q.1 (sym (entry-head c e m s q) ∙ sym (h e) ∙ entry-low d ((d, k) ∷ r) e (omega arith, p.1, p.2) l))) o) (cases_order d e)
  where
    same : (Rises (suc d) s → ((x : ℕ) → entry r x ≡ entry s x) → r ≡ s) → d ≡ e → (d, k) ∷ r ≡ (e, m) ∷ s
    same again i =
        let q' : Rises c ((d, m) ∷ s) = subst (λ y. Rises c ((y, m) ∷ s)) (sym i) q in
        let h' : (x : ℕ) → entry ((d, k) ∷ r) x ≡ entry ((d, m) ∷ s) x = subst (λ y. (x : ℕ) → entry ((d, k) ∷ r) x ≡ entry ((y, m) ∷ s) x) (sym i) h in
        let km : k ≡ m = sym (entry-head c d k r p) ∙ h' d ∙ entry-head c d m s q' in
        let rs : r ≡ s = again q'.2 (λ x. entry-tail c d k r p x ∙ ap (λ y. cond (d == x) (pos 0) y) (h' x) ∙ sym (entry-tail c d m s q' x)) in
        cc
