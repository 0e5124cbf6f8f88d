-- The equation of a search, of its parts.
use Rattle.std.proofs.Common.{◌≡◌, ◌≢◌, ℕ, ◌+◌, ◌<◌, ℤ, pos, negsuc, neg_ℤ, ◌+ℤ◌, ◌*ℤ◌, [], ◌∷◌, ◌++◌, Bool, true, false, ◌==◌, sym, ◌∙◌, ap, arith, append_assoc}
use Rattle.std.specs.Prelude.{unsigned_abs, nat_lt, if◌then◌else◌}
use Rattle.std.proofs.lemmas.Bool.{cond_both}
use Rattle.cf_linear.specs.Rows.{Row, AreBelow, entry, comb, put, is_zero, add_at, without}
use Rattle.cf_linear.specs.Steps.{one_at, two_at, searches, search_equation}
use Rattle.cf_linear.proofs.CombLemmas.{Rises-comb}
use Rattle.cf_linear.proofs.Joining.{AreBelow-append, AreBelow-raise}
use Rattle.cf_linear.proofs.SubstituteLemmas.{AreBelow-without, two_entries, AreBelow-put}
use Rattle.cf_linear.specs.Searching.{equation_start}
use Rattle.cf_linear.proofs.PartColumns.{comb_before}
use Rattle.cf_linear.proofs.SideLemmas.{sided}

one_some : pos 1 ≢ pos 0
one_some e = absurd (let i = ap unsigned_abs e in omega (arith, i))

coefficient : (lower : Bool) (x : ℕ) (r : Row) → searches x lower r ≡ true →
    neg_ℤ (pos (unsigned_abs (entry r x))) ≡ (if lower then neg_ℤ (entry r x) else entry r x)
coefficient true x r e = ap neg_ℤ (sym (sided true x r e).1)
coefficient false x r e = sym (sided false x r e).1

-- the start, the search column and the new unknown
pub equation_is : (x k : ℕ) (lower : Bool) (r : Row) → AreBelow k r → searches x lower r ≡ true →
    search_equation x lower k r ≡ (equation_start x lower r ++ put k (if lower then pos 1 else negsuc 0) []) ++ put (k + 1)
    (if lower then neg_ℤ (entry r x) else entry r x) []
equation_is x k lower r h e =
    let a : ℤ = if lower then pos 1 else negsuc 0 in
    let b : ℤ = if lower then neg_ℤ (entry r x) else entry r x in
    ap (λ p. comb (if lower then negsuc 0 else pos 1) (without x r) (pos 1) (two_at a k p (k + 1))) (coefficient lower x r e) ∙
    comb_before k (if lower then negsuc 0 else pos 1) (without x r) (two_at a k b (k + 1)) (AreBelow-without k x r h)
    (Rises-comb k a (one_at k) b (one_at (k + 1)) (omega arith, one_some, tt) (omega arith, one_some, tt)) ∙
    ap (λ y. equation_start x lower r ++ y) (two_entries a k b (k + 1) (omega arith)) ∙
    sym (append_assoc (equation_start x lower r) (put k a []) (put (k + 1) b []))

AreBelow-comb : (n : ℕ) (a : ℤ) (r : Row) → AreBelow n r → AreBelow n (comb a r (pos 0) [])
AreBelow-comb n a [] h = tt
AreBelow-comb n a ((c, k) ∷ r) h = add_below c (a *ℤ k) (comb a r (pos 0) []) h.0 (AreBelow-comb n a r h.1)
  where
    put_below : (c : ℕ) (k : ℤ) (r : Row) → c < n → AreBelow n r → AreBelow n (put c k r)
    put_below c k r l h = cond_both (is_zero k) r ((c, k) ∷ r) (λ y. AreBelow n y) (λ e. h) (λ e. (l, h))

    add_below : (c : ℕ) (k : ℤ) (r : Row) → c < n → AreBelow n r → AreBelow n (add_at c k r)
    add_below c k [] l h = put_below c k [] l tt
    add_below c k ((d, m) ∷ r) l h =
        cond_both (nat_lt c d) _ _ (λ y. AreBelow n y) (λ e. put_below c k ((d, m) ∷ r) l h)
        (λ e. cond_both (c == d) _ _ (λ y. AreBelow n y) (λ f. put_below c (k +ℤ m) r l h.1) (λ f. (h.0, add_below c k r l h.1)))

pub start_below : (x k : ℕ) (lower : Bool) (r : Row) → AreBelow k r → AreBelow k (equation_start x lower r)
start_below x k lower r h = AreBelow-comb k (if lower then negsuc 0 else pos 1) (without x r) (AreBelow-without k x r h)

pub second_below : (x k : ℕ) (lower : Bool) (r : Row) → AreBelow k r →
    AreBelow (k + 1) (equation_start x lower r ++ put k (if lower then pos 1 else negsuc 0) [])
second_below x k lower r h =
    AreBelow-append (k + 1) (equation_start x lower r) (put k (if lower then pos 1 else negsuc 0) [])
    (AreBelow-raise k (k + 1) (equation_start x lower r) (omega arith) (start_below x k lower r h))
    (AreBelow-put k (k + 1) (if lower then pos 1 else negsuc 0) (omega arith))
