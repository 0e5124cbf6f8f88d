-- A new last column.
use Rattle.std.proofs.Common.{◌≡◌, ◌≢◌, ℕ, suc, ◌<◌, ℤ, pos, ◌+ℤ◌, ◌*ℤ◌, [], ◌∷◌, ◌++◌, ◌==◌, refl, sym, ◌∙◌, ap, arith}
use Rattle.std.specs.Prelude.{unsigned_abs, nat_lt}
use Rattle.std.proofs.lemmas.Int.{ints}
use Rattle.std.proofs.lemmas.Bool.{cond_both, lt-ltb}
use Rattle.std.proofs.lemmas.List.{append-nil}
use Rattle.cf_linear.specs.Rows.{Row, AreBelow, IsRow, Rises, is_zero, put, add_at, comb}
use Rattle.cf_linear.specs.Steps.{one_at}
use Rattle.cf_linear.proofs.BoolLemmas.{on_bool}
use Rattle.cf_linear.proofs.CombLemmas.{put-append}
use Rattle.cf_linear.proofs.MapLemmas.{put_nonzero}
use Rattle.cf_linear.specs.RowParts.{divided_by}
use Rattle.cf_linear.proofs.PartLemmas.{AreBelow-divided, Rises-divided}

put_before : (c : ℕ) (k : ℤ) (r s : Row) → put c k (r ++ s) ≡ put c k r ++ s
put_before c k r s = cond_both (is_zero k) r ((c, k) ∷ r) (λ y. put c k (r ++ s) ≡ y ++ s) (λ e. rw e refl) (λ e. rw e refl)

put_some : (c : ℕ) (k : ℤ) (r : Row) → k ≢ pos 0 → put c k r ≡ (c, k) ∷ r
put_some c k r h = put-append c k r ∙ rw (put_nonzero c k h) refl

-- an entry goes into the part below n
add_before : (n c : ℕ) (k : ℤ) (r s : Row) → c < n → Rises n s → add_at c k (r ++ s) ≡ add_at c k r ++ s
add_before n c k [] [] h p = sym (append-nil (put c k []))
add_before n c k [] ((d, m) ∷ s) h p = let l = p.0 in rw (lt-ltb c d (omega arith)) (put-append c k ((d, m) ∷ s))
add_before n c k ((d, m) ∷ r) s h p =
    on_bool (nat_lt c d)
    (λ e. rw e (put_before c k ((d, m) ∷ r) s))
    (λ e. on_bool (c == d) (λ f. rw (e, f) (put_before c (k +ℤ m) r s)) (λ f. rw (e, f) (ap (λ y. (d, m) ∷ y) (add_before n c k r s h p))))

comb_second : (n : ℕ) (a : ℤ) (s : Row) → Rises n s → comb a [] (pos 1) s ≡ s
comb_second n a [] p = refl
comb_second n a ((d, m) ∷ s) p =
    let i : pos 1 *ℤ m ≡ m = omega (arith, ints) in
    rw (i, comb_second (suc d) a s p.2) (put_some d m s p.1)

-- a row from n on follows a times a row below n
pub comb_before : (n : ℕ) (a : ℤ) (r s : Row) → AreBelow n r → Rises n s → comb a r (pos 1) s ≡ comb a r (pos 0) [] ++ s
comb_before n a [] s h p = comb_second n a s p
comb_before n a ((c, k) ∷ r) s h p = rw (comb_before n a r s h.1 p) (add_before n c (a *ℤ k) (comb a r (pos 0) []) s h.0 p)

pub comb_first : (n : ℕ) (r : Row) → Rises n r → comb (pos 1) r (pos 0) [] ≡ r
comb_first n [] p = refl
comb_first n ((c, k) ∷ r) p =
    let i : pos 1 *ℤ k ≡ k = omega (arith, ints) in
    rw (i, comb_first (suc c) r p.2) (add_least c k r p.2 ∙ put_some c k r p.1)
  where
    add_least : (c : ℕ) (k : ℤ) (r : Row) → Rises (suc c) r → add_at c k r ≡ put c k r
    add_least c k [] p = refl
    add_least c k ((d, m) ∷ r) p = let l = p.0 in rw (lt-ltb c d (omega arith)) refl

pub floored_is : (n : ℕ) (g : ℤ) (r : Row) → AreBelow n r → IsRow r → comb (pos 1) (divided_by g r) (pos 1) (one_at n) ≡ divided_by g r ++ put n (pos 1) []
floored_is n g r h p =
    comb_before n (pos 1) (divided_by g r) (one_at n) (AreBelow-divided n (unsigned_abs g) r h) (omega arith, one_some, tt) ∙
    ap (λ y. y ++ one_at n) (comb_first 0 (divided_by g r) (Rises-divided 0 (unsigned_abs g) r p.0))
  where
    one_some : pos 1 ≢ pos 0
    one_some e = absurd (let i = ap unsigned_abs e in omega (arith, i))

pub divided_low : (n : ℕ) (g : ℤ) (r : Row) → AreBelow n r → AreBelow n (divided_by g r)
divided_low n g r h = AreBelow-divided n (unsigned_abs g) r h
