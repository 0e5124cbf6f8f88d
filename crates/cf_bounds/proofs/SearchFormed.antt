-- The condition of every step holds again after the search.
use Rattle.std.proofs.Common.{◌≢◌, ℕ, ◌+◌, ℤ, pos, negsuc, neg_ℤ, List, [], ◌∷◌, ◌++◌, Bool, true, false, not, ◌==◌, refl, ap, arith, ◌⊎◌, inl, inr, ⊎_elim}
use Rattle.std.specs.Prelude.{unsigned_abs}
use Rattle.cf_linear.specs.Rows.{Row, Rises, entry, without}
use Rattle.cf_linear.specs.Systems.{System, EachRow}
use Rattle.cf_linear.specs.Steps.{one_at, two_at, Found, search_equation, search_bound, found_row, found_all, no_found, searched}
use Rattle.cf_linear.specs.Keep.{In, Over, IsColumn, Formed}
use Rattle.cf_linear.proofs.CombLemmas.{Rises-comb, Rises-without}
use Rattle.cf_linear.proofs.KindLemmas.{Over-weaker, Over-comb, Over-filter, EachRow-append, EachRow-weaker, In-append, In-left, In-right, Rising-le, Rising-in}
use Rattle.cf_bounds.proofs.SearchLemmas.{by_row, found_new}
use Rattle.cf_bounds.proofs.BoundLemmas.{made_all, searched_kinds}

abbrev New : (ℕ → Type 0) → Found → ℕ → Type 0
New C s c = C c ⊎ (In c s.columns ⊎ In c s.unknowns)

record Shaped (C : ℕ → Type 0) (s : Found) : Type 0 where
  zero : EachRow (Over (New C s)) s.equations
  nonneg : EachRow (Over (New C s)) s.rows
  zero_rise : EachRow (Rises 0) s.equations
  nonneg_rise : EachRow (Rises 0) s.rows

one_some : pos 1 ≢ pos 0
one_some e = absurd (let i = ap unsigned_abs e in omega (arith, i))

pub two_over : (E : ℕ → Type 0) (a : ℤ) (u : ℕ) (b : ℤ) (v : ℕ) → E u → E v → Over E (two_at a u b v)
two_over E a u b v h k = Over-comb E a (one_at u) b (one_at v) (h, tt) (k, tt)

two_rise : (a : ℤ) (u : ℕ) (b : ℤ) (v : ℕ) → Rises 0 (two_at a u b v)
two_rise a u b v = Rises-comb 0 a (one_at u) b (one_at v) (omega arith, one_some, tt) (omega arith, one_some, tt)

equation_over : (E : ℕ → Type 0) (lower : Bool) (x k : ℕ) (r : Row) → Over E (without x r) → E k → E (k + 1) → Over E (search_equation x lower k r)
equation_over E true x k r o a b = Over-comb E (negsuc 0) (without x r) (pos 1) _ o (two_over E (pos 1) k (neg_ℤ (pos (unsigned_abs (entry r x)))) (k + 1) a b)
equation_over E false x k r o a b = Over-comb E (pos 1) (without x r) (pos 1) _ o (two_over E (negsuc 0) k (neg_ℤ (pos (unsigned_abs (entry r x)))) (k + 1) a b)

equation_rise : (lower : Bool) (x k : ℕ) (r : Row) → Rises 0 (without x r) → Rises 0 (search_equation x lower k r)
equation_rise true x k r o = Rises-comb 0 (negsuc 0) (without x r) (pos 1) _ o (two_rise (pos 1) k (neg_ℤ (pos (unsigned_abs (entry r x)))) (k + 1))
equation_rise false x k r o = Rises-comb 0 (pos 1) (without x r) (pos 1) _ o (two_rise (negsuc 0) k (neg_ℤ (pos (unsigned_abs (entry r x)))) (k + 1))

bound_over : (E : ℕ → Type 0) (lower : Bool) (x k : ℕ) → E x → E (k + 1) → Over E (search_bound x lower k)
bound_over E true x k a b = two_over E (pos 1) x (negsuc 0) (k + 1) a b
bound_over E false x k a b = two_over E (negsuc 0) x (pos 1) (k + 1) a b

bound_rise : (lower : Bool) (x k : ℕ) → Rises 0 (search_bound x lower k)
bound_rise true x k = two_rise (pos 1) x (negsuc 0) (k + 1)
bound_rise false x k = two_rise (negsuc 0) x (pos 1) (k + 1)

shaped_row : (C : ℕ → Type 0) (x : ℕ) (lower : Bool) (s : Found) (r : Row) → C x → Over C r → Rises 0 r → Shaped C s → Shaped C (found_row x lower s r)
shaped_row C x lower s r cx o h g =
    let n = s.next in
    let t = found_new x lower s r in
    let E : ℕ → Type 0 = New C t in
    let grow : (c : ℕ) → New C s c → E c = λ c q. ⊎_elim (λ i. inl i)
    (λ p. ⊎_elim (λ i. inr (inl (In-left c s.columns (n ∷ []) i))) (λ i. inr (inr (In-left c s.unknowns ((n + 1) ∷ []) i))) p) q in
    let wide : (q : Row) → Over (New C s) q → Over E q = λ q w. Over-weaker (New C s) E grow q w in
    let k : E n = inr (inl (In-right n s.columns (n ∷ []) (inl refl))) in
    let u : E (n + 1) = inr (inr (In-right (n + 1) s.unknowns ((n + 1) ∷ []) (inl refl))) in
    let part : Over E (without x r) = Over-filter E (λ (c, k). not (c == x)) r (Over-weaker C E (λ c i. inl i) r o) in
    by_row (Shaped C) x lower s r
    (λ e. record {
      zero = EachRow-append (Over E) s.equations (search_equation x lower n r ∷ []) (EachRow-weaker (Over (New C s)) (Over E) wide s.equations g.zero)
          (equation_over E lower x n r part k u, tt);
      nonneg = EachRow-append (Over E) s.rows (search_bound x lower n ∷ []) (EachRow-weaker (Over (New C s)) (Over E) wide s.rows g.nonneg)
          (bound_over E lower x n (inl cx) u, tt);
      zero_rise = EachRow-append (Rises 0) s.equations (search_equation x lower n r ∷ []) g.zero_rise (equation_rise lower x n r (Rises-without 0 x r h), tt);
      nonneg_rise = EachRow-append (Rises 0) s.rows (search_bound x lower n ∷ []) g.nonneg_rise (bound_rise lower x n, tt);
    })
    (record {
      zero = g.zero;
      nonneg = EachRow-append (Over (New C s)) s.rows (r ∷ []) g.nonneg (Over-weaker C (New C s) (λ c i. inl i) r o, tt);
      zero_rise = g.zero_rise;
      nonneg_rise = EachRow-append (Rises 0) s.rows (r ∷ []) g.nonneg_rise (h, tt);
    })

shaped_all : (C : ℕ → Type 0) (x : ℕ) (lower : Bool) (rows : List Row) (s : Found) → C x → EachRow (Over C) rows → EachRow (Rises 0) rows → Shaped C s →
    Shaped C (found_all x lower s rows)
shaped_all C x lower [] s cx o h g = g
shaped_all C x lower (r ∷ rows) s cx o h g = shaped_all C x lower rows (found_row x lower s r) cx o.1 h.1 (shaped_row C x lower s r cx o.0 h.0 g)

pub searched_formed : (m : System) (x : ℕ) (lower : Bool) → Formed m → In x m.unknown → Formed (searched m x lower).system
unfolding searched
searched_formed m x lower f i =
    let s = found_all x lower (no_found m) m.inequalities in
    let k = searched_kinds m x lower f in
    let d = made_all m.next x lower m.inequalities (no_found m) (record { same = refl; rise = omega arith; unknown_rise = omega arith; apart = λ c i j. i }) in
    let le = Rising-le m.next s.next s.columns d.rise in
    let g = shaped_all (IsColumn m) x lower m.inequalities (no_found m) (inr i) f.nonneg f.nonneg_rise
    (record { zero = tt; nonneg = tt; zero_rise = tt; nonneg_rise = tt }) in
    let N : ℕ → Type 0 = λ c. In c (m.known ++ s.columns) ⊎ In c (m.unknown ++ s.unknowns) in
    let old : (c : ℕ) → IsColumn m c → N c = λ c q. ⊎_elim (λ i. inl (In-left c m.known s.columns i)) (λ i. inr (In-left c m.unknown s.unknowns i)) q in
    let new : (c : ℕ) → New (IsColumn m) s c → N c =
    λ c q. ⊎_elim (λ i. old c i) (λ p. ⊎_elim (λ i. inl (In-right c m.known s.columns i)) (λ i. inr (In-right c m.unknown s.unknowns i)) p) q in
    record {
      constant = k.constant;
      below = k.below;
      unknown_below = λ c q. ⊎_elim (λ p. let b = f.unknown_below c p in omega arith) (λ p. (Rising-in m.next s.next c s.unknowns d.unknown_rise p).1)
          (In-append c m.unknown s.unknowns q);
      apart = k.apart;
      zero = EachRow-append (Over N) m.equations s.equations
          (EachRow-weaker (Over (IsColumn m)) (Over N) (λ r w. Over-weaker (IsColumn m) N old r w) m.equations f.zero)
          (EachRow-weaker (Over (New (IsColumn m) s)) (Over N) (λ r w. Over-weaker (New (IsColumn m) s) N new r w) s.equations g.zero);
      nonneg = EachRow-weaker (Over (New (IsColumn m) s)) (Over N) (λ r w. Over-weaker (New (IsColumn m) s) N new r w) s.rows g.nonneg;
      zero_rise = EachRow-append (Rises 0) m.equations s.equations f.zero_rise g.zero_rise;
      nonneg_rise = g.nonneg_rise;
    }
