-- The condition of every step holds again after Clean and after a drop.
use Rattle.std.proofs.Common.{◌≡◌, ◌≢◌, ℕ, neg_ℤ, pos, List, [], ◌∷◌, ◌++◌, refl, ap, arith, subst, ◌⊎◌, inl, inr, ⊎_elim}
use Rattle.std.specs.Prelude.{filter, map, unsigned_abs, int_lt}
use Rattle.cf_linear.specs.Rows.{Row, entry, comb, Rises, is_zero, without}
use Rattle.cf_linear.specs.Systems.{System, EachRow}
use Rattle.cf_linear.specs.Steps.{pairs_of, lowers, uppers, free_of, is_positive, divided, unknown_part, has_column, has_unknown, Tightened, then_tighten, clean, dropped}
use Rattle.cf_linear.specs.Keep.{In, Over, IsColumn, Formed}
use Rattle.cf_linear.specs.Solved.{Rising}
use Rattle.cf_linear.proofs.RowLemmas.{zero_from_is_zero}
use Rattle.cf_linear.proofs.CombLemmas.{Rises-comb, Rises-without}
use Rattle.cf_linear.proofs.KindLemmas.{EachRow-append, EachRow-filter, EachRow-weaker, EachRow-with, EachRow-tested, Over-weaker, Over-comb, Over-filter, Over-both, Over-without, Rises-filter, free_row, In-append, In-left, In-right, In-filter, In-unfilter, Rising-le, Rising-in}
use Rattle.cf_linear.proofs.PartLemmas.{Rises-divided}
use Rattle.cf_bounds.specs.Exact.{IsFree}
use Rattle.cf_bounds.proofs.CleanLemmas.{by_row, with_kept, unknowns_of, tight, distinct_forth, Over-divided}
use Rattle.cf_bounds.proofs.OwesLemmas.{made_all}

pairs_are : (P Q : Row → Type 0) (x : ℕ) → ((l u : Row) → Q l → Q u → P (comb (neg_ℤ (entry u x)) (without x l) (entry l x) (without x u))) →
    (low high : List Row) → EachRow Q low → EachRow Q high → EachRow P (pairs_of x low high)
pairs_are P Q x f [] high hl hu = tt
pairs_are P Q x f (l ∷ low) high hl hu =
    EachRow-append P (map (λ u. comb (neg_ℤ (entry u x)) (without x l) (entry l x) (without x u)) high) (pairs_of x low high) (one high hu)
    (pairs_are P Q x f low high hl.1 hu)
  where
    one : (high : List Row) → EachRow Q high → EachRow P (map (λ u. comb (neg_ℤ (entry u x)) (without x l) (entry l x) (without x u)) high)
    one [] h = tt
    one (u ∷ high) h = (f l u hl.0 h.0, one high h.1)

pub dropped_formed : (m : System) (x : ℕ) → Formed m → IsFree x m.equations → Formed (dropped m x).system
unfolding dropped
dropped_formed m x f free =
    let n = (dropped m x).system in
    let rows = m.inequalities in
    let C : ℕ → Type 0 = IsColumn m in
    let D : ℕ → Type 0 = IsColumn n in
    let move : (c : ℕ) → C c → c ≢ x → D c = λ c q h. ⊎_elim (λ k. inl k) (λ k. inr (In-filter c x m.unknown k h)) q in
    let Canon : Row → Type 0 = λ r. Over C r × Rises 0 r in
    let bare : (r : Row) → Canon r → entry r x ≡ pos 0 → Over D r = λ r k e. Over-both C (λ c. c ≢ x) D move r k.0 (free_row 0 x r k.1 e) in
    let canon : (rows : List Row) → EachRow (Over C) rows → EachRow (Rises 0) rows → EachRow Canon rows =
    λ rows o h. EachRow-with (Over C) (Rises 0) Canon (λ r a b. (a, b)) rows o h in
    let zeros = EachRow-tested (λ r. entry r x ≡ pos 0) (λ r. is_zero (entry r x)) (λ r e. zero_from_is_zero (entry r x) e) rows in
    let ineq = canon rows f.nonneg f.nonneg_rise in
    let low = EachRow-filter Canon (λ r. is_positive (entry r x)) rows ineq in
    let high = EachRow-filter Canon (λ r. int_lt (entry r x) (pos 0)) rows ineq in
    let part : (r : Row) → Over C r → Over D (without x r) =
    λ r o. Over-weaker (λ c. C c × (c ≢ x)) D (λ c q. move c q.0 q.1) (without x r) (Over-without C x r o) in
    let less : (r : Row) → Rises 0 r → Rises 0 (without x r) = λ r h. Rises-without 0 x r h in
    record {
      constant = f.constant;
      below = f.below;
      unknown_below = λ c i. f.unknown_below c (In-unfilter c x m.unknown i);
      apart = λ c k i. f.apart c k (In-unfilter c x m.unknown i);
      zero = EachRow-with Canon (λ r. entry r x ≡ pos 0) (Over D) bare m.equations (canon m.equations f.zero f.zero_rise) free;
      nonneg = EachRow-append (Over D) (free_of x rows) (pairs_of x (lowers x rows) (uppers x rows))
          (EachRow-with Canon (λ r. entry r x ≡ pos 0) (Over D) bare (free_of x rows) (EachRow-filter Canon (λ r. is_zero (entry r x)) rows ineq) zeros)
          (pairs_are (Over D) Canon x (λ l u a b. Over-comb D (neg_ℤ (entry u x)) (without x l) (entry l x) (without x u) (part l a.0) (part u b.0))
          (lowers x rows) (uppers x rows) low high);
      zero_rise = f.zero_rise;
      nonneg_rise = EachRow-append (Rises 0) (free_of x rows) (pairs_of x (lowers x rows) (uppers x rows))
          (EachRow-filter (Rises 0) (λ r. is_zero (entry r x)) rows f.nonneg_rise)
          (pairs_are (Rises 0) Canon x (λ l u a b. Rises-comb 0 (neg_ℤ (entry u x)) (without x l) (entry l x) (without x u) (less l a.1) (less u b.1))
          (lowers x rows) (uppers x rows) low high);
    }

-- ---- Clean
record Shaped (C : ℕ → Type 0) (t : Tightened) : Type 0 where
  over : EachRow (Over (λ c. C c ⊎ In c t.made)) t.rows
  rise : EachRow (Rises 0) t.rows

shaped_row : (C : ℕ → Type 0) (us : List ℕ) (t : Tightened) (r : Row) → Over C r → Rises 0 r → Shaped C t → Shaped C (then_tighten us t r)
shaped_row C us t r o h s =
    let g = unknowns_of us r in
    let n = t.next in
    let D : ℕ → Type 0 = λ c. C c ⊎ In c t.made in
    let E : ℕ → Type 0 = λ c. C c ⊎ In c (t.made ++ (n ∷ [])) in
    let kept : (q : Row) → Over C q → Rises 0 q → Shaped C (with_kept t q) = λ q oq hq.
    record {
      over = EachRow-append (Over D) t.rows (q ∷ []) s.over (Over-weaker C D (λ c k. inl k) q oq, tt);
      rise =
          EachRow-append (Rises 0) t.rows (q ∷ []) s.rise (hq, tt);
    } in
    by_row (Shaped C) us t r (kept r o h) (λ _ _. kept (divided g r) (Over-divided C g r o) (Rises-divided 0 g r h))
    (λ _.
    let u = divided g (unknown_part us r) in
    let ou : Over E u = Over-divided E g (unknown_part us r) (Over-filter E (λ (c, k). has_column us c) r (Over-weaker C E (λ c k. inl k) r o)) in
    let hu = Rises-divided 0 g (unknown_part us r) (Rises-filter 0 (λ (c, k). has_column us c) r h) in
    record {
      over = EachRow-append (Over E) t.rows (comb (pos 1) u (pos 1) ((n, pos 1) ∷ []) ∷ [])
          (EachRow-weaker (Over D) (Over E) (λ q oq. Over-weaker D E (λ c k. ⊎_elim (λ i. inl i) (λ i. inr (In-left c t.made (n ∷ []) i)) k) q oq) t.rows
          s.over)
          (Over-comb E (pos 1) u (pos 1) ((n, pos 1) ∷ []) ou (inr (In-right n t.made (n ∷ []) (inl refl)), tt), tt);
      rise = EachRow-append (Rises 0) t.rows (comb (pos 1) u (pos 1) ((n, pos 1) ∷ []) ∷ []) s.rise
          (Rises-comb 0 (pos 1) u (pos 1) ((n, pos 1) ∷ []) hu (omega arith, one_some, tt), tt);
    })
  where
    one_some : pos 1 ≢ pos 0
    one_some e = absurd (let i = ap unsigned_abs e in omega (arith, i))

shaped_all : (C : ℕ → Type 0) (us : List ℕ) (rows : List Row) (t : Tightened) → EachRow (Over C) rows → EachRow (Rises 0) rows → Shaped C t →
    Shaped C (tight us t rows)
shaped_all C us [] t o h s = s
shaped_all C us (r ∷ rows) t o h s = shaped_all C us rows (then_tighten us t r) o.1 h.1 (shaped_row C us t r o.0 h.0 s)

pub clean_formed : (m : System) → Formed m → Formed (clean m).system
unfolding clean
clean_formed m f =
    let us = m.unknown in
    let rows = filter (has_unknown us) m.inequalities in
    let start : Tightened = record { next = m.next; made = []; steps = []; rows = [] } in
    let t = tight us start rows in
    let o = EachRow-filter (Over (IsColumn m)) (has_unknown us) m.inequalities f.nonneg in
    let h = EachRow-filter (Rises 0) (has_unknown us) m.inequalities f.nonneg_rise in
    let made = made_all (λ c. In c m.known) m.next us rows start o (record { same = refl; rise = omega arith; over = tt }) in
    let ri : Rising m.next t.next t.made = subst (λ x. Rising m.next t.next x) made.same made.rise in
    let le = Rising-le m.next t.next t.made ri in
    let s = shaped_all (IsColumn m) us rows start o h (record { over = tt; rise = tt }) in
    let N : ℕ → Type 0 = λ c. In c (m.known ++ t.made) ⊎ In c us in
    let old : (c : ℕ) → IsColumn m c → N c = λ c k. ⊎_elim (λ i. inl (In-left c m.known t.made i)) (λ i. inr i) k in
    record {
      constant = In-left 0 m.known t.made f.constant;
      below = λ c k. ⊎_elim (λ i. let b = f.below c i in omega arith) (λ i. (Rising-in m.next t.next c t.made ri i).1) (In-append c m.known t.made k);
      unknown_below = λ c i. let b = f.unknown_below c i in omega arith;
      apart = λ c k i. ⊎_elim (λ p. f.apart c p i) (λ p. let b = f.unknown_below c i in let q = Rising-in m.next t.next c t.made ri p in absurd (omega arith))
          (In-append c m.known t.made k);
      zero = EachRow-weaker (Over (IsColumn m)) (Over N) (λ r q. Over-weaker (IsColumn m) N old r q) (filter (has_unknown us) m.equations)
          (EachRow-filter (Over (IsColumn m)) (has_unknown us) m.equations f.zero);
      nonneg = distinct_forth (Over N) [] t.rows
          (EachRow-weaker (Over (λ c. IsColumn m c ⊎ In c t.made)) (Over N)
          (λ r q. Over-weaker (λ c. IsColumn m c ⊎ In c t.made) N (λ c k. ⊎_elim (λ i. old c i) (λ i. inl (In-right c m.known t.made i)) k) r q) t.rows
          s.over);
      zero_rise = EachRow-filter (Rises 0) (has_unknown us) m.equations f.zero_rise;
      nonneg_rise = distinct_forth (Rises 0) [] t.rows s.rise;
    }
