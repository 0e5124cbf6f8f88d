-- The loop of `combine`, of `value_at` and of `try_copy`.
use Rattle.std.proofs.Common.{◌≡◌, ◌⊎◌, ℕ, zero, ◌+◌, ◌-◌, ◌<◌, ◌≤◌, ℤ, pos, ◌+ℤ◌, ◌*ℤ◌, [], ◌∷◌, ◌++◌, Bool, true, false, ◌||◌, Option, Some, ◌==◌, refl, sym, ◌∙◌, ap, arith, suc, subst, get_or, length, drop, take, drop-cons, add-one, append_assoc, inl, inr, ⊎_elim}
use Rattle.std.specs.Prelude.{option_and_then}
use Rattle.std.specs.List.{list_any}
use Rattle.std.proofs.lemmas.Bool.{eqb-true, ne_eqb, cases_order}
use Rattle.std.proofs.Math.ListN.{drop_of_length-le}
use Rattle.cf_linear.specs.Rows.{Row, Values, Rises, AreBelow, entry, is_zero, put, comb, without, sum_passes, passes_at, comb_passes, next_sum, value_from}
use Rattle.cf_linear.specs.Merging.{IsLeast, IsTaken}
use Rattle.cf_linear.proofs.BoolLemmas.{on_bool, zeros_fine, zero_plus}
use Rattle.cf_linear.proofs.Canonical.{entry-low}
use Rattle.cf_linear.proofs.CombLemmas.{comb-next, put-append, Rises-after, entry-without}
use Rattle.cf_linear.proofs.MapLemmas.{put_nonzero}

-- what is left of both rows, from column n on, and what was made
pub record Joining (a : ℤ) (r : Row) (b : ℤ) (s : Row) (i j : ℕ) (out : Row) : Type 0 where
  pub i_in : i ≤ length r
  pub j_in : j ≤ length s
  pub n : ℕ
  pub r_rises : Rises n (drop i r)
  pub s_rises : Rises n (drop j s)
  pub r_high : (x : ℕ) → n ≤ x → entry (drop i r) x ≡ entry r x
  pub s_high : (x : ℕ) → n ≤ x → entry (drop j s) x ≡ entry s x
  pub low : AreBelow n out
  pub fine : (x : ℕ) → x < n → passes_at a r b s x ≡ false
  pub same : out ++ comb a (drop i r) b (drop j s) ≡ comb a r b s

none_passes : (a k b m : ℤ) → k ≡ pos 0 → m ≡ pos 0 → sum_passes a k b m ≡ false
none_passes a k b m e f = rw (e, f) (zeros_fine a b)

or_true : (b : Bool) → (b || true) ≡ true
or_true true = refl
or_true false = refl

-- a test of columns that one column passes is passed by an entry, or the row has none there
any_at : (f : ℕ → Bool) (r : Row) (c : ℕ) → f c ≡ true → (list_any (λ (d, k). f d) r ≡ true) ⊎ (entry r c ≡ pos 0)
any_at f [] c h = inr refl
any_at f ((d, k) ∷ r) c h = on_bool (d == c)
    (λ e. inl (rw (eqb-true d c e, h) refl))
    (λ e. ⊎_elim (λ p. inl (rw p (or_true (f d)))) (λ p. inr (rw e (zero_plus (entry r c) ∙ p))) (any_at f r c h))

none_at : (f : ℕ → Bool) → ((c : ℕ) → f c ≡ false) → (r : Row) → list_any (λ (d, k). f d) r ≡ false
none_at f h [] = refl
none_at f h ((d, k) ∷ r) = rw (h d, none_at f h r) refl

pub passes_somewhere : (a : ℤ) (r : Row) (b : ℤ) (s : Row) (c : ℕ) → passes_at a r b s c ≡ true → comb_passes a r b s ≡ true
passes_somewhere a r b s c h =
    let v : (list_any (λ (d, k). passes_at a r b s d) r ≡ true) ⊎ (entry r c ≡ pos 0) = any_at (passes_at a r b s) r c h in
    let w : (list_any (λ (d, k). passes_at a r b s d) s ≡ true) ⊎ (entry s c ≡ pos 0) = any_at (passes_at a r b s) s c h in
    ⊎_elim (λ p. rw p refl)
    (λ p. ⊎_elim (λ q. rw q (or_true (list_any (λ (d, k). passes_at a r b s d) r)))
    (λ q. let f : passes_at a r b s c ≡ false = none_passes a (entry r c) b (entry s c) p q in cc) w) v

pub passes_nowhere : (a : ℤ) (r : Row) (b : ℤ) (s : Row) → ((c : ℕ) → passes_at a r b s c ≡ false) → comb_passes a r b s ≡ false
passes_nowhere a r b s h = rw (none_at (passes_at a r b s) h r, none_at (passes_at a r b s) h s) refl

pub AreBelow-raise : (m n : ℕ) (r : Row) → m ≤ n → AreBelow m r → AreBelow n r
AreBelow-raise m n [] h p = tt
AreBelow-raise m n ((c, k) ∷ r) h p = (let l = p.0 in omega arith, AreBelow-raise m n r h p.1)

pub AreBelow-append : (n : ℕ) (r s : Row) → AreBelow n r → AreBelow n s → AreBelow n (r ++ s)
AreBelow-append n [] s p q = q
AreBelow-append n ((c, k) ∷ r) s p q = (p.0, AreBelow-append n r s p.1 q)

AreBelow-put : (c : ℕ) (k : ℤ) → AreBelow (suc c) (put c k [])
AreBelow-put c k = on_bool (is_zero k) (λ e. rw e tt) (λ e. rw e (omega arith, tt))

first_from : (n : ℕ) (r : Row) (i : ℕ) → Rises n (drop i r) → i < length r → n ≤ (get_or r i (0, pos 0)).0
first_from n r i p h = let q = rw (drop-cons r i (0, pos 0)) at p in q.0

module _ (a : ℤ) (r : Row) (b : ℤ) (s : Row) (i j : ℕ) (out : Row) (c : ℕ) where
  least_from : Joining a r b s i j out → (l : IsLeast r i s j c) → (h : Joining a r b s i j out) → h.n ≤ c
  least_from _ l h = ⊎_elim
      (λ o. let f = first_from h.n r i h.r_rises o.0 in let e = o.1 in omega arith)
      (λ o. let f = first_from h.n s j h.s_rises o.0 in let e = o.1 in omega arith) l.is_one

  pub below_least : Joining a r b s i j out → IsLeast r i s j c → AreBelow c out
  below_least h l = AreBelow-raise h.n c out (least_from h l h) h.low

  fine_at : {k m : ℤ} → (h : Joining a r b s i j out) → IsLeast r i s j c → sum_passes a k b m ≡ false → k ≡ entry r c → m ≡ entry s c → (x : ℕ) → x < suc c →
      passes_at a r b s x ≡ false
  fine_at h l two e f x o = ⊎_elim
      (λ q. let t : sum_passes a (entry r c) b (entry s c) ≡ false = rw (e, f) at two in subst (λ (y : ℕ). passes_at a r b s y ≡ false) (sym q) t)
      (λ w. ⊎_elim (λ p. before p (cases_order x h.n)) (λ p. absurd (omega arith)) w) (cases_order x c)
    where
      empty : x < c → h.n ≤ x → passes_at a r b s x ≡ false
      empty p q =
          let y : entry r x ≡ pos 0 = sym (h.r_high x q) ∙ entry-low c (drop i r) x l.first p in
          let z : entry s x ≡ pos 0 = sym (h.s_high x q) ∙ entry-low c (drop j s) x l.second p in
          none_passes a (entry r x) b (entry s x) y z

      before : x < c → (x ≡ h.n) ⊎ ((x < h.n) ⊎ (h.n < x)) → passes_at a r b s x ≡ false
      before p w = ⊎_elim (λ q. empty p (omega arith)) (λ u. ⊎_elim (λ q. h.fine x q) (λ q. empty p (omega arith)) u) w

  pub joined : (k m : ℤ) (i2 j2 : ℕ) (new : Row) → Joining a r b s i j out → IsLeast r i s j c → IsTaken r i c k i2 → IsTaken s j c m j2 →
      sum_passes a k b m ≡ false → new ≡ out ++ put c (a *ℤ k +ℤ b *ℤ m) [] → Joining a r b s i2 j2 new
  joined k m i2 j2 new h l t u two p =
      let from = least_from h l h in
      let rc : k ≡ entry r c = t.taken ∙ h.r_high c from in
      let sc : m ≡ entry s c = u.taken ∙ h.s_high c from in
      record {
        i_in = t.within;
        j_in = u.within;
        n = suc c;
        r_rises = rw t.rest (Rises-after c (drop i r) l.first);
        s_rises = rw u.rest (Rises-after c (drop j s) l.second);
        r_high = λ x o. rw (t.rest, entry-without c x (drop i r), ne_eqb c x (λ q. omega arith)) (h.r_high x (omega arith));
        s_high = λ x o. rw (u.rest, entry-without c x (drop j s), ne_eqb c x (λ q. omega arith)) (h.s_high x (omega arith));
        low = rw p (AreBelow-append (suc c) out (put c (a *ℤ k +ℤ b *ℤ m) []) (AreBelow-raise h.n (suc c) out (omega arith) h.low)
            (AreBelow-put c (a *ℤ k +ℤ b *ℤ m)));
        fine = λ x o. fine_at h l two rc sc x o;
        same = rw (
          p,
          t.rest,
          u.rest,
          append_assoc,
          ← put-append c (a *ℤ k +ℤ b *ℤ m) (comb a (without c (drop i r)) b (without c (drop j s))),
          t.taken,
          u.taken,
          ← comb-next c a (drop i r) b (drop j s) l.first l.second,
        ) h.same;
      }

  pub joining_less : (k m : ℤ) (i2 j2 : ℕ) → i ≤ length r → j ≤ length s → IsLeast r i s j c → IsTaken r i c k i2 → IsTaken s j c m j2 →
      (length r - i2) + (length s - j2) < (length r - i) + (length s - j)
  joining_less k m i2 j2 x y l t u = ⊎_elim
      (λ o. let q = t.moved o.0 o.1 in let v = u.onward in let w = u.within in let o0 = o.0 in omega arith)
      (λ o. let q = u.moved o.0 o.1 in let v = t.onward in let w = t.within in let o0 = o.0 in omega arith) l.is_one

  pub joining_past : (k m : ℤ) (i2 j2 : ℕ) → Joining a r b s i j out → IsLeast r i s j c → IsTaken r i c k i2 → IsTaken s j c m j2 → sum_passes a k b m ≡ true →
      comb_passes a r b s ≡ true
  joining_past k m i2 j2 h l t u e =
      let from = least_from h l h in
      let rc : k ≡ entry r c = t.taken ∙ h.r_high c from in
      let sc : m ≡ entry s c = u.taken ∙ h.s_high c from in
      let q : sum_passes a (entry r c) b (entry s c) ≡ true = rw (rc, sc) at e in
      passes_somewhere a r b s c q

pub joining_done : (a : ℤ) (r : Row) (b : ℤ) (s : Row) (i j : ℕ) (out : Row) → Joining a r b s i j out → length r ≤ i → length s ≤ j →
    (out ≡ comb a r b s) × (comb_passes a r b s ≡ false)
joining_done a r b s i j out h p q =
    let same : out ++ [] ≡ comb a r b s = rw (drop_of_length-le r p, drop_of_length-le s q) at h.same in
    (sym (append_none out) ∙ same, passes_nowhere a r b s (λ x. at x (cases_order x h.n)))
  where
    append_none : (t : Row) → t ++ [] ≡ t
    append_none [] = refl
    append_none (x ∷ t) = ap (λ y. x ∷ y) (append_none t)

    empty : (x : ℕ) → h.n ≤ x → passes_at a r b s x ≡ false
    empty x l =
        let y : entry r x ≡ pos 0 = sym (rw (drop_of_length-le r p) at (h.r_high x l)) in
        let z : entry s x ≡ pos 0 = sym (rw (drop_of_length-le s q) at (h.s_high x l)) in
        none_passes a (entry r x) b (entry s x) y z

    at : (x : ℕ) → (x ≡ h.n) ⊎ ((x < h.n) ⊎ (h.n < x)) → passes_at a r b s x ≡ false
    at x w = ⊎_elim (λ e. empty x (omega arith)) (λ u. ⊎_elim (λ l. h.fine x l) (λ l. empty x (omega arith)) u) w

-- ---- the loops over one row
pub AreBelow-take : (r : Row) (n i : ℕ) → Rises n r → i < length r → AreBelow (get_or r i (0, pos 0)).0 (take i r)
AreBelow-take [] n i p h = absurd (omega arith)
AreBelow-take ((d, k) ∷ r) n zero p h = tt
AreBelow-take ((d, k) ∷ r) n (suc i) p h = (first_after r (suc d) i p.2 (omega arith), AreBelow-take r (suc d) i p.2 (omega arith))
  where
    first_after : (s : Row) (m k : ℕ) → Rises m s → k < length s → m ≤ (get_or s k (0, pos 0)).0
    first_after [] m k q l = absurd (omega arith)
    first_after ((e, z) ∷ s) m zero q l = q.0
    first_after ((e, z) ∷ s) m (suc k) q l = let f = first_after s (suc e) k q.2 (omega arith) in let g = q.0 in omega arith

pub take_put : (r : Row) (n i : ℕ) → Rises n r → i < length r → take (i + 1) r ≡ take i r ++ put (get_or r i (0, pos 0)).0 (get_or r i (0, pos 0)).1 []
take_put [] n i p h = absurd (omega arith)
take_put ((d, k) ∷ r) n zero p h = sym (put_nonzero d k p.1)
take_put ((d, k) ∷ r) n (suc i) p h = let again = rw add-one at (take_put r (suc d) i p.2 (omega arith)) in rw add-one (ap (λ x. (d, k) ∷ x) again)

pub value_next : (v : Values) (t : ℤ) (r : Row) (i : ℕ) → i < length r →
    value_from v t (drop i r) ≡ option_and_then (λ s. value_from v s (drop (i + 1) r)) (next_sum t (get_or r i (0, pos 0)).1 (v (get_or r i (0, pos 0)).0))
value_next v t r i h = rw (add-one, drop-cons r i (0, pos 0)) refl

pub value_step : (v : Values) (t n : ℤ) (r : Row) (i : ℕ) (o : Option ℤ) → i < length r →
    Some n ≡ next_sum t (get_or r i (0, pos 0)).1 (v (get_or r i (0, pos 0)).0) →
    value_from v t (drop i r) ≡ o → value_from v n (drop (i + 1) r) ≡ o
value_step v t n r i o h e p = let q = rw (← e) at (value_next v t r i h) in sym q ∙ p
