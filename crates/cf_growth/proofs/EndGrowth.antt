-- The end of an equation lets the known columns grow by at most the norm of its known part.
use Rattle.std.proofs.Common.{◌≡◌, ◌≢◌, ℕ, ◌≤◌, ◌*◌, ℤ, pos, negsuc, neg_ℤ, List, [], ◌∷◌, ◌++◌, Bool, true, not, refl, ◌∙◌, ap, arith, ◌⊎◌, inl, inr, ⊎_elim, max, ◌==◌}
use Rattle.std.specs.Prelude.{filter, unsigned_abs, if◌then◌else◌}
use Rattle.std.specs.Int.{int_div_euclid}
use Rattle.std.proofs.lemmas.Int.{ints}
use Rattle.std.proofs.lemmas.Bool.{cond_both, eqb-true, eqb-false}
use Rattle.cf_linear.specs.Rows.{Row, Values, value, norm, entry, comb, without}
use Rattle.cf_linear.specs.Systems.{System, row_how}
use Rattle.cf_linear.specs.Steps.{is_unit, is_positive, last}
use Rattle.cf_linear.specs.Keep.{In, Over, Formed, update}
use Rattle.cf_linear.proofs.BoolLemmas.{on_bool}
use Rattle.cf_linear.proofs.FormedLemmas.{kinds_from, one_kept}
use Rattle.cf_linear.proofs.KindLemmas.{In-append, In-left, In-right, In-filter, Over-weaker, Over-without, Over-comb}
use Rattle.cf_growth.specs.Norms.{IsBounded}
use Rattle.cf_growth.specs.Growing.{IsKnown, Grows}
use Rattle.cf_growth.proofs.NormLaws.{times_more, times_le, value_bound, sums_bound, quotient_bound, norm-turned}

-- the equation has no other unknown
abbrev pub IsLast : System → ℕ → Row → Type 0
IsLast m u e = Over (λ c. In c m.known ⊎ (c ≡ u)) e

pub known_rest : (m : System) (u : ℕ) (e : Row) → IsLast m u e → Over (IsKnown m) (without u e)
known_rest m u e o =
    Over-weaker (λ c. (In c m.known ⊎ (c ≡ u)) × (c ≢ u)) (IsKnown m) (λ c q. ⊎_elim (λ k. k) (λ j. absurd (q.1 j)) q.0) (without u e)
    (Over-without (λ c. In c m.known ⊎ (c ≡ u)) u e o)

-- one unknown is set to a number that is bounded too
pub one_stood : (known us : List ℕ) (x b : ℕ) (z : ℤ) (v : Values) → IsBounded (λ c. In c known ⊎ In c (filter (λ w. not (w == x)) us)) b v →
    unsigned_abs z ≤ b →
    IsBounded (λ c. In c known ⊎ In c us) b (update v x z)
one_stood known us x b z v h l c i =
    cond_both (c == x) z (v c) (λ y. unsigned_abs y ≤ b) (λ _. l)
    (λ e. h c (⊎_elim (λ j. inl j) (λ j. inr (In-filter c x us j (eqb-false c x e))) i))

unit_abs : (c : ℤ) → is_unit c ≡ true → unsigned_abs (neg_ℤ c) ≡ 1
unit_abs c e = let h = eqb-true (unsigned_abs c) 1 e in omega (arith, ints)

one_times : (b : ℕ) → 1 * b ≡ b
one_times b = omega arith

turn_norm : (d : ℕ) (t : Bool) → norm ((d, (if t then negsuc 0 else pos 1)) ∷ []) ≡ 1
turn_norm d t = on_bool t (λ e. rw e refl) (λ e. rw e refl)

pub grows_last : (m : System) (e : Row) (rest : List Row) (u : ℕ) → Formed m → In u m.unknown → IsLast m u e →
    Grows m (last m e rest u) (max 1 (norm (without u e))) 1
unfolding last
grows_last m e rest u f i alone =
    let r = without u e in
    let n = max 1 (norm r) in
    let over = known_rest m u e alone in
    let some : 1 ≤ n = omega arith in
    let most : norm r ≤ n = omega arith in
    on_bool (is_unit (entry e u))
    (λ t.
    let s = comb (neg_ℤ (entry e u)) r (pos 0) [] in
    let small : norm s ≤ norm r = norm-turned (neg_ℤ (entry e u)) r (unit_abs (entry e u) t) in
    let so : Over (IsKnown m) s = Over-comb (IsKnown m) (neg_ℤ (entry e u)) r (pos 0) [] over tt in
    let least : (k b : ℕ) → n * k ≤ b → (norm s * k ≤ b) × (k ≤ b) =
    λ k b l. (let x = times_le (norm s) n k (omega arith) in omega arith, let y = times_more n k some in omega arith) in
    rw t (record {
      forth_some = omega arith;
      back_some = omega arith;
      known = λ v k st w l h c j. let y = times_more n k some in let q = h c j in omega arith;
      lets = λ v k st w l h. tt;
      stood = λ v k b st w l h le hb.
          let z = value_bound (IsKnown m) k v h s so in
          let x = (least k b le).0 in
          let o : unsigned_abs (value v s) ≤ b = omega arith in
          rw one_times (one_stood m.known m.unknown u b (value v s) v hb o);
      back = λ v k b st w l h le hb.
          let x = least k b le in
          (sums_bound (IsKnown m) k (1 * b) v st h s so (let y = x.1 in omega arith) (let y = x.0 in omega arith), tt);
      stay = λ c j. j;
      searches = λ c j. absurd j;
      over = tt;
      kept = one_kept m u (row_how s) (kinds_from m f) i;
    }))
    (λ t.
    let d = m.next in
    let s : Row = (d, (if is_positive (entry e u) then negsuc 0 else pos 1)) ∷ [] in
    let one : norm s ≡ 1 = turn_norm d (is_positive (entry e u)) in
    rw t (record {
      forth_some = omega arith;
      back_some = omega arith;
      known = λ v k st w l h c j. ⊎_elim (λ p. let y = times_more n k some in let q = h c p in omega arith)
          (λ p. ⊎_elim (λ (q : c ≡ d).
          let x = value_bound (IsKnown m) k v h r over in
          let y = quotient_bound (value v r) (pos (unsigned_abs (entry e u))) in
          let z = times_le (norm r) n k most in
          let g : unsigned_abs (v c) ≡ unsigned_abs (int_div_euclid (value v r) (pos (unsigned_abs (entry e u)))) = ap unsigned_abs (ap v q ∙ l.0) in
          omega arith) (λ q. absurd q) p) (In-append c m.known (d ∷ []) j);
      lets = λ v k st w l h. (sums_bound (IsKnown m) k (n * k) v st h r over (times_more n k some) (times_le (norm r) n k most), tt);
      stood = λ v k b st w l h le hb.
          let so : Over (λ c. In c (m.known ++ (d ∷ [])) ⊎ In c (filter (λ w. not (w == u)) m.unknown)) s =
          (inl (In-right d m.known (d ∷ []) (inl refl)), tt) in
          let z = value_bound (λ c. In c (m.known ++ (d ∷ [])) ⊎ In c (filter (λ w. not (w == u)) m.unknown)) b v hb s so in
          let x : norm s * b ≡ 1 * b = ap (λ y. y * b) one in
          let o : unsigned_abs (value v s) ≤ b = omega arith in
          rw one_times (one_stood m.known m.unknown u b (value v s) v (λ c j. hb c (⊎_elim (λ p. inl (In-left c m.known (d ∷ []) p)) (λ p. inr p) j)) o);
      back = λ v k b st w l h le hb.
          let so : Over (λ c. In c (m.known ++ (d ∷ [])) ⊎ In c (filter (λ w. not (w == u)) m.unknown)) s =
          (inl (In-right d m.known (d ∷ []) (inl refl)), tt) in
          let x : norm s * b ≡ 1 * b = ap (λ y. y * b) one in
          let y = times_more n k some in (
            sums_bound (λ c. In c (m.known ++ (d ∷ [])) ⊎ In c (filter (λ w. not (w == u)) m.unknown)) b (1 * b) v (omega arith) hb s so (omega arith)
                (omega arith),
            tt,
          );
      stay = λ c j. In-left c m.known (d ∷ []) j;
      searches = λ c j. absurd j;
      over = (
        Over-weaker (IsKnown m) (λ c. In c (m.known ++ (d ∷ []))) (λ c j. In-left c m.known (d ∷ []) j) r over,
        (In-right d m.known (d ∷ []) (inl refl), Over-weaker (IsKnown m) (λ c. In c (m.known ++ (d ∷ []))) (λ c j. In-left c m.known (d ∷ []) j) r over, tt),
      );
      kept = one_kept m u (row_how s) (kinds_from m f) i;
    }))
