-- A Merge keeps the solutions, and leaves a formed system.
use Rattle.std.proofs.Common.{◌≡◌, ◌≢◌, ℕ, ◌<◌, ◌+◌, ℤ, pos, neg_ℤ, ◌+ℤ◌, ◌-ℤ◌, ◌*ℤ◌, List, [], ◌∷◌, ◌==◌, refl, sym, ◌∙◌, arith, subst, ◌⊎◌, inl, inr, ⊎_elim}
use Rattle.std.specs.Prelude.{if◌then◌else◌}
use Rattle.std.specs.Int.{int_div_euclid}
use Rattle.std.proofs.lemmas.Int.{ints}
use Rattle.std.proofs.lemmas.Bool.{cond_both, eqb-true, eqb-false}
use Rattle.cf_num.specs.Parts.{parts_of}
use Rattle.cf_num.proofs.Ring.{ring}
use Rattle.cf_linear.specs.Rows.{Row, Values, entry, value, Rises}
use Rattle.cf_linear.specs.Systems.{System, row_how}
use Rattle.cf_linear.specs.Steps.{subst_all, one_at, two_at, replaced, mix, merge, factors_of}
use Rattle.cf_linear.specs.Keep.{In, Over, Keeps, Reaches, Formed, IsColumn, update, after_back, Differ}
use Rattle.cf_linear.specs.Solved.{Owes}
use Rattle.cf_linear.proofs.RowLemmas.{value-comb}
use Rattle.cf_linear.proofs.CombLemmas.{Rises-comb}
use Rattle.cf_linear.proofs.KindLemmas.{Over-comb}
use Rattle.cf_linear.proofs.ValueLemmas.{EachRow-subst, EachRow-unsubst, EachRow-same, update-at, update-same, update-other, Same-trans, one_z}
use Rattle.cf_linear.proofs.FormedLemmas.{Low, kinds_from, low_from, still, subst_over, subst_rise}
use Rattle.cf_equation.proofs.EndLaws.{IsNull, IsLeast0, update_own}
use Rattle.cf_equation.proofs.FactorLaws.{parts_one, first_again, second_again}

value-two_at : (v : Values) (s t : ℤ) (c d : ℕ) → value v (two_at s c t d) ≡ s *ℤ v c +ℤ t *ℤ v d
value-two_at v s t c d = value-comb v s (one_at c) t (one_at d) ∙ rw (one_z (v c), one_z (v d)) refl

-- rows have the same value where all columns have
value_all : (v w : Values) → ((c : ℕ) → v c ≡ w c) → (r : Row) → value v r ≡ value w r
value_all v w h [] = refl
value_all v w h ((c, k) ∷ r) = rw (h c, value_all v w h r) refl

-- two unknowns that already have their rows' values are computed to what they are
two_own : (w : Values) (x y : ℕ) (r s : Row) → w x ≡ value w r → w y ≡ value w s → (c : ℕ) → after_back w ((x, row_how r) ∷ (y, row_how s) ∷ []) c ≡ w c
two_own w x y r s i j c =
    let w1 = update w x (value w r) in
    let one : (d : ℕ) → w1 d ≡ w d = update_own w x (value w r) i in
    update_own w1 y (value w1 s) (one y ∙ j ∙ sym (value_all w1 w one s)) c ∙ one c

pub merge_reaches : (m : System) (e : Row) (x1 x2 : ℕ) → Low m → x1 < m.next → x2 < m.next → entry e x1 ≢ pos 0 → entry e x2 ≢ pos 0 →
    Reaches m (merge m e x1 x2)
unfolding merge mix factors_of
merge_reaches m e x1 x2 low l1 l2 h1 h2 v _ h =
    let p = parts_of (entry e x1) (entry e x2) in
    let one = parts_one (entry e x1) (entry e x2) h1 h2 in
    let a = int_div_euclid (entry e x1) p.g in
    let b = int_div_euclid (entry e x2) p.g in
    let n = m.next in
    let r1 = two_at p.s n (neg_ℤ b) (n + 1) in
    let r2 = two_at p.t n a (n + 1) in
    let y = a *ℤ v x1 +ℤ b *ℤ v x2 in
    let z = p.s *ℤ v x2 -ℤ p.t *ℤ v x1 in
    let w1 = update v n y in
    let w = update w1 (n + 1) z in
    let s1 = update-same n v n y (omega arith) in
    let s2 = update-same (n + 1) w1 (n + 1) z (omega arith) in
    let same = Same-trans n (n + 1) v w1 w (omega arith) s1 s2 in
    let at1 : w n ≡ y = sym (s2 n (omega arith)) ∙ update-at v n y in
    let at2 : w (n + 1) ≡ z = update-at w1 (n + 1) z in
    let i1 : w x1 ≡ value w r1 = sym (same x1 l1) ∙ sym (first_again a b p.s p.t (v x1) (v x2) one) ∙
    sym (value-two_at w p.s (neg_ℤ b) n (n + 1) ∙ rw (at1, at2) (simp ring (omega (arith, ints)))) in
    let i2 : w x2 ≡ value w r2 = sym (same x2 l2) ∙ sym (second_again a b p.s p.t (v x1) (v x2) one) ∙
    sym (value-two_at w p.t a n (n + 1) ∙ rw (at1, at2) refl) in (
      w,
      (
        same,
        tt,
        tt,
        record {
          zero = EachRow-subst IsNull w x1 r1 i1 (subst_all x2 r2 m.equations)
              (EachRow-subst IsNull w x2 r2 i2 m.equations (EachRow-same IsNull n v w same m.equations low.zero h.zero));
          nonneg = EachRow-subst IsLeast0 w x1 r1 i1 (subst_all x2 r2 m.inequalities)
              (EachRow-subst IsLeast0 w x2 r2 i2 m.inequalities (EachRow-same IsLeast0 n v w same m.inequalities low.nonneg h.nonneg));
        },
      ),
      λ c l. same c l ∙ sym (two_own w x1 x2 r1 r2 i1 i2 c),
    )

pub merge_keeps : (m : System) (e : Row) (x1 x2 : ℕ) → Low m → x1 < m.next → x2 < m.next → entry e x1 ≢ pos 0 → entry e x2 ≢ pos 0 → Keeps m (merge m e x1 x2)
unfolding merge mix factors_of
merge_keeps m e x1 x2 low l1 l2 h1 h2 =
    let p = parts_of (entry e x1) (entry e x2) in
    let a = int_div_euclid (entry e x1) p.g in
    let b = int_div_euclid (entry e x2) p.g in
    let r1 = two_at p.s m.next (neg_ℤ b) (m.next + 1) in
    let r2 = two_at p.t m.next a (m.next + 1) in
    record {
      forth = λ v one h. let r = merge_reaches m e x1 x2 low l1 l2 h1 h2 v one h in (r.0, r.1.0, r.1.1, r.1.2, r.1.3);
      back = λ v _ _ _ h.
          let v1 = update v x1 (value v r1) in
          record {
            zero = EachRow-unsubst IsNull v1 x2 r2 m.equations (EachRow-unsubst IsNull v x1 r1 (subst_all x2 r2 m.equations) h.zero);
            nonneg = EachRow-unsubst IsLeast0 v1 x2 r2 m.inequalities (EachRow-unsubst IsLeast0 v x1 r1 (subst_all x2 r2 m.inequalities) h.nonneg);
          };
    }

pub merge_owes : (m : System) (e : Row) (x1 x2 : ℕ) → Formed m → In x1 m.unknown → In x2 m.unknown → entry e x1 ≢ pos 0 → entry e x2 ≢ pos 0 →
    Owes m (merge m e x1 x2)
unfolding merge mix
merge_owes m e x1 x2 f i1 i2 h1 h2 =
    still m (merge m e x1 x2) (kinds_from m f) (merge_keeps m e x1 x2 (low_from m f) (f.unknown_below x1 i1) (f.unknown_below x2 i2) h1 h2) refl (omega arith)
    refl refl
    (λ v c k. update-other (update v x1 _) x2 c _ (λ q. f.apart c k (subst (λ y. In y m.unknown) (sym q) i2)) ∙
    update-other v x1 c _ (λ q. f.apart c k (subst (λ y. In y m.unknown) (sym q) i1)))

-- ---- a formed system again
-- what is not x stays, and y stands where x stood
In-replaced : (c x y : ℕ) (us : List ℕ) → In c us → c ≢ x → In c (replaced x y us)
In-replaced c x y [] i h = absurd i
In-replaced c x y (d ∷ us) i h =
    ⊎_elim (λ (e : c ≡ d). inl (e ∙ sym (kept e))) (λ j. inr (In-replaced c x y us j h)) i
  where
    kept : c ≡ d → (if d == x then y else d) ≡ d
    kept e = cond_both (d == x) y d (λ z. z ≡ d) (λ t. absurd (h (e ∙ eqb-true d x t))) (λ t. refl)

In-new : (x y : ℕ) (us : List ℕ) → In x us → In y (replaced x y us)
In-new x y [] i = absurd i
In-new x y (d ∷ us) i = ⊎_elim (λ (e : x ≡ d). inl (sym (new e))) (λ j. inr (In-new x y us j)) i
  where
    new : x ≡ d → (if d == x then y else d) ≡ y
    new e = cond_both (d == x) y d (λ z. z ≡ y) (λ t. refl) (λ t. absurd (eqb-false d x t (sym e)))

pub In-unreplaced : (c x y : ℕ) (us : List ℕ) → In c (replaced x y us) → ((c ≡ y) × In x us) ⊎ In c us
In-unreplaced c x y [] i = absurd i
In-unreplaced c x y (d ∷ us) i =
    ⊎_elim (λ (e : c ≡ (if d == x then y else d)). cond_both (d == x) y d (λ z. c ≡ z → ((c ≡ y) × In x (d ∷ us)) ⊎ In c (d ∷ us))
    (λ t q. inl (q, inl (sym (eqb-true d x t)))) (λ t q. inr (inl q)) e)
    (λ j. ⊎_elim (λ q. inl (q.0, inr q.1)) (λ q. inr (inr q)) (In-unreplaced c x y us j)) i

pub Differ-replaced : (x y : ℕ) (us : List ℕ) → (In y us → ⊥) → Differ us → Differ (replaced x y us)
Differ-replaced x y [] h d = tt
Differ-replaced x y (c ∷ us) h d = (
  cond_both (c == x) y c (λ z. In z (replaced x y us) → ⊥)
      (λ t i. ⊎_elim (λ q. d.0 (subst (λ z. In z us) (sym (eqb-true c x t)) q.1)) (λ q. h (inr q)) (In-unreplaced y x y us i))
      (λ t i. ⊎_elim (λ q. h (inl (sym q.0))) (λ q. d.0 q) (In-unreplaced c x y us i)),
  Differ-replaced x y us (λ i. h (inr i)) d.1,
)

one_some : pos 1 ≢ pos 0
one_some e = cc

two_rise : (a : ℤ) (n : ℕ) (b : ℤ) → Rises 0 (two_at a n b (n + 1))
two_rise a n b = Rises-comb 0 a (one_at n) b (one_at (n + 1)) (omega arith, one_some, tt) (omega arith, one_some, tt)

two_over : (Q : ℕ → Type 0) (a : ℤ) (n : ℕ) (b : ℤ) → Q n → Q (n + 1) → Over Q (two_at a n b (n + 1))
two_over Q a n b p q = Over-comb Q a (one_at n) b (one_at (n + 1)) (p, tt) (q, tt)

pub mix_formed : (m : System) (x y : ℕ) (a b c d : ℤ) → Formed m → In x m.unknown → In y m.unknown → x ≢ y → Formed (mix m x y a b c d).system
unfolding mix
mix_formed m x y a b c d f ix iy apart =
    let u = m.next in
    let v = m.next + 1 in
    let us = replaced x u (replaced y v m.unknown) in
    let first = two_at a u b v in
    let second = two_at c u d v in
    let n = (mix m x y a b c d).system in
    -- the unknowns with v in the place of y, and u beside them
    let Half : ℕ → Type 0 = λ w. In w m.known ⊎ (In w (replaced y v m.unknown) ⊎ (w ≡ u)) in
    let Full : ℕ → Type 0 = IsColumn n in
    let iu : In u us = In-new x u (replaced y v m.unknown) (In-replaced x y v m.unknown ix apart) in
    let lx = f.unknown_below x ix in
    let iv : In v us = In-replaced v x u (replaced y v m.unknown) (In-new y v m.unknown iy) (λ e. absurd (omega arith)) in
    let half : (w : ℕ) → IsColumn m w × (w ≢ y) → Half w = λ w q. ⊎_elim (λ k. inl k) (λ k. inr (inl (In-replaced w y v m.unknown k q.1))) q.0 in
    let full : (w : ℕ) → Half w × (w ≢ x) → Full w = λ w q.
    ⊎_elim (λ k. inl k) (λ k. inr (⊎_elim (λ j. In-replaced w x u (replaced y v m.unknown) j q.1) (λ j. subst (λ z. In z us) (sym j) iu) k)) q.0 in
    let so : Over Half second = two_over Half c u d (inr (inr refl)) (inr (inl (In-new y v m.unknown iy))) in
    let fo : Over Full first = two_over Full a u b (inr iu) (inr iv) in
    let back : (w : ℕ) → In w us → (w ≡ u) ⊎ ((w ≡ v) ⊎ In w m.unknown) = λ w i.
    ⊎_elim (λ e. inl e.0) (λ j. inr (⊎_elim (λ e. inl e.0) (λ k. inr k) (In-unreplaced w y v m.unknown j))) (In-unreplaced w x u (replaced y v m.unknown) i) in
    record {
      constant = f.constant;
      below = λ w k. let l = f.below w k in omega arith;
      unknown_below = λ w i. ⊎_elim (λ (e : w ≡ u). omega arith) (λ j. ⊎_elim (λ (e : w ≡ v). omega arith) (λ k. let l = f.unknown_below w k in omega arith) j)
          (back w i);
      apart = λ w k i.
          let l = f.below w k in
          ⊎_elim (λ (e : w ≡ u). absurd (omega arith)) (λ j. ⊎_elim (λ (e : w ≡ v). absurd (omega arith)) (λ q. f.apart w k q) j) (back w i);
      zero = subst_over Half Full x first full fo (subst_all y second m.equations) (subst_over (IsColumn m) Half y second half so m.equations f.zero);
      nonneg = subst_over Half Full x first full fo (subst_all y second m.inequalities) (subst_over (IsColumn m) Half y second half so m.inequalities f.nonneg);
      zero_rise = subst_rise x first (two_rise a u b) (subst_all y second m.equations) (subst_rise y second (two_rise c u d) m.equations f.zero_rise);
      nonneg_rise = subst_rise x first (two_rise a u b) (subst_all y second m.inequalities) (subst_rise y second (two_rise c u d) m.inequalities f.nonneg_rise);
    }

pub mix_differs : (m : System) (x y : ℕ) (a b c d : ℤ) → Formed m → Differ m.unknown → Differ (mix m x y a b c d).system.unknown
unfolding mix
mix_differs m x y a b c d f h =
    let u = m.next in
    let v = m.next + 1 in
    let fresh : In v m.unknown → ⊥ = λ i. let l = f.unknown_below v i in absurd (omega arith) in
    Differ-replaced x u (replaced y v m.unknown)
    (λ i. ⊎_elim (λ q. let e = q.0 in absurd (omega arith)) (λ q. let l = f.unknown_below u q in absurd (omega arith)) (In-unreplaced u y v m.unknown i))
    (Differ-replaced y v m.unknown fresh h)
