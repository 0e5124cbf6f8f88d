-- A mix with a determinant of 1 or -1 keeps the solutions.
use Rattle.std.proofs.Common.{◌≡◌, ℕ, ◌<◌, ◌+◌, ℤ, pos, negsuc, ◌+ℤ◌, ◌-ℤ◌, ◌*ℤ◌, true, suc, refl, sym, ◌∙◌, ap, arith, subst}
use Rattle.std.proofs.lemmas.Int.{ints}
use Rattle.std.proofs.lemmas.Bool.{eqb-true}
use Rattle.cf_num.proofs.Ring.{ring}
use Rattle.cf_linear.specs.Rows.{Values, value}
use Rattle.cf_linear.specs.Systems.{System}
use Rattle.cf_linear.specs.Steps.{subst_all, one_at, two_at, is_unit, mix}
use Rattle.cf_linear.specs.Keep.{In, Keeps, Formed, update}
use Rattle.cf_linear.specs.Solved.{Owes}
use Rattle.cf_linear.proofs.RowLemmas.{value-comb}
use Rattle.cf_linear.proofs.ValueLemmas.{EachRow-subst, EachRow-unsubst, EachRow-same, update-at, update-same, update-other, Same-trans, one_z}
use Rattle.cf_linear.proofs.FormedLemmas.{Low, kinds_from, low_from, still}
use Rattle.cf_equation.proofs.EndLaws.{IsNull, IsLeast0}
use Rattle.cf_cert.specs.Applying.{determinant}

value-two_at : (v : Values) (s t : ℤ) (c d : ℕ) → value v (two_at s c t d) ≡ s *ℤ v c +ℤ t *ℤ v d
value-two_at v s t c d = value-comb v s (one_at c) t (one_at d) ∙ rw (one_z (v c), one_z (v d)) refl

square_is : (s : ℤ) → is_unit s ≡ true → s *ℤ s ≡ pos 1
square_is (pos n) e = let h = eqb-true n 1 e in rw h refl
square_is (negsuc n) e = let h : n ≡ 0 = let k = eqb-true (suc n) 1 e in omega arith in rw h refl

-- the old unknowns as the new ones make them
first_again : (a b c d s x y : ℤ) → s ≡ a *ℤ d -ℤ b *ℤ c → s *ℤ s ≡ pos 1 → a *ℤ (s *ℤ (d *ℤ x -ℤ b *ℤ y)) +ℤ b *ℤ (s *ℤ (a *ℤ y -ℤ c *ℤ x)) ≡ x
first_again a b c d s x y e h =
    let p = simp ring at (ap (λ z. z *ℤ x) h) in
    let q = simp ring at (ap (λ z. z *ℤ (s *ℤ x)) e) in
    simp ring (omega (arith, ints))

second_again : (a b c d s x y : ℤ) → s ≡ a *ℤ d -ℤ b *ℤ c → s *ℤ s ≡ pos 1 → c *ℤ (s *ℤ (d *ℤ x -ℤ b *ℤ y)) +ℤ d *ℤ (s *ℤ (a *ℤ y -ℤ c *ℤ x)) ≡ y
second_again a b c d s x y e h =
    let p = simp ring at (ap (λ z. z *ℤ y) h) in
    let q = simp ring at (ap (λ z. z *ℤ (s *ℤ y)) e) in
    simp ring (omega (arith, ints))

mixed_keeps : (m : System) (x y : ℕ) (a b c d : ℤ) → Low m → x < m.next → y < m.next → is_unit (determinant a b c d) ≡ true → Keeps m (mix m x y a b c d)
unfolding mix
mixed_keeps m x y a b c d low lx ly unit =
    let s = determinant a b c d in
    let one = square_is s unit in
    let n = m.next in
    let r1 = two_at a n b (n + 1) in
    let r2 = two_at c n d (n + 1) in
    record {
      forth = λ v _ h.
          let p = s *ℤ (d *ℤ v x -ℤ b *ℤ v y) in
          let q = s *ℤ (a *ℤ v y -ℤ c *ℤ v x) in
          let w1 = update v n p in
          let w = update w1 (n + 1) q in
          let s1 = update-same n v n p (omega arith) in
          let s2 = update-same (n + 1) w1 (n + 1) q (omega arith) in
          let same = Same-trans n (n + 1) v w1 w (omega arith) s1 s2 in
          let at1 : w n ≡ p = sym (s2 n (omega arith)) ∙ update-at v n p in
          let at2 : w (n + 1) ≡ q = update-at w1 (n + 1) q in
          let i1 : w x ≡ value w r1 = sym (same x lx) ∙ sym (first_again a b c d s (v x) (v y) refl one) ∙ sym (value-two_at w a b n (n + 1)
          ∙ rw (at1, at2) refl) in
          let i2 : w y ≡ value w r2 = sym (same y ly) ∙ sym (second_again a b c d s (v x) (v y) refl one) ∙ sym (value-two_at w c d n (n + 1)
          ∙ rw (at1, at2) refl) in (
            w,
            same,
            tt,
            tt,
            record {
              zero = EachRow-subst IsNull w x r1 i1 (subst_all y r2 m.equations) (EachRow-subst IsNull w y r2 i2 m.equations
                  (EachRow-same IsNull n v w same m.equations low.zero h.zero));
              nonneg = EachRow-subst IsLeast0 w x r1 i1 (subst_all y r2 m.inequalities) (EachRow-subst IsLeast0 w y r2 i2 m.inequalities
                  (EachRow-same IsLeast0 n v w same m.inequalities low.nonneg h.nonneg));
            },
          );
      back = λ v _ _ _ h.
          let v1 = update v x (value v r1) in
          record {
            zero = EachRow-unsubst IsNull v1 y r2 m.equations (EachRow-unsubst IsNull v x r1 (subst_all y r2 m.equations) h.zero);
            nonneg = EachRow-unsubst IsLeast0 v1 y r2 m.inequalities (EachRow-unsubst IsLeast0 v x r1 (subst_all y r2 m.inequalities) h.nonneg);
          };
    }

pub mixed_owes : (m : System) (x y : ℕ) (a b c d : ℤ) → Formed m → In x m.unknown → In y m.unknown → is_unit (determinant a b c d) ≡ true →
    Owes m (mix m x y a b c d)
unfolding mix
mixed_owes m x y a b c d f ix iy unit =
    still m (mix m x y a b c d) (kinds_from m f) (mixed_keeps m x y a b c d (low_from m f) (f.unknown_below x ix) (f.unknown_below y iy) unit) refl
    (omega arith) refl refl
    (λ v e k. update-other (update v x _) y e _ (λ q. f.apart e k (subst (λ z. In z m.unknown) (sym q) iy))
    ∙ update-other v x e _ (λ q. f.apart e k (subst (λ z. In z m.unknown) (sym q) ix)))
