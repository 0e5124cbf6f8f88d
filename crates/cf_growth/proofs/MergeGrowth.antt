-- A Merge makes no known column, and its two unknowns are at most its factor times the new ones.
use Rattle.std.proofs.Common.{◌≡◌, ℕ, ◌≤◌, ◌+◌, ◌*◌, ℤ, refl, sym, ◌∙◌, arith, subst, ◌⊎◌, inl, inr, ⊎_elim, max, ◌==◌}
use Rattle.std.specs.Prelude.{unsigned_abs}
use Rattle.std.proofs.lemmas.Bool.{cond_both, eqb-false}
use Rattle.cf_linear.specs.Rows.{Row, Values, value, norm, entry}
use Rattle.cf_linear.specs.Systems.{System}
use Rattle.cf_linear.specs.Steps.{one_at, two_at, replaced, mix, merge, merge_factor, factors_of}
use Rattle.cf_linear.specs.Keep.{In, Over, Formed, update}
use Rattle.cf_linear.proofs.ValueLemmas.{update-other}
use Rattle.cf_bounds.proofs.SearchFormed.{two_over}
use Rattle.cf_elim.proofs.StepReturns.{In-replaced, replaced-In}
use Rattle.cf_growth.specs.Norms.{IsBounded}
use Rattle.cf_growth.specs.Growing.{Grows}
use Rattle.cf_growth.proofs.NormLaws.{times_more, times_le, value_bound, sums_bound, norm-comb}

two_norm : (a : ℤ) (u : ℕ) (b : ℤ) (v : ℕ) → norm (two_at a u b v) ≤ unsigned_abs a + unsigned_abs b
two_norm a u b v = let h = norm-comb a (one_at u) b (one_at v) in omega arith

grows_mix : (m : System) (x y : ℕ) (a b c d : ℤ) → Formed m → In x m.unknown → In y m.unknown → (x ≡ y → ⊥) →
    1 ≤ max (unsigned_abs a + unsigned_abs b) (unsigned_abs c + unsigned_abs d) →
    Grows m (mix m x y a b c d) 1 (max (unsigned_abs a + unsigned_abs b) (unsigned_abs c + unsigned_abs d))
unfolding mix
grows_mix m x y a b c d f i j apart some =
    let u = m.next in
    let w = m.next + 1 in
    let bx = f.unknown_below x i in
    let by = f.unknown_below y j in
    let n = max (unsigned_abs a + unsigned_abs b) (unsigned_abs c + unsigned_abs d) in
    let us = replaced x u (replaced y w m.unknown) in
    let first : In u us = replaced-In x u (replaced y w m.unknown) (In-replaced y w x m.unknown i apart) in
    let second : In w us = In-replaced x u w (replaced y w m.unknown) (replaced-In y w m.unknown j) (λ e. omega arith) in
    let r = two_at a u b w in
    let s = two_at c u d w in
    let New : ℕ → Type 0 = λ q. (q ≡ u) ⊎ (q ≡ w) in
    let ro : Over New r = two_over New a u b w (inl refl) (inr refl) in
    let so : Over New s = two_over New c u d w (inl refl) (inr refl) in
    let rn : norm r ≤ n = let h = two_norm a u b w in omega arith in
    let sn : norm s ≤ n = let h = two_norm c u d w in omega arith in
    let news : (v : Values) (t : ℕ) → IsBounded (λ q. In q m.known ⊎ In q us) t v → IsBounded New t v =
    λ v t h q k. ⊎_elim (λ e. rw e (h u (inr first))) (λ e. rw e (h w (inr second))) k in
    let later : (v : Values) (t : ℕ) (z : ℤ) → IsBounded New t v → IsBounded New t (update v x z) =
    λ v t z h q k. rw (update-other v x q z (λ (e : q ≡ x). ⊎_elim (λ (p : q ≡ u). omega arith) (λ (p : q ≡ w). omega arith) k)) (h q k) in
    record {
      forth_some = omega arith;
      back_some = some;
      known = λ v k st wi l h q p. let o = h q p in omega arith;
      lets = λ v k st wi l h. tt;
      stood = λ v k t st wi l h le hb q p.
          let z = value v r in
          let hz = value_bound New t v (news v t hb) r ro in
          let v1 = update v x z in
          let hy = value_bound New t v1 (later v t z (news v t hb)) s so in
          let lz = times_le (norm r) n t rn in
          let ly = times_le (norm s) n t sn in
          let lt = times_more n t some in
          cond_both (q == y) (value v1 s) (v1 q) (λ o. unsigned_abs o ≤ n * t) (λ _. omega arith)
          (λ e. cond_both (q == x) z (v q) (λ o. unsigned_abs o ≤ n * t) (λ _. omega arith)
          (λ g.
          let o = hb q (⊎_elim (λ k. inl k) (λ k. inr
          (In-replaced x u q (replaced y w m.unknown) (In-replaced y w q m.unknown k (eqb-false q y e)) (eqb-false q x g))) p) in
          omega arith));
      back = λ v k t st wi l h le hb.
          let z = value v r in (
            sums_bound New t (n * t) v (omega arith) (news v t hb) r ro (times_more n t some) (times_le (norm r) n t rn),
            (sums_bound New t (n * t) (update v x z) (omega arith) (later v t z (news v t hb)) s so (times_more n t some) (times_le (norm s) n t sn), tt),
          );
      stay = λ q p. p;
      searches = λ q p. absurd p;
      over = tt;
      kept = λ v q p.
          update-other (update v x (value v r)) y q (value (update v x (value v r)) s) (λ e. f.apart q p (subst (λ o. In o m.unknown) (sym e) j)) ∙
          update-other v x q (value v r) (λ e. f.apart q p (subst (λ o. In o m.unknown) (sym e) i));
    }

pub grows_merge : (m : System) (e : Row) (x y : ℕ) → Formed m → In x m.unknown → In y m.unknown → (x ≡ y → ⊥) → 1 ≤ merge_factor e x y →
    Grows m (merge m e x y) 1 (merge_factor e x y)
unfolding merge merge_factor
grows_merge m e x y f i j apart some = let p = factors_of (entry e x) (entry e y) in grows_mix m x y p.s p.m p.t p.n f i j apart some
