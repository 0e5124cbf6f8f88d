-- The law of the elimination by test points.
use Rattle.std.proofs.Common.{◌≡◌, ◌≢◌, ℕ, ◌<◌, ℤ, pos, negsuc, neg_ℤ, ◌+ℤ◌, ◌*ℤ◌, List, [], ◌∷◌, ◌++◌, Bool, true, false, ◌==◌, refl, sym, ◌∙◌, arith, subst, inl, inr, ⊎_elim}
use Rattle.std.specs.Prelude.{◌≤ℤ◌, ◌<ℤ◌, map, unsigned_abs}
use Rattle.std.specs.Int.{int_div_euclid}
use Rattle.std.proofs.lemmas.Int.{ints}
use Rattle.std.proofs.lemmas.Bool.{cond_both, eqb-true}
use Rattle.cf_num.proofs.Ring.{ring}
use Rattle.cf_num.proofs.DivisionLemmas.{int_div_euclid-bounds}
use Rattle.cf_linear.specs.Rows.{Row, Values, entry, value, comb}
use Rattle.cf_linear.specs.Systems.{EachRow}
use Rattle.cf_linear.specs.Steps.{one_at, distinct_after}
use Rattle.cf_linear.specs.Keep.{In, Over, Same, update, how_value}
use Rattle.cf_linear.proofs.RowLemmas.{value-comb}
use Rattle.cf_linear.proofs.KindLemmas.{Below, EachRow-append, EachRow-with}
use Rattle.cf_linear.proofs.ValueLemmas.{value-same, update-at, update-same, update-other, one_z}
use Rattle.cf_formula.specs.Formulas.{Formula, always, never, at_least, equal, both, either, Holds, Throughout}
use Rattle.cf_formula.specs.Branches.{Branch, EachBranch, SomeBranch, SameAt, GoesOn, ComesBack, Grows, Leads}
use Rattle.cf_formula.proofs.FormulaLemmas.{Holds-same}
use Rattle.cf_formula.proofs.OverLaws.{over_kind, rewritten-through}
use Rattle.cf_formula.proofs.BranchLaws.{EachBranch-append, EachBranch-map, SomeBranch-right, SomeBranch-in}
use Rattle.cf_formula.specs.Tight.{sign, coef, by_sign, is_never, points, zeros, others, beyond, zero_branch, point_branch, nearest, last_branch, last_branches, tight_branches}
use Rattle.cf_formula.proofs.TightLemmas.{Reached, Greatest, greatest_below, at, rest, bound, Positive, Apart, value-at, holds_below, holds_beyond, beyond_holds, points_positive, points_below, others_negative}
use Rattle.cf_formula.proofs.RowLists.{InRows, EachRow-in, some_zero, distinct_forth, distinct_back}
use Rattle.cf_formula.proofs.PointLemmas.{sign_cases}
use Rattle.cf_formula.proofs.NearestLemmas.{nearest_below}

never-holds : (v : Values) (f : Formula) → is_never f ≡ true → Holds v f → ⊥
never-holds v always e h = cc e
never-holds v never e h = h
never-holds v (at_least r) e h = cc e
never-holds v (equal r) e h = cc e
never-holds v (both f g) e h = cc e
never-holds v (either f g) e h = cc e

-- ---- the step
sign_twice : (lower : Bool) (z : ℤ) → sign lower *ℤ (sign lower *ℤ z) ≡ z
sign_twice true z = omega (arith, ints)
sign_twice false z = omega (arith, ints)

module _ (known : List ℕ) (Given : Values → Type 0) (lower : Bool) (x n : ℕ) (f : Formula) (t : Throughout (λ c. c < n) f) (constant : In 0 known)
    (apart_x : (c : ℕ) → In c known → c ≢ x)
    (below_n : (c : ℕ) → In c known → c < n) where
  -- the value of x, counted from the side
  abbrev here : Values → ℤ
  here v = sign lower *ℤ v x

  at_here : (v : Values) → Same n v (at v lower x (here v))
  at_here v c l = cond_both (c == x) (sign lower *ℤ here v) (v c) (λ y. v c ≡ y) (λ e. rw (eqb-true c x e) (sym (sign_twice lower (v x)))) (λ e. refl)

  at_other : (v : Values) (y : ℤ) (c : ℕ) → c ≢ x → v c ≡ at v lower x y c
  at_other v y c d = sym (update-other v x c (sign lower *ℤ y) d)

  still_one : (v : Values) (y : ℤ) → v 0 ≡ pos 1 → at v lower x y 0 ≡ pos 1
  still_one v y one = sym (at_other v y 0 (apart_x 0 constant)) ∙ one

  size_is : (v : Values) (r : Row) → Positive v lower x r → pos (unsigned_abs (entry r x)) ≡ coef lower x r
  size_is v r p = by lower p
    where
      by : (b : Bool) → pos 0 <ℤ coef b x r → pos (unsigned_abs (entry r x)) ≡ coef b x r
      by true p = omega (arith, ints)
      by false p = omega (arith, ints)

  -- the row's value at its bound
  at_bound : (v : Values) (r : Row) → Positive v lower x r →
      (pos 0 ≤ℤ value (at v lower x (bound v lower x r)) r) × (value (at v lower x (bound v lower x r)) r <ℤ pos (unsigned_abs (entry r x)))
  at_bound v r p =
      rw (value-at v lower x (bound v lower x r) r, size_is v r p)
      (near (coef lower x r) (int_div_euclid (rest v lower x r) (coef lower x r)) (rest v lower x r)
      (int_div_euclid-bounds (rest v lower x r) (coef lower x r) p))
    where
      near : (p d l : ℤ) → ((p *ℤ d) ≤ℤ l) × (l <ℤ (p *ℤ d +ℤ p)) → (pos 0 ≤ℤ (p *ℤ neg_ℤ d +ℤ l)) × ((p *ℤ neg_ℤ d +ℤ l) <ℤ p)
      near p d l h = let i = h.0 in let j = h.1 in (simp ring (omega (arith, ints)), simp ring (omega (arith, ints)))

  point_forth : (v : Values) (r : Row) → Positive v lower x r → Below n r → Holds (at v lower x (bound v lower x r)) f →
      GoesOn known v (point_branch known x n f r)
  point_forth v r p o h =
      let y = bound v lower x r in
      let u = at v lower x y in
      let k = value u r in
      let w = update u n k in
      let b = at_bound v r p in
      let b0 = b.0 in
      let b1 = b.1 in
      let same : Same n u w = update-same n u n k (omega arith) in
      let e : value w (comb (pos 1) r (negsuc 0) (one_at n)) ≡ pos 0 =
      value-comb w (pos 1) r (negsuc 0) (one_at n) ∙ rw (← value-same n u w same r o, one_z (w n), update-at u n k) (omega (arith, ints)) in
      cond_both (unsigned_abs (entry r x) == 1) _ _ (GoesOn known v)
      (λ i.
      let one : unsigned_abs (entry r x) ≡ 1 = eqb-true (unsigned_abs (entry r x)) 1 i in
      (u, (λ c i. at_other v y c (apart_x c i)), tt, tt, (omega (arith, ints), h)))
      (λ i. (
        w,
        (λ c i. at_other v y c (apart_x c i) ∙ same c (below_n c i)),
        (rw (update-at u n k) b0, rw (update-at u n k) b1, tt),
        tt,
        (e, Holds-same n u w same f t h),
      ))

  point_back : (r : Row) → ComesBack known Given f (point_branch known x n f r)
  point_back r = cond_both (unsigned_abs (entry r x) == 1) _ _ (ComesBack known Given f) (λ i v o given b m h. (h.1, λ c d. refl))
      (λ i v o given b m h. (h.1, λ c d. refl))

  last_back : ComesBack known Given f (last_branch known lower x f)
  last_back v o given b m h =
      let rows = others lower x f in
      let y = sign lower *ℤ how_value v (nearest lower x rows) in
      let near = nearest_below v x lower rows (others_negative v lower x f) in
      let beyond_here = Holds-same n v (at v lower x (here v)) (at_here v) (beyond lower x f) (beyond_below f t) h in (
        subst (λ z. Holds (update v x z) f) (sign_twice lower (how_value v (nearest lower x rows)))
            (beyond_holds v lower x y (here v) (still_one v (here v) o) f near beyond_here),
        λ c i. sym (update-other v x c (how_value v (nearest lower x rows)) (apart_x c i)),
      )
    where
      beyond_below : (g : Formula) → Throughout (λ c. c < n) g → Throughout (λ c. c < n) (beyond lower x g)
      beyond_below g t =
          let small = λ (c : ℕ). c < n in
          rewritten-through (Over small) (over_kind small (below_n 0 constant)) (Over small) (λ r. by_sign (coef lower x r) always (at_least r) never)
          (λ r. by_sign (entry r x) never (equal r) never)
          (λ r o. sign_cases (coef lower x r) always (at_least r) never (Throughout small) (λ _. tt) (λ _. o) (λ _. tt))
          (λ r o. sign_cases (entry r x) never (equal r) never (Throughout small) (λ _. tt) (λ _. o) (λ _. tt)) g t

  zero_back : (r : Row) → ComesBack known Given f (zero_branch known f r)
  zero_back r v o given b m h = (h.1, λ c d. refl)

  last_forth : (w v : Values) → SameAt known v w → Holds w (beyond lower x f) → SomeBranch (GoesOn known v) (last_branches known lower x f)
  last_forth w v s h =
      cond_both (is_never (beyond lower x f)) [] (last_branch known lower x f ∷ []) (SomeBranch (GoesOn known v)) (λ e. never-holds w (beyond lower x f) e h)
      (λ e. inl (w, s, tt, tt, h))

  pub tight_forth : (v : Values) → v 0 ≡ pos 1 → Given v → Holds v f → SomeBranch (GoesOn known v) (tight_branches known lower x n f)
  tight_forth v one given h =
      let P = GoesOn known v in
      let z = here v in
      let all = points lower x f in
      let rows = distinct_after [] all in
      let ends = distinct_after [] (zeros x f) in
      let point_ones = map (point_branch known x n f) rows in
      let last_ones = last_branches known lower x f in
      let i = Holds-same n v (at v lower x z) (at_here v) f t h in
      ⊎_elim
      (λ (apart : EachRow (λ r. value v r ≢ pos 0) ends).
      let a = EachRow-with (Below n) (λ r. value v r ≢ pos 0) (Apart v lower x z)
      (λ r o d e. d (value-same n v (at v lower x z) (at_here v) r o ∙ e)) (zeros x f) (zeros_below f t)
      (distinct_back (λ r. value v r ≢ pos 0) [] (zeros x f) tt apart) in
      SomeBranch-right P (map (zero_branch known f) ends) (point_ones ++ last_ones)
      (⊎_elim
      (λ (none : EachRow (λ q. z <ℤ bound v lower x q) rows).
      SomeBranch-right P point_ones last_ones (last_forth (at v lower x z) v (λ c i. at_other v z c (apart_x c i))
      (holds_beyond v lower x z (still_one v z one) f (distinct_back (λ q. z <ℤ bound v lower x q) [] all tt none) a i)))
      (λ (g : Greatest (bound v lower x) z rows).
      let y = bound v lower x g.row in
      let p = EachRow-in (Positive v lower x) rows g.row (distinct_forth (Positive v lower x) [] all (points_positive v lower x f)) g.among in
      let o = EachRow-in (Below n) rows g.row (distinct_forth (Below n) [] all (points_below v lower x n f t)) g.among in
      SomeBranch-in P (point_branch known x n f) rows last_ones g.row g.among
      (point_forth v g.row p o (holds_below v lower x y z g.low f (distinct_back (Reached (bound v lower x) z y) [] all tt g.reached) a i)))
      (greatest_below (bound v lower x) z rows)))
      (λ (s : (r : Row) × InRows r ends × (value v r ≡ pos 0)).
      SomeBranch-in P (zero_branch known f) ends (point_ones ++ last_ones) s.0 s.1 (v, (λ c i. refl), tt, tt, (s.2, h)))
      (some_zero v ends)
    where
      zeros_below : (g : Formula) → Throughout (λ c. c < n) g → EachRow (Below n) (zeros x g)
      zeros_below always t = tt
      zeros_below never t = tt
      zeros_below (at_least r) t = tt
      zeros_below (equal r) t = sign_cases (entry r x) (r ∷ []) [] (r ∷ []) (EachRow (Below n)) (λ _. (t, tt)) (λ _. tt) (λ _. (t, tt))
      zeros_below (both g h) t = EachRow-append (Below n) (zeros x g) (zeros x h) (zeros_below g t.0) (zeros_below h t.1)
      zeros_below (either g h) t = EachRow-append (Below n) (zeros x g) (zeros x h) (zeros_below g t.0) (zeros_below h t.1)

  -- what holds of each kind of branch holds of all
  each_kind : (P : Branch → Type 0) → ((r : Row) → P (zero_branch known f r)) → ((r : Row) → P (point_branch known x n f r)) → P (last_branch known lower x f) →
      EachBranch P (tight_branches known lower x n f)
  each_kind P a b c =
      let ends = distinct_after [] (zeros x f) in
      let rows = distinct_after [] (points lower x f) in
      EachBranch-append P (map (zero_branch known f) ends) (map (point_branch known x n f) rows ++ last_branches known lower x f)
      (EachBranch-map P (zero_branch known f) a ends)
      (EachBranch-append P (map (point_branch known x n f) rows) (last_branches known lower x f) (EachBranch-map P (point_branch known x n f) b rows)
      (cond_both (is_never (beyond lower x f)) [] (last_branch known lower x f ∷ []) (EachBranch P) (λ e. tt) (λ e. (c, tt))))

  point_grows : (r : Row) → Grows known (point_branch known x n f r)
  point_grows r = cond_both (unsigned_abs (entry r x) == 1) _ _ (Grows known)
      (λ e. record { grows = λ c i. i; bounds_known = λ c i. absurd i; items_known = tt })
      (λ e. record { grows = λ c i. inr i; bounds_known = λ c i. ⊎_elim (λ j. inl j) (λ j. absurd j) i; items_known = tt })

  -- the law
  pub tight_leads : Leads known Given f (tight_branches known lower x n f)
  tight_leads = record {
    forth = tight_forth;
    back = each_kind (ComesBack known Given f) zero_back point_back last_back;
    formed = each_kind (Grows known) (λ r. record { grows = λ c i. i; bounds_known = λ c i. absurd i; items_known = tt }) point_grows
        (record { grows = λ c i. i; bounds_known = λ c i. absurd i; items_known = tt });
  }
