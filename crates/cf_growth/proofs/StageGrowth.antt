-- Each stage that goes on grows by no more than its factor.
use Rattle.std.proofs.Common.{◌≡◌, ◌≢◌, ℕ, ◌≤◌, ◌+◌, ℤ, pos, ◌+ℤ◌, ◌*ℤ◌, List, [], ◌∷◌, Bool, true, false, Option, refl, sym, ◌∙◌, ap, arith, subst, ◌⊎◌, inl, inr, ⊎_elim, max, map}
use Rattle.std.specs.Prelude.{unsigned_abs, nat_le}
use Rattle.std.proofs.lemmas.Int.{ints}
use Rattle.std.proofs.lemmas.Bool.{true≢false, leb-true, leb-false}
use Rattle.cf_linear.specs.declared.refusal.Refusal.{Refusal}
use Rattle.cf_linear.specs.declared.refusal.Refusal.TheVariants.{Past}
use Rattle.cf_linear.specs.Rows.{Row, entry, norm, without, Rises}
use Rattle.cf_linear.specs.Systems.{System, EachRow}
use Rattle.cf_linear.specs.Keep.{In, Over, IsColumn, Formed, Differ}
use Rattle.cf_linear.specs.Steps.{present, clean, mix, merge, merge_factor, factors_of, Pick, pick, searched_by, bound, greatest_of, let_norm}
use Rattle.cf_linear.specs.Stages.{Limits, State, Taken, goes, stage, first_count, ends_or, refused_if, clean_stage, equation_stage, row_stage, unknown_stage, bound_stage}
use Rattle.cf_linear.proofs.BoolLemmas.{on_bool}
use Rattle.cf_linear.proofs.FormedLemmas.{kinds_from}
use Rattle.cf_equation.proofs.FactorLaws.{parts_one}
use Rattle.cf_equation.proofs.StepLaws.{Differ-filter, In-present, only_unknown, last_formed, last_differs, merge_formed, merge_differs}
use Rattle.cf_bounds.specs.Exact.{IsFree}
use Rattle.cf_bounds.proofs.ExactLaws.{pick_in}
use Rattle.cf_bounds.proofs.FormedAgain.{clean_formed, dropped_formed}
use Rattle.cf_elim.proofs.BoundLaws.{dropped_differs}
use Rattle.cf_elim.proofs.EndLaws.{one_of, clean_differ, searched_ready}
use Rattle.cf_elim.proofs.StageLaws.{ends_or_goes, refused_goes, goes_parts}
use Rattle.cf_growth.specs.Tracing.{Stands, Says}
use Rattle.cf_growth.proofs.BoundGrowth.{search_factor, drop_norm, grows_bound}
use Rattle.cf_growth.proofs.CleanGrowth.{grows_clean}
use Rattle.cf_growth.proofs.EndGrowth.{grows_last}
use Rattle.cf_growth.proofs.MergeGrowth.{grows_merge}
use Rattle.cf_growth.proofs.ThenLaws.{grows_none}
use Rattle.cf_growth.proofs.TightLaws.{clean_tight}
use Rattle.cf_growth.proofs.TrapLaws.{within_factor}

-- ---- a stage that goes on
says_at : (s u t : State) (x a : Taken) → goes u x ≡ goes t a → Says s u x → Says s t a
says_at s u t x a e h = let q = goes_parts u t x a e in subst (λ (y : Taken). Says s t y) q.1 (subst (λ y. Says s y x) q.0 h)

counted_at : (s u t : State) (x a : Taken) (o : Option Refusal) (b : Bool) → ends_or o (refused_if b Past (goes u x)) ≡ goes t a → Says s u x → Says s t a
counted_at s u t x a o b e h = says_at s u t x a (refused_goes b Past (goes u x) t a (ends_or_goes o (refused_if b Past (goes u x)) t a e)).1 h

never : (b : Bool) → b ≡ false → (P : Type 0) → b ≡ true → P
never b e P t = absurd (true≢false (sym t ∙ e))

-- ---- Clean
clean_says : (l : Limits) (s t : State) (a : Taken) → Stands s → clean_stage l s ≡ goes t a → Says s t a
unfolding clean_stage
clean_says l s t a h e =
    says_at s _ t _ a (ends_or_goes (first_count l (clean s.system).system) _ t a (ends_or_goes (first_count l s.system) _ t a e)) (record {
      forth = max 1 (greatest_of (map let_norm (clean s.system).steps));
      back = 1;
      grows = grows_clean s.system h.formed;
      within = omega arith;
      next = refl;
      stands = record { formed = clean_formed s.system h.formed; differ = clean_differ s.system h.differ; tight = λ _ _. clean_tight s.system h.formed };
    })

-- ---- an equation step
no_one : (s t x y : ℤ) → unsigned_abs s ≡ 0 → unsigned_abs t ≡ 0 → s *ℤ x +ℤ t *ℤ y ≡ pos 1 → ⊥
no_one s t x y a b e =
    let i : s ≡ pos 0 = omega (arith, ints) in
    let j : t ≡ pos 0 = omega (arith, ints) in
    let p : s *ℤ x ≡ pos 0 *ℤ x = ap (λ z. z *ℤ x) i in
    let q : t *ℤ y ≡ pos 0 *ℤ y = ap (λ z. z *ℤ y) j in
    omega (arith, ints)

merge_some : (e : Row) (x y : ℕ) → entry e x ≢ pos 0 → entry e y ≢ pos 0 → 1 ≤ merge_factor e x y
unfolding merge_factor factors_of
merge_some e x y i j =
    let f = factors_of (entry e x) (entry e y) in
    let n = max (unsigned_abs f.s + unsigned_abs f.m) (unsigned_abs f.t + unsigned_abs f.n) in
    on_bool (nat_le 1 n) (λ t. leb-true 1 n t)
    (λ t. let l = leb-false 1 n t in absurd (no_one f.s f.t _ _ (omega arith) (omega arith) (parts_one (entry e x) (entry e y) i j)))

merge_left : (m : System) (e d : Row) (rest : List Row) (x y : ℕ) → m.equations ≡ d ∷ rest → (merge m e x y).system.equations ≡ [] → ⊥
unfolding merge mix
merge_left m e d rest x y h q = let p = rw h at q in absurd (cc)

equation_says : (l : Limits) (s t : State) (a : Taken) (e : Row) (rest : List Row) (us : List ℕ) → Stands s → s.system.equations ≡ e ∷ rest →
    present s.system.unknown e ≡ us → equation_stage l s e rest us ≡ goes t a → Says s t a
unfolding equation_stage
equation_says l s t a e rest [] h q p g = says_at s _ t _ a g (record {
  forth = 1;
  back = 1;
  grows = grows_none s.system;
  within = omega arith;
  next = refl;
  stands = record { formed = h.formed; differ = h.differ; tight = λ c. absurd (true≢false (sym c)) };
})
equation_says l s t a e rest (u ∷ []) h q p g =
    let rise = subst (λ rows. EachRow (Rises 0) rows) q h.formed.zero_rise in
    let over = subst (λ rows. EachRow (Over (IsColumn s.system)) rows) q h.formed.zero in
    let only = only_unknown s.system e u over.0 rise.0 p in
    let i = In-present u s.system.unknown e (subst (λ xs. In u xs) (sym p) (inl refl)) in
    counted_at s _ t _ a _ _ g (record {
      forth = max 1 (norm (without u e));
      back = 1;
      grows = grows_last s.system e rest u h.formed i.0 only;
      within = omega arith;
      next = refl;
      stands = record {
        formed = last_formed s.system e rest u h.formed q only;
        differ = last_differs s.system e rest u h.differ;
        tight =
            λ c. absurd (true≢false (sym c));
      };
    })
equation_says l s t a e rest (u ∷ w ∷ us) h q p g =
    let iu = In-present u s.system.unknown e (subst (λ xs. In u xs) (sym p) (inl refl)) in
    let iw = In-present w s.system.unknown e (subst (λ xs. In w xs) (sym p) (inr (inl refl))) in
    let d : Differ (u ∷ w ∷ us) = subst Differ p (Differ-filter _ s.system.unknown h.differ) in
    let n : u ≢ w = λ i. d.0 (inl i) in
    counted_at s _ t _ a _ _ g (record {
      forth = 1;
      back = merge_factor e u w;
      grows = grows_merge s.system e u w h.formed iu.0 iw.0 n (merge_some e u w iu.1 iw.1);
      within = omega arith;
      next = refl;
      stands = record {
        formed = merge_formed s.system e u w h.formed iu.0 iw.0 n;
        differ = merge_differs s.system e u w h.formed h.differ;
        tight =
            λ _ z. absurd (merge_left s.system e e rest u w q z);
      };
    })

-- ---- a Bound step
pub search_stands : (m : System) (c : Pick) → Formed m → Differ m.unknown → In c.unknown m.unknown → m.equations ≡ [] →
    Formed (searched_by m c).system × Differ (searched_by m c).system.unknown × IsFree c.unknown (searched_by m c).system.equations
search_stands m c f d i q = let h = searched_ready m c (record { formed = f; differ = d }) i q in (h.0.formed, h.0.differ, h.1)

bound_stands : (m : System) (c : Pick) → Formed m → Differ m.unknown → In c.unknown m.unknown → m.equations ≡ [] →
    Formed (bound m c).system × Differ (bound m c).system.unknown
unfolding bound
bound_stands m c f d i q =
    let h = search_stands m c f d i q in
    (dropped_formed (searched_by m c).system c.unknown h.0 h.2, dropped_differs (searched_by m c).system c.unknown h.1)

bound_says : (l : Limits) (s t : State) (a : Taken) (c : Pick) → Stands s → s.is_past_clean ≡ true → s.system.equations ≡ [] → In c.unknown s.system.unknown →
    bound_stage l s c ≡ goes t a → Says s t a
unfolding bound_stage
bound_says l s t a c h b q i e =
    let f = search_stands s.system c h.formed h.differ i q in
    let k = bound_stands s.system c h.formed h.differ i q in
    counted_at s _ t _ a _ _ (refused_goes _ _ _ t a e).1 (record {
      forth = search_factor s.system c;
      back = max 1 (drop_norm s.system c);
      grows = grows_bound s.system c i (h.formed.unknown_below c.unknown i) (kinds_from (searched_by s.system c).system f.0) f.0.nonneg;
      within = within_factor s.system c i (h.tight b q);
      next = refl;
      stands = record { formed = k.0; differ = k.1; tight = λ z. absurd (true≢false (sym z)) };
    })

unknown_says : (l : Limits) (s t : State) (a : Taken) (us : List ℕ) → Stands s → s.is_past_clean ≡ true → s.system.equations ≡ [] →
    ((c : ℕ) → In c us → In c s.system.unknown) → unknown_stage l s us ≡ goes t a → Says s t a
unfolding unknown_stage
unknown_says l s t a [] h b q i e = cc
unknown_says l s t a (x ∷ us) h b q i e =
    let c = pick s.system.inequalities x us in
    bound_says l s t a c h b q (i c.unknown (pick_in s.system.inequalities x us)) e

-- ---- one stage
row_says : (l : Limits) (s t : State) (a : Taken) (rows : List Row) → Stands s → s.is_past_clean ≡ true → s.system.equations ≡ rows →
    row_stage l s rows ≡ goes t a → Says s t a
unfolding row_stage
row_says l s t a [] h b q e = unknown_says l s t a s.system.unknown h b q (λ c i. i) e
row_says l s t a (r ∷ rows) h b q e = equation_says l s t a r rows (present s.system.unknown r) h q refl e

pub stage_says : (l : Limits) (s t : State) (a : Taken) → Stands s → stage l s ≡ goes t a → Says s t a
unfolding stage
stage_says l s t a h e = ⊎_elim
    (λ p. row_says l s t a s.system.equations h p.0 refl p.1)
    (λ p. clean_says l s t a h p.1) (one_of s.is_past_clean (row_stage l s s.system.equations) (clean_stage l s) t a e)
