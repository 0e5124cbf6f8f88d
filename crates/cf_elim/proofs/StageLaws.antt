-- What each stage that goes on says of the way back and of the searches.
use Rattle.std.proofs.Common.{◌≡◌, ◌≢◌, ℕ, ◌≤◌, ℤ, pos, List, [], ◌∷◌, Bool, true, false, Option, Some, None, All, refl, sym, ap, subst, ◌⊎◌, inl, inr, ⊎_elim}
use Rattle.std.specs.Prelude.{nat_lt, if◌then◌else◌}
use Rattle.std.specs.List.{fold}
use Rattle.std.proofs.lemmas.Bool.{cond_both, ltb-false}
use Rattle.std.proofs.lemmas.List.Elements.{All-nil}
use Rattle.cf_linear.specs.declared.refusal.LimitKind.TheVariants.{Search}
use Rattle.cf_linear.specs.declared.refusal.Refusal.{Refusal}
use Rattle.cf_linear.specs.declared.refusal.Refusal.TheVariants.{Past, Limit}
use Rattle.cf_linear.specs.Rows.{Row, entry, is_zero}
use Rattle.cf_linear.specs.Systems.{System, EachRow, Answer, no_answer}
use Rattle.cf_linear.specs.Keep.{In, Over, IsColumn, Formed, Differ}
use Rattle.cf_linear.specs.Steps.{present, clean, mix, merge, factors_of, last, Pick, pick, searched, searched_by}
use Rattle.cf_linear.specs.Stages.{State, Taken, Stage, goes, stage, first_count, ends_or, refused_if, times_bound, clean_stage, equation_stage, row_stage, unknown_stage, bound_stage, limits}
use Rattle.cf_linear.proofs.BoolLemmas.{on_bool}
use Rattle.cf_linear.proofs.RowLemmas.{zero_from_is_zero}
use Rattle.cf_equation.proofs.StepLaws.{Differ-filter, In-present}
use Rattle.cf_bounds.proofs.ExactLaws.{pick_in}
use Rattle.cf_bounds.proofs.SearchFormed.{searched_formed}
use Rattle.cf_elim.specs.Returning.{Returns}
use Rattle.cf_elim.specs.Stages.{IsReady}
use Rattle.cf_elim.proofs.ReturnLaws.{returns_none}
use Rattle.cf_elim.proofs.StepReturns.{returns_clean, returns_last, returns_mix, returns_bound, some_unknown}
use Rattle.cf_elim.proofs.SearchLaws.{IsSome, bounds_of, search_some, bound_bounds}

-- the step from s to t comes back, and its search leaves few tuples
pub record Says (s t : State) (a : Answer) : Type 0 where
  pub returns : Returns s.system a
  pub tuples : t.tuples ≡ fold times_bound s.tuples a.bounds
  pub few : s.tuples ≤ 1048576 → t.tuples ≤ 1048576
  pub some : All IsSome (bounds_of a.bounds)

-- ---- a stage that goes on
pub ends_or_goes : (o : Option Refusal) (h : Stage) (t : State) (a : Taken) → ends_or o h ≡ goes t a → h ≡ goes t a
ends_or_goes (Some r) h t a e = cc
ends_or_goes None h t a e = e

pub refused_goes : (b : Bool) (r : Refusal) (h : Stage) (t : State) (a : Taken) → refused_if b r h ≡ goes t a → (b ≡ false) × (h ≡ goes t a)
refused_goes true r h t a e = cc
refused_goes false r h t a e = (refl, e)

pub goes_parts : (s t : State) (a b : Taken) → goes s a ≡ goes t b → (s ≡ t) × (a ≡ b)
goes_parts s t a b e = (cc, cc)

pub one_of : (b : Bool) (g h : Stage) (t : State) (a : Taken) → (if b then g else h) ≡ goes t a → (g ≡ goes t a) ⊎ (h ≡ goes t a)
one_of true g h t a e = inl e
one_of false g h t a e = inr e

says_at : (s u t : State) (x a : Taken) → goes u x ≡ goes t a → Says s u x.answer → Says s t a.answer
says_at s u t x a e h = let q = goes_parts u t x a e in subst (λ (y : Taken). Says s t y.answer) q.1 (subst (λ y. Says s y x.answer) q.0 h)

counted_at : (s u t : State) (x a : Taken) (o : Option Refusal) (b : Bool) → ends_or o (refused_if b Past (goes u x)) ≡ goes t a → Says s u x.answer →
    Says s t a.answer
counted_at s u t x a o b e h = says_at s u t x a (refused_goes b Past (goes u x) t a (ends_or_goes o (refused_if b Past (goes u x)) t a e)).1 h

-- a step without a search
same_says : (s u : State) (x : Answer) → Returns s.system x → x.bounds ≡ [] → u.tuples ≡ s.tuples → Says s u x
same_says s u x r b t = record { returns = r; tuples = rw (b, t) refl; few = λ l. rw t l; some = rw b (All-nil IsSome) }

-- ---- Clean
clean_bounds : (m : System) → (clean m).bounds ≡ []
unfolding clean
clean_bounds m = refl

clean_says : (s t : State) (a : Taken) → clean_stage limits s ≡ goes t a → Says s t a.answer
unfolding clean_stage
clean_says s t a e =
    says_at s _ t _ a (ends_or_goes (first_count limits (clean s.system).system) _ t a (ends_or_goes (first_count limits s.system) _ t a e))
    (same_says s _ (clean s.system) (returns_clean s.system) (clean_bounds s.system) refl)

-- ---- an equation step
last_bounds : (m : System) (e : Row) (rest : List Row) (u : ℕ) → (last m e rest u).bounds ≡ []
unfolding last
last_bounds m e rest u = refl

merge_bounds : (m : System) (e : Row) (u w : ℕ) → (merge m e u w).bounds ≡ []
unfolding merge mix
merge_bounds m e u w = refl

returns_merge : (m : System) (e : Row) (u w : ℕ) → Formed m → In u m.unknown → In w m.unknown → (u ≡ w → ⊥) → Returns m (merge m e u w)
unfolding merge
returns_merge m e u w f i j n = let p = factors_of (entry e u) (entry e w) in returns_mix m u w p.s p.m p.t p.n f i j n

not_zero : (k : ℤ) → k ≢ pos 0 → is_zero k ≡ false
not_zero k n = on_bool (is_zero k) (λ t. absurd (n (zero_from_is_zero k t))) (λ f. f)

equation_says : (s t : State) (a : Taken) (e : Row) (rest : List Row) (us : List ℕ) → IsReady s.system → Over (IsColumn s.system) e →
    ((c : ℕ) → In c us → In c s.system.unknown × (entry e c ≢ pos 0)) → Differ us →
    equation_stage limits s e rest us ≡ goes t a → Says s t a.answer
unfolding equation_stage
equation_says s t a e rest [] r o i d g = says_at s _ t _ a g (same_says s _ (no_answer s.system) (returns_none s.system) refl refl)
equation_says s t a e rest (u ∷ []) r o i d g =
    let p = i u (inl refl) in
    counted_at s _ t _ a _ _ g (same_says s _ (last s.system e rest u) (returns_last s.system e rest u r.formed o p.0 (not_zero (entry e u) p.1))
    (last_bounds s.system e rest u) refl)
equation_says s t a e rest (u ∷ w ∷ us) r o i d g =
    counted_at s _ t _ a _ _ g
    (same_says s _ (merge s.system e u w) (returns_merge s.system e u w r.formed (i u (inl refl)).0 (i w (inr (inl refl))).0 (λ q. d.0 (inl q)))
    (merge_bounds s.system e u w) refl)

-- ---- a Bound step
search_formed : (m : System) (c : Pick) → Formed m → In c.unknown m.unknown → Formed (searched_by m c).system
unfolding searched_by
search_formed m c f i =
    cond_both (nat_lt 1 c.product) (searched m c.unknown c.lower) (record { system = m; steps = []; back = []; bounds = [] }) (λ (a : Answer). Formed a.system)
    (λ _. searched_formed m c.unknown c.lower f i) (λ _. f)

bound_says : (s t : State) (a : Taken) (c : Pick) → IsReady s.system → In c.unknown s.system.unknown → bound_stage limits s c ≡ goes t a → Says s t a.answer
unfolding bound_stage
bound_says s t a c r i e =
    let n = fold times_bound s.tuples (searched_by s.system c).bounds in
    let p = refused_goes (nat_lt 1048576 n) (Limit Search n) _ t a e in
    counted_at s _ t _ a _ _ p.1 (record {
      returns = returns_bound s.system c (some_unknown s.system c.unknown r.formed i) (search_formed s.system c r.formed i).nonneg;
      tuples = ap (fold times_bound s.tuples) (sym (bound_bounds s.system c));
      few = λ _. ltb-false 1048576 n p.0;
      some = subst (λ bs. All IsSome (bounds_of bs)) (sym (bound_bounds s.system c)) (search_some s.system c);
    })

unknown_says : (s t : State) (a : Taken) (us : List ℕ) → IsReady s.system → ((c : ℕ) → In c us → In c s.system.unknown) → unknown_stage limits s us ≡ goes t a →
    Says s t a.answer
unfolding unknown_stage
unknown_says s t a [] r i e = cc
unknown_says s t a (x ∷ us) r i e = bound_says s t a (pick s.system.inequalities x us) r
    (i (pick s.system.inequalities x us).unknown (pick_in s.system.inequalities x us)) e

-- ---- one stage
row_says : (s t : State) (a : Taken) (rows : List Row) → IsReady s.system → EachRow (Over (IsColumn s.system)) rows → row_stage limits s rows ≡ goes t a →
    Says s t a.answer
unfolding row_stage
row_says s t a [] r o e = unknown_says s t a s.system.unknown r (λ c i. i) e
row_says s t a (q ∷ rows) r o e =
    equation_says s t a q rows (present s.system.unknown q) r o.0 (λ c i. In-present c s.system.unknown q i) (Differ-filter _ s.system.unknown r.differ) e

pub stage_says : (s t : State) (a : Taken) → IsReady s.system → stage limits s ≡ goes t a → Says s t a.answer
unfolding stage
stage_says s t a r e = ⊎_elim
    (λ p. row_says s t a s.system.equations r r.formed.zero p)
    (λ p. clean_says s t a p) (one_of s.is_past_clean (row_stage limits s s.system.equations) (clean_stage limits s) t a e)
