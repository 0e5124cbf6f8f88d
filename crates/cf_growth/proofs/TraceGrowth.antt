-- The factors of all steps together, and what is met in a case.
use Rattle.std.proofs.Common.{◌≡◌, ℕ, ◌≤◌, ◌*◌, List, [], ◌∷◌, sym, ◌∙◌, ap, arith, subst, ⊎_elim, max, map}
use Rattle.std.specs.List.{fold}
use Rattle.std.proofs.lemmas.Bool.{true≢false}
use Rattle.std.proofs.Math.Nat.{mul-le-mul, mul_assoc, mul_comm, mul-mul-mul_comm}
use Rattle.cf_linear.specs.Rows.{Values, norm}
use Rattle.cf_linear.specs.Systems.{System, Step, floor_of, need_nonneg, need_zero, need_divides, Answer}
use Rattle.cf_linear.specs.Keep.{In, Within, IsColumn, Formed, Differ}
use Rattle.cf_linear.specs.Layout.{Layout}
use Rattle.cf_linear.specs.Stages.{Limits, State, Taken, End, Trace, stop, more, solved, ends, first_state}
use Rattle.cf_linear.specs.Chooses.{need_norm, last_factor, product_of_all}
use Rattle.cf_growth.specs.Norms.{IsBounded}
use Rattle.cf_growth.specs.Growing.{IsKnown, LetsFit, NeedsWithin, StepsIn, Grows}
use Rattle.cf_growth.specs.Tracing.{Stands, all_of, TracesGrow, StaysWithin}
use Rattle.cf_growth.proofs.LetLaws.{greatest-first}
use Rattle.cf_growth.proofs.NormLaws.{le_refl, times_more, times_le, bounded_more, sums_bound}
use Rattle.cf_growth.proofs.StageGrowth.{stage_says}
use Rattle.cf_growth.proofs.ThenLaws.{grows_none, grows_then, some_times, lets_more, back_more}

-- ---- products
times_all : (a : ℕ) (ns : List ℕ) → fold (λ x y. x * y) a ns ≡ a * product_of_all ns
times_all a [] = omega arith
times_all a (n ∷ ns) =
    let one : 1 * n ≡ n = omega arith in
    times_all (a * n) ns ∙ mul_assoc a n (product_of_all ns) ∙ ap (λ y. a * y) (sym (times_all (1 * n) ns ∙ ap (λ y. y * product_of_all ns) one))

product_more : (n : ℕ) (ns : List ℕ) → product_of_all (n ∷ ns) ≡ n * product_of_all ns
product_more n ns = let one : 1 * n ≡ n = omega arith in times_all (1 * n) ns ∙ ap (λ y. y * product_of_all ns) one

-- ---- all steps
pub record Together (m : System) (taken : List Taken) : Type 0 where
  pub forth : ℕ
  pub back : ℕ
  pub grows : Grows m (all_of m taken) forth back
  pub within : forth * back ≤ product_of_all (map (λ a. a.factor) taken)

together_more : (m n : System) (a : Taken) (f g : ℕ) (taken : List Taken) → Grows m a.answer f g → f * g ≤ a.factor → a.answer.system ≡ n → Together n taken →
    Together m (a ∷ taken)
together_more m n a f g taken h l e k =
    let again = subst (λ (x : System). Together x taken) (sym e) k in
    record {
      forth = f * again.forth;
      back = g * again.back;
      grows = grows_then m a.answer (all_of a.answer.system taken) f g again.forth again.back h again.grows;
      within =
          let p = product_more a.factor (map (λ a. a.factor) taken) in
          let q = mul-mul-mul_comm f again.forth g again.back in
          let r = mul-le-mul l again.within in
          omega arith;
    }

pub trace_together : (l : Limits) (s : State) (taken : List Taken) (e : End) → Trace l s taken e → Stands s → Together s.system taken
trace_together l s [] e (stop p) h = record { forth = 1; back = 1; grows = grows_none s.system; within = omega arith }
trace_together l s (a ∷ taken) e (more {t = t} p k) h =
    let y = stage_says l s t a h p in
    together_more s.system t.system a y.forth y.back taken y.grows y.within y.next (trace_together l t taken e k y.stands)

pub first_stands : (m : System) → Formed m → Differ m.unknown → Stands (first_state m)
first_stands m f d = record { formed = f; differ = d; tight = λ c. absurd (true≢false (sym c)) }

pub traces_grow : TracesGrow
traces_grow l m taken f d t = let h = trace_together l (first_state m) taken solved t (first_stands m f d) in (h.forth, h.back, h.grows, h.within)

-- ---- needs
needs_met : (Q : ℕ → Type 0) (b n a last : ℕ) (v : Values) (ms : List Step) → 1 ≤ b → IsBounded Q b v → StepsIn Q ms → fold max a (map need_norm ms) ≤ last →
    b ≤ n → last * b ≤ n → NeedsWithin n v ms
needs_met Q b n a last v [] s h o l bn ln = tt
needs_met Q b n a last v (floor_of c r g ∷ ms) s h o l bn ln = needs_met Q b n (max a 0) last v ms s h o.2 l bn ln
needs_met Q b n a last v (need_nonneg r ∷ ms) s h o l bn ln =
    let i = greatest-first (max a (norm r)) (map need_norm ms) in
    let j = times_le (norm r) last b (omega arith) in
    (sums_bound Q b n v s h r o.0 bn (omega arith), needs_met Q b n (max a (norm r)) last v ms s h o.1 l bn ln)
needs_met Q b n a last v (need_zero r ∷ ms) s h o l bn ln =
    let i = greatest-first (max a (norm r)) (map need_norm ms) in
    let j = times_le (norm r) last b (omega arith) in
    (sums_bound Q b n v s h r o.0 bn (omega arith), needs_met Q b n (max a (norm r)) last v ms s h o.1 l bn ln)
needs_met Q b n a last v (need_divides g r ∷ ms) s h o l bn ln =
    let i = greatest-first (max a (norm r)) (map need_norm ms) in
    let j = times_le (norm r) last b (omega arith) in
    (sums_bound Q b n v s h r o.0 bn (omega arith), needs_met Q b n (max a (norm r)) last v ms s h o.1 l bn ln)

-- ---- a solved trace leaves no unknown
ends_parts : (s t : End) → ends s ≡ ends t → s ≡ t
ends_parts s t e = cc

-- ---- the case
module _ (levels : Layout) (m : System) (a : Answer) (f g p : ℕ) (h : Grows m a f g) (within : f * g ≤ p) (done : a.system.unknown ≡ []) where
  abbrev last : ℕ
  last = last_factor levels a

  abbrev most : ℕ → ℕ
  most k = p * last * k

  forth_within : (k : ℕ) → (f * k ≤ most k) × (last * (f * k) ≤ most k) × (g * (f * k) ≤ most k) × (last * (g * (f * k)) ≤ most k) × (k ≤ g * (f * k))
  forth_within k =
      let sf = h.forth_some in
      let sg = h.back_some in
      let sl : 1 ≤ last = omega arith in
      let x = times_more g f sg in
      let fg : g * f ≡ f * g = mul_comm g f in
      let fp : f ≤ p = omega arith in
      let c1 : p * last ≡ last * p = mul_comm p last in
      let pl = times_more last p sl in
      let a1 = times_le f (p * last) k (omega arith) in
      let b1 = mul-le-mul (le_refl last) fp in
      let b2 = times_le (last * f) (p * last) k (omega arith) in
      let b3 = mul_assoc last f k in
      let d2 = times_le (g * f) (p * last) k (omega arith) in
      let d3 = mul_assoc g f k in
      let e1 = times_le (g * f) p k (omega arith) in
      let e2 = mul-le-mul (le_refl last) e1 in
      let e3 = mul_assoc last p k in
      let e4 : (last * p) * k ≡ (p * last) * k = ap (λ y. y * k) (sym c1) in
      let e5 : last * (g * (f * k)) ≡ last * ((g * f) * k) = ap (λ y. last * y) (sym d3) in
      let k1 = times_more f k sf in
      let k2 = times_more g (f * k) sg in
      (a1, omega arith, omega arith, omega arith, omega arith)

  pub case_within : (v : Values) (k : ℕ) → 1 ≤ k → Within v a.bounds → LetsFit v a.steps → IsBounded (IsKnown m) k v → StaysWithin levels k (most k) m a v
  case_within v k s w l b =
      let known = h.known v k s w l b in
      let fw = forth_within k in
      let columns : IsBounded (IsColumn a.system) (f * k) v = λ c i. ⊎_elim (λ j. known c j) (λ j. absurd (subst (λ cs. In c cs) done j)) i in
      let sk = some_times f k h.forth_some s in
      record {
        known = bounded_more (IsKnown a.system) (f * k) (most k) v fw.0 known;
        lets = lets_more (f * k) (most k) fw.0 v a.steps (h.lets v k s w l b);
        needs = needs_met (IsKnown a.system) (f * k) (most k) 0 last v a.steps sk known h.over (omega arith) fw.0 fw.1;
        b = g * (f * k);
        some = fw.4;
        room = fw.3;
        stood = h.stood v k (f * k) s w l b (le_refl (f * k)) columns;
        back = back_more (g * (f * k)) (most k) fw.2 v a.back (h.back v k (f * k) s w l b (le_refl (f * k)) columns);
      }
