-- A choose meets nothing above its reach.
use Rattle.std.proofs.Common.{◌≡◌, ℕ, ◌+◌, ◌-◌, ◌*◌, ◌^◌, ◌<◌, ◌≤◌, ℤ, List, [], ◌∷◌, inl, inr, map, true, refl, sym, subst, arith, max, length}
use Rattle.std.specs.Prelude.{nat_lt, Option, Some, None}
use Rattle.cf_linear.specs.declared.refusal.Refusal.{Refusal}
use Rattle.std.specs.List.{fold, range_with_len}
use Rattle.std.proofs.lemmas.Nat.{pow_pos}
use Rattle.cf_tree.specs.declared.base.Base.{Base}
use Rattle.cf_tree.specs.CodeTree.{arms_of}
use Rattle.cf_tree.specs.Meaning.{Path, arm_path, arms_path}
use Rattle.cf_tree.specs.RelTree.{RelTree}
use Rattle.cf_tree.specs.Values.{Value, number, truth, elements, HaveBases}
use Rattle.cf_linear.specs.Cases.{negation_normal, Signed, disjuncts, no_rows, case_rows, system_of_case, first_systems, case_count, written_passes}
use Rattle.cf_linear.specs.Chooses.{arm_of_case, arms, choose_limits, refusal_of, or_else, first_refused, refusal_by, limit, last_factor, product_of_all, growth_of_case, growth}
use Rattle.cf_linear.specs.Keep.{In, Formed, Differ}
use Rattle.cf_linear.specs.Layout.{Layout, layout_of, has_level, place, set_count, number_column, region_column, known_count, first_free}
use Rattle.cf_linear.specs.Systems.{System}
use Rattle.cf_linear.specs.Stages.{End, solved, refused, run, limits, Trace, first_state}
use Rattle.cf_linear.specs.Steps.{greatest_of}
use Rattle.cf_linear.proofs.BoolLemmas.{on_bool}
use Rattle.cf_elim.proofs.EndLaws.{run_is_trace}
use Rattle.cf_cases.specs.Holding.{EachOf, IsPlacedRel}
use Rattle.cf_cases.proofs.AgreeLaws.{first_systems-formed}
use Rattle.cf_cases.proofs.FormedLaws.{In-range, range-In, case-next}
use Rattle.cf_cases.proofs.PlacedLaws.{placed-rel}
use Rattle.cf_choose.proofs.ChooseLevels.{output_column}
use Rattle.cf_cases.proofs.FirstSystemLaws.{range_differs}
use Rattle.cf_growth.specs.Reaching.{parameters_size, IsNearElement, IsNear, AreNear, ArmsWithinReach}
use Rattle.cf_growth.specs.Tracing.{all_of}
use Rattle.cf_growth.proofs.EndLaws.{trace_done, cases_grow}
use Rattle.cf_growth.proofs.LetLaws.{greatest-first}
use Rattle.cf_growth.proofs.NormLaws.{times_le}
use Rattle.cf_growth.proofs.OwesLaws.{trace_owes}
use Rattle.cf_growth.proofs.TraceGrowth.{first_stands}
use Rattle.cf_growth.proofs.ReachLaws.{IsFinePath, then_fine, none_fine, solve_fine}
use Rattle.cf_growth.proofs.SetGrowth.{set_arm_met}

-- ---- a greater limit
element_more : (n p : ℕ) → n ≤ p → (l : Layout) (env : List Value) (y : ℤ) → IsNearElement n l env y → IsNearElement p l env y
element_more n p h l env y (inl k) = inl (omega arith)
element_more n p h l env y (inr k) = inr k

near_more : (n p : ℕ) → n ≤ p → (l : Layout) (env : List Value) (v : Value) → IsNear n l env v → IsNear p l env v
near_more n p h l env (number z) k = omega arith
near_more n p h l env (truth b) k = tt
near_more n p h l env (elements zs) k = let s = k.0 in (omega arith, λ y i. element_more n p h l env y (k.1 y i))

all_more : (n p : ℕ) → n ≤ p → (l : Layout) (env vs : List Value) → AreNear n l env vs → AreNear p l env vs
all_more n p h l env [] k = tt
all_more n p h l env (v ∷ vs) k = (near_more n p h l env v k.0, all_more n p h l env vs k.1)

abbrev IsNearPath : ℕ → Layout → List Value → Path (Option (List Value)) → Type 0
IsNearPath n l env p = IsFinePath n (AreNear n l env) p

path_more : (n m : ℕ) → n ≤ m → (l : Layout) (env : List Value) (p : Path (Option (List Value))) → IsNearPath n l env p → IsNearPath m l env p
path_more n m h l env p k = let q = k.peak in record { peak = omega arith; gives = λ vs e. all_more n m h l env vs (k.gives vs e) }

-- the elimination of the system is not refused
abbrev IsEnded : System → Type 0
IsEnded m = (run limits m).end ≡ solved

-- the columns of the layout in a first system
pub record IsBegun (l : Layout) (m : System) : Type 0 where
  pub known : m.known ≡ range_with_len 0 (known_count l)
  pub unknown : (x : ℕ) → has_level l.out_numbers x ≡ true → In (number_column l x) m.unknown
  pub regions : (r : ℕ) → 1 ≤ r → r < 2 ^ set_count l → In (region_column l r) m.unknown
  pub later : (c : ℕ) → In c m.unknown → 1 ≤ c
  pub differ : Differ m.unknown

module _ (scope outputs : List Base) (rel : RelTree) where
  abbrev l : Layout
  l = layout_of scope outputs rel

  case_begun : (c : List Signed) → IsBegun l (system_of_case l c)
  unfolding system_of_case
  case_begun c =
      let n = (case_rows l c).next in
      let rise : first_free l ≤ n = case-next l c (no_rows l) in
      let s = pow_pos (set_count l) in
      let t = pow_pos (length l.inputs) in
      record {
        known = refl;
        unknown = λ x h. let c = output_column scope outputs rel x h in let p = c.1 in
            subst (λ d. In d (range_with_len (known_count l) (n - known_count l))) (sym c.0)
            (In-range (known_count l) (n - known_count l) (known_count l + place x l.out_numbers) (omega arith) (omega arith));
        regions = λ r x y. In-range (known_count l) (n - known_count l) (region_column l r) (omega arith) (omega arith);
        later = λ d i. let h = (range-In (known_count l) (n - known_count l) d i).0 in omega arith;
        differ = range_differs (known_count l) (n - known_count l);
      }

  -- ---- one case
  case_met : (m : System) → Formed m → IsBegun l m → (run limits m).end ≡ solved → (env : List Value) → HaveBases scope env →
      IsNearPath (growth_of_case limits l m * (1 + parameters_size l env)) l env (arm_path (arm_of_case limits l m) env)
  unfolding growth_of_case
  case_met m f b c env have =
      let k = 1 + parameters_size l env in
      let r = run limits m in
      let t : Trace limits (first_state m) r.taken solved =
      subst (λ x. Trace limits (first_state m) r.taken x) c (run_is_trace m (record { formed = f; differ = b.differ })) in
      let s = first_stands m f b.differ in
      let o = trace_owes (first_state m) r.taken solved t s in
      let d = trace_done limits (first_state m) r.taken solved t refl s in
      set_arm_met scope outputs rel m (all_of m r.taken) b.known b.unknown b.regions b.later o.0 o.1.comes d o.1.steps o.1.back env have
      (product_of_all (map (λ a. a.factor) r.taken) * last_factor l (all_of m r.taken) * k)
      (λ v w s h. cases_grow limits l m r.taken f b.differ t v k (omega arith) w s h)

  -- ---- all cases
  cases_met : (n : ℕ) (cs : List (List Signed)) → EachOf Formed (map (system_of_case l) cs) → EachOf IsEnded (map (system_of_case l) cs) →
      (env : List Value) → HaveBases scope env → (a : ℕ) → fold max a (map (growth_of_case limits l) (map (system_of_case l) cs)) ≤ n →
      IsNearPath (n * (1 + parameters_size l env)) l env (arms_path (arms_of (map (arm_of_case limits l) (map (system_of_case l) cs))) env)
  cases_met n [] f c env have a h = none_fine (n * (1 + parameters_size l env)) (AreNear (n * (1 + parameters_size l env)) l env)
  cases_met n (x ∷ cs) f c env have a h =
      let m = system_of_case l x in
      let g = growth_of_case limits l m in
      let k = 1 + parameters_size l env in
      let i = greatest-first (max a g) (map (growth_of_case limits l) (map (system_of_case l) cs)) in
      let p = case_met m f.0 (case_begun x) c.0 env have in
      let le : g ≤ n = omega arith in
      then_fine (n * k) (AreNear (n * k) l env) (arm_path (arm_of_case limits l m) env)
      (arms_path (arms_of (map (arm_of_case limits l) (map (system_of_case l) cs))) env)
      (path_more (g * k) (n * k) (times_le g n k le) l env (arm_path (arm_of_case limits l m) env) p) (cases_met n cs f.1 c.1 env have (max a g) h)

  -- ---- the choose
  all_met : IsPlacedRel l rel → EachOf IsEnded (first_systems l rel) → (env : List Value) → HaveBases scope env →
      IsNearPath (max 1 (greatest_of (map (growth_of_case limits l) (first_systems l rel))) * (1 + parameters_size l env)) l env
      (arms_path (arms_of (map (arm_of_case limits l) (first_systems l rel))) env)
  unfolding first_systems
  all_met placed solves env have =
      let cs = disjuncts (negation_normal true rel) in
      cases_met (max 1 (greatest_of (map (growth_of_case limits l) (map (system_of_case l) cs)))) cs (first_systems-formed rel l placed) solves env have 0
      (omega arith)

-- ---- no limit refuses it
none_left : (a b : Option Refusal) → or_else a b ≡ None → (a ≡ None) × (b ≡ None)
none_left None b e = (refl, e)
none_left (Some r) b e = cc

end_solved : (e : End) → refusal_of e ≡ None → e ≡ solved
end_solved solved h = refl
end_solved (refused r) h = cc

each_ends : (ms : List System) → first_refused limits ms ≡ None → EachOf IsEnded ms
unfolding first_refused
each_ends [] h = tt
each_ends (m ∷ ms) h = let p = none_left (refusal_of (run limits m).end) (first_refused limits ms) h in (end_solved (run limits m).end p.0, each_ends ms p.1)

eliminations_end : (l : Layout) (rel : RelTree) → refusal_by choose_limits l rel ≡ None → first_refused limits (first_systems l rel) ≡ None
unfolding refusal_by
eliminations_end l rel h = on_bool (nat_lt choose_limits.sets (set_count l))
    (λ t. let k = rw t at h in absurd (cc))
    (λ t. on_bool (nat_lt choose_limits.cases (case_count (negation_normal true rel)))
    (λ u. let k = rw (t, u) at h in absurd (cc))
    (λ u. on_bool (written_passes l (negation_normal true rel)) (λ w. let k = rw (t, u, w) at h in absurd (cc)) (λ w. rw (t, u, w) at h)))

pub arms_within_reach : ArmsWithinReach
unfolding arms growth limit
arms_within_reach id scope outputs rel typed linear free env have =
    let l = layout_of scope outputs rel in
    let n = growth scope outputs rel * (1 + parameters_size l env) in
    let h = solve_fine n (AreNear n l env) id (arms_of (arms scope outputs rel)) env
    (all_met scope outputs rel (placed-rel scope outputs rel typed linear) (each_ends (first_systems l rel) (eliminations_end l rel free)) env have) in
    record { met = h.0; picked = h.1 }
