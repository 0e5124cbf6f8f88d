-- A relation that no limit refuses has solutions exactly where the needs of some case hold at some tuple.
use Rattle.std.proofs.Common.{inl, inr, ◌≡◌, ◌≤◌, ◌↔◌, ℤ, pos, true, false, List, [], ◌∷◌, map, Option, Some, None, refl, ◌∙◌, sym, arith}
use Rattle.cf_tree.specs.declared.base.Base.{Base}
use Rattle.cf_tree.specs.Relation.{Sol}
use Rattle.cf_tree.specs.Typing.{AreBounds}
use Rattle.cf_tree.specs.RelTree.{RelTree}
use Rattle.cf_tree.specs.Values.{Value, HaveBases}
use Rattle.cf_linear.specs.declared.refusal.Refusal.{Refusal}
use Rattle.cf_linear.specs.Cases.{negation_normal, first_systems, written_passes}
use Rattle.cf_linear.specs.Chooses.{limit, refusal_of, or_else, first_refused}
use Rattle.cf_linear.specs.declared.refusal.TheConstants.{MOST_SETS}
use Rattle.cf_linear.specs.Layout.{Layout, layout_of, set_count}
use Rattle.cf_linear.specs.Rows.{Values}
use Rattle.cf_linear.specs.Solved.{let_columns, search_columns, InBounds, NeedsHold, set_tuple, after, SolvedBy, SameKnown}
use Rattle.cf_linear.specs.Keep.{after_back}
use Rattle.cf_linear.specs.Stages.{End, solved, refused, run, limits}
use Rattle.cf_linear.specs.Systems.{System, Sat}
use Rattle.cf_cases.specs.Holding.{EachOf, SomeOf}
use Rattle.cf_linear.proofs.BoolLemmas.{on_bool}
use Rattle.cf_cases.proofs.PlacedLaws.{placed-rel}
use Rattle.cf_elim.specs.Stages.{IsReady}
use Rattle.cf_elim.proofs.RunSmall.{run_small}
use Rattle.cf_elim.proofs.SolvedRuns.{run_solved}
use Rattle.cf_elim.proofs.StageSmall.{StepsSmall, RowsSmall}
use Rattle.cf_venn.specs.Columns.{known_values, outputs_from}
use Rattle.cf_venn.proofs.SolvingLaws.{solved_by_counts}
use Rattle.cf_choose.specs.Eliminations.{made, case_refusal, later_refusal}
use Rattle.cf_choose.specs.Laws.{IsUnrefused}
use Rattle.cf_choose.proofs.CaseLemmas.{few_sets, refused_by_count, refused_later}
use Rattle.cf_choose.proofs.ChooseLevels.{are_outputs}
use Rattle.cf_choose.proofs.FirstRows.{firsts_small}
use Rattle.cf_cases.proofs.FirstSystemLaws.{IsBegun, first_systems_begun}
use Rattle.cf_warn.specs.Missing.{bounds_of}
use Rattle.cf_warn.proofs.MissingTurns.{IsTrace, FailsAlways, rising_later}

-- the needs of the case hold at some tuple
abbrev pub MeetsAt : Values → System → Type 0
MeetsAt v m = (ks : List ℤ) × InBounds (made m).bounds ks × NeedsHold (set_tuple v (made m).bounds ks) (made m).steps

-- what the elimination of a case keeps
pub record IsKept (m : System) : Type 0 where
  pub solves : SolvedBy m (made m)
  pub trace : IsTrace (made m)
  pub small : StepsSmall (made m).steps
  pub bounds : AreBounds (bounds_of (made m))

kept : (m : System) → IsReady m → RowsSmall m → (run limits m).end ≡ solved → IsKept m
kept m r h e =
    let s = run_solved m r e in
    let first = s.owes.columns.below 0 s.owes.columns.constant in
    record {
      solves = s.solves;
      trace = record {
        divide = s.returns.steps;
        lets = rising_later m.next (made m).system.next (let_columns (made m).steps) (omega arith) s.owes.columns.lets_rise;
        searches = rising_later m.next (made m).system.next (search_columns (made m).bounds) (omega arith) s.owes.columns.bounds_rise;
      };
      small = (run_small m r h).steps;
      bounds = s.bounds;
    }

all_kept : (ms : List System) → EachOf IsBegun ms → EachOf RowsSmall ms → EachOf (λ m. (run limits m).end ≡ solved) ms → EachOf IsKept ms
all_kept [] b h e = tt
all_kept (m ∷ ms) b h e = (kept m (record { formed = b.0.0; differ = b.0.1 }) h.0 e.0, all_kept ms b.1 h.1 e.1)

pub kept_traces : (ms : List System) → EachOf IsKept ms → EachOf IsTrace (map made ms)
kept_traces [] k = tt
kept_traces (m ∷ ms) k = (k.0.trace, kept_traces ms k.1)

module _ (v : Values) (one : v 0 ≡ pos 1) (P : Values → Type 0) where
  some_meets : (ms : List System) → EachOf IsKept ms → SomeOf (λ m. (w : Values) × SameKnown m v w × Sat m w) ms → SomeOf (MeetsAt v) ms
  some_meets [] s h = h
  some_meets (m ∷ ms) s h = elim h [
    | inl k ↦ inl (s.0.solves.meets v one k.0 k.1 k.2)
    | inr k ↦ inr (some_meets ms s.1 k)
  ]

  some_found : (ms : List System) → EachOf IsKept ms → EachOf (λ m. (w : Values) → SameKnown m v w → Sat m w → P w) ms → SomeOf (MeetsAt v) ms →
      (w : Values) × P w
  some_found [] s e h = absurd h
  some_found (m ∷ ms) s e h = elim h [
    | inl k ↦
        let f = s.0.solves.found v one k.0 k.1 k.2 in
        (after_back (after (made m) v k.0) (made m).back, e.0 (after_back (after (made m) v k.0) (made m).back) f.0 f.1)
    | inr k ↦ some_found ms s.1 e.1 k
  ]

-- no case has a tuple at which its needs hold
pub none_meets : (v : Values) (ms : List System) → (SomeOf (MeetsAt v) ms → ⊥) → EachOf (FailsAlways v) (map made ms)
none_meets v [] h = tt
none_meets v (m ∷ ms) h = (λ ks within needs. h (inl (ks, within, needs)), none_meets v ms (λ s. h (inr s)))

pub meets_none : (v : Values) (ms : List System) → EachOf (FailsAlways v) (map made ms) → SomeOf (MeetsAt v) ms → ⊥
meets_none v [] f h = h
meets_none v (m ∷ ms) f h = elim h [
  | inl k ↦ f.0 k.0 k.1 k.2
  | inr k ↦ meets_none v ms f.1 k
]

-- ---- no refusal
end_solved : (e : End) (o : Option Refusal) → or_else (refusal_of e) o ≡ None → (e ≡ solved) × (o ≡ None)
end_solved solved o h = (refl, h)
end_solved (refused r) o h = cc

ends_solved : (ms : List System) → first_refused limits ms ≡ None → EachOf (λ m. (run limits m).end ≡ solved) ms
unfolding first_refused
ends_solved [] h = tt
ends_solved (m ∷ ms) h = let e = end_solved (run limits m).end (first_refused limits ms) h in (e.0, ends_solved ms e.1)

record NoneRefused (l : Layout) (rel : RelTree) : Type 0 where
  counts : case_refusal l rel ≡ None
  written : written_passes l (negation_normal true rel) ≡ false
  ends : first_refused limits (first_systems l rel) ≡ None

later_none : (l : Layout) (rel : RelTree) → case_refusal l rel ≡ None → later_refusal l rel ≡ None → NoneRefused l rel
later_none l rel c e = on_bool (written_passes l (negation_normal true rel))
    (λ t. let k = rw t at e in absurd (cc))
    (λ t. record { counts = c; written = t; ends = rw t at e })

none_refused : (scope outputs : List Base) (rel : RelTree) → limit scope outputs rel ≡ None → NoneRefused (layout_of scope outputs rel) rel
none_refused scope outputs rel e = by (case_refusal (layout_of scope outputs rel) rel) refl
  where
    by : (o : Option Refusal) → case_refusal (layout_of scope outputs rel) rel ≡ o → NoneRefused (layout_of scope outputs rel) rel
    by (Some r) c = let k : Some r ≡ None = sym (refused_by_count scope outputs rel (layout_of scope outputs rel) r refl c) ∙ e in absurd (cc)
    by None c = later_none (layout_of scope outputs rel) rel c (sym (refused_later scope outputs rel (layout_of scope outputs rel) refl c) ∙ e)

module _ (scope outputs : List Base) (rel : RelTree) (u : IsUnrefused scope outputs rel) where
  pub sets_few : set_count (layout_of scope outputs rel) ≤ MOST_SETS
  sets_few = few_sets (layout_of scope outputs rel) rel (none_refused scope outputs rel u.within).counts

  pub cases_kept : EachOf IsKept (first_systems (layout_of scope outputs rel) rel)
  cases_kept =
      let l = layout_of scope outputs rel in
      let placed = placed-rel scope outputs rel u.typed u.linear in
      let none = none_refused scope outputs rel u.within in
      all_kept (first_systems l rel) (first_systems_begun l rel placed) (firsts_small l rel placed none.written) (ends_solved (first_systems l rel) none.ends)

  pub solutions_meet : (env : List Value) → HaveBases scope env →
      ((xs : List Value) × Sol outputs rel env xs) ↔ SomeOf (MeetsAt (known_values (layout_of scope outputs rel) env))
      (first_systems (layout_of scope outputs rel) rel)
  solutions_meet env have =
      let l = layout_of scope outputs rel in
      let v = known_values l env in
      let c = solved_by_counts scope outputs rel u.typed u.linear (are_outputs outputs u.are_outputs) env have in (
        λ h. some_meets v refl (λ w. Sol outputs rel env (outputs_from l env w)) (first_systems l rel) cases_kept (c.0 h),
        λ h. let f = some_found v refl (λ w. Sol outputs rel env (outputs_from l env w)) (first_systems l rel) cases_kept c.1 h in
            (outputs_from l env f.0, f.1),
      )
