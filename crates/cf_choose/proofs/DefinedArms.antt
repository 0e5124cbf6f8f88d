-- The arms of the definition solve a relation that no limit refuses.
use Rattle.std.proofs.Common.{◌≡◌, ℕ, ◌+◌, ◌^◌, ◌<◌, ◌≤◌, ℤ, List, [], ◌∷◌, length, true, false, Option, Some, None, refl, sym, ◌∙◌, arith}
use Rattle.cf_tree.specs.declared.base.Base.{Base}
use Rattle.cf_tree.specs.CodeTree.{arms_of, arms_depth}
use Rattle.cf_tree.specs.RelTree.{RelTree}
use Rattle.cf_tree.specs.Solving.{Solves}
use Rattle.cf_tree.specs.Spelled.{AreArmsSpelled}
use Rattle.cf_tree.specs.Typing.{ArmsHave}
use Rattle.cf_linear.specs.declared.refusal.TheConstants.{MOST_SETS}
use Rattle.cf_linear.specs.declared.refusal.Refusal.{Refusal}
use Rattle.cf_linear.specs.Cases.{negation_normal, first_systems, written_passes}
use Rattle.cf_linear.specs.Chooses.{arms, limit, refusal_of, or_else, first_refused}
use Rattle.cf_linear.specs.Layout.{Layout, layout_of, set_count}
use Rattle.cf_linear.specs.Rows.{Row}
use Rattle.cf_linear.specs.Stages.{End, solved, refused, run, limits}
use Rattle.cf_linear.specs.Systems.{System, Step, floor_of, need_nonneg, need_zero, need_divides, How, row_how, greatest, least}
use Rattle.cf_linear.proofs.BoolLemmas.{on_bool}
use Rattle.cf_cases.specs.Holding.{EachOf}
use Rattle.cf_cases.proofs.PlacedLaws.{placed-rel}
use Rattle.cf_elim.specs.Returning.{PairsDivide, HowDivides, BackDivides, StepsDivide}
use Rattle.cf_elim.specs.Stages.{IsReady}
use Rattle.cf_elim.proofs.RunCounts.{run_few}
use Rattle.cf_elim.proofs.RunSmall.{run_small}
use Rattle.cf_elim.proofs.SolvedRuns.{run_solved}
use Rattle.cf_elim.proofs.StageSmall.{PairsSmall, HowSmall, BackSmall, StepsSmall, RowsSmall}
use Rattle.cf_choose.specs.CaseArms.{PairsWritten, HowWritten, BackWritten, StepsWritten, HasFewLevels}
use Rattle.cf_choose.specs.Eliminations.{made, case_refusal, later_refusal}
use Rattle.cf_choose.specs.Laws.{IsUnrefused, HasLevels}
use Rattle.cf_choose.specs.Solved.{HasArms}
use Rattle.cf_choose.proofs.CaseLemmas.{IsArmed, armed_solve, armed_typed, armed_shallow, armed_spelled, few_sets, refused_by_count, refused_later}
use Rattle.cf_choose.proofs.ChooseLevels.{are_outputs}
use Rattle.cf_choose.proofs.FirstRows.{firsts_small}
use Rattle.cf_cases.proofs.FirstSystemLaws.{IsBegun, first_systems_begun, pow_small}

-- ---- what has a spelling
pairs_written : (bs : List (Row × ℤ)) → PairsSmall bs → PairsDivide bs → PairsWritten bs
pairs_written [] s d = tt
pairs_written ((r, k) ∷ bs) s d = (s.0, (d.0, s.1), pairs_written bs s.2 d.1)

how_written : (w : How) → HowSmall w → HowDivides w → HowWritten w
how_written (row_how r) s d = s
how_written (greatest bs) s d = pairs_written bs s d
how_written (least bs) s d = pairs_written bs s d

pub back_written : (ws : List (ℕ × How)) → BackSmall ws → BackDivides ws → BackWritten ws
back_written [] s d = tt
back_written ((x, w) ∷ ws) s d = (how_written w s.0 d.0, back_written ws s.1 d.1)

pub steps_written : (ms : List Step) → StepsSmall ms → StepsDivide ms → StepsWritten ms
steps_written [] s d = tt
steps_written (floor_of c r g ∷ ms) s d = ((s.0.0, (d.0, s.0.1)), steps_written ms s.1 d.1)
steps_written (need_nonneg r ∷ ms) s d = (s.0, steps_written ms s.1 d.1)
steps_written (need_zero r ∷ ms) s d = (s.0, steps_written ms s.1 d.1)
steps_written (need_divides g r ∷ ms) s d = ((s.0.0, (d.0, s.0.1)), steps_written ms s.1 d.1)

-- ---- a case
case_armed : (m : System) → IsReady m → RowsSmall m → (run limits m).end ≡ solved → IsArmed m
case_armed m r h e =
    let s = run_solved m r e in
    let k = run_small m r h in
    record {
      eliminated = record {
        solved = s.solves;
        owes = s.owes;
        comes = s.returns.comes;
        done = s.done;
        steps = s.returns.steps;
        back = s.returns.back;
        bounds = s.bounds;
      };
      writable = record {
        steps = steps_written (made m).steps k.steps s.returns.steps;
        back = back_written (made m).back k.back s.returns.back;
        bounds = s.bounds;
      };
    }

cases_armed : (ms : List System) → EachOf IsBegun ms → EachOf RowsSmall ms → EachOf (λ m. (run limits m).end ≡ solved) ms → EachOf IsArmed ms
cases_armed [] b h e = tt
cases_armed (m ∷ ms) b h e = (case_armed m (record { formed = b.0.0; differ = b.0.1 }) h.0 e.0, cases_armed ms b.1 h.1 e.1)

case_few : (l : Layout) (m : System) → l.scope < 2 ^ 31 → length l.inputs ≤ 6 → IsReady m → (run limits m).end ≡ solved → HasFewLevels l (made m)
case_few l m levels few r e =
    let n : length (made m).bounds + length (made m).steps + length (made m).back < 2 ^ 26 = run_few m r e in
    let p = pow_small (length l.inputs) few in
    omega arith

cases_few : (l : Layout) → l.scope < 2 ^ 31 → length l.inputs ≤ 6 → (ms : List System) → EachOf IsBegun ms → EachOf (λ m. (run limits m).end ≡ solved) ms →
    EachOf (λ m. HasFewLevels l (made m)) ms
cases_few l levels few [] b e = tt
cases_few l levels few (m ∷ ms) b e = (case_few l m levels few (record { formed = b.0.0; differ = b.0.1 }) e.0, cases_few l levels few ms b.1 e.1)

-- ---- no refusal
end_solved : (e : End) (o : Option Refusal) → or_else (refusal_of e) o ≡ None → (e ≡ solved) × (o ≡ None)
end_solved solved o h = (refl, h)
end_solved (refused r) o h = cc

ends_solved : (ms : List System) → first_refused limits ms ≡ None → EachOf (λ m. (run limits m).end ≡ solved) ms
unfolding first_refused
ends_solved [] h = tt
ends_solved (m ∷ ms) h = let e = end_solved (run limits m).end (first_refused limits ms) h in (e.0, ends_solved ms e.1)

-- what a limit of none says of the counts, of the written rows, and of the eliminations
record NoneRefused (l : Layout) (rel : RelTree) : Type 0 where
  counts : case_refusal l rel ≡ None
  written : written_passes l (negation_normal true rel) ≡ false
  ends : first_refused limits (first_systems l rel) ≡ None

later_none : (l : Layout) (rel : RelTree) → case_refusal l rel ≡ None → later_refusal l rel ≡ None → NoneRefused l rel
later_none l rel c e = on_bool (written_passes l (negation_normal true rel))
    (λ t. let k = rw t at e in absurd (cc))
    (λ t. record { counts = c; written = t; ends = rw t at e })

none_refused : (scope outputs : List Base) (rel : RelTree) → limit scope outputs rel ≡ None → NoneRefused (layout_of scope outputs rel) rel
none_refused scope outputs rel e = by (case_refusal (layout_of scope outputs rel) rel) refl
  where
    by : (o : Option Refusal) → case_refusal (layout_of scope outputs rel) rel ≡ o → NoneRefused (layout_of scope outputs rel) rel
    by (Some r) c = let k : Some r ≡ None = sym (refused_by_count scope outputs rel (layout_of scope outputs rel) r refl c) ∙ e in absurd (cc)
    by None c = later_none (layout_of scope outputs rel) rel c (sym (refused_later scope outputs rel (layout_of scope outputs rel) refl c) ∙ e)

-- ---- the arms
module _ (scope outputs : List Base) (rel : RelTree) (u : IsUnrefused scope outputs rel) where
  abbrev l : Layout
  l = layout_of scope outputs rel

  none : NoneRefused l rel
  none = none_refused scope outputs rel u.within

  sets : set_count l ≤ MOST_SETS
  sets = few_sets l rel none.counts

  begun : EachOf IsBegun (first_systems l rel)
  begun = first_systems_begun l rel (placed-rel scope outputs rel u.typed u.linear)

  ends : EachOf (λ m. (run limits m).end ≡ solved) (first_systems l rel)
  ends = ends_solved (first_systems l rel) none.ends

  armed : EachOf IsArmed (first_systems l rel)
  armed = cases_armed (first_systems l rel) begun (firsts_small l rel (placed-rel scope outputs rel u.typed u.linear) none.written) ends

  pub unrefused_solve : HasArms (arms_of (arms scope outputs rel)) × Solves scope outputs rel (arms_of (arms scope outputs rel))
  unfolding arms
  unrefused_solve = armed_solve scope outputs rel (are_outputs outputs u.are_outputs) sets u.typed u.linear armed

  pub unrefused_typed : ArmsHave (arms_of (arms scope outputs rel)) scope outputs
  unfolding arms
  unrefused_typed = armed_typed scope outputs rel (are_outputs outputs u.are_outputs) sets u.typed u.linear armed

  pub unrefused_shallow : arms_depth (arms_of (arms scope outputs rel)) ≤ 16
  unfolding arms
  unrefused_shallow = armed_shallow scope outputs rel (are_outputs outputs u.are_outputs) sets u.typed u.linear armed

  pub unrefused_spelled : HasLevels scope → 1 ≤ length outputs → AreArmsSpelled (arms_of (arms scope outputs rel))
  unfolding arms
  unrefused_spelled levels some =
      let few = sets in
      let short : l.scope < 2 ^ 31 = levels in
      armed_spelled scope outputs rel (are_outputs outputs u.are_outputs) sets u.typed u.linear armed
      (cases_few l short (omega arith) (first_systems l rel) begun ends) some
