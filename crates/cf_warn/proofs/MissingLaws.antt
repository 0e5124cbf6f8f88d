-- The question `none` has a solution at the values of the parameters exactly where no outputs solve the relation.
use Rattle.std.proofs.Common.{◌↔◌, ℕ, List, [], ◌++◌, length, map, replicate, refl, subst, append-nil}
use Rattle.std.proofs.lemmas.List.{length-map}
use Rattle.cf_tree.specs.declared.base.Base.{Base}
use Rattle.cf_tree.specs.declared.base.Base.TheVariants.{Int}
use Rattle.cf_tree.specs.Relation.{Holds, Sol}
use Rattle.cf_tree.specs.RelTree.{RelTree}
use Rattle.cf_tree.specs.Values.{Value, value_at, HaveBases}
use Rattle.cf_linear.specs.Cases.{first_systems}
use Rattle.cf_linear.specs.Layout.{Layout, layout_of, place}
use Rattle.cf_linear.specs.Rows.{Values}
use Rattle.cf_linear.specs.Systems.{Answer}
use Rattle.cf_venn.specs.Columns.{known_values}
use Rattle.cf_venn.proofs.LevelLaws.{have_append}
use Rattle.cf_choose.specs.Laws.{IsUnrefused}
use Rattle.cf_warn.specs.Missing.{Forms, first_forms, turns, lets_in, turns_say, traced, none_outputs, none}
use Rattle.cf_warn.specs.Questions.{parameters, parameter_bases}
use Rattle.cf_warn.proofs.CaseNeeds.{cases_kept, kept_traces, solutions_meet, none_meets, meets_none}
use Rattle.cf_warn.proofs.HalvesLaws.{each_halves}
use Rattle.cf_warn.proofs.MissingColumns.{first_agree}
use Rattle.cf_warn.proofs.MissingTurns.{TurnsAt, turn_values, turn_values_are, turns_fail, turns_stand, turns_hold, all_fail, traces_turn}
use Rattle.cf_warn.proofs.TwiceLaws.{Stand, stand_behind, have_sample}

module _ (scope outputs : List Base) (rel : RelTree) (u : IsUnrefused scope outputs rel) where
  abbrev l : Layout
  l = layout_of scope outputs rel

  abbrev params : List ℕ
  params = parameters scope rel

  abbrev forms : Forms
  forms = first_forms l (λ x. place x params)

  abbrev cases : List Answer
  cases = traced scope outputs rel

  module _ (env : List Value) (have : HaveBases scope env) where
    abbrev sample : List Value
    sample = map (value_at env) params

    abbrev known : Values
    known = known_values l env

    -- what the question says, in the words of the elimination
    none_holds : (lets : List Value) → Holds (none scope outputs rel) (sample ++ lets) ↔ TurnsAt known (sample ++ lets) (length params) (turns cases)
    none_holds lets =
        let q = sample ++ lets in
        let each = each_halves q (turns_say forms (length params) (turns cases)) in
        let hold = turns_hold known q forms (length params) (turns cases) (first_agree scope outputs rel env lets have) refl
        (traces_turn cases (kept_traces (first_systems l rel) (cases_kept scope outputs rel u))) in
        (λ h. hold.0 (each.0 h), λ h. each.1 (hold.1 h))

    -- where the question has a solution, no outputs exist
    pub none_unsolved : (lets : List Value) → Holds (none scope outputs rel) (sample ++ lets) → (xs : List Value) → Sol outputs rel env xs → ⊥
    none_unsolved lets h xs s =
        let at = (none_holds lets).0 h in
        let fails = (all_fail known cases).0 (turns_fail known (sample ++ lets) (length params) (turns cases) at) in
        meets_none known (first_systems l rel) fails ((solutions_meet scope outputs rel u env have).0 (xs, s))

    -- where no outputs exist, the question has a solution
    pub unsolved_none : ((xs : List Value) → Sol outputs rel env xs → ⊥) →
        (lets : List Value) × Sol (none_outputs scope outputs rel) (none scope outputs rel) [] (sample ++ lets)
    unsolved_none h =
        let ts = turns cases in
        let lets = turn_values known ts in
        let fails = (all_fail known cases).1
        (none_meets known (first_systems l rel) (λ s. let x = (solutions_meet scope outputs rel u env have).1 s in h x.0 x.1)) in
        let behind : Stand (sample ++ lets) (length params) lets =
        subst (λ vs. Stand (sample ++ vs) (length params) lets) (append-nil lets)
        (stand_behind sample lets [] (length params) (length-map params (value_at env))) in (
          lets,
          (
            have_append (parameter_bases scope rel) (replicate (lets_in ts) Int) sample lets (have_sample scope rel env have) (turn_values_are known ts),
            (none_holds lets).1 (turns_stand known (sample ++ lets) (length params) ts behind fails),
          ),
        )
