-- What an answer of the question `none` says of the choose.
use Rattle.std.proofs.Common.{inl, All, ◌≡◌, ℕ, ◌<◌, ◌≤◌, List, [], ◌++◌, length, drop, take-append-drop, replicate, subst, sym, ap, ◌∙◌, arith}
use Rattle.std.proofs.lemmas.List.{length-append, length-map, length-take, map-append}
use Rattle.std.specs.Prelude.{Result, Ok, Err, IfOk}
use Rattle.cf_tree.specs.declared.memory.NoMemory.{NoMemory}
use Rattle.cf_venn.proofs.LevelLaws.{length_have}
use Rattle.cf_eval.specs.declared.value.Value.{Value as RunValue}
use Rattle.cf_eval.specs.Seen.{plain, plains}
use Rattle.cf_linear.specs.declared.refusal.LimitKind.TheVariants.{Search}
use Rattle.cf_linear.specs.declared.refusal.Refusal.TheVariants.{Limit}
use Rattle.cf_warn.specs.declared.answer.Doubt.{Doubt}
use Rattle.cf_warn.specs.declared.answer.Doubt.TheVariants.{Refused}
use Rattle.cf_warn.specs.declared.answer.ExistenceAnswer.{ExistenceAnswer}
use Rattle.cf_warn.specs.declared.answer.ExistenceAnswer.TheVariants.{Always, Missing, Undecided}
use Rattle.cf_warn.specs.declared.no_outputs.TheConstants.{MOST_TUPLES}
use Rattle.cf_warn.specs.Answering.{IsAsked, IsMissingOf}
use Rattle.cf_tree.specs.declared.base.Base.{Base}
use Rattle.cf_tree.specs.declared.base.Base.TheVariants.{Int}
use Rattle.cf_tree.specs.Meaning.{means}
use Rattle.cf_tree.specs.Relation.{Sol, IsTyped, IsLinear}
use Rattle.cf_choose.specs.Solved.{IsOutput}
use Rattle.cf_warn.specs.declared.ask.Asked.{Asked}
use Rattle.cf_tree.specs.RelTree.{RelTree}
use Rattle.cf_tree.specs.Values.{Value, values}
use Rattle.cf_choose.specs.Laws.{IsUnrefused}
use Rattle.cf_warn.specs.Missing.{turns, lets_in, traced, none_outputs, none, tuple_count}
use Rattle.cf_warn.specs.Questions.{parameters, base_at, parameter_bases}
use Rattle.cf_warn.specs.Solutions.{question_code}
use Rattle.cf_warn.proofs.MissingTypes.{none_typed, none_linear, none_are_outputs}
use Rattle.cf_warn.proofs.SolutionLaws.{always, missing}
use Rattle.cf_warn.specs.Verdicts.{IsClear, IsExistence}

module _ (scope outputs : List Base) (rel : RelTree) (u : IsUnrefused scope outputs rel) where
  abbrev bases : List Base
  bases = none_outputs scope outputs rel

  abbrev question : RelTree
  question = none scope outputs rel

  -- a solution of the question has at least the values of the sample
  pub sample_fits : (n : ℕ) (vs : List RunValue) → n ≡ length (parameters scope rel) → Sol bases question [] (plains vs) → n ≤ length vs
  sample_fits n vs e s =
      let a = length_have bases (plains vs) s.0 in
      let b = length-append (parameter_bases scope rel) (replicate (lets_in (turns (traced scope outputs rel))) Int) in
      let c = length-map (parameters scope rel) (base_at scope) in
      let d = length-map vs plain in
      omega arith

  -- what the first values of the run say
  pub missing_verdict : (n : ℕ) (vs : List RunValue) (r : Result ExistenceAnswer NoMemory) → n ≡ length (parameters scope rel) →
      tuple_count scope outputs rel ≤ MOST_TUPLES →
      IsClear bases question × (means (question_code bases question) [] ≡ values (plains vs)) × Sol bases question [] (plains vs) →
      IfOk r (IsMissingOf n vs) → IfOk r (IsExistence scope outputs rel)
  missing_verdict n vs (Err e) same few s t = tt
  missing_verdict n vs (Ok Always) same few s t = absurd t
  missing_verdict n vs (Ok (Missing sample)) same few s t =
      let lets = drop n vs in
      let cut : plains vs ≡ plains sample.items ++ plains lets =
      ap plains (sym (take-append-drop n vs) ∙ ap (λ ws. ws ++ lets) (sym t)) ∙ map-append plain sample.items lets in
      let long = length-map sample.items plain in
      let size = ap (λ ws. length ws) t in
      let first = length-take n vs in
      let fits = sample_fits n vs same s.2 in (
        record { few = few; clear = s.0 },
        (plains lets, s.1 ∙ ap (λ ws. values ws) cut),
        missing scope outputs rel u (plains sample.items) (plains lets) (omega arith) (subst (Sol bases question []) cut s.2),
      )
  missing_verdict n vs (Ok (Undecided d)) same few s t = absurd t

  pub always_verdict : tuple_count scope outputs rel ≤ MOST_TUPLES → IsClear bases question × ((vs : List Value) → Sol bases question [] vs → ⊥) →
      IsExistence scope outputs rel Always
  always_verdict few s = (record { few = few; clear = s.0 }, always scope outputs rel u s.1)

  -- ---- the question as it is written
  module _ (bs : List Base) (r : RelTree) (same_bases : bs ≡ none_outputs scope outputs rel) (same : r ≡ none scope outputs rel) where
    pub written_typed : IsTyped bs r
    written_typed = rw (same_bases, same) (none_typed scope outputs rel u)

    pub written_linear : IsLinear r
    written_linear = rw same (none_linear scope outputs rel u)

    pub written_outputs : All IsOutput bs
    written_outputs = rw same_bases (none_are_outputs scope outputs rel u)

    pub written_asked : (a : Result Asked NoMemory) → IfOk a (IsAsked bs r) → IfOk a (IsAsked (none_outputs scope outputs rel) (none scope outputs rel))
    written_asked a h = rw (same_bases, same) at h

-- ---- the number of tuples
pub many_undecided : (scope outputs : List Base) (rel : RelTree) (n : ℕ) (d : Doubt) → n ≡ tuple_count scope outputs rel → MOST_TUPLES < n →
    d ≡ Refused (Limit Search n) → IsExistence scope outputs rel (Undecided d)
many_undecided scope outputs rel n d e h r = inl (rw (← e) h, r ∙ ap (λ k. Refused (Limit Search k)) e)

pub few_tuples : (scope outputs : List Base) (rel : RelTree) (n : ℕ) → n ≡ tuple_count scope outputs rel → n ≤ MOST_TUPLES →
    tuple_count scope outputs rel ≤ MOST_TUPLES
few_tuples scope outputs rel n e h = rw (← e) h
