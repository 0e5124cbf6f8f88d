-- What a verdict says by meaning, and what is found of a question.
use Rattle.std.proofs.Common.{◌≡◌, ◌++◌, List, [], ℕ, All, length, drop, take-append-drop, sym, ap, subst, ◌∙◌, arith}
use Rattle.std.proofs.lemmas.List.{length-map, length-take, map-append}
use Rattle.std.specs.Prelude.{Result, Ok, Err, IfOk}
use Rattle.cf_tree.specs.declared.base.Base.{Base}
use Rattle.cf_tree.specs.declared.memory.NoMemory.{NoMemory}
use Rattle.cf_tree.specs.RelTree.{RelTree}
use Rattle.cf_tree.specs.Relation.{IsTyped, Sol}
use Rattle.cf_choose.specs.Laws.{IsUnrefused}
use Rattle.cf_choose.specs.Solved.{IsOutput}
use Rattle.cf_eval.specs.declared.value.Value.{Value as RunValue}
use Rattle.cf_eval.specs.Seen.{plain, plains}
use Rattle.cf_read.specs.Reading.{NeverHolds}
use Rattle.cf_warn.specs.Answering.{IsCut, IsMissingOf, IsTwoOf}
use Rattle.cf_warn.specs.Missing.{none, none_outputs}
use Rattle.cf_warn.specs.Questions.{parameters, twice, twice_outputs}
use Rattle.cf_warn.specs.Solutions.{AreAlways, AreUnique}
use Rattle.cf_warn.specs.Verdicts.{IsExistence, IsUniqueness}
use Rattle.cf_warn.specs.declared.answer.ExistenceAnswer.{ExistenceAnswer}
use Rattle.cf_warn.specs.declared.answer.ExistenceAnswer.TheVariants as existence
use Rattle.cf_warn.specs.declared.answer.UniquenessAnswer.{UniquenessAnswer}
use Rattle.cf_warn.specs.declared.answer.UniquenessAnswer.TheVariants as uniqueness
use Rattle.cf_warn.proofs.ExistenceLaws.{sample_fits}
use Rattle.cf_warn.proofs.SolutionLaws.{always, missing, unique, two_values}
use Rattle.cf_decide.specs.Answers.{SaysExistence, SaysUniqueness}

-- ---- verdicts
pub existence_says : (scope outputs : List Base) (rel : RelTree) (e : ExistenceAnswer) → IsExistence scope outputs rel e → SaysExistence scope outputs rel e
existence_says scope outputs rel existence.Always h = h.1
existence_says scope outputs rel (existence.Missing sample) h = h.2
existence_says scope outputs rel (existence.Undecided d) h = tt

pub uniqueness_says : (scope outputs : List Base) (shown : ℕ) (rel : RelTree) (u : UniquenessAnswer) → IsUniqueness scope outputs shown rel u →
    SaysUniqueness scope outputs shown rel u
uniqueness_says scope outputs shown rel uniqueness.Unique h = h.1
uniqueness_says scope outputs shown rel (uniqueness.Two sample first second) h = h.2
uniqueness_says scope outputs shown rel (uniqueness.Undecided d) h = tt

-- ---- the question `none`
module _ (scope outputs : List Base) (rel : RelTree) (u : IsUnrefused scope outputs rel) where
  pub never_missing : NeverHolds [] (none_outputs scope outputs rel) (none scope outputs rel) → AreAlways scope outputs rel
  never_missing n = always scope outputs rel u (λ vs s. n.never [] vs tt s.0 s.1)

  -- what the first values of a solution say
  pub missing_says : (n : ℕ) (vs : List RunValue) (r : Result ExistenceAnswer NoMemory) → n ≡ length (parameters scope rel) →
      Sol (none_outputs scope outputs rel) (none scope outputs rel) [] (plains vs) → IfOk r (IsMissingOf n vs) → IfOk r (SaysExistence scope outputs rel)
  missing_says n vs (Err e) same s t = tt
  missing_says n vs (Ok existence.Always) same s t = absurd t
  missing_says n vs (Ok (existence.Missing sample)) same s t =
      let lets = drop n vs in
      let cut : plains vs ≡ plains sample.items ++ plains lets =
      ap plains (sym (take-append-drop n vs) ∙ ap (λ ws. ws ++ lets) (sym t)) ∙ map-append plain sample.items lets in
      let long = length-map sample.items plain in
      let size = ap (λ ws. length ws) t in
      let first = length-take n vs in
      let fits = sample_fits scope outputs rel u n vs same s in
      missing scope outputs rel u (plains sample.items) (plains lets) (omega arith)
      (subst (Sol (none_outputs scope outputs rel) (none scope outputs rel) []) cut s)
  missing_says n vs (Ok (existence.Undecided d)) same s t = absurd t

-- ---- the question `twice`
plains_cut : (n k : ℕ) (vs sample first second : List RunValue) → IsCut n k vs sample first second →
    plains vs ≡ plains sample ++ (plains first ++ plains second)
plains_cut n k vs sample first second c =
    ap plains c.whole ∙ map-append plain sample (first ++ second) ∙ ap (λ ws. plains sample ++ ws) (map-append plain first second)

module _ (scope outputs : List Base) (shown : ℕ) (rel : RelTree) (typed : IsTyped (scope ++ outputs) rel) (are_outputs : All IsOutput outputs) where
  pub never_two : NeverHolds [] (twice_outputs scope outputs rel) (twice scope outputs shown rel) → AreUnique scope outputs shown rel
  never_two n = unique scope outputs shown rel typed are_outputs (λ vs s. n.never [] vs tt s.0 s.1)

  -- what the parts of a solution say
  pub two_says : (n k : ℕ) (vs : List RunValue) (r : Result UniquenessAnswer NoMemory) → n ≡ length (parameters scope rel) → k ≡ length outputs →
      Sol (twice_outputs scope outputs rel) (twice scope outputs shown rel) [] (plains vs) → IfOk r (IsTwoOf n k vs) →
      IfOk r (SaysUniqueness scope outputs shown rel)
  two_says n k vs (Err e) same long s t = tt
  two_says n k vs (Ok uniqueness.Unique) same long s t = absurd t
  two_says n k vs (Ok (uniqueness.Two sample first second)) same long s t =
      let a = length-map sample.items plain in
      let b = length-map first.items plain in
      let i = t.samples in
      let j = t.outputs in
      two_values scope outputs shown rel typed are_outputs (plains sample.items) (plains first.items) (plains second.items) (omega arith) (omega arith)
      (subst (Sol (twice_outputs scope outputs rel) (twice scope outputs shown rel) []) (plains_cut n k vs sample.items first.items second.items t) s)
  two_says n k vs (Ok (uniqueness.Undecided d)) same long s t = absurd t
