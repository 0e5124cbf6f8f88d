-- What an answer of the question `twice` says of the choose.
use Rattle.std.proofs.Common.{◌≡◌, ℕ, ◌+◌, ◌-◌, ◌^◌, ◌≤◌, List, [], ◌++◌, length, All, subst, ap, ◌∙◌, arith}
use Rattle.std.specs.Prelude.{Result, Ok, Err, IfOk}
use Rattle.std.proofs.lemmas.List.{length-append, length-map, map-append}
use Rattle.cf_tree.specs.declared.memory.NoMemory.{NoMemory}
use Rattle.cf_tree.specs.declared.base.Base.{Base}
use Rattle.cf_tree.specs.Meaning.{means, peak}
use Rattle.cf_tree.specs.Relation.{Sol, IsTyped}
use Rattle.cf_tree.specs.RelTree.{RelTree}
use Rattle.cf_tree.specs.Values.{Value, values, no_solution}
use Rattle.cf_tree.specs.CodeTree.{CodeTree}
use Rattle.cf_venn.proofs.LevelLaws.{length_have}
use Rattle.cf_choose.specs.Laws.{IsUnrefused}
use Rattle.cf_choose.specs.Solved.{IsOutput}
use Rattle.cf_eval.specs.declared.value.Value.{Value as RunValue}
use Rattle.cf_eval.specs.Seen.{plain, plains}
use Rattle.cf_warn.specs.Questions.{parameters, base_at, parameter_bases, twice_outputs, twice}
use Rattle.cf_warn.specs.Solutions.{question_code, AreTwo}
use Rattle.cf_warn.proofs.SolutionLaws.{question_solution, question_none, two_values}
use Rattle.cf_warn.specs.declared.answer.UniquenessAnswer.{UniquenessAnswer}
use Rattle.cf_warn.specs.declared.answer.UniquenessAnswer.TheVariants.{Unique, Two, Undecided}
use Rattle.cf_warn.specs.Verdicts.{IsClear, IsUniqueness}
use Rattle.cf_warn.specs.Answering.{IsCut, IsTwoOf}

-- ---- the run of a question
pub solution_asked : (outputs : List Base) (rel : RelTree) (code : CodeTree) (vs : List RunValue) → IsUnrefused [] outputs rel →
    code ≡ question_code outputs rel →
    means code [] ≡ values (plains vs) → peak code [] ≤ 2 ^ 127 - 1 →
    IsClear outputs rel × (means (question_code outputs rel) [] ≡ values (plains vs)) × Sol outputs rel [] (plains vs)
solution_asked outputs rel code vs u same m p =
    let e : means (question_code outputs rel) [] ≡ values (plains vs) = subst (λ c. means c [] ≡ values (plains vs)) same m in
    (record { within = u.within; fits = subst (λ c. peak c [] ≤ 2 ^ 127 - 1) same p }, e, question_solution outputs rel (plains vs) u e)

pub none_asked : (outputs : List Base) (rel : RelTree) (code : CodeTree) (n : ℕ) → IsUnrefused [] outputs rel → code ≡ question_code outputs rel →
    means code [] ≡ no_solution n → peak code [] ≤ 2 ^ 127 - 1 → IsClear outputs rel × ((vs : List Value) → Sol outputs rel [] vs → ⊥)
none_asked outputs rel code n u same m p = (
  record { within = u.within; fits = subst (λ c. peak c [] ≤ 2 ^ 127 - 1) same p },
  question_none outputs rel n u (subst (λ c. means c [] ≡ no_solution n) same m),
)

-- ---- parts of a list of values
plains_cut : (n k : ℕ) (vs sample first second : List RunValue) → IsCut n k vs sample first second →
    plains vs ≡ plains sample ++ (plains first ++ plains second)
plains_cut n k vs sample first second c =
    ap plains c.whole ∙ map-append plain sample (first ++ second) ∙ ap (λ ws. plains sample ++ ws) (map-append plain first second)

module _ (scope outputs : List Base) (shown : ℕ) (rel : RelTree) (typed : IsTyped (scope ++ outputs) rel) (are_outputs : All IsOutput outputs) where
  -- a solution of the question: two different solutions at one sample
  two : (n k : ℕ) (vs sample first second : List RunValue) → n ≡ length (parameters scope rel) → k ≡ length outputs → IsCut n k vs sample first second →
      Sol (twice_outputs scope outputs rel) (twice scope outputs shown rel) [] (plains vs) → AreTwo scope outputs shown rel (plains sample) (plains first) (plains second)
  two n k vs sample first second e f c s =
      let a = length-map sample plain in
      let b = length-map first plain in
      let i = c.samples in
      let j = c.outputs in
      two_values scope outputs shown rel typed are_outputs (plains sample) (plains first) (plains second) (omega arith) (omega arith)
      (subst (Sol (twice_outputs scope outputs rel) (twice scope outputs shown rel) []) (plains_cut n k vs sample first second c) s)

  -- so many values has a solution of the question
  pub values_long : (vs : List RunValue) → Sol (twice_outputs scope outputs rel) (twice scope outputs shown rel) [] (plains vs) →
      length vs ≡ length (parameters scope rel) + (length outputs + length outputs)
  values_long vs s =
      let a = length_have (twice_outputs scope outputs rel) (plains vs) s.0 in
      let b = length-append (parameter_bases scope rel) (outputs ++ outputs) in
      let c = length-append outputs outputs in
      let d = length-map (parameters scope rel) (base_at scope) in
      let e = length-map vs plain in
      omega arith

  -- what the parts of the run's values say
  pub two_verdict : (n k : ℕ) (vs : List RunValue) (r : Result UniquenessAnswer NoMemory) → n ≡ length (parameters scope rel) → k ≡ length outputs →
      IsClear (twice_outputs scope outputs rel) (twice scope outputs shown rel)
      × (means (question_code (twice_outputs scope outputs rel) (twice scope outputs shown rel)) [] ≡ values (plains vs))
      × Sol (twice_outputs scope outputs rel) (twice scope outputs shown rel) [] (plains vs) →
      IfOk r (IsTwoOf n k vs) → IfOk r (IsUniqueness scope outputs shown rel)
  two_verdict n k vs (Err e) same long s t = tt
  two_verdict n k vs (Ok Unique) same long s t = absurd t
  two_verdict n k vs (Ok (Two sample first second)) same long s t = (
    s.0,
    s.1 ∙ ap (λ ws. values ws) (plains_cut n k vs sample.items first.items second.items t),
    two n k vs sample.items first.items second.items same long t
        s.2,
  )
  two_verdict n k vs (Ok (Undecided d)) same long s t = absurd t
