-- What a question answers, before it is a verdict.
use Rattle.std.specs.Prelude.{ℕ, ◌≡◌, [], ◌++◌, length, take, List}
use Rattle.cf_tree.specs.declared.base.Base.{Base}
use Rattle.cf_tree.specs.Meaning.{means}
use Rattle.cf_tree.specs.Relation.{Sol}
use Rattle.cf_tree.specs.RelTree.{RelTree}
use Rattle.cf_tree.specs.Values.{Value as PlainValue, values}
use Rattle.cf_eval.specs.declared.value.Value.{Value}
use Rattle.cf_eval.specs.Seen.{plains}
use Rattle.cf_warn.specs.Solutions.{question_code}
use Rattle.cf_warn.specs.declared.answer.UniquenessAnswer.{UniquenessAnswer}
use Rattle.cf_warn.specs.declared.answer.UniquenessAnswer.TheVariants.{Unique, Two, Undecided}
use Rattle.cf_warn.specs.declared.answer.ExistenceAnswer.{ExistenceAnswer}
use Rattle.cf_warn.specs.declared.answer.ExistenceAnswer.TheVariants.{Always, Missing, Undecided as UndecidedExistence}
use Rattle.cf_warn.specs.declared.ask.Asked.{Asked}
use Rattle.cf_warn.specs.declared.ask.Asked.TheVariants as asked
use Rattle.cf_warn.specs.Verdicts.{IsClear, IsDoubt}

-- what the question's run gives is a solution of it, or it has none, or it is in doubt
abbrev pub IsAsked : List Base → RelTree → Asked → Type 0
IsAsked outputs rel (asked.Solution vs) =
    IsClear outputs rel × (means (question_code outputs rel) [] ≡ values (plains vs.items)) × Sol outputs rel [] (plains vs.items)
IsAsked outputs rel asked.NoSolution = IsClear outputs rel × ((vs : List PlainValue) → Sol outputs rel [] vs → ⊥)
IsAsked outputs rel (asked.Undecided d) = IsDoubt outputs rel d

-- n values, k values, and the rest
pub record IsCut (n k : ℕ) (vs sample first second : List Value) : Type 0 where
  pub whole : vs ≡ sample ++ (first ++ second)
  pub samples : length sample ≡ n
  pub outputs : length first ≡ k

abbrev pub IsTwoOf : ℕ → ℕ → List Value → UniquenessAnswer → Type 0
IsTwoOf n k vs Unique = ⊥
IsTwoOf n k vs (Two sample first second) = IsCut n k vs sample.items first.items second.items
IsTwoOf n k vs (Undecided d) = ⊥

-- so many first values are the sample
abbrev pub IsMissingOf : ℕ → List Value → ExistenceAnswer → Type 0
IsMissingOf n vs Always = ⊥
IsMissingOf n vs (Missing sample) = sample.items ≡ take n vs
IsMissingOf n vs (UndecidedExistence d) = ⊥
