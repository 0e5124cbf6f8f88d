-- What the answers of `check` on a choose of edition 3 say, by what its condition and its relation mean. Nothing is said of how an answer is found, and an
-- undecided one promises nothing.
use Rattle.std.specs.Prelude.{ℕ, ℤ, ◌≡◌, ◌≢◌, ◌<◌, ◌+◌, max, ◌&&◌, ⊤, Bool, true, false, not, Option, Some, None, List, [], ◌∷◌, ◌++◌, length, map, take, slice_get, All, Any}
use Rattle.cf_tree.specs.declared.base.Base.{Base}
use Rattle.cf_tree.specs.declared.base.Base.TheVariants.{Int}
use Rattle.cf_tree.specs.declared.base.Edition.{Edition}
use Rattle.cf_tree.specs.declared.base.Edition.TheVariants.{Two, Three}
use Rattle.cf_tree.specs.Occurs.{rel_holds}
use Rattle.cf_tree.specs.Relation.{Holds, Sol, IsTyped}
use Rattle.cf_tree.specs.RelTree.{RelTree}
use Rattle.cf_tree.specs.Values.{Value, truth, value_at, same_value, HaveBases}
use Rattle.cf_advice.specs.Bounds.{IsUnbounded}
use Rattle.cf_advice.specs.Ors.{part_at}
use Rattle.cf_advice.specs.declared.ors.Side.{Side}
use Rattle.cf_eval.specs.Seen.{plains}
use Rattle.cf_form.specs.Branches.{Branch, is_among, is_truth as is_truth_base, values_in}
use Rattle.cf_form.specs.Told.{Allows, ToldBranch}
use Rattle.cf_match.specs.declared.class.Class.{Class}
use Rattle.cf_match.specs.Classes.{IsIn}
use Rattle.cf_warn.specs.Covers.{IsCover}
use Rattle.cf_warn.specs.Missing.{tuple_count}
use Rattle.cf_warn.specs.Questions.{base_at, parameters}
use Rattle.cf_warn.specs.Verdicts.{IsUniqueness}
use Rattle.cf_warn.specs.declared.answer.ExistenceAnswer.{ExistenceAnswer}
use Rattle.cf_warn.specs.declared.answer.ExistenceAnswer.TheVariants as existence
use Rattle.cf_warn.specs.declared.answer.UniquenessAnswer.{UniquenessAnswer}
use Rattle.cf_warn.specs.declared.answer.UniquenessAnswer.TheVariants as uniqueness
use Rattle.cf_warn.specs.declared.coverage.Cover.{Cover}
use Rattle.cf_warn.specs.declared.coverage.Cover.TheVariants as cover
use Rattle.cf_answer.specs.ToldChecks.{Asked, existence_question, shown_values}

-- ---- inputs
-- values of the variables in scope that belong to a branch, and for which the condition holds
pub record IsInput (scope : List Base) (b : ToldBranch) (env : List Value) : Type 0 where
  pub bases : HaveBases scope env
  pub truths : (x : ℕ) (t : Bool) → values_in b.truths x ≡ Some t → value_at env x ≡ truth t
  pub allowed : Allows b.given env

-- values of the variables in scope, of which those that a sample names are the sample
pub record IsNamed (a : Asked) (sample env : List Value) : Type 0 where
  pub bases : HaveBases a.scope env
  pub same : map (value_at env) a.levels ≡ sample

-- a sample is an input of this branch, where Says holds, whatever the variables are that it does not name
pub record IsSample (a : Asked) (b : ToldBranch) (sample : List Value) (Says : List Value → Type 0) : Type 0 where
  pub somewhere : (env : List Value) × IsNamed a sample env
  pub input : (env : List Value) → IsNamed a sample env → IsInput a.scope b env
  pub says : (env : List Value) → IsNamed a sample env → Says env

-- ---- existence
-- some outputs satisfy the relation, and none do
abbrev pub HasOutputs : Asked → ToldBranch → List Value → Type 0
HasOutputs a b env = (xs : List Value) × Sol a.outputs b.relation env xs

abbrev pub HasNone : Asked → ToldBranch → List Value → Type 0
HasNone a b env = (xs : List Value) → Sol a.outputs b.relation env xs → ⊥

-- in a branch all inputs have outputs; a sample has none
abbrev pub TellsExistenceIn : Asked → ToldBranch → ExistenceAnswer → Type 0
TellsExistenceIn a b existence.Always = (env : List Value) → IsInput a.scope b env → HasOutputs a b env
TellsExistenceIn a b (existence.Missing sample) = IsSample a b (plains sample.items) (HasNone a b)
TellsExistenceIn a b (existence.Undecided d) = ⊤

-- in all branches all inputs have outputs; in one of them a sample has none
abbrev pub TellsExistence : Asked → List ToldBranch → ExistenceAnswer → Type 0
TellsExistence a bs existence.Always = All (λ b. TellsExistenceIn a b existence.Always) bs
TellsExistence a bs (existence.Missing sample) = Any (λ b. TellsExistenceIn a b (existence.Missing sample)) bs
TellsExistence a bs (existence.Undecided d) = ⊤

-- ---- uniqueness
-- no two lists of outputs differ in what is given out
abbrev pub HasOne : Asked → ToldBranch → List Value → Type 0
HasOne a b env = (xs ys : List Value) → Sol a.outputs b.relation env xs → Sol a.outputs b.relation env ys → shown_values a.shown xs ≡ shown_values a.shown ys

-- some outputs are given out so
abbrev pub IsGivenOut : Asked → ToldBranch → List Value → List Value → Type 0
IsGivenOut a b told env = (xs : List Value) × Sol a.outputs b.relation env xs × (told ≡ shown_values a.shown xs)

-- in a branch outputs are given out alike; at a sample these two are given out, and differ
abbrev pub TellsUniquenessIn : Asked → ToldBranch → UniquenessAnswer → Type 0
TellsUniquenessIn a b uniqueness.Unique = (env : List Value) → IsInput a.scope b env → HasOne a b env
TellsUniquenessIn a b (uniqueness.Two sample first second) =
    IsSample a b (plains sample.items) (λ env. IsGivenOut a b (plains first.items) env × IsGivenOut a b (plains second.items) env)
    × (plains first.items ≢ plains second.items)
TellsUniquenessIn a b (uniqueness.Undecided d) = ⊤

abbrev pub TellsUniqueness : Asked → List ToldBranch → UniquenessAnswer → Type 0
TellsUniqueness a bs uniqueness.Unique = All (λ b. TellsUniquenessIn a b uniqueness.Unique) bs
TellsUniqueness a bs (uniqueness.Two sample first second) = Any (λ b. TellsUniquenessIn a b (uniqueness.Two sample first second)) bs
TellsUniqueness a bs (uniqueness.Undecided d) = ⊤

-- ---- matches
-- the relation of the choose of an arm, all of whose outputs are given out, as a branch without truth variables and without condition
abbrev pub arm_asked : List Base → List Base → RelTree → Asked
arm_asked scope outputs rel = record { scope = scope; outputs = outputs; shown = outputs; levels = parameters scope rel }

abbrev pub arm_branch : RelTree → ToldBranch
arm_branch rel = record { truths = []; relation = rel; given = None }

-- what is told of an arm: in language 2 the verdict on its question
abbrev pub TellsArm : Edition → List Base → List Base → RelTree → UniquenessAnswer → Type 0
TellsArm Two scope outputs rel u = IsUniqueness scope outputs (length outputs) rel u
TellsArm Three scope outputs rel u = TellsUniquenessIn (arm_asked scope outputs rel) (arm_branch rel) u

-- every number is in a class; none holds this number
abbrev pub TellsClasses : List Class → Cover → Type 0
TellsClasses classes cover.All = (z : ℤ) → Any (λ c. IsIn c z) classes
TellsClasses classes (cover.Misses z) = All (λ c. IsIn c z → ⊥) classes
TellsClasses classes (cover.Undecided d) = ⊤

-- what is told of a match: in language 2 the verdict on its question
abbrev pub TellsCover : Edition → List Class → Cover → Type 0
TellsCover Two classes c = IsCover classes c
TellsCover Three classes c = TellsClasses classes c

-- ---- beside the answers
-- the condition holds for no inputs
abbrev pub HasNoInputs : Asked → ToldBranch → Type 0
HasNoInputs a b = (env : List Value) → IsInput a.scope b env → ⊥

abbrev pub TellsNoInputs : Asked → List ToldBranch → Type 0
TellsNoInputs a bs = All (HasNoInputs a) bs

-- no inputs have outputs
abbrev pub TellsNever : Asked → List ToldBranch → Type 0
TellsNever a bs = All (λ b. (env : List Value) → IsInput a.scope b env → HasNone a b env) bs

-- nothing bounds output number k, counted from 0, which is a number
abbrev pub TellsUnbounded : Asked → List ToldBranch → ℕ → Type 0
TellsUnbounded a bs k = (slice_get a.shown k ≡ Some Int) × All (λ b. IsUnbounded (length a.scope + k) b.relation) bs

-- a part of the relation never holds with it: no inputs have outputs with which both hold
abbrev pub NeverWith : Asked → ToldBranch → RelTree → Type 0
NeverWith a b part = (env xs : List Value) → IsInput a.scope b env → Sol a.outputs b.relation env xs → Holds part (env ++ xs) → ⊥

-- the same of the part to which these sides lead; a relation with truth variables is not told as it is written
abbrev pub NeverHoldsAt : Asked → List Side → ToldBranch → Type 0
NeverHoldsAt a path b = (b.truths ≡ []) × (part : RelTree) × (part_at path b.relation ≡ Some part) × NeverWith a b part

-- the branch of an `||` to which these sides lead never holds, with the condition and all that stands beside that `||`
abbrev pub TellsNeverHolds : Asked → List ToldBranch → List Side → Type 0
TellsNeverHolds a bs path = All (NeverHoldsAt a path) bs

-- no number reaches arm number k, counted from 0, whose class this is: each of its numbers is in a class before it
abbrev pub TellsUnreached : List Class → ℕ → Class → Type 0
TellsUnreached classes k c = (z : ℤ) → IsIn c z → Any (λ d. IsIn d z) (take k classes)

-- the most tuples that the arms of a branch have
abbrev pub most_tuples : Asked → List ToldBranch → ℕ
most_tuples a [] = 0
most_tuples a (b ∷ bs) = max (tuple_count a.scope a.outputs b.relation) (most_tuples a bs)

-- ---- within the program
-- a condition speaks of variables in scope alone
abbrev pub IsCondition : List Base → Option RelTree → Type 0
IsCondition scope None = ⊤
IsCondition scope (Some p) = IsTyped scope p

-- whether two lists have the same values
abbrev pub same_values : List Value → List Value → Bool
same_values [] [] = true
same_values [] (w ∷ ws) = false
same_values (v ∷ vs) [] = false
same_values (v ∷ vs) (w ∷ ws) = same_value v w && same_values vs ws

-- the two of an answer differ, if it tells two
abbrev pub IsOfTwo : UniquenessAnswer → Type 0
IsOfTwo uniqueness.Unique = ⊤
IsOfTwo (uniqueness.Two sample first second) = plains first.items ≢ plains second.items
IsOfTwo (uniqueness.Undecided d) = ⊤

-- a variable that samples name, and that is no truth variable
abbrev pub is_named : Asked → ℕ → Bool
is_named a x = not (is_truth_base (base_at a.scope x)) && is_among x a.levels

-- truth variables of the scope that samples name
abbrev pub is_truth : Asked → ℕ → Bool
is_truth a x = is_truth_base (base_at a.scope x) && is_among x a.levels

abbrev pub are_truths : Asked → Branch → Bool
are_truths a [] = true
are_truths a (t ∷ ts) = is_truth a t.0 && are_truths a ts

-- what is asked of a branch is of this scope: samples name its truth variables, and all variables of which its condition and its relation speak, which are
-- numbers and sets
pub record Fits (a : Asked) (b : ToldBranch) : Type 0 where
  pub truths : are_truths a b.truths ≡ true
  pub condition : IsCondition a.scope b.given
  pub named : (x : ℕ) → x < length a.scope → rel_holds x (existence_question b) ≡ true → is_named a x ≡ true
