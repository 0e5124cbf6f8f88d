-- What the solutions of a question may say of its choose.
use Rattle.std.specs.Prelude.{ℕ, ◌≡◌, ◌≢◌, List, [], map, take}
use Rattle.cf_tree.specs.declared.base.Base.{Base}
use Rattle.cf_tree.specs.CodeTree.{CodeTree, code_solve, arms_of}
use Rattle.cf_tree.specs.Relation.{Sol}
use Rattle.cf_tree.specs.RelTree.{RelTree}
use Rattle.cf_tree.specs.Values.{Value, value_at, HaveBases}
use Rattle.cf_linear.specs.Chooses.{arms}
use Rattle.cf_warn.specs.Questions.{parameters, parameter_bases}

-- the `solve` of a question, with the arms of its cases
abbrev pub question_code : List Base → RelTree → CodeTree
question_code outputs rel = code_solve 1 (arms_of (arms [] outputs rel))

-- ---- samples
-- an environment of the scope in which the parameters have these values
pub record IsAt (scope : List Base) (rel : RelTree) (sample env : List Value) : Type 0 where
  pub bases : HaveBases scope env
  pub same : map (value_at env) (parameters scope rel) ≡ sample

-- ---- uniqueness
-- no two lists of outputs that solve the relation in one environment differ in the first so many outputs, which are shown
abbrev pub AreUnique : List Base → List Base → ℕ → RelTree → Type 0
AreUnique scope outputs shown rel =
    (env xs ys : List Value) → HaveBases scope env → Sol outputs rel env xs → Sol outputs rel env ys → take shown xs ≡ take shown ys

-- two solutions at one sample that differ in what is shown
pub record AreTwo (scope outputs : List Base) (shown : ℕ) (rel : RelTree) (sample first second : List Value) : Type 0 where
  pub bases : HaveBases (parameter_bases scope rel) sample
  pub somewhere : (env : List Value) × IsAt scope rel sample env
  pub first_solves : (env : List Value) → IsAt scope rel sample env → Sol outputs rel env first
  pub second_solves : (env : List Value) → IsAt scope rel sample env → Sol outputs rel env second
  pub different : take shown first ≢ take shown second

-- ---- existence
-- some outputs solve the relation in each environment
abbrev pub AreAlways : List Base → List Base → RelTree → Type 0
AreAlways scope outputs rel = (env : List Value) → HaveBases scope env → (xs : List Value) × Sol outputs rel env xs

-- no outputs solve the relation at a sample
pub record AreMissing (scope outputs : List Base) (rel : RelTree) (sample : List Value) : Type 0 where
  pub bases : HaveBases (parameter_bases scope rel) sample
  pub somewhere : (env : List Value) × IsAt scope rel sample env
  pub unsolved : (env : List Value) → IsAt scope rel sample env → (xs : List Value) → Sol outputs rel env xs → ⊥
