-- What is told of the chooses of a source: of each its branches with their relations and conditions, how its outputs are given out, and its parameters.
use Rattle.std.specs.Prelude.{ℕ, ⊤, Option, Some, None, List, [], ◌∷◌, length, map, All}
use Rattle.cf_tree.specs.declared.base.Base.{Base}
use Rattle.cf_tree.specs.DefView.{DefTree}
use Rattle.cf_tree.specs.Relation.{Holds}
use Rattle.cf_tree.specs.RelTree.{RelTree}
use Rattle.cf_tree.specs.Values.{Value}
use Rattle.cf_form.specs.Branches.{WideChoose, Branch, branches, relation_at, given_at, parameters}
use Rattle.cf_form.specs.Expansion.{call_expanded}
use Rattle.cf_form.specs.Formed.{wide_choose}
use Rattle.cf_form.specs.Passed.{passed}
use Rattle.cf_form.specs.SourceChooses.{source_chooses}

-- the chooses of functions, expanded, in the order of the text
abbrev pub wide_chooses : List DefTree → List WideChoose
wide_chooses ds = map (λ q. wide_choose (call_expanded q.0) q.1) (source_chooses ds)

abbrev pub passed_or : ℕ → Option ℕ → Option (ℕ × ℕ) → Option (ℕ × ℕ)
passed_or n (Some count) more = Some (n, count)
passed_or n None more = more

-- the first choose with an atom of too many alternatives, and how many these are
abbrev pub first_passed : List WideChoose → Option (ℕ × ℕ)
first_passed [] = None
first_passed (q ∷ qs) = passed_or q.number (passed q.relation) (first_passed qs)

-- a branch: the values of its truth variables, the relation there, and the condition if there is one
pub record ToldBranch : Type 0 where
  pub truths : Branch
  pub relation : RelTree
  pub given : Option RelTree

-- a choose: its number, the bases of what it gives out, how many outputs are hidden, the levels of its parameters, and its branches, `true` first
pub record ToldChoose : Type 0 where
  pub number : ℕ
  pub outputs : List Base
  pub hidden : ℕ
  pub parameters : List ℕ
  pub branches : List ToldBranch

abbrev pub told : WideChoose → ToldChoose
told q =
    record {
      number = q.number;
      outputs = q.outputs;
      hidden = length q.hidden;
      parameters = parameters q;
      branches = map (λ b. record { truths = b; relation = relation_at q b; given = given_at q b }) (branches q);
    }

-- the chooses of a program as they are told
abbrev pub all_told : List DefTree → List ToldChoose
all_told ds = map told (wide_chooses ds)

-- ---- conditions
-- the condition holds, if there is one
abbrev pub Allows : Option RelTree → List Value → Type 0
Allows None env = ⊤
Allows (Some p) env = Holds p env

-- the condition of a branch is part of its relation, so that it holds where that does
abbrev pub HoldsCondition : ToldBranch → Type 0
HoldsCondition b = (env : List Value) → Holds b.relation env → Allows b.given env

abbrev pub HoldConditions : List ToldChoose → Type 0
HoldConditions told = All (λ c. All HoldsCondition c.branches) told
