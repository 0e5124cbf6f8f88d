-- What is made of a node and a branch of one of its ors.
use Rattle.std.specs.Prelude.{ℕ, List, ◌++◌, slice_set}
use Rattle.cf_close.specs.Facts.{NeverHold}
use Rattle.cf_close.specs.Problems.{Conjunction}
use Rattle.cf_close.specs.Nodes.{removed, branches, IsMade, IsOther}

-- the node with the or without a branch, which is in conflict with it
pub record IsNarrowed (node : Conjunction) (o k : ℕ) (branch c : Conjunction) : Type 0 where
  pub fails : NeverHold node.facts branch.facts
  pub made : IsMade node.facts (slice_set node.ors o (removed k (branches o node))) c

-- the node with a branch in the place of the or, and the other one
pub record AreParted (node : Conjunction) (o k : ℕ) (branch first second : Conjunction) : Type 0 where
  pub made : IsMade (node.facts ++ branch.facts) (removed o node.ors ++ branch.ors) first
  pub other : IsOther branch node o k second
