-- The plain forms of blocks.
use Rattle.std.specs.Prelude.{ℕ, List, map}
use Rattle.std.specs.List.{flat_map}
use Rattle.cf_tree.specs.DefView.{TargetTree, target_tree}
use Rattle.cf_elim.specs.declared.act.Act.{Act}
use Rattle.cf_steps.specs.declared.block.Block.{Block}
use Rattle.cf_steps.specs.declared.block.Blocks.{Blocks}
use Rattle.cf_steps.specs.declared.block.NamedTruth.{NamedTruth}

-- a choose's number, the truth variables on which it branches with their values in this branch, the steps of its cases, and a target
pub record BlockTree : Type 0 where
  pub number : ℕ
  pub truths : List NamedTruth
  pub cases : List (List Act)
  pub target : TargetTree

abbrev pub block_tree : Block → BlockTree
block_tree b = record { number = b.number; truths = b.truths.items; cases = map (λ c. c.items) b.cases.items; target = target_tree b.target }

abbrev pub block_trees : Blocks → List BlockTree
block_trees bs = map block_tree bs.list.items

-- the block of the same choose in this branch
abbrev pub in_branch : List NamedTruth → BlockTree → BlockTree
in_branch truths b = record { number = b.number; truths = truths; cases = b.cases; target = b.target }

-- all steps of a block
abbrev pub block_acts : BlockTree → List Act
block_acts b = flat_map (λ acts. acts) b.cases
