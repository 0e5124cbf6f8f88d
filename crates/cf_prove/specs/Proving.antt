-- What proving a choose answers: the printed block of its traces.
use Rattle.std.specs.Prelude.{◌≡◌, ℕ, List, [], ◌∷◌, Some, None, Result, Ok, Err, Vec}
use Rattle.std.specs.Global.{Global}
use Rattle.cf_linear.specs.Chooses.{limit}
use Rattle.cf_choose.specs.declared.fault.ChooseFault.{ChooseFault}
use Rattle.cf_choose.specs.declared.fault.ChooseFault.TheVariants.{Refused, NoMemory}
use Rattle.cf_steps.specs.declared.block.Block.{Block}
use Rattle.cf_steps.specs.declared.block.NamedTruth.{NamedTruth}
use Rattle.cf_steps.specs.Blocks.{block_tree, in_branch}
use Rattle.cf_steps.specs.Printed.{blocks_text}
use Rattle.cf_steps.specs.Spelled.{IsSpelledBlock}
use Rattle.cf_tree.specs.ChooseTree.{ChooseTree}
use Rattle.cf_cert.specs.Certifying.{Certifies}
use Rattle.cf_cert.specs.Laws.{MeansSolutions}
use Rattle.cf_prove.specs.Tracing.{traced_block}

-- no limit refuses the choose, and this is the printed form of its block in this branch, with the steps of its traces and its code. A steps file spells that block. It
-- certifies the choose, and so means solutions.
pub record IsProved (q : ChooseTree) (truths : List NamedTruth) (text : List ℕ) : Type 0 where
  pub within : limit q.scope q.outputs q.relation ≡ None
  pub block : Block
  pub is : block_tree block ≡ in_branch truths (traced_block q)
  pub spelled : IsSpelledBlock block
  pub printed : text ≡ blocks_text (block ∷ [])
  pub certifies : Certifies q (block_tree block)
  pub means : MeansSolutions q (block_tree block)

-- the choose is proved, or its first limit refuses it, or memory ran out
abbrev pub ProveAnswer : ChooseTree → List NamedTruth → Result (Vec ℕ Global) ChooseFault → Type 0
ProveAnswer q truths (Ok text) = IsProved q truths text.items
ProveAnswer q truths (Err (Refused r)) = limit q.scope q.outputs q.relation ≡ Some r
ProveAnswer q truths (Err NoMemory) = Unit {0}
