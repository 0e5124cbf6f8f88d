-- What `prove` writes of the chooses of a program, and what `verify` accepts for them.
use Rattle.std.specs.Prelude.{◌≡◌, ℕ, List, [], ◌∷◌, map, codes, None}
use Rattle.cf_program.specs.Checked.{TypedTree}
use Rattle.cf_tree.specs.ChooseTree.{ChooseTree}
use Rattle.cf_build.specs.Chooses.{all_chooses, by_number, limit_of}
use Rattle.cf_form.specs.Branches.{Branch}
use Rattle.cf_steps.specs.Blocks.{BlockTree, block_tree, in_branch}
use Rattle.cf_steps.specs.Printed.{blocks_text}
use Rattle.cf_steps.specs.ReadsBack.{ReadsBack}
use Rattle.cf_steps.specs.Spelling.{AreBlocks}
use Rattle.cf_steps.specs.declared.block.Block.{Block}
use Rattle.cf_cert.specs.Certifying.{Certifies}
use Rattle.cf_cert.specs.Laws.{MeansSolutions}
use Rattle.cf_prove.specs.Tracing.{traced_block}
use Rattle.cf_tree.specs.declared.base.Edition.{Edition}
use Rattle.cf_answer.specs.Branches.{head_of}
use Rattle.cf_answer.specs.Limits.{of_target}
use Rattle.cf_answer.specs.Sources.{Spelled}
use Rattle.cf_answer.specs.Texts.{numbered_line}

-- ---- chooses and blocks
-- the chooses of a program in the order of their numbers, with matches as the chooses that they stand for
abbrev pub asked_in : TypedTree → List ChooseTree
asked_in typed = by_number (all_chooses typed.defs)

-- there is one block for each choose, in order, of which Is holds
abbrev pub OneForEach : {B : Type 0} → (ChooseTree → B → Type 0) → List ChooseTree → List B → Type 0
OneForEach Is [] [] = Unit {0}
OneForEach Is (q ∷ qs) (b ∷ bs) = Is q b × OneForEach Is qs bs
OneForEach Is qs bs = ⊥

-- the block certifies the choose; so in each environment of its scope the block's code means a solution, or that there is none exactly where there is none
pub record IsProofOf (q : ChooseTree) (b : BlockTree) : Type 0 where
  pub certifies : Certifies q b
  pub means : MeansSolutions q b

-- ---- prove
-- the choose passes no limit, and the block names some branch and has the steps of its traces and its code
pub record IsTraced (q : ChooseTree) (b : Block) : Type 0 where
  pub within : limit_of q ≡ None
  pub is : block_tree b ≡ in_branch b.truths.items (traced_block q)
  pub proves : IsProofOf q (block_tree b)

-- each block names the branch of its choose
abbrev pub AreHeaded : List (ChooseTree × Branch) → List BlockTree → Type 0
AreHeaded cs bs = map (λ b. b.truths) bs ≡ map head_of cs

-- the printed blocks of chooses in their branches, in order, which are read back to these blocks alone
abbrev pub AreProofs : Edition → List (ChooseTree × Branch) → List ℕ → Type 0
AreProofs edition cs text =
    (bs : List Block) × OneForEach IsTraced (map (λ c. c.0) cs) bs × AreHeaded cs (map block_tree bs) × (text ≡ blocks_text bs)
    × ReadsBack edition (map block_tree bs) text

-- ---- verify
-- choose N: verified
abbrev pub verified_line : ChooseTree → List ℕ
verified_line q = numbered_line q.number (codes "verified")

-- the text of a steps file spells blocks for a source of this edition, one for each choose in its branch, in order, which prove these chooses
abbrev pub AreVerified : Edition → List (ChooseTree × Branch) → List ℕ → Type 0
AreVerified edition cs steps =
    (bs : List BlockTree) × Spelled (of_target edition) (AreBlocks edition) steps bs × AreHeaded cs bs × OneForEach IsProofOf (map (λ c. c.0) cs) bs
