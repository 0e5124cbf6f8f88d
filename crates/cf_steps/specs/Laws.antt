-- What holds of printed blocks.
use Rattle.std.specs.Prelude.{List, map, All}
use Rattle.cf_tree.specs.declared.base.Edition.{Edition}
use Rattle.cf_steps.specs.declared.block.Block.{Block}
use Rattle.cf_steps.specs.Blocks.{block_tree}
use Rattle.cf_steps.specs.Printed.{blocks_text}
use Rattle.cf_steps.specs.ReadsBack.{ReadsBack}
use Rattle.cf_steps.specs.Spelled.{IsSpelledBlock, IsSpelledHead}

-- the texts of blocks that have a spelling, one after the other, are read back to these blocks
abbrev pub PrintedReadsBack : Type 0
PrintedReadsBack =
    (edition : Edition) (bs : List Block) → All IsSpelledBlock bs → All (λ b. IsSpelledHead edition b.truths.items) bs →
    ReadsBack edition (map block_tree bs) (blocks_text bs)
