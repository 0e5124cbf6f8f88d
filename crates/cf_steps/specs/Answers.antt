-- What the reader of steps files answers.
use Rattle.std.specs.Prelude.{◌≡◌, List, Result, Ok, Err}
use Rattle.cf_tree.specs.declared.base.Edition.{Edition}
use Rattle.cf_lex.specs.declared.token.Token.{Token}
use Rattle.cf_reader.specs.declared.fault.ParseFault.{ParseFault}
use Rattle.cf_reader.specs.declared.fault.ParseFault.TheVariants.{Syntax, NoMemory}
use Rattle.cf_steps.specs.declared.block.Blocks.{Blocks}
use Rattle.cf_steps.specs.Blocks.{BlockTree, block_trees}
use Rattle.cf_steps.specs.Spelling.{AreBlocks}

-- the tokens spell some blocks
abbrev pub SomeBlocks : Edition → List Token → Type 0
SomeBlocks edition ts = (bs : List BlockTree) × AreBlocks edition bs ts

-- the answer is these blocks, or memory ran out
abbrev pub BlocksAnswer : List BlockTree → Result Blocks ParseFault → Type 0
BlocksAnswer bs (Ok x) = block_trees x ≡ bs
BlocksAnswer bs (Err NoMemory) = Unit {0}
BlocksAnswer bs (Err (Syntax p)) = ⊥
