-- Printed blocks as readers find them.
use Rattle.std.specs.Prelude.{◌≡◌, ℕ, ◌-◌, ◌^◌, List}
use Rattle.cf_tree.specs.declared.base.Edition.{Edition}
use Rattle.cf_tree.specs.declared.base.Edition.TheVariants.{Two}
use Rattle.cf_lex.specs.Tokens.{LexesTo, at_end}
use Rattle.cf_lex.specs.declared.token.Token.{Token}
use Rattle.cf_tree.specs.declared.base.Place.{Place}
use Rattle.cf_steps.specs.Blocks.{BlockTree}
use Rattle.cf_steps.specs.Spelling.{AreBlocks}

-- for a source of this edition the tokens of the whole text spell the blocks, and no others
pub record ReadsBack (edition : Edition) (bs : List BlockTree) (text : List ℕ) : Type 0 where
  pub tokens : List Token
  pub end : Place
  pub lexed : LexesTo Two (2 ^ 127 - 1) text tokens end at_end
  pub spelled : AreBlocks edition bs tokens
  pub only : (others : List BlockTree) → AreBlocks edition others tokens → others ≡ bs
