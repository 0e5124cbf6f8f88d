-- Printed targets as readers find them.
use Rattle.std.specs.Prelude.{◌≡◌, ℕ, ◌-◌, ◌^◌, List}
use Rattle.cf_lex.specs.Editions.{IsOfEdition}
use Rattle.cf_lex.specs.Tokens.{LexesTo, at_end}
use Rattle.cf_tree.specs.declared.base.Edition.{Edition}
use Rattle.cf_tree.specs.declared.base.Edition.TheVariants.{Two}
use Rattle.cf_lex.specs.declared.token.Token.{Token}
use Rattle.cf_tree.specs.declared.base.Place.{Place}
use Rattle.cf_target.specs.Spelling.{TargetTree, IsTarget}

-- the text is of the edition, and its tokens, which are those of language 2, spell the target and no other one
pub record ReadsBack (edition : Edition) (t : TargetTree) (text : List ℕ) : Type 0 where
  pub of_edition : IsOfEdition edition text
  pub tokens : List Token
  pub end : Place
  pub lexed : LexesTo Two (2 ^ 127 - 1) text tokens end at_end
  pub spelled : IsTarget edition t tokens
  pub only : (other : TargetTree) → IsTarget edition other tokens → other ≡ t
