-- Printed relations as readers of sources find them.
use Rattle.std.specs.Prelude.{◌≡◌, ℕ, ◌-◌, ◌^◌, List, []}
use Rattle.cf_lex.specs.Tokens.{LexesTo, at_end}
use Rattle.cf_lex.specs.declared.token.Token.{Token}
use Rattle.cf_parse.specs.Spelling.{Spells}
use Rattle.cf_tree.specs.declared.base.Edition.TheVariants.{Three}
use Rattle.cf_tree.specs.declared.base.Place.{Place}
use Rattle.cf_tree.specs.RawTree.{RawTree}
use Rattle.cf_tree.specs.RelTree.{RelTree}
use Rattle.cf_relation_text.specs.RelationTree.{IsRelation}

-- the tokens of the text spell a source expression that is the relation, whatever its places
pub record ReadsBack (names : List (List ℕ)) (rel : RelTree) (text : List ℕ) : Type 0 where
  pub tokens : List Token
  pub end : Place
  pub lexed : LexesTo Three (2 ^ 127 - 1) text tokens end at_end
  pub tree : RawTree
  pub is_relation : IsRelation names rel tree
  pub spelled : Spells Three tree tokens []
