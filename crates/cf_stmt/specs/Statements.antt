-- The statements of a code.
use Rattle.std.specs.Prelude.{◌≡◌, List}
use Rattle.cf_tree.specs.CodeTree.{CodeTree}
use Rattle.cf_tree.specs.Meaning.{then_path, path}
use Rattle.cf_tree.specs.Values.{Value}
use Rattle.cf_stmt.specs.Blocks.{Block, given, exec}
use Rattle.cf_stmt.specs.Expressions.{EvaluatesPlain}

-- the block gives what the code gives, with the same peak, and evaluates plain expressions alone
pub record IsStatements (c : CodeTree) (b : Block) : Type 0 where
  pub same : (env : List Value) → exec b env ≡ then_path (path c env) given
  pub plain : EvaluatesPlain b
