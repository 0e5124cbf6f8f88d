use Rattle.std.proofs.lemmas.Result.{IfOk-weaker}
use Rattle.cf_tree.specs.CodeView.{code_tree}
use Rattle.cf_stmt.specs.BlockView.{block_tree}
use Rattle.cf_stmt.specs.Statements.{IsStatements}
use Rattle.cf_stmt.proofs.MadeLaws.{made_guarded}
use Rattle.cf_stmt.proofs.made.statements.Goals as goal

pub returns : goal.returns
returns c = IfOk-weaker c.guarded.result _ (λ b. IsStatements (code_tree c.args.code.now) (block_tree b.value))
    (λ b h. made_guarded (code_tree c.args.code.now) (block_tree c.in_ok-block.block.value) (block_tree b.value) c.in_ok-block.ensures h) c.guarded.ensures
