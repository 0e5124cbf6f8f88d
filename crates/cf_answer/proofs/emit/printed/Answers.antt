use Rattle.std.proofs.lemmas.Result.{IfOk-weaker}
use Rattle.cf_stmt.specs.BlockView.{block_tree}
use Rattle.cf_answer.proofs.emit.printed.Goals as goal

pub returns : goal.returns
returns c =
    IfOk-weaker c.print_of.result _ _
    (λ text print. record { body = block_tree c.in_ok-body.body.value; answers = c.in_ok-body.ensures; print = print })
    (rw c.deref.ensures at c.print_of.ensures)
