use Rattle.std.proofs.Common.{◌≡◌, rules}
use Rattle.std.proofs.lemmas.Result.{IfOk-weaker}
use Rattle.cf_tree.specs.CodeView.{code_tree}
use Rattle.cf_stmt.specs.BlockView.{block_tree}
use Rattle.cf_answer.proofs.EmitLemmas.{body_answers}
use Rattle.cf_answer.proofs.emit.body_of.Goals as goal

pub returns : goal.returns
returns c =
    let target = c.args.target.now in
    let tidy = code_tree c.in_ok-code.code in
    let same : c.body.result.now ≡ target.code = search rules in
    let lent : c.deref.result.now ≡ c.in_ok-ranges.ranges.items = search rules in
    let bases : c.params.result.now ≡ target.params.items = search rules in
    IfOk-weaker c.statements.result _ _
    (λ b s. body_answers target c.in_ok-ranges.ranges.items tidy (block_tree b.value) (rw bases at c.in_ok-ranges.ensures)
    (rw (lent, same) at c.in_ok-code.ensures.answers) s) c.statements.ensures
