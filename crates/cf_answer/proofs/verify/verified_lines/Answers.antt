use Rattle.std.proofs.Common.{arith}
use Rattle.cf_tree.specs.ChooseView.{choose_tree}
use Rattle.cf_answer.proofs.VerifyLemmas.{lines_next, lines_all}
use Rattle.cf_answer.proofs.verify.verified_lines.Goals as goal

pub loop-choose-preserved : goal.loop-choose-preserved
loop-choose-preserved c =
    lines_next choose_tree c.args.chooses.now c.loop-choose.choose-index c.choose-item.result _ _ (omega arith) c.choose-item.is c.loop-choose.invariant
    (rw c.as_slice.ensures at c.in_ok-put_line.ensures)

pub returns : goal.returns
returns c = lines_all choose_tree c.args.chooses.now c.loop-choose.choose-index _ (omega arith) c.loop-choose.invariant
