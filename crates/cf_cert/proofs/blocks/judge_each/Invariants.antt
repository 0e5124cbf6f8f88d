use Rattle.std.proofs.Common.{map}
use Rattle.cf_tree.specs.ChooseView.{choose_tree}
use Rattle.cf_steps.specs.Blocks.{block_tree}
use Rattle.cf_cert.proofs.VerdictLaws.{IsJudged}
use Rattle.cf_cert.proofs.blocks.judge_each.Given as goal

abbrev pub invariant-loop-i : goal.invariant-loop-i
invariant-loop-i l = IsJudged (map choose_tree l.chooses) (map block_tree l.blocks) l.i
