use Rattle.std.proofs.Common.{map, subst, sym}
use Rattle.std.specs.Prelude.{IfOk}
use Rattle.cf_steps.specs.Blocks.{block_tree, block_trees}
use Rattle.cf_cert.specs.Judging.{IsVerdict}
use Rattle.cf_tree.specs.ChooseView.{choose_tree}
use Rattle.cf_cert.specs.Verifying.{HasFewActs}
use Rattle.cf_cases.specs.Holding.{EachOf}
use Rattle.cf_cert.proofs.VerdictLaws.{each_has_few, verdict_means, verdict_typed}
use Rattle.cf_cert.proofs.blocks.verify.Goals as goal

pub judge_each-requires-clause-few : goal.judge_each-requires-clause-few
judge_each-requires-clause-few c =
    subst (λ bs. EachOf HasFewActs (map block_tree bs)) (sym c.deref.ensures.value) (each_has_few (block_trees c.args.blocks.now) c.requires.few)

pub returns-clause-means : goal.returns-clause-means
returns-clause-means c e =
    let v = rw c.deref.ensures.value at c.judge_each.ensures in
    verdict_means (map choose_tree c.args.chooses.now) (block_trees c.args.blocks.now) c.requires.chooses c.requires.within
    (subst (λ r. IfOk r (IsVerdict (map choose_tree c.args.chooses.now) (block_trees c.args.blocks.now))) e v)

pub returns-clause-typed : goal.returns-clause-typed
returns-clause-typed c e =
    let v = rw c.deref.ensures.value at c.judge_each.ensures in
    verdict_typed (map choose_tree c.args.chooses.now) (block_trees c.args.blocks.now) c.requires.chooses c.requires.within
    (subst (λ r. IfOk r (IsVerdict (map choose_tree c.args.chooses.now) (block_trees c.args.blocks.now))) e v)
