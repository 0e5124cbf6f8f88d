use Rattle.std.proofs.Common.{◌∙◌, arith, map}
use Rattle.std.proofs.lemmas.Result.{err_from_is_err_and}
use Rattle.cf_build.proofs.SolveLists.{fault_behind}
use Rattle.cf_form.specs.ToldView.{told_choose, truth_at}
use Rattle.cf_answer.proofs.BlockLemmas.{put_next, put_before, put_last}
use Rattle.cf_answer.proofs.BranchLemmas.{truths_of}
use Rattle.cf_answer.proofs.prove.prove_each.Goals as goal

pub loop-i-preserved : goal.loop-i-preserved
loop-i-preserved c =
    let told = c.loop-i.invariant.1 in (
      put_next (map told_choose c.args.told.now) c.args.chooses.now c.loop-i.i c.index-chooses-i.result (truths_of c.loop-i.coming.left.now)
          (truths_of c.next-branch.new.self.left.now) (map truth_at c.next-branch.result.now) c.loop-i.text.items _ c.loop-i-test.true
          c.index-chooses-i.is (rw told at c.next-branch.ensures.truths) (rw told at c.next-branch.ensures.left) c.loop-i.invariant.0
          c.in_ok-put_block.ensures.block,
      c.next-branch.ensures.told ∙ told,
    )

pub returns-in_err-put_block-clause-refused : goal.returns-in_err-put_block-clause-refused
returns-in_err-put_block-clause-refused c =
    let p = err_from_is_err_and c.from_residual.result c.from_residual.ensures.1 in
    rw (p.1, p.2) (fault_behind c.args.chooses.now c.loop-i.i c.index-chooses-i.result _ c.loop-i-test.true c.index-chooses-i.is
    (put_before (map told_choose c.args.told.now) c.args.chooses.now c.loop-i.i _ _ c.loop-i.invariant.0) c.in_err-put_block.ensures.refused)

pub returns-clause-proofs : goal.returns-clause-proofs
returns-clause-proofs c = put_last (map told_choose c.args.told.now) c.args.chooses.now c.loop-i.i _ _ (omega arith) c.loop-i.invariant.0
