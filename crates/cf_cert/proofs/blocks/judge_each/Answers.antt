use Rattle.std.proofs.Common.{map, length, arith, sym}
use Rattle.std.proofs.lemmas.List.{length-map}
use Rattle.cf_tree.specs.ChooseView.{choose_tree}
use Rattle.cf_steps.specs.Blocks.{block_tree}
use Rattle.cf_cert.specs.Laws.{IsLinearChoose, AreWithinCases}
use Rattle.cf_cert.specs.Verifying.{HasFewActs}
use Rattle.cf_cert.proofs.ArmsLaws.{mapped}
use Rattle.cf_cert.proofs.VerdictLaws.{judged_none, judged_more, judged_rejected, missing_rejected, left_rejected}
use Rattle.cf_cert.proofs.WayLaws.{each_there}
use Rattle.cf_cert.proofs.blocks.judge_each.Goals as goal

pub loop-i-init : goal.loop-i-init
loop-i-init c = judged_none (map choose_tree c.args.chooses.now) (map block_tree c.args.blocks.now)

pub returns-then-i-blocks : goal.returns-then-i-blocks
returns-then-i-blocks c =
    let l = c.loop-i in
    missing_rejected (map choose_tree c.args.chooses.now) (map block_tree c.args.blocks.now) l.i (choose_tree c.index-chooses-i.result)
    (omega (arith, c.loop-i-test.true, length-map c.args.chooses.now choose_tree))
    (mapped choose_tree c.args.chooses.now l.i c.index-chooses-i.result c.index-chooses-i.is) l.invariant c.whole.result c.rejected.result
    (omega (arith, c.if-i-blocks.true, length-map c.args.blocks.now block_tree)) c.whole.ensures c.rejected.ensures

pub judge-requires-clause-choose : goal.judge-requires-clause-choose
judge-requires-clause-choose c =
    each_there IsLinearChoose (map choose_tree c.args.chooses.now) c.loop-i.i (choose_tree c.index-chooses-i.result)
    (omega (arith, c.loop-i-test.true, length-map c.args.chooses.now choose_tree))
    (mapped choose_tree c.args.chooses.now c.loop-i.i c.index-chooses-i.result c.index-chooses-i.is) c.requires.chooses

pub judge-requires-clause-within : goal.judge-requires-clause-within
judge-requires-clause-within c =
    each_there (λ b. AreWithinCases b.cases) (map block_tree c.args.blocks.now) c.loop-i.i (block_tree c.index-blocks-i.result)
    (omega (arith, c.if-i-blocks.false, length-map c.args.blocks.now block_tree))
    (mapped block_tree c.args.blocks.now c.loop-i.i c.index-blocks-i.result c.index-blocks-i.is) c.requires.within

pub judge-requires-clause-few : goal.judge-requires-clause-few
judge-requires-clause-few c =
    each_there HasFewActs (map block_tree c.args.blocks.now) c.loop-i.i (block_tree c.index-blocks-i.result)
    (omega (arith, c.if-i-blocks.false, length-map c.args.blocks.now block_tree))
    (mapped block_tree c.args.blocks.now c.loop-i.i c.index-blocks-i.result c.index-blocks-i.is) c.requires.few

pub loop-i-preserved : goal.loop-i-preserved
loop-i-preserved c =
    let l = c.loop-i in
    judged_more (map choose_tree c.args.chooses.now) (map block_tree c.args.blocks.now) l.i (choose_tree c.index-chooses-i.result)
    (omega (arith, c.loop-i-test.true, length-map c.args.chooses.now choose_tree))
    (mapped choose_tree c.args.chooses.now l.i c.index-chooses-i.result c.index-chooses-i.is) l.invariant (block_tree c.index-blocks-i.result)
    (omega (arith, c.if-i-blocks.false, length-map c.args.blocks.now block_tree))
    (mapped block_tree c.args.blocks.now l.i c.index-blocks-i.result c.index-blocks-i.is) c.in-Ok.ensures

pub returns-in-Err : goal.returns-in-Err
returns-in-Err c =
    let l = c.loop-i in
    judged_rejected (map choose_tree c.args.chooses.now) (map block_tree c.args.blocks.now) l.i (choose_tree c.index-chooses-i.result)
    (omega (arith, c.loop-i-test.true, length-map c.args.chooses.now choose_tree))
    (mapped choose_tree c.args.chooses.now l.i c.index-chooses-i.result c.index-chooses-i.is) l.invariant (block_tree c.index-blocks-i.result)
    (omega (arith, c.if-i-blocks.false, length-map c.args.blocks.now block_tree))
    (mapped block_tree c.args.blocks.now l.i c.index-blocks-i.result c.index-blocks-i.is) c.in-Err.fault c.rejected-in-Err.result c.in-Err.ensures
    c.rejected-in-Err.ensures

pub returns-in-Some : goal.returns-in-Some
returns-in-Some c =
    let l = c.loop-i in
    left_rejected (map choose_tree c.args.chooses.now) (map block_tree c.args.blocks.now) l.i (length c.args.chooses.now)
    (omega (arith, c.loop-i-test.false, length-map c.args.chooses.now choose_tree)) (sym (length-map c.args.chooses.now choose_tree)) l.invariant
    (block_tree c.in-Some.block.now) c.whole-in-Some.result c.rejected-in-Some.result
    (omega (arith, c.in-Some.ensures.lookup.3.0, length-map c.args.blocks.now block_tree))
    (mapped block_tree c.args.blocks.now (length c.args.chooses.now) c.in-Some.block.now c.in-Some.ensures.lookup.1) c.whole-in-Some.ensures
    c.rejected-in-Some.ensures
