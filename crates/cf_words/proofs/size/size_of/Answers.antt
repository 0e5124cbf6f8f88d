use Rattle.std.proofs.Common.{arith}
use Rattle.cf_words.proofs.SizeLemmas.{size_hit, size_miss, size_none}
use Rattle.cf_words.proofs.size.size_of.Goals as goal

pub returns-then-eq-clause-size : goal.returns-then-eq-clause-size
returns-then-eq-clause-size c =
    size_hit c.args.word.now c.format.result.now c.loop-i.i c.eq.result (omega arith) c.eq.ensures c.format.ensures.text c.loop-i.invariant c.if-eq.true

pub loop-i-preserved : goal.loop-i-preserved
loop-i-preserved c =
    size_miss c.args.word.now c.format.result.now c.loop-i.i c.eq.result (omega arith) c.eq.ensures c.format.ensures.text c.loop-i.invariant c.if-eq.false

pub returns-clause-size : goal.returns-clause-size
returns-clause-size c = size_none c.args.word.now c.loop-i.i (omega arith) c.loop-i.invariant
