use Rattle.std.proofs.Common.{arith}
use Rattle.cf_answer.proofs.SumLemmas.{line_more, line_end}
use Rattle.cf_answer.proofs.sum.sum_of_replies.Goals as goal

pub lines-preserved : goal.lines-preserved
lines-preserved c = record {
  added = line_more c.args.target.now c.args.bytes.now c.lines.rest.now c.cut_line.result.0.now c.cut_line.result.1.now c.lines.sum.total c.in_ok-sum.sum.total
      _ c.cut_line.ensures.lines c.in_ok-sum_of_line.ensures c.in_ok-sum.ensures c.lines.invariant.added;
}

pub returns : goal.returns
returns c = line_end c.args.target.now c.args.bytes.now c.lines.rest.now c.lines.sum.total (omega (arith, c.lines-test.false)) c.lines.invariant.added
