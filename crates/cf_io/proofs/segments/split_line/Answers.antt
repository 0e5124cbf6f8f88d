use Rattle.std.proofs.Common.{arith}
use Rattle.cf_io.proofs.LineLemmas.{line_cut, line_none}
use Rattle.cf_io.proofs.segments.split_line.Goals as goal

pub returns-then-n-text-clause-lines : goal.returns-then-n-text-clause-lines
returns-then-n-text-clause-lines c = λ w. line_cut w c.args.text.now c.line_len-n.result c.line_len-n.ensures.count c.if-n-text.true

pub returns-else-n-text-clause-lines : goal.returns-else-n-text-clause-lines
returns-else-n-text-clause-lines c =
    λ w. line_none w c.args.text.now c.line_len-n.result c.line_len-n.ensures.count c.line_len-n.ensures.size (omega (arith, c.if-n-text.false))
