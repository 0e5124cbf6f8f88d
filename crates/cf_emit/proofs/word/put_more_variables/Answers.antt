use Rattle.std.proofs.Common.{arith}
use Rattle.cf_emit.proofs.Variables.{more_step}
use Rattle.cf_emit.proofs.word.put_more_variables.Goals as goal

pub loop-i-preserved : goal.loop-i-preserved
loop-i-preserved c =
    more_step c.args.first c.args.count c.loop-i.i c.loop-i.out.items c.extend_from_slice.new.self.items c.put_variable.new.out.items _ (omega arith)
    c.loop-i.invariant
    c.in_ok-extend_from_slice.ensures.items c.in_ok-put_variable.ensures
