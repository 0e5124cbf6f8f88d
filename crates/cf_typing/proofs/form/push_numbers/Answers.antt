use Rattle.std.proofs.Common.{arith}
use Rattle.cf_typing.proofs.Lengths.{number_step}
use Rattle.cf_typing.proofs.form.push_numbers.Goals as goal

pub loop-bound-preserved : goal.loop-bound-preserved
loop-bound-preserved c =
    number_step c.args.bounds.now c.loop-bound._bound-index c.args.scope.now.items c.loop-bound.scope.items c.push.new.self.items (omega arith)
    c.loop-bound.invariant c.in_ok-push.ensures.items
