use Rattle.std.proofs.Common.{sym}
use Rattle.cf_linear.specs.Views.{system_of}
use Rattle.cf_equation.proofs.EndValues.{last_is}
use Rattle.cf_equation.proofs.end.end.Goals as goal

pub returns-in_ok-one_row-in-Ok-clause-value : goal.returns-in_ok-one_row-in-Ok-clause-value
returns-in_ok-one_row-in-Ok-clause-value c =
    rw c.in_ok-one_row-in-Ok.ensures (sym (last_is (system_of c.args.system) c.args.u c.in_ok-solved.solved c.in-Ok.left c.in_ok-solved.ensures
    c.in-Ok.ensures.value))
