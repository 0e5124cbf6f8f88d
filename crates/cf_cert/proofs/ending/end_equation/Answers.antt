use Rattle.std.proofs.Common.{subst, arith, ap}
use Rattle.cf_linear.specs.Stages.{limits}
use Rattle.cf_linear.specs.Views.{system_of}
use Rattle.cf_cert.specs.Applying.{last_at}
use Rattle.cf_cert.specs.Stepping.{ApplyIs}
use Rattle.cf_cert.proofs.StepLaws.{front_ends, front_ready, front_some, none_there}
use Rattle.cf_cert.proofs.ending.end_equation.Goals as goal

pub returns-then-index-len : goal.returns-then-index-len
returns-then-index-len c =
    ap (last_at limits (system_of c.args.system) c.args.index)
    (none_there c.args.system.equations.items c.args.index (omega (arith, c.len.ensures, c.if-index-len.true)))

pub end_alone-requires-clause-ready : goal.end_alone-requires-clause-ready
end_alone-requires-clause-ready c = front_ready (system_of c.args.system) (system_of c.with_first.result) c.args.index c.requires c.with_first.ensures

pub end_alone-requires-clause-some : goal.end_alone-requires-clause-some
end_alone-requires-clause-some c = front_some (system_of c.args.system) (system_of c.with_first.result) c.args.index c.with_first.ensures

pub returns : goal.returns
returns c =
    subst (λ a. ApplyIs a c.end_alone.result) (front_ends (system_of c.args.system) (system_of c.with_first.result) c.args.index c.with_first.ensures)
    c.end_alone.ensures
