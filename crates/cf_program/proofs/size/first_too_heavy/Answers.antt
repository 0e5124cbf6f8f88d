use Rattle.std.proofs.Common.{rules, ◌≡◌, ◌++◌, ◌∷◌, [], IfOk, option_map, subst, arith}
use Rattle.cf_program.specs.Counted.{weight_of}
use Rattle.cf_program.specs.Size.{weight_in, passed_at}
use Rattle.cf_program.proofs.CountedLaws.{weight_lowered}
use Rattle.cf_program.proofs.SizeLemmas.{measured_goes_on, measured_passes}
use Rattle.cf_program.proofs.size.first_too_heavy.Goals as goal

pub returns-then-weight-gt-WEIGHT_LIMIT : goal.returns-then-weight-gt-WEIGHT_LIMIT
returns-then-weight-gt-WEIGHT_LIMIT c =
    subst (λ p. IfOk c.passed_behind.result (λ o. option_map passed_at o ≡ p))
    (measured_passes 1000000 weight_in weight_of c.args.defs.now c.loop-def.def-index c.def-item.result c.loop-def.known.items c.deref.result.now
    c.deref-then-weight-gt-WEIGHT_LIMIT.result.now c.weight-weight.result _
    weight_lowered c.loop-def-test.true c.def-item.is (cc) (cc) c.weight-weight.ensures (omega arith) c.loop-def.invariant)
    c.passed_behind.ensures

pub loop-def-preserved : goal.loop-def-preserved
loop-def-preserved c =
    let pushed : c.push.new.self.items ≡ c.loop-def.known.items ++ c.weight-weight.result ∷ [] = search rules in
    rw pushed
    (measured_goes_on 1000000 weight_in weight_of c.args.defs.now c.loop-def.def-index c.def-item.result c.loop-def.known.items c.deref.result.now
    c.weight-weight.result _
    (omega arith) weight_lowered c.loop-def-test.true c.def-item.is (cc) c.weight-weight.ensures (omega arith) c.loop-def.invariant)
