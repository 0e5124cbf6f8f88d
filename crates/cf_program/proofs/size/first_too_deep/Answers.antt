use Rattle.std.proofs.Common.{rules, ◌≡◌, ◌++◌, ◌∷◌, [], IfOk, option_map, subst, arith}
use Rattle.cf_program.specs.Counted.{depth_of}
use Rattle.cf_program.specs.Size.{depth_in, passed_at}
use Rattle.cf_program.proofs.CountedLaws.{depth_lowered}
use Rattle.cf_program.proofs.SizeLemmas.{measured_goes_on, measured_passes}
use Rattle.cf_program.proofs.size.first_too_deep.Goals as goal

pub returns-then-depth-gt-DEPTH_LIMIT : goal.returns-then-depth-gt-DEPTH_LIMIT
returns-then-depth-gt-DEPTH_LIMIT c =
    subst (λ p. IfOk c.passed_behind.result (λ o. option_map passed_at o ≡ p))
    (measured_passes 200 depth_in depth_of c.args.defs.now c.loop-def.def-index c.def-item.result c.loop-def.known.items c.deref.result.now
    c.deref-then-depth-gt-DEPTH_LIMIT.result.now c.depth-depth.result _
    depth_lowered c.loop-def-test.true c.def-item.is (cc) (cc) c.depth-depth.ensures (omega arith) c.loop-def.invariant)
    c.passed_behind.ensures

pub loop-def-preserved : goal.loop-def-preserved
loop-def-preserved c =
    let pushed : c.push.new.self.items ≡ c.loop-def.known.items ++ c.depth-depth.result ∷ [] = search rules in
    rw pushed
    (measured_goes_on 200 depth_in depth_of c.args.defs.now c.loop-def.def-index c.def-item.result c.loop-def.known.items c.deref.result.now
    c.depth-depth.result _
    (omega arith) depth_lowered c.loop-def-test.true c.def-item.is (cc) c.depth-depth.ensures (omega arith) c.loop-def.invariant)
