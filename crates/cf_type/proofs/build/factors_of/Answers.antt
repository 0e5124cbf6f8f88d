use Rattle.std.proofs.Common.{map, sym, ap, ◌∙◌, arith}
use Rattle.std.proofs.lemmas.List.{take_all}
use Rattle.std.proofs.lemmas.Simd.{map-map}
use Rattle.cf_type.specs.FormView.{summand_of}
use Rattle.cf_type.proofs.Loops.{made_more}
use Rattle.cf_type.proofs.build.factors_of.Goals as goal

pub loop-summand-preserved : goal.loop-summand-preserved
loop-summand-preserved c =
    made_more (λ x. x.factor) c.args.summands.now c.loop-summand.summand-index c.summand-item.result c.loop-summand.all.items c.push_factor.new.factors.items
    (omega arith) c.summand-item.is c.loop-summand.invariant c.in_ok-push_factor.ensures

pub returns : goal.returns
returns c =
    c.loop-summand.invariant ∙ ap (map (λ x. x.factor)) (take_all c.loop-summand.summand-index c.args.summands.now (omega arith))
    ∙ sym (map-map (λ x. x.factor) summand_of c.args.summands.now)
