use Rattle.std.proofs.Common.{map, ap, subst, arith, ◌∙◌}
use Rattle.std.proofs.lemmas.List.{take_all}
use Rattle.cf_linear.specs.Arm.{lower_code}
use Rattle.cf_choose.specs.Fitting.{pair_of, PairsFit}
use Rattle.cf_choose.proofs.BoundLemmas.{pairs_more, codes_more}
use Rattle.cf_choose.proofs.codes.lower_codes.Goals as goal

pub loop-bound-preserved : goal.loop-bound-preserved
loop-bound-preserved c = record {
  codes = codes_more (lower_code c.args.names.now) c.args.bounds.now c.loop-bound.bound-index c.bound-item.result c.loop-bound.parts.items
      c.push.new.self.items c.in_ok-lower_code.field-0 c.loop-bound-test.true c.bound-item.is
      c.in_ok-push.ensures.items c.in_ok-lower_code.ensures.code c.loop-bound.invariant.codes;
  fit = pairs_more c.args.bounds.now c.loop-bound.bound-index c.bound-item.result c.loop-bound-test.true c.bound-item.is c.loop-bound.invariant.fit
      c.in_ok-lower_code.ensures.fits;
}

pub returns-clause-codes : goal.returns-clause-codes
returns-clause-codes c = c.loop-bound.invariant.codes ∙ ap (λ bs. map (lower_code c.args.names.now) (map pair_of bs))
    (take_all c.loop-bound.bound-index c.args.bounds.now (omega (arith, c.loop-bound-test.false)))

pub returns-clause-fit : goal.returns-clause-fit
returns-clause-fit c = subst (λ bs. PairsFit (map pair_of bs))
    (take_all c.loop-bound.bound-index c.args.bounds.now (omega (arith, c.loop-bound-test.false))) c.loop-bound.invariant.fit
