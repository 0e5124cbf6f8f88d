use Rattle.std.proofs.Common.{◌<◌, ◌^◌, rules}
use Rattle.cf_pass.proofs.WalkSteps.{units_told}
use Rattle.cf_pass.proofs.drop_lets.rewrite_lets.Goals as goal

pub returns-clause-units : goal.returns-clause-units
returns-clause-units c =
    let low : c.rewrite_each.new.rule.tally < 2 ^ 64 = search rules in
    units_told c.rewrite_each.result _ _ c.rewrite_each.ensures.units low
