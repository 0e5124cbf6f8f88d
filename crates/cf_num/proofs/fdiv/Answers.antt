use Rattle.std.proofs.Common.{◌≡◌, rules, to_z, of_z}
use Rattle.std.specs.Int.{w128, int_div_euclid}
use Rattle.cf_num.proofs.DivisionLemmas.{IsFloor-int_div_euclid}
use Rattle.cf_num.proofs.fdiv.Goals as goal

pub returns-clause-floor : goal.returns-clause-floor
returns-clause-floor c =
    let e : to_z w128 (of_z w128 c.div_euclid.result) ≡ int_div_euclid c.args.a c.args.k = search rules in
    rw e (IsFloor-int_div_euclid c.args.a c.args.k c.requires.k_positive)
