use Rattle.std.proofs.Common.{◌≡◌, rules, neg_ℤ, to_z, of_z}
use Rattle.std.specs.Int.{w128, int_div_euclid}
use Rattle.cf_num.proofs.DivisionLemmas.{IsCeiling-int_div_euclid}
use Rattle.cf_num.proofs.cdiv.Goals as goal

pub returns-clause-ceiling : goal.returns-clause-ceiling
returns-clause-ceiling c =
    let e : to_z w128 (of_z w128 c.neg-2.result) ≡ neg_ℤ (int_div_euclid (neg_ℤ c.args.a) c.args.k) = search rules in
    rw e (IsCeiling-int_div_euclid c.args.a c.args.k c.requires.k_positive)
