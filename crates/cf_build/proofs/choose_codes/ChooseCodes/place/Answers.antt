use Rattle.std.proofs.Common.{rules, ◌≡◌, ltb, true, false, subst, sym}
use Rattle.std.specs.List.Sorted.{IsPartitionedBy, IsPartitionPoint}
use Rattle.std.proofs.lemmas.List.Sorted.{IsPartitionedBy-ltb, IsPartitionPoint-from_clause}
use Rattle.cf_build.proofs.CodeOrder.{numbers_rise, smaller_before}
use Rattle.cf_build.proofs.choose_codes.ChooseCodes.place.Goals as goal

pub returns-clause-smaller : goal.returns-clause-smaller
returns-clause-smaller c =
    let codes = c.args.self.now.codes.items in
    let parted = IsPartitionedBy-ltb (λ y. y.number) codes c.args.number (numbers_rise codes c.args.self.now.rising) in
    let point = IsPartitionPoint-from_clause (λ y. ltb y.number c.args.number) c.deref.result.now c.partition_point.result
    c.partition_point.ensures.partitioned (subst (λ cs. IsPartitionedBy (λ y. ltb y.number c.args.number) cs) (sym c.deref.ensures.value) parted)
    (λ a r f called. search rules) in
    smaller_before codes c.partition_point.result c.args.number
    (subst (λ cs. IsPartitionPoint (λ y. ltb y.number c.args.number ≡ true) (λ y. ltb y.number c.args.number ≡ false) cs c.partition_point.result)
    c.deref.ensures.value point)
