use Rattle.std.proofs.Common.{arith, rules, sym, subst}
use Rattle.cf_tree.specs.Sets.{AreWithin}
use Rattle.cf_eval.specs.Seen.{plains}
use Rattle.cf_late.proofs.ValuesLaws.{numbers_all, numbers_next, numbers_within}
use Rattle.cf_late.proofs.operate.numbers_in.Goals as goal

pub loop-value-preserved : goal.loop-value-preserved
loop-value-preserved c =
    numbers_next c.args.values.now c.loop-value.value-index c.value-item.result _ _ _ (omega arith) c.value-item.is (search rules)
    c.in_ok-push.ensures.items c.loop-value.invariant

pub returns-clause-value : goal.returns-clause-value
returns-clause-value c =
    numbers_all c.args.values.now c.loop-value.value-index _ (omega (arith, c.loop-value-test.false)) c.loop-value.invariant

pub returns-clause-within : goal.returns-clause-within
returns-clause-within c =
    let all = numbers_all c.args.values.now c.loop-value.value-index _ (omega (arith, c.loop-value-test.false)) c.loop-value.invariant in
    subst AreWithin (sym all) (numbers_within (plains c.args.values.now) c.requires)
