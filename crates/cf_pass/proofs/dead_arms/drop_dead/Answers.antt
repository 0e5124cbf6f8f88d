use Rattle.std.proofs.Common.{rules, arith, ◌≡◌, length, ap}
use Rattle.cf_tree.specs.CodeView.{arm_trees}
use Rattle.cf_pass.specs.DropArms.{arm_count}
use Rattle.cf_pass.proofs.DeadLists.{as_many_arms, left_fewer}
use Rattle.cf_pass.proofs.dead_arms.drop_dead.Goals as goal

pub overflow_sub-result : goal.overflow_sub-result
overflow_sub-result c =
    let before : c.len-before.result ≡ length c.args.arms.now.items = search rules in
    let after : c.len.result ≡ length c.keep_live.new.arms.items = search rules in
    let left = ap arm_count c.keep_live.ensures in
    omega (
      arith,
      before,
      after,
      left,
      as_many_arms c.args.arms.now.items,
      as_many_arms c.keep_live.new.arms.items,
      left_fewer (arm_trees c.args.arms.now.items),
    )

pub returns-clause-removed : goal.returns-clause-removed
returns-clause-removed c =
    let before : c.len-before.result ≡ length c.args.arms.now.items = search rules in
    let after : c.len.result ≡ length c.keep_live.new.arms.items = search rules in
    let left = ap arm_count c.keep_live.ensures in
    omega (arith, before, after, left, as_many_arms c.args.arms.now.items, as_many_arms c.keep_live.new.arms.items)
