use Rattle.std.proofs.Common.{◌≤◌, ◌<◌, ◌-◌, ◌^◌, length, arith}
use Rattle.cf_linear.specs.Views.{system_of}
use Rattle.cf_bounds.specs.Picking.{pick_of}
use Rattle.cf_elim.specs.Stages.{past_clean}
use Rattle.cf_elim.proofs.ActLaws.{on_ok, bound_added}
use Rattle.cf_elim.proofs.BoundLaws.{picks, picks_in, picks_exact, bound_out, bound_staged}
use Rattle.cf_elim.proofs.bound.bound_stage.Goals as goal

pub returns-then-tuples-gt-MOST_TUPLES-clause-stage : goal.returns-then-tuples-gt-MOST_TUPLES-clause-stage
returns-then-tuples-gt-MOST_TUPLES-clause-stage c =
    let s = past_clean (system_of c.args.system) c.args.tuples in
    let few : length c.args.system.inequalities.items < 2 ^ 32 = omega arith in
    let le : c.args.tuples ≤ 2 ^ 64 - 1 = omega (arith, c.ranges.tuples) in
    let p = picks s (pick_of c.select-pick.result) c.saturating_mul-tuples.result c.requires.some (c.select-pick.ensures few) le c.saturating_mul-tuples.ensures
    in
    bound_out s (pick_of c.select-pick.result) c.saturating_mul-tuples.result p (omega (arith, c.if-tuples-gt-MOST_TUPLES.true))

pub searched_by-requires-clause-unknown : goal.searched_by-requires-clause-unknown
searched_by-requires-clause-unknown c =
    let few : length c.args.system.inequalities.items < 2 ^ 32 = omega arith in
    picks_in (system_of c.args.system) (pick_of c.select-pick.result) c.requires.some (c.select-pick.ensures few)

pub searched_by-requires-clause-exact : goal.searched_by-requires-clause-exact
searched_by-requires-clause-exact c =
    let few : length c.args.system.inequalities.items < 2 ^ 32 = omega arith in
    picks_exact (system_of c.args.system) (pick_of c.select-pick.result) c.requires.some (c.select-pick.ensures few)

pub returns-in-Ok-searched_by-clause-acts : goal.returns-in-Ok-searched_by-clause-acts
returns-in-Ok-searched_by-clause-acts c =
    let few : length c.args.system.inequalities.items < 2 ^ 32 = omega arith in
    on_ok c.searched_stage.result
    (bound_added (system_of c.args.system) (pick_of c.select-pick.result) c.args.acts.now.items c.put_bound.new.acts.items c.requires.some
    (c.select-pick.ensures few) c.in-Ok.ensures)

pub returns-in-Ok-searched_by-clause-stage : goal.returns-in-Ok-searched_by-clause-stage
returns-in-Ok-searched_by-clause-stage c =
    let s = past_clean (system_of c.args.system) c.args.tuples in
    let few : length c.args.system.inequalities.items < 2 ^ 32 = omega arith in
    let le : c.args.tuples ≤ 2 ^ 64 - 1 = omega (arith, c.ranges.tuples) in
    let p = picks s (pick_of c.select-pick.result) c.saturating_mul-tuples.result c.requires.some (c.select-pick.ensures few) le c.saturating_mul-tuples.ensures
    in
    bound_staged s (pick_of c.select-pick.result) c.saturating_mul-tuples.result c.in-Ok-searched_by.searched c.searched_stage.result p
    (omega (arith, c.if-tuples-gt-MOST_TUPLES.false)) c.in-Ok-searched_by.ensures c.searched_stage.ensures
