use Rattle.std.proofs.Common.{◌<◌, ◌≤◌, length, arith}
use Rattle.cf_tree.specs.RawView.{part_trees}
use Rattle.cf_program.specs.Walk.{with_parts}
use Rattle.cf_type.specs.FormView.{context_of, pattern_of}
use Rattle.cf_type.proofs.PatternLemmas.{part_fails, parts_end}
use Rattle.cf_type.proofs.pattern.add_parts.Goals as goal

pub returns-in-Err : goal.returns-in-Err
returns-in-Err c =
    let l = c.loop-part in
    let parts = c.args.parts.now in
    let whole = with_parts (context_of c.args.context.now) c.args.scope.now (pattern_of c.args.pattern.now) (part_trees parts) in
    let within : l.part-index < length parts = omega (arith, c.loop-part-test.true) in
    part_fails (context_of c.args.context.now) c.args.scope.now parts l.part-index (pattern_of l.pattern) whole l.invariant c.part-item.result within
    c.part-item.is c.in-Err.fault c.in-Err.ensures

pub returns : goal.returns
returns c =
    let l = c.loop-part in
    let parts = c.args.parts.now in
    let whole = with_parts (context_of c.args.context.now) c.args.scope.now (pattern_of c.args.pattern.now) (part_trees parts) in
    let end : length parts ≤ l.part-index = omega arith in
    parts_end (context_of c.args.context.now) c.args.scope.now parts l.part-index (pattern_of l.pattern) whole l.invariant end
