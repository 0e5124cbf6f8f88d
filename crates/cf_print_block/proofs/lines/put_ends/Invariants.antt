use Rattle.std.proofs.Common.{◌≡◌, ◌++◌, ◌-◌}
use Rattle.cf_print_block.specs.Statements.{loop_ends}
use Rattle.cf_print_block.proofs.lines.put_ends.Given as goal

abbrev pub invariant-loop-i : goal.invariant-loop-i
invariant-loop-i l = l.out.items ++ loop_ends l.language l.depth (l.count - l.i) ≡ l.fn.out.items ++ loop_ends l.language l.depth l.count
