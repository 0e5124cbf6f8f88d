use Rattle.std.proofs.Common.{◌≡◌, drop}
use Rattle.cf_print_block.specs.Places.{behind}
use Rattle.cf_print_block.proofs.values.behind.Given as goal

abbrev pub invariant-loop-value : goal.invariant-loop-value
invariant-loop-value l = behind l.scope (drop l.value-index l.values) ≡ behind l.fn.scope l.values
