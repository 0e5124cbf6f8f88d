use Rattle.std.proofs.Common.{◌≡◌, ◌++◌, drop}
use Rattle.cf_print_block.specs.Statements.{given_texts}
use Rattle.cf_print_block.proofs.values.texts_of.Given as goal

abbrev pub invariant-loop-value : goal.invariant-loop-value
invariant-loop-value l = l.all.items ++ given_texts l.language (drop l.value-index l.values) ≡ given_texts l.language l.values
