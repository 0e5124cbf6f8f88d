use Rattle.std.proofs.Common.{◌≡◌, ◌++◌, drop}
use Rattle.cf_print_c.specs.Files.{below_texts}
use Rattle.cf_print_c.proofs.opening.below_texts.Given as goal

abbrev pub invariant-loop-name : goal.invariant-loop-name
invariant-loop-name l = l.all.items ++ below_texts (drop l.name-index l.names) l.left ≡ below_texts l.names l.bases
