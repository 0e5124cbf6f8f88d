use Rattle.std.proofs.Common.{◌≡◌, ◌++◌, drop}
use Rattle.cf_print_line.specs.Heads.{parameter_texts}
use Rattle.cf_print_line.proofs.heads.parameter_texts.Given as goal

abbrev pub invariant-loop-name : goal.invariant-loop-name
invariant-loop-name l =
    l.all.items ++ parameter_texts l.language (drop l.name-index l.names) l.left ≡ parameter_texts l.language l.names l.bases
