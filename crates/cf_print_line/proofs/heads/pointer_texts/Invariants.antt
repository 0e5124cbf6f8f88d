use Rattle.std.proofs.Common.{◌≡◌, ◌++◌, drop}
use Rattle.cf_print_line.specs.Heads.{pointer_texts}
use Rattle.cf_print_line.proofs.heads.pointer_texts.Given as goal

abbrev pub invariant-loop-name : goal.invariant-loop-name
invariant-loop-name l =
    l.all.items ++ pointer_texts (drop l.name-index l.names) l.left ≡ l.fn.params.items ++ pointer_texts l.names l.bases
