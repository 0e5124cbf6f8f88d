-- What stands between the two parts of an operation.
use Rattle.std.specs.Prelude.{List, ℕ, [], codes}
use Rattle.cf_tree.specs.CodeTree.{CodeTree, code_sub, code_mul, code_compare, code_and, code_or, code_diff, code_subset}
use Rattle.cf_emit.specs.Printed.{order_text}

abbrev pub between_text : CodeTree → List ℕ
between_text (code_sub a b) = codes " - "
between_text (code_mul a b) = codes " * "
between_text (code_compare o a b) = order_text o
between_text (code_and a b) = codes " && "
between_text (code_or a b) = codes " || "
between_text (code_diff a b) = codes " diff "
between_text (code_subset a b) = codes " subset "
between_text _ = []
