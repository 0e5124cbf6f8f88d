use Rattle.std.proofs.Common.{◌≡◌, map, take}
use Rattle.cf_tree.specs.RelView.{term_tree}
use Rattle.cf_warn.specs.Missing.{entry_form}
use Rattle.cf_warn.specs.Writing.{forms_of}
use Rattle.cf_warn.proofs.rows.row_form.Given as goal

abbrev pub invariant-loop-i : goal.invariant-loop-i
invariant-loop-i l = map term_tree l.parts.items ≡ map (entry_form (forms_of l.forms)) (take l.i l.row)
