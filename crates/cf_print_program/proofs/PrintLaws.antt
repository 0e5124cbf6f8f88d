-- What makes a text the print of a program.
use Rattle.std.proofs.Common.{◌≡◌, ℕ, List, [], true, false}
use Rattle.cf_print_shape.specs.Shapes.{leaves_at_ends}
use Rattle.cf_print_shape.specs.Nones.{nones_of}
use Rattle.cf_print_program.specs.Printed.{Printing, Names, printed, are_statuses, IsPrint}

pub is_a_print : (names : Names) (p : Printing) (text : List ℕ) → text ≡ printed names p → leaves_at_ends false p.body ≡ true →
    are_statuses p.language (nones_of p.body []) ≡ true → IsPrint p text
is_a_print names p text same leaves statuses = record { names = names; is = same; leaves = leaves; statuses = statuses }
