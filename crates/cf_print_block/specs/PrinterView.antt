-- What a printer of the program is to write, and by which names.
use Rattle.std.specs.Prelude.{ℕ, List, [], ◌∷◌, nat_eq, if◌then◌else◌}
use Rattle.cf_print_block.specs.Places.{Setting}
use Rattle.cf_print_block.specs.declared.printer.Outputs.{Outputs}
use Rattle.cf_print_block.specs.declared.printer.Printer.{Printer}

-- the names of the outputs of the choose of a number
abbrev pub outputs_in : List Outputs → ℕ → List (List ℕ)
outputs_in [] n = []
outputs_in (o ∷ os) n = if nat_eq o.number n then o.names.items else outputs_in os n

unfoldable pub setting_in : Printer → Setting
setting_in p = record { language = p.language; results = p.results.now; outputs = outputs_in p.outputs.now }
