-- What an emission of the program says is to be printed, and the names that it wishes for.
use Rattle.cf_stmt.specs.BlockView.{block_tree}
use Rattle.cf_print_block.specs.PrinterView.{outputs_in}
use Rattle.cf_print_program.specs.Printed.{Printing, Names}
use Rattle.cf_print_program.specs.declared.emission.Emission.{Emission}
use Rattle.cf_print_program.specs.declared.emission.Hints.{Hints}

abbrev pub printing_of : Emission → Printing
printing_of e =
    record {
      language = e.language;
      has_main = e.has_main;
      name = e.name.now;
      source = e.source.now;
      params = e.params.now;
      results = e.results.now;
      body = block_tree e.body.now;
    }

abbrev pub names_in : Hints → Names
names_in h = record { params = h.params.items; outputs = outputs_in h.outputs.items; results = h.results.items }
