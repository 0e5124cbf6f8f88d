use Rattle.std.proofs.Common.{None}
use Rattle.cf_print_block.proofs.LoopLaws.{name_among}
use Rattle.cf_print_block.specs.PrinterView.{setting_in}
use Rattle.cf_print_block.proofs.variables.named_by_base.Goals as goal

pub returns : goal.returns
returns c =
    name_among (setting_in c.args.printer.now) c.words_in.result.now c.args.taken.now c.args.base None c.in_ok-name.name c.words_in.ensures
    c.in_ok-name.ensures
