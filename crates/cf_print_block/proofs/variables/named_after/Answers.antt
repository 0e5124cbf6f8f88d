use Rattle.std.proofs.Common.{Some}
use Rattle.cf_print_block.proofs.LoopLaws.{name_among}
use Rattle.cf_print_block.specs.PrinterView.{setting_in}
use Rattle.cf_print_block.proofs.variables.named_after.Goals as goal

pub returns : goal.returns
returns c =
    name_among (setting_in c.args.printer.now) c.words_in.result.now c.args.taken.now c.args.base (Some c.args.wish.now) c.in_ok-name.name c.words_in.ensures
    c.in_ok-name.ensures
