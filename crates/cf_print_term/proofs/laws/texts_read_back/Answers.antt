use Rattle.cf_print_term.proofs.ReadsBack.{text_reads_back}
use Rattle.cf_print_term.proofs.laws.texts_read_back.Goals as goal

pub returns : goal.returns
returns c = text_reads_back
