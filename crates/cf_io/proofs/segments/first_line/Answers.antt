use Rattle.cf_io.proofs.LineLemmas.{ended_split}
use Rattle.cf_io.proofs.segments.first_line.Goals as goal

pub returns-clause-lines : goal.returns-clause-lines
returns-clause-lines c = ended_split c.args.text.now _ c.split_line.ensures.lines
