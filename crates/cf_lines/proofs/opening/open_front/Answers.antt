use Rattle.cf_lines.proofs.OpenLemmas.{front_opened, short_or_long}
use Rattle.cf_lines.proofs.opening.open_front.Goals as goal

pub returns-in-Err : goal.returns-in-Err
returns-in-Err g c =
    front_opened c.args.command.now c.args.front.now c.in-Err.fault c.on_text.result c.in-Err.ensures.is.0 c.on_text.ensures.answer c.on_text.ensures.written

pub on_text-requires-clause-short : goal.on_text-requires-clause-short
on_text-requires-clause-short g c = short_or_long c.in-Err.fault c.in-Err.ensures.is.1
