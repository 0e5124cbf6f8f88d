use Rattle.cf_answer.proofs.emit.print_of.Goals as goal

pub returns-in-Ok : goal.returns-in-Ok
returns-in-Ok c = rw (c.as_bytes.ensures.value, c.params.ensures, c.results.ensures) at c.in-Ok.ensures.text
