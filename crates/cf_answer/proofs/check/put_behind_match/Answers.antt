use Rattle.cf_answer.proofs.BesideLemmas.{nothing_behind_match}
use Rattle.cf_answer.proofs.check.put_behind_match.Goals as goal

pub returns-in-Two : goal.returns-in-Two
returns-in-Two c = nothing_behind_match c.args.edition c.args.number c.args.classes.now _ c.in-Two.is
