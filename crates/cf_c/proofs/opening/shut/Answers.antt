use Rattle.cf_c.proofs.LineLemmas.{told_or_rose}
use Rattle.cf_c.proofs.opening.shut.Goals as goal

pub returns-clause-told : goal.returns-clause-told
returns-clause-told c = record {
  prefix = c.tell.ensures.prefix;
  whole = told_or_rose _ c.tell.ensures.all c.tell.ensures.same c.tell.ensures.failed;
}
