use Rattle.cf_lex.proofs.EditionLemmas.{skip_next}
use Rattle.cf_lex.proofs.edition.behind_blanks.Goals as goal

pub blanks-preserved : goal.blanks-preserved
blanks-preserved c = skip_next c.args.text.now c.blanks.rest.now c.in-Skip.size c.blanks-test.ensures c.in-Skip.ensures.found c.blanks.invariant
