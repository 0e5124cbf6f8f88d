use Rattle.cf_warn.proofs.MatchClasses.{matches_have_classes}
use Rattle.cf_warn.proofs.coverage.matches_have_classes.Goals as goal

pub returns : goal.returns
returns c = matches_have_classes
