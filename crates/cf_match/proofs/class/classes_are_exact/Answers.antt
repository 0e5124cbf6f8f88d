use Rattle.cf_match.proofs.ClassLaws.{class_is}
use Rattle.cf_match.proofs.class.classes_are_exact.Goals as goal

pub returns : goal.returns
returns c = class_is
