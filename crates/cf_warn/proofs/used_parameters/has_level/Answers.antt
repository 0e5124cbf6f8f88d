use Rattle.cf_warn.proofs.ParameterLaws.{place_decides}
use Rattle.cf_warn.proofs.used_parameters.has_level.Goals as goal

pub returns : goal.returns
returns c = rw c.place.ensures.value (place_decides c.args.x c.args.levels.now)
