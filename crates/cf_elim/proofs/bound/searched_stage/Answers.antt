use Rattle.cf_elim.proofs.BoundLaws.{searched_goes}
use Rattle.cf_elim.proofs.bound.searched_stage.Goals as goal

pub returns-in-Ok : goal.returns-in-Ok
returns-in-Ok c = searched_goes c.args.searched c.args.x c.args.tuples c.in-Ok.dropped c.goes.result c.in-Ok.ensures c.goes.ensures
