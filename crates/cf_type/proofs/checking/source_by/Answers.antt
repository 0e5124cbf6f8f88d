use Rattle.cf_tree.specs.DefView.{program_tree}
use Rattle.cf_program.specs.Typed.{typed_tree}
use Rattle.cf_type.proofs.CheckLemmas.{source_goes_on, source_is}
use Rattle.cf_type.proofs.checking.source_by.Goals as goal

pub returns-in-Ok-clause-typed : goal.returns-in-Ok-clause-typed
returns-in-Ok-clause-typed c =
    let items = program_tree c.args.program.now in
    let t = c.in-Ok.source in
    source_is c.args.how items t c.requires (source_goes_on c.args.how items (typed_tree t) c.in-Ok.ensures)
