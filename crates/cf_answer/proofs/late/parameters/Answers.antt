use Rattle.std.proofs.Common.{◌≡◌, ◌∙◌, ap, get_or}
use Rattle.std.proofs.lemmas.Result.{IfOk-weaker}
use Rattle.cf_tree.specs.Params.{bases_of}
use Rattle.cf_program.specs.Typed.{typed_tree}
use Rattle.cf_answer.specs.Picked.{main_bases}
use Rattle.cf_answer.proofs.LateLemmas.{main_below, bases_at}
use Rattle.cf_answer.proofs.late.parameters.Goals as goal

pub bounds-defs-main : goal.bounds-defs-main
bounds-defs-main c = rw (c.defs.ensures.value, c.main-main.ensures.value) (main_below c.args.late.now.defs.items c.args.late.now.main c.defs.ensures.typed)

pub returns-clause-bases : goal.returns-clause-bases
returns-clause-bases c =
    let ds = c.args.late.now.defs.items in
    let main = c.args.late.now.main in
    let d = c.index-defs-main.result in
    let stands : bases_of (get_or c.defs.result.now c.main-main.result d).params.items ≡ main_bases (typed_tree c.args.late.now) =
    rw (c.defs.ensures.value, c.main-main.ensures.value) (bases_at ds main d (main_below ds main c.defs.ensures.typed)) in
    IfOk-weaker c.bases.result _ _ (λ bases is. is ∙ ap bases_of c.deref.ensures.value ∙ stands) c.bases.ensures
