use Rattle.std.proofs.Common.{◌∙◌, [], map}
use Rattle.std.proofs.lemmas.Result.{IfOk-weaker}
use Rattle.cf_tree.specs.DefView.{def_tree}
use Rattle.cf_build.specs.Chooses.{solve_of}
use Rattle.cf_build.specs.Codes.{called, codes_behind}
use Rattle.cf_shift.proofs.ShiftedNone.{shifted_none}
use Rattle.cf_build.proofs.codes.main_code.Goals as goal

pub returns-clause-code : goal.returns-clause-code
returns-clause-code c =
    let codes = codes_behind solve_of [] (map def_tree c.args.defs.now) in
    IfOk-weaker c.callee.result _ _ (λ code h. h.0 ∙ shifted_none (called codes c.args.main)) c.callee.ensures
