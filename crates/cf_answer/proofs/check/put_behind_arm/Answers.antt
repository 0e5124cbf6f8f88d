use Rattle.std.proofs.lemmas.Result.{on_ok_weaker}
use Rattle.cf_answer.specs.FrontView.{file_view}
use Rattle.cf_answer.proofs.BesideLemmas.{nothing_behind_arm, beside_behind_arm}
use Rattle.cf_answer.proofs.check.put_behind_arm.Goals as goal

pub returns-in-Two : goal.returns-in-Two
returns-in-Two c = nothing_behind_arm (file_view c.args.file.now) c.args.choose.now _ c.in-Two.is

pub returns-in-Three : goal.returns-in-Three
returns-in-Three c =
    on_ok_weaker c.put_beside_arm.result (λ h. beside_behind_arm (file_view c.args.file.now) c.args.choose.now _ _ c.in-Three.is h) c.put_beside_arm.ensures
