use Rattle.std.proofs.Common.{◌∙◌}
use Rattle.cf_linear.specs.Views.{plain_layout}
use Rattle.cf_elim.specs.Stages.{made_answer}
use Rattle.cf_cert.proofs.ArmsLaws.{arm_made}
use Rattle.cf_cert.proofs.arms.case_arm.Goals as goal

pub returns-in-Ok-arm_of : goal.returns-in-Ok-arm_of
returns-in-Ok-arm_of c =
    let e = c.in-Ok.ensures in
    (made_answer e.0 c.in-Ok.made, e.1, c.in-Ok-arm_of.ensures ∙ arm_made (plain_layout c.args.layout.now) e.0 c.in-Ok.made)
