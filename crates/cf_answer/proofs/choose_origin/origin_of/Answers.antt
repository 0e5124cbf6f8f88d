use Rattle.cf_answer.proofs.OriginLemmas.{found_arm, found_none}
use Rattle.cf_answer.proofs.choose_origin.origin_of.Goals as goal

pub returns-in-Ok-arm_place : goal.returns-in-Ok-arm_place
returns-in-Ok-arm_place c =
    found_arm c.args.matches.now.infos.now c.args.matches.now.arms.now c.requires c.in-Ok-arm_place.field-0 c.args.number c.in-Ok-arm_place.ensures.found

pub returns-in-Err-arm_place : goal.returns-in-Err-arm_place
returns-in-Err-arm_place c =
    found_none c.args.matches.now.infos.now c.args.matches.now.arms.now c.requires c.args.number c.in-Err.ensures.absent c.in-Err-arm_place.ensures.absent
