use Rattle.std.proofs.Common.{ap, ◌∙◌}
use Rattle.cf_tree.specs.CodeView.{arm_trees}
use Rattle.cf_choose.specs.Precondition.{all_needs}
use Rattle.cf_choose.proofs.NeedLaws.{precondition_of}
use Rattle.cf_choose.proofs.needs.precondition.Goals as goal

pub returns-clause-holds : goal.returns-clause-holds
returns-clause-holds c = precondition_of c.args.parts.now _ c.requires (c.in_ok-needs_of_all.ensures ∙ ap (λ v. all_needs (arm_trees v)) c.deref.ensures.value)
