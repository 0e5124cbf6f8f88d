use Rattle.std.proofs.Common.{ap, ◌∙◌, map, subst, sym}
use Rattle.cf_tree.specs.DefView.{def_tree}
use Rattle.cf_match.specs.Laws.{AllowTheSame}
use Rattle.cf_build.proofs.LoweredAnswers.{answer_kept}
use Rattle.cf_build.proofs.building.build.Goals as goal

pub returns-clause-answer : goal.returns-clause-answer
returns-clause-answer g c =
    let same = c.typed.ensures.value in
    answer_kept _ _ _ _ _ _ _ (ap (λ t. map def_tree t.defs.items) same ∙ c.in_ok-lowered.ensures.defs) (ap (λ t. t.main) same ∙ c.in_ok-lowered.ensures.main)
    (subst (λ t. AllowTheSame (map def_tree c.args.typed.now.defs.items) (map def_tree t.defs.items)) (sym same) c.in_ok-lowered.ensures.outcomes)
    c.build_lowered.ensures.answer
