use Rattle.std.proofs.Common.{◌≤◌, Vec, Global, map, subst, sym, ap, ◌∙◌}
use Rattle.cf_tree.specs.declared.rel.Term.{Term}
use Rattle.cf_tree.specs.RelView.{term_tree, rel_tree}
use Rattle.cf_linear.specs.declared.refusal.TheConstants.{MOST_SETS}
use Rattle.cf_linear.specs.Layout.{set_count}
use Rattle.cf_linear.specs.Views.{plain_layout}
use Rattle.cf_choose.specs.Laws.{IsUnrefused}
use Rattle.cf_warn.proofs.CaseNeeds.{sets_few}
use Rattle.cf_warn.proofs.QuestionLaws.{said_all}
use Rattle.cf_warn.proofs.none_question.written.Goals as goal

pub first_forms-requires : goal.first_forms-requires
first_forms-requires c =
    let p = c.args.solved.now in
    let s = c.layout.ensures.solved in
    let u : IsUnrefused p.scope.items p.outputs.items (rel_tree p.rel) =
    record { typed = s.typed; linear = s.linear; are_outputs = s.are_outputs; within = s.within } in
    subst (λ l. set_count l ≤ MOST_SETS) (sym c.layout.ensures.levels) (sets_few p.scope.items p.outputs.items (rel_tree p.rel) u)

pub returns-clause-says : goal.returns-clause-says
returns-clause-says c =
    let p = c.args.solved.now in
    said_all p.scope.items p.outputs.items (rel_tree p.rel) c.new-draft.result c.cases.new.self (plain_layout c.layout.result.now) c.args.params.now c.requires
    c.layout.ensures.levels (ap (λ (v : Vec Term Global). map term_tree v.items) c.new-draft.ensures.first ∙ c.in_ok-first.ensures)
    (c.new-draft.ensures.level ∙ c.in_ok-level.ensures) c.new-draft.ensures.says c.in_ok-cases.ensures
