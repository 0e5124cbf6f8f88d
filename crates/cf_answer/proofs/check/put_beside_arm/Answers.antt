use Rattle.std.proofs.Common.{◌∙◌, ◌∷◌, [], ap, map}
use Rattle.std.proofs.lemmas.Result.{on_ok_weaker}
use Rattle.cf_form.specs.ToldView.{told_branch}
use Rattle.cf_tree.specs.RelView.{rel_tree}
use Rattle.cf_answer.specs.FrontView.{file_view}
use Rattle.cf_answer.specs.Tells.{arm_branch}
use Rattle.cf_answer.proofs.BesideLemmas.{arm_beside}
use Rattle.cf_answer.proofs.check.put_beside_arm.Goals as goal

pub returns : goal.returns
returns c =
    let branches = ap (map told_branch) c.deref.ensures.value ∙ c.in_ok-branches.ensures ∙ ap (λ r. arm_branch (rel_tree r) ∷ []) c.relation.ensures.value in
    let first = rw c.deref-2.ensures.value at c.in_ok-extend_from_slice.ensures.items in
    on_ok_weaker c.put_tuples.result
    (λ h. arm_beside (file_view c.args.file.now) c.args.choose.now _ _ _ _ _ c.scope.ensures.value c.outputs.ensures.value c.outputs-2.ensures.value branches
    c.output_names-names.ensures c.args.levels.now c.in_ok-lines.lines.items c.in_ok-tuples.tuples _ _ _ c.requires c.in_ok-lines.ensures first
    c.in_ok-tuples.ensures h) c.put_tuples.ensures
