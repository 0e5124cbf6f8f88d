use Rattle.std.proofs.Common.{◌≡◌, ◌+◌, ◌∷◌, ◌++◌, drop, sym, ap, subst, ◌∙◌, arith, rules}
use Rattle.std.proofs.lemmas.List.{drop_more}
use Rattle.cf_tree.specs.declared.raw.Raw.{the_lemmas as raw_lemmas}
use Rattle.cf_tree.specs.declared.raw.RawNode.{the_lemmas as node_lemmas}
use Rattle.cf_tree.specs.declared.base.Edition.TheVariants.{Two, Three}
use Rattle.cf_tree.specs.declared.raw.RawAim.{the_lemmas as aim_lemmas}
use Rattle.cf_tree.specs.RawTree.{raw_choose, aim_at}
use Rattle.cf_tree.specs.RawView.{raw_tree, given_tree, aim_tree}
use Rattle.cf_program.specs.CheckAnswers.{CheckAnswer}
use Rattle.cf_program.specs.Walk.{walk, walk_aim}
use Rattle.cf_type.specs.FormParts.{related, aim_form}
use Rattle.cf_type.specs.FormView.{form_of, aim_form_of, context_of}
use Rattle.cf_type.proofs.DefSteps.{choose_answer, choose_where_answer}
use Rattle.cf_type.proofs.WalkSteps.{arms_fail, arms_next, goes_on}
use Rattle.cf_type.proofs.walk.+walk.Goals as goal

pub walk_arms-returns-in-Err : goal.walk_arms-returns-in-Err
walk_arms-returns-in-Err t c =
    let l = c.loop-arm in
    let xs = c.args.arms.now in
    let x = c.arm-item.result in
    let here : drop l.arm-index xs ≡ x ∷ drop (l.arm-index + 1) xs =
    drop_more xs l.arm-index x (omega arith) ∙ ap (λ y. y ∷ drop (l.arm-index + 1) xs) (sym c.arm-item.is) in
    (arms_fail _ _ _ _ xs l.arm-index x c.in-Err.fault _ _ c.without.ensures l.invariant.0 here c.in-Err.ensures.0 l.invariant.1, tt)

pub walk_arms-loop-arm-preserved : goal.walk_arms-loop-arm-preserved
walk_arms-loop-arm-preserved t c =
    let l = c.loop-arm in
    let xs = c.args.arms.now in
    let x = c.arm-item.result in
    let here : drop l.arm-index xs ≡ x ∷ drop (l.arm-index + 1) xs =
    drop_more xs l.arm-index x (omega arith) ∙ ap (λ y. y ∷ drop (l.arm-index + 1) xs) (sym c.arm-item.is) in
    let kept : c.walk_arm.new.scope ≡ l.scope = c.in-Ok.ensures.1 in
    (kept ∙ l.invariant.0, arms_next _ _ _ _ _ xs l.arm-index x _ l.invariant.0 here c.in-Ok.ensures.0 l.invariant.1)

pub walk-returns-in-Two : goal.walk-returns-in-Two
walk-returns-in-Two t c =
    let context = context_of c.args.context.now in
    let raw = c.args.raw.now in
    let outputs = c.deref-in-Two.result.now in
    let hidden = c.in-Choose.hidden.items in
    let given = given_tree c.in-Choose.given in
    let rel = raw_tree c.deref-in-Two-2.result.now in
    let aim = aim_tree c.in-Choose.aim in
    let two : context.edition ≡ Two = search rules in
    let is : raw_tree raw ≡ raw_choose raw.place outputs hidden given rel aim = search (rules, raw_lemmas, node_lemmas) in (
      choose_answer context c.args.scope.now c.args.next raw.place outputs hidden given rel aim (raw_tree raw) c.walk_choose.result two is
          c.walk_choose.ensures.0,
      c.walk_choose.ensures.1,
    )

pub walk-returns-in-Three : goal.walk-returns-in-Three
walk-returns-in-Three t c =
    let context = context_of c.args.context.now in
    let raw = c.args.raw.now in
    let outputs = c.in-Choose.outputs.items in
    let hidden = c.in-Choose.hidden.items in
    let given = given_tree c.in-Choose.given in
    let rel = raw_tree c.in-Choose.rel.value in
    let aim = aim_tree c.in-Choose.aim in
    let three : context.edition ≡ Three = search rules in
    let is : raw_tree raw ≡ raw_choose raw.place outputs hidden given rel aim = search (rules, raw_lemmas, node_lemmas) in (
      choose_where_answer context c.args.scope.now c.args.next raw.place outputs hidden given rel aim (raw_tree raw) c.walk_choose_where.result three is
          c.walk_choose_where.ensures.0,
      c.walk_choose_where.ensures.1,
    )

pub walk_related-returns-in-Ok : goal.walk_related-returns-in-Ok
walk_related-returns-in-Ok t c =
    let context = context_of c.args.context.now in
    let scope = c.args.scope.now in
    let outputs = c.args.outputs.now in
    let p = c.args.place in
    let rel = raw_tree c.args.rel.now in
    let f = form_of c.in-Ok.form in
    let kept : c.walk_inside.new.scope ≡ scope = c.in-Ok.ensures.1 in
    let told = subst (λ s. CheckAnswer form_of c.related.result (related context s outputs p rel f)) kept c.related.ensures in (
      subst (λ r. CheckAnswer form_of c.related.result r)
          (sym (goes_on (walk context (scope ++ outputs) c.args.next rel) f (related context scope outputs p rel) c.in-Ok.ensures.0)) told,
      search rules,
    )

pub walk_aim-returns-in-Ok : goal.walk_aim-returns-in-Ok
walk_aim-returns-in-Ok t c =
    let context = context_of c.args.context.now in
    let scope = c.args.scope.now in
    let outputs = c.args.outputs.now in
    let p = c.in-At.place in
    let sense = c.in-At.sense in
    let a = raw_tree c.in-At.objective.value in
    let f = form_of c.in-Ok.form in
    let kept : c.walk_inside.new.scope ≡ scope = c.in-Ok.ensures.1 in
    let is : aim_tree c.args.aim.now ≡ aim_at p sense a = search (rules, aim_lemmas) in
    let walked = ap (λ e. walk context (scope ++ outputs) c.args.next (raw_tree e)) (sym c.deref.ensures) ∙ c.in-Ok.ensures.0 in
    let here = subst (λ s. CheckAnswer aim_form_of c.aim.result (aim_form context s outputs p sense (raw_tree c.deref-in-Ok.result.now) f)) kept c.aim.ensures in
    let told = subst (λ e. CheckAnswer aim_form_of c.aim.result (aim_form context scope outputs p sense (raw_tree e) f)) c.deref-in-Ok.ensures here in (
      subst (λ y. CheckAnswer aim_form_of c.aim.result (walk_aim context scope outputs c.args.next y)) (sym is)
          (subst (λ r. CheckAnswer aim_form_of c.aim.result r)
          (sym (goes_on (walk context (scope ++ outputs) c.args.next a) f (aim_form context scope outputs p sense a) walked)) told),
      search rules,
    )
