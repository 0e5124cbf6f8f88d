use Rattle.std.proofs.Common.{◌≡◌, false, [], map, take, reverse, length, length-take, Ok, rules, arith, sym, subst, ap, ◌∙◌}
use Rattle.std.proofs.lemmas.List.{length-map}
use Rattle.std.proofs.lemmas.Result.{err_from_is_err_and}
use Rattle.cf_tree.specs.DefView.{raw_def_tree}
use Rattle.cf_tree.specs.RawView.{raw_tree}
use Rattle.cf_program.specs.CheckAnswers.{CheckAnswer, CheckFault}
use Rattle.cf_program.specs.Constants.{constant_names}
use Rattle.cf_program.specs.Names.{callee_from, is_among}
use Rattle.cf_program.specs.Walk.{behind, walk}
use Rattle.cf_type.specs.FormView.{form_of, context_of}
use Rattle.cf_type.specs.Valued.{constants_of}
use Rattle.cf_type.specs.Walked.{with_constant}
use Rattle.cf_type.proofs.CheckLemmas.{behind_is}
use Rattle.cf_type.proofs.ConstSteps.{const_fails, const_goes_on}
use Rattle.cf_type.proofs.checking.walk_const.Goals as goal

pub returns-in_err-form : goal.returns-in_err-form
returns-in_err-form c =
    let context = c.args.context.now in
    let all = map raw_def_tree context.callees.now in
    let front = take context.number context.callees.now in
    let constants = constants_of context.constants.now in
    let x = c.args.constant.now in
    let e = raw_tree x.value in
    let at = behind context.edition context.how (callee_from context.number 0 all) constants (reverse (map raw_def_tree front)) in
    let here : context_of context ≡ at = behind_is context c.requires.unknown in
    let counted : context.number ≡ length (map raw_def_tree front) =
    omega (arith, c.requires.within, length-map front raw_def_tree, length-take context.number context.callees.now) in
    let new : is_among (constant_names constants) x.name ≡ false = search rules in
    let told : CheckFault c.in_err-form.field-0.0 (walk (context_of context) [] c.args.next e) = search rules in
    let p = err_from_is_err_and c.from_residual.result c.from_residual.ensures.1 in
    rw (p.1, p.2) (const_fails context.edition context.how all constants (map raw_def_tree front) c.args.next x.place x.name e context.number counted new
    c.in_err-form.field-0.0 (subst (λ a. CheckFault c.in_err-form.field-0.0 (walk a [] c.args.next e)) here told))

pub returns : goal.returns
returns c =
    let context = c.args.context.now in
    let all = map raw_def_tree context.callees.now in
    let front = take context.number context.callees.now in
    let constants = constants_of context.constants.now in
    let x = c.args.constant.now in
    let e = raw_tree x.value in
    let f = form_of c.in_ok-form.form in
    let at = behind context.edition context.how (callee_from context.number 0 all) constants (reverse (map raw_def_tree front)) in
    let here : context_of context ≡ at = behind_is context c.requires.unknown in
    let counted : context.number ≡ length (map raw_def_tree front) =
    omega (arith, c.requires.within, length-map front raw_def_tree, length-take context.number context.callees.now) in
    let new : is_among (constant_names constants) x.name ≡ false = search rules in
    let told : walk (context_of context) [] c.args.next e ≡ Ok f = search rules in
    subst (λ r. CheckAnswer (λ k. with_constant constants x.name k) c.valued.result r)
    (sym (const_goes_on context.edition context.how all constants (map raw_def_tree front) c.args.next x.place x.name e context.number counted new f
    (ap (λ a. walk a [] c.args.next e) (sym here) ∙ told))) c.valued.ensures
