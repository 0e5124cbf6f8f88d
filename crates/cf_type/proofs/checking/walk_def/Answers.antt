use Rattle.std.proofs.Common.{◌≡◌, ℕ, false, map, take, reverse, length, length-take, Some, None, Ok, refl, rules, arith, sym, subst, ap, ◌∙◌}
use Rattle.std.proofs.lemmas.List.{length-map}
use Rattle.std.proofs.lemmas.Result.{err_from_is_err_and}
use Rattle.cf_tree.specs.DefView.{raw_def_tree, def_tree, DefTree}
use Rattle.cf_program.specs.CheckAnswers.{CheckAnswer, CheckFault}
use Rattle.cf_program.specs.Constants.{constant_names}
use Rattle.cf_program.specs.Names.{callee_from, is_among, repeated}
use Rattle.cf_program.specs.Walk.{behind, taken, walk}
use Rattle.cf_tree.specs.Params.{names_of}
use Rattle.cf_type.specs.FormView.{form_of, context_of}
use Rattle.cf_type.specs.Valued.{constants_of}
use Rattle.cf_type.proofs.CheckLemmas.{behind_is}
use Rattle.cf_type.proofs.DefSteps.{def_fails, def_goes_on}
use Rattle.cf_type.proofs.checking.walk_def.Goals as goal

pub returns-in_err-body : goal.returns-in_err-body
returns-in_err-body c =
    let context = c.args.context.now in
    let all = map raw_def_tree context.callees.now in
    let front = take context.number context.callees.now in
    let constants = constants_of context.constants.now in
    let d = raw_def_tree c.args.def.now in
    let at = behind context.edition context.how (callee_from context.number 0 all) constants (reverse (map raw_def_tree front)) in
    let here : context_of context ≡ at = behind_is context c.requires.unknown in
    let counted : context.number ≡ length (map raw_def_tree front) =
    omega (arith, c.requires.within, length-map front raw_def_tree, length-take context.number context.callees.now) in
    let new : is_among (map (λ e. e.name) (map raw_def_tree front)) d.name ≡ false = search rules in
    let met : repeated (taken (context_of context)) (names_of d.params) (map (λ p. p.place) d.params) ≡ None = search rules in
    let differ : repeated (constant_names constants) (names_of d.params) (map (λ p. p.place) d.params) ≡ None =
    subst (λ x. repeated (taken x) (names_of d.params) (map (λ p. p.place) d.params) ≡ None) here met in
    let scope : c.enter.new.self ≡ d.params = search rules in
    let told : CheckFault c.in_err-body.field-0.0 (walk at d.params c.args.next d.body) =
    subst (λ s. CheckFault c.in_err-body.field-0.0 (walk at s c.args.next d.body)) scope
    (subst (λ x. CheckFault c.in_err-body.field-0.0 (walk x c.enter.new.self c.args.next d.body)) here c.in_err-body.ensures.0) in
    let p = err_from_is_err_and c.from_residual-in_err-body.result c.from_residual-in_err-body.ensures.1 in
    rw (p.1, p.2) (def_fails context.edition context.how all constants (map raw_def_tree front) c.args.next context.number d counted new differ
    c.in_err-body.field-0.0 told)

pub returns : goal.returns
returns c =
    let context = c.args.context.now in
    let all = map raw_def_tree context.callees.now in
    let front = take context.number context.callees.now in
    let constants = constants_of context.constants.now in
    let d = raw_def_tree c.args.def.now in
    let f = form_of c.in_ok-body.body in
    let at = behind context.edition context.how (callee_from context.number 0 all) constants (reverse (map raw_def_tree front)) in
    let here : context_of context ≡ at = behind_is context c.requires.unknown in
    let counted : context.number ≡ length (map raw_def_tree front) =
    omega (arith, c.requires.within, length-map front raw_def_tree, length-take context.number context.callees.now) in
    let new : is_among (map (λ e. e.name) (map raw_def_tree front)) d.name ≡ false = search rules in
    let met : repeated (taken (context_of context)) (names_of d.params) (map (λ p. p.place) d.params) ≡ None = search rules in
    let differ : repeated (constant_names constants) (names_of d.params) (map (λ p. p.place) d.params) ≡ None =
    subst (λ x. repeated (taken x) (names_of d.params) (map (λ p. p.place) d.params) ≡ None) here met in
    let scope : c.enter.new.self ≡ d.params = search rules in
    let told : walk at d.params c.args.next d.body ≡ Ok f =
    ap (λ s. walk at s c.args.next d.body) (sym scope) ∙ ap (λ x. walk x c.enter.new.self c.args.next d.body) (sym here) ∙ c.in_ok-body.ensures.0 in
    subst (λ r. CheckAnswer {Y = DefTree × ℕ} (λ r. (def_tree r.0, r.1)) c.closed.result r)
    (sym (def_goes_on context.edition context.how all constants (map raw_def_tree front) c.args.next context.number d counted new differ f told))
    c.closed.ensures

pub returns-in-Some : goal.returns-in-Some
returns-in-Some c =
    let context = c.args.context.now in
    let front = take context.number context.callees.now in
    let constants = constants_of context.constants.now in
    let d = raw_def_tree c.args.def.now in
    let at = behind context.edition context.how (callee_from context.number 0 (map raw_def_tree context.callees.now)) constants
    (reverse (map raw_def_tree front)) in
    let here : context_of context ≡ at = behind_is context c.requires.unknown in
    let new : is_among (map (λ e. e.name) (map raw_def_tree front)) d.name ≡ false = search rules in
    let met : repeated (taken (context_of context)) (names_of d.params) (map (λ p. p.place) d.params) ≡ Some c.in-Some.place = search rules in
    let twice : repeated (constant_names constants) (names_of d.params) (map (λ p. p.place) d.params) ≡ Some c.in-Some.place =
    subst (λ x. repeated (taken x) (names_of d.params) (map (λ p. p.place) d.params) ≡ Some c.in-Some.place) here met in
    rw (new, twice) refl
