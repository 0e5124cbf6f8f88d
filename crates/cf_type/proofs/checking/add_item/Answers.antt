use Rattle.std.proofs.Common.{◌≡◌, ◌++◌, ◌∷◌, [], ◌∙◌, Ok, map, take, length, sym, ap, subst, rules}
use Rattle.std.proofs.lemmas.List.{map-append}
use Rattle.std.proofs.lemmas.Result.{err_from_is_err_and}
use Rattle.cf_tree.specs.DefView.{item_const, item_def, raw_def_tree, raw_item_tree, def_tree}
use Rattle.cf_tree.specs.RawView.{raw_tree}
use Rattle.cf_program.specs.CheckAnswers.{CheckFault}
use Rattle.cf_program.specs.Checked.{walk_const, walk_def}
use Rattle.cf_type.specs.Valued.{constants_of}
use Rattle.cf_type.specs.Walked.{with_constant, with_constants, with_function, walk_item}
use Rattle.cf_type.specs.WalkedView.{walked_of}
use Rattle.cf_type.proofs.ConstSteps.{constants_more}
use Rattle.cf_type.proofs.WalkSteps.{fails_then, goes_on}
use Rattle.cf_type.proofs.checking.add_item.Goals as goal

pub returns-in_err-value-in-Const : goal.returns-in_err-value-in-Const
returns-in_err-value-in-Const c =
    let setting = c.args.setting.now in
    let walked = c.args.walked.now in
    let all = map raw_def_tree setting.callees.now in
    let before = map raw_def_tree (take (length walked.defs.items) setting.callees.now) in
    let fault = c.in_err-value-in-Const.field-0.0 in
    let x = c.in-Const.constant in
    let counted : c.in_ok-to_u32.field-0 ≡ length walked.defs.items = search rules in
    let told : CheckFault fault (walk_const setting.edition setting.how all (constants_of walked.constants) before walked.next x.place x.name (raw_tree x.value)) =
    subst (λ k. CheckFault fault (walk_const setting.edition setting.how all (constants_of walked.constants)
    (map raw_def_tree (take k setting.callees.now)) walked.next x.place x.name (raw_tree x.value))) counted c.in_err-value-in-Const.ensures in
    let p = err_from_is_err_and c.from_residual-in_err-value-in-Const.result c.from_residual-in_err-value-in-Const.ensures.1 in
    let is : raw_item_tree c.args.item.now ≡ item_const x.place x.name (raw_tree x.value) = search rules in
    rw (p.1, p.2, is) (fails_then fault
    (walk_const setting.edition setting.how all (constants_of walked.constants) before walked.next x.place x.name (raw_tree x.value))
    (λ more. Ok (with_constants (walked_of walked) more)) told)

pub returns-in_ok-add-in-Const : goal.returns-in_ok-add-in-Const
returns-in_ok-add-in-Const c =
    let setting = c.args.setting.now in
    let walked = c.args.walked.now in
    let all = map raw_def_tree setting.callees.now in
    let before = map raw_def_tree (take (length walked.defs.items) setting.callees.now) in
    let x = c.in-Const.constant in
    let more = with_constant (constants_of walked.constants) x.name c.in_ok-value-in-Const.value in
    let counted : c.in_ok-to_u32.field-0 ≡ length walked.defs.items = search rules in
    let told : walk_const setting.edition setting.how all (constants_of walked.constants) before walked.next x.place x.name (raw_tree x.value) ≡ Ok more =
    subst (λ k. walk_const setting.edition setting.how all (constants_of walked.constants) (map raw_def_tree (take k setting.callees.now)) walked.next
    x.place x.name (raw_tree x.value) ≡ Ok more) counted c.in_ok-value-in-Const.ensures in
    let put : c.add.new.self ≡ walked.constants ++ (x.name, c.in_ok-value-in-Const.value) ∷ [] = search rules in
    let made : constants_of c.add.new.self ≡ more =
    ap constants_of put ∙ constants_more walked.constants x.name c.in_ok-value-in-Const.value in
    let is : raw_item_tree c.args.item.now ≡ item_const x.place x.name (raw_tree x.value) = search rules in
    ap (walk_item setting.edition setting.how all before (walked_of walked)) is
    ∙ goes_on (walk_const setting.edition setting.how all (constants_of walked.constants) before walked.next x.place x.name (raw_tree x.value)) more
    (λ cs. Ok (with_constants (walked_of walked) cs)) told
    ∙ ap (λ cs. Ok (with_constants (walked_of walked) cs)) (sym made)

pub returns-in_err-tree-in-Def : goal.returns-in_err-tree-in-Def
returns-in_err-tree-in-Def c =
    let setting = c.args.setting.now in
    let walked = c.args.walked.now in
    let all = map raw_def_tree setting.callees.now in
    let before = map raw_def_tree (take (length walked.defs.items) setting.callees.now) in
    let fault = c.in_err-tree-in-Def.field-0.0 in
    let d = raw_def_tree c.in-Def.def in
    let counted : c.in_ok-to_u32.field-0 ≡ length walked.defs.items = search rules in
    let told : CheckFault fault (walk_def setting.edition setting.how all (constants_of walked.constants) before walked.next d) =
    subst (λ k. CheckFault fault (walk_def setting.edition setting.how all (constants_of walked.constants)
    (map raw_def_tree (take k setting.callees.now)) walked.next d)) counted c.in_err-tree-in-Def.ensures in
    let p = err_from_is_err_and c.from_residual-in_err-tree-in-Def.result c.from_residual-in_err-tree-in-Def.ensures.1 in
    let is : raw_item_tree c.args.item.now ≡ item_def d = search rules in
    rw (p.1, p.2, is) (fails_then fault (walk_def setting.edition setting.how all (constants_of walked.constants) before walked.next d)
    (λ r. Ok (with_function (walked_of walked) r)) told)

pub returns-in_ok-push-in-Def : goal.returns-in_ok-push-in-Def
returns-in_ok-push-in-Def c =
    let setting = c.args.setting.now in
    let walked = c.args.walked.now in
    let all = map raw_def_tree setting.callees.now in
    let before = map raw_def_tree (take (length walked.defs.items) setting.callees.now) in
    let d = raw_def_tree c.in-Def.def in
    let tree = def_tree c.in_ok-tree-in-Def.tree in
    let counted : c.in_ok-to_u32.field-0 ≡ length walked.defs.items = search rules in
    let told : walk_def setting.edition setting.how all (constants_of walked.constants) before walked.next d ≡ Ok (tree, c.in_ok-tree-in-Def.next) =
    subst (λ k. walk_def setting.edition setting.how all (constants_of walked.constants) (map raw_def_tree (take k setting.callees.now)) walked.next
    d ≡ Ok (tree, c.in_ok-tree-in-Def.next)) counted c.in_ok-tree-in-Def.ensures in
    let made : map def_tree c.push.new.all.items ≡ map def_tree walked.defs.items ++ tree ∷ [] =
    ap (map def_tree) c.in_ok-push-in-Def.ensures ∙ map-append def_tree walked.defs.items (c.in_ok-tree-in-Def.tree ∷ []) in
    let is : raw_item_tree c.args.item.now ≡ item_def d = search rules in
    ap (walk_item setting.edition setting.how all before (walked_of walked)) is
    ∙ goes_on (walk_def setting.edition setting.how all (constants_of walked.constants) before walked.next d)
    (tree, c.in_ok-tree-in-Def.next) (λ r. Ok (with_function (walked_of walked) r)) told
    ∙ ap (λ ds. Ok (record { constants = constants_of walked.constants; defs = ds; next = c.in_ok-tree-in-Def.next })) (sym made)
