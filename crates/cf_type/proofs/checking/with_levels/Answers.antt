use Rattle.std.proofs.Common.{◌≡◌, [], map, Some, None, Ok, sym, ap, subst, ◌∙◌, rules}
use Rattle.cf_tree.specs.DefView.{program_tree, raw_def_tree, def_tree}
use Rattle.cf_program.specs.CheckAnswers.{CheckFault}
use Rattle.cf_program.specs.Checked.{functions_of, walk_items, with_main, main_from}
use Rattle.cf_program.specs.Then.{◌>>=◌}
use Rattle.cf_type.specs.Walked.{functions_in}
use Rattle.cf_type.proofs.DefSteps.{functions_are}
use Rattle.cf_type.proofs.WalkSteps.{goes_on}
use Rattle.cf_type.proofs.checking.with_levels.Goals as goal

pub returns-in-Ok-Some : goal.returns-in-Ok-Some
returns-in-Ok-Some c =
    let items = program_tree c.args.program.now in
    let functions = map (λ d. d.now) c.in_ok-functions.functions.items in
    let defs = map def_tree c.in_ok-defs.defs.items in
    let same : map raw_def_tree functions ≡ functions_of items =
    ap (map raw_def_tree) (c.in_ok-functions.ensures ∙ ap functions_in c.deref.ensures.value) ∙ sym (functions_are c.args.program.now.items.items) in
    let found : main_from 0 (map raw_def_tree functions) ≡ Some c.in-Ok-Some.main = search rules in
    let walked : walk_items c.args.edition c.args.how (functions_of items) [] [] [] 1 items ≡ Ok defs = search rules in
    goes_on (walk_items c.args.edition c.args.how (functions_of items) [] [] [] 1 items) defs (λ ds. with_main ds (main_from 0 (functions_of items))) walked
    ∙ ap (with_main defs) (ap (main_from 0) (sym same) ∙ found)

pub returns-in-Ok-None : goal.returns-in-Ok-None
returns-in-Ok-None c =
    let items = program_tree c.args.program.now in
    let functions = map (λ d. d.now) c.in_ok-functions.functions.items in
    let defs = map def_tree c.in_ok-defs.defs.items in
    let same : map raw_def_tree functions ≡ functions_of items =
    ap (map raw_def_tree) (c.in_ok-functions.ensures ∙ ap functions_in c.deref.ensures.value) ∙ sym (functions_are c.args.program.now.items.items) in
    let found : main_from 0 (map raw_def_tree functions) ≡ None = search rules in
    let walked : walk_items c.args.edition c.args.how (functions_of items) [] [] [] 1 items ≡ Ok defs = search rules in
    subst (λ e. CheckFault e (walk_items c.args.edition c.args.how (functions_of items) [] [] [] 1 items >>= λ ds.
    with_main ds (main_from 0 (functions_of items)))) (sym c.without.ensures)
    (goes_on (walk_items c.args.edition c.args.how (functions_of items) [] [] [] 1 items) defs (λ ds. with_main ds (main_from 0 (functions_of items))) walked
    ∙ ap (with_main defs) (ap (main_from 0) (sym same) ∙ found))
