use Rattle.std.proofs.Common.{◌≡◌, get_or, map, [], All, sym, subst}
use Rattle.std.proofs.lemmas.Result.{IfOk-weaker}
use Rattle.cf_tree.specs.CodeView.{code_tree}
use Rattle.cf_tree.specs.DefView.{def_tree}
use Rattle.cf_tree.specs.ExprView.{expr_tree}
use Rattle.cf_build.specs.Chooses.{all_chooses, by_number, solve_of}
use Rattle.cf_build.specs.Codes.{called, codes_behind}
use Rattle.cf_build.specs.Known.{AreKnown}
use Rattle.cf_build.proofs.BuiltLaws.{all_known, main_below, target_built}
use Rattle.cf_build.proofs.NumberOrder.{ordered_has}
use Rattle.cf_build.proofs.SolveLists.{each_solved, solved_has}
use Rattle.cf_build.proofs.building.unfolded.Goals as goal

pub choose_codes-requires : goal.choose_codes-requires
choose_codes-requires c = record {
  solved = each_solved (by_number (all_chooses (map def_tree c.args.typed.now.defs.items))) c.args.solves.items c.requires.solved;
  rising = c.requires.rising;
}

pub main_code-requires : goal.main_code-requires
main_code-requires c =
    let codes = c.in_ok-codes.codes.codes.items in
    subst (λ ds. All (λ d. AreKnown codes (expr_tree d.body)) ds) (sym c.defs.ensures.value)
    (all_known c.args.typed.now.defs.items c.args.typed.now.main c.defs.ensures.typed c.requires.no_match c.args.solves.items codes c.requires.solved
    c.in_ok-codes.ensures.solved c.in_ok-codes.ensures.marks)

pub bounds-defs-main : goal.bounds-defs-main
bounds-defs-main c = rw (c.defs-2.ensures.value, c.main-main.ensures.value) (main_below c.args.typed.now.defs.items c.args.typed.now.main c.defs.ensures.typed)

pub returns : goal.returns
returns c =
    let ds = c.args.typed.now.defs.items in
    let main = c.args.typed.now.main in
    let qs = all_chooses (map def_tree ds) in
    let code = c.in_ok-code.code in
    let d = c.index-defs-main.result in
    let here = subst (λ m. code_tree code ≡ called (codes_behind solve_of [] (map def_tree ds)) m) c.main-main.ensures.value
    (subst (λ xs. code_tree code ≡ called (codes_behind solve_of [] (map def_tree xs)) c.main-main.result) c.defs.ensures.value
    c.in_ok-code.ensures.code) in
    let there = subst (λ m. d ≡ get_or ds m d) c.main-main.ensures.value
    (subst (λ xs. d ≡ get_or xs c.main-main.result d) c.defs-2.ensures.value c.index-defs-main.is) in
    IfOk-weaker c.target.result _ _
    (λ raw r. target_built ds main c.defs.ensures.typed c.requires.no_match
    (λ q m. solved_has (by_number qs) c.args.solves.items c.requires.solved q (ordered_has qs q m)) code here c.in_ok-code.ensures.levels d there raw r)
    c.target.ensures
