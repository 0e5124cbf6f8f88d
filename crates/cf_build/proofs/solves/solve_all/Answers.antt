use Rattle.std.proofs.Common.{◌≡◌, ◌∙◌, All, IfOk, IfErr, ap, map, sym, subst}
use Rattle.std.specs.List.Sorted.{IsNonDecreasing}
use Rattle.std.proofs.lemmas.Result.{IfOk-weaker, IfErr-weaker}
use Rattle.cf_tree.specs.DefView.{def_tree}
use Rattle.cf_build.specs.Chooses.{all_chooses, by_number}
use Rattle.cf_tree.specs.ChooseView.{choose_tree}
use Rattle.cf_build.specs.Solves.{AreSolved, IsFaultAmong, FaultAnswer, IsTypedChoose}
use Rattle.cf_build.proofs.SolveLists.{fault_in_order, solved_rise}
use Rattle.cf_build.proofs.solves.solve_all.Goals as goal

pub solve_each-requires : goal.solve_each-requires
solve_each-requires c = subst (λ xs. All (λ x. IsTypedChoose (choose_tree x)) xs) (sym c.deref.ensures.value) c.in_ok-chooses.ensures.typed

pub returns : goal.returns
returns c =
    let qs = all_chooses (map def_tree c.args.typed.now.defs.items) in
    let same : map choose_tree c.deref.result.now ≡ by_number qs = ap (λ xs. map choose_tree xs) c.deref.ensures.value ∙ c.in_ok-chooses.ensures.chooses in
    let rising : IsNonDecreasing (map (λ x. x.number) c.deref.result.now) =
    subst (λ xs. IsNonDecreasing (map (λ x. x.number) xs)) (sym c.deref.ensures.value) c.in_ok-chooses.ensures.rising in
    record {
      solved = subst (λ ps. IfOk c.solve_each.result (λ ss. AreSolved ps ss.items)) same c.solve_each.ensures.solved;
      refused =
          IfErr-weaker c.solve_each.result (IsFaultAmong (by_number qs)) (FaultAnswer qs) (λ fault h. fault_in_order qs fault h)
          (subst (λ ps. IfErr c.solve_each.result (IsFaultAmong ps)) same c.solve_each.ensures.refused);
      rising =
          IfOk-weaker c.solve_each.result _ _ (λ ss h. solved_rise c.deref.result.now ss.items rising h)
          c.solve_each.ensures.solved;
    }
