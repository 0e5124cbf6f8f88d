use Rattle.std.proofs.Common.{◌≡◌, map, sym, subst, All}
use Rattle.cf_tree.specs.DefView.{def_tree}
use Rattle.cf_tree.specs.ChooseView.{choose_tree}
use Rattle.cf_tree.specs.ExprView.{expr_tree}
use Rattle.cf_program.specs.NoForm.{HasNoForm}
use Rattle.cf_program.specs.NoMatch.{HasNoMatch}
use Rattle.cf_build.specs.Solves.{chooses_of}
use Rattle.cf_build.proofs.BuiltLaws.{in_order, in_order_typed, in_order_rises}
use Rattle.cf_build.proofs.Plain.{formed_bodies}
use Rattle.cf_build.proofs.chooses.numbered.Goals as goal

pub collect-requires : goal.collect-requires
collect-requires c =
    let formed = formed_bodies c.args.typed.now.defs.items c.defs.ensures.typed.formed in
    record {
      no_match = subst (λ ds. All (λ d. HasNoMatch (expr_tree d.body)) ds) (sym c.defs.ensures.value) c.requires;
      no_form = subst (λ ds. All (λ d. HasNoForm (expr_tree d.body)) ds) (sym c.defs.ensures.value) formed;
    }

pub returns-clause-chooses : goal.returns-clause-chooses
returns-clause-chooses c =
    let found =
    subst (λ ds. map choose_tree c.in_ok-chooses.chooses.items ≡ chooses_of (map def_tree ds)) c.defs.ensures.value c.in_ok-chooses.ensures in
    in_order c.args.typed.now.defs.items c.args.typed.now.main c.defs.ensures.typed c.requires c.in_ok-chooses.chooses.items _ found
    c.in_ok-sort.ensures.same c.in_ok-sort.ensures.order c.in_ok-sort.ensures.stable

pub returns-clause-typed : goal.returns-clause-typed
returns-clause-typed c =
    let found =
    subst (λ ds. map choose_tree c.in_ok-chooses.chooses.items ≡ chooses_of (map def_tree ds)) c.defs.ensures.value c.in_ok-chooses.ensures in
    in_order_typed c.args.typed.now.defs.items c.args.typed.now.main c.defs.ensures.typed c.requires c.in_ok-chooses.chooses.items _ found
    c.in_ok-sort.ensures.same c.in_ok-sort.ensures.order

pub returns-clause-rising : goal.returns-clause-rising
returns-clause-rising c =
    let found =
    subst (λ ds. map choose_tree c.in_ok-chooses.chooses.items ≡ chooses_of (map def_tree ds)) c.defs.ensures.value c.in_ok-chooses.ensures in
    in_order_rises c.args.typed.now.defs.items c.args.typed.now.main c.defs.ensures.typed c.requires c.in_ok-chooses.chooses.items _ found
    c.in_ok-sort.ensures.same c.in_ok-sort.ensures.order
