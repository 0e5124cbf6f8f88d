use Rattle.std.proofs.Common.{◌≡◌, ◌++◌, drop, map}
use Rattle.cf_form.specs.ToldView.{truth_at}
use Rattle.cf_tree.specs.Params.{names_of}
use Rattle.cf_answer.specs.Branches.{valued}
use Rattle.cf_answer.proofs.branches.valued_names.Given as goal

abbrev pub invariant-loop-level : goal.invariant-loop-level
invariant-loop-level l =
    let branch = map truth_at l.branch in
    l.names.items ++ valued l.level (drop l.level (names_of l.scope)) branch ≡ valued 0 (names_of l.scope) branch
