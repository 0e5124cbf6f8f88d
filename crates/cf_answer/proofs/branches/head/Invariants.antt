use Rattle.std.proofs.Common.{◌≡◌, All, map, take}
use Rattle.cf_form.specs.ToldView.{truth_at}
use Rattle.cf_steps.specs.Spelled.{IsSpelledTruth}
use Rattle.cf_tree.specs.Params.{names_of}
use Rattle.cf_answer.specs.Branches.{named}
use Rattle.cf_answer.proofs.branches.head.Given as goal

abbrev pub invariant-loop-truth : goal.invariant-loop-truth
invariant-loop-truth l =
    (l.truths.items ≡ map (named (names_of l.scope)) (map truth_at (take l.truth-index l.branch))) × All IsSpelledTruth l.truths.items
