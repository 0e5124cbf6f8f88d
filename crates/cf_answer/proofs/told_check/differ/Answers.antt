use Rattle.std.proofs.Common.{◌∙◌, sym}
use Rattle.std.proofs.lemmas.Bool.{not-true}
use Rattle.cf_eval.specs.Seen.{plains}
use Rattle.cf_answer.proofs.BranchTellLemmas.{values_differ}
use Rattle.cf_answer.proofs.told_check.differ.Goals as goal

pub returns : goal.returns
returns c =
    λ e. values_differ (plains c.args.first.now) (plains c.args.second.now) (sym c.are_same.ensures ∙ not-true c.are_same.result e)
