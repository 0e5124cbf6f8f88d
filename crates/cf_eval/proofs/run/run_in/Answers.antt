use Rattle.cf_tree.specs.CodeView.{code_tree}
use Rattle.cf_eval.specs.Seen.{plains}
use Rattle.cf_eval.proofs.Ends.{given_means, none_means, past_means}
use Rattle.cf_eval.proofs.run.run_in.Goals as goal

pub returns-in-Ok : goal.returns-in-Ok
returns-in-Ok c =
    rw c.in_ok-into_values-in-Ok.ensures (given_means (code_tree c.args.code.now) (plains c.args.values.items) _ c.in-Ok.ensures.told)

pub returns-in-Err-Past : goal.returns-in-Err-Past
returns-in-Err-Past c =
    let told = rw c.in-Err-Past.field-0-is at c.in-Err-Past.ensures.told in
    past_means (code_tree c.args.code.now) (plains c.args.values.items) told

pub returns : goal.returns
returns c =
    let told = rw c.in-Err-Unsolved.field-0-is at c.in-Err-Unsolved.ensures.told in
    none_means (code_tree c.args.code.now) (plains c.args.values.items) _ told
