use Rattle.std.proofs.Common.{◌≡◌, ◌++◌, length}
use Rattle.cf_tree.specs.Params.{names_of}
use Rattle.cf_eval.specs.Seen.{plains}
use Rattle.cf_answer.specs.Checks.{names_at, sample_text, settings_text}
use Rattle.cf_answer.proofs.verdict.put_sample.Given as goal

abbrev pub invariant-values : goal.invariant-values
invariant-values l =
    l.text.items ++ settings_text l.before (names_at (names_of l.scope) l.rest) (plains l.values)
    ≡ l.fn.text.items ++ sample_text (names_at (names_of l.scope) l.levels) (plains l.sample)

abbrev pub decreases-values : goal.decreases-values
decreases-values l = length l.values
