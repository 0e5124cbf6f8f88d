use Rattle.std.proofs.Common.{◌≡◌, map, IfOk, subst}
use Rattle.cf_tree.specs.RawView.{raw_tree}
use Rattle.cf_program.specs.Linear.{found_in}
use Rattle.cf_help.specs.AskedView.{found_seen}
use Rattle.cf_help.specs.Faults.{bend_in, bend_words}
use Rattle.cf_help.specs.HeldView.{holder_seen}
use Rattle.cf_help.specs.ScopeView.{around_of}
use Rattle.cf_help.proofs.CauseLaws.{backwards_seen}
use Rattle.cf_help.proofs.bent.found_words.Goals as goal

pub returns : goal.returns
unfolding around_of bend_in
returns c =
    subst (λ ds. IfOk c.answer_words.result (λ o. found_seen o ≡ bend_words c.args.place c.args.is_given
    (found_in c.args.inputs ds (map holder_seen c.args.holders.now) (raw_tree c.args.raw.now))))
    (backwards_seen c.args.around.now.earlier.now) (c.answer_words.ensures _ c.found_in-answer.ensures)
