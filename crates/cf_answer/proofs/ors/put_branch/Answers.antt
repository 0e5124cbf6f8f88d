use Rattle.std.proofs.Common.{◌∙◌}
use Rattle.cf_answer.proofs.BesideLemmas.{branch_told}
use Rattle.cf_answer.proofs.ors.put_branch.Goals as goal

pub returns : goal.returns
returns c =
    branch_told c.args.lines.now.items _ _ c.args.is_told c.args.number c.args.index c.args.place c.if-not-is_told.false
    (c.deref.ensures.value ∙ c.in_ok-words.ensures) c.in_ok-put_line.ensures
