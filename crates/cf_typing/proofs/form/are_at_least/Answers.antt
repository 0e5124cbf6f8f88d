use Rattle.std.specs.Prelude.{nat_le}
use Rattle.std.proofs.Common.{sym, subst}
use Rattle.cf_typing.specs.Bases.{where_true, done}
use Rattle.cf_typing.specs.TypingAnswers.{DoneAnswer}
use Rattle.cf_typing.proofs.Lengths.{count_codes}
use Rattle.cf_typing.proofs.form.are_at_least.Goals as goal

pub returns : goal.returns
returns c = subst (λ n. DoneAnswer c.where_true.result (where_true (nat_le c.args.least n) done)) (sym (count_codes c.args.parts.now)) c.where_true.ensures
