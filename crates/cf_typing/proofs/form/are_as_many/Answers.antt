use Rattle.std.specs.Prelude.{nat_eq}
use Rattle.std.proofs.Common.{length, sym, subst}
use Rattle.cf_typing.specs.Bases.{where_true, done}
use Rattle.cf_typing.specs.TypingAnswers.{DoneAnswer}
use Rattle.cf_typing.proofs.Lengths.{count_codes}
use Rattle.cf_typing.proofs.form.are_as_many.Goals as goal

pub returns-clause-told : goal.returns-clause-told
returns-clause-told c = subst (λ n. DoneAnswer c.where_true.result (where_true (nat_eq n (length c.args.bases.now)) done)) (sym (count_codes c.args.parts.now))
    c.where_true.ensures
