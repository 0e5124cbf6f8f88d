use Rattle.std.proofs.Common.{◌∙◌, append-nil, rules}
use Rattle.cf_answer.specs.Steps.{replier_of}
use Rattle.cf_answer.proofs.StepLemmas.{last_all, last_some, rest_none}
use Rattle.cf_answer.proofs.pieces.answer_rest.Goals as goal

pub returns-clause-all : goal.returns-clause-all
returns-clause-all g c =
    last_all (replier_of c.args.replier.now) _ _ c.finish.new.lines.items _ _ _ _ c.answer_lines.ensures.all (append-nil _ ∙ search rules) (search rules)
    c.in_ok-finish.ensures.ok

pub returns-clause-some : goal.returns-clause-some
returns-clause-some g c =
    last_some (replier_of c.args.replier.now) _ _ c.finish.new.lines.items _ _ _ c.answer_lines.ensures.some (append-nil _ ∙ search rules) (search rules)
    c.in_ok-finish.ensures.ok

pub returns-in_err-finish-clause-some : goal.returns-in_err-finish-clause-some
returns-in_err-finish-clause-some g c = λ most bytes first h few. rest_none (replier_of c.args.replier.now) most _ bytes first _ h few
