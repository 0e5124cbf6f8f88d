use Rattle.std.proofs.Common.{refl, sym, append-nil}
use Rattle.cf_answer.proofs.AnswerLemmas.{written_answers, out_is_late}
use Rattle.cf_answer.specs.About.{help_text}
use Rattle.cf_answer.proofs.about.write_help.Goals as goal

pub returns-clause-answers : goal.returns-clause-answers
returns-clause-answers g c =
    λ given input. written_answers _ _ _ _ help_text _ input _ _ _ refl refl (λ e. refl) refl refl (sym (append-nil _)) c.write_text.ensures.all
    c.write_text.ensures.prefix
    c.write_text.ensures.fault c.write_text.ensures.count

pub returns-clause-unwritten : goal.returns-clause-unwritten
returns-clause-unwritten g c = λ e. absurd (out_is_late c.write_text.result c.write_text.ensures.fault e)
