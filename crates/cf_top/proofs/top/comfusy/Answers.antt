use Rattle.std.proofs.Common.{◌∙◌, ap, sym, subst}
use Rattle.cf_answer.specs.Statuses.{IsEarly, status_of}
use Rattle.cf_answer.proofs.StatusLemmas.{is_usage, is_file, is_input, is_output}
use Rattle.cf_top.proofs.DoesLemmas.{order_of}
use Rattle.cf_top.proofs.VerdictLemmas.{completes, no_command, file_rose, input_rose, out_rose, told_or_rose}
use Rattle.cf_top.proofs.top.comfusy.Goals as goal

pub returns-clause-tells : goal.returns-clause-tells
returns-clause-tells g c = record {
  answer = c.answer_words-ended.result.answer;
  passes = _;
  is = c.status_of.ensures;
  answers = c.answer_words-ended.ensures.answers;
  line = _;
  written = c.answer_words-ended.ensures.written;
  told = record { prefix = c.tell.ensures.prefix; whole = told_or_rose _ c.tell.ensures.all c.tell.ensures.same c.tell.ensures.failed };
}

pub returns-clause-usage : goal.returns-clause-usage
returns-clause-usage g c = λ e. c.answer_words-ended.ensures.usage (is_usage _ (sym c.status_of.ensures ∙ e))

pub returns-clause-no_command : goal.returns-clause-no_command
returns-clause-no_command g c = λ none. no_command _ _ _ _ _ _ _ none c.answer_words-ended.ensures.answers c.status_of.ensures

pub returns-clause-early : goal.returns-clause-early
returns-clause-early g c = λ e. c.status_of.ensures ∙ ap status_of (c.answer_words-ended.ensures.early e)

pub returns-clause-untouched : goal.returns-clause-untouched
returns-clause-untouched g c = c.answer_words-ended.ensures.untouched

pub returns-clause-file : goal.returns-clause-file
returns-clause-file g c = λ e. file_rose _ _ _ _ _ _ c.answer_words-ended.ensures.answers (is_file _ (sym c.status_of.ensures ∙ e))

pub returns-clause-input : goal.returns-clause-input
returns-clause-input g c = λ e. input_rose _ _ _ _ _ _ c.answer_words-ended.ensures.answers (is_input _ (sym c.status_of.ensures ∙ e))

pub returns-clause-output : goal.returns-clause-output
returns-clause-output g c = λ e. out_rose _ _ _ _ _ _ c.answer_words-ended.ensures.answers (is_output _ (sym c.status_of.ensures ∙ e))

pub returns-clause-complete : goal.returns-clause-complete
returns-clause-complete g c = completes _ _ _ _ _ _ _ (returns-clause-tells g c)

pub returns-clause-shelf : goal.returns-clause-shelf
returns-clause-shelf g c = λ e. c.answer_words-ended.ensures.shelf (is_usage _ (sym c.status_of.ensures ∙ e))

pub returns-clause-unread : goal.returns-clause-unread
returns-clause-unread g c = λ e. c.answer_words-ended.ensures.unread (subst IsEarly c.status_of.ensures e)

pub returns-clause-unwritten : goal.returns-clause-unwritten
returns-clause-unwritten g c = λ e. c.answer_words-ended.ensures.unwritten (subst IsEarly c.status_of.ensures e)

pub returns-clause-unasked : goal.returns-clause-unasked
returns-clause-unasked g c = c.answer_words-ended.ensures.unasked

pub returns-clause-unfetched : goal.returns-clause-unfetched
returns-clause-unfetched g c = c.answer_words-ended.ensures.unfetched

pub returns-clause-order : goal.returns-clause-order
returns-clause-order g c = order_of _ _ _ _ _ c.status_of.ensures c.answer_words-ended.ensures.order
