use Rattle.std.proofs.Common.{◌^◌, ◌-◌}
use Rattle.cf_lex.proofs.LexesLemmas.{answer-count, answer-within}
use Rattle.cf_lex.proofs.StepLemmas.{answer_from, only_from}
use Rattle.cf_lex.proofs.lexer.tokens.Goals as goal

pub returns : goal.returns
returns c = record {
  answer = answer_from c.args.edition (2 ^ 127 - 1) c.args.text.now _ c.scan.ensures;
  only = only_from c.args.edition (2 ^ 127 - 1) c.args.text.now _ c.scan.ensures;
  literals = answer-within c.args.edition (2 ^ 127 - 1) c.args.text.now _ (answer_from c.args.edition (2 ^ 127 - 1) c.args.text.now _ c.scan.ensures);
  count = answer-count c.args.edition (2 ^ 127 - 1) c.args.text.now _ (answer_from c.args.edition (2 ^ 127 - 1) c.args.text.now _ c.scan.ensures);
}
