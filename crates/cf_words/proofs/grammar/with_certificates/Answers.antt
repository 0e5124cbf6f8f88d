use Rattle.std.proofs.Common.{◌∙◌, ap, codes}
use Rattle.std.proofs.lemmas.Result.{IfOk-weaker}
use Rattle.clap.specs.Words.{with_subcommand}
use Rattle.cf_words.specs.Grammar.{paired_subcommand}
use Rattle.cf_words.proofs.grammar.with_certificates.Goals as goal

pub returns : goal.returns
returns c =
    IfOk-weaker c.with_pair.result _ _
    (λ app is. is ∙ ap (λ a. with_subcommand a (paired_subcommand (codes "verify")).top) c.in_ok-proving.ensures) c.with_pair.ensures
