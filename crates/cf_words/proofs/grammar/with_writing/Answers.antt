use Rattle.std.proofs.Common.{◌∙◌, ap, codes}
use Rattle.std.proofs.lemmas.Result.{IfOk-weaker}
use Rattle.clap.specs.Words.{with_subcommand}
use Rattle.cf_words.specs.Grammar.{emitting_subcommand}
use Rattle.cf_words.proofs.grammar.with_writing.Goals as goal

pub returns : goal.returns
returns c =
    IfOk-weaker c.with_emitting.result _ _
    (λ app is. is ∙ ap (λ a. with_subcommand a (emitting_subcommand (codes "emit")).top) c.in_ok-generating.ensures) c.with_emitting.ensures
