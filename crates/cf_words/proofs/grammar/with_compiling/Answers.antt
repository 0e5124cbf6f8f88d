use Rattle.std.proofs.Common.{◌∙◌, ap, codes}
use Rattle.std.proofs.lemmas.Result.{IfOk-weaker}
use Rattle.clap.specs.Words.{with_subcommand}
use Rattle.cf_words.specs.Grammar.{flagged_subcommand}
use Rattle.cf_words.proofs.grammar.with_compiling.Goals as goal

pub returns : goal.returns
returns c =
    IfOk-weaker c.with_flags-2.result _ _
    (λ app is. is ∙ ap (λ a. with_subcommand a (flagged_subcommand (codes "run")).top) c.in_ok-compiling.ensures) c.with_flags-2.ensures
