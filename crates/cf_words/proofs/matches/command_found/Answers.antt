use Rattle.std.proofs.Common.{rules, ◌≡◌, subst, Some}
use Rattle.clap.specs.Words.{found_of, rows_of, subcommand_rows_of}
use Rattle.cf_words.specs.Grammar.{command_found}
use Rattle.cf_words.specs.Words.{WordsAnswer}
use Rattle.cf_words.proofs.matches.command_found.Goals as goal

pub returns-in-Some-clause-command : goal.returns-in-Some-clause-command
returns-in-Some-clause-command c =
    let is : Some (c.in-Some.name.now, rows_of (found_of c.in-Some.found.now)) ≡ subcommand_rows_of c.args.matches.now = search rules in
    subst (λ o. WordsAnswer (command_found o) c.command_behind.result) is c.command_behind.ensures.command
