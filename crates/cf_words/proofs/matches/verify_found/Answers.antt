use Rattle.std.proofs.Common.{rules, ◌≡◌, ◌∙◌, ap, Some, None, option_map}
use Rattle.cf_words.proofs.FoundLemmas.{files_are, no_file}
use Rattle.cf_words.specs.Commands.{plain_command}
use Rattle.cf_words.proofs.matches.verify_found.Goals as goal

pub returns-in_err-file-clause-command : goal.returns-in_err-file-clause-command
returns-in_err-file-clause-command c =
    let none : c.get_str.result ≡ None = search rules in
    let given_up : c.from_residual.result ≡ None = search rules in
    ap (option_map plain_command) given_up ∙ no_file c.args.found.now (rw none at c.get_str.ensures)

pub returns-in_err-steps-clause-command : goal.returns-in_err-steps-clause-command
returns-in_err-steps-clause-command c =
    let some : c.get_str.result ≡ Some c.in_ok-file.file = search rules in
    let none : c.get_str-2.result ≡ None = search rules in
    let given_up : c.from_residual-in_err-steps.result ≡ None = search rules in
    ap (option_map plain_command) given_up
    ∙ files_are c.args.found.now (Some c.in_ok-file.file) None (rw some at c.get_str.ensures) (rw none at c.get_str-2.ensures)

pub returns-clause-command : goal.returns-clause-command
returns-clause-command c =
    let file : c.get_str.result ≡ Some c.in_ok-file.file = search rules in
    let steps : c.get_str-2.result ≡ Some c.in_ok-steps.steps = search rules in
    c.verify_for.ensures.command
    ∙ files_are c.args.found.now (Some c.in_ok-file.file) (Some c.in_ok-steps.steps) (rw file at c.get_str.ensures) (rw steps at c.get_str-2.ensures)
