use Rattle.std.proofs.Common.{rules, ◌≡◌, ◌∙◌, sym, ap, Some, None, option_map}
use Rattle.cf_words.proofs.FoundLemmas.{operand_is}
use Rattle.cf_words.specs.Commands.{plain_command}
use Rattle.cf_words.specs.Words.{command_for}
use Rattle.cf_words.proofs.matches.plain_found.Goals as goal

pub returns-in_err-operand-clause-command : goal.returns-in_err-operand-clause-command
returns-in_err-operand-clause-command c =
    let none : c.get_str.result ≡ None = search rules in
    let given_up : c.from_residual.result ≡ None = search rules in
    ap (option_map plain_command) given_up ∙ operand_is c.args.found.now c.args.name.now None (rw none at c.get_str.ensures) (sym c.eq.ensures ∙ c.if-eq.false)

pub returns-clause-command : goal.returns-clause-command
returns-clause-command c =
    let some : c.get_str.result ≡ Some c.in_ok-operand.operand = search rules in
    c.command_for.ensures.command
    ∙ (λ i. command_for c.args.name.now (c.flags_found.ensures i) (c.form_found.ensures i) (c.checks_found.ensures i) c.in_ok-operand.operand.now)
    ∙ operand_is c.args.found.now c.args.name.now (Some c.in_ok-operand.operand) (rw some at c.get_str.ensures) (sym c.eq.ensures ∙ c.if-eq.false)
