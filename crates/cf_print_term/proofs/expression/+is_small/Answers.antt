use Rattle.cf_print_term.proofs.TermLists.{more_than_one}
use Rattle.cf_print_term.proofs.expression.+is_small.Goals as goal

pub is_one_small-returns-in_default : goal.is_one_small-returns-in_default
is_one_small-returns-in_default t c = more_than_one c.args.parts.now c.in_default.len_at_least
