use Rattle.std.proofs.Common.{◌≡◌, ◌++◌, drop}
use Rattle.cf_print_term.specs.TermView.{term_trees}
use Rattle.cf_print_term.specs.Terms.{more_listed}
use Rattle.cf_print_term.proofs.text.+put_term.Given as goal

abbrev pub invariant-put_more-loop-i : goal.invariant-put_more-loop-i
invariant-put_more-loop-i l = l.out.items ++ more_listed (term_trees (drop l.i l.terms)) ≡ l.fn.out.items ++ more_listed (term_trees (drop 1 l.terms))
