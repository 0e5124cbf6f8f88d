use Rattle.std.proofs.Common.{◌≡◌, drop, map}
use Rattle.cf_tree.specs.CodeView.{code_trees}
use Rattle.cf_print_term.specs.TermView.{term_tree}
use Rattle.cf_print_term.specs.Expressions.{sum_behind, applied_on, terms_of}
use Rattle.cf_print_term.proofs.TermLists.{terms_then}
use Rattle.cf_print_term.proofs.expression.+term_of.Given as goal

abbrev pub invariant-sum_behind-loop-i : goal.invariant-sum_behind-loop-i
invariant-sum_behind-loop-i l =
    sum_behind l.walk.table.now l.walk.scope.now (term_tree l.so_far) (code_trees (drop l.i l.parts)) ≡
    sum_behind l.walk.table.now l.walk.scope.now (term_tree l.fn.start) (code_trees (drop 2 l.parts))

abbrev pub invariant-over_more-loop-i : goal.invariant-over_more-loop-i
invariant-over_more-loop-i l =
    applied_on l.form (term_tree l.so_far) (terms_of l.walk.table.now l.walk.scope.now (code_trees (drop l.i l.parts))) ≡
    applied_on l.form (term_tree l.fn.first) (terms_of l.walk.table.now l.walk.scope.now (code_trees (drop 1 l.parts)))

abbrev pub invariant-terms-loop-code : goal.invariant-terms-loop-code
invariant-terms-loop-code l =
    terms_then (map term_tree l.all.items) (terms_of l.walk.table.now l.walk.scope.now (code_trees (drop l.code-index l.codes))) ≡
    terms_of l.walk.table.now l.walk.scope.now (code_trees l.codes)
