-- Sums, a part at a time.
use Rattle.std.specs.Prelude.{Bool, false, [], ◌||◌}
use Rattle.cf_tree.specs.CodeTree.{CodeTree, CodeTrees, no_codes, code_more}
use Rattle.cf_print_term.specs.Terms.{Term, word}
use Rattle.cf_print_term.specs.Expressions.{Sight, term_of, below_of, both_small, first_two, one_more}
use Rattle.cf_print_term.specs.declared.table.Table.{Table}

-- the first two of some parts, checked where that is asked or where both are of numerals alone
abbrev pub two_summed : Table → Sight → Bool → CodeTrees → Term
two_summed t w passes (code_more a (code_more b cs)) =
    first_two t (passes || both_small t a b) (below_of t w a) (term_of t w a) (below_of t w b) (term_of t w b)
two_summed t w passes (code_more a no_codes) = word []
two_summed t w passes no_codes = word []

-- one part more, behind a sum that has come to a term
abbrev pub one_summed : Table → Sight → Term → CodeTree → Term
one_summed t w so_far c = one_more t false so_far (below_of t w c) (term_of t w c)
