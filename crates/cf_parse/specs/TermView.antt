-- The plain form of a term of a pattern.
use Rattle.cf_tree.specs.RawView.{part_tree}
use Rattle.cf_parse.specs.declared.pattern.Term.{Term}
use Rattle.cf_parse.specs.declared.pattern.Term.TheVariants.{Part as read_part, Constant as read_constant}
use Rattle.cf_parse.specs.Reading.{TermTree, a_part, the_constant}

abbrev pub term_tree : Term → TermTree
term_tree (read_part x) = a_part (part_tree x)
term_tree (read_constant k) = the_constant k
