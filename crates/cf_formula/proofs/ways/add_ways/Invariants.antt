use Rattle.cf_tree.specs.RelView.{rel_tree}
use Rattle.cf_linear.specs.Cases.{negation_normal}
use Rattle.cf_linear.specs.Views.{plain_layout}
use Rattle.cf_formula.specs.WritingAnswers.{atom_in, ways_of}
use Rattle.cf_formula.proofs.WritingCode.{WaysLeft}
use Rattle.cf_formula.proofs.ways.add_ways.Given as goal

abbrev pub invariant-loop-index : goal.invariant-loop-index
invariant-loop-index l =
    WaysLeft (plain_layout l.layout) (atom_in (negation_normal l.fn.holds (rel_tree l.rel))) l.index (ways_of l.fn.ways) (ways_of l.ways)
