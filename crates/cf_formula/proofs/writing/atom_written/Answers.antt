use Rattle.cf_tree.specs.RelView.{rel_tree}
use Rattle.cf_linear.specs.Views.{plain_layout}
use Rattle.cf_formula.proofs.WritingCode.{ways_atom}
use Rattle.cf_formula.proofs.writing.atom_written.Goals as goal

pub returns-in-None-clause-gives : goal.returns-in-None-clause-gives
returns-in-None-clause-gives c =
    let f = rw c.in-None.is at c.in_ok-formula.ensures in
    ways_atom (plain_layout c.args.layout.now) c.args.holds (rel_tree c.args.rel.now) c.args.next c.ways_written.result c.requires.atom f.0 f.1
    c.ways_written.ensures.gives
