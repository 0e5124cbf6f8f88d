-- The plain tree of a choose.
use Rattle.cf_tree.specs.declared.choose.Choose.{Choose}
use Rattle.cf_tree.specs.ChooseTree.{ChooseTree}
use Rattle.cf_tree.specs.Params.{bases_of, names_of}
use Rattle.cf_tree.specs.RelView.{rel_tree}

abbrev pub choose_tree : Choose → ChooseTree
choose_tree c = record { number = c.number; names = names_of c.scope.now; scope = bases_of c.scope.now; outputs = c.outputs.now; relation = rel_tree c.rel.now }
