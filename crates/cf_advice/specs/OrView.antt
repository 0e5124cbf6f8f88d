-- The plain form of an `||`.
use Rattle.std.specs.Prelude.{List, map}
use Rattle.cf_advice.specs.declared.ors.Or.{Or}
use Rattle.cf_advice.specs.declared.ors.OrBranch.{OrBranch}
use Rattle.cf_advice.specs.declared.ors.Side.{Side}
use Rattle.cf_advice.specs.Ors.{OrTree}

abbrev pub branch_path : OrBranch → List Side
branch_path b = b.path.items

abbrev pub or_tree : Or → OrTree
or_tree o = record { place = o.place; branches = map branch_path o.branches.items }
