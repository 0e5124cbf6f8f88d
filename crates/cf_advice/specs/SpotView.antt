-- The plain form of a spot.
use Rattle.std.specs.Prelude.{map}
use Rattle.cf_advice.specs.declared.spots.Spot.{Spot}
use Rattle.cf_advice.specs.OrView.{or_tree}
use Rattle.cf_advice.specs.Spots.{SpotTree}

abbrev pub spot_tree : Spot → SpotTree
spot_tree s = record { place = s.place; outputs = s.outputs.items; ors = map or_tree s.ors.items }
