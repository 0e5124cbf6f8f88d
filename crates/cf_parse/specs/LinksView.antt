-- The plain form of the links of a chain.
use Rattle.std.specs.Prelude.{map}
use Rattle.cf_tree.specs.RawView.{raw_tree}
use Rattle.cf_parse.specs.declared.measured.Links.{Links as DeclaredLinks}
use Rattle.cf_parse.specs.Reading.{Links}

abbrev pub links_tree : DeclaredLinks → Links
links_tree l = record { orders = l.orders.items; places = l.places.items; parts = map raw_tree l.parts.trees.items }
