-- The code's pick as one of the definition.
use Rattle.std.specs.Prelude.{ℕ, List, [], ◌∷◌}
use Rattle.cf_bounds.specs.declared.selection.Pick.{Pick as DeclaredPick}
use Rattle.cf_linear.specs.Rows.{Row}
use Rattle.cf_linear.specs.Steps.{Pick, pick_at, pick}

abbrev pub pick_of : DeclaredPick → Pick
pick_of p = record { unknown = p.unknown; lower = p.lower; product = p.product; pairs = p.pairs }

-- the pick among some unknowns
abbrev pub picked : List Row → List ℕ → Pick
picked rows [] = pick_at rows 0
picked rows (x ∷ us) = pick rows x us
