-- Values whose numbers are within the limit.
use Rattle.std.specs.Prelude.{List, [], ◌∷◌}
use Rattle.cf_num.specs.Limit.{IsWithin}
use Rattle.cf_tree.specs.Values.{Value, number_of}

-- each number among the values is within the limit
abbrev pub AreFit : List Value → Type 0
AreFit [] = Unit {0}
AreFit (v ∷ vs) = IsWithin (number_of v) × AreFit vs
