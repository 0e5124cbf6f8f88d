-- Rows of the program, and numbers of it, in bounds and in ways back.
use Rattle.std.specs.Prelude.{◌≤ℤ◌, ℤ, pos, List, [], ◌∷◌}
use Rattle.cf_num.specs.Limit.{IsWithin}
use Rattle.cf_linear.specs.declared.system.Divided.{Divided}
use Rattle.cf_linear.specs.Systems.{How, row_how, greatest, least}
use Rattle.cf_linear.specs.Rows.{Row, IsRow}

abbrev pub pair_of : Divided → Row × ℤ
pair_of b = (b.row, b.k)

abbrev pub Fits : Row → ℤ → Type 0
Fits r k = IsRow r × (pos 1 ≤ℤ k → IsWithin k)

abbrev pub PairsFit : List (Row × ℤ) → Type 0
PairsFit [] = Unit {0}
PairsFit ((r, k) ∷ bs) = Fits r k × PairsFit bs

abbrev pub HowFits : How → Type 0
HowFits (row_how r) = IsRow r
HowFits (greatest bs) = PairsFit bs
HowFits (least bs) = PairsFit bs
