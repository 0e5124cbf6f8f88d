-- When an unknown may be dropped.
use Rattle.std.specs.Prelude.{◌≡◌, ℕ, pos, neg_ℤ, List, ◌⊎◌}
use Rattle.cf_linear.specs.Rows.{Row, entry}
use Rattle.cf_linear.specs.Systems.{EachRow}
use Rattle.cf_linear.specs.Steps.{lowers, uppers}

-- no row has x
abbrev pub IsFree : ℕ → List Row → Type 0
IsFree x rows = EachRow (λ r. entry r x ≡ pos 0) rows

-- the lower bound has the coefficient 1, or the upper one -1
abbrev pub IsExact : ℕ → Row → Row → Type 0
IsExact x low high = (entry low x ≡ pos 1) ⊎ (neg_ℤ (entry high x) ≡ pos 1)

-- each lower bound of x with each upper one
abbrev pub AreExact : ℕ → List Row → Type 0
AreExact x rows = EachRow (λ l. EachRow (IsExact x l) (uppers x rows)) (lowers x rows)
