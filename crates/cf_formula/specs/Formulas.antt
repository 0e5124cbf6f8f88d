-- Positive formulas over rows.
use Rattle.std.specs.Prelude.{◌≡◌, ℕ, pos, ◌≤ℤ◌, ◌⊎◌, List, [], ◌∷◌}
use Rattle.cf_linear.specs.Rows.{Row, Values, value}
use Rattle.cf_linear.specs.Keep.{Over}

-- `at_least r` is r >= 0, and `equal r` is r == 0
pub data Formula : Type 0 where
  always : Formula
  never : Formula
  at_least : Row → Formula
  equal : Row → Formula
  both : Formula → Formula → Formula
  either : Formula → Formula → Formula

abbrev pub Holds : Values → Formula → Type 0
Holds v always = Unit {0}
Holds v never = ⊥
Holds v (at_least r) = pos 0 ≤ℤ value v r
Holds v (equal r) = value v r ≡ pos 0
Holds v (both f g) = Holds v f × Holds v g
Holds v (either f g) = Holds v f ⊎ Holds v g

-- what holds of the row of each atom
abbrev pub EachAtom : (Row → Type 0) → Formula → Type 0
EachAtom P always = Unit {0}
EachAtom P never = Unit {0}
EachAtom P (at_least r) = P r
EachAtom P (equal r) = P r
EachAtom P (both f g) = EachAtom P f × EachAtom P g
EachAtom P (either f g) = EachAtom P f × EachAtom P g

-- each column of each row is of the kind
abbrev pub Throughout : (ℕ → Type 0) → Formula → Type 0
Throughout Q f = EachAtom (Over Q) f

abbrev pub EachFormula : (Formula → Type 0) → List Formula → Type 0
EachFormula P [] = Unit {0}
EachFormula P (f ∷ fs) = P f × EachFormula P fs

abbrev pub SomeFormula : (Formula → Type 0) → List Formula → Type 0
SomeFormula P [] = ⊥
SomeFormula P (f ∷ fs) = P f ⊎ SomeFormula P fs
