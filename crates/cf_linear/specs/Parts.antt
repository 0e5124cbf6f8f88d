-- What the private calls of `row_of` answer.
use Rattle.std.specs.Prelude.{◌≡◌, ℕ, ◌+◌, ℤ, ◌+ℤ◌, ◌*ℤ◌, Bool, true, false, List, [], ◌∷◌, ◌++◌, ◌||◌, drop, map, Result, Ok, Err}
use Rattle.cf_linear.specs.declared.refusal.RowFault.{RowFault}
use Rattle.cf_linear.specs.declared.refusal.RowFault.TheVariants.{Past, NoMemory}
use Rattle.cf_linear.specs.declared.written.Writer.{Writer}
use Rattle.cf_linear.specs.Rows.{Row, entry, passes, sum_passes, row_passes}
use Rattle.cf_linear.specs.Written.{GuardTree, quotient_guard, above_quotient, below_quotient, WrittenTree, first_sign, other_signs, signed_by}
use Rattle.cf_linear.specs.Views.{guard_of}

-- a fault that is Past only where b
abbrev pub IsRowFault : Bool → RowFault → Type 0
IsRowFault b Past = b ≡ true
IsRowFault b NoMemory = Unit {0}

-- the row r, or Past where an entry of it passes the limit
abbrev pub RowAnswer : Row → Result Row RowFault → Type 0
RowAnswer r (Ok x) = (x ≡ r) × (row_passes r ≡ false)
RowAnswer r (Err e) = IsRowFault (row_passes r) e

-- whether an entry of the row r passes the limit
abbrev pub Tested : Row → Result (Unit {0}) RowFault → Type 0
Tested r (Ok u) = row_passes r ≡ false
Tested r (Err e) = IsRowFault (row_passes r) e

-- of two products and their sum only the sum can pass the limit
abbrev pub OnlySums : ℤ → Row → ℤ → Row → Type 0
OnlySums a r b s = (c : ℕ) → sum_passes a (entry r c) b (entry s c) ≡ true → passes (a *ℤ entry r c +ℤ b *ℤ entry s c) ≡ true

-- the guards that are written so far
abbrev pub guards_of : Writer → List GuardTree
guards_of d = map guard_of d.guards.items

-- the row of the written part w, whose guards, columns and signs the writer d has now
pub record IsPart (w : WrittenTree) (signs : List Bool) (before : List GuardTree) (d : Writer) (row : Row) : Type 0 where
  pub row_is : row ≡ w.row
  pub guards_are : guards_of d ≡ before ++ w.guards
  pub next_is : d.next ≡ w.next
  pub left : drop d.used signs ≡ w.signs
  pub fits : w.passes ≡ false

abbrev pub WrittenAnswer : WrittenTree → List Bool → List GuardTree → Writer → Result Row RowFault → Type 0
WrittenAnswer w signs before d (Ok r) = IsPart w signs before d r
WrittenAnswer w signs before d (Err e) = IsRowFault w.passes e

-- the row y, after the guard of the quotient of r by k in the next column was added
abbrev pub DividedAnswer : Row → Row → ℤ → Writer → Writer → Result Row RowFault → Type 0
DividedAnswer y r k d e (Ok x) =
    (x ≡ y) × (e.next ≡ d.next + 1) × (e.used ≡ d.used) × ((row_passes (above_quotient d.next r k) || row_passes (below_quotient d.next r k)) ≡ false) ×
    (guards_of e ≡ guards_of d ++ (quotient_guard d.next r k ∷ []))
DividedAnswer y r k d e (Err f) = IsRowFault (row_passes (above_quotient d.next r k) || row_passes (below_quotient d.next r k)) f

-- the guard g was added, or Past where b
abbrev pub GuardAnswer : Bool → GuardTree → List GuardTree → List GuardTree → Result (Unit {0}) RowFault → Type 0
GuardAnswer b g before after (Ok u) = (b ≡ false) × (after ≡ before ++ (g ∷ []))
GuardAnswer b g before after (Err e) = IsRowFault b e

-- the row r, after the guard g was added, or Past where b
abbrev pub BackAnswer : Row → Bool → GuardTree → List GuardTree → List GuardTree → Result Row RowFault → Type 0
BackAnswer r b g before after (Ok x) = (x ≡ r) × (b ≡ false) × (after ≡ before ++ (g ∷ []))
BackAnswer r b g before after (Err e) = IsRowFault b e

-- a row alone
abbrev pub bare : Row → WrittenTree
bare r = record { row = r; guards = []; next = 0; signs = []; passes = false }

-- the row with its sign, true being minus, after the guard of the sign was added
abbrev pub SignedAnswer : Bool → Row → List GuardTree → List GuardTree → Result Row RowFault → Type 0
SignedAnswer b r before after (Ok x) = (x ≡ (signed_by b (bare r)).row) × ((signed_by b (bare r)).passes ≡ false) ×
    (after ≡ before ++ (signed_by b (bare r)).guards)
SignedAnswer b r before after (Err e) = IsRowFault (signed_by b (bare r)).passes e

-- the same with the first of the signs that are left
abbrev pub AbsoluteAnswer : List Bool → List Bool → Row → Writer → Writer → Result Row RowFault → Type 0
AbsoluteAnswer rest signs r d e (Ok x) =
    (x ≡ (signed_by (first_sign rest) (bare r)).row) × (e.next ≡ d.next) × (drop e.used signs ≡ other_signs rest) ×
    ((signed_by (first_sign rest) (bare r)).passes ≡ false) × (guards_of e ≡ guards_of d ++ (signed_by (first_sign rest) (bare r)).guards)
AbsoluteAnswer rest signs r d e (Err f) = IsRowFault (signed_by (first_sign rest) (bare r)).passes f
