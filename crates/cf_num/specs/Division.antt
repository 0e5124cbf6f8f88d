-- Division by a positive number, rounded down and up.
use Rattle.std.specs.Prelude.{ℤ, ◌*ℤ◌, ◌≤ℤ◌, ◌↔◌}

-- n is the greatest number with n * k at most a
abbrev pub IsFloor : ℤ → ℤ → ℤ → Type 0
IsFloor a k n = (m : ℤ) → ((m *ℤ k) ≤ℤ a) ↔ (m ≤ℤ n)

-- n is the least number with n * k at least a
abbrev pub IsCeiling : ℤ → ℤ → ℤ → Type 0
IsCeiling a k n = (m : ℤ) → (a ≤ℤ (m *ℤ k)) ↔ (n ≤ℤ m)
