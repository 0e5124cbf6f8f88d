-- When a whole number divides another.
use Rattle.std.specs.Prelude.{◌≡◌, ℤ, ◌*ℤ◌}

-- z is k times some whole number
abbrev pub Divides : ℤ → ℤ → Type 0
Divides k z = (q : ℤ) × (z ≡ k *ℤ q)
