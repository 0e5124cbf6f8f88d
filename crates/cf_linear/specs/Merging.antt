-- What the private calls of `combine` do: they go over two rows at once, by rising columns.
use Rattle.std.specs.Prelude.{◌≡◌, ℕ, ◌+◌, ◌≤◌, ◌<◌, ◌⊎◌, ℤ, pos, ◌+ℤ◌, ◌*ℤ◌, length, drop, get_or, Option, Some, None, if◌then◌else◌}
use Rattle.cf_linear.specs.Rows.{Row, Rises, entry, without, sum_passes}

-- a * k + b * m, or none where a product or the sum passes the limit
abbrev pub two_products : ℤ → ℤ → ℤ → ℤ → Option ℤ
two_products a k b m = if sum_passes a k b m then None else Some (a *ℤ k +ℤ b *ℤ m)

-- c is the least column of what is left of r from i on and of s from j on
pub record IsLeast (r : Row) (i : ℕ) (s : Row) (j : ℕ) (c : ℕ) : Type 0 where
  pub first : Rises c (drop i r)
  pub second : Rises c (drop j s)
  pub is_one : ((i < length r) × ((get_or r i (0, pos 0)).0 ≡ c)) ⊎ ((j < length s) × ((get_or s j (0, pos 0)).0 ≡ c))

-- k is the entry at c of what is left of r from i on, and from j on the rest is left
pub record IsTaken (r : Row) (i c : ℕ) (k : ℤ) (j : ℕ) : Type 0 where
  pub taken : k ≡ entry (drop i r) c
  pub rest : drop j r ≡ without c (drop i r)
  pub within : j ≤ length r
  pub onward : i ≤ j
  pub moved : i < length r → (get_or r i (0, pos 0)).0 ≡ c → j ≡ i + 1
