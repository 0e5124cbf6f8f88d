-- Levels of which each stands once in its list.
use Rattle.std.specs.Prelude.{ℕ, ◌<◌, ◌≡◌, List, length, get_or}
use Rattle.cf_linear.specs.Layout.{place}

-- each level of the list stands once in it
abbrev pub AreOnce : List ℕ → Type 0
AreOnce xs = (i : ℕ) → i < length xs → place (get_or xs i 0) xs ≡ i
