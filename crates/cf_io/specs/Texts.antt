-- The texts of a shelf in memory.
use Rattle.std.specs.Prelude.{ℕ, List, [], Option, position, unwrap_or, slice_get, option_map}
use Rattle.std.specs.Str.{bytes_eq}

-- the text at a place, and nothing past the last
abbrev pub text_at : List (List ℕ) → ℕ → List ℕ
text_at texts place = unwrap_or (slice_get texts place) []

-- the text under the first of equal names
abbrev pub text_under : List (List ℕ) → List (List ℕ) → List ℕ → Option (List ℕ)
text_under names texts name = option_map (text_at texts) (position (λ n. bytes_eq n name) names)
