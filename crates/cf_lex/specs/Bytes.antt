-- Kinds of bytes.
use Rattle.std.specs.Prelude.{ℕ, Bool, ◌&&◌, ◌||◌, not, ◌==◌, nat_le, codes}
use Rattle.std.specs.List.{list_any}

-- space, tab, carriage return and line feed
abbrev pub is_white : ℕ → Bool
is_white b = b == 32 || b == 9 || b == 13 || b == 10

-- 0 to 9
abbrev pub is_digit : ℕ → Bool
is_digit b = nat_le 48 b && nat_le b 57

-- A to Z, a to z and _
abbrev pub is_letter : ℕ → Bool
is_letter b = nat_le 65 b && nat_le b 90 || nat_le 97 b && nat_le b 122 || b == 95

abbrev pub is_in_word : ℕ → Bool
is_in_word b = is_letter b || is_digit b

-- all but the line feed
abbrev pub is_in_comment : ℕ → Bool
is_in_comment b = not (b == 10)

-- the signs of one byte
abbrev pub is_short_sign : ℕ → Bool
is_short_sign b = list_any (λ c. b == c) (codes "(){}[],:;=<>!+-*")

-- the signs of two bytes: == != <= >= && ||
abbrev pub is_long_sign : ℕ → ℕ → Bool
is_long_sign a b = b == 61 && list_any (λ c. a == c) (codes "=!<>") || a == 38 && b == 38 || a == 124 && b == 124

-- the sign of three bytes, which edition 3 has alone: ==>
abbrev pub is_longest_sign : ℕ → ℕ → ℕ → Bool
is_longest_sign a b c = a == 61 && b == 61 && c == 62
