-- Numbers that are not in a set.
use Rattle.std.specs.Prelude.{◌≡◌, ℕ, ℤ, pos, ◌≤ℤ◌, ◌<ℤ◌, true, false, List, [], ◌∷◌, length}
use Rattle.std.specs.Ordering.{int_cmp}
use Rattle.std.specs.declared.cmp.Ordering.{Ordering}
use Rattle.std.specs.declared.cmp.Ordering.TheVariants.{Greater}
use Rattle.cf_tree.specs.Sets.{has}

-- ys are n numbers from 0 upwards that are not in xs, and a number of that kind below one of them is one of them
pub record AreFresh (xs : List ℤ) (n : ℕ) (ys : List ℤ) : Type 0 where
  pub size : length ys ≡ n
  pub low : (y : ℤ) → has ys y ≡ true → pos 0 ≤ℤ y
  pub apart : (y : ℤ) → has ys y ≡ true → has xs y ≡ false
  pub least : (x y : ℤ) → pos 0 ≤ℤ x → has xs x ≡ false → x <ℤ y → has ys y ≡ true → has ys x ≡ true

-- how the first of a list stands to x; where there is none, as a greater one
abbrev pub cmp_first : List ℤ → ℤ → Ordering
cmp_first [] x = Greater
cmp_first (y ∷ ys) x = int_cmp y x
