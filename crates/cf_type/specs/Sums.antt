-- Sums of any size.
use Rattle.std.specs.Prelude.{ℤ, pos, ◌^◌, ◌+ℤ◌, ◌*ℤ◌}
use Rattle.cf_type.specs.declared.sums.Sum.{Sum}

-- the number that a sum stands for
abbrev pub sum_of : Sum → ℤ
sum_of s = s.low +ℤ s.turns *ℤ pos (2 ^ 128)
