-- The limits as numbers.
use Rattle.std.proofs.Common.{◌≡◌, ◌<◌, ◌^◌, refl, arith}
use Rattle.cf_io.specs.Limits.{line_limit, input_limit}

pub line_limit-is : line_limit ≡ 65536
unfolding line_limit
line_limit-is = refl

pub input_limit-is : input_limit ≡ 16777216
unfolding input_limit
input_limit-is = refl

pub input_limit-small : input_limit < 2 ^ 32
input_limit-small = rw input_limit-is (omega arith)
