-- The limit of levels as a number: a choose past it finds no memory.
use Rattle.std.proofs.Common.{◌≡◌, refl}
use Rattle.cf_cases.specs.declared.first_systems.TheConstants.{LEVEL_LIMIT}

most-levels : LEVEL_LIMIT ≡ 536870912
most-levels = refl
