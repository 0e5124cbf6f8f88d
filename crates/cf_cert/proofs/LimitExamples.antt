-- The limit of the steps of a case as a number: a steps file, of which each step takes some bytes, has no more.
use Rattle.std.proofs.Common.{◌≡◌, refl}
use Rattle.cf_cert.specs.declared.follow.TheConstants.{MOST_STEPS}

most-steps : MOST_STEPS ≡ 67108864
most-steps = refl
