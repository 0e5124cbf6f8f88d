use Rattle.std.proofs.Common.{◌≡◌, drop}
use Rattle.cf_target.specs.Levels.{level_after}
use Rattle.cf_target.proofs.level.level_after.Given as goal

abbrev pub invariant-loop-d : goal.invariant-loop-d
invariant-loop-d l = level_after l.level_named (drop l.d-index l.digits) ≡ level_after l.fn.n l.digits
