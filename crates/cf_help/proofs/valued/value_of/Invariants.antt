use Rattle.std.proofs.Common.{◌≡◌, map, drop}
use Rattle.cf_program.specs.Constants.{constant_of}
use Rattle.cf_help.specs.ValuedView.{constant_seen}
use Rattle.cf_help.proofs.valued.value_of.Given as goal

abbrev pub invariant-loop-constant : goal.invariant-loop-constant
invariant-loop-constant l = constant_of (map constant_seen (drop l.constant-index l.values)) l.name ≡ constant_of (map constant_seen l.values) l.name
