use Rattle.std.proofs.Common.{◌≡◌, map, drop}
use Rattle.cf_advice.specs.Spots.{is_among}
use Rattle.cf_advice.proofs.spots.is_among.Given as goal

abbrev pub invariant-loop-other : goal.invariant-loop-other
invariant-loop-other l = is_among (map (λ n. n.now) (drop l.other-index l.names)) l.name ≡ is_among (map (λ n. n.now) l.names) l.name
