use Rattle.std.proofs.Common.{◌≡◌, map, drop}
use Rattle.cf_help.specs.Near.{first_near}
use Rattle.cf_help.proofs.near.first_near.Given as goal

abbrev pub invariant-loop-candidate : goal.invariant-loop-candidate
invariant-loop-candidate l =
    first_near l.name (map (λ n. n.now) (drop l.candidate-index l.candidates)) ≡ first_near l.name (map (λ n. n.now) l.candidates)
