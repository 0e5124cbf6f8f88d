use Rattle.std.proofs.Common.{◌≡◌, map, drop}
use Rattle.cf_program.specs.Walk.{all_have}
use Rattle.cf_type.proofs.bases.all_have.Given as goal

abbrev pub invariant-loop-other : goal.invariant-loop-other
invariant-loop-other l =
    all_have l.bases (map (λ bs. bs.items) (drop l.other-index l.lists)) ≡ all_have l.bases (map (λ bs. bs.items) l.lists)
