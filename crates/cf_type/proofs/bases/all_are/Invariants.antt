use Rattle.std.proofs.Common.{◌≡◌, map, drop}
use Rattle.cf_program.specs.Walk.{all_are}
use Rattle.cf_type.proofs.bases.all_are.Given as goal

abbrev pub invariant-loop-bases : goal.invariant-loop-bases
invariant-loop-bases l =
    all_are l.base (map (λ bs. bs.items) (drop l.bases-index l.lists)) ≡ all_are l.base (map (λ bs. bs.items) l.lists)
