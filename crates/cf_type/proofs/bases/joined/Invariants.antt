use Rattle.std.proofs.Common.{◌≡◌, ◌++◌, map, drop}
use Rattle.cf_program.specs.Walk.{joined}
use Rattle.cf_type.proofs.bases.joined.Given as goal

abbrev pub invariant-loop-bases : goal.invariant-loop-bases
invariant-loop-bases l =
    l.all.items ++ joined (map (λ bs. bs.items) (drop l.bases-index l.lists)) ≡ joined (map (λ bs. bs.items) l.lists)
