use Rattle.std.proofs.Common.{◌≡◌, [], drop, map}
use Rattle.cf_tree.specs.CodeView.{code_tree}
use Rattle.cf_smt.specs.BoundView.{plain_bound}
use Rattle.cf_smt.specs.Lets.{kept_behind}
use Rattle.cf_smt.proofs.lets.kept_of_last.Given as goal

abbrev pub invariant-loop-bound : goal.invariant-loop-bound
invariant-loop-bound l = kept_behind (map (λ c. code_tree c.now) l.codes) (map plain_bound l.kept.items) (map plain_bound (drop l.bound-index l.lets)) ≡
    kept_behind (map (λ c. code_tree c.now) l.codes) [] (map plain_bound l.lets)
