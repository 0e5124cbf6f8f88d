use Rattle.std.proofs.Common.{◌≡◌, map, drop}
use Rattle.cf_program.specs.Names.{repeated}
use Rattle.cf_program.specs.Walk.{taken}
use Rattle.cf_tree.specs.Params.{names_of}
use Rattle.cf_type.specs.FormView.{context_of}
use Rattle.cf_type.proofs.names.repeated_param.Given as goal

abbrev pub invariant-loop-param : goal.invariant-loop-param
invariant-loop-param l =
    repeated l.before (names_of (drop l.param-index l.params)) (map (λ p. p.place) (drop l.param-index l.params))
    ≡ repeated (taken (context_of l.context)) (names_of l.params) (map (λ p. p.place) l.params)
