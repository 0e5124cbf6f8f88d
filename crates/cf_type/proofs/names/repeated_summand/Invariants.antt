use Rattle.std.proofs.Common.{◌≡◌, map, drop}
use Rattle.cf_program.specs.Names.{repeated}
use Rattle.cf_program.specs.Walk.{taken}
use Rattle.cf_type.specs.FormView.{context_of, summand_of}
use Rattle.cf_type.proofs.names.repeated_summand.Given as goal

abbrev pub invariant-loop-summand : goal.invariant-loop-summand
invariant-loop-summand l =
    repeated l.before (map (λ x. x.name) (map summand_of (drop l.summand-index l.summands))) (map (λ x. x.place) (map summand_of (drop l.summand-index l.summands)))
    ≡ repeated (taken (context_of l.context)) (map (λ x. x.name) (map summand_of l.summands)) (map (λ x. x.place) (map summand_of l.summands))
