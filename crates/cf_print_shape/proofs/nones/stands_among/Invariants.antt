use Rattle.std.proofs.Common.{◌≡◌, drop, nat_eq}
use Rattle.std.specs.List.{list_any}
use Rattle.cf_print_shape.proofs.nones.stands_among.Given as goal

abbrev pub invariant-loop-other : goal.invariant-loop-other
invariant-loop-other l = list_any (λ m. nat_eq l.number m) (drop l.other-index l.numbers) ≡ list_any (λ m. nat_eq l.number m) l.numbers
