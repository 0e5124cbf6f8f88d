use Rattle.std.proofs.Common.{inl}
use Rattle.cf_close.proofs.refutation.Refutation.new.Goals as goal

pub invariant_of-result : goal.invariant_of-result
invariant_of-result c = record { kept = λ v m s. record { values = v; solves = s; is_open = inl (c.in-Ok.ensures.holds v m s) } }
