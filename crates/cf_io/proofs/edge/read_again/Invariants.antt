use Rattle.std.specs.Io.KnownBytes.{Keeps}
use Rattle.cf_io.proofs.edge.read_again.Given as goal

abbrev pub invariant-tries : goal.invariant-tries
invariant-tries g l = Keeps (g.R.Read.remaining l.fn.inner) (g.R.Read.remaining l.inner)
