use Rattle.std.specs.Io.KnownBytes.{Keeps}
use Rattle.cf_io.proofs.edge.write_again.Given as goal

abbrev pub invariant-tries : goal.invariant-tries
invariant-tries g l = Keeps (g.W.Write.contents l.fn.inner) (g.W.Write.contents l.inner)
