use Rattle.std.proofs.Common.{◌-◌, ◌+◌, ◌≤◌, ◌≡◌, List, ℕ, vec_len}
use Rattle.std.specs.Io.KnownBytes.{Consumes}
use Rattle.cf_io.specs.Causes.{one_more}
use Rattle.cf_io.proofs.read.read_front.Given as goal

abbrev pub invariant-pieces : goal.invariant-pieces
invariant-pieces g l = record {
  within : vec_len l.bytes ≤ l.most;
  read : Consumes ((g.F.Shelf.seen l.fn.shelf).texts l.name) (g.F.Shelf.seen l.shelf).left l.bytes.items;
  turned : g.F.Shelf.turned l.shelf l.name;
  texts : (other : List ℕ) → (g.F.Shelf.seen l.shelf).texts other ≡ (g.F.Shelf.seen l.fn.shelf).texts other;
  same : (other : List ℕ) → (g.F.Shelf.seen l.shelf).faults other ≡ (g.F.Shelf.seen l.fn.shelf).faults other;
  asked : (g.F.Shelf.seen l.shelf).fetches ≡ one_more (g.F.Shelf.seen l.fn.shelf).fetches;
  given : (g.F.Shelf.seen l.shelf).given ≤ (g.F.Shelf.seen l.fn.shelf).given + vec_len l.bytes;
  ends : (g.F.Shelf.seen l.shelf).ends ≡ (g.F.Shelf.seen l.fn.shelf).ends;
}

abbrev pub decreases-pieces : goal.decreases-pieces
decreases-pieces g l = l.most - vec_len l.bytes
