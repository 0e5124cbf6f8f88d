-- A count that rose, and by one at most.
use Rattle.std.proofs.Common.{◌≡◌, ◌≤◌, ℕ, arith}
use Rattle.cf_io.specs.Causes.{Rose, one_more}

pub one_fault : (old new : ℕ) → Rose old new → new ≤ one_more old → new ≡ one_more old
one_fault old new rose once = omega (arith, rose, once)

pub rose_once : (old new : ℕ) → new ≡ one_more old → Rose old new
rose_once old new is = omega (arith, is)
