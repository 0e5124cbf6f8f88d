-- What C keeps between calls.
use Rattle.std.specs.Prelude.{Bool, true, false, Option, Some, None}
use Rattle.std.specs.Global.{Global}
use Rattle.std.specs.contracts.impls.GlobalAllocator.TheImpl.{ghosts}
use Rattle.std_alloc.specs.Box.Ownership.{box_owns}
use Rattle.cf_answer.specs.contracts.answerer.Replier.{the_row}
use base.Stored.{Coded}
use Rattle.std.specs.Coded.{coded_option}
use base.Fml.{Fml, ftrue, ffalse}
use denote.RawPtr.{Ptr}

-- while it is open, the box at the pointer, with this value; while it is not, nothing; and the two go together
abbrev pub keeps : Global → Bool → Ptr → Option the_row.Denot → Fml
keeps alloc true at (Some x) = box_owns (ghosts.dealloc_token alloc) the_row at x
keeps alloc false at None = ftrue
keeps alloc is_open at kept = ffalse

abbrev pub kept_coded : Coded (Option the_row.Denot)
kept_coded = coded_option the_row.coded
