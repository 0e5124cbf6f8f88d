-- The parts of a box own what it owns.
use mir.Syntax.{impl, tnil, dnil}
use mathlib.Core.List.{[]}
use denote.RattleType.{RattleType}
use denote.Signature.{Slot, plain}
use Rattle.std_alloc.proofs.BoxSteps.Form.{Bx}
use Rattle.std.specs.contracts.alloc.Global as heap
use Rattle.std.specs.contracts.impls.GlobalAllocator.TheImpl.{ghosts}
use Rattle.std.proofs.alloc.Global.TheLaws as heap_laws
use Rattle.cf_answer.specs.contracts.answerer.Replier as replier
use Rattle.cf_answer.proofs.answerer.Replier.TheLaws as replier_laws
use Rattle.cf_lines.specs.contracts.held.Held as held
use Rattle.cf_lines.specs.contracts.parts.Parts as parts

abbrev pub E : Bx
E = record {
  row = replier.the_row;
  laws = replier_laws.the_row_laws;
  al =
      record { row = heap.the_row; laws = heap_laws.the_row_laws; g = ghosts; d = impl [] tnil dnil; drops = impl [] tnil dnil };
}

abbrev pub Held : RattleType
Held = held.the_row

abbrev pub FromParts : Slot 0
FromParts = plain (λ _. parts.the_row replier.the_row heap.the_row ghosts)

abbrev pub FromHeld : Slot 0
FromHeld = plain (λ _. held.the_row)
