use Rattle.std.proofs.Common.{refl, sym, []}
use Rattle.cf_c.specs.Lines.{closed}
use Rattle.cf_c.proofs.LineLemmas.{line_answered, nothing_filled}
use Rattle.cf_c.proofs.comfusy_line.Goals as goal

pub returns-in-Some : goal.returns-in-Some
returns-in-Some c =
    let replies = rw c.deref.ensures at c.reply_to-replied.ensures in
    rw c.keep.ensures
    (line_answered c.args.program.now.kept c.in-Some.replier.value c.args.line.now _ _ _ _ _ (sym c.in-Some.ensures.taken) replies c.hand_back.ensures)

pub returns-in-None : goal.returns-in-None
returns-in-None c = record {
  same = rw c.in-None.ensures.left (c.in-None.ensures.taken);
  reply = [];
  filled = nothing_filled _;
  ended = closed (sym c.in-None.ensures.taken) refl c.number_of.ensures;
}
