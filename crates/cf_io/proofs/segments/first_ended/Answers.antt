use Rattle.std.proofs.Common.{refl}
use Rattle.cf_io.proofs.LineLemmas.{told_cut}
use Rattle.cf_io.proofs.segments.first_ended.Goals as goal

pub returns-in_ok-push-in-Some : goal.returns-in_ok-push-in-Some
returns-in_ok-push-in-Some c = λ w k.
    rw c.in_ok-push-in-Some.ensures.items (told_cut c.args.limit w c.args.piece.now c.in-Some.line.now c.in-Some.rest.now _ c.args.out.now.items
    (c.in-Some.ensures.lines w) (c.in_ok-line_text-in-Some.ensures w k))

pub returns-in-None : goal.returns-in-None
returns-in-None c = λ w k. rw (c.in-None.ensures.lines w) refl
