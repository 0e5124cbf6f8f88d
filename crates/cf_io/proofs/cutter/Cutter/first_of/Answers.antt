use Rattle.std.proofs.Common.{◌∙◌, ◌++◌, ap, map}
use Rattle.cf_io.specs.Cut.{line_of}
use Rattle.cf_io.specs.Lines.{rest_of}
use Rattle.cf_io.proofs.FeedLemmas.{lines_found}
use Rattle.cf_io.proofs.LineLemmas.{ended-is}
use Rattle.cf_io.proofs.cutter.Cutter.first_of.Goals as goal

pub returns : goal.returns
returns c = λ most bytes s.
    let stood = rw (← c.self.view_is) at s in
    let kept = rw (← c.deref.ensures.value) at stood.line in
    let found = rw c.within-front.ensures at (c.in_ok-rest.ensures (rest_of bytes) kept) in
    ap (λ ls. c.first_ended.new.out.items ++ map (line_of c.args.limit) ls) (ended-is c.in_ok-rest.rest.now) ∙ found
    ∙ ap (λ ls. c.args.lines.now.items ++ ls) (lines_found c.args.limit most c.self.inside.room bytes c.args.piece.now stood.room)
