use Rattle.cf_io.specs.Lines.{rest_of}
use Rattle.cf_io.proofs.LineLemmas.{Stands-more}
use Rattle.cf_io.proofs.cutter.Cutter.go_on.Goals as goal

pub returns-clause-stands : goal.returns-clause-stands
returns-clause-stands c = λ most bytes s.
    let stood = rw (← c.self.view_is) at s in
    Stands-more c.args.piece.now _ _ _ stood c.room_behind-self-inside.ensures (c.in_ok-self-inside.ensures.ok (rest_of bytes) stood.line)
