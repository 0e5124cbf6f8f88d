use Rattle.std.proofs.Common.{subst}
use Rattle.cf_answer.specs.Lines.{Puts}
use Rattle.cf_answer.proofs.PieceLemmas.{choose_pieces}
use Rattle.cf_answer.proofs.telling.put_choose.Goals as goal

pub returns : goal.returns
returns g c =
    let reason = c.refusal_reason-reason.result in
    subst (λ line. Puts line (g.E.Sink.seen c.args.err.now) (g.E.Sink.seen c.put_pieces.new.err) c.put_pieces.result)
    (choose_pieces c.args.number reason.words.now reason.gap.now reason.count.now _ c.refusal_reason-reason.ensures)
    (rw (c.as_slice.ensures, c.as_bytes.ensures.value, c.format.ensures.text, c.as_slice-2.ensures, c.as_slice-3.ensures) at c.put_pieces.ensures)
