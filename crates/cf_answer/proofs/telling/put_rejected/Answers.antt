use Rattle.std.proofs.Common.{subst}
use Rattle.cf_answer.specs.Lines.{Puts}
use Rattle.cf_answer.proofs.PieceLemmas.{rejected_pieces}
use Rattle.cf_answer.proofs.telling.put_rejected.Goals as goal

pub returns : goal.returns
returns g c =
    let reason = c.rejection_reason-reason.result in
    subst (λ line. Puts line (g.E.Sink.seen c.args.err.now) (g.E.Sink.seen c.put_pieces.new.err) c.put_pieces.result)
    (rejected_pieces c.args.number c.args.case c.args.step reason.words.now reason.gap.now reason.count.now c.args.why.now
    c.rejection_reason-reason.ensures)
    (rw (
      c.as_slice.ensures,
      c.as_bytes.ensures.value,
      c.format.ensures.text,
      c.as_slice-2.ensures,
      c.as_bytes-2.ensures.value,
      c.format-2.ensures.text,
      c.as_slice-3.ensures,
      c.as_bytes-3.ensures.value,
      c.format-3.ensures.text,
      c.as_slice-4.ensures,
      c.as_slice-5.ensures,
    ) at c.put_pieces.ensures)
