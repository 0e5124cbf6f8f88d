use Rattle.cf_answer.proofs.BesideLemmas.{unreached_text}
use Rattle.cf_answer.proofs.beside.put_unreached.Goals as goal

pub returns : goal.returns
returns c =
    unreached_text c.args.lines.now.items _ _ _ _ _ _ c.args.is_told c.args.number c.args.arm c.if-not-is_told.false c.as_slice.ensures c.as_slice-2.ensures
    c.in_ok-put_head.ensures c.in_ok-extend_from_slice.ensures.items c.in_ok-put_number.ensures c.in_ok-push.ensures.items
