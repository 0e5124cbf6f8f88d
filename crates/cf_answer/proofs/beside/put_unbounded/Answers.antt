use Rattle.std.proofs.Common.{◌≡◌, rules}
use Rattle.cf_answer.proofs.BesideLemmas.{unbounded_text}
use Rattle.cf_answer.proofs.beside.put_unbounded.Goals as goal

pub returns : goal.returns
returns c =
    let bytes : c.deref.result.now ≡ c.args.name.now = search rules in
    unbounded_text c.args.lines.now.items _ _ _ _ _ _ c.args.is_told c.args.number c.args.name.now _ c.if-not-is_told.false c.as_slice.ensures
    c.as_slice-2.ensures bytes c.in_ok-put_head.ensures c.in_ok-extend_from_slice.ensures.items c.in_ok-extend_from_slice-2.ensures.items
    c.in_ok-push.ensures.items
