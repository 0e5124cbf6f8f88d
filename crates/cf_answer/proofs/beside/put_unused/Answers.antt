use Rattle.std.proofs.Common.{◌≡◌, refl, rules}
use Rattle.cf_answer.proofs.BesideLemmas.{unused_text}
use Rattle.cf_answer.proofs.beside.put_unused.Goals as goal

pub returns : goal.returns
returns c =
    let place : c.param.inside.0.0 ≡ c.args.param.now.place = search rules in
    let bytes : c.deref.result.now ≡ c.args.param.now.name = search rules in
    unused_text c.args.lines.now.items _ _ _ _ _ _ c.args.name.now c.args.param.now _ _ place refl c.as_slice.ensures bytes c.in_ok-put_front.ensures
    c.in_ok-extend_from_slice.ensures.items c.in_ok-extend_from_slice-2.ensures.items c.in_ok-push.ensures.items
