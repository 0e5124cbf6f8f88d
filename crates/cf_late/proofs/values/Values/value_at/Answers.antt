use Rattle.std.proofs.Common.{◌≡◌, ◌<◌, get_or, length, subst}
use Rattle.cf_late.proofs.ValuesLaws.{copy_fit}
use Rattle.cf_late.proofs.values.Values.value_at.Goals as goal

pub one-requires : goal.one-requires
one-requires c =
    let found = c.in-Some.ensures.lookup in
    let v = c.in-Some.value.now in
    let here = subst (λ xs. v ≡ get_or xs c.args.x v) c.deref.ensures.value found.1 in
    let stands = subst (λ xs. c.args.x < length xs) c.deref.ensures.value found.3.0 in
    copy_fit c.self.inside.items.items c.args.x v c.in_ok-try_copy-in-Some.field-0 c.self.invariant stands here c.in_ok-try_copy-in-Some.ensures
