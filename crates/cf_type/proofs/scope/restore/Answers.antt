use Rattle.std.proofs.Common.{◌≡◌, ap, rules}
use Rattle.cf_type.proofs.ScopedLemmas.{not_there}
use Rattle.cf_type.proofs.scope.restore.Goals as goal

pub returns-in_default : goal.returns-in_default
returns-in_default c =
    let named : c.args.name.now ≡ c.as_slice.result.now = search rules in
    rw named (not_there c.args.innermost.now.entries c.get_mut.follows.lender-at-none.entries c.as_slice.result.now c.args.hidden
    (ap (λ m. m.entries) c.get_mut.follows.holds-at-none) c.in_default.ensures.value)
