use Rattle.std.proofs.Common.{◌≡◌, rules}
use Rattle.cf_type.proofs.ScopedLemmas.{none_in_scope, found_in_scope}
use Rattle.cf_type.proofs.scope.Scope.find.Goals as goal

pub returns-in-None : goal.returns-in-None
returns-in-None c =
    let named : c.args.name.now ≡ c.as_slice.result.now = search rules in
    rw (← c.self.view_is, named) (none_in_scope c.self.inside.innermost.entries _ _ c.as_slice.result.now c.in-None.ensures.value c.self.invariant)

pub returns-in-Some : goal.returns-in-Some
returns-in-Some c =
    let named : c.args.name.now ≡ c.as_slice.result.now = search rules in
    rw (← c.self.view_is, named) (found_in_scope c.self.inside.innermost.entries _ _ c.as_slice.result.now c.in-Some.found.now c.in-Some.ensures.value
    c.self.invariant)
