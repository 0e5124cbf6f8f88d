use Rattle.std.proofs.Common.{◌≡◌, ◌++◌, ◌∷◌, [], rules}
use Rattle.std.specs.Map.{set_value}
use Rattle.std.specs.Str.{bytes_eq}
use Rattle.cf_type.proofs.ScopedLemmas.{scope_popped}
use Rattle.cf_type.proofs.scope.Scope.leave_last.Goals as goal

pub invariant_of-self : goal.invariant_of-self
invariant_of-self c =
    let last : c.self.inside.bindings.items ≡ c.pop.new.self.items ++ c.in-Some.field-0 ∷ [] = search rules in
    let put : c.restore.new.innermost.entries ≡ set_value (λ k. bytes_eq c.in-Some.field-0.param.name k.items) c.self.inside.innermost.entries
    c.in-Some.field-0.hidden = search rules in
    scope_popped c.self.inside.innermost.entries c.restore.new.innermost.entries c.self.inside.bindings.items c.pop.new.self.items c.in-Some.field-0 last put
    c.self.invariant
