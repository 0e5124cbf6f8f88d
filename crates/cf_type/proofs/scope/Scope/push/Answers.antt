use Rattle.std.proofs.Common.{◌≡◌, ◌++◌, ◌∷◌, [], length, map, rules}
use Rattle.cf_program.specs.Names.{variable_of}
use Rattle.cf_type.specs.declared.scope.Binding.{Binding}
use Rattle.cf_type.proofs.ScopedLemmas.{scope_pushed}
use Rattle.cf_type.proofs.scope.Scope.push.Goals as goal

pub invariant_of-self-2 : goal.invariant_of-self-2
invariant_of-self-2 c =
    let binding : Binding = record { param = c.args.param; hidden = c.find-hidden.result } in
    let pushed : c.push.new.self.items ≡ c.self.inside.bindings.items ++ binding ∷ [] = search rules in
    let named : c.in_ok-name.name.items ≡ c.args.param.name = search rules in
    let same : c.in_ok-name.variable ≡ record { level = length (map (λ b. b.param) c.self.inside.bindings.items); base = c.args.param.base } = search rules in
    let hides : c.find-hidden.result ≡ variable_of (map (λ b. b.param) c.self.inside.bindings.items) c.args.param.name = search rules in
    rw pushed (scope_pushed c.self.inside.innermost.entries c.insert.new.self.entries c.in_ok-name.name c.self.inside.bindings.items binding
    c.in_ok-name.variable named same hides c.in_ok-insert.ensures.entries c.self.invariant)
