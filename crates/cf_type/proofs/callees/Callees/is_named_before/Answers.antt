use Rattle.std.proofs.Common.{◌≡◌, map, rules}
use Rattle.cf_type.proofs.NumberLemmas.{none_among, first_among}
use Rattle.cf_type.proofs.callees.Callees.is_named_before.Goals as goal

pub returns-in-None : goal.returns-in-None
returns-in-None c =
    let whole : c.args.self.now ≡ map (λ d. d.now) c.self.inside.defs.now = search rules in
    let named : c.args.name.now ≡ c.as_slice.result.now = search rules in
    rw (whole, named) (none_among c.self.inside.numbers.entries (map (λ d. d.now) c.self.inside.defs.now) c.as_slice.result.now c.args.count c.in-None.ensures.value
    c.self.invariant)

pub returns-in-Some : goal.returns-in-Some
returns-in-Some c =
    let whole : c.args.self.now ≡ map (λ d. d.now) c.self.inside.defs.now = search rules in
    let named : c.args.name.now ≡ c.as_slice.result.now = search rules in
    rw (whole, named) (first_among c.self.inside.numbers.entries (map (λ d. d.now) c.self.inside.defs.now) c.as_slice.result.now c.args.count c.in-Some.found.now
    c.in-Some.ensures.value c.self.invariant)
