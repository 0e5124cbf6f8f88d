use Rattle.std.proofs.Common.{◌≡◌, ◌<◌, ◌∙◌, map, ap, subst, Some, rules}
use Rattle.std.proofs.Math.ListN.{get_or-map}
use Rattle.std.proofs.lemmas.List.{length-map}
use Rattle.cf_tree.specs.DefView.{raw_def_tree}
use Rattle.cf_program.specs.Names.{callee}
use Rattle.cf_type.proofs.NumberLemmas.{no_callee, number_below, callee_at}
use Rattle.cf_type.proofs.callees.Callees.find.Goals as goal

pub bounds-self-inside-number : goal.bounds-self-inside-number
bounds-self-inside-number c =
    subst (λ n. c.in-Some.found.now < n) (length-map c.self.inside.defs.now (λ d. d.now))
    (number_below c.self.inside.numbers.entries (map (λ d. d.now) c.self.inside.defs.now) c.as_slice.result.now c.in-Some.found.now c.in-Some.ensures.value
    c.self.invariant)

pub returns-in-None : goal.returns-in-None
returns-in-None c =
    let whole : c.args.self.now ≡ map (λ d. d.now) c.self.inside.defs.now = search rules in
    let named : c.args.name.now ≡ c.as_slice.result.now = search rules in
    rw (whole, named) (no_callee c.args.caller c.self.inside.numbers.entries (map (λ d. d.now) c.self.inside.defs.now) c.as_slice.result.now c.in-None.ensures.value
    c.self.invariant)

pub returns-in-Some : goal.returns-in-Some
returns-in-Some c =
    let whole : c.args.self.now ≡ map (λ d. d.now) c.self.inside.defs.now = search rules in
    let named : c.args.name.now ≡ c.as_slice.result.now = search rules in
    rw (whole, named) (callee_at c.args.caller c.self.inside.numbers.entries (map (λ d. d.now) c.self.inside.defs.now) c.as_slice.result.now c.in-Some.found.now
    c.index-self-number.result.now c.in-Some.ensures.value c.self.invariant
    ∙ ap (λ d. Some (callee c.args.caller c.in-Some.found.now (raw_def_tree d)))
    (get_or-map (λ d. d.now) c.self.inside.defs.now c.in-Some.found.now c.index-self-number.result))
