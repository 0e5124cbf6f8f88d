use Rattle.std.proofs.Common.{rules, ◌≡◌, ◌<◌, ◌∙◌, None, Some, min, length, map, take, get_or, ap₂, subst}
use Rattle.std.proofs.Math.ListN.{get_or-map}
use Rattle.cf_tree.specs.DefView.{raw_def_tree}
use Rattle.cf_help.specs.LastNamed.{backwards, last_named}
use Rattle.cf_help.proofs.LastLemmas.{cut, get_among, take_among}
use Rattle.cf_help.proofs.callees.Callees.last_before.Goals as goal

pub returns-in-None-clause-found : goal.returns-in-None-clause-found
returns-in-None-clause-found c =
    let defs = c.self.inside.defs.now in
    let whole : c.args.self.now ≡ map (λ d. d.now) defs = search rules in
    let least : c.min-count.result ≡ min c.args.count (length defs) = search rules in
    let first = cut defs c.args.count c.min-count.result least in
    rw whole (subst (λ ds. last_named (backwards ds) c.args.name.now ≡ None) first c.in-None.ensures)

pub returns-in-Some-clause-found : goal.returns-in-Some-clause-found
returns-in-Some-clause-found c =
    let defs = c.self.inside.defs.now in
    let all = map (λ d. d.now) defs in
    let n = c.in-Some.number in
    let d = c.index-self-number.result in
    let whole : c.args.self.now ≡ all = search rules in
    let least : c.min-count.result ≡ min c.args.count (length defs) = search rules in
    let first = cut defs c.args.count c.min-count.result least in
    let within : n < length (take c.args.count all) = subst (λ ds. n < length ds) first c.in-Some.ensures.0 in
    let named = subst (λ ds. last_named (backwards ds) c.args.name.now ≡ Some (raw_def_tree (get_or ds n d.now), backwards (take n ds))) first
    (c.in-Some.ensures.1 d.now) in
    let def = get_among all c.args.count n d.now within ∙ get_or-map (λ e. e.now) defs n d in
    rw whole (named ∙ ap₂ (λ e es. Some (raw_def_tree e, backwards es)) def (take_among all c.args.count n within))
