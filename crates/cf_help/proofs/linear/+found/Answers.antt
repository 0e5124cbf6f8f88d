use Rattle.std.proofs.Common.{rules, ◌≡◌, ◌+◌, ◌*◌, ◌<◌, ◌∙◌, [], map, take, refl, sym, ap, subst, arith}
use Rattle.cf_tree.specs.DefView.{raw_def_tree}
use Rattle.cf_tree.specs.Params.{names_of}
use Rattle.cf_tree.specs.declared.raw.Raw.{size-Raw}
use Rattle.cf_program.specs.Linear.{linear, holders, call_found}
use Rattle.cf_help.specs.BendView.{Tells}
use Rattle.cf_help.specs.HeldView.{held_seen, holder_seen}
use Rattle.cf_help.specs.InsideView.{calls_in}
use Rattle.cf_help.specs.LastNamed.{backwards}
use Rattle.cf_help.specs.declared.linear.Inside.{Inside}
use Rattle.cf_help.proofs.FoundSteps.{call_is, call_of_none}
use Rattle.cf_help.proofs.LastLemmas.{sizes, callee_falls, take_among}
use Rattle.cf_help.proofs.linear.+found.Goals as goal

pub found_call-returns-in-None : goal.found_call-returns-in-None
found_call-returns-in-None t c =
    let empty : c.new.result.items ≡ [] = search rules in
    ap (call_found c.args.place c.args.name.now)
    (call_of_none c.args.inside.now c.args.name.now (map held_seen c.args.args.now) c.in-None.ensures.found)
    ∙ ap (λ hs. linear (map held_seen hs)) (sym empty)

pub found_call-found-requires : goal.found_call-found-requires
found_call-found-requires t c =
    let inside = c.args.inside.now in
    let defs = inside.callees.now in
    let d = c.in-Some.def.now in
    let at = c.in-Some.ensures.at in
    let falls = subst (λ ds. 8 * (size-Raw d.body + sizes ds) + 2 < 8 * sizes (take inside.count defs) + 1)
    (take_among defs inside.count c.in-Some.number at.0) (callee_falls (take inside.count defs) c.in-Some.number d at.0 at.1) in
    omega (arith, c.decreases, falls)

pub found_call-returns-in-Ok : goal.found_call-returns-in-Ok
found_call-returns-in-Ok t c =
    let inside = c.args.inside.now in
    let d = c.in-Some.def.now in
    let hs = map held_seen c.args.args.now in
    let vs = map holder_seen c.deref-in-Some.result.now in
    let body : Inside = record { alloc = inside.alloc; callees = inside.callees; count = c.in-Some.number; inputs = inside.inputs } in
    let params : vs ≡ holders (names_of d.params.items) hs = search rules in
    ap (call_found c.args.place c.args.name.now)
    (call_is inside body c.args.name.now hs (raw_def_tree d) (backwards (take c.in-Some.number inside.callees.now)) vs c.in-Some.ensures.found refl refl params
    ∙ c.in-Ok.ensures)

pub found_call-returns : goal.found_call-returns
found_call-returns t c =
    let inside = c.args.inside.now in
    let x = c.args.name.now in
    let d = c.in-Some.def.now in
    let hs = map held_seen c.args.args.now in
    let vs = map holder_seen c.deref-in-Some.result.now in
    let body : Inside = record { alloc = inside.alloc; callees = inside.callees; count = c.in-Some.number; inputs = inside.inputs } in
    let params : vs ≡ holders (names_of d.params.items) hs = search rules in
    let is = call_is inside body x hs (raw_def_tree d) (backwards (take c.in-Some.number inside.callees.now)) vs c.in-Some.ensures.found refl refl params in
    c.call_fault.ensures (calls_in inside x hs) (subst (λ f. Tells c.in-Err.fault f) (sym is) c.in-Err.ensures)
