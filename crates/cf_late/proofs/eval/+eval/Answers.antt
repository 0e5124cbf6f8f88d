use Rattle.std.proofs.Common.{◌≡◌, ◌<◌, ◌≤◌, ◌+◌, ◌∷◌, drop, length, slice_get, Some, arith, sym, ap, ◌∙◌, subst}
use Rattle.std.proofs.lemmas.List.{drop_more}
use Rattle.cf_late.specs.ChooseRun.{gives}
use Rattle.cf_late.specs.Answers.{LateAnswer, calls_in}
use Rattle.cf_late.proofs.Calls.{call_is, call_missing, call_falls, stands_at}
use Rattle.cf_late.proofs.Loops.{part_gives, part_stops, parts_end}
use Rattle.cf_late.proofs.RunnableLaws.{body_runnable}
use Rattle.cf_late.proofs.eval.+eval.Goals as goal

pub call-eval-requires : goal.call-eval-requires
call-eval-requires t c =
    let late = c.args.caller.now.late.now in
    let found = c.in-Some.ensures.lookup in
    let before : c.args.f < c.args.caller.now.number = omega (arith, c.if-f-caller.false) in
    let at = subst (λ ds. slice_get ds c.args.f ≡ Some c.in-Some.def.now) c.defs.ensures.value
    (stands_at c.defs.result.now c.args.f c.in-Some.def.now found.3.0 found.1) in
    let falls = call_falls late.defs.items c.args.caller.now.number c.args.f c.in-Some.def.now at before in
    (omega (arith, c.decreases, falls), body_runnable late.defs.items late.main c.args.f c.in-Some.def.now c.defs.ensures.typed at)

pub call-returns-in-None : goal.call-returns-in-None
call-returns-in-None t c =
    let defs = c.args.caller.now.late.now.defs.items in
    let n = c.args.caller.now.number in
    let past = subst (λ ds. length ds ≤ c.args.f) c.defs.ensures.value c.in-None.ensures.lookup.3 in
    subst (λ vs. calls_in n defs c.args.f c.args.args ≡ gives vs) (sym c.none-in-None.ensures) (call_missing defs n c.args.f c.args.args past)

pub call-returns-in-Some : goal.call-returns-in-Some
call-returns-in-Some t c =
    let defs = c.args.caller.now.late.now.defs.items in
    let found = c.in-Some.ensures.lookup in
    let before : c.args.f < c.args.caller.now.number = omega (arith, c.if-f-caller.false) in
    let at = subst (λ ds. slice_get ds c.args.f ≡ Some c.in-Some.def.now) c.defs.ensures.value
    (stands_at c.defs.result.now c.args.f c.in-Some.def.now found.3.0 found.1) in
    subst (LateAnswer c.eval.result) (sym (call_is defs c.args.caller.now.number c.args.f c.in-Some.def.now c.args.args at before)) c.eval.ensures.0

pub all-loop-i-preserved : goal.all-loop-i-preserved
all-loop-i-preserved t c =
    let l = c.loop-i in
    let parts = c.args.parts.now in
    let x = c.index-parts-i.result in
    let here : drop l.i parts ≡ x ∷ drop (l.i + 1) parts =
    drop_more parts l.i x c.loop-i-test.true ∙ ap (λ y. y ∷ drop (l.i + 1) parts) (sym c.index-parts-i.is) in
    part_gives (calls_in c.args.caller.now.number c.args.caller.now.late.now.defs.items) parts _ l.i _ _ l.invariant x _ _ _ here c.in-Ok.ensures.1
    c.in-Ok.ensures.0 c.in_ok-append-in-Ok.ensures

pub all-returns-in-Err : goal.all-returns-in-Err
all-returns-in-Err t c =
    let l = c.loop-i in
    let parts = c.args.parts.now in
    let x = c.index-parts-i.result in
    let here : drop l.i parts ≡ x ∷ drop (l.i + 1) parts =
    drop_more parts l.i x c.loop-i-test.true ∙ ap (λ y. y ∷ drop (l.i + 1) parts) (sym c.index-parts-i.is) in (
      part_stops (calls_in c.args.caller.now.number c.args.caller.now.late.now.defs.items) parts _ l.i _ _ l.invariant x c.in-Err.stop _ here
          c.without.ensures c.in-Err.ensures.0,
      tt,
    )

pub all-returns : goal.all-returns
all-returns t c =
    let l = c.loop-i in (
      parts_end (calls_in c.args.caller.now.number c.args.caller.now.late.now.defs.items) c.args.parts.now _ l.i _ _ l.invariant (omega (arith, c.loop-i-test.false)),
      l.invariant.0,
    )
