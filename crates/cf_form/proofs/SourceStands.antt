-- A linear expression may stand in a relation.
use Rattle.std.proofs.Common.{◌≡◌, ℕ, Bool, true, false, ◌==◌, Option, Some, List, [], ◌∷◌, ◌++◌, length, MatchBool, ap}
use Rattle.std.specs.Prelude.{if◌then◌else◌}
use Rattle.std.proofs.lemmas.List.{length-map}
use Rattle.cf_tree.specs.DefView.{DefTree}
use Rattle.cf_tree.specs.ExprTree.{ExprTree, expr_lit, expr_truth, expr_var, expr_set_of, expr_tuple, expr_neg, expr_not, expr_abs, expr_binary, expr_divides, expr_div, expr_mod, expr_card, expr_if, expr_call, expr_let, expr_choose, expr_match, expr_chain, expr_min, expr_max, expr_choose_where, ExprTrees, no_exprs, expr_more}
use Rattle.cf_program.specs.Linear.{Held}
use Rattle.cf_program.specs.LinearTrees.{holds, parts_hold, call_holds}
use Rattle.cf_form.specs.Laws.{bodies}
use Rattle.cf_form.specs.Relations.{MayStand, AllMayStand, CallMayStand}
use Rattle.cf_form.proofs.SourceLinear.{then_some}

module _ (inputs : Bool) (call : ℕ → List Held → Option (List Held)) (may : ℕ → Type 0)
    (may_call : (f : ℕ) (gs hs : List Held) → call f gs ≡ Some hs → may f) where
  mutual
    pub linear_stands : (e : ExprTree) (vs hs : List Held) → holds inputs call vs e ≡ Some hs → MayStand may e
    linear_stands (expr_lit k) vs hs e = tt
    linear_stands (expr_truth t) vs hs e = tt
    linear_stands (expr_var x) vs hs e = tt
    linear_stands (expr_set_of no_exprs) vs hs e = tt
    linear_stands (expr_set_of (expr_more f es)) vs hs e = cc
    linear_stands (expr_tuple es) vs hs e = all_stand es vs hs e
    linear_stands (expr_neg a) vs hs e = linear_stands a vs hs e
    linear_stands (expr_not a) vs hs e = linear_stands a vs hs e
    linear_stands (expr_abs a) vs hs e = linear_stands a vs hs e
    linear_stands (expr_binary op a b) vs hs e =
        let left = then_some (holds inputs call vs a) _ hs e in
        let right = then_some (holds inputs call vs b) _ hs left.2 in
        (linear_stands a vs left.0 left.1, linear_stands b vs right.0 right.1)
    linear_stands (expr_divides k a) vs hs e = linear_stands a vs hs e
    linear_stands (expr_div a k) vs hs e = let one = then_some (holds inputs call vs a) _ hs e in linear_stands a vs one.0 one.1
    linear_stands (expr_mod a k) vs hs e = let one = then_some (holds inputs call vs a) _ hs e in linear_stands a vs one.0 one.1
    linear_stands (expr_card a) vs hs e = let one = then_some (holds inputs call vs a) _ hs e in linear_stands a vs one.0 one.1
    linear_stands (expr_if t a b) vs hs e =
        let test = then_some (holds inputs call vs t) _ hs e in
        let yes = then_some (holds inputs call vs a) _ hs test.2 in
        let no = then_some (holds inputs call vs b) _ hs yes.2 in
        (linear_stands t vs test.0 test.1, linear_stands a vs yes.0 yes.1, linear_stands b vs no.0 no.1)
    linear_stands (expr_call f es) vs hs e =
        let args = then_some (parts_hold inputs call vs es) _ hs e in (all_stand es vs args.0 args.1, may_call f args.0 hs args.2)
    linear_stands (expr_let k a b) vs hs e =
        let value = then_some (holds inputs call vs a) _ hs e in
        (linear_stands a vs value.0 value.1, linear_stands b (vs ++ value.0) hs value.2)
    linear_stands (expr_chain orders es) vs hs e = let parts = then_some (parts_hold inputs call vs es) _ hs e in all_stand es vs parts.0 parts.1
    linear_stands (expr_min es) vs hs e = let parts = then_some (parts_hold inputs call vs es) _ hs e in all_stand es vs parts.0 parts.1
    linear_stands (expr_max es) vs hs e = let parts = then_some (parts_hold inputs call vs es) _ hs e in all_stand es vs parts.0 parts.1
    linear_stands (expr_choose k params outputs rel) vs hs e = cc
    linear_stands (expr_choose_where k params outputs hidden given rel aim) vs hs e = cc
    linear_stands (expr_match k params a arms) vs hs e = cc

    all_stand : (es : ExprTrees) (vs hs : List Held) → parts_hold inputs call vs es ≡ Some hs → AllMayStand may es
    all_stand no_exprs vs hs e = tt
    all_stand (expr_more e es) vs hs q =
        let first = then_some (holds inputs call vs e) _ hs q in
        let more = then_some (parts_hold inputs call vs es) _ hs first.2 in
        (linear_stands e vs first.0 first.1, all_stand es vs more.0 more.1)

on_test : (b c : Bool) (hs : List Held) (X Y : Type 0) (o p : Option (List Held)) → c ≡ b → (o ≡ Some hs → X) → (p ≡ Some hs → Y) →
    (if b then o else p) ≡ Some hs → MatchBool c X Y
on_test true c hs X Y o p e f g z = rw e (f z)
on_test false c hs X Y o p e f g z = rw e (g z)

pub call_stands : (inputs : Bool) (earlier : List DefTree) (f : ℕ) (gs hs : List Held) → call_holds inputs earlier f gs ≡ Some hs →
    CallMayStand (bodies earlier) f
call_stands inputs [] f gs hs e = cc
call_stands inputs (d ∷ earlier) f gs hs e =
    on_test (f == length earlier) (f == length (bodies earlier)) hs (MayStand (CallMayStand (bodies earlier)) d.body) (CallMayStand (bodies earlier) f)
    (holds inputs (call_holds inputs earlier) gs d.body) (call_holds inputs earlier f gs) (ap (λ n. f == n) (length-map earlier (λ d. d.body)))
    (linear_stands inputs (call_holds inputs earlier) (CallMayStand (bodies earlier)) (call_stands inputs earlier) d.body gs hs)
    (call_stands inputs earlier f gs hs) e
