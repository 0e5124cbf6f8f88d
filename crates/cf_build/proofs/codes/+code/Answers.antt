use Rattle.std.proofs.Common.{rules, ◌≡◌, ◌+◌, ◌≤◌, ◌∙◌, [], length, map, sym, ap, subst, arith}
use Rattle.std.proofs.lemmas.List.Elements.{All-take}
use Rattle.std.proofs.lemmas.Result.{IfOk-weaker}
use Rattle.cf_tree.specs.CodeTree.{code_tuple}
use Rattle.cf_tree.specs.CodeView.{code_tree, code_trees}
use Rattle.cf_tree.specs.DefView.{def_tree}
use Rattle.cf_tree.specs.ExprTree.{expr_binary, expr_call}
use Rattle.cf_tree.specs.ExprView.{expr_tree, expr_trees}
use Rattle.cf_tree.specs.declared.code.Code.{Tuple, the_lemmas}
use Rattle.cf_tree.specs.declared.expr.Expr.{the_lemmas as expr_lemmas}
use Rattle.cf_build.specs.Chooses.{solve_of}
use Rattle.cf_build.specs.Codes.{called, code_among, codes_among, codes_behind}
use Rattle.cf_build.specs.Known.{AreKnown}
use Rattle.cf_shift.specs.Shifted.{shifted, HasLevels}
use Rattle.cf_build.proofs.CalledCodes.{callee_code, callee_falls, callee_none}
use Rattle.cf_build.proofs.CodeLists.{binary_among, both_hold, call_among}
use Rattle.cf_build.proofs.LoopSteps.{all_here, exprs_at_end}
use Rattle.cf_shift.proofs.ShiftLists.{codes_have_levels}
use Rattle.cf_build.proofs.codes.+code.Goals as goal

pub all-returns : goal.all-returns
all-returns t c =
    let calls = called (codes_behind solve_of [] (map def_tree c.args.around.now.before.now)) in (
      exprs_at_end calls solve_of c.args.around.now.by c.args.n c.args.exprs.now c.loop-expr.all.items c.loop-expr.expr-index
          (omega (arith, c.loop-expr-test.false)) c.loop-expr.invariant.0,
      codes_have_levels c.loop-expr.all.items c.loop-expr.invariant.1,
    )

pub callee-code-requires : goal.callee-code-requires
callee-code-requires t c =
    let found = c.in-Some.ensures.lookup in
    let falls = callee_falls c.args.around.now.before.now c.args.number c.in-Some.def.now found.3.0 found.1 in
    let kept = c.args.around.now.solves.now.codes.items in (
      omega (arith, c.decreases, falls),
      (
        all_here (λ d. AreKnown kept (expr_tree d.body)) c.args.around.now.before.now c.args.number c.in-Some.def.now found.3.0 found.1 c.requires,
        All-take (λ d. AreKnown kept (expr_tree d.body)) c.args.number c.args.around.now.before.now c.requires,
      ),
    )

pub callee-returns-in_ok-to_u32-in-Some : goal.callee-returns-in_ok-to_u32-in-Some
callee-returns-in_ok-to_u32-in-Some t c =
    let found = c.in-Some.ensures.lookup in
    let code_is = callee_code c.args.around.now.before.now c.args.number c.in-Some.def.now found.3.0 found.1 solve_of in
    IfOk-weaker c.code.result _ _
    (λ code h. (
      h.0 ∙ rw (c.in_ok-add_u32-in-Some.ensures, c.in_ok-to_u32-in-Some.ensures ∙ c.len.ensures ∙ c.in-Some.def.now.params.ok.0)
          (ap (λ k. shifted (c.args.around.now.by + c.args.n) k) (sym code_is)),
      h.1,
    ))
    c.code.ensures

pub callee-returns-in-None : goal.callee-returns-in-None
callee-returns-in-None t c =
    let past : length c.args.around.now.before.now ≤ c.args.number = c.in-None.ensures.lookup.3 in
    let tree : code_tree (Tuple c.new.result) ≡ code_tuple (code_trees c.new.result.items) = search (rules, the_lemmas) in
    let empty : c.new.result.items ≡ [] = search rules in
    let same = tree ∙ ap (λ cs. code_tuple (code_trees cs)) empty in (
      same ∙ ap (λ k. shifted (c.args.around.now.by + c.args.n) k) (sym (callee_none solve_of c.args.around.now.before.now c.args.number past)),
      subst (λ k. HasLevels k) (sym same) tt,
    )

pub code-returns-in_ok-boxed-in-Binary-2 : goal.code-returns-in_ok-boxed-in-Binary-2
code-returns-in_ok-boxed-in-Binary-2 t c =
    let before = map def_tree c.args.around.now.before.now in
    let by = c.args.around.now.by in
    let op = c.in-Binary.op in
    let a = c.in-Binary.left.value in
    let b = c.in-Binary.right.value in
    let tree : expr_tree c.args.expr.now ≡ expr_binary op (expr_tree a) (expr_tree b) = search (rules, expr_lemmas) in
    let left : code_tree c.in_ok-boxed-in-Binary.field-0.value ≡ code_among before by c.args.n (expr_tree a) =
    c.in_ok-boxed-in-Binary.ensures.0 ∙ ap (λ e. code_among before by c.args.n (expr_tree e)) c.deref-in-Binary.ensures in
    let right : code_tree c.in_ok-boxed-in-Binary-2.field-0.value ≡ code_among before by c.args.n (expr_tree b) =
    c.in_ok-boxed-in-Binary-2.ensures.0 ∙ ap (λ e. code_among before by c.args.n (expr_tree e)) c.deref-in-Binary-2.ensures in
    IfOk-weaker c.binary.result _ _
    (λ code h. (binary_among before by c.args.n op (expr_tree a) (expr_tree b) _ _ _ (code_tree code) tree left right h.0, h.1)) c.binary.ensures

pub code-returns-in_ok-callee-in-Call : goal.code-returns-in_ok-callee-in-Call
code-returns-in_ok-callee-in-Call t c =
    let before = map def_tree c.args.around.now.before.now in
    let by = c.args.around.now.by in
    let es = c.in-Call.args.items in
    let tree : expr_tree c.args.expr.now ≡ expr_call c.in-Call.def (expr_trees es) = search (rules, expr_lemmas) in
    let args : code_trees c.in_ok-all-in-Call.field-0.items ≡ codes_among before by c.args.n (expr_trees es) =
    c.in_ok-all-in-Call.ensures.0 ∙ ap (λ xs. codes_among before by c.args.n (expr_trees xs)) c.deref-in-Call.ensures.value in
    both_hold c.call.result (λ code. code_tree code ≡ code_among before by c.args.n (expr_tree c.args.expr.now)) (λ code. HasLevels (code_tree code))
    (IfOk-weaker c.call.result _ _
    (λ code h. call_among before by c.args.n c.in-Call.def c.in_ok-add_u32-in-Call.field-0 (expr_trees es) _ _ _ (code_tree code) tree
    c.in_ok-add_u32-in-Call.ensures args c.in_ok-callee-in-Call.ensures.0 h)
    c.call.ensures.code) c.call.ensures.levels
