use Rattle.std.proofs.Common.{◌≡◌, ◌/◌, ◌∙◌, length, ap, ap₂, arith}
use Rattle.std.proofs.lemmas.Result.{IfOk-weaker}
use Rattle.cf_tree.specs.declared.raw.BinOp.TheVariants.{And}
use Rattle.cf_tree.specs.ExprTree.{expr_binary}
use Rattle.cf_form.proofs.ChainSteps.{split_tests}
use Rattle.cf_form.proofs.chains.+joined.Goals as goal

pub returns-in_ok-joined-in-Ok-joined : goal.returns-in_ok-joined-in-Ok-joined
returns-in_ok-joined-in-Ok-joined t c =
    let half = c.len-half.result / 2 in
    let count : half ≡ length c.args.parts.items / 2 =
    ap (λ n. n / 2) (c.len-half.ensures ∙ c.args.parts.ok.0) in
    IfOk-weaker c.and.result _ _
    (λ e h.
    h ∙ ap₂ (λ x y. expr_binary And x y) c.in-Ok-joined.ensures c.in_ok-joined-in-Ok-joined.ensures
    ∙ split_tests c.args.parts.items c.split_off.new.self.items c.in-Ok.rest.items half count (omega (arith, c.if-half-eq0.false)) c.in-Ok.ensures.items
    c.in-Ok.ensures.tail)
    c.and.ensures
