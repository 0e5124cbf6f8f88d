use Rattle.std.proofs.Common.{rules, ◌≡◌, ◌∙◌, ◌∷◌, true, false, sym}
use Rattle.cf_build.proofs.CodeOrder.{found_here, found_later}
use Rattle.cf_build.proofs.choose_codes.with_marks.Goals as goal

pub returns-then-same_marks : goal.returns-then-same_marks
returns-then-same_marks c =
    let is : c.loop-code.rest.now ≡ c.in-Some.code.now ∷ c.in-Some.more.now = search rules in
    found_here c.in-Some.code.now c.in-Some.more.now c.loop-code.rest.now c.args.marks.now is c.loop-code.invariant.0
    (sym c.deref.ensures.value ∙ c.same_marks.ensures.0 c.if-same_marks.true)

pub loop-code-preserved : goal.loop-code-preserved
loop-code-preserved c =
    let is : c.loop-code.rest.now ≡ c.in-Some.code.now ∷ c.in-Some.more.now = search rules in
    found_later c.in-Some.code.now c.in-Some.more.now c.loop-code.rest.now c.args.marks.now is
    (λ e. let yes : c.same_marks.result ≡ true = c.same_marks.ensures.1 (c.deref.ensures.value ∙ e) in
    let no : c.same_marks.result ≡ false = c.if-same_marks.false in cc)
    c.loop-code.invariant
