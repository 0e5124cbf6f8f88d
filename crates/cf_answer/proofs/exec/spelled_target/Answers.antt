use Rattle.std.proofs.Common.{ap, inl, refl, Err}
use Rattle.cf_lex.specs.Editions.{edition_of}
use Rattle.cf_answer.specs.Limits.{of_target}
use Rattle.cf_target.specs.Spelling.{target_tree}
use Rattle.cf_answer.proofs.TargetLemmas.{typed_verdict}
use Rattle.cf_answer.proofs.TextLemmas.{target_in, no_target, target_untyped}
use Rattle.cf_answer.proofs.exec.spelled_target.Goals as goal

pub returns-in-Ok-check_target : goal.returns-in-Ok-check_target
returns-in-Ok-check_target c =
    let list = c.in_ok-list.list in
    typed_verdict c.args.text.now c.in-Ok.raw _ c.in-Ok-check_target.ensures.same c.in-Ok-check_target.ensures.typed
    (target_in _ c.args.text.now (target_tree c.in-Ok.raw) list.list.items list.end c.requires.edition
    (c.in_ok-list.ensures.tokens (of_target (edition_of c.args.text.now)) refl c.requires.short) c.in-Ok.ensures.found)

pub returns-in-Err-BadTarget : goal.returns-in-Err-BadTarget
returns-in-Err-BadTarget c =
    let list = c.in_ok-list.list in
    inl (target_untyped c.args.text.now (target_tree c.in-Ok.raw)
    (target_in _ c.args.text.now (target_tree c.in-Ok.raw) list.list.items list.end c.requires.edition
    (c.in_ok-list.ensures.tokens (of_target (edition_of c.args.text.now)) refl c.requires.short) c.in-Ok.ensures.found)
    (c.in-Err-BadTarget.ensures.bad (ap Err c.in-Err-BadTarget.field-0-is)))

pub returns-in-Err-Syntax : goal.returns-in-Err-Syntax
returns-in-Err-Syntax c =
    let is = c.in-Err-Syntax.field-0-is in
    let list = c.in_ok-list.list in
    rw is (inl (no_target _ c.args.text.now list.list.items list.end c.in-Err-Syntax.place c.requires.edition
    (c.in_ok-list.ensures.tokens (of_target (edition_of c.args.text.now)) refl c.requires.short)
    (rw is at c.in-Err-Syntax.ensures.only) (rw is at c.in-Err-Syntax.ensures.place) (rw is at c.in-Err-Syntax.ensures.exact)))
