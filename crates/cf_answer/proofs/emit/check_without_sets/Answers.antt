use Rattle.std.proofs.Common.{◌∙◌, inl, sym}
use Rattle.std.proofs.lemmas.Result.{err_from_is_err_and}
use Rattle.cf_program.specs.Typed.{typed_tree}
use Rattle.cf_answer.proofs.EmitLemmas.{built_plain, no_sets_needed, none_told, sets_needed, source_refused}
use Rattle.cf_answer.proofs.TextLemmas.{build_refused}
use Rattle.cf_answer.proofs.emit.check_without_sets.Goals as goal

pub returns-in_err-target : goal.returns-in_err-target
returns-in_err-target c =
    let p = err_from_is_err_and c.from_residual.result c.from_residual.ensures.1 in
    λ text s. rw (p.1, p.2)
    (source_refused c.args.language text _ (build_refused text (typed_tree c.args.typed.now) _ s c.in_err-target.ensures.answer))

pub returns-then-has_a_set : goal.returns-then-has_a_set
returns-then-has_a_set c =
    let typed = typed_tree c.args.typed.now in
    λ text s. inl (sets_needed c.args.language text typed c.in_ok-target.target s c.requires
    (built_plain typed _ _ c.in_ok-target.target (none_told _ _ c.new.ensures.items) c.in_ok-target.ensures.turned c.in_ok-target.ensures.answer)
    (sym c.has_a_set.ensures ∙ c.if-has_a_set.true))

pub returns : goal.returns
returns c =
    let typed = typed_tree c.args.typed.now in
    λ text s. no_sets_needed c.args.language typed c.in_ok-target.target c.requires
    (built_plain typed _ _ c.in_ok-target.target (none_told _ _ c.new.ensures.items) c.in_ok-target.ensures.turned c.in_ok-target.ensures.answer)
    (sym c.has_a_set.ensures ∙ c.if-has_a_set.false)
