use Rattle.std.proofs.Common.{◌≡◌, ◌∙◌, [], sym, ap, subst, map, All}
use Rattle.std.proofs.lemmas.Result.{err_from_is_err_and}
use Rattle.cf_tree.specs.ChooseView.{choose_tree}
use Rattle.cf_tree.specs.declared.base.Edition.TheVariants.{Three}
use Rattle.cf_build.specs.Chooses.{by_number}
use Rattle.cf_build.specs.Solves.{IsTypedChoose}
use Rattle.cf_answer.specs.Branches.{in_branches}
use Rattle.cf_answer.specs.Certificates.{asked_in}
use Rattle.cf_answer.specs.Verifying.{told_in, ArePut}
use Rattle.cf_answer.proofs.BlockLemmas.{block_refused, put_told}
use Rattle.cf_answer.proofs.LoweredLemmas.{lowered_chooses}
use Rattle.cf_answer.proofs.prove.blocks.Goals as goal

pub prove_each-requires : goal.prove_each-requires
prove_each-requires c = subst (λ xs. All (λ x. IsTypedChoose (choose_tree x)) xs) (sym c.deref.ensures.value) c.in_ok-chooses.ensures.typed

pub returns-in_err-text : goal.returns-in_err-text
returns-in_err-text c =
    let p = err_from_is_err_and c.from_residual-in_err-text.result c.from_residual-in_err-text.ensures.1 in
    λ source s.
    let are : map choose_tree c.deref.result.now ≡ asked_in s.lowered.typed =
    ap (map choose_tree) c.deref.ensures.value ∙ c.in_ok-chooses.ensures.chooses
    ∙ ap by_number (lowered_chooses source c.args.program.now.lowered _ s.lowered c.typed.ensures.value) in
    rw (p.1, p.2) (block_refused source s.lowered.typed _ _ are s.lowered.is c.in_err-text.ensures.refused)

pub returns : goal.returns
returns c =
    λ source s.
    let are : map choose_tree c.deref.result.now ≡ asked_in s.lowered.typed =
    ap (map choose_tree) c.deref.ensures.value ∙ c.in_ok-chooses.ensures.chooses
    ∙ ap by_number (lowered_chooses source c.args.program.now.lowered _ s.lowered c.typed.ensures.value) in
    put_told source c.args.program.now s c.in_ok-text.text.items
    (subst (λ qs. ArePut Three (in_branches (told_in c.args.program.now.formed) [] qs) c.in_ok-text.text.items) are
    (subst (λ told. ArePut Three (in_branches told [] (map choose_tree c.deref.result.now)) c.in_ok-text.text.items) c.chooses.ensures
    c.in_ok-text.ensures.proofs))
