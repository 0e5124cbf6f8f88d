use Rattle.std.proofs.Common.{◌≡◌, ◌∙◌, ap, sym, ℕ, List, [], ◌∷◌, ◌++◌, append-nil, codes, subst}
use Rattle.std.specs.List.{concat}
use Rattle.std.specs.Prelude.{decimal, IfOk}
use Rattle.cf_late.proofs.reply.refusal_reply.Goals as goal

-- the pieces of a reason stand behind the number of the choose
choose_pieces : (n : ℕ) (words gap count reason : List ℕ) → concat (words ∷ gap ∷ count ∷ []) ≡ reason →
    concat (codes "choose " ∷ decimal n ∷ codes ": " ∷ words ∷ gap ∷ count ∷ []) ≡ concat (codes "choose " ∷ decimal n ∷ codes ": " ∷ reason ∷ [])
choose_pieces n words gap count reason is = ap (λ more. codes "choose " ++ (decimal n ++ (codes ": " ++ more))) (is ∙ sym (append-nil reason))

pub returns : goal.returns
returns c =
    let reason = c.refusal_reason-reason.result in
    subst (λ words. IfOk c.joined.result (λ text. text.items ≡ words))
    (choose_pieces c.args.number reason.words.now reason.gap.now reason.count.now _ c.refusal_reason-reason.ensures)
    (rw (c.as_slice.ensures, c.as_bytes.ensures.value, c.format.ensures.text, c.as_slice-2.ensures) at c.joined.ensures)
