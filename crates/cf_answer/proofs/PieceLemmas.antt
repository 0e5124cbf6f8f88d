-- The pieces of a line that are still to be written.
use Rattle.std.proofs.Common.{◌≡◌, ◌∙◌, ap, sym, ℕ, ◌+◌, ◌<◌, List, [], ◌∷◌, ◌++◌, length, drop, get_or, flat_map, add-one, append-nil, append_assoc, codes, drop-cons, refl}
use Rattle.std.specs.List.{concat}
use Rattle.std.specs.Prelude.{decimal}
use Rattle.cf_cert.specs.declared.verdict.Why.{Why}
use Rattle.cf_answer.specs.Texts.{numbered_line, rejected_line, why_text}

pub pieces_from : {X : Type 0} (f : X → List ℕ) (xs : List X) (i : ℕ) (d : X) → i < length xs →
    flat_map f (drop i xs) ≡ f (get_or xs i d) ++ flat_map f (drop (i + 1) xs)
pieces_from f xs i d lt = rw (add-one, drop-cons xs i d lt) refl

-- the pieces of a reason, and the end of the line behind them
reason_end : (words gap count end : List ℕ) → words ++ (gap ++ (count ++ end)) ≡ (words ++ (gap ++ (count ++ []))) ++ end
reason_end words gap count end =
    ap (λ more. words ++ more) (sym (append_assoc gap count end)) ∙ sym (append_assoc words (gap ++ count) end)
    ∙ ap (λ c. (words ++ (gap ++ c)) ++ end) (sym (append-nil count))

-- the pieces of a line with a reason
pub choose_pieces : (n : ℕ) (words gap count reason : List ℕ) → concat (words ∷ gap ∷ count ∷ []) ≡ reason →
    concat (codes "choose " ∷ decimal n ∷ codes ": " ∷ words ∷ gap ∷ count ∷ codes "\n" ∷ []) ≡ numbered_line n reason
choose_pieces n words gap count reason is =
    ap (λ more. codes "choose " ++ (decimal n ++ (codes ": " ++ more))) (reason_end words gap count (codes "\n") ∙ ap (λ r. r ++ codes "\n") is)

pub rejected_pieces : (n i j : ℕ) (words gap count : List ℕ) (w : Why) → concat (words ∷ gap ∷ count ∷ []) ≡ why_text w →
    concat (codes "choose " ∷ decimal n ∷ codes ": rejected at case " ∷ decimal i ∷ codes " step " ∷ decimal j ∷ codes ": " ∷ words ∷ gap ∷ count ∷
    codes "\n" ∷ []) ≡ rejected_line n i j w
rejected_pieces n i j words gap count w is =
    ap (λ more. codes "choose " ++ (decimal n ++ (codes ": rejected at case " ++ (decimal i ++ (codes " step " ++ (decimal j ++ (codes ": " ++ more)))))))
    (reason_end words gap count (codes "\n") ∙ ap (λ r. r ++ codes "\n") is)
