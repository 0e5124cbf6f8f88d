-- The names of the variables of a reply, one after the other.
use Rattle.std.proofs.Common.{◌≡◌, ◌∙◌, ℕ, zero, suc, ◌+◌, ◌<◌, List, [], ◌∷◌, ◌++◌, length, drop, refl, ap, subst, arith}
use Rattle.std.proofs.lemmas.List.{append_assoc}
use Rattle.cf_tree.specs.declared.base.Base.{Base}
use Rattle.cf_print_c.specs.Files.{reply_name, reply_names}

next_name : (name letter : List ℕ) (i k : ℕ) (bs : List Base) → i < length bs →
    reply_names name letter k (drop i bs) ≡ reply_name name letter k ∷ reply_names name letter (suc k) (drop (suc i) bs)
next_name name letter i k [] h = absurd (omega (arith, h))
next_name name letter zero k (b ∷ bs) h = refl
next_name name letter (suc i) k (b ∷ bs) h = next_name name letter i k bs (omega (arith, h))

-- one more name
pub next_named : (name letter : List ℕ) (k : ℕ) (bs : List Base) (out new all : List (List ℕ)) → k < length bs →
    new ≡ out ++ (reply_name name letter k ∷ []) → out ++ reply_names name letter k (drop k bs) ≡ all →
    new ++ reply_names name letter (k + 1) (drop (k + 1) bs) ≡ all
next_named name letter k bs out new all below is e =
    let one : suc k ≡ k + 1 = omega arith in
    let split = next_name name letter k k bs below in
    subst (λ n. new ++ reply_names name letter n (drop n bs) ≡ all) one
    (ap (λ u. u ++ reply_names name letter (suc k) (drop (suc k) bs)) is ∙
    append_assoc out (reply_name name letter k ∷ []) (reply_names name letter (suc k) (drop (suc k) bs)) ∙
    subst (λ names. out ++ names ≡ all) split e)
