-- Putting the marks of a list: the next item, and the end.
use Rattle.std.proofs.Common.{◌≡◌, ◌+◌, ◌<◌, ◌≤◌, ℕ, List, [], ◌∷◌, ◌++◌, length, get_or, drop, sym, ap, ◌∙◌, append_assoc}
use Rattle.std.proofs.lemmas.List.{drop_all, drop_more}
use Rattle.cf_build.specs.declared.same.Mark.{Mark}

-- what the marks of an item and of those behind it are
pub at_next : {X : Type 0} (marks : List X → List Mark) (xs : List X) (i : ℕ) (x d : X) → i < length xs → x ≡ get_or xs i d →
    marks (drop i xs) ≡ marks (x ∷ drop (i + 1) xs)
at_next marks xs i x d few is = ap marks (drop_more xs i d few ∙ ap (λ y. y ∷ drop (i + 1) xs) (sym is))

-- an item's marks were put
pub put_next : (before out piece left more whole : List Mark) → out ≡ before ++ piece → left ≡ piece ++ more → before ++ left ≡ whole → out ++ more ≡ whole
put_next before out piece left more whole put is so_far =
    ap (λ o. o ++ more) put ∙ append_assoc before piece more ∙ ap (λ ms. before ++ ms) (sym is) ∙ so_far

-- the end of the list was put
pub put_end : {X : Type 0} (marks : List X → List Mark) (xs : List X) (i : ℕ) (before out whole : List Mark) → length xs ≤ i → out ≡ before ++ marks [] →
    before ++ marks (drop i xs) ≡ whole → out ≡ whole
put_end marks xs i before out whole past put so_far = put ∙ ap (λ ms. before ++ ms) (ap marks (sym (drop_all i xs past))) ∙ so_far
