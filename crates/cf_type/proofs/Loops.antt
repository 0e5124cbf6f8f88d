-- Loops that push what they make of each element.
use Rattle.std.proofs.Common.{◌≡◌, ◌<◌, ◌+◌, ◌++◌, ◌∷◌, ◌∙◌, ℕ, List, [], length, map, take, get_or, sym, ap}
use Rattle.std.proofs.lemmas.List.{map_more}

pub made_more : {A B : Type 0} (f : A → B) (xs : List A) (i : ℕ) (x : A) (old new : List B) → i < length xs → x ≡ get_or xs i x →
    old ≡ map f (take i xs) → new ≡ old ++ f x ∷ [] → new ≡ map f (take (i + 1) xs)
made_more f xs i x old new within here before pushed =
    pushed ∙ ap (λ ys. ys ++ f x ∷ []) before ∙ ap (λ y. map f (take i xs) ++ f y ∷ []) here ∙ sym (map_more f xs i x within)
