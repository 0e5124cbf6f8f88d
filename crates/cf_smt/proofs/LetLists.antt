-- Lets in the other order, and how many there are.
use Rattle.std.proofs.Common.{◌≡◌, List, [], ◌∷◌, ◌++◌, map, length, refl, sym, ap, ◌∙◌}
use Rattle.std.specs.Prelude.{reverse}
use Rattle.std.proofs.lemmas.List.{map-append, reverse-append, length-map}
use Rattle.cf_smt.specs.BoundView.{plain_bound}
use Rattle.cf_smt.specs.declared.lets.Bound.{Bound}

pub bounds_reversed : (bs : List Bound) → map plain_bound (reverse bs) ≡ reverse (map plain_bound bs)
bounds_reversed [] = refl
bounds_reversed (b ∷ bs) =
    ap (map plain_bound) (reverse-append (b ∷ []) bs)
    ∙ map-append plain_bound (reverse bs) (b ∷ [])
    ∙ ap (λ ys. ys ++ plain_bound b ∷ []) (bounds_reversed bs)
    ∙ sym (reverse-append (plain_bound b ∷ []) (map plain_bound bs))

pub count_bounds : (bs : List Bound) → length (map plain_bound bs) ≡ length bs
count_bounds bs = length-map bs plain_bound
