-- The variables of a pattern one by one.
use Rattle.std.proofs.Common.{◌≡◌, ℕ, Bool, true, false, List, [], ◌∷◌, ◌++◌, if◌then◌else◌, refl}
use Rattle.cf_tree.specs.RawTree.{PartTree}
use Rattle.cf_advice.specs.Spots.{is_among, is_bound, variables}

chosen : (b : Bool) (x : List ℕ) (xs : List (List ℕ)) → (if b then x ∷ [] else []) ++ xs ≡ (if b then x ∷ xs else xs)
chosen true x xs = refl
chosen false x xs = refl

pub one_part : (cs : List (List ℕ)) (x : PartTree) (xs : List PartTree) →
    (if is_bound (is_among cs x.name) x.factor then x.name ∷ [] else []) ++ variables cs xs ≡ variables cs (x ∷ xs)
one_part cs x xs = chosen (is_bound (is_among cs x.name) x.factor) x.name (variables cs xs)
