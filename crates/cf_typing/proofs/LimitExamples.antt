-- The limit of the tuples below the bounds of an arm as a number: on both sides of it.
use Rattle.std.proofs.Common.{◌≡◌, ◌≤◌, [], ◌∷◌, true, false, refl, arith}
use Rattle.std.proofs.lemmas.List.Elements.{All-nil, All-cons}
use Rattle.cf_tree.specs.Typing.{AreBounds}
use Rattle.cf_typing.specs.Bases.{are_bounds}

-- 1,024 times 1,024
most-tuples : are_bounds (1024 ∷ 1024 ∷ []) ≡ true
most-tuples = refl

one-tuple_more : are_bounds (1048577 ∷ []) ≡ false
one-tuple_more = refl

-- 1 counts, and 0 is no bound
least-bound : are_bounds (1 ∷ []) ≡ true
least-bound = refl

no-bound : are_bounds (0 ∷ []) ≡ false
no-bound = refl

most-are_bounds : AreBounds (1024 ∷ 1024 ∷ [])
most-are_bounds = (All-cons (λ b. 1 ≤ b) 1024 (1024 ∷ []) (omega arith) (All-cons (λ b. 1 ≤ b) 1024 [] (omega arith) (All-nil (λ b. 1 ≤ b))), omega arith)

more-are_none : AreBounds (1048577 ∷ []) → ⊥
more-are_none h = omega (arith, h.1)
