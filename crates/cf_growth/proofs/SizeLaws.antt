-- Sizes of parameters.
use Rattle.std.proofs.Common.{◌≡◌, ℕ, ◌≤◌, ◌==◌, List, [], ◌∷◌, inl, inr, ⊎_elim, map, refl, sym, ap, arith}
use Rattle.std.specs.Prelude.{unsigned_abs}
use Rattle.std.proofs.lemmas.Bool.{cond_both, eqb-false}
use Rattle.cf_tree.specs.Values.{Value, number, truth, elements, number_of, value_at}
use Rattle.cf_linear.specs.Arm.{level_of}
use Rattle.cf_linear.specs.Keep.{In}
use Rattle.cf_linear.specs.Layout.{Layout, number_column}
use Rattle.cf_choose.proofs.RowCodes.{named}
use Rattle.cf_growth.specs.Reaching.{size_of, size_at}

-- ---- sizes of parameters
pub number_size : (v : Value) → unsigned_abs (number_of v) ≤ size_of v
number_size (number z) = omega arith
number_size (truth b) = omega arith
number_size (elements zs) = omega arith

pub size_in : (x : ℕ) (xs : List ℕ) (env : List Value) → In x xs → size_of (value_at env x) ≤ size_at xs env
size_in x [] env i = absurd i
size_in x (y ∷ xs) env (inl e) = let s : size_of (value_at env x) ≡ size_of (value_at env y) = ap (λ (z : ℕ). size_of (value_at env z)) e in omega arith
size_in x (y ∷ xs) env (inr i) = let h = size_in x xs env i in omega arith

-- a named column has the level of a parameter
pub level_in : (l : Layout) (c : ℕ) (xs : List ℕ) → In c (named (map (λ x. (number_column l x, x)) xs)) →
    In (level_of (map (λ x. (number_column l x, x)) xs) c) xs
level_in l c [] i = i
level_in l c (y ∷ xs) i =
    cond_both (number_column l y == c) y (level_of (map (λ x. (number_column l x, x)) xs) c) (λ z. In z (y ∷ xs)) (λ _. inl refl)
    (λ t. inr (level_in l c xs (⊎_elim (λ e. absurd (eqb-false (number_column l y) c t (sym e))) (λ j. j) i)))
