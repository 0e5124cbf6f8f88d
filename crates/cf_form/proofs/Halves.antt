-- What holds of trees of halves.
use Rattle.std.proofs.Common.{◌≡◌, ℕ, zero, suc, ◌-◌, ◌/◌, ◌≤◌, List, [], ◌∷◌, ◌++◌, length, take, drop, subst, arith}
use Rattle.std.proofs.lemmas.List.{take-append-drop, length-take-le, length-drop}
use Rattle.cf_form.specs.Alternatives.{halves_within, halves}

half_low : (n : ℕ) → 1 ≤ suc (suc n) / 2
half_low n = omega arith

half_high : (n : ℕ) → suc (suc n) / 2 ≤ suc n
half_high n = omega arith

-- what holds of no parts with `empty`, of one part with itself, and of two lists with what joins theirs, holds of a tree of halves
module _ {A : Type 0} (join : A → A → A) (empty : A) (P : List A → A → Type 0) (none : P [] empty) (one : (p : A) → P (p ∷ []) p)
    (two : (ps qs : List A) (a b : A) → P ps a → P qs b → P (ps ++ qs) (join a b)) where
  within_hold : (n : ℕ) (ps : List A) → length ps ≤ n → P ps (halves_within n join empty ps)
  within_hold zero [] l = none
  within_hold zero (p ∷ ps) l = absurd (omega (arith, l))
  within_hold (suc n) [] l = none
  within_hold (suc n) (p ∷ []) l = one p
  within_hold (suc n) (p ∷ q ∷ ps) l =
      let half = length (p ∷ q ∷ ps) / 2 in
      let low = half_low (length ps) in
      let high = half_high (length ps) in
      let first : length (take half (p ∷ q ∷ ps)) ≡ half = length-take-le half (p ∷ q ∷ ps) (omega (arith, high)) in
      let second : length (drop half (p ∷ q ∷ ps)) ≡ length (p ∷ q ∷ ps) - half = length-drop half (p ∷ q ∷ ps) in
      subst (λ xs. P xs (halves_within (suc n) join empty (p ∷ q ∷ ps))) (take-append-drop half (p ∷ q ∷ ps))
      (two (take half (p ∷ q ∷ ps)) (drop half (p ∷ q ∷ ps)) _ _
      (within_hold n (take half (p ∷ q ∷ ps)) (omega (arith, first, high, l)))
      (within_hold n (drop half (p ∷ q ∷ ps)) (omega (arith, second, low, l))))

  pub halves_hold : (ps : List A) → P ps (halves join empty ps)
  halves_hold ps = within_hold (length ps) ps (omega arith)
