-- Tests of several lists of rows.
use Rattle.std.proofs.Common.{◌≡◌, ℕ, List, [], ◌∷◌, ◌++◌, map, Bool, true, false, ◌||◌, refl, sym, ◌∙◌, ap}
use Rattle.std.specs.List.{list_any}
use Rattle.std.proofs.lemmas.List.Folds.{list_any-append}
use Rattle.cf_linear.specs.Rows.{Row, subst_passes}
use Rattle.cf_linear.specs.Steps.{subst_all}
use Rattle.cf_equation.specs.Merging.{mix_row_passes}

or_swap : (a b c d : Bool) → ((a || b) || (c || d)) ≡ ((a || c) || (b || d))
or_swap true b c d = refl
or_swap false true true d = refl
or_swap false true false d = refl
or_swap false false c d = refl

list_any-or : {X : Type 0} (p q : X → Bool) (xs : List X) → list_any (λ x. p x || q x) xs ≡ (list_any p xs || list_any q xs)
list_any-or p q [] = refl
list_any-or p q (x ∷ xs) = ap (λ b. (p x || q x) || b) (list_any-or p q xs) ∙ or_swap (p x) (q x) (list_any p xs) (list_any q xs)

list_any-map : {X Y : Type 0} (q : Y → Bool) (f : X → Y) (xs : List X) → list_any q (map f xs) ≡ list_any (λ x. q (f x)) xs
list_any-map q f [] = refl
list_any-map q f (x ∷ xs) = ap (λ b. q (f x) || b) (list_any-map q f xs)

-- one row after the other in the places of y and x
pub mixed_any : (x : ℕ) (r : Row) (y : ℕ) (s : Row) (rows : List Row) →
    list_any (mix_row_passes x r y s) rows ≡ (list_any (subst_passes y s) rows || list_any (subst_passes x r) (subst_all y s rows))
mixed_any x r y s rows = list_any-or (subst_passes y s) _ rows ∙ ap (λ b. list_any (subst_passes y s) rows || b) (sym (list_any-map (subst_passes x r) _ rows))

pub mixed_fits : (x : ℕ) (r : Row) (y : ℕ) (s : Row) (rows half : List Row) → list_any (subst_passes y s) rows ≡ false → half ≡ subst_all y s rows →
    list_any (subst_passes x r) half ≡ false → list_any (mix_row_passes x r y s) rows ≡ false
mixed_fits x r y s rows half p e q = let q' = rw e at q in mixed_any x r y s rows ∙ rw (p, q') refl

pub mixed_past_first : (x : ℕ) (r : Row) (y : ℕ) (s : Row) (rows : List Row) → list_any (subst_passes y s) rows ≡ true →
    list_any (mix_row_passes x r y s) rows ≡ true
mixed_past_first x r y s rows p = mixed_any x r y s rows ∙ rw p refl

pub mixed_past_second : (x : ℕ) (r : Row) (y : ℕ) (s : Row) (rows half : List Row) → half ≡ subst_all y s rows → list_any (subst_passes x r) half ≡ true →
    list_any (mix_row_passes x r y s) rows ≡ true
mixed_past_second x r y s rows half e q = let q' = rw e at q in mixed_any x r y s rows ∙ rw q' (or_true (list_any (subst_passes y s) rows))
  where
    or_true : (b : Bool) → (b || true) ≡ true
    or_true true = refl
    or_true false = refl

-- a test of two lists
pub either_false : (p : Row → Bool) (xs ys : List Row) → list_any p xs ≡ false → list_any p ys ≡ false → list_any p (xs ++ ys) ≡ false
either_false p xs ys h k = list_any-append p xs ys ∙ rw (h, k) refl

pub left_true : (p : Row → Bool) (xs ys : List Row) → list_any p xs ≡ true → list_any p (xs ++ ys) ≡ true
left_true p xs ys h = list_any-append p xs ys ∙ rw h refl

pub right_true : (p : Row → Bool) (xs ys : List Row) → list_any p ys ≡ true → list_any p (xs ++ ys) ≡ true
right_true p xs ys h = list_any-append p xs ys ∙ rw h (or_true (list_any p xs))
  where
    or_true : (b : Bool) → (b || true) ≡ true
    or_true true = refl
    or_true false = refl
