-- Texts with a byte between each two.
use Rattle.std.proofs.Common.{◌≡◌, ℕ, zero, suc, ◌+◌, ◌<◌, List, [], ◌∷◌, ◌++◌, length, take, map, refl, ap, sym, ◌∙◌, arith, get_or, append_assoc}
use Rattle.std.specs.List.{join_with_byte}
use Rattle.std.proofs.lemmas.List.{take_more, map-append}
use Rattle.std.proofs.Math.Seq.{take-nil}
use Rattle.cf_eval.specs.Seen.{plain, plains}
use Rattle.cf_eval.specs.Texts.{value_text, values_text}
use Rattle.cf_eval.specs.declared.value.Value.{Value as RunValue}

join_last : (c : ℕ) (x : List ℕ) (xs : List (List ℕ)) (y : List ℕ) → join_with_byte c ((x ∷ xs) ++ y ∷ []) ≡ join_with_byte c (x ∷ xs) ++ (c ∷ y)
join_last c x [] y = refl
join_last c x (w ∷ xs) y = ap (λ t. x ++ (c ∷ t)) (join_last c w xs y) ∙ sym (append_assoc x (c ∷ join_with_byte c (w ∷ xs)) (c ∷ y))

-- one text more, behind the byte where others stand before it
join_more : {X : Type 0} (f : X → List ℕ) (c : ℕ) (xs : List X) (i : ℕ) (d : X) → i < length xs →
    join_with_byte c (map f (take (i + 1) xs)) ≡ join_with_byte c (map f (take i xs)) ++ (take i (c ∷ []) ++ f (get_or xs i d))
join_more f c [] i d fits = absurd (omega (arith, fits))
join_more f c (x ∷ xs) zero d fits = refl
join_more f c (x ∷ xs) (suc i) d fits =
    rw (take_more (x ∷ xs) (suc i) d fits, map-append f (take i xs) (get_or xs i d ∷ []), take-nil {A = ℕ} i)
    (join_last c (f x) (map f (take i xs)) (f (get_or xs i d)))

-- a step of a loop that writes them
pub joined_more : {X : Type 0} (f : X → List ℕ) (c : ℕ) (xs : List X) (i : ℕ) (d : X) (old now gapped new : List ℕ) → i < length xs →
    now ≡ old ++ join_with_byte c (map f (take i xs)) → gapped ≡ now ++ take i (c ∷ []) → new ≡ gapped ++ f (get_or xs i d) →
    new ≡ old ++ join_with_byte c (map f (take (i + 1) xs))
joined_more f c xs i d old now gapped new fits is gap put =
    rw (put, gap, is, join_more f c xs i d fits) (simp append_assoc refl)

map_twice : {X Y Z : Type 0} (f : Y → Z) (g : X → Y) (xs : List X) → map f (map g xs) ≡ map (λ x. f (g x)) xs
map_twice f g [] = refl
map_twice f g (x ∷ xs) = ap (λ ys. f (g x) ∷ ys) (map_twice f g xs)

pub values_joined : (vs : List RunValue) (i : ℕ) (d : RunValue) (old now gapped new : List ℕ) → i < length vs →
    now ≡ old ++ values_text (plains (take i vs)) → gapped ≡ now ++ take i (32 ∷ []) → new ≡ gapped ++ value_text (plain (get_or vs i d)) →
    new ≡ old ++ values_text (plains (take (i + 1) vs))
values_joined vs i d old now gapped new fits is gap put =
    let before = rw (map_twice value_text plain (take i vs)) at is in
    rw (map_twice value_text plain (take (i + 1) vs)) (joined_more (λ v. value_text (plain v)) 32 vs i d old now gapped new fits before gap put)
