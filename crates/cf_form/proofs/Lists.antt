-- What is so of each element of a list, by recursion.
use Rattle.std.proofs.Common.{List, [], ◌∷◌, ◌++◌, map, reverse}
use Rattle.std.specs.List.{AllByRecursion}
use Rattle.std.proofs.lemmas.List.{reverse-append}

pub rec_left : {X : Type 0} (P : X → Type 0) (xs ys : List X) → AllByRecursion P (xs ++ ys) → AllByRecursion P xs
rec_left P [] ys h = tt
rec_left P (x ∷ xs) ys h = (h.0, rec_left P xs ys h.1)

pub rec_right : {X : Type 0} (P : X → Type 0) (xs ys : List X) → AllByRecursion P (xs ++ ys) → AllByRecursion P ys
rec_right P [] ys h = h
rec_right P (x ∷ xs) ys h = rec_right P xs ys h.1

pub rec_append : {X : Type 0} (P : X → Type 0) (xs ys : List X) → AllByRecursion P xs → AllByRecursion P ys → AllByRecursion P (xs ++ ys)
rec_append P [] ys h k = k
rec_append P (x ∷ xs) ys h k = (h.0, rec_append P xs ys h.1 k)

pub rec_of_map : {X Y : Type 0} (P : Y → Type 0) (f : X → Y) (xs : List X) → AllByRecursion P (map f xs) → AllByRecursion (λ x. P (f x)) xs
rec_of_map P f [] h = tt
rec_of_map P f (x ∷ xs) h = (h.0, rec_of_map P f xs h.1)

pub rec_two : {X : Type 0} (P Q R : X → Type 0) → ((x : X) → P x → Q x → R x) → (xs : List X) → AllByRecursion P xs → AllByRecursion Q xs → AllByRecursion R xs
rec_two P Q R f [] h k = tt
rec_two P Q R f (x ∷ xs) h k = (f x h.0 k.0, rec_two P Q R f xs h.1 k.1)

pub rec_reverse : {X : Type 0} (P : X → Type 0) (xs : List X) → AllByRecursion P xs → AllByRecursion P (reverse xs)
rec_reverse P [] h = tt
rec_reverse P (x ∷ xs) h = rw (reverse-append (x ∷ []) xs) (rec_append P (reverse xs) (x ∷ []) (rec_reverse P xs h.1) (h.0, tt))
