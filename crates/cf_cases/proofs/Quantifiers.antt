-- What holds of each item of a list, or of some item.
use Rattle.std.proofs.Common.{inl, inr, ◌⊎◌, List, [], ◌∷◌, ◌++◌, map}
use Rattle.std.specs.List.{flat_map}
use Rattle.cf_cases.specs.Holding.{EachOf, SomeOf}

pub each-append : {A : Type 0} (P : A → Type 0) (xs ys : List A) → EachOf P xs → EachOf P ys → EachOf P (xs ++ ys)
each-append P [] ys p q = q
each-append P (x ∷ xs) ys p q = (p.0, each-append P xs ys p.1 q)

pub each-split : {A : Type 0} (P : A → Type 0) (xs ys : List A) → EachOf P (xs ++ ys) → EachOf P xs × EachOf P ys
each-split P [] ys p = (tt, p)
each-split P (x ∷ xs) ys p = let q = each-split P xs ys p.1 in ((p.0, q.0), q.1)

pub each-imp : {A : Type 0} (P Q : A → Type 0) (f : (x : A) → P x → Q x) (xs : List A) → EachOf P xs → EachOf Q xs
each-imp P Q f [] p = tt
each-imp P Q f (x ∷ xs) p = (f x p.0, each-imp P Q f xs p.1)

pub each-map : {A B : Type 0} (P : B → Type 0) (g : A → B) (xs : List A) → EachOf (λ x. P (g x)) xs → EachOf P (map g xs)
each-map P g [] p = tt
each-map P g (x ∷ xs) p = (p.0, each-map P g xs p.1)

pub each-flat_map : {A B : Type 0} (P : B → Type 0) (g : A → List B) (xs : List A) → EachOf (λ x. EachOf P (g x)) xs → EachOf P (flat_map g xs)
each-flat_map P g [] p = tt
each-flat_map P g (x ∷ xs) p = each-append P (g x) (flat_map g xs) p.0 (each-flat_map P g xs p.1)

pub some-left : {A : Type 0} (P : A → Type 0) (xs ys : List A) → SomeOf P xs → SomeOf P (xs ++ ys)
some-left P [] ys p = elim p [ ]
some-left P (x ∷ xs) ys p = elim p [ inl h ↦ inl h | inr h ↦ inr (some-left P xs ys h) ]

pub some-right : {A : Type 0} (P : A → Type 0) (xs ys : List A) → SomeOf P ys → SomeOf P (xs ++ ys)
some-right P [] ys p = p
some-right P (x ∷ xs) ys p = inr (some-right P xs ys p)

pub some-split : {A : Type 0} (P : A → Type 0) (xs ys : List A) → SomeOf P (xs ++ ys) → SomeOf P xs ⊎ SomeOf P ys
some-split P [] ys p = inr p
some-split P (x ∷ xs) ys p = elim p [ inl h ↦ inl (inl h) | inr h ↦ elim (some-split P xs ys h) [ inl k ↦ inl (inr k) | inr k ↦ inr k ] ]

pub some-imp : {A : Type 0} (P Q : A → Type 0) (f : (x : A) → P x → Q x) (xs : List A) → SomeOf P xs → SomeOf Q xs
some-imp P Q f [] p = p
some-imp P Q f (x ∷ xs) p = elim p [ inl h ↦ inl (f x h) | inr h ↦ inr (some-imp P Q f xs h) ]

pub some-map : {A B : Type 0} (P : B → Type 0) (g : A → B) (xs : List A) → SomeOf (λ x. P (g x)) xs → SomeOf P (map g xs)
some-map P g [] p = p
some-map P g (x ∷ xs) p = elim p [ inl h ↦ inl h | inr h ↦ inr (some-map P g xs h) ]

pub some-unmap : {A B : Type 0} (P : B → Type 0) (g : A → B) (xs : List A) → SomeOf P (map g xs) → SomeOf (λ x. P (g x)) xs
some-unmap P g [] p = p
some-unmap P g (x ∷ xs) p = elim p [ inl h ↦ inl h | inr h ↦ inr (some-unmap P g xs h) ]

pub some-flat_map : {A B : Type 0} (P : B → Type 0) (g : A → List B) (xs : List A) → SomeOf (λ x. SomeOf P (g x)) xs → SomeOf P (flat_map g xs)
some-flat_map P g [] p = p
some-flat_map P g (x ∷ xs) p = elim p [ inl h ↦ some-left P (g x) (flat_map g xs) h | inr h ↦ some-right P (g x) (flat_map g xs) (some-flat_map P g xs h) ]

pub some-unflat_map : {A B : Type 0} (P : B → Type 0) (g : A → List B) (xs : List A) → SomeOf P (flat_map g xs) → SomeOf (λ x. SomeOf P (g x)) xs
some-unflat_map P g [] p = p
some-unflat_map P g (x ∷ xs) p = elim (some-split P (g x) (flat_map g xs) p) [ inl h ↦ inl h | inr h ↦ inr (some-unflat_map P g xs h) ]

-- what no item has a part in
pub some-out : {A : Type 0} {B : Type 0} (P : A → Type 0) (f : (x : A) → P x → B) (xs : List A) → SomeOf P xs → B
some-out P f [] p = elim p [ ]
some-out P f (x ∷ xs) p = elim p [ inl h ↦ f x h | inr h ↦ some-out P f xs h ]

-- some item that has P, where each has Q
pub some-each : {A : Type 0} (P Q R : A → Type 0) (f : (x : A) → P x → Q x → R x) (xs : List A) → SomeOf P xs → EachOf Q xs → SomeOf R xs
some-each P Q R f [] p q = p
some-each P Q R f (x ∷ xs) p q = elim p [ inl h ↦ inl (f x h q.0) | inr h ↦ inr (some-each P Q R f xs h q.1) ]
