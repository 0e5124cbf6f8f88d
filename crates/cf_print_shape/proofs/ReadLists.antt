-- Lists to which an element is added where it is wanted, or one for each search.
use Rattle.std.proofs.Common.{◌≡◌, ◌∙◌, ℕ, zero, suc, ◌+◌, ◌<◌, Bool, true, false, List, [], ◌∷◌, ◌++◌, map, length, drop, refl, ap, arith, if◌then◌else◌}
use Rattle.std.proofs.lemmas.List.{append_assoc, append-nil}
use Rattle.cf_tree.specs.declared.base.Base.{Base}
use Rattle.cf_tree.specs.declared.base.Base.TheVariants.{Int}

pub one_wanted : {A : Type 0} (wanted : Bool) (all new rest out : List A) (y : A) → new ≡ all ++ (if wanted then y ∷ [] else []) →
    all ++ (if wanted then y ∷ rest else rest) ≡ out → new ++ rest ≡ out
one_wanted true all new rest out y is e = ap (λ u. u ++ rest) is ∙ append_assoc all (y ∷ []) rest ∙ e
one_wanted false all new rest out y is e = ap (λ u. u ++ rest) (is ∙ append-nil all) ∙ e

abbrev numbers : List ℕ → List Base
numbers ks = map (λ k. Int) ks

first_left : (ks : List ℕ) (i : ℕ) → i < length ks → Int ∷ numbers (drop (suc i) ks) ≡ numbers (drop i ks)
first_left [] i h = absurd (omega (arith, h))
first_left (k ∷ ks) zero h = refl
first_left (k ∷ ks) (suc i) h = first_left ks i (omega (arith, h))

-- the variable of one search more
pub one_search : (ks : List ℕ) (i : ℕ) (all new out : List Base) → i < length ks → new ≡ all ++ (Int ∷ []) →
    all ++ map (λ k. Int) (drop i ks) ≡ out → new ++ map (λ k. Int) (drop (i + 1) ks) ≡ out
one_search ks i all new out h is e =
    let next : i + 1 ≡ suc i = omega arith in
    ap (λ u. u ++ numbers (drop (i + 1) ks)) is ∙ append_assoc all (Int ∷ []) (numbers (drop (i + 1) ks)) ∙
    ap (λ n. all ++ (Int ∷ numbers (drop n ks))) next ∙ ap (λ u. all ++ u) (first_left ks i h) ∙ e
