-- Values within the limit.
use Rattle.std.proofs.Common.{◌≡◌, ℕ, zero, suc, ◌<◌, ◌≤◌, ◌+◌, ℤ, List, [], ◌∷◌, ◌++◌, length, map, take, get_or, refl, sym, ap, ◌∙◌, subst, arith}
use Rattle.std.proofs.lemmas.List.{map-append, take_all, take_at, take_more}
use Rattle.std.proofs.lemmas.List.Elements.{All-nil, All-cons}
use Rattle.cf_num.specs.Limit.{IsWithin}
use Rattle.cf_tree.specs.Sets.{AreWithin}
use Rattle.cf_tree.specs.Values.{Value, number_of}
use Rattle.cf_eval.specs.declared.value.Value.{Value as RunValue}
use Rattle.cf_eval.specs.Seen.{plain, plains}
use Rattle.cf_late.specs.Fitting.{AreFit}

pub fit_append : (vs ws : List Value) → AreFit vs → AreFit ws → AreFit (vs ++ ws)
fit_append [] ws h k = k
fit_append (v ∷ vs) ws h k = (h.0, fit_append vs ws h.1 k)

pub fit_both : (xs ys : List RunValue) → AreFit (plains xs) → AreFit (plains ys) → AreFit (plains (xs ++ ys))
fit_both xs ys h k = subst AreFit (sym (map-append plain xs ys)) (fit_append (plains xs) (plains ys) h k)

pub fit_take : (n : ℕ) (xs : List RunValue) → AreFit (plains xs) → AreFit (plains (take n xs))
fit_take zero xs h = tt
fit_take (suc n) [] h = tt
fit_take (suc n) (v ∷ xs) h = (h.0, fit_take n xs h.1)

pub plains_take : (n : ℕ) (xs : List RunValue) → plains (take n xs) ≡ take n (plains xs)
plains_take zero xs = refl
plains_take (suc n) [] = refl
plains_take (suc n) (v ∷ xs) = ap (λ vs. plain v ∷ vs) (plains_take n xs)

pub plains_append : (xs ys : List RunValue) → plains (xs ++ ys) ≡ plains xs ++ plains ys
plains_append xs ys = map-append plain xs ys

-- a copy of a value that stands at a place
pub copy_fit : (xs : List RunValue) (x : ℕ) (v w : RunValue) → AreFit (plains xs) → x < length xs → v ≡ get_or xs x v → w ≡ v → IsWithin (number_of (plain w))
copy_fit [] x v w h l e same = absurd (omega (arith, l))
copy_fit (u ∷ xs) zero v w h l e same = subst (λ y. IsWithin (number_of (plain y))) (sym (same ∙ e)) h.0
copy_fit (u ∷ xs) (suc x) v w h l e same = copy_fit xs x v w h.1 (omega (arith, l)) e same

pub numbers_within : (vs : List Value) → AreFit vs → AreWithin (map number_of vs)
numbers_within [] h = All-nil IsWithin
numbers_within (v ∷ vs) h = All-cons IsWithin (number_of v) (map number_of vs) h.0 (numbers_within vs h.1)

-- the numbers of the first values, with that of the next one
pub numbers_next : (values : List RunValue) (i : ℕ) (v : RunValue) (z : ℤ) (before after : List ℤ) → i < length values → v ≡ get_or values i v →
    z ≡ number_of (plain v) → after ≡ before ++ z ∷ [] → before ≡ map number_of (plains (take i values)) → after ≡ map number_of (plains (take (i + 1) values))
numbers_next values i v z before after few is number put so_far =
    let first = take i values in
    let next = get_or values i v ∷ [] in
    put ∙ ap (λ ns. ns ++ z ∷ []) so_far ∙ ap (λ n. map number_of (plains first) ++ n ∷ []) (number ∙ ap (λ w. number_of (plain w)) is)
    ∙ sym (ap (λ vs. map number_of (plains vs)) (take_more values i v few) ∙ ap (map number_of) (plains_append first next)
    ∙ map-append number_of (plains first) (plains next))

-- and at the end those of all
pub numbers_all : (values : List RunValue) (i : ℕ) (numbers : List ℤ) → length values ≤ i → numbers ≡ map number_of (plains (take i values)) →
    numbers ≡ map number_of (plains values)
numbers_all values i numbers past so_far = so_far ∙ ap (λ vs. map number_of (plains vs)) (take_all i values past)

-- the values behind the first ones are given up
pub taken_back : (n : ℕ) (xs ys : List Value) → n ≡ length xs → take n (xs ++ ys) ≡ xs
taken_back n xs ys e = take_at xs ys n (sym e)
