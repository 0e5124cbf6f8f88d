-- Slices of rising lists, and fresh numbers.
use Rattle.std.proofs.Common.{◌≡◌, ℕ, zero, suc, ℤ, pos, ◌<ℤ◌, ◌≤ℤ◌, ◌+◌, ◌<◌, ◌≤◌, Bool, true, false, not, ◌&&◌, ◌||◌, List, [], ◌∷◌, length, get_or, take, drop, map, filter, refl, ap, sym, ◌∙◌, arith}
use Rattle.std.specs.List.{range_with_len}
use Rattle.std.specs.Ordering.{int_eq}
use Rattle.std.proofs.lemmas.Int.{ints}
use Rattle.std.proofs.lemmas.Bool.{and_parts, not-true}
use Rattle.std.proofs.lemmas.List.Filters.{length-filter_both}
use Rattle.std.proofs.lemmas.List.Sums.{length-filter, count_by-le-length}
use Rattle.std.proofs.lemmas.List.{length-take-le, take-append-drop}
use Rattle.std.proofs.lemmas.List.FromFn.{length-map-range_with_len}
use Rattle.cf_tree.specs.Sets.{has, AreAbove, IsRising, set_fresh, set_diff}
use Rattle.cf_tree.proofs.SetLemmas.{on_bool, or_none, or_assoc, eq_is, eq_other, eq_differs, has-filter, has-diff, has-same, has-other, has-append}
use Rattle.cf_tree.proofs.RisingLemmas.{above_not, member_above, above_take, above_drop, rising_ext, rising_filter, rising_take}

slice_bools : (b c d e : Bool) → (b ≡ true → c ≡ false) → c ≡ (d && not e) → c ≡ ((b || d) && not (b || e))
slice_bools true c d e h k = h refl
slice_bools false c d e h k = k

and_true : (b : Bool) → b ≡ (b && true)
and_true true = refl
and_true false = refl

pub take_none : (n : ℕ) → ◌≡◌ {A = List ℤ} (take n []) []
take_none zero = refl
take_none (suc n) = refl

-- what stands in a slice stands before its end and not before its start
pub has-slice : (f n : ℕ) (xs : List ℤ) (y : ℤ) → IsRising xs → has (take n (drop f xs)) y ≡ (has (take (f + n) xs) y && not (has (take f xs) y))
has-slice zero n xs y r = let e : 0 + n ≡ n = omega arith in rw e (and_true (has (take n xs) y))
has-slice (suc f) n [] y r = rw (take_none n, take_none (suc f + n)) refl
has-slice (suc f) n (x ∷ xs) y r =
    let e : suc f + n ≡ suc (f + n) = omega arith in
    rw e (slice_bools (int_eq x y) (has (take n (drop f xs)) y) (has (take (f + n) xs) y) (has (take f xs) y)
    (λ h. rw (← (eq_is x y h)) (above_not x (take n (drop f xs)) (above_take n x (drop f xs) (above_drop f x xs r.0))))
    (has-slice f n xs y r.1))

pub take_more : (n m : ℕ) (xs : List ℤ) (y : ℤ) → n ≤ m → has (take n xs) y ≡ true → has (take m xs) y ≡ true
take_more zero m xs y l e = absurd (cc)
take_more (suc n) zero xs y l e = absurd (omega arith)
take_more (suc n) (suc m) [] y l e = absurd (cc)
take_more (suc n) (suc m) (x ∷ xs) y l e = on_bool (int_eq x y) (λ f. rw f) (λ f. rw f (take_more n m xs y (omega arith) (rw f at e)))

pub take_within : (n : ℕ) (xs : List ℤ) (y : ℤ) → has (take n xs) y ≡ true → has xs y ≡ true
take_within zero xs y e = absurd (cc)
take_within (suc n) [] y e = absurd (cc)
take_within (suc n) (x ∷ xs) y e = on_bool (int_eq x y) (λ f. rw f) (λ f. rw f (take_within n xs y (rw f at e)))

pub drop_within : (n : ℕ) (xs : List ℤ) (y : ℤ) → has (drop n xs) y ≡ true → has xs y ≡ true
drop_within zero xs y e = e
drop_within (suc n) [] y e = absurd (cc)
drop_within (suc n) (x ∷ xs) y e = on_bool (int_eq x y) (λ f. rw f) (λ f. rw f (drop_within n xs y e))

pub take_all : (n : ℕ) (xs : List ℤ) → length xs ≤ n → take n xs ≡ xs
take_all zero [] l = refl
take_all zero (x ∷ xs) l = absurd (omega arith)
take_all (suc n) [] l = refl
take_all (suc n) (x ∷ xs) l = ap (λ ys. x ∷ ys) (take_all n xs (omega arith))

rising_range_above : (a b n : ℕ) → a < b → AreAbove (pos a) (map (λ k. pos k) (range_with_len b n))
rising_range_above a b zero l = tt
rising_range_above a b (suc n) l = (omega (arith, ints), rising_range_above a (b + 1) n (omega arith))

pub rising_range : (a n : ℕ) → IsRising (map (λ k. pos k) (range_with_len a n))
rising_range a zero = tt
rising_range a (suc n) = (rising_range_above a (a + 1) n (omega arith), rising_range (a + 1) n)

and_turn : (a b : Bool) → (a && b) ≡ (b && a)
and_turn true true = refl
and_turn true false = refl
and_turn false true = refl
and_turn false false = refl

pub rising_fresh : (xs : List ℤ) (n : ℕ) → IsRising (set_fresh xs n)
rising_fresh xs n = rising_take n _ (rising_filter (λ x. not (has xs x)) _ (rising_range 0 (n + length xs)))

-- what two rising lists share is no more than either
pub length-shared : (xs ys : List ℤ) → IsRising xs → IsRising ys → length (filter (has xs) ys) ≤ length xs
length-shared xs ys r s =
    let e : filter (has xs) ys ≡ filter (has ys) xs = rising_ext _ _ (rising_filter (has xs) ys s) (rising_filter (has ys) xs r)
    (λ z. has-filter (has xs) ys z ∙ (and_turn (has ys z) (has xs z) ∙ sym (has-filter (has ys) xs z))) in
    let f = ap length e in let g = length-filter (has ys) xs in let h = count_by-le-length (has ys) xs in omega arith

pub length-fresh : (xs : List ℤ) (n : ℕ) → IsRising xs → length (set_fresh xs n) ≡ n
length-fresh xs n r =
    let range = map (λ k. pos k) (range_with_len 0 (n + length xs)) in
    let a = length-filter_both (has xs) (λ x. not (has xs x)) (λ x. refl) range in
    let b = length-shared xs range r (rising_range 0 (n + length xs)) in
    let c = length-map-range_with_len (λ k. pos k) 0 (n + length xs) in
    length-take-le n (set_diff range xs) (omega arith)

pub fresh_not : (xs : List ℤ) (n : ℕ) (y : ℤ) → has (set_fresh xs n) y ≡ true → has xs y ≡ false
fresh_not xs n y e =
    let range = map (λ k. pos k) (range_with_len 0 (n + length xs)) in
    let h = take_within n (set_diff range xs) y e in
    not-true (has xs y) (and_parts (has range y) (not (has xs y)) (sym (has-filter (λ x. not (has xs x)) range y) ∙ h)).1

pub range_within : (a n : ℕ) (y : ℤ) → has (map (λ k. pos k) (range_with_len a n)) y ≡ true → (pos a ≤ℤ y) × (y <ℤ pos (a + n))
range_within a zero y e = absurd (cc)
range_within a (suc n) y e = on_bool (int_eq (pos a) y)
    (λ f. let g = eq_is (pos a) y f in (omega (arith, ints), omega (arith, ints)))
    (λ f. let h = range_within (a + 1) n y (rw f at e) in let k = h.0 in let l = h.1 in (omega (arith, ints), omega (arith, ints)))

-- a fresh element is below the number of fresh ones and of those to avoid
pub fresh_within : (xs : List ℤ) (n : ℕ) (y : ℤ) → has (set_fresh xs n) y ≡ true → (pos 0 ≤ℤ y) × (y <ℤ pos (n + length xs))
fresh_within xs n y e =
    let range = map (λ k. pos k) (range_with_len 0 (n + length xs)) in
    let h = take_within n (set_diff range xs) y e in
    let w = range_within 0 (n + length xs) y (and_parts (has range y) (not (has xs y)) (sym (has-filter (λ x. not (has xs x)) range y) ∙ h)).0 in
    let l = w.1 in (w.0, omega (arith, ints))

pub range_has : (a n : ℕ) (y : ℤ) → pos a ≤ℤ y → y <ℤ pos (a + n) → has (map (λ k. pos k) (range_with_len a n)) y ≡ true
range_has a zero y l m = absurd (omega (arith, ints))
range_has a (suc n) y l m = on_bool (int_eq (pos a) y) (λ e. has-same (pos a) (map (λ k. pos k) (range_with_len (a + 1) n)) y e)
    (λ e. has-other (pos a) (map (λ k. pos k) (range_with_len (a + 1) n)) y e ∙
    range_has (a + 1) n y (let d = eq_differs (pos a) y e in omega (arith, ints)) (omega (arith, ints)))

-- the first elements of a rising list hold what is less than one of them
take_below : (n : ℕ) (xs : List ℤ) (y z : ℤ) → IsRising xs → has xs y ≡ true → y <ℤ z → has (take n xs) z ≡ true → has (take n xs) y ≡ true
take_below zero xs y z r e l h = absurd (cc)
take_below (suc n) [] y z r e l h = absurd (cc)
take_below (suc n) (x ∷ xs) y z r e l h = on_bool (int_eq x y) (λ f. has-same x (take n xs) y f) (λ f.
    let in_rest : has xs y ≡ true = sym (has-other x xs y f) ∙ e in
    let less : x <ℤ y = member_above x xs y r.0 in_rest in
    has-other x (take n xs) y f ∙ take_below n xs y z r.1 in_rest l (sym (has-other x (take n xs) z (eq_other x z (λ g. absurd (omega (arith, ints))))) ∙ h))

-- a number from 0 up that is not to avoid and is less than a fresh one is fresh
pub fresh_least : (xs : List ℤ) (n : ℕ) (y z : ℤ) → pos 0 ≤ℤ y → has xs y ≡ false → y <ℤ z → has (set_fresh xs n) z ≡ true → has (set_fresh xs n) y ≡ true
fresh_least xs n y z low out l h =
    let range = map (λ k. pos k) (range_with_len 0 (n + length xs)) in
    let w = (fresh_within xs n z h).1 in
    let there : has range y ≡ true = range_has 0 (n + length xs) y low (omega (arith, ints)) in
    let kept : has (set_diff range xs) y ≡ true = has-diff range xs y ∙ rw (there, out) refl in
    take_below n (set_diff range xs) y z (rising_filter (λ x. not (has xs x)) range (rising_range 0 (n + length xs))) kept l h

-- what stands before a place, with the element there
pub has-take_more : (xs : List ℤ) (j : ℕ) (d z : ℤ) → j < length xs → has (take (suc j) xs) z ≡ (has (take j xs) z || int_eq (get_or xs j d) z)
has-take_more [] j d z l = absurd (omega arith)
has-take_more (x ∷ xs) zero d z l = or_none (int_eq x z)
has-take_more (x ∷ xs) (suc j) d z l = rw (has-take_more xs j d z (omega arith)) (sym (or_assoc (int_eq x z) (has (take j xs) z) (int_eq (get_or xs j d) z)))

pub has-take_drop : (j : ℕ) (xs : List ℤ) (z : ℤ) → has xs z ≡ (has (take j xs) z || has (drop j xs) z)
has-take_drop j xs z = ap (λ l. has l z) (sym (take-append-drop j xs)) ∙ has-append (take j xs) (drop j xs) z
