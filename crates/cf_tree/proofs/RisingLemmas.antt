-- Strictly rising lists: what keeps them rising, and that their members determine them.
use Rattle.std.proofs.Common.{◌≡◌, ℕ, zero, suc, ℤ, ◌<ℤ◌, ◌≤ℤ◌, int_lt, Bool, true, false, ◌||◌, List, [], ◌∷◌, ◌<◌, length, get_or, take, drop, filter, subst, refl, sym, ◌∙◌, arith}
use Rattle.std.proofs.lemmas.Int.{ints, by_lt_z}
use Rattle.std.specs.Ordering.{int_eq}
use Rattle.std.proofs.lemmas.Bool.{cond_both}
use Rattle.cf_tree.specs.Sets.{AreAbove, IsRising, has, set_put, set_union, set_of}
use Rattle.cf_tree.proofs.SetLemmas.{eq_same, eq_other, eq_is, lt_is, on_bool, has-other, has-set_of}

pub above_less : (x y : ℤ) (ys : List ℤ) → x ≤ℤ y → AreAbove y ys → AreAbove x ys
above_less x y [] l a = tt
above_less x y (z ∷ ys) l a = let b = a.0 in (omega (arith, ints), above_less x y ys l a.1)

pub above_not : (x : ℤ) (ys : List ℤ) → AreAbove x ys → has ys x ≡ false
above_not x [] a = refl
above_not x (y ∷ ys) a = let b = a.0 in rw (eq_other y x (omega (arith, ints)), above_not x ys a.1)

pub above_put : (x y : ℤ) (ys : List ℤ) → x <ℤ y → AreAbove x ys → AreAbove x (set_put y ys)
above_put x y [] l a = (l, tt)
above_put x y (z ∷ ys) l a =
    cond_both (int_lt y z) _ _ (AreAbove x) (λ e. (l, a)) (λ e. cond_both (int_lt z y) _ _ (AreAbove x)
    (λ f. (a.0, above_put x y ys l a.1)) (λ f. a))

pub rising_put : (x : ℤ) (ys : List ℤ) → IsRising ys → IsRising (set_put x ys)
rising_put x [] r = (tt, tt)
rising_put x (y ∷ ys) r =
    cond_both (int_lt x y) _ _ IsRising (λ e. let l = lt_is x y e in ((l, above_less x y ys (omega (arith, ints)) r.0), r))
    (λ e. cond_both (int_lt y x) _ _ IsRising (λ f. (above_put y x ys (lt_is y x f) r.0, rising_put x ys r.1)) (λ f. r))

pub rising_union : (xs ys : List ℤ) → IsRising ys → IsRising (set_union xs ys)
rising_union [] ys r = r
rising_union (x ∷ xs) ys r = rising_put x (set_union xs ys) (rising_union xs ys r)

pub member_above : (x : ℤ) (ys : List ℤ) (z : ℤ) → AreAbove x ys → has ys z ≡ true → x <ℤ z
member_above x [] z a e = absurd (cc)
member_above x (y ∷ ys) z a e = on_bool (int_eq y z) (λ f. subst (λ v. x <ℤ v) (eq_is y z f) a.0) (λ f. member_above x ys z a.1 (sym (has-other y ys z f) ∙ e))

-- each element is above
pub above_at : (x : ℤ) (ys : List ℤ) (i : ℕ) (d : ℤ) → AreAbove x ys → i < length ys → x <ℤ get_or ys i d
above_at x [] i d a l = absurd (omega arith)
above_at x (y ∷ ys) zero d a l = a.0
above_at x (y ∷ ys) (suc i) d a l = above_at x ys i d a.1 (omega arith)

above_filter : (p : ℤ → Bool) (x : ℤ) (ys : List ℤ) → AreAbove x ys → AreAbove x (filter p ys)
above_filter p x [] a = tt
above_filter p x (y ∷ ys) a = cond_both (p y) _ _ (AreAbove x) (λ e. (a.0, above_filter p x ys a.1)) (λ e. above_filter p x ys a.1)

pub rising_filter : (p : ℤ → Bool) (xs : List ℤ) → IsRising xs → IsRising (filter p xs)
rising_filter p [] r = tt
rising_filter p (x ∷ xs) r = cond_both (p x) _ _ IsRising (λ e. (above_filter p x xs r.0, rising_filter p xs r.1)) (λ e. rising_filter p xs r.1)

pub above_take : (n : ℕ) (x : ℤ) (ys : List ℤ) → AreAbove x ys → AreAbove x (take n ys)
above_take zero x ys a = tt
above_take (suc n) x [] a = tt
above_take (suc n) x (y ∷ ys) a = (a.0, above_take n x ys a.1)

pub above_drop : (n : ℕ) (x : ℤ) (ys : List ℤ) → AreAbove x ys → AreAbove x (drop n ys)
above_drop zero x ys a = a
above_drop (suc n) x [] a = tt
above_drop (suc n) x (y ∷ ys) a = above_drop n x ys a.1

pub rising_take : (n : ℕ) (xs : List ℤ) → IsRising xs → IsRising (take n xs)
rising_take zero xs r = tt
rising_take (suc n) [] r = tt
rising_take (suc n) (x ∷ xs) r = (above_take n x xs r.0, rising_take n xs r.1)

pub rising_drop : (n : ℕ) (xs : List ℤ) → IsRising xs → IsRising (drop n xs)
rising_drop zero xs r = r
rising_drop (suc n) [] r = tt
rising_drop (suc n) (x ∷ xs) r = rising_drop n xs r.1

rest_same : (b c d : Bool) → (b ≡ true → c ≡ false) → (b ≡ true → d ≡ false) → (b || c) ≡ (b || d) → c ≡ d
rest_same true c d h k e = h refl ∙ sym (k refl)
rest_same false c d h k e = e

first_not : (x y : ℤ) (xs ys : List ℤ) → x <ℤ y → IsRising (y ∷ ys) → has (x ∷ xs) x ≡ has (y ∷ ys) x → ⊥
first_not x y xs ys l s e =
    let n = above_not x (y ∷ ys) (l, above_less x y ys (omega (arith, ints)) s.0) in
    let f = eq_same x x refl in
    let t : has (x ∷ xs) x ≡ true = rw f in
    cc

not_in_rest : (x z : ℤ) (xs : List ℤ) → AreAbove x xs → int_eq x z ≡ true → has xs z ≡ false
not_in_rest x z xs a e = rw (← (eq_is x z e)) (above_not x xs a)

-- rising lists with the same members are one
pub rising_ext : (xs ys : List ℤ) → IsRising xs → IsRising ys → ((z : ℤ) → has xs z ≡ has ys z) → xs ≡ ys
rising_ext [] [] r s h = refl
rising_ext [] (y ∷ ys) r s h = let e = rw (eq_same y y refl) at (h y) in cc
rising_ext (x ∷ xs) [] r s h = let e = rw (eq_same x x refl) at (h x) in cc
rising_ext (x ∷ xs) (y ∷ ys) r s h =
    by_lt_z x y (λ l. absurd (first_not x y xs ys l s (h x)))
    (λ g. by_lt_z y x (λ l. absurd (first_not y x ys xs l r (sym (h y))))
    (λ f. let same : x ≡ y = omega (arith, ints) in
    let tails : xs ≡ ys = rising_ext xs ys r.1 s.1 (λ z. rest_same (int_eq x z) (has xs z) (has ys z) (not_in_rest x z xs r.0)
    (λ e. not_in_rest y z ys s.0 (rw (← same) e)) (h z ∙ rw same refl)) in
    cc))

pub rising_set_of : (xs : List ℤ) → IsRising (set_of xs)
rising_set_of xs = rising_union xs [] tt

-- a rising list is the set of its elements
pub set_of-rising : (xs : List ℤ) → IsRising xs → set_of xs ≡ xs
set_of-rising xs r = rising_ext (set_of xs) xs (rising_set_of xs) r (has-set_of xs)

-- an earlier element is less
pub rising_at : (xs : List ℤ) (i j : ℕ) (d : ℤ) → IsRising xs → i < j → j < length xs → get_or xs i d <ℤ get_or xs j d
rising_at [] i j d r l m = absurd (omega arith)
rising_at (x ∷ xs) i zero d r l m = absurd (omega arith)
rising_at (x ∷ xs) zero (suc j) d r l m = above_at x xs j d r.0 (omega arith)
rising_at (x ∷ xs) (suc i) (suc j) d r l m = rising_at xs i j d r.1 (omega arith) (omega arith)
