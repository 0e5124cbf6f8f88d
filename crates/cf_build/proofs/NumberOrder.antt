-- Chooses in the order of their numbers, and those of one number in the order of the text.
use Rattle.std.proofs.Common.{◌≡◌, ℕ, suc, ◌<◌, ◌≤◌, nat_eq, nat_lt, Bool, true, false, not, ◌&&◌, List, [], ◌∷◌, length, map, get_or, filter, All, Contains, cond, inl, inr, refl, sym, ap, ap₂, ◌∙◌, subst, arith}
use Rattle.std.specs.Prelude.{if◌then◌else◌}
use Rattle.std.specs.List.Sorted.{IsPermutation, IsNonDecreasingBy, IsStableByKey, ties}
use Rattle.std.specs.Ordering.{nat_cmp, is_lt}
use Rattle.std.proofs.lemmas.Bool.{cases_order}
use Rattle.std.proofs.lemmas.Bool.Decides.{nat_tests}
use Rattle.std.proofs.lemmas.List.Elements.{All-nil, All-cons, All-head, All-tail, All-weaker}
use Rattle.std.proofs.lemmas.List.Sorted.{IsPermutation-refl, IsPermutation-sym, IsPermutation-trans, IsPermutation-cons, IsPermutation-middle, All-permutation, Contains-permutation}
use Rattle.cf_tree.specs.declared.choose.Choose.{Choose}
use Rattle.cf_tree.specs.ChooseTree.{ChooseTree}
use Rattle.cf_tree.specs.ChooseView.{choose_tree}
use Rattle.cf_build.specs.Chooses.{placed, by_number}

-- ---- the same chooses
turned_pair : (p q : ChooseTree) (ps : List ChooseTree) → IsPermutation (q ∷ p ∷ ps) (p ∷ q ∷ ps)
turned_pair p q ps = IsPermutation-middle (q ∷ []) p ps

placed_by : (b : Bool) (p q : ChooseTree) (ps : List ChooseTree) → IsPermutation (q ∷ ps) (placed q ps) →
    IsPermutation (q ∷ p ∷ ps) (if b then p ∷ placed q ps else q ∷ p ∷ ps)
placed_by true p q ps h = IsPermutation-trans _ _ _ (turned_pair p q ps) (IsPermutation-cons p (q ∷ ps) (placed q ps) h)
placed_by false p q ps h = IsPermutation-refl (q ∷ p ∷ ps)

placed_same : (q : ChooseTree) (ps : List ChooseTree) → IsPermutation (q ∷ ps) (placed q ps)
placed_same q [] = IsPermutation-refl (q ∷ [])
placed_same q (p ∷ ps) = placed_by (nat_lt p.number q.number) p q ps (placed_same q ps)

pub ordered_same : (qs : List ChooseTree) → IsPermutation qs (by_number qs)
ordered_same [] = IsPermutation-refl []
ordered_same (q ∷ qs) = IsPermutation-trans _ _ _ (IsPermutation-cons q qs (by_number qs) (ordered_same qs)) (placed_same q (by_number qs))

pub ordered_has : (qs : List ChooseTree) (q : ChooseTree) → Contains qs q → Contains (by_number qs) q
ordered_has qs q c = Contains-permutation qs (by_number qs) q (ordered_same qs) c

pub ordered_from : (qs : List ChooseTree) (q : ChooseTree) → Contains (by_number qs) q → Contains qs q
ordered_from qs q c = Contains-permutation (by_number qs) qs q (IsPermutation-sym qs (by_number qs) (ordered_same qs)) c

-- ---- in order
-- no number is smaller than one before it
abbrev AreOrdered : List ChooseTree → Type 0
AreOrdered [] = Unit {0}
AreOrdered (q ∷ qs) = All (λ p. q.number ≤ p.number) qs × AreOrdered qs

placed_after : (b : Bool) (p q : ChooseTree) (ps : List ChooseTree) → nat_lt p.number q.number ≡ b → AreOrdered (p ∷ ps) → AreOrdered (placed q ps) →
    AreOrdered (if b then p ∷ placed q ps else q ∷ p ∷ ps)
placed_after true p q ps e r h =
    let less : p.number ≤ q.number = grind (arith, nat_tests) in
    (All-permutation (λ x. p.number ≤ x.number) (q ∷ ps) (placed q ps) (placed_same q ps) (All-cons (λ x. p.number ≤ x.number) q ps less r.0), h)
placed_after false p q ps e r h =
    let less : q.number ≤ p.number = grind (arith, nat_tests) in
    (All-cons (λ x. q.number ≤ x.number) p ps less (All-weaker (λ x. p.number ≤ x.number) (λ x. q.number ≤ x.number) (λ x l. omega (arith, l, less)) ps r.0), r)

placed_ordered : (q : ChooseTree) (ps : List ChooseTree) → AreOrdered ps → AreOrdered (placed q ps)
placed_ordered q [] r = (All-nil (λ x. q.number ≤ x.number), tt)
placed_ordered q (p ∷ ps) r = placed_after (nat_lt p.number q.number) p q ps refl r (placed_ordered q ps r.1)

ordered : (qs : List ChooseTree) → AreOrdered (by_number qs)
ordered [] = tt
ordered (q ∷ qs) = placed_ordered q (by_number qs) (ordered qs)

-- ---- those of one number
abbrev of_number : ℕ → List ChooseTree → List ChooseTree
of_number n qs = filter (λ q. nat_eq n q.number) qs

both_placed : (n : ℕ) (p q : ChooseTree) (ps : List ChooseTree) (x y : Bool) → nat_eq n p.number ≡ x → nat_eq n q.number ≡ y →
    nat_lt p.number q.number ≡ true → cond x (p ∷ cond y (q ∷ ps) ps) (cond y (q ∷ ps) ps) ≡ cond y (q ∷ cond x (p ∷ ps) ps) (cond x (p ∷ ps) ps)
both_placed n p q ps true true e f less = absurd (grind (arith, nat_tests))
both_placed n p q ps true false e f less = refl
both_placed n p q ps false true e f less = refl
both_placed n p q ps false false e f less = refl

placed_step : (n : ℕ) (p q : ChooseTree) (ps : List ChooseTree) (b : Bool) → nat_lt p.number q.number ≡ b → of_number n (placed q ps) ≡ of_number n (q ∷ ps) →
    of_number n (if b then p ∷ placed q ps else q ∷ p ∷ ps) ≡ of_number n (q ∷ p ∷ ps)
placed_step n p q ps true e h =
    ap (λ xs. cond (nat_eq n p.number) (p ∷ xs) xs) h
    ∙ both_placed n p q (of_number n ps) (nat_eq n p.number) (nat_eq n q.number) refl refl e
placed_step n p q ps false e h = refl

placed_numbered : (n : ℕ) (q : ChooseTree) (ps : List ChooseTree) → of_number n (placed q ps) ≡ of_number n (q ∷ ps)
placed_numbered n q [] = refl
placed_numbered n q (p ∷ ps) = placed_step n p q ps (nat_lt p.number q.number) refl (placed_numbered n q ps)

ordered_numbered : (n : ℕ) (qs : List ChooseTree) → of_number n (by_number qs) ≡ of_number n qs
ordered_numbered n [] = refl
ordered_numbered n (q ∷ qs) =
    placed_numbered n q (by_number qs) ∙ ap (λ xs. cond (nat_eq n q.number) (q ∷ xs) xs) (ordered_numbered n qs)

-- ---- one order
itself : (n m : ℕ) → n ≡ m → nat_eq n m ≡ true
itself n m e = grind (arith, nat_tests)

first_kept : (q : ChooseTree) (qs : List ChooseTree) (n : ℕ) → n ≡ q.number → of_number n (q ∷ qs) ≡ q ∷ of_number n qs
first_kept q qs n e = rw (itself n q.number e) refl

none_kept : (n : ℕ) (qs : List ChooseTree) → All (λ q. n < q.number) qs → of_number n qs ≡ []
none_kept n [] h = refl
none_kept n (q ∷ qs) h =
    let less : n < q.number = All-head (λ x. n < x.number) q qs h in
    rw (apart n q.number less) (none_kept n qs (All-tail (λ x. n < x.number) q qs h))
  where
    apart : (n m : ℕ) → n < m → nat_eq n m ≡ false
    apart n m l = grind (arith, nat_tests)

-- a choose of a smaller number is not among those in order
not_smaller : (x y : ChooseTree) (xs ys : List ChooseTree) → AreOrdered (y ∷ ys) → of_number x.number (x ∷ xs) ≡ of_number x.number (y ∷ ys) →
    x.number < y.number → ⊥
not_smaller x y xs ys s e l =
    let none : of_number x.number (y ∷ ys) ≡ [] = none_kept x.number (y ∷ ys)
    (All-cons (λ q. x.number < q.number) y ys l (All-weaker (λ q. y.number ≤ q.number) (λ q. x.number < q.number) (λ q m. omega (arith, l, m)) ys s.0)) in
    let some : x ∷ of_number x.number xs ≡ [] = sym (first_kept x xs x.number refl) ∙ e ∙ none in cc

same_number : (m n : ℕ) → (m < n → ⊥) → (n < m → ⊥) → m ≡ n
same_number m n f g =
    elim (cases_order m n) as (λ _. m ≡ n) [
      | inl e ↦ e
      | inr s ↦ elim s as (λ _. m ≡ n) [
        | inl l ↦ absurd (f l)
        | inr l ↦ absurd (g l)
      ]
    ]

-- a number of one of the chooses that are put in order
module _ (P : ℕ → Type 0) where
  abbrev Agree : List ChooseTree → List ChooseTree → Type 0
  Agree xs ys = (n : ℕ) → P n → of_number n xs ≡ of_number n ys

  rest_agrees : (x : ChooseTree) (xs ys : List ChooseTree) → Agree (x ∷ xs) (x ∷ ys) → Agree xs ys
  rest_agrees x xs ys f n k = by (nat_eq n x.number) (f n k)
    where
      by : (b : Bool) → cond b (x ∷ of_number n xs) (of_number n xs) ≡ cond b (x ∷ of_number n ys) (of_number n ys) → of_number n xs ≡ of_number n ys
      by true e = cc
      by false e = e

  one_order : (xs ys : List ChooseTree) → AreOrdered xs → AreOrdered ys → All (λ q. P q.number) xs → All (λ q. P q.number) ys → Agree xs ys → xs ≡ ys
  one_order [] [] r s h k f = refl
  one_order [] (y ∷ ys) r s h k f =
      let e : [] ≡ y ∷ of_number y.number ys = f y.number (All-head (λ q. P q.number) y ys k) ∙ first_kept y ys y.number refl in cc
  one_order (x ∷ xs) [] r s h k f =
      let e : x ∷ of_number x.number xs ≡ [] = sym (first_kept x xs x.number refl) ∙ f x.number (All-head (λ q. P q.number) x xs h) in cc
  one_order (x ∷ xs) (y ∷ ys) r s h k f =
      let at_x = f x.number (All-head (λ q. P q.number) x xs h) in
      let at_y = f y.number (All-head (λ q. P q.number) y ys k) in
      let number : x.number ≡ y.number = same_number x.number y.number (not_smaller x y xs ys s at_x) (not_smaller y x ys xs r (sym at_y)) in
      let both : x ∷ of_number x.number xs ≡ y ∷ of_number x.number ys = sym (first_kept x xs x.number refl) ∙ at_x ∙ first_kept y ys x.number number in
      let first : x ≡ y = cc in
      let rest : xs ≡ ys = one_order xs ys r.1 s.1 (All-tail (λ q. P q.number) x xs h) (All-tail (λ q. P q.number) y ys k)
      (rest_agrees x xs ys (subst (λ z. Agree (x ∷ xs) (z ∷ ys)) (sym first) f)) in
      ap₂ (λ z zs. z ∷ zs) first rest

-- ---- what a stable sort by number gives
all_above : (n : ℕ) (cs : List Choose) → ((j : ℕ) (d : Choose) → j < length cs → n ≤ (get_or cs j d).number) →
    All (λ p. n ≤ p.number) (map choose_tree cs)
all_above n [] h = All-nil (λ p. n ≤ p.number)
all_above n (c ∷ cs) h =
    All-cons (λ p. n ≤ p.number) (choose_tree c) (map choose_tree cs) (h 0 c (omega arith)) (all_above n cs (λ j d l. h (suc j) d (omega (arith, l))))

sorted_ordered : (cs : List Choose) → IsNonDecreasingBy (λ c. c.number) cs → AreOrdered (map choose_tree cs)
sorted_ordered [] h = tt
sorted_ordered (c ∷ cs) h = (
  all_above c.number cs (λ j d l. h 0 (suc j) d (omega arith) (omega (arith, l))),
  sorted_ordered cs (λ i j d l m. h (suc i) (suc j) d (omega (arith, l)) (omega (arith, m))),
)

abbrev before : Choose → Choose → Bool
before c d = is_lt (nat_cmp c.number d.number)

tie_is : (m n : ℕ) → (not (is_lt (nat_cmp m n)) && not (is_lt (nat_cmp n m))) ≡ nat_eq m n
tie_is m n = grind (arith, nat_tests)

tied : (c : Choose) (cs : List Choose) → map choose_tree (filter (ties before c) cs) ≡ of_number c.number (map choose_tree cs)
tied c [] = refl
tied c (d ∷ cs) = by (nat_eq c.number d.number) (ties before c d) (tie_is c.number d.number) (tied c cs)
  where
    by : (x y : Bool) → y ≡ x → map choose_tree (filter (ties before c) cs) ≡ of_number c.number (map choose_tree cs) →
        map choose_tree (cond y (d ∷ filter (ties before c) cs) (filter (ties before c) cs))
        ≡ cond x (choose_tree d ∷ of_number c.number (map choose_tree cs)) (of_number c.number (map choose_tree cs))
    by true true e h = ap (λ qs. choose_tree d ∷ qs) h
    by true false e h = cc
    by false true e h = cc
    by false false e h = h

-- a choose that has this number
abbrev HasNumber : ℕ → Type 0
HasNumber n = (c : Choose) × (c.number ≡ n)

numbers_had : (cs : List Choose) → All (λ q. HasNumber q.number) (map choose_tree cs)
numbers_had [] = All-nil (λ q. HasNumber q.number)
numbers_had (c ∷ cs) = All-cons (λ q. HasNumber q.number) (choose_tree c) (map choose_tree cs) (c, refl) (numbers_had cs)

module _ (cs sorted : List Choose) (order : IsNonDecreasingBy (λ c. c.number) sorted) (same : IsPermutation cs sorted)
    (stable : IsStableByKey (λ c. c.number) nat_cmp cs sorted) where
  agrees : (n : ℕ) → HasNumber n → of_number n (map choose_tree sorted) ≡ of_number n (by_number (map choose_tree cs))
  agrees n h =
      let one : of_number h.0.number (map choose_tree sorted) ≡ of_number h.0.number (map choose_tree cs) =
      sym (tied h.0 sorted) ∙ ap (λ xs. map choose_tree xs) (stable h.0) ∙ tied h.0 cs in
      subst (λ k. of_number k (map choose_tree sorted) ≡ of_number k (map choose_tree cs)) h.1 one ∙ sym (ordered_numbered n (map choose_tree cs))

  pub sorted_by_number : map choose_tree sorted ≡ by_number (map choose_tree cs)
  sorted_by_number =
      let had = numbers_had cs in
      one_order HasNumber (map choose_tree sorted) (by_number (map choose_tree cs)) (sorted_ordered sorted order) (ordered (map choose_tree cs))
      (numbers_had sorted)
      (All-permutation (λ q. HasNumber q.number) (map choose_tree cs) (by_number (map choose_tree cs)) (ordered_same (map choose_tree cs)) had) agrees
