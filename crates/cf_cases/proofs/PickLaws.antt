-- The case with an index is the one that stands there in the list of cases.
use Rattle.std.proofs.Common.{◌≡◌, ℕ, zero, suc, ◌+◌, ◌-◌, ◌*◌, ◌^◌, ◌/◌, ◌%◌, ◌<◌, ◌≤◌, Bool, true, false, List, [], ◌∷◌, ◌++◌, length, map, take, get_or}
use Rattle.std.proofs.Common.{refl, sym, ◌∙◌, ap, arith, length-append}
use Rattle.std.specs.Prelude.{nat_lt}
use Rattle.std.specs.List.{flat_map}
use Rattle.std.proofs.lemmas.Bool.{cond_both, ltb-true, ltb-false}
use Rattle.std.proofs.lemmas.List.{get_or_append_left, get_or-append_right, get_or-map, length-map}
use Rattle.std.proofs.lemmas.List.Concat.{get_or-flat_map}
use Rattle.std.proofs.lemmas.Nat.{div-add-mod', pow_pos}
use Rattle.std.proofs.Math.Nat.{div-lt_iff_lt-mul, mul-pos}
use Rattle.cf_tree.specs.declared.base.Order.TheVariants.{Eq, Ne, Lt, Le, Gt, Ge}
use Rattle.cf_linear.specs.Cases.{Atom, atom_true, atom_false, atom_compare, atom_divides, atom_not_divides, atom_same, atom_other, atom_subset}
use Rattle.cf_linear.specs.Cases.{atom_not_subset, Normal, normal_atom, normal_and, normal_or, Signed, atom_signs, atom_ways, atom_cases, sign_choices}
use Rattle.cf_linear.specs.Cases.{disjuncts, case_count}
use Rattle.cf_cases.specs.Holding.{EachOf}
use Rattle.cf_cases.specs.Picking.{signs_at, atom_at, case_by}

-- ---- pieces of one length
flat_length : {A B : Type 0} (f : A → List B) (n : ℕ) (xs : List A) → EachOf (λ x. length (f x) ≡ n) xs → length (flat_map f xs) ≡ length xs * n
flat_length f n [] p = omega arith
flat_length f n (x ∷ xs) p = length-append (f x) (flat_map f xs) ∙ rw (p.0, flat_length f n xs p.1) (omega arith)

each-take : {A : Type 0} (P : A → Type 0) (a : ℕ) (xs : List A) → EachOf P xs → EachOf P (take a xs)
each-take P zero xs p = tt
each-take P (suc a) [] p = tt
each-take P (suc a) (x ∷ xs) p = (p.0, each-take P a xs p.1)

length_taken : {A : Type 0} (a : ℕ) (xs : List A) → a < length xs → length (take a xs) ≡ a
length_taken zero xs h = refl
length_taken (suc a) [] h = absurd (omega arith)
length_taken (suc a) (x ∷ xs) h = let e = length_taken a xs (omega arith) in omega arith

pub grid : {A B : Type 0} (f : A → List B) (n : ℕ) (xs : List A) (e : A) (d : B) (a b : ℕ) → EachOf (λ x. length (f x) ≡ n) xs → a < length xs →
    b < length (f (get_or xs a e)) → get_or (flat_map f xs) (a * n + b) d ≡ get_or (f (get_or xs a e)) b d
grid f n xs e d a b p h k =
    let t : length (flat_map f (take a xs)) ≡ a * n = flat_length f n (take a xs) (each-take (λ x. length (f x) ≡ n) a xs p) ∙
    ap (λ m. m * n) (length_taken a xs h) in
    ap (λ m. get_or (flat_map f xs) (m + b) d) (sym t) ∙ get_or-flat_map f xs a b e d h k

-- ---- signs
pub length-choices : (n : ℕ) → length (sign_choices n) ≡ 2 ^ n
length-choices zero = refl
length-choices (suc n) =
    length-append (map (λ (ss : List Bool). false ∷ ss) (sign_choices n)) (map (λ (ss : List Bool). true ∷ ss) (sign_choices n))
    ∙ rw (length-map (sign_choices n) (λ (ss : List Bool). false ∷ ss), length-map (sign_choices n) (λ (ss : List Bool). true ∷ ss), length-choices n)
    (omega arith)

signs-at : (n j : ℕ) → j < 2 ^ n → get_or (sign_choices n) j [] ≡ signs_at n j
signs-at zero j h = let e : j ≡ 0 = omega arith in rw e refl
signs-at (suc n) j h =
    let l = length-choices n in
    let m = length-map (sign_choices n) (λ (ss : List Bool). false ∷ ss) in
    cond_both (nat_lt j (2 ^ n)) (false ∷ signs_at n j) (true ∷ signs_at n (j - 2 ^ n)) (λ x. get_or (sign_choices (suc n)) j [] ≡ x)
    (λ e. let k : j < 2 ^ n = ltb-true j (2 ^ n) e in
    get_or_append_left (map (λ (ss : List Bool). false ∷ ss) (sign_choices n)) (map (λ (ss : List Bool). true ∷ ss) (sign_choices n)) [] j (omega arith)
    ∙ get_or-map (λ (ss : List Bool). false ∷ ss) (sign_choices n) j [] [] (omega arith) ∙ ap (λ (ss : List Bool). false ∷ ss) (signs-at n j k))
    (λ e. let k : 2 ^ n ≤ j = ltb-false j (2 ^ n) e in
    let i : j - 2 ^ n < 2 ^ n = omega arith in
    get_or-append_right (map (λ (ss : List Bool). false ∷ ss) (sign_choices n)) (map (λ (ss : List Bool). true ∷ ss) (sign_choices n)) (2 ^ n) j [] (m ∙ l) k
    ∙ get_or-map (λ (ss : List Bool). true ∷ ss) (sign_choices n) (j - 2 ^ n) [] [] (omega arith) ∙
    ap (λ (ss : List Bool). true ∷ ss) (signs-at n (j - 2 ^ n) i))

pub length-signs_at : (n j : ℕ) → length (signs_at n j) ≡ n
length-signs_at zero j = refl
length-signs_at (suc n) j =
    cond_both (nat_lt j (2 ^ n)) (false ∷ signs_at n j) (true ∷ signs_at n (j - 2 ^ n)) (λ x. length x ≡ suc n)
    (λ e. let k = length-signs_at n j in omega arith) (λ e. let k = length-signs_at n (j - 2 ^ n) in omega arith)

-- ---- atoms
pub ways_positive : (a : Atom) → 1 ≤ length (atom_ways a)
ways_positive atom_true = omega arith
ways_positive atom_false = omega arith
ways_positive (atom_compare Eq a b) = omega arith
ways_positive (atom_compare Ne a b) = omega arith
ways_positive (atom_compare Lt a b) = omega arith
ways_positive (atom_compare Le a b) = omega arith
ways_positive (atom_compare Gt a b) = omega arith
ways_positive (atom_compare Ge a b) = omega arith
ways_positive (atom_divides k t) = omega arith
ways_positive (atom_not_divides k t) = omega arith
ways_positive (atom_same a b) = omega arith
ways_positive (atom_other a b) = omega arith
ways_positive (atom_subset a b) = omega arith
ways_positive (atom_not_subset a b) = omega arith

-- an atom with these signs
abbrev with_signs : List Bool → Atom → Signed
with_signs ss w = (w, ss)

abbrev ways_with : Atom → List Bool → List Signed
ways_with a ss = map (with_signs ss) (atom_ways a)

way_lengths : (a : Atom) (xs : List (List Bool)) → EachOf (λ (ss : List Bool). length (ways_with a ss) ≡ length (atom_ways a)) xs
way_lengths a [] = tt
way_lengths a (ss ∷ xs) = (length-map (atom_ways a) (with_signs ss), way_lengths a xs)

length-atom_cases : (a : Atom) → length (atom_cases a) ≡ length (atom_ways a) * 2 ^ atom_signs a
length-atom_cases a =
    flat_length (ways_with a) (length (atom_ways a)) (sign_choices (atom_signs a)) (way_lengths a (sign_choices (atom_signs a)))
    ∙ rw (length-choices (atom_signs a)) (omega arith)

pub below_div : (i n m : ℕ) → 1 ≤ n → i < n * m → i / n < m
below_div i zero m h k = absurd (omega arith)
below_div i (suc n) m h k = (div-lt_iff_lt-mul {k = suc n} {x = i} {y = m} (omega arith)).1 (omega arith)

pick_atom : (a : Atom) (i : ℕ) → i < length (atom_ways a) * 2 ^ atom_signs a → get_or (atom_cases a) i (a, []) ≡ atom_at a i
pick_atom a i h =
    let n = length (atom_ways a) in
    let j : i / n < 2 ^ atom_signs a = below_div i n (2 ^ atom_signs a) (ways_positive a) h in
    let k : i % n < n = omega (arith, ways_positive a) in
    let x : i / n < length (sign_choices (atom_signs a)) = omega (arith, length-choices (atom_signs a)) in
    let y : i % n < length (ways_with a (get_or (sign_choices (atom_signs a)) (i / n) [])) =
    omega (arith, length-map (atom_ways a) (with_signs (get_or (sign_choices (atom_signs a)) (i / n) []))) in
    ap (λ m. get_or (atom_cases a) m (a, [])) (sym (div-add-mod' i n))
    ∙ grid (ways_with a) n (sign_choices (atom_signs a)) [] (a, []) (i / n) (i % n) (way_lengths a (sign_choices (atom_signs a))) x y
    ∙ get_or-map (with_signs (get_or (sign_choices (atom_signs a)) (i / n) [])) (atom_ways a) (i % n) a (a, []) k
    ∙ ap (λ (ss : List Bool). with_signs ss (get_or (atom_ways a) (i % n) a)) (signs-at (atom_signs a) (i / n) j)

-- ---- relations
pub count_positive : (p : Normal) → 1 ≤ case_count p
unfolding case_count
count_positive (normal_atom a) = mul-pos (ways_positive a) (pow_pos (atom_signs a))
count_positive (normal_and p q) = mul-pos (count_positive p) (count_positive q)
count_positive (normal_or p q) = let h = count_positive p in omega arith

-- a relation has a case
pub count_above : (p : Normal) → 0 < case_count p
count_above p = let h = count_positive p in omega arith

joined_lengths : {A : Type 0} (n : ℕ) (ds : List (List A)) (cs : List (List A)) → length ds ≡ n → EachOf (λ c. length (map (λ d. c ++ d) ds) ≡ n) cs
joined_lengths n ds [] e = tt
joined_lengths n ds (c ∷ cs) e = (length-map ds (λ d. c ++ d) ∙ e, joined_lengths n ds cs e)

pub length-cases : (p : Normal) → length (disjuncts p) ≡ case_count p
unfolding disjuncts case_count
length-cases (normal_atom a) = length-map (atom_cases a) (λ (s : Signed). s ∷ []) ∙ length-atom_cases a
length-cases (normal_and p q) =
    flat_length (λ (c : List Signed). map (λ (d : List Signed). c ++ d) (disjuncts q)) (case_count q) (disjuncts p)
    (joined_lengths (case_count q) (disjuncts q) (disjuncts p) (length-cases q)) ∙ ap (λ n. n * case_count q) (length-cases p)
length-cases (normal_or p q) = length-append (disjuncts p) (disjuncts q) ∙ rw (length-cases p, length-cases q) refl

-- the case with an index
pub case-by : (p : Normal) (i : ℕ) → i < case_count p → get_or (disjuncts p) i [] ≡ case_by p i
unfolding disjuncts case_count case_by
case-by (normal_atom a) i h = get_or-map (λ (s : Signed). s ∷ []) (atom_cases a) i (a, []) [] (omega (arith, length-atom_cases a)) ∙
    ap (λ (s : Signed). s ∷ []) (pick_atom a i h)
case-by (normal_and p q) i h =
    let n = case_count q in
    let z = count_positive q in
    let j : i / n < case_count p = below_div i n (case_count p) z (omega arith) in
    let k : i % n < n = omega arith in
    let x : i / n < length (disjuncts p) = omega (arith, length-cases p) in
    let c = get_or (disjuncts p) (i / n) [] in
    let y : i % n < length (disjuncts q) = omega (arith, length-cases q) in
    let y' : i % n < length (map (λ (d : List Signed). c ++ d) (disjuncts q)) = omega (arith, length-map (disjuncts q) (λ d. c ++ d)) in
    ap (λ m. get_or (disjuncts (normal_and p q)) m []) (sym (div-add-mod' i n))
    ∙ grid (λ (c : List Signed). map (λ (d : List Signed). c ++ d) (disjuncts q)) n (disjuncts p) [] [] (i / n) (i % n)
    (joined_lengths n (disjuncts q) (disjuncts p) (length-cases q)) x y'
    ∙ get_or-map (λ (d : List Signed). c ++ d) (disjuncts q) (i % n) [] [] y
    ∙ rw (case-by p (i / n) j, case-by q (i % n) k) refl
case-by (normal_or p q) i h =
    cond_both (nat_lt i (case_count p)) (case_by p i) (case_by q (i - case_count p)) (λ x. get_or (disjuncts (normal_or p q)) i [] ≡ x)
    (λ e. let k : i < case_count p = ltb-true i (case_count p) e in get_or_append_left (disjuncts p) (disjuncts q) [] i (omega (arith, length-cases p)) ∙
    case-by p i k)
    (λ e. let k : case_count p ≤ i = ltb-false i (case_count p) e in get_or-append_right (disjuncts p) (disjuncts q) (case_count p) i [] (length-cases p)
    k ∙ case-by q (i - case_count p) (omega arith))
