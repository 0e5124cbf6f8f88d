-- Which cases of parts make up a case of a relation, and which order and signs those of an atom.
use Rattle.std.proofs.Common.{◌≡◌, inl, inr, ℕ, zero, suc, ◌+◌, ◌-◌, ◌^◌, ◌/◌, ◌%◌, ◌<◌, ◌≤◌, ◌==◌, Bool, true, false, not, List, [], ◌∷◌, ◌++◌, Option, Some}
use Rattle.std.proofs.Common.{None, refl, sym, ◌∙◌, ap, arith, append_assoc}
use Rattle.std.specs.Prelude.{nat_lt, min}
use Rattle.std.proofs.Math.Nat.{div-eq_of_lt, mod-eq_of_lt}
use Rattle.std.proofs.lemmas.Bool.{cases_lt, cond_both, ltb-true, ltb-false, lt-ltb, le-ltb, eqb-true, eqb-false}
use Rattle.std.proofs.lemmas.List.{append-nil}
use Rattle.cf_tree.specs.declared.base.Order.{Order}
use Rattle.cf_tree.specs.declared.base.Order.TheVariants.{Eq, Ne, Lt, Le, Gt, Ge}
use Rattle.cf_tree.specs.RelSize.{capped}
use Rattle.cf_tree.specs.RelTree.{TermTree, RelTree, rel_and, rel_or}
use Rattle.cf_linear.specs.Written.{abs_count}
use Rattle.cf_linear.specs.Cases.{atom_compare, Normal, normal_atom, normal_and, normal_or, negation_normal, case_count}
use Rattle.cf_cases.specs.Counts.{wide, order_ways, CountTree, count_in, left_in, right_in, counts_of}
use Rattle.cf_cases.specs.Picking.{signs_at, case_by, way_at, joined, parts_at, part_by, IsIndex}
use Rattle.cf_cases.proofs.PickLaws.{below_div, count_positive}
use Rattle.cf_cases.proofs.CountLaws.{product_capped, sum_capped}

-- ---- parts
pub record AreParts (b : Bool) (p q : Normal) (i : ℕ) (f s : Option ℕ) : Type 0 where
  pub first : IsIndex p f
  pub second : IsIndex q s
  pub whole : case_by (joined b p q) i ≡ part_by p f ++ part_by q s

-- an index below 2 ^ 64 is divided by the count as by the capped count
same_quotient : (i n y : ℕ) → y ≡ wide n → i < 2 ^ 64 → (i / y ≡ i / n) × (i % y ≡ i % n)
same_quotient i n y e h = elim (cases_lt (2 ^ 128 - 1) n) [
  | inl k ↦ (let lt : i < y = omega arith in
      let ln : i < n = omega arith in
      (div-eq_of_lt lt ∙ sym (div-eq_of_lt ln), mod-eq_of_lt lt ∙ sym (mod-eq_of_lt ln)))
  | inr k ↦ (let f : y ≡ n = omega arith in (ap (λ m. i / m) f, ap (λ m. i % m) f))
]

quotient_small : (i n : ℕ) → 1 ≤ n → i / n ≤ i
quotient_small i zero h = absurd (omega arith)
quotient_small i (suc n) h = let k = below_div i (suc n) (i + 1) (omega arith) (omega arith) in omega arith

both_parts : (p q : Normal) (i : ℕ) → i < case_count (normal_and p q) → i < 2 ^ 64 → AreParts true p q i (Some (i / case_count q)) (Some (i % case_count q))
unfolding case_count case_by
both_parts p q i h k =
    let n = case_count q in
    let z = count_positive q in
    let j : i / n < case_count p = below_div i n (case_count p) z (omega arith) in
    let s = quotient_small i n z in
    record { first = (j, omega arith); second = (omega arith, omega arith); whole = refl }

either_part : (p q : Normal) (i x : ℕ) → x ≡ wide (case_count p) → i < case_count (normal_or p q) → i < 2 ^ 64 →
    AreParts false p q i (parts_at false x 0 i).0 (parts_at false x 0 i).1
unfolding case_count case_by
either_part p q i x e h k =
    let one : Option ℕ × Option ℕ = (Some i, None) in
    let other : Option ℕ × Option ℕ = (None, Some (i - x)) in
    cond_both (nat_lt i x) one other (λ (r : Option ℕ × Option ℕ). AreParts false p q i r.0 r.1)
    (λ t. let l : i < x = ltb-true i x t in
    let m : nat_lt i (case_count p) ≡ true = lt-ltb i (case_count p) (omega arith) in
    record { first = (omega arith, k); second = tt; whole = rw m (sym (append-nil (case_by p i))) })
    (λ t. let l : x ≤ i = ltb-false i x t in
    let v : x ≡ case_count p = omega arith in
    let m : nat_lt i (case_count p) ≡ false = le-ltb i (case_count p) (omega arith) in
    record { first = tt; second = (omega arith, omega arith); whole = rw (m, v) refl })

pub parts_are : (b : Bool) (p q : Normal) (i x y : ℕ) → x ≡ wide (case_count p) → y ≡ wide (case_count q) → i < case_count (joined b p q) → i < 2 ^ 64 →
    AreParts b p q i (parts_at b x y i).0 (parts_at b x y i).1
parts_are true p q i x y e f h k = let s = same_quotient i (case_count q) y f k in rw (s.0, s.1) (both_parts p q i h k)
parts_are false p q i x y e f h k = either_part p q i x e h k

pub plain-and : (d : Bool) (p q : RelTree) → negation_normal d (rel_and p q) ≡ joined d (negation_normal d p) (negation_normal d q)
plain-and true p q = refl
plain-and false p q = refl

pub plain-or : (d : Bool) (p q : RelTree) → negation_normal d (rel_or p q) ≡ joined (not d) (negation_normal d p) (negation_normal d q)
plain-or true p q = refl
plain-or false p q = refl

-- ---- counts
pub count-in : (p : Normal) → count_in (counts_of p) ≡ wide (case_count p)
unfolding case_count
count-in (normal_atom a) = refl
count-in (normal_and p q) = product_capped (case_count p) (case_count q) _ _ _ (count-in p) (count-in q) refl
count-in (normal_or p q) = sum_capped (case_count p) (case_count q) _ _ _ (count-in p) (count-in q) refl

narrowed : (n : ℕ) → min (wide n) (2 ^ 64 - 1) ≡ capped n
narrowed n = omega arith

-- what is told of the counts of p, that stop at 2 ^ 64 - 1
pub told_count : (t : CountTree) (p : Normal) (n r : ℕ) → t ≡ counts_of p → n ≡ count_in t → r ≡ min n (2 ^ 64 - 1) → r ≡ capped (case_count p)
told_count t p n r e f g = g ∙ ap (λ m. min m (2 ^ 64 - 1)) (f ∙ ap count_in e ∙ count-in p) ∙ narrowed (case_count p)

-- the counts t of both sides, or of either, and the parts of the case with the index
pub record Sides (b : Bool) (p q : Normal) (t : CountTree) (i : ℕ) : Type 0 where
  pub left : left_in t ≡ counts_of p
  pub right : right_in t ≡ counts_of q
  pub some : 1 ≤ count_in (right_in t)
  pub parts : AreParts b p q i (parts_at b (count_in (left_in t)) (count_in (right_in t)) i).0 (parts_at b (count_in (left_in t)) (count_in (right_in t)) i).1

sides_are : (b : Bool) (p q : Normal) (t : CountTree) (i : ℕ) → left_in t ≡ counts_of p → right_in t ≡ counts_of q → i < case_count (joined b p q) →
    i < 2 ^ 64 → Sides b p q t i
sides_are b p q t i l r h k =
    let e = ap count_in l ∙ count-in p in
    let f = ap count_in r ∙ count-in q in
    record { left = l; right = r; some = let z = count_positive q in omega arith; parts = parts_are b p q i _ _ e f h k }

pub sides_of : (b : Bool) (p q : Normal) (t : CountTree) (i : ℕ) → t ≡ counts_of (joined b p q) → i < case_count (joined b p q) → i < 2 ^ 64 → Sides b p q t i
sides_of true p q t i e h k = sides_are true p q t i (ap left_in e) (ap right_in e) h k
sides_of false p q t i e h k = sides_are false p q t i (ap left_in e) (ap right_in e) h k

-- the counts of a relation with two sides
pub and_counts : (d : Bool) (r p q : RelTree) (t : CountTree) → r ≡ rel_and p q → t ≡ counts_of (negation_normal d r) →
    t ≡ counts_of (joined d (negation_normal d p) (negation_normal d q))
and_counts d r p q t e f = f ∙ ap counts_of (ap (negation_normal d) e ∙ plain-and d p q)

pub or_counts : (d : Bool) (r p q : RelTree) (t : CountTree) → r ≡ rel_or p q → t ≡ counts_of (negation_normal d r) →
    t ≡ counts_of (joined (not d) (negation_normal d p) (negation_normal d q))
or_counts d r p q t e f = f ∙ ap counts_of (ap (negation_normal d) e ∙ plain-or d p q)

-- ---- atoms
pub by_one : (i : ℕ) → (i / 1 ≡ i) × (i % 1 ≡ 0)
by_one i = (omega arith, omega arith)

pub compare_by : (o : Order) (a b : TermTree) (i : ℕ) → case_by (normal_atom (atom_compare o a b))
    i ≡ (atom_compare (way_at o i) a b, signs_at (abs_count a + abs_count b) (i / order_ways o)) ∷ []
unfolding case_by
compare_by Eq a b i = rw (by_one i).1 refl
compare_by Lt a b i = rw (by_one i).1 refl
compare_by Le a b i = rw (by_one i).1 refl
compare_by Gt a b i = rw (by_one i).1 refl
compare_by Ge a b i = rw (by_one i).1 refl
compare_by Ne a b i = cond_both (i % 2 == 0) Lt Gt (λ w. case_by (normal_atom (atom_compare Ne a b))
    i ≡ (atom_compare w a b, signs_at (abs_count a + abs_count b) (i / 2)) ∷ [])
    (λ t. let e : i % 2 ≡ 0 = eqb-true (i % 2) 0 t in rw e refl)
    (λ t. let n = eqb-false (i % 2) 0 t in let e : i % 2 ≡ 1 = omega arith in rw e refl)

-- ---- signs
pub next_sign : (xs zs whole : List Bool) (n j k : ℕ) (b : Bool) → 0 < n → xs ++ signs_at n j ≡ whole → signs_at (suc (n - 1)) j ≡ b ∷ signs_at (n - 1) k →
    zs ≡ xs ++ (b ∷ []) → zs ++ signs_at (n - 1) k ≡ whole
next_sign xs zs whole n j k b h e f g =
    let m : n ≡ suc (n - 1) = omega arith in
    rw (g, append_assoc, ← f) (ap (λ i. xs ++ signs_at i j) (sym m) ∙ e)
