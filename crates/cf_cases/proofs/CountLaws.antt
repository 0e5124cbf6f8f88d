-- Numbers of cases that stop at the greatest count.
use Rattle.std.proofs.Common.{inl, inr, ◌≡◌, ℤ, ℕ, zero, suc, ◌+◌, ◌-◌, ◌*◌, ◌^◌, ◌<◌, ◌≤◌, Bool, true, false, not, length, refl, sym, ◌∙◌, ap, arith}
use Rattle.std.specs.Prelude.{min}
use Rattle.std.proofs.lemmas.Bool.{cases_lt}
use Rattle.std.proofs.lemmas.Nat.{pow-add}
use Rattle.cf_tree.specs.declared.base.Order.{Order}
use Rattle.cf_tree.specs.declared.base.Order.TheVariants.{Eq, Ne, Lt, Le, Gt, Ge}
use Rattle.cf_tree.specs.RelTree.{SetTree, TermTree, RelTree, rel_true, rel_false, rel_compare, rel_same_set, rel_other_set, rel_subset, rel_divides, rel_and}
use Rattle.cf_tree.specs.RelTree.{rel_or}
use Rattle.cf_linear.specs.Written.{abs_count}
use Rattle.cf_linear.specs.Cases.{atom_compare, atom_ways, opposite, negation_normal, case_count}
use Rattle.cf_cases.specs.Counts.{wide, order_as, order_ways, both_or_either}

above : (m x y : ℕ) → m ≤ x → 1 ≤ y → m ≤ x * y
above m x zero h k = absurd (omega arith)
above m x (suc y) h k = omega arith

one_capped : (b m : ℕ) → 1 ≤ m → 1 ≤ b → 1 ≤ min b m
one_capped b m h k = omega arith

large : (m a b x : ℕ) → 1 ≤ m → m < a → x ≡ m → min (x * min b m) m ≡ min (a * b) m
large m a zero x h k e = let z : min 0 m ≡ 0 = omega arith in rw (e, z) (omega arith)
large m a (suc b) x h k e =
    let p : m ≤ m * min (suc b) m = above m m (min (suc b) m) (omega arith) (one_capped (suc b) m h (omega arith)) in
    let q : m ≤ a * suc b = above m a (suc b) (omega arith) (omega arith) in
    rw e (full (m * min (suc b) m) (a * suc b) p q)
  where
    full : (x y : ℕ) → m ≤ x → m ≤ y → min x m ≡ min y m
    full x y p q = omega arith

times_comm : (a b : ℕ) → a * b ≡ b * a
times_comm a b = omega arith

pub capped_mul : (m a b : ℕ) → 1 ≤ m → min (min a m * min b m) m ≡ min (a * b) m
capped_mul m a b h = elim (cases_lt m a) [
  | inr p ↦ elim (cases_lt m b) [
    | inr q ↦ (let e : min a m ≡ a = omega arith in let f : min b m ≡ b = omega arith in rw (e, f) refl)
    | inl q ↦ (let f : min b m ≡ m = omega arith in rw (times_comm (min a m) (min b m), times_comm a b) (large m b a (min b m) h q f))
  ]
  | inl p ↦ (let e : min a m ≡ m = omega arith in large m a b (min a m) h p e)
]

pub capped_add : (m a b : ℕ) → min (min a m + min b m) m ≡ min (a + b) m
capped_add m a b = omega arith

pub product_capped : (a b x y z : ℕ) → x ≡ wide a → y ≡ wide b → z ≡ wide (x * y) → z ≡ wide (a * b)
product_capped a b x y z e f g = g ∙ rw (e, f) (capped_mul (2 ^ 128 - 1) a b (omega arith))

pub sum_capped : (a b x y z : ℕ) → x ≡ wide a → y ≡ wide b → z ≡ wide (x + y) → z ≡ wide (a + b)
sum_capped a b x y z e f g = g ∙ rw (e, f) (capped_add (2 ^ 128 - 1) a b)

-- ---- parts of a relation
pub and_count : (b : Bool) (p q : RelTree) (x y z : ℕ) → x ≡ wide (case_count (negation_normal b p)) → y ≡ wide (case_count (negation_normal b q)) →
    z ≡ wide (both_or_either b x y) → z ≡ wide (case_count (negation_normal b (rel_and p q)))
unfolding case_count
and_count true p q x y z e f g = product_capped (case_count (negation_normal true p)) (case_count (negation_normal true q)) x y z e f g
and_count false p q x y z e f g = sum_capped (case_count (negation_normal false p)) (case_count (negation_normal false q)) x y z e f g

pub or_count : (b : Bool) (p q : RelTree) (x y z : ℕ) → x ≡ wide (case_count (negation_normal b p)) → y ≡ wide (case_count (negation_normal b q)) →
    z ≡ wide (both_or_either (not b) x y) → z ≡ wide (case_count (negation_normal b (rel_or p q)))
unfolding case_count
or_count true p q x y z e f g = sum_capped (case_count (negation_normal true p)) (case_count (negation_normal true q)) x y z e f g
or_count false p q x y z e f g = product_capped (case_count (negation_normal false p)) (case_count (negation_normal false q)) x y z e f g

pub divides_count : (b : Bool) (k : ℤ) (t : TermTree) → 2 ^ abs_count t ≡ case_count (negation_normal b (rel_divides k t))
unfolding case_count
divides_count true k t = omega arith
divides_count false k t = omega arith

compare_ways : (o : Order) (a b : TermTree) → order_ways o ≡ length (atom_ways (atom_compare o a b))
compare_ways Eq a b = refl
compare_ways Ne a b = refl
compare_ways Lt a b = refl
compare_ways Le a b = refl
compare_ways Gt a b = refl
compare_ways Ge a b = refl

compare_is : (d : Bool) (o : Order) (a b : TermTree) → order_ways (order_as d o) * 2 ^ (abs_count a + abs_count b) ≡ case_count
    (negation_normal d (rel_compare o a b))
unfolding case_count
compare_is true o a b = ap (λ n. n * 2 ^ (abs_count a + abs_count b)) (compare_ways o a b)
compare_is false o a b = ap (λ n. n * 2 ^ (abs_count a + abs_count b)) (compare_ways (opposite o) a b)

few_ways : (o : Order) → order_ways o ≡ wide (order_ways o)
few_ways Eq = refl
few_ways Ne = refl
few_ways Lt = refl
few_ways Le = refl
few_ways Gt = refl
few_ways Ge = refl

pub compare_count : (d : Bool) (o : Order) (a b : TermTree) (n x y z r : ℕ) → n ≡ order_ways (order_as d o) → x ≡ wide (2 ^ abs_count a) →
    y ≡ wide (2 ^ abs_count b) → z ≡ wide (x * y) → r ≡ wide (n * z) →
    r ≡ wide (case_count (negation_normal d (rel_compare o a b)))
compare_count d o a b n x y z r h e f g i =
    let p : z ≡ wide (2 ^ abs_count a * 2 ^ abs_count b) = product_capped (2 ^ abs_count a) (2 ^ abs_count b) x y z e f g in
    let q : z ≡ wide (2 ^ (abs_count a + abs_count b)) = p ∙ ap wide (sym (pow-add 2 (abs_count a) (abs_count b))) in
    product_capped (order_ways (order_as d o)) (2 ^ (abs_count a + abs_count b)) n z r (h ∙ few_ways (order_as d o)) q i ∙ ap wide (compare_is d o a b)

-- ---- parts without choices
pub true_count : (b : Bool) → 1 ≡ wide (case_count (negation_normal b rel_true))
unfolding case_count
true_count true = refl
true_count false = refl

pub false_count : (b : Bool) → 1 ≡ wide (case_count (negation_normal b rel_false))
unfolding case_count
false_count true = refl
false_count false = refl

pub same_count : (b : Bool) (s t : SetTree) → 1 ≡ wide (case_count (negation_normal b (rel_same_set s t)))
unfolding case_count
same_count true s t = refl
same_count false s t = refl

pub other_count : (b : Bool) (s t : SetTree) → 1 ≡ wide (case_count (negation_normal b (rel_other_set s t)))
unfolding case_count
other_count true s t = refl
other_count false s t = refl

pub subset_count : (b : Bool) (s t : SetTree) → 1 ≡ wide (case_count (negation_normal b (rel_subset s t)))
unfolding case_count
subset_count true s t = refl
subset_count false s t = refl

pub two_choices : (a b x y z : ℕ) → x ≡ wide (2 ^ a) → y ≡ wide (2 ^ b) → z ≡ wide (x * y) → z ≡ wide (2 ^ (a + b))
two_choices a b x y z e f g = product_capped (2 ^ a) (2 ^ b) x y z e f g ∙ ap wide (sym (pow-add 2 a b))
