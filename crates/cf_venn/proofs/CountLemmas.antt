-- Counts of elements, and sums of counts.
use Rattle.std.proofs.Common.{◌≡◌, ℕ, zero, suc, ℤ, ◌+◌, ◌<◌, ◌≤◌, ◌==◌, Bool, true, false, cond, ◌&&◌, List, [], ◌∷◌, length, filter, refl, ap, sym, ◌∙◌}
use Rattle.std.proofs.Common.{arith, count_by, sum_by}
use Rattle.std.specs.List.{range_with_len}
use Rattle.std.specs.Ordering.{int_eq}
use Rattle.std.proofs.lemmas.Bool.{cond_both, ne_eqb, eqb-true, eqb-false, or_right}
use Rattle.std.proofs.lemmas.List.Sums.{sum_by-cons, length-filter}
use Rattle.cf_tree.specs.Sets.{has, IsRising}
use Rattle.cf_tree.proofs.SetLemmas.{on_bool, eq_is, eq_same, has-filter}
use Rattle.cf_tree.proofs.RisingLemmas.{rising_ext, rising_filter}
use Rattle.cf_linear.specs.Layout.{masks}

-- the sum of the counts of the masks of n sets that pass
abbrev pub total : ℕ → (ℕ → Bool) → (ℕ → ℕ) → ℕ
total n t r = sum_by (λ m. cond (t m) (r m) 0) (masks n)

-- ---- sums
-- a sum of which one term counts
one_below : (k : ℕ) (g : ℕ → ℕ) (a n : ℕ) → k < a → sum_by (λ m. cond (k == m) (g m) 0) (range_with_len a n) ≡ 0
one_below k g a zero l = refl
one_below k g a (suc n) l = sum_by-cons (λ m. cond (k == m) (g m) 0) a (range_with_len (a + 1) n) ∙
    rw (ne_eqb k a (λ e. omega arith), one_below k g (a + 1) n (omega arith))

pub one_hit : (k : ℕ) (g : ℕ → ℕ) (a n : ℕ) → a ≤ k → k < a + n → sum_by (λ m. cond (k == m) (g m) 0) (range_with_len a n) ≡ g k
one_hit k g a zero l h = absurd (omega arith)
one_hit k g a (suc n) l h = sum_by-cons (λ m. cond (k == m) (g m) 0) a (range_with_len (a + 1) n) ∙
    cond_both (k == a) (g a) 0 (λ v. v + sum_by (λ m. cond (k == m) (g m) 0) (range_with_len (a + 1) n) ≡ g k)
    (λ e. let f = eqb-true k a e in rw (one_below k g (a + 1) n (omega arith)) (rw f (omega arith)))
    (λ e. let f = eqb-false k a e in rw (one_hit k g (a + 1) n (omega arith) (omega arith)) (omega arith))

sum_add : (f g h : ℕ → ℕ) → ((m : ℕ) → f m ≡ g m + h m) → (ms : List ℕ) → sum_by f ms ≡ sum_by g ms + sum_by h ms
sum_add f g h e [] = refl
sum_add f g h e (m ∷ ms) = let a = sum_by-cons f m ms in let b = sum_by-cons g m ms in let c = sum_by-cons h m ms in let d = sum_add f g h e ms in let i =
    e m in omega arith

sum_zero : (f : ℕ → ℕ) → ((m : ℕ) → f m ≡ 0) → (ms : List ℕ) → sum_by f ms ≡ 0
sum_zero f e [] = refl
sum_zero f e (m ∷ ms) = let a = sum_by-cons f m ms in let d = sum_zero f e ms in let i = e m in omega arith

-- sums of terms that are the same in the range
pub sum_same : (f g : ℕ → ℕ) (a n : ℕ) → ((m : ℕ) → a ≤ m → m < a + n → f m ≡ g m) → sum_by f (range_with_len a n) ≡ sum_by g (range_with_len a n)
sum_same f g a zero h = refl
sum_same f g a (suc n) h =
    let b = sum_by-cons f a (range_with_len (a + 1) n) in
    let c = sum_by-cons g a (range_with_len (a + 1) n) in
    let d = sum_same f g (a + 1) n (λ m l k. h m (omega arith) (omega arith)) in
    let e = h a (omega arith) (omega arith) in
    omega arith

-- the sum of a range is that of its two parts
pub sum_parts : (g : ℕ → ℕ) (a n k b c : ℕ) → n + k ≡ b → a + n ≡ c → sum_by g (range_with_len a b) ≡ sum_by g (range_with_len a n) + sum_by g
    (range_with_len c k)
sum_parts g a zero k b c e f = let i : b ≡ k = omega arith in let j : c ≡ a = omega arith in rw (i, j) (omega arith)
sum_parts g a (suc n) k zero c e f = absurd (omega arith)
sum_parts g a (suc n) k (suc b) c e f =
    let i = sum_parts g (a + 1) n k b c (omega arith) (omega arith) in
    let s = sum_by-cons g a (range_with_len (a + 1) b) in
    let t = sum_by-cons g a (range_with_len (a + 1) n) in
    omega arith

zero_parts : (t : Bool) (r rest : ℕ) → (cond t r 0 + rest ≡ 0) → (t ≡ true → r ≡ 0) × (rest ≡ 0)
zero_parts true r rest e = (λ _. omega arith, omega arith)
zero_parts false r rest e = (λ f. absurd (cc), omega arith)

-- a sum is 0 exactly where each count in it is 0
pub each_zero : (t : ℕ → Bool) (r : ℕ → ℕ) (a n : ℕ) → (sum_by (λ m. cond (t m) (r m) 0) (range_with_len a n) ≡ 0) → (m : ℕ) → a ≤ m → m < a + n →
    t m ≡ true → r m ≡ 0
each_zero t r a zero e m l h f = absurd (omega arith)
each_zero t r a (suc n) e m l h f =
    let z = zero_parts (t a) (r a) _ (sym (sum_by-cons (λ m. cond (t m) (r m) 0) a (range_with_len (a + 1) n)) ∙ e) in
    on_bool (m == a)
    (λ g. let i = eqb-true m a g in rw i (z.0 (rw (← i) f)))
    (λ g. let i = eqb-false m a g in each_zero t r (a + 1) n z.1 m (omega arith) (omega arith) f)

pub zero_each : (t : ℕ → Bool) (r : ℕ → ℕ) (a n : ℕ) → ((m : ℕ) → a ≤ m → m < a + n → t m ≡ true → r m ≡ 0) →
    sum_by (λ m. cond (t m) (r m) 0) (range_with_len a n) ≡ 0
zero_each t r a zero h = refl
zero_each t r a (suc n) h = sum_by-cons (λ m. cond (t m) (r m) 0) a (range_with_len (a + 1) n) ∙
    (rw (zero_each t r (a + 1) n (λ m l k. h m (omega arith) (omega arith)))
    (cond_both (t a) (r a) 0 (λ v. v + 0 ≡ 0) (λ e. let z = h a (omega arith) (omega arith) e in omega arith) (λ e. refl)))

-- ---- counts
cond_add : (a b : Bool) (c n : ℕ) → c ≡ cond b 1 0 + n → cond a c 0 ≡ cond b (cond a 1 0) 0 + cond a n 0
cond_add true true c n e = e
cond_add true false c n e = e
cond_add false true c n e = refl
cond_add false false c n e = refl

cond_zero : (a : Bool) → ◌≡◌ {A = ℕ} (cond a 0 0) 0
cond_zero true = refl
cond_zero false = refl

has_first : (u : ℤ) (us : List ℤ) → has (u ∷ us) u ≡ true
has_first u us = rw (eq_same u u refl)

has_rest : (u : ℤ) (us : List ℤ) (x : ℤ) → has us x ≡ true → has (u ∷ us) x ≡ true
has_rest u us x e = or_right (int_eq u x) (has us x) e

-- the elements that pass a test of their key, by keys a .. a + n - 1
pub count_split : (key : ℤ → ℕ) (t : ℕ → Bool) (a n : ℕ) (us : List ℤ) → ((x : ℤ) → has us x ≡ true → (a ≤ key x) × (key x < a + n)) →
    count_by (λ x. t (key x)) us ≡ sum_by (λ m. cond (t m) (count_by (λ x. key x == m) us) 0) (range_with_len a n)
count_split key t a n [] h = sym (sum_zero (λ m. cond (t m) 0 0) (λ m. cond_zero (t m)) (range_with_len a n))
count_split key t a n (u ∷ us) h =
    let here = h u (has_first u us) in
    sum_by-cons (λ x. cond (t (key x)) 1 0) u us
    ∙ rw (count_split key t a n us (λ x e. h x (has_rest u us x e)))
    (rw (
      sum_add (λ m. cond (t m) (count_by (λ x. key x == m) (u ∷ us)) 0) (λ m. cond (key u == m) (cond (t m) 1 0) 0)
          (λ m. cond (t m) (count_by (λ x. key x == m) us) 0)
          (λ m. cond_add (t m) (key u == m) _ _ (sum_by-cons (λ x. cond (key x == m) 1 0) u us)) (range_with_len a n),
      one_hit (key u) (λ m. cond (t m) 1 0) a n here.0 here.1,
    ) refl)

in_both : (a b : Bool) → (a ≡ true → b ≡ true) → a ≡ (b && a)
in_both true b h = rw (h refl)
in_both false true h = refl
in_both false false h = refl

pub count_same : (p q : ℤ → Bool) (us : List ℤ) → ((x : ℤ) → has us x ≡ true → p x ≡ q x) → count_by p us ≡ count_by q us
count_same p q [] h = refl
count_same p q (u ∷ us) h = sum_by-cons (λ x. cond (p x) 1 0) u us ∙
    (rw (h u (has_first u us), count_same p q us (λ x e. h x (has_rest u us x e))) (sym (sum_by-cons (λ x. cond (q x) 1 0) u us)))

-- the length of a rising list within another is a count there
pub length_within : (xs us : List ℤ) → IsRising xs → IsRising us → ((x : ℤ) → has xs x ≡ true → has us x ≡ true) → length xs ≡ count_by (has xs) us
length_within xs us r s h =
    let e : xs ≡ filter (has xs) us = rising_ext xs (filter (has xs) us) r (rising_filter (has xs) us s) (λ z. in_both (has xs z) (has us z) (h z) ∙
    sym (has-filter (has xs) us z)) in
    ap length e ∙ length-filter (has xs) us

pub count_none : (p : ℤ → Bool) (us : List ℤ) → ((x : ℤ) → has us x ≡ true → p x ≡ false) → count_by p us ≡ 0
count_none p [] h = refl
count_none p (u ∷ us) h = sum_by-cons (λ x. cond (p x) 1 0) u us ∙ rw (h u (has_first u us), count_none p us (λ x e. h x (has_rest u us x e)))

pub none_counted : (p : ℤ → Bool) (us : List ℤ) → count_by p us ≡ 0 → (x : ℤ) → has us x ≡ true → p x ≡ false
none_counted p [] h x e = absurd (cc)
none_counted p (u ∷ us) h x e =
    let z = zero_parts (p u) 1 (count_by p us) (sym (sum_by-cons (λ x. cond (p x) 1 0) u us) ∙ h) in
    on_bool (int_eq u x)
    (λ f. ap p (sym (eq_is u x f)) ∙ on_bool (p u) (λ g. let k = z.0 g in absurd (omega arith)) (λ g. g))
    (λ f. none_counted p us z.1 x (rw f at e))

-- what passes is counted the same in two rising lists that have it
both_have : (b c d : Bool) → (b ≡ true → c ≡ true) → (b ≡ true → d ≡ true) → (c && b) ≡ (d && b)
both_have true c d h k = rw (h refl, k refl) refl
both_have false true true h k = refl
both_have false true false h k = refl
both_have false false true h k = refl
both_have false false false h k = refl

pub count_within : (p : ℤ → Bool) (us vs : List ℤ) → IsRising us → IsRising vs → ((x : ℤ) → p x ≡ true → has us x ≡ true) →
    ((x : ℤ) → p x ≡ true → has vs x ≡ true) → count_by p us ≡ count_by p vs
count_within p us vs r s h k =
    sym (length-filter p us) ∙ (ap length (rising_ext (filter p us) (filter p vs) (rising_filter p us r) (rising_filter p vs s)
    (λ z. has-filter p us z ∙ (both_have (p z) (has us z) (has vs z) (h z) (k z) ∙ sym (has-filter p vs z)))) ∙ length-filter p vs)
