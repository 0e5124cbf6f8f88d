-- Counts of alternatives that stand still at the greatest 64-bit number.
use Rattle.std.proofs.Common.{◌≡◌, inl, inr, ℕ, zero, suc, ◌+◌, ◌*◌, ◌-◌, ◌^◌, ◌<◌, nat_le, min, false, List, [], ◌∷◌, ◌++◌, length, map, take, drop, get_or, Option, Some, None, refl, sym, ap, ap₂, ◌∙◌, arith}
use Rattle.std.proofs.Math.Nat.{mul_assoc, mul_comm, mul-suc, pow-succ'}
use Rattle.std.proofs.lemmas.Bool.Decides.{leb_tells, nat_tests}
use Rattle.std.proofs.lemmas.List.{map_more, drop_more}
use Rattle.cf_tree.specs.RelSize.{capped}
use Rattle.cf_form.specs.declared.count.Side.{Side}
use Rattle.cf_form.specs.declared.wide.WideTerm.{WideTerm as DeclaredTerm}
use Rattle.cf_form.specs.Alternatives.{set_count, term_count, product_count, parts_of}
use Rattle.cf_form.specs.Counted.{set_counted, term_counted, side_counted, sides_counted, link_passed, links_behind}
use Rattle.cf_form.specs.Passed.{above, earlier, inners, links_passed, sides, term_passed}
use Rattle.cf_form.specs.Wide.{WideTerm, wide_lit, wide_var, wide_card, wide_neg, wide_add, wide_sub, wide_mul, wide_div, wide_mod, wide_abs, wide_if, wide_min, wide_max, WideTerms, no_wides, wide_more, WideSet, wide_empty, wide_set, wide_union, wide_inter, wide_diff, wide_if_set}
use Rattle.cf_form.specs.WideView.{wides_of, wide_term, wide_terms}

-- a product that stands still at m, of a first number that does
first_within : (a b m : ℕ) → min (min a m * b) m ≡ min (a * b) m
first_within a zero m = omega arith
first_within a (suc r) m = by (a * suc r) (a * r) (m * suc r) (m * r) (mul-suc a r) (mul-suc m r) refl refl
  where
    by : (ps pr ms mr : ℕ) → ps ≡ pr + a → ms ≡ mr + m → a * suc r ≡ ps → m * suc r ≡ ms → min (min a m * suc r) m ≡ min ps m
    by ps pr ms mr e f g h = elim (leb_tells a m) [
      | inl k ↦ let low : min a m ≡ a = omega (arith, k.1) in rw (low, g) refl
      | inr k ↦ let high : min a m ≡ m = omega (arith, k.1) in rw (high, h) (omega (arith, k.1, e, f))
    ]

capped_times : (a b : ℕ) → capped (capped a * capped b) ≡ capped (a * b)
capped_times a b =
    let m : ℕ = 2 ^ 64 - 1 in
    first_within a (min b m) m ∙ ap (λ n. min n m) (mul_comm a (min b m)) ∙ first_within b a m ∙ ap (λ n. min n m) (mul_comm b a)

pub above_capped : (n : ℕ) → above (capped n) ≡ above n
above_capped n = elim (leb_tells n (2 ^ 64 - 1)) [
  | inl k ↦ ap above (omega (arith, k.1))
  | inr k ↦
      let past : nat_le n 1024 ≡ false = grind (arith, nat_tests, k.1) in
      let still : nat_le (capped n) 1024 ≡ false = grind (arith, nat_tests, k.1) in
      let twice : capped (capped n) ≡ capped n = omega arith in
      rw (past, still, twice) refl
]

above_times : (a b : ℕ) → above (capped (capped a * capped b)) ≡ above (a * b)
above_times a b = ap above (capped_times a b) ∙ above_capped (a * b)

pub set_counted_is : (s : WideSet) → set_counted s ≡ capped (set_count s)
set_counted_is wide_empty = refl
set_counted_is (wide_set x) = refl
set_counted_is (wide_union a b) = ap₂ (λ m n. capped (m * n)) (set_counted_is a) (set_counted_is b) ∙ capped_times (set_count a) (set_count b)
set_counted_is (wide_inter a b) = ap₂ (λ m n. capped (m * n)) (set_counted_is a) (set_counted_is b) ∙ capped_times (set_count a) (set_count b)
set_counted_is (wide_diff a b) = ap₂ (λ m n. capped (m * n)) (set_counted_is a) (set_counted_is b) ∙ capped_times (set_count a) (set_count b)
set_counted_is (wide_if_set c a b) = omega (arith, set_counted_is a, set_counted_is b)

pub term_counted_is : (t : WideTerm) → term_counted t ≡ capped (term_count t)
term_counted_is (wide_lit k) = refl
term_counted_is (wide_var x) = refl
term_counted_is (wide_card s) = set_counted_is s
term_counted_is (wide_neg a) = term_counted_is a
term_counted_is (wide_add a b) = ap₂ (λ m n. capped (m * n)) (term_counted_is a) (term_counted_is b) ∙ capped_times (term_count a) (term_count b)
term_counted_is (wide_sub a b) = ap₂ (λ m n. capped (m * n)) (term_counted_is a) (term_counted_is b) ∙ capped_times (term_count a) (term_count b)
term_counted_is (wide_mul a b) = ap₂ (λ m n. capped (m * n)) (term_counted_is a) (term_counted_is b) ∙ capped_times (term_count a) (term_count b)
term_counted_is (wide_div a k) = term_counted_is a
term_counted_is (wide_mod a k) = term_counted_is a
term_counted_is (wide_abs a) = term_counted_is a
term_counted_is (wide_if c a b) = omega (arith, term_counted_is a, term_counted_is b)
term_counted_is (wide_min ts) = capped_times (product_count ts) (2 ^ (parts_of ts - 1))
term_counted_is (wide_max ts) = capped_times (product_count ts) (2 ^ (parts_of ts - 1))

two_above : (a b x y r : ℕ) (o : Option ℕ) → o ≡ above r → r ≡ min (x * y) (2 ^ 64 - 1) → x ≡ capped a → y ≡ capped b → o ≡ above (a * b)
two_above a b x y r o told e f g = told ∙ ap above (e ∙ ap₂ (λ m n. capped (m * n)) f g) ∙ above_times a b

pub sets_above_is : (a b : WideSet) (x y r : ℕ) (o : Option ℕ) → o ≡ above r → r ≡ min (x * y) (2 ^ 64 - 1) → x ≡ set_counted a → y ≡ set_counted b →
    o ≡ above (set_count a * set_count b)
sets_above_is a b x y r o told e f g = two_above (set_count a) (set_count b) x y r o told e (f ∙ set_counted_is a) (g ∙ set_counted_is b)

pub terms_above_is : (a b : WideTerm) (x y r : ℕ) (o : Option ℕ) → o ≡ above r → r ≡ min (x * y) (2 ^ 64 - 1) → x ≡ term_counted a → y ≡ term_counted b →
    o ≡ above (term_count a * term_count b)
terms_above_is a b x y r o told e f g = two_above (term_count a) (term_count b) x y r o told e (f ∙ term_counted_is a) (g ∙ term_counted_is b)

pub term_above_is : (a : WideTerm) (x : ℕ) (o : Option ℕ) → o ≡ above x → x ≡ term_counted a → o ≡ above (term_count a)
term_above_is a x o told e = told ∙ ap above (e ∙ term_counted_is a) ∙ above_capped (term_count a)

product_more : (ts : List WideTerm) (t : WideTerm) → product_count (wides_of (ts ++ t ∷ [])) ≡ product_count (wides_of ts) * term_count t
product_more [] t = omega arith
product_more (u ∷ ts) t = ap (λ n. term_count u * n) (product_more ts t) ∙ sym (mul_assoc (term_count u) (product_count (wides_of ts)) (term_count t))

pub product_next : (ts : List DeclaredTerm) (i : ℕ) (t : DeclaredTerm) (p c : ℕ) → i < length ts → t ≡ get_or ts i t →
    p ≡ capped (product_count (wide_terms (take i ts))) → c ≡ term_counted (wide_term t) →
    min (p * c) (2 ^ 64 - 1) ≡ capped (product_count (wide_terms (take (i + 1) ts)))
product_next ts i t p c l e so_far here =
    let more : product_count (wide_terms (take (i + 1) ts)) ≡ product_count (wide_terms (take i ts)) * term_count (wide_term t) =
    ap (λ us. product_count (wides_of us)) (map_more wide_term ts i t l ∙ ap (λ u. map wide_term (take i ts) ++ wide_term u ∷ []) (sym e))
    ∙ product_more (map wide_term (take i ts)) (wide_term t) in
    ap₂ (λ a b. capped (a * b)) so_far (here ∙ term_counted_is (wide_term t))
    ∙ capped_times (product_count (wide_terms (take i ts))) (term_count (wide_term t)) ∙ ap capped (sym more)

doubled : (n : ℕ) → 2 ^ (n + 1) ≡ 2 ^ n * 2
doubled n = let on : n + 1 ≡ suc n = omega arith in ap (λ k. 2 ^ k) on ∙ pow-succ' 2 n ∙ mul_comm 2 (2 ^ n)

pub power_next : (n p : ℕ) → p ≡ capped (2 ^ n) → min (p * 2) (2 ^ 64 - 1) ≡ capped (2 ^ (n + 1))
power_next n p e = let twice = doubled n in omega (arith, e, twice)

pub parts_are : (ts : List DeclaredTerm) → parts_of (wide_terms ts) ≡ length ts
parts_are [] = refl
parts_are (t ∷ ts) = ap suc (parts_are ts)

pub earlier_none : (a : Option ℕ) → earlier a None ≡ a
earlier_none None = refl
earlier_none (Some n) = refl

earlier_earlier : (a b c : Option ℕ) → earlier (earlier a b) c ≡ earlier a (earlier b c)
earlier_earlier None b c = refl
earlier_earlier (Some n) b c = refl

pub inners_next : (ts : List DeclaredTerm) (i : ℕ) (t : DeclaredTerm) (f g here o : Option ℕ) → i < length ts → t ≡ get_or ts i t →
    here ≡ term_passed (wide_term t) → g ≡ earlier f here → earlier f (inners (sides (wide_terms (drop i ts)))) ≡ o →
    earlier g (inners (sides (wide_terms (drop (i + 1) ts)))) ≡ o
inners_next ts i t f g here o l e is step inv =
    let rest : Option ℕ = inners (sides (wide_terms (drop (i + 1) ts))) in
    let front : drop i ts ≡ t ∷ drop (i + 1) ts = drop_more ts i t l ∙ ap (λ u. u ∷ drop (i + 1) ts) (sym e) in
    ap (λ a. earlier a rest) step ∙ earlier_earlier f here rest ∙ ap (λ a. earlier f (earlier a rest)) is
    ∙ sym (ap (λ us. earlier f (inners (sides (wide_terms us)))) front) ∙ inv

pub links_next : (ts : List DeclaredTerm) (i : ℕ) (t : DeclaredTerm) (before : Option Side) (s : Side) (f g here o : Option ℕ) → i < length ts →
    t ≡ get_or ts i t → s ≡ side_counted (wide_term t) (term_passed (wide_term t)) → here ≡ link_passed before s → g ≡ earlier f here →
    earlier f (links_behind before (sides_counted (wide_terms (drop i ts)))) ≡ o →
    earlier g (links_behind (Some s) (sides_counted (wide_terms (drop (i + 1) ts)))) ≡ o
links_next ts i t before s f g here o l e is link step inv =
    let rest : List Side = sides_counted (wide_terms (drop (i + 1) ts)) in
    let front : drop i ts ≡ t ∷ drop (i + 1) ts = drop_more ts i t l ∙ ap (λ u. u ∷ drop (i + 1) ts) (sym e) in
    ap (λ a. earlier a (links_behind (Some s) rest)) step ∙ earlier_earlier f here (links_behind (Some s) rest)
    ∙ ap (λ a. earlier f (earlier a (links_behind (Some s) rest))) link
    ∙ ap (λ side. earlier f (links_behind before (side ∷ rest))) is
    ∙ sym (ap (λ us. earlier f (links_behind before (sides_counted (wide_terms us)))) front) ∙ inv

links_from : (t : WideTerm) (ts : WideTerms) →
    links_behind (Some (side_counted t (term_passed t))) (sides_counted ts) ≡ links_passed (record { count = term_count t; inner = term_passed t } ∷ sides ts)
links_from t no_wides = refl
links_from t (wide_more u ts) =
    let capped_above : above (term_counted t * term_counted u) ≡ above (term_count t * term_count u) =
    ap₂ (λ m n. above (m * n)) (term_counted_is t) (term_counted_is u)
    ∙ sym (above_capped (capped (term_count t) * capped (term_count u))) ∙ above_times (term_count t) (term_count u) in
    let rest : Option ℕ = links_passed (record { count = term_count u; inner = term_passed u } ∷ sides ts) in
    ap₂ (λ a b. earlier (earlier a (earlier (term_passed t) (term_passed u))) b) capped_above (links_from u ts)
    ∙ earlier_earlier (above (term_count t * term_count u)) (earlier (term_passed t) (term_passed u)) rest
    ∙ ap (λ a. earlier (above (term_count t * term_count u)) a) (earlier_earlier (term_passed t) (term_passed u) rest)

pub links_are : (ts : WideTerms) → links_behind None (sides_counted ts) ≡ links_passed (sides ts)
links_are no_wides = refl
links_are (wide_more t ts) = links_from t ts
