-- The code of a region means the region.
use Rattle.std.proofs.Common.{◌≡◌, ℕ, suc, ◌+◌, ◌*◌, ◌/◌, ◌%◌, ◌^◌, ◌<◌, ◌≤◌, ◌==◌, ℤ, Bool, true, false, cond, not, ◌&&◌, ◌||◌, List, [], ◌∷◌, length, map}
use Rattle.std.proofs.Common.{filter, refl, ap, sym, ◌∙◌, arith}
use Rattle.std.specs.List.{fold}
use Rattle.std.proofs.lemmas.Bool.{eq-eqb, ne_eqb, eqb-true, eqb-false}
use Rattle.std.proofs.lemmas.Bool.Decides.{nat_tests}
use Rattle.std.proofs.lemmas.List.{length-map}
use Rattle.std.proofs.Math.Nat.{pow-succ'}
use Rattle.cf_tree.specs.CodeTree.{CodeTree, code_var, code_diff}
use Rattle.cf_tree.specs.Meaning.{got, outcome_of}
use Rattle.cf_tree.specs.Sets.{IsRising, has, set_inter, set_diff}
use Rattle.cf_tree.specs.Values.{Value, elements, elements_of, value_at}
use Rattle.cf_tree.proofs.SetLemmas.{on_bool, has-filter, has-inter, has-diff}
use Rattle.cf_tree.proofs.RisingLemmas.{rising_ext, rising_filter}
use Rattle.cf_linear.specs.Arm.{inter_of_all, vars, sets_in, sets_out, region_code}
use Rattle.cf_linear.specs.Layout.{Layout, bit, layout_of, place, has_level}
use Rattle.cf_cases.specs.Holding.{EachOf}
use Rattle.cf_venn.specs.Codes.{HoldsInputs, RegionCodesMean}
use Rattle.cf_venn.specs.Masks.{sets_at, AreRising, mask, union_all, region}
use Rattle.cf_venn.proofs.MaskLemmas.{in_union_all, rising_union_all}
use Rattle.cf_venn.proofs.AgreeLaws.{place_later}
use Rattle.cf_venn.proofs.LevelLaws.{Up, up_has, same_level, has_unfiltered, is_layout}
use Rattle.cf_venn.proofs.CodeLaws.{CodeGives, joins, join_gives, each_level, input_gives, input_rises, each_rises}

-- ---- what the codes give
inter_gives : (f : ℕ → CodeTree) (g : ℕ → List ℤ) (e : List Value) (ks : List ℕ) → EachOf (λ k. CodeGives (f k) e (elements (g k))) ks →
    CodeGives (inter_of_all (map f ks)) e (elements (joins set_inter (map g ks)))
inter_gives f g e [] h = refl
inter_gives f g e (k ∷ []) h = h.0
inter_gives f g e (k ∷ j ∷ ks) h = rw (h.0) (join_gives set_inter f g e (j ∷ ks) h.1 (g k))

diff_gives : (c d : CodeTree) (e : List Value) (xs ys : List ℤ) → CodeGives c e (elements xs) → CodeGives d e (elements ys) →
    CodeGives (code_diff c d) e (elements (set_diff xs ys))
diff_gives c d e xs ys g h = rw (g, h) refl

diffs_give : (f : ℕ → CodeTree) (g : ℕ → List ℤ) (e : List Value) (ks : List ℕ) → EachOf (λ k. CodeGives (f k) e (elements (g k))) ks →
    (c : CodeTree) (zs : List ℤ) → CodeGives c e (elements zs) →
    CodeGives (fold (λ c d. code_diff c d) c (map f ks)) e (elements (fold set_diff zs (map g ks)))
diffs_give f g e [] h c zs k = k
diffs_give f g e (x ∷ ks) h c zs k = diffs_give f g e ks h.1 (code_diff c (f x)) (set_diff zs (g x)) (diff_gives c (f x) e zs (g x) k h.0)

-- ---- members of all and of any
abbrev all_have : List (List ℤ) → ℤ → Bool
all_have [] y = true
all_have (s ∷ ss) y = has s y && all_have ss y

abbrev any_has : List (List ℤ) → ℤ → Bool
any_has [] y = false
any_has (s ∷ ss) y = has s y || any_has ss y

and_assoc : (a b c : Bool) → ((a && b) && c) ≡ (a && (b && c))
and_assoc true b c = refl
and_assoc false b c = refl

diff_bools : (a b c : Bool) → ((a && not b) && not c) ≡ (a && not (b || c))
diff_bools true true c = refl
diff_bools true false c = refl
diff_bools false b c = refl

and_yes : (b : Bool) → b ≡ (b && true)
and_yes true = refl
and_yes false = refl

not_or : (a b c : Bool) → (a && not (b || c)) ≡ (not b && (a && not c))
not_or true true c = refl
not_or true false c = refl
not_or false true c = refl
not_or false false c = refl

has_inters : (s : List ℤ) (ss : List (List ℤ)) (y : ℤ) → has (fold set_inter s ss) y ≡ (has s y && all_have ss y)
has_inters s [] y = and_yes (has s y)
has_inters s (t ∷ ss) y = has_inters (set_inter s t) ss y ∙ rw (has-inter s t y) (and_assoc (has s y) (has t y) (all_have ss y))

has_diffs : (s : List ℤ) (ss : List (List ℤ)) (y : ℤ) → has (fold set_diff s ss) y ≡ (has s y && not (any_has ss y))
has_diffs s [] y = and_yes (has s y)
has_diffs s (t ∷ ss) y = has_diffs (set_diff s t) ss y ∙ rw (has-diff s t y) (diff_bools (has s y) (has t y) (any_has ss y))

rising_inters : (s : List ℤ) (ss : List (List ℤ)) → IsRising s → IsRising (fold set_inter s ss)
rising_inters s [] r = r
rising_inters s (t ∷ ss) r = rising_inters (set_inter s t) ss (rising_filter (has t) s r)

rising_diffs : (s : List ℤ) (ss : List (List ℤ)) → IsRising s → IsRising (fold set_diff s ss)
rising_diffs s [] r = r
rising_diffs s (t ∷ ss) r = rising_diffs (set_diff s t) ss (rising_filter (λ x. not (has t x)) s r)

has_joins : (ss : List (List ℤ)) (y : ℤ) → 0 < length ss → has (joins set_inter ss) y ≡ all_have ss y
has_joins [] y h = absurd (omega arith)
has_joins (s ∷ ss) y h = has_inters s ss y

rising_joins : (ss : List (List ℤ)) → AreRising ss → IsRising (joins set_inter ss)
rising_joins [] r = tt
rising_joins (s ∷ ss) r = rising_inters s ss r.0

-- ---- the levels in a mask, and those not in it
abbrev levels_in : List ℕ → ℕ → List ℕ
levels_in xs m = filter (λ x. bit (place x xs) m) xs

abbrev levels_out : List ℕ → ℕ → List ℕ
levels_out xs m = filter (λ x. not (bit (place x xs) m)) xs

filter_same : (p q : ℕ → Bool) (xs : List ℕ) → ((x : ℕ) → has_level xs x ≡ true → p x ≡ q x) → filter p xs ≡ filter q xs
filter_same p q [] h = refl
filter_same p q (y ∷ ys) h =
    rw (h y (rw (same_level y) refl), filter_same p q ys (λ x e. h x (on_bool (y == x) (λ i. rw i refl) (λ i. rw (i, e) refl)))) refl

module _ (x : ℕ) (xs : List ℕ) (u : Up (suc x) xs) (m : ℕ) where
  first_bit : bit (place x (x ∷ xs)) m ≡ (m % 2 == 1)
  first_bit = let z : place x (x ∷ xs) ≡ 0 = rw (same_level x) refl in ap (λ i. bit i m) z

  later_bit : (y : ℕ) → has_level xs y ≡ true → bit (place y (x ∷ xs)) m ≡ bit (place y xs) (m / 2)
  later_bit y h = let l = up_has (suc x) xs y u h in ap (λ i. bit i m) (place_later y x xs (ne_eqb x y (λ s. omega arith)))

  in_is : levels_in (x ∷ xs) m ≡ cond (m % 2 == 1) (x ∷ levels_in xs (m / 2)) (levels_in xs (m / 2))
  in_is =
      ap (λ b. cond b (x ∷ filter (λ y. bit (place y (x ∷ xs)) m) xs) (filter (λ y. bit (place y (x ∷ xs)) m) xs)) first_bit
      ∙ ap (λ ys. cond (m % 2 == 1) (x ∷ ys) ys) (filter_same (λ y. bit (place y (x ∷ xs)) m) (λ y. bit (place y xs) (m / 2)) xs later_bit)

  out_is : levels_out (x ∷ xs) m ≡ cond (not (m % 2 == 1)) (x ∷ levels_out xs (m / 2)) (levels_out xs (m / 2))
  out_is =
      ap (λ b. cond (not b) (x ∷ filter (λ y. not (bit (place y (x ∷ xs)) m)) xs) (filter (λ y. not (bit (place y (x ∷ xs)) m)) xs)) first_bit
      ∙ ap (λ ys. cond (not (m % 2 == 1)) (x ∷ ys) ys) (filter_same (λ y. not (bit (place y (x ∷ xs)) m)) (λ y. not (bit (place y xs) (m / 2))) xs
      (λ y h. ap not (later_bit y h)))

half_below : (o b : ℕ) → o < 2 * b → o / 2 < b
half_below o b l = omega arith

bit_test : (b : Bool) (k m : ℕ) → (m % 2 == 1) ≡ true → (b && (k == m / 2)) ≡ (cond b 1 0 + 2 * k == m)
bit_test true k m e = grind (arith, nat_tests)
bit_test false k m e = grind (arith, nat_tests)

no_bit_test : (b : Bool) (k m : ℕ) → (m % 2 == 1) ≡ false → (not b && (k == m / 2)) ≡ (cond b 1 0 + 2 * k == m)
no_bit_test true k m e = grind (arith, nat_tests)
no_bit_test false k m e = grind (arith, nat_tests)

in_some : (lo : ℕ) (xs : List ℕ) (m : ℕ) → Up lo xs → 0 < m → m < 2 ^ length xs → 0 < length (levels_in xs m)
in_some lo [] m u z l = absurd (omega arith)
in_some lo (x ∷ xs) m u z l = rw (in_is x xs u.1 m) (on_bool (m % 2 == 1)
    (λ e. rw e (omega arith))
    (λ e. let f = eqb-false (m % 2) 1 e in rw e (in_some (suc x) xs (m / 2) u.1 (omega arith)
    (half_below m (2 ^ length xs) (rw (pow-succ' 2 (length xs)) at l)))))

module _ (S : ℕ → List ℤ) (y : ℤ) where
  abbrev exactly : List ℕ → List ℕ → Bool
  exactly as_ bs = all_have (map S as_) y && not (any_has (map S bs) y)

  -- in all sets of the mask and in no other set
  mask_test : (lo : ℕ) (xs : List ℕ) (m : ℕ) → Up lo xs → m < 2 ^ length xs → exactly (levels_in xs m) (levels_out xs m) ≡ (mask (map S xs) y == m)
  mask_test lo [] m u l = sym (eq-eqb 0 m (omega arith))
  mask_test lo (x ∷ xs) m u l =
      let h = mask_test (suc x) xs (m / 2) u.1 (half_below m (2 ^ length xs) (rw (pow-succ' 2 (length xs)) at l)) in
      let i = levels_in xs (m / 2) in
      let o = levels_out xs (m / 2) in
      ap (λ as_. exactly as_ (levels_out (x ∷ xs) m)) (in_is x xs u.1 m)
      ∙ ap (λ bs. exactly (cond (m % 2 == 1) (x ∷ i) i) bs) (out_is x xs u.1 m)
      ∙ on_bool (m % 2 == 1)
      (λ e. rw (e, and_assoc (has (S x) y) (all_have (map S i) y) (not (any_has (map S o) y)), h) (bit_test (has (S x) y) (mask (map S xs) y) m e))
      (λ e. rw (e, not_or (all_have (map S i) y) (has (S x) y) (any_has (map S o) y), h) (no_bit_test (has (S x) y) (mask (map S xs) y) m e))

yes_within : (a b : Bool) → (b ≡ true → a ≡ true) → b ≡ (a && b)
yes_within a true h = rw (h refl) refl
yes_within true false h = refl
yes_within false false h = refl

module _ (l : Layout) (e : List Value) (inputs : HoldsInputs l e) (lo : ℕ) (u : Up lo l.inputs) (m : ℕ) (z : 1 ≤ m) (below : m < 2 ^ length l.inputs) where
  code_set : List ℤ
  code_set = fold set_diff (joins set_inter (sets_at e (sets_in l m))) (sets_at e (sets_out l m))

  rising_code_set : IsRising code_set
  unfolding code_set
  rising_code_set =
      rising_diffs (joins set_inter (sets_at e (sets_in l m))) (sets_at e (sets_out l m))
      (rising_joins (sets_at e (sets_in l m)) (each_rises l e inputs (sets_in l m)
      (λ x h. input_rises l e inputs x (has_unfiltered (λ x. bit (place x l.inputs) m) l.inputs x h))))

  code_set_is : code_set ≡ region (sets_at e l.inputs) m
  unfolding code_set
  code_set_is =
      let f : ℕ → List ℤ = λ x. elements_of (value_at e x) in
      let ss = sets_at e l.inputs in
      let some : 0 < length (sets_at e (sets_in l m)) = let k = in_some lo l.inputs m u (omega arith) below in let n = length-map (sets_in l m) f in
      omega arith in
      rising_ext code_set (region ss m) rising_code_set (rising_filter (λ x. mask ss x == m) (union_all ss) (rising_union_all ss))
      (λ y. has_diffs (joins set_inter (sets_at e (sets_in l m))) (sets_at e (sets_out l m)) y
      ∙ ap (λ b. b && not (any_has (sets_at e (sets_out l m)) y)) (has_joins (sets_at e (sets_in l m)) y some)
      ∙ mask_test f y lo l.inputs m u below
      ∙ yes_within (has (union_all ss) y) (mask ss y == m) (λ i. in_union_all ss y (let k = eqb-true (mask ss y) m i in omega arith))
      ∙ sym (has-filter (λ x. mask ss x == m) (union_all ss) y))

  pub region_gives : CodeGives (region_code l m) e (elements (region (sets_at e l.inputs) m))
  unfolding code_set
  region_gives =
      let f : ℕ → List ℤ = λ x. elements_of (value_at e x) in
      let P : ℕ → Type 0 = λ x. CodeGives (code_var x) e (elements (f x)) in
      diffs_give (λ x. code_var x) f e (sets_out l m) (each_level P (sets_out l m)
      (λ x h. input_gives l e inputs x (has_unfiltered (λ x. not (bit (place x l.inputs) m)) l.inputs x h)))
      (inter_of_all (vars (sets_in l m))) (joins set_inter (sets_at e (sets_in l m)))
      (inter_gives (λ x. code_var x) f e (sets_in l m) (each_level P (sets_in l m)
      (λ x h. input_gives l e inputs x (has_unfiltered (λ x. bit (place x l.inputs) m) l.inputs x h))))
      ∙ ap (λ s. got (elements s ∷ [])) code_set_is

pub region_codes_mean : RegionCodesMean
region_codes_mean scope outs rel e inputs m z below =
    ap outcome_of (region_gives (layout_of scope outs rel) e inputs 0 (is_layout scope outs rel).inputs_up m z below)
