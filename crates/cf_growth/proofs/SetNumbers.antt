-- The numbers met in the codes of regions, of fresh numbers and of output sets are at most the counts together, or fresh.
use Rattle.std.proofs.Common.{◌≡◌, ℕ, zero, suc, ◌+◌, ◌-◌, ◌*◌, ◌/◌, ◌%◌, ◌^◌, ◌<◌, ◌≤◌, ◌==◌, ℤ, pos, negsuc, cond, not, max, List, [], ◌∷◌, inl, inr, length, map, filter, refl, sym, ap, arith, ◌∙◌, sum_by}
use Rattle.std.specs.Prelude.{◌≤ℤ◌, ◌<ℤ◌}
use Rattle.std.specs.List.{range_with_len}
use Rattle.std.proofs.lemmas.Bool.{eqb-true, eqb-false, ne_eqb}
use Rattle.std.proofs.lemmas.Int.{ints}
use Rattle.std.proofs.lemmas.List.Sums.{sum_by-cons}
use Rattle.std.proofs.lemmas.Nat.{pow_pos, pow-add}
use Rattle.std.proofs.Math.Nat.{mul-le-mul_left, mod-lt}
use Rattle.cf_tree.specs.CodeTree.{CodeTree, code_var, codes_of}
use Rattle.cf_tree.specs.Meaning.{got, path, sum_path, greatest}
use Rattle.cf_tree.specs.Sets.{set_fresh}
use Rattle.cf_tree.specs.Values.{Value, number, elements, elements_of, value_at}
use Rattle.cf_tree.proofs.SliceLemmas.{fresh_within, length-fresh}
use Rattle.cf_linear.specs.Arm.{ColumnLevels, level_of, sum_of, vars, inter_of_all, sets_in, sets_out, earlier_counts, region_code, fresh_code, piece_code, set_code}
use Rattle.cf_linear.specs.Keep.{In}
use Rattle.cf_linear.specs.Layout.{Layout, bit, masks, place, set_count, region_column}
use Rattle.cf_linear.proofs.BoolLemmas.{on_bool}
use Rattle.cf_cases.specs.Holding.{EachOf}
use Rattle.cf_venn.specs.Codes.{HoldsCounts, HoldsInputs, HoldsPieces}
use Rattle.cf_venn.specs.Masks.{sets_at, union_all}
use Rattle.cf_venn.specs.Pieces.{earlier, fresh}
use Rattle.cf_venn.proofs.CodeLaws.{each_passing, each_earlier, sets_some, source_gives, fresh_code_gives}
use Rattle.cf_venn.proofs.CountLemmas.{sum_same, sum_parts}
use Rattle.cf_venn.proofs.MaskLemmas.{rising_union_all}
use Rattle.cf_venn.proofs.PartLemmas.{below_product, high_below}
use Rattle.cf_venn.proofs.TotalLemmas.{earlier-more}
use Rattle.cf_choose.proofs.ColumnNames.{has-In}
use Rattle.cf_growth.specs.SetNumbers.{sum_of_counts, sum_of_sizes, RegionsMeetNone, FreshMeetsCounts, SetsMeetCounts, FreshAreLow}
use Rattle.cf_growth.proofs.MetCodes.{var_met}
use Rattle.cf_growth.proofs.ParameterLaws.{In-unpassed}
use Rattle.cf_growth.proofs.RegionGrowth.{same_set, vars_sets}
use Rattle.cf_growth.proofs.SetCodes.{IsSetMet, AllSets, each_set, inter_met, union_met, diffs_met, slice_met, union_long}

-- ---- counts and their sum
abbrev counted : (ℕ → ℕ) → ℕ → ℕ
counted r k = cond (k == 0) 0 (r k)

one_within : (g : ℕ → ℕ) (a n k : ℕ) → a ≤ k → k < a + n → g k ≤ sum_by g (range_with_len a n)
one_within g a zero k l h = absurd (omega arith)
one_within g a (suc n) k l h =
    let s = sum_by-cons g a (range_with_len (a + 1) n) in
    on_bool (k == a)
    (λ e. let same : g k ≡ g a = ap g (eqb-true k a e) in omega arith)
    (λ e. let d = eqb-false k a e in let i = one_within g (a + 1) n k (omega arith) (omega arith) in omega arith)

earlier_parts : (p : ℕ) (r : ℕ → ℕ) (m n : ℕ) → m < 2 ^ p → earlier p r m n ≤ sum_by (counted r) (range_with_len 0 (2 ^ p * n))
earlier_parts p r m zero l = let e : 2 ^ p * 0 ≡ 0 = omega arith in rw e (omega arith)
earlier_parts p r m (suc n) l =
    let s = sum_parts (counted r) 0 (2 ^ p * n) (2 ^ p) (2 ^ p * suc n) (2 ^ p * n) (omega arith) (omega arith) in
    let o = one_within (counted r) (2 ^ p * n) (2 ^ p) (m + 2 ^ p * n) (omega arith) (omega arith) in
    let i = earlier_parts p r m n l in
    let e = earlier-more p r m n in
    omega arith

none_before : (n : ℕ) → 0 + n ≡ n
none_before n = omega arith

all_counted : (n : ℕ) (r : ℕ → ℕ) → sum_by (counted r) (range_with_len 0 (2 ^ n)) ≡ sum_by r (masks n)
all_counted n r =
    let h = pow_pos n in
    let e : 2 ^ n ≡ suc (2 ^ n - 1) = omega arith in
    let c = sum_by-cons (counted r) 0 (range_with_len 1 (2 ^ n - 1)) in
    let s = sum_same (counted r) r 1 (2 ^ n - 1) (λ m a b. rw (ne_eqb m 0 (λ g. omega arith)) refl) in
    ap (λ k. sum_by (counted r) (range_with_len 0 k)) e ∙ c ∙ none_before (sum_by (counted r) (range_with_len 1 (2 ^ n - 1))) ∙ s

earlier_few : (p q : ℕ) (r : ℕ → ℕ) (m n : ℕ) → m < 2 ^ p → n ≤ 2 ^ q → earlier p r m n ≤ sum_by r (masks (p + q))
earlier_few p q r m n l h =
    let i = earlier_parts p r m n l in
    let w = mul-le-mul_left (2 ^ p) h in
    let e : 2 ^ (p + q) ≡ 2 ^ p * 2 ^ q = pow-add 2 p q in
    let s = sum_parts (counted r) 0 (2 ^ p * n) (2 ^ (p + q) - 2 ^ p * n) (2 ^ (p + q)) (2 ^ p * n) (omega arith) (omega arith) in
    let a = all_counted (p + q) r in
    omega arith

-- ---- sums of codes
-- the code gives n and meets nothing above it
abbrev IsCount : CodeTree → List Value → ℕ → Type 0
IsCount c e n = ((path c e).gives ≡ got (number (pos n) ∷ [])) × ((path c e).peak ≤ n)

none_after : (n : ℕ) → n ≡ n + 0
none_after n = omega arith

module _ (f : ℕ → CodeTree) (r : ℕ → ℕ) (e : List Value) where
  sum_from : (ks : List ℕ) (n : ℕ) → EachOf (λ k. IsCount (f k) e (r k)) ks →
      ((sum_path (codes_of (map f ks)) e (pos n)).gives ≡ got (number (pos (n + sum_by r ks)) ∷ []))
      × ((sum_path (codes_of (map f ks)) e (pos n)).peak ≤ n + sum_by r ks)
  sum_from [] n h = (ap (λ m. got (number (pos m) ∷ [])) (none_after n), omega arith)
  sum_from (k ∷ ks) n h =
      let g = h.0.0 in
      let p = h.0.1 in
      let again = sum_from ks (n + r k) h.1 in
      let q = again.1 in
      let c = sum_by-cons r k ks in
      let s : n + r k + sum_by r ks ≡ n + sum_by r (k ∷ ks) = omega arith in
      (rw g (again.0 ∙ ap (λ m. got (number (pos m) ∷ [])) s), rw g (omega arith))

  sum_count : (ks : List ℕ) → EachOf (λ k. IsCount (f k) e (r k)) ks → IsCount (sum_of (map f ks)) e (sum_by r ks)
  sum_count [] h = (refl, omega arith)
  sum_count (k ∷ []) h = let p = h.0.1 in (h.0.0 ∙ ap (λ m. got (number (pos m) ∷ [])) (sym (none_before (r k))), omega arith)
  sum_count (k ∷ j ∷ ks) h =
      let s = sum_from (k ∷ j ∷ ks) 0 h in
      let p = s.1 in
      (s.0 ∙ ap (λ m. got (number (pos m) ∷ [])) (none_before (sum_by r (k ∷ j ∷ ks))), omega arith)

module _ (l : Layout) (names : ColumnLevels) (r : ℕ → ℕ) (e : List Value) (held : HoldsCounts l names r e) where
  count_count : (k : ℕ) → 1 ≤ k → k < 2 ^ set_count l → IsCount (code_var (level_of names (region_column l k))) e (r k)
  count_count k a b = let h = held k a b in (rw h refl, rw h (omega arith))

  earlier_count : (m n : ℕ) → m < 2 ^ length l.inputs → n ≤ 2 ^ length l.out_sets →
      IsCount (sum_of (earlier_counts l names m n)) e (earlier (length l.inputs) r m n)
  earlier_count m n a b =
      let p = length l.inputs in
      let q = length l.out_sets in
      let code : ℕ → CodeTree = λ k. code_var (level_of names (region_column l k)) in
      sum_count code r e (filter (λ k. not (k == 0)) (map (λ o. m + 2 ^ p * o) (range_with_len 0 n)))
      (each_earlier (λ k. IsCount (code k) e (r k)) (λ o. m + 2 ^ p * o) 0 n
      (λ o i z.
      let below : m + 2 ^ p * o < 2 ^ p * 2 ^ q = below_product (2 ^ p) (2 ^ q) m o a (omega arith) in
      count_count (m + 2 ^ p * o) z (rw (pow-add 2 p q) below)))

-- ---- sets of any elements
abbrev Any : ℤ → Type 0
Any y = Unit {0}

in_sum : (f : ℕ → ℕ) (xs : List ℕ) (x : ℕ) → In x xs → f x ≤ sum_by f xs
in_sum f [] x i = absurd i
in_sum f (y ∷ xs) x (inl e) = let s = sum_by-cons f y xs in let same : f x ≡ f y = ap f e in omega arith
in_sum f (y ∷ xs) x (inr i) = let s = sum_by-cons f y xs in let h = in_sum f xs x i in omega arith

module _ (l : Layout) (e : List Value) (inputs : HoldsInputs l e) where
  abbrev size : ℕ → ℕ
  size x = length (elements_of (value_at e x))

  abbrev most : ℕ
  most = sum_by size l.inputs

  input_sets : (xs : List ℕ) → ((x : ℕ) → In x xs → In x l.inputs) → AllSets 0 most Any (vars xs) e
  input_sets xs f = vars_sets 0 most Any e xs (λ x i.
      let h = inputs x (has-In x l.inputs (f x i)) in
      let s : size x ≡ length h.0 = ap (λ v. length (elements_of v)) h.1 in
      let m = in_sum size l.inputs x (f x i) in
      (h.0, h.1, omega arith, λ y j. tt))

  region_none : (m : ℕ) → (path (region_code l m) e).peak ≡ 0
  region_none m =
      let ins = input_sets (sets_in l m) (λ x i. In-unpassed x (λ x. bit (place x l.inputs) m) l.inputs i) in
      let outs = input_sets (sets_out l m) (λ x i. In-unpassed x (λ x. not (bit (place x l.inputs) m)) l.inputs i) in
      let h = diffs_met 0 most Any most (vars (sets_out l m)) (inter_of_all (vars (sets_in l m))) e outs (inter_met 0 most Any (vars (sets_in l m)) e ins) in
      let p = h.peak in
      omega arith

  module _ (names : ColumnLevels) (r : ℕ → ℕ) (counts : HoldsCounts l names r e) where
    fresh_few : (path (fresh_code l names) e).peak ≤ max (sum_of_counts l r) (greatest (fresh (sets_at e l.inputs) (length l.out_sets) r))
    fresh_few =
        let n = earlier (length l.inputs) r 0 (2 ^ length l.out_sets) in
        let u = union_met 0 most Any (vars l.inputs) e (input_sets l.inputs (λ x i. i)) in
        let s = earlier_count l names r e counts 0 (2 ^ length l.out_sets) (pow_pos (length l.inputs)) (omega arith) in
        let few = earlier_few (length l.inputs) (length l.out_sets) r 0 (2 ^ length l.out_sets) (pow_pos (length l.inputs)) (omega arith) in
        let made : (path (fresh_code l names) e).gives ≡ got (elements (set_fresh u.set n) ∷ []) = rw (u.gives, s.0) refl in
        let outside = fresh (sets_at e l.inputs) (length l.out_sets) r in
        let same : set_fresh u.set n ≡ outside = same_set (set_fresh u.set n) outside (sym made ∙ fresh_code_gives l e inputs names r counts) in
        let g : greatest (set_fresh u.set n) ≡ greatest outside = ap greatest same in
        let a = u.peak in
        let b = s.1 in
        rw (u.gives, s.0) (omega arith)

pub regions_meet_none : RegionsMeetNone
regions_meet_none l e h m = region_none l e h m

pub fresh_meets_counts : FreshMeetsCounts
fresh_meets_counts l names r e h c = fresh_few l e h names r c

-- ---- output sets
module _ (l : Layout) (names : ColumnLevels) (regions : ℕ → ℕ) (fresh_level : ℕ) (ins : List (List ℤ)) (r : ℕ → ℕ) (e : List Value)
    (held : HoldsPieces l names regions fresh_level ins r e) where
  abbrev n : ℕ
  n = sum_of_counts l r

  piece_few : (k : ℕ) → 1 ≤ k → k < 2 ^ set_count l → IsSetMet n n Any (piece_code l names regions fresh_level k) e
  piece_few k a b =
      let p = 2 ^ length l.inputs in
      let m = k % p in
      let lower : m < p = mod-lt k (pow_pos (length l.inputs)) in
      let below : k < p * 2 ^ length l.out_sets = rw (← (pow-add 2 (length l.inputs) (length l.out_sets))) b in
      let higher = high_below k p (2 ^ length l.out_sets) (pow_pos (length l.inputs)) below in
      let from = earlier_count l names r e held.counts_are m (k / p) lower (omega arith) in
      let few = earlier_few (length l.inputs) (length l.out_sets) r m (k / p) lower (omega arith) in
      let one = one_within r 1 (2 ^ set_count l - 1) k a (omega arith) in
      let count = held.counts_are k a b in
      let there = source_gives l names regions fresh_level ins r e held m lower (sets_some p k (length l.out_sets) a below) in
      let q = from.1 in
      slice_met n n Any (cond (m == 0) fresh_level (regions m)) (sum_of (earlier_counts l names m (k / p))) (code_var (level_of names (region_column l k))) e
      (pos (earlier (length l.inputs) r m (k / p))) (pos (r k)) (rw there (omega arith, λ y i. tt))
      (record { gives = from.0; peak = omega arith; size = omega arith })
      (var_met n (level_of names (region_column l k)) e (pos (r k)) count (omega arith)) (omega arith)

  set_few : (j : ℕ) → (path (set_code l names regions fresh_level j) e).peak ≤ n
  set_few j =
      let ks = filter (bit (length l.inputs + j)) (masks (set_count l)) in
      let code = piece_code l names regions fresh_level in
      let each = each_passing (λ k. IsSetMet n n Any (code k) e) (bit (length l.inputs + j)) 1 (2 ^ set_count l - 1) (λ k a b. piece_few k a (omega arith)) in
      (union_met n n Any (map code ks) e (each_set n n Any code e ks each)).peak

pub sets_meet_counts : SetsMeetCounts
sets_meet_counts l names regions fresh_level ins r e h j = set_few l names regions fresh_level ins r e h j

-- ---- fresh numbers
union_all_long : (ss : List (List ℤ)) → length (union_all ss) ≤ sum_of_sizes ss
union_all_long [] = omega arith
union_all_long (s ∷ ss) =
    let h = union_all_long ss in
    let u = union_long s (union_all ss) in
    let c = sum_by-cons (λ s. length s) s ss in
    omega arith

low_number : (y : ℤ) (n : ℕ) → pos 0 ≤ℤ y → y <ℤ pos n → (k : ℕ) × (y ≡ pos k) × (k < n)
low_number (pos k) n a b = (k, refl, omega (arith, ints))
low_number (negsuc k) n a b = absurd (omega (arith, ints))

pub fresh_are_low : FreshAreLow
fresh_are_low ins q r y h =
    let n = earlier (length ins) r 0 (2 ^ q) in
    let w = fresh_within (union_all ins) n y h in
    let k = low_number y (n + length (union_all ins)) w.0 w.1 in
    let long = length-fresh (union_all ins) n (rising_union_all ins) in
    let u = union_all_long ins in
    let b = k.2 in
    (k.0, k.1, omega arith)
