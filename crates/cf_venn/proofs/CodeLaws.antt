-- The codes of output sets and of fresh numbers mean them.
use Rattle.std.proofs.Common.{◌≡◌, ℕ, zero, suc, ◌+◌, ◌-◌, ◌*◌, ◌/◌, ◌%◌, ◌^◌, ◌<◌, ◌≤◌, ◌==◌, ℤ, pos, Bool, true, cond, not, ◌||◌, Some, List, [], ◌∷◌}
use Rattle.std.proofs.Common.{length, map, filter, subst, refl, ap, sym, ◌∙◌, arith, sum_by}
use Rattle.std.specs.List.{range_with_len, fold}
use Rattle.std.proofs.lemmas.Bool.{cond_both, eqb-true, eqb-false, not-true}
use Rattle.std.proofs.lemmas.List.{length-map}
use Rattle.std.proofs.lemmas.List.Sums.{sum_by-cons}
use Rattle.std.proofs.lemmas.Nat.{pow_pos, pow-add}
use Rattle.std.proofs.Math.Nat.{mod-lt, mod-eq_of_lt}
use Rattle.cf_tree.specs.CodeTree.{CodeTree, code_var, code_slice, code_fresh, codes_of}
use Rattle.cf_tree.specs.Meaning.{got, path, meets_value, sum_path, join_path, outcome_of}
use Rattle.cf_tree.specs.Sets.{IsRising, has, set_union, set_slice, set_fresh}
use Rattle.cf_tree.specs.Values.{Value, number, truth, elements, elements_of, value_at}
use Rattle.cf_tree.proofs.SetLemmas.{on_bool, or_none, or_assoc, has-union}
use Rattle.cf_tree.proofs.RisingLemmas.{rising_ext, rising_union, rising_take, rising_drop}
use Rattle.cf_linear.specs.Arm.{ColumnLevels, level_of, sum_of, union_of_all, vars, earlier_counts, piece_code, set_code, fresh_code}
use Rattle.cf_linear.specs.Layout.{Layout, bit, masks, has_level, set_count, region_column}
use Rattle.cf_cases.specs.Holding.{EachOf}
use Rattle.cf_venn.specs.Codes.{HoldsCounts, HoldsInputs, HoldsPieces, SetCodesMean, FreshCodeMeans}
use Rattle.cf_venn.specs.Masks.{sets_at, AreRising, union_all}
use Rattle.cf_venn.specs.Pieces.{earlier, fresh, source, piece, output}
use Rattle.cf_venn.proofs.MaskLemmas.{rising_union_all, rising_each}
use Rattle.cf_venn.proofs.PartLemmas.{below_product, high_below}
use Rattle.cf_venn.proofs.PieceLemmas.{rising_source}

-- the code gives this value
abbrev pub CodeGives : CodeTree → List Value → Value → Type 0
CodeGives c e w = (path c e).gives ≡ got (w ∷ [])

-- ---- codes of one form
meets_gives : (w : Value) → (meets_value w).gives ≡ got (w ∷ [])
meets_gives (number z) = refl
meets_gives (truth b) = refl
meets_gives (elements zs) = refl

pub var_gives : (x : ℕ) (e : List Value) (w : Value) → value_at e x ≡ w → CodeGives (code_var x) e w
var_gives x e w h = rw h (meets_gives w)

slice_gives : (a b c : CodeTree) (e : List Value) (zs : List ℤ) (f n : ℕ) → CodeGives a e (elements zs) → CodeGives b e (number (pos f)) →
    CodeGives c e (number (pos n)) →
    CodeGives (code_slice a b c) e (elements (set_slice zs f n))
slice_gives a b c e zs f n g h k = rw (g, h, k) refl

fresh_gives : (a b : CodeTree) (e : List Value) (zs : List ℤ) (n : ℕ) → CodeGives a e (elements zs) → CodeGives b e (number (pos n)) →
    CodeGives (code_fresh a b) e (elements (set_fresh zs n))
fresh_gives a b e zs n g h = rw (g, h) refl

-- ---- sums of counts
none_before : (n : ℕ) → 0 + n ≡ n
none_before n = omega arith

none_after : (n : ℕ) → n ≡ n + 0
none_after n = omega arith

module _ (f : ℕ → CodeTree) (r : ℕ → ℕ) (e : List Value) where
  sum_from : (ks : List ℕ) → EachOf (λ k. CodeGives (f k) e (number (pos (r k)))) ks → (n : ℕ) →
      (sum_path (codes_of (map f ks)) e (pos n)).gives ≡ got (number (pos (n + sum_by r ks)) ∷ [])
  sum_from [] h n = ap (λ m. got (number (pos m) ∷ [])) (none_after n)
  sum_from (k ∷ ks) h n =
      let s : n + r k + sum_by r ks ≡ n + sum_by r (k ∷ ks) = let c = sum_by-cons r k ks in omega arith in
      rw (h.0) (sum_from ks h.1 (n + r k) ∙ ap (λ m. got (number (pos m) ∷ [])) s)

  sum_gives : (ks : List ℕ) → EachOf (λ k. CodeGives (f k) e (number (pos (r k)))) ks → CodeGives (sum_of (map f ks)) e (number (pos (sum_by r ks)))
  sum_gives [] h = refl
  sum_gives (k ∷ []) h = h.0 ∙ ap (λ m. got (number (pos m) ∷ [])) (sym (none_before (r k)))
  sum_gives (k ∷ j ∷ ks) h = sum_from (k ∷ j ∷ ks) h 0 ∙ ap (λ m. got (number (pos m) ∷ [])) (none_before (sum_by r (k ∷ j ∷ ks)))

-- ---- joins of sets
-- the first set joined with the others, one after the other
abbrev pub joins : (List ℤ → List ℤ → List ℤ) → List (List ℤ) → List ℤ
joins join [] = []
joins join (s ∷ ss) = fold join s ss

pub join_gives : (join : List ℤ → List ℤ → List ℤ) (f : ℕ → CodeTree) (g : ℕ → List ℤ) (e : List Value) (ks : List ℕ) →
    EachOf (λ k. CodeGives (f k) e (elements (g k))) ks →
    (zs : List ℤ) → (join_path join (codes_of (map f ks)) e (Some zs)).gives ≡ got (elements (fold join zs (map g ks)) ∷ [])
join_gives join f g e [] h zs = refl
join_gives join f g e (k ∷ ks) h zs = rw (h.0) (join_gives join f g e ks h.1 (join zs (g k)))

union_gives : (f : ℕ → CodeTree) (g : ℕ → List ℤ) (e : List Value) (ks : List ℕ) → EachOf (λ k. CodeGives (f k) e (elements (g k))) ks →
    CodeGives (union_of_all (map f ks)) e (elements (joins set_union (map g ks)))
union_gives f g e [] h = refl
union_gives f g e (k ∷ []) h = h.0
union_gives f g e (k ∷ j ∷ ks) h = rw (h.0) (join_gives set_union f g e (j ∷ ks) h.1 (g k))

has_joined : (s : List ℤ) (ss : List (List ℤ)) (y : ℤ) → has (fold set_union s ss) y ≡ (has s y || has (union_all ss) y)
has_joined s [] y = sym (or_none (has s y))
has_joined s (t ∷ ss) y =
    has_joined (set_union s t) ss y ∙ rw (has-union s t y, has-union t (union_all ss) y) (or_assoc (has s y) (has t y) (has (union_all ss) y))

rising_joined : (s : List ℤ) (ss : List (List ℤ)) → IsRising s → AreRising ss → IsRising (fold set_union s ss)
rising_joined s [] h k = h
rising_joined s (t ∷ ss) h k = rising_joined (set_union s t) ss (rising_union s t k.0) k.1

-- rising sets joined in either direction are one union
unions_are : (ss : List (List ℤ)) → AreRising ss → joins set_union ss ≡ union_all ss
unions_are [] r = refl
unions_are (s ∷ ss) r =
    rising_ext (fold set_union s ss) (union_all (s ∷ ss)) (rising_joined s ss r.0 r.1) (rising_union_all (s ∷ ss))
    (λ y. has_joined s ss y ∙ sym (has-union s (union_all ss) y))

-- ---- masks in a list
pub each_passing : (P : ℕ → Type 0) (t : ℕ → Bool) (a n : ℕ) → ((k : ℕ) → a ≤ k → k < a + n → P k) → EachOf P (filter t (range_with_len a n))
each_passing P t a zero h = tt
each_passing P t a (suc n) h =
    let rest = filter t (range_with_len (a + 1) n) in
    let later : EachOf P rest = each_passing P t (a + 1) n (λ k l m. h k (omega arith) (omega arith)) in
    cond_both (t a) (a ∷ rest) rest (λ ks. EachOf P ks) (λ _. (h a (omega arith) (omega arith), later)) (λ _. later)

pub each_earlier : (P : ℕ → Type 0) (f : ℕ → ℕ) (a n : ℕ) → ((o : ℕ) → o < a + n → 1 ≤ f o → P (f o)) →
    EachOf P (filter (λ k. not (k == 0)) (map f (range_with_len a n)))
each_earlier P f a zero h = tt
each_earlier P f a (suc n) h =
    let rest = filter (λ k. not (k == 0)) (map f (range_with_len (a + 1) n)) in
    let later : EachOf P rest = each_earlier P f (a + 1) n (λ o l m. h o (omega arith) m) in
    cond_both (not (f a == 0)) (f a ∷ rest) rest (λ ks. EachOf P ks)
    (λ e. let d = eqb-false (f a) 0 (not-true (f a == 0) e) in (h a (omega arith) (omega arith), later)) (λ _. later)

module _ (l : Layout) (names : ColumnLevels) (r : ℕ → ℕ) (e : List Value) (held : HoldsCounts l names r e) where
  count_gives : (k : ℕ) → 1 ≤ k → k < 2 ^ set_count l → CodeGives (code_var (level_of names (region_column l k))) e (number (pos (r k)))
  count_gives k a b = var_gives (level_of names (region_column l k)) e (number (pos (r k))) (held k a b)

  earlier_gives : (m n : ℕ) → m < 2 ^ length l.inputs → n ≤ 2 ^ length l.out_sets →
      CodeGives (sum_of (earlier_counts l names m n)) e (number (pos (earlier (length l.inputs) r m n)))
  earlier_gives m n a b =
      sum_gives (λ k. code_var (level_of names (region_column l k))) r e
      (filter (λ k. not (k == 0)) (map (λ o. m + 2 ^ length l.inputs * o) (range_with_len 0 n)))
      (each_earlier (λ k. CodeGives (code_var (level_of names (region_column l k))) e (number (pos (r k)))) (λ o. m + 2 ^ length l.inputs * o) 0 n
      (λ o i z.
      let below : m + 2 ^ length l.inputs * o < 2 ^ length l.inputs * 2 ^ length l.out_sets =
      below_product (2 ^ length l.inputs) (2 ^ length l.out_sets) m o a (omega arith) in
      count_gives (m + 2 ^ length l.inputs * o) z (rw (pow-add 2 (length l.inputs) (length l.out_sets)) below)))

-- a mask from 1 on whose input part is 0 has an output part
pub sets_some : (p k n : ℕ) → 1 ≤ k → k < p * 2 ^ n → k % p ≡ 0 → 1 ≤ n
sets_some p k zero a b e =
    let h : k < p * 1 = b in
    let m : k % p ≡ k = mod-eq_of_lt (omega (arith, h)) in absurd (omega arith)
sets_some p k (suc n) a b e = omega arith

-- ---- output sets
module _ (l : Layout) (names : ColumnLevels) (regions : ℕ → ℕ) (fresh_level : ℕ) (ins : List (List ℤ)) (r : ℕ → ℕ) (e : List Value)
    (held : HoldsPieces l names regions fresh_level ins r e) where
  piece_is : (k : ℕ) →
      piece ins (length l.out_sets) r k ≡ set_slice (source ins (length l.out_sets) r (k % 2 ^ length l.inputs))
      (earlier (length l.inputs) r (k % 2 ^ length l.inputs) (k / 2 ^ length l.inputs)) (r k)
  piece_is k = ap (λ p. set_slice (source ins (length l.out_sets) r (k % 2 ^ p)) (earlier p r (k % 2 ^ p) (k / 2 ^ p)) (r k)) held.inputs_are

  pub source_gives : (m : ℕ) → m < 2 ^ length l.inputs → (m ≡ 0 → 1 ≤ length l.out_sets) →
      value_at e (cond (m == 0) fresh_level (regions m)) ≡ elements (source ins (length l.out_sets) r m)
  source_gives m a some = on_bool (m == 0)
      (λ b. rw b (held.fresh_is (some (eqb-true m 0 b))))
      (λ b. let d = eqb-false m 0 b in rw b (held.regions_are m (omega arith) a))

  piece_gives : (k : ℕ) → 1 ≤ k → k < 2 ^ set_count l → CodeGives (piece_code l names regions fresh_level k) e (elements (piece ins (length l.out_sets) r k))
  piece_gives k a b =
      let p = 2 ^ length l.inputs in
      let m = k % p in
      let lower : m < p = mod-lt k (pow_pos (length l.inputs)) in
      let below : k < p * 2 ^ length l.out_sets = rw (← (pow-add 2 (length l.inputs) (length l.out_sets))) b in
      let higher = high_below k p (2 ^ length l.out_sets) (pow_pos (length l.inputs)) below in
      slice_gives (code_var (cond (m == 0) fresh_level (regions m))) (sum_of (earlier_counts l names m (k / p)))
      (code_var (level_of names (region_column l k))) e
      (source ins (length l.out_sets) r m) (earlier (length l.inputs) r m (k / p)) (r k)
      (var_gives (cond (m == 0) fresh_level (regions m)) e (elements (source ins (length l.out_sets) r m))
      (source_gives m lower (sets_some p k (length l.out_sets) a below)))
      (earlier_gives l names r e held.counts_are m (k / p) lower (omega arith))
      (count_gives l names r e held.counts_are k a b)
      ∙ ap (λ s. got (elements s ∷ [])) (sym (piece_is k))

  rising_piece : (k : ℕ) → IsRising (piece ins (length l.out_sets) r k)
  rising_piece k =
      let m = k % 2 ^ length ins in
      rising_take (r k) _ (rising_drop (earlier (length ins) r m (k / 2 ^ length ins)) (source ins (length l.out_sets) r m)
      (rising_source ins (length l.out_sets) r m))

  pub set_gives : (j : ℕ) → CodeGives (set_code l names regions fresh_level j) e (elements (output ins (length l.out_sets) r j))
  set_gives j =
      let g : ℕ → List ℤ = piece ins (length l.out_sets) r in
      let ks = filter (bit (length l.inputs + j)) (masks (set_count l)) in
      union_gives (piece_code l names regions fresh_level) g e ks
      (each_passing (λ k. CodeGives (piece_code l names regions fresh_level k) e (elements (g k))) (bit (length l.inputs + j)) 1 (2 ^ set_count l - 1)
      (λ k a b. piece_gives k a (omega arith)))
      ∙ ap (λ s. got (elements s ∷ []))
      (unions_are (map g ks) (rising_each g rising_piece ks) ∙ ap (λ p. union_all (map g (filter (bit (p + j)) (masks (p + length l.out_sets)))))
      (sym held.inputs_are))

pub set_codes_mean : SetCodesMean
set_codes_mean l names regions fresh_level ins r e held j = ap outcome_of (set_gives l names regions fresh_level ins r e held j)

-- ---- fresh numbers
pub each_level : (P : ℕ → Type 0) (xs : List ℕ) → ((x : ℕ) → has_level xs x ≡ true → P x) → EachOf P xs
each_level P [] h = tt
each_level P (y ∷ ys) h = (
  h y (on_bool (y == y) (λ e. rw e refl) (λ e. absurd (eqb-false y y e refl))),
  each_level P ys (λ x i. h x (on_bool (y == x) (λ e. rw e refl) (λ e. rw (e, i) refl))),
)

module _ (l : Layout) (e : List Value) (inputs : HoldsInputs l e) where
  pub input_gives : (x : ℕ) → has_level l.inputs x ≡ true → CodeGives (code_var x) e (elements (elements_of (value_at e x)))
  input_gives x h = let k = inputs x h in var_gives x e (elements (elements_of (value_at e x))) (k.1 ∙ ap (λ w. elements (elements_of w)) (sym k.1))

  pub input_rises : (x : ℕ) → has_level l.inputs x ≡ true → IsRising (elements_of (value_at e x))
  input_rises x h = let k = inputs x h in subst (λ w. IsRising (elements_of w)) (sym k.1) k.2

  pub each_rises : (xs : List ℕ) → ((x : ℕ) → has_level xs x ≡ true → IsRising (elements_of (value_at e x))) → AreRising (sets_at e xs)
  each_rises [] h = tt
  each_rises (y ∷ ys) h = (
    h y (on_bool (y == y) (λ i. rw i refl) (λ i. absurd (eqb-false y y i refl))),
    each_rises ys (λ x i. h x (on_bool (y == x) (λ j. rw j refl) (λ j. rw (j, i) refl))),
  )

  pub rising_inputs : AreRising (sets_at e l.inputs)
  rising_inputs = each_rises l.inputs input_rises

  module _ (names : ColumnLevels) (r : ℕ → ℕ) (counts : HoldsCounts l names r e) where
    pub fresh_code_gives : CodeGives (fresh_code l names) e (elements (fresh (sets_at e l.inputs) (length l.out_sets) r))
    fresh_code_gives =
        let n = earlier (length l.inputs) r 0 (2 ^ length l.out_sets) in
        let few : length l.inputs ≡ length (sets_at e l.inputs) = sym (length-map l.inputs (λ x. elements_of (value_at e x))) in
        fresh_gives (union_of_all (vars l.inputs)) (sum_of (earlier_counts l names 0 (2 ^ length l.out_sets))) e (joins set_union (sets_at e l.inputs)) n
        (union_gives (λ x. code_var x) (λ x. elements_of (value_at e x)) e l.inputs
        (each_level (λ x. CodeGives (code_var x) e (elements (elements_of (value_at e x)))) l.inputs input_gives))
        (earlier_gives l names r e counts 0 (2 ^ length l.out_sets) (pow_pos (length l.inputs)) (omega arith))
        ∙ ap (λ s. got (elements (set_fresh s n) ∷ [])) (unions_are (sets_at e l.inputs) rising_inputs)
        ∙ ap (λ p. got (elements (set_fresh (union_all (sets_at e l.inputs)) (earlier p r 0 (2 ^ length l.out_sets))) ∷ [])) few

pub fresh_code_means : FreshCodeMeans
fresh_code_means l names r e inputs counts = ap outcome_of (fresh_code_gives l e inputs names r counts)
