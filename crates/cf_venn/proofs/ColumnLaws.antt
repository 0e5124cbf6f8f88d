-- Where the values stand among the columns of a layout.
use Rattle.std.proofs.Common.{◌≡◌, ℕ, suc, ◌+◌, ◌-◌, ◌^◌, ◌<◌, ◌≤◌, ◌==◌, ℤ, pos, true, ◌||◌, List, [], ◌∷◌, ◌++◌, length, get_or, refl, sym, ◌∙◌, arith}
use Rattle.std.specs.Prelude.{IsTrue}
use Rattle.std.proofs.lemmas.List.{length-append, length-map, get_or-append-add}
use Rattle.std.proofs.lemmas.List.FromFn.{length-map-range_with_len, get_or-map-range_with_len}
use Rattle.std.proofs.lemmas.Nat.{pow_pos}
use Rattle.std.proofs.Math.ListN.{get_or-append}
use Rattle.cf_tree.specs.Values.{Value, number_of, value_at}
use Rattle.cf_tree.proofs.SetLemmas.{on_bool}
use Rattle.cf_linear.specs.Keep.{Same}
use Rattle.cf_linear.specs.Layout.{Layout, place, has_level, set_count, known_count, first_free, number_column, input_column, region_column}
use Rattle.cf_linear.specs.Rows.{Values}
use Rattle.cf_venn.specs.Columns.{numbers_at, counts_at, known, known_values, column_values}
use Rattle.cf_venn.specs.Masks.{sets_at, count}
use Rattle.cf_venn.proofs.AgreeLaws.{sets_of, place_later, at_place}

pub place_within : (x : ℕ) (xs : List ℕ) → has_level xs x ≡ true → place x xs < length xs
place_within x [] h = absurd (cc)
place_within x (y ∷ ys) h = on_bool (y == x)
    (λ e. rw e (omega arith))
    (λ e. let i = place_within x ys (rw e at h) in rw (place_later x y ys e) (omega arith))

-- an entry after the first n
get_at : (xs ys : List ℤ) (n i c : ℕ) → length xs ≡ n → c ≡ n + i → get_or (xs ++ ys) c (pos 0) ≡ get_or ys i (pos 0)
get_at xs ys n i c e f = let g : c ≡ length xs + i = omega arith in rw g (get_or-append-add xs ys i (pos 0))

length-numbers_at : (env : List Value) (xs : List ℕ) → length (numbers_at env xs) ≡ length xs
length-numbers_at env xs = length-map xs (λ x. number_of (value_at env x))

length-counts_at : (env : List Value) (xs : List ℕ) → length (counts_at env xs) ≡ 2 ^ length xs - 1
length-counts_at env xs = length-map-range_with_len (λ m. pos (count (sets_at env xs) m)) 1 (2 ^ length xs - 1)

number_entry : (env : List Value) (xs : List ℕ) (x : ℕ) → has_level xs x ≡ true → get_or (numbers_at env xs) (place x xs) (pos 0) ≡ number_of (value_at env x)
number_entry env xs x h = at_place (λ x. number_of (value_at env x)) (pos 0) xs x h

count_entry : (env : List Value) (xs : List ℕ) (m : ℕ) → 1 ≤ m → m < 2 ^ length xs → get_or (counts_at env xs) (m - 1) (pos 0) ≡ pos (count (sets_at env xs) m)
count_entry env xs m a b = get_or-map-range_with_len (λ m. pos (count (sets_at env xs) m)) 1 (2 ^ length xs - 1) (m - 1) m (pos 0) (omega arith) (omega arith)

module _ (l : Layout) (env : List Value) where
  length-known : length (known l env) ≡ known_count l
  length-known =
      let a = length-append (numbers_at env l.numbers) (counts_at env l.inputs) in
      let b = length-numbers_at env l.numbers in
      let c = length-counts_at env l.inputs in
      let d = pow_pos (length l.inputs) in
      omega arith

  pub known_early : (c : ℕ) → c < known_count l → column_values l env c ≡ known_values l env c
  known_early c h = let k = length-known in get_or-append (known l env) (numbers_at env l.out_numbers ++ counts_at env (l.inputs ++ l.out_sets)) (pos 0) c
      (omega arith)

  pub number_known : (x : ℕ) → has_level l.numbers x ≡ true → (1 + place x l.numbers < known_count l) ×
      (known_values l env (1 + place x l.numbers) ≡ number_of (value_at env x))
  number_known x h =
      let w = place_within x l.numbers h in
      let k = length-numbers_at env l.numbers in
      let d = pow_pos (length l.inputs) in
      let s : 1 + place x l.numbers ≡ suc (place x l.numbers) = omega arith in (
        omega arith,
        rw s (get_or-append (numbers_at env l.numbers) (counts_at env l.inputs) (pos 0) (place x l.numbers) (omega arith) ∙ number_entry env l.numbers x h),
      )

  pub input_known : (m : ℕ) → 1 ≤ m → m < 2 ^ length l.inputs → (input_column l m < known_count l) ×
      (known_values l env (input_column l m) ≡ pos (count (sets_at env l.inputs) m))
  input_known m a b =
      let s : length l.numbers + m ≡ suc (length l.numbers + (m - 1)) = omega arith in (
        omega arith,
        rw s (get_at (numbers_at env l.numbers) (counts_at env l.inputs) (length l.numbers) (m - 1) (length l.numbers + (m - 1))
            (length-numbers_at env l.numbers) refl ∙ count_entry env l.inputs m a b),
      )

  known_few : known_count l ≤ first_free l
  known_few = let d = pow_pos (set_count l) in omega arith

  out_known : (x : ℕ) → has_level l.out_numbers x ≡ true →
      (known_count l + place x l.out_numbers < first_free l) × (column_values l env (known_count l + place x l.out_numbers) ≡ number_of (value_at env x))
  out_known x h =
      let w = place_within x l.out_numbers h in
      let k = length-numbers_at env l.out_numbers in
      let d = pow_pos (set_count l) in (
        omega arith,
        get_at (known l env) (numbers_at env l.out_numbers ++ counts_at env (l.inputs ++ l.out_sets)) (known_count l) (place x l.out_numbers)
            (known_count l + place x l.out_numbers) length-known refl
            ∙ get_or-append (numbers_at env l.out_numbers) (counts_at env (l.inputs ++ l.out_sets)) (pos 0) (place x l.out_numbers) (omega arith)
            ∙ number_entry env l.out_numbers x h,
      )

  region_known : (m : ℕ) → 1 ≤ m → m < 2 ^ set_count l → (region_column l m < first_free l) ×
      (column_values l env (region_column l m) ≡ pos (count (sets_of l env) m))
  region_known m a b =
      let n : length (l.inputs ++ l.out_sets) ≡ set_count l = length-append l.inputs l.out_sets in
      let few : m < 2 ^ length (l.inputs ++ l.out_sets) = rw n b in (
        omega arith,
        get_at (known l env) (numbers_at env l.out_numbers ++ counts_at env (l.inputs ++ l.out_sets)) (known_count l) (length l.out_numbers + (m - 1))
            (region_column l m) length-known (omega arith)
            ∙ get_at (numbers_at env l.out_numbers) (counts_at env (l.inputs ++ l.out_sets)) (length l.out_numbers) (m - 1) (length l.out_numbers + (m - 1))
            (length-numbers_at env l.out_numbers) refl
            ∙ count_entry env (l.inputs ++ l.out_sets) m a few,
      )

  -- at values that are those of the environment in the columns of the layout
  module _ (v : Values) (same : Same (first_free l) (column_values l env) v) where
    pub known_same : Same (known_count l) (known_values l env) v
    known_same c h = let k = known_few in sym (known_early c h) ∙ same c (omega arith)

    pub input_same : (m : ℕ) → 1 ≤ m → m < 2 ^ length l.inputs → v (input_column l m) ≡ pos (count (sets_at env l.inputs) m)
    input_same m a b = let k = input_known m a b in sym (known_same (input_column l m) k.0) ∙ k.1

    pub region_same : (m : ℕ) → 1 ≤ m → m < 2 ^ set_count l → v (region_column l m) ≡ pos (count (sets_of l env) m)
    region_same m a b = let k = region_known m a b in sym (same (region_column l m) k.0) ∙ k.1

    pub number_same : (x : ℕ) → IsTrue (has_level l.numbers x || has_level l.out_numbers x) → number_of (value_at env x) ≡ v (number_column l x)
    number_same x t = on_bool (has_level l.numbers x)
        (λ e. let k = number_known x e in rw e (sym k.1 ∙ known_same (1 + place x l.numbers) k.0))
        (λ e. let h : has_level l.out_numbers x ≡ true = rw e at t in let k = out_known x h in
        rw e (sym k.1 ∙ same (known_count l + place x l.out_numbers) k.0))
