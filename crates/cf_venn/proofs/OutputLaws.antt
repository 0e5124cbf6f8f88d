-- Outputs that are made from counts agree with these counts.
use Rattle.std.proofs.Common.{◌≡◌, ℕ, ◌+◌, ◌-◌, ◌%◌, ◌^◌, ◌<◌, ◌≤◌, ◌==◌, ℤ, pos, negsuc, ◌+ℤ◌, ◌*ℤ◌, true, ◌||◌, List, [], ◌∷◌, ◌++◌, length, get_or, map}
use Rattle.std.proofs.Common.{subst, refl, ap, sym, ◌∙◌, arith}
use Rattle.std.specs.List.{range_with_len}
use Rattle.std.specs.Prelude.{IsTrue, ◌≤ℤ◌}
use Rattle.std.proofs.lemmas.Int.{ints}
use Rattle.std.proofs.lemmas.List.{length-map, map-append}
use Rattle.std.proofs.lemmas.List.FromFn.{get_or-map-range_with_len}
use Rattle.std.proofs.Math.ListN.{get_or-append}
use Rattle.std.proofs.Math.Seq.{get_or-append_right}
use Rattle.cf_tree.specs.declared.base.Base.{Base}
use Rattle.cf_tree.specs.Numbers.{count_of}
use Rattle.cf_tree.specs.Values.{Value, number, number_of, elements_of, value_at, HaveBases}
use Rattle.cf_tree.proofs.SetLemmas.{on_bool}
use Rattle.cf_linear.specs.Keep.{Same}
use Rattle.cf_linear.specs.Layout.{Layout, layout_of, masks, place, has_level, set_count, known_count, number_column, input_column, region_column, region_row}
use Rattle.cf_linear.specs.Cases.{input_row}
use Rattle.cf_linear.specs.Rows.{Values, value, put}
use Rattle.cf_linear.proofs.RowLemmas.{value-put}
use Rattle.cf_cases.specs.Holding.{AreCounts}
use Rattle.cf_cases.proofs.AgreeLaws.{FormsAgree}
use Rattle.cf_venn.specs.Columns.{Agrees, numbers_at, counts_at, known as known_columns, known_values, region_count, output_at, outputs_from}
use Rattle.cf_venn.specs.Laws.{SetsHaveCounts, CountsHaveSets}
use Rattle.cf_venn.specs.Masks.{sets_at, count}
use Rattle.cf_venn.specs.Pieces.{Consistent, earlier, output, outputs}
use Rattle.cf_venn.proofs.CountLemmas.{total}
use Rattle.cf_venn.proofs.TotalLemmas.{earlier_all}
use Rattle.cf_venn.proofs.PieceLemmas.{count_output, rising_output}
use Rattle.cf_venn.proofs.RowTotals.{each_at, region_total}
use Rattle.cf_venn.proofs.AgreeLaws.{sets_of, forms_agree, counts_by_counts}
use Rattle.cf_venn.proofs.ColumnLaws.{number_known, input_known, known_same, input_same, region_same, number_same}
use Rattle.cf_venn.proofs.LevelLaws.{length_have, have_append, rising_at, same_each, by_places, IsLayout, is_layout, have_outputs, outputs_count}

-- ---- counts in columns
count_is : (x : ℤ) → pos 0 ≤ℤ (pos 1 *ℤ x +ℤ pos 0) → x ≡ pos (count_of x)
count_is (pos n) h = refl
count_is (negsuc n) h = absurd (omega (arith, ints))

sum_is : (x y : ℤ) (c n : ℕ) → x ≡ pos c → y ≡ pos n → negsuc 0 *ℤ x +ℤ y ≡ pos 0 → n ≡ c
sum_is x y c n e f g = omega (arith, ints)

module _ (l : Layout) (env : List Value) (v : Values) (counts : AreCounts l v) where
  pub held : (m : ℕ) → 1 ≤ m → m < 2 ^ set_count l → v (region_column l m) ≡ pos (region_count l v m)
  held m a b = count_is (v (region_column l m)) (each_at (λ k. pos 0 ≤ℤ value v k) (λ m. put (region_column l m) (pos 1) []) 1 (2 ^ set_count l - 1)
      counts.nonneg m a (omega arith))

  module _ (known : Same (known_count l) (known_values l env) v) where
    input_sum : (m : ℕ) → 1 ≤ m → m < 2 ^ length l.inputs → total (set_count l) (λ k. k % 2 ^ length l.inputs == m) (region_count l v) ≡ count
        (sets_at env l.inputs) m
    input_sum m a b =
        let k = input_known l env m a b in
        let row = region_row l (λ k. k % 2 ^ length l.inputs == m) in
        sum_is (v (input_column l m)) (value v row) (count (sets_at env l.inputs) m) _ (sym (known (input_column l m) k.0) ∙ k.1)
        (region_total l v (region_count l v) held (λ k. k % 2 ^ length l.inputs == m))
        (sym (value-put v (input_column l m) (negsuc 0) row) ∙ each_at (λ k. value v k ≡ pos 0) (input_row l) 1 (2 ^ length l.inputs - 1) counts.sums m a
        (omega arith))

    pub consistent : Consistent (sets_at env l.inputs) (length l.out_sets) (region_count l v)
    consistent =
        let few : length l.inputs ≡ length (sets_at env l.inputs) = sym (length-map l.inputs (λ x. elements_of (value_at env x))) in
        subst (λ p. (m : ℕ) → 0 < m → m < 2 ^ p → earlier p (region_count l v) m (2 ^ length l.out_sets) ≡ count (sets_at env l.inputs) m) few
        (λ m z b. earlier_all (length l.inputs) (region_count l v) m z b (length l.out_sets) ∙ input_sum m z b)

    -- the regions of the input sets with the outputs made of the counts have these counts
    pub made_counts : (m : ℕ) → 1 ≤ m → m < 2 ^ set_count l → count (sets_at env l.inputs ++
        outputs (sets_at env l.inputs) (length l.out_sets) (region_count l v)) m ≡ region_count l v m
    made_counts m a b =
        let few : length (sets_at env l.inputs) ≡ length l.inputs = length-map l.inputs (λ x. elements_of (value_at env x)) in
        count_output (sets_at env l.inputs) (length l.out_sets) (region_count l v) consistent m a (rw few b)

-- ---- the environment with the outputs
module _ (scope outputs_bases : List Base) (l : Layout) (layout : IsLayout scope outputs_bases l)
    (few : length l.out_numbers + length l.out_sets ≡ length outputs_bases)
    (env : List Value) (long : length env ≡ length scope) (v : Values) where
  made : List Value
  made = env ++ outputs_from l env v

  made_early : (x : ℕ) → x < length scope → value_at made x ≡ value_at env x
  unfolding made
  made_early x h = get_or-append env (outputs_from l env v) (number (pos 0)) x (omega arith)

  made_late : (x : ℕ) → length scope ≤ x → x < length scope + length outputs_bases → value_at made x ≡ output_at l env v x
  unfolding made
  made_late x a b =
      let s = layout.scope_is in
      get_or-append_right env (outputs_from l env v) x (number (pos 0)) (omega arith)
      ∙ get_or-map-range_with_len (output_at l env v) l.scope (length l.out_numbers + length l.out_sets) (x - length env) x (number (pos 0)) (omega arith)
      (omega arith)

  made_number : (x : ℕ) → has_level l.out_numbers x ≡ true → value_at made x ≡ number (v (number_column l x))
  made_number x h = let k = layout.out_numbers x h in made_late x k.0 k.1 ∙ rw h refl

  made_set : (x : ℕ) → has_level l.out_sets x ≡ true → elements_of (value_at made x) ≡ output (sets_at env l.inputs) (length l.out_sets) (region_count l v)
      (place x l.out_sets)
  made_set x h = let k = layout.out_sets x h in let n = k.2 in ap elements_of (made_late x k.0 k.1) ∙ rw n refl

  made_sets : sets_of l made ≡ sets_at env l.inputs ++ outputs (sets_at env l.inputs) (length l.out_sets) (region_count l v)
  made_sets =
      let f : ℕ → List ℤ = λ x. elements_of (value_at made x) in
      let o : ℕ → List ℤ = output (sets_at env l.inputs) (length l.out_sets) (region_count l v) in
      let early : map f l.inputs ≡ sets_at env l.inputs = same_each f (λ x. elements_of (value_at env x)) l.inputs
      (λ x h. ap elements_of (made_early x (layout.inputs x h))) in
      let late : map f l.out_sets ≡ map o (range_with_len 0 (length l.out_sets)) = same_each f (λ x. o (place x l.out_sets)) l.out_sets made_set ∙
      by_places o (length scope) l.out_sets layout.up in
      map-append f l.inputs l.out_sets ∙ ap (λ ss. ss ++ map f l.out_sets) early ∙ ap (λ ss. sets_at env l.inputs ++ ss) late

  module _ (known : Same (known_count l) (known_values l env) v) where
    numbers_made : (x : ℕ) → IsTrue (has_level l.numbers x || has_level l.out_numbers x) → number_of (value_at made x) ≡ v (number_column l x)
    numbers_made x t = on_bool (has_level l.numbers x)
        (λ e. let k = number_known l env x e in ap number_of (made_early x (layout.numbers x e)) ∙ rw e (sym k.1 ∙ known (1 + place x l.numbers) k.0))
        (λ e. let h : has_level l.out_numbers x ≡ true = rw e at t in ap number_of (made_number x h))

    module _ (counts : AreCounts l v) where
      made_held : (m : ℕ) → 1 ≤ m → m < 2 ^ set_count l → v (region_column l m) ≡ pos (count (sets_of l made) m)
      made_held m a b = held l env v counts m a b ∙ ap (λ k. pos k) (sym (made_counts l env v counts known m a b) ∙ ap (λ ss. count ss m) (sym made_sets))

      pub made_agrees : Agrees l (env ++ outputs_from l env v) v
      unfolding made
      made_agrees = record { numbers = numbers_made; counts = made_held }

-- values that agree with parameters and outputs agree with all forms over their sets
pub forms_at : (scope outs : List Base) (env xs : List Value) → HaveBases scope env → HaveBases outs xs → (l : Layout) (v : Values) →
    Agrees l (env ++ xs) v → FormsAgree l (env ++ xs) v
forms_at scope outs env xs h k l v g = forms_agree l (env ++ xs) (rising_at (scope ++ outs) (env ++ xs) (have_append scope outs env xs h k)) v g

-- ---- the laws
pub sets_have_counts : SetsHaveCounts
sets_have_counts scope outs rel env xs h k v same =
    let l = layout_of scope outs rel in
    let e = env ++ xs in
    let layout = is_layout scope outs rel in
    let long = length_have scope env h in
    let at_first : (x : ℕ) → x < length scope → value_at e x ≡ value_at env x = λ x i. get_or-append env xs (number (pos 0)) x (omega arith) in
    let numbers : map (λ x. number_of (value_at env x)) l.numbers ≡ map (λ x. number_of (value_at e x)) l.numbers =
    same_each (λ x. number_of (value_at env x)) (λ x. number_of (value_at e x)) l.numbers (λ x i. ap number_of (sym (at_first x (layout.numbers x i)))) in
    let sets : sets_at env l.inputs ≡ sets_at e l.inputs =
    same_each (λ x. elements_of (value_at env x)) (λ x. elements_of (value_at e x)) l.inputs (λ x i. ap elements_of (sym (at_first x (layout.inputs x i)))) in
    let columns : known_columns l env ≡ known_columns l e =
    ap (λ ns. pos 1 ∷ (ns ++ counts_at env l.inputs)) numbers ∙ ap
    (λ ss. pos 1 ∷ (numbers_at e l.numbers ++ map (λ m. pos (count ss m)) (masks (length l.inputs)))) sets in (
      record { numbers = number_same l e v same; counts = region_same l e v same },
      counts_by_counts l e v (region_same l e v same) (input_same l e v same),
      λ c i. ap (λ cs. get_or cs c (pos 0)) columns ∙ known_same l e v same c i,
    )

pub counts_have_sets : CountsHaveSets
counts_have_sets scope outs rel env o h v known counts =
    let l = layout_of scope outs rel in
    let layout = is_layout scope outs rel in
    let have : HaveBases outs (outputs_from l env v) =
    have_outputs (output_at l env v) scope outs rel o
    (λ x i. rw i (v (number_column l x), refl))
    (λ x i. let n = (layout.out_sets x i).2 in
    rw n (
      output (sets_at env l.inputs) (length l.out_sets) (region_count l v) (place x l.out_sets),
      refl,
      rising_output (sets_at env l.inputs) (length l.out_sets) (region_count l v) (place x l.out_sets),
    )) in
    (have, made_agrees scope outs l layout (outputs_count scope outs rel o) env (length_have scope env h) v known counts)
