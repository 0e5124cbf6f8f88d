-- Where a relation holds, it holds over the counts of the regions of its sets.
use Rattle.std.proofs.Common.{inl, inr, ◌≡◌, ◌≢◌, ◌↔◌, ℕ, zero, suc, ◌+◌, ◌-◌, ◌^◌, ◌<◌, ◌≤◌, ℤ, pos, Bool, true, List, [], ◌∷◌, ◌++◌, length, get_or, map, filter, refl, sym, subst, ap, ◌∙◌, append-nil, arith}
use Rattle.std.specs.Prelude.{◌≤ℤ◌}
use Rattle.std.specs.List.{range_with_len}
use Rattle.std.proofs.lemmas.Int.{ints}
use Rattle.std.proofs.lemmas.List.{get_or-append-add}
use Rattle.std.proofs.lemmas.List.FromFn.{get_or-map-range_with_len}
use Rattle.std.proofs.lemmas.Option.{slice_get_within}
use Rattle.std.proofs.Math.ListN.{get_or-append}
use Rattle.cf_tree.specs.declared.base.Base.{Base}
use Rattle.cf_tree.specs.declared.base.Base.TheVariants.{Int}
use Rattle.cf_tree.specs.RelTree.{SetTree, diff_of, TermTree, term_lit, term_var, term_card, term_neg, term_add, term_sub, term_mul, term_div, term_mod, term_abs, RelTree, rel_true, rel_false, rel_compare, rel_same_set, rel_other_set, rel_subset, rel_divides, rel_and, rel_or, rel_not}
use Rattle.cf_tree.specs.Relation.{members, val, Holds, IsTyped, IsTypedTerm}
use Rattle.cf_tree.specs.Sets.{has, is_subset}
use Rattle.cf_tree.specs.Values.{Value, number, number_of, value_at, same_list, HaveBases}
use Rattle.cf_tree.proofs.SetLemmas.{on_bool, is_subset-iff, same_list-iff}
use Rattle.cf_linear.specs.Layout.{Layout, layout_of, set_count, masks, covers, region_column, region_row}
use Rattle.cf_linear.specs.Rows.{Values, value}
use Rattle.cf_linear.specs.Written.{IsPlaced, IsPlacedSet}
use Rattle.cf_cases.specs.Holding.{IsPlacedRel}
use Rattle.cf_cases.proofs.AgreeLaws.{FormsAgree}
use Rattle.cf_cases.proofs.PlacedLaws.{placed-rel}
use Rattle.cf_venn.specs.Columns.{column_values}
use Rattle.cf_venn.proofs.LevelLaws.{length_have}
use Rattle.cf_venn.proofs.OutputLaws.{sets_have_counts, forms_at}
use Rattle.cf_counts.specs.Counted.{count_level, sum_of, size_of, apart, is_some, counted_term, counted, are_counts, over_counts, CountsHold}

module _ (l : Layout) (env : List Value) (v : Values) where
  -- the values of the counts
  abbrev count_at : ℕ → Value
  count_at m = number (v (region_column l m))

  abbrev counts : List Value
  counts = map count_at (masks (set_count l))

  abbrev whole : List Value
  whole = env ++ counts

  -- ---- variables
  count_is : (m : ℕ) → 1 ≤ m → m < 2 ^ set_count l → value_at whole (count_level (length env) m) ≡ number (v (region_column l m))
  count_is m a b =
      let i : length env + m - 1 ≡ length env + (m - 1) = omega arith in
      let j : 1 + (m - 1) ≡ m = omega arith in
      ap (λ k. get_or whole k (number (pos 0))) i
      ∙ get_or-append-add env counts (m - 1) (number (pos 0))
      ∙ get_or-map-range_with_len count_at 1 (2 ^ set_count l - 1) (m - 1) m (number (pos 0)) (omega arith) (omega arith)

  early_is : (x : ℕ) → x < length env → value_at whole x ≡ value_at env x
  early_is x h = get_or-append env counts (number (pos 0)) x h

  -- ---- sums of counts
  sum_is : (p : ℕ → Bool) (a n : ℕ) → 1 ≤ a → a + n ≤ 2 ^ set_count l →
      val (sum_of (map (count_level (length env)) (filter p (range_with_len a n)))) whole ≡ value v
      (map (λ m. (region_column l m, pos 1)) (filter p (range_with_len a n)))
  sum_is p a zero s h = refl
  sum_is p a (suc n) s h =
      let rest = sum_is p (a + 1) n (omega arith) (omega arith) in
      let here = ap number_of (count_is a s (omega arith)) in
      on_bool (p a) (λ e. rw (e, here, rest) (omega (arith, ints))) (λ e. rw e rest)

  some_masks : 1 ≤ 2 ^ set_count l
  some_masks = pow_some (set_count l)
    where
      pow_some : (n : ℕ) → 1 ≤ 2 ^ n
      pow_some zero = omega arith
      pow_some (suc n) = let k = pow_some n in omega arith

  size_is : (s : SetTree) → val (size_of l (length env) s) whole ≡ value v (region_row l (covers l s))
  size_is s = let k = some_masks in sum_is (covers l s) 1 (2 ^ set_count l - 1) (omega arith) (omega arith)

  module _ (bases : List Base) (long : length env ≡ length bases) (g : FormsAgree l env v) where
    -- ---- numbers
    term_is : (t : TermTree) → IsPlaced l t → IsTypedTerm bases t → val (counted_term l (length env) t) whole ≡ val t env
    term_is (term_lit n) p y = refl
    term_is (term_var x) p y = let h = slice_get_within bases x Int y in ap number_of (early_is x (omega arith))
    term_is (term_card s) p y = size_is s ∙ sym (g.sizes s p)
    term_is (term_neg a) p y = rw (term_is a p y) refl
    term_is (term_add a b) p y = rw (term_is a p.0 y.0, term_is b p.1 y.1) refl
    term_is (term_sub a b) p y = rw (term_is a p.0 y.0, term_is b p.1 y.1) refl
    term_is (term_mul a b) p y = rw (term_is a p.0 y.0, term_is b p.1 y.1) refl
    term_is (term_div a k) p y = rw (term_is a p.0 y.0) refl
    term_is (term_mod a k) p y = rw (term_is a p.0 y.0) refl
    term_is (term_abs a) p y = rw (term_is a p y) refl

    -- ---- sets
    abbrev AreSome : SetTree → Type 0
    AreSome s = Holds (is_some l (length env) s) whole

    some_is : (s : SetTree) → (pos 1 ≤ℤ value v (region_row l (covers l s))) ↔ AreSome s
    some_is s = (λ h. rw (size_is s) h, λ h. rw (size_is s) at h)

    other_is : (a b : SetTree) → IsPlacedSet l a → IsPlacedSet l b → (members a env ≢ members b env) ↔ AreSome (apart a b)
    other_is a b p q = (λ h. (some_is (apart a b)).0 ((g.other a b p q).0 h), λ h. (g.other a b p q).1 ((some_is (apart a b)).1 h))

    same_is : (a b : SetTree) → IsPlacedSet l a → IsPlacedSet l b → (members a env ≡ members b env) ↔ (AreSome (apart a b) → ⊥)
    same_is a b p q = (
      λ e h. (other_is a b p q).1 h e,
      λ h. on_bool (same_list (members a env) (members b env)) (same_list-iff (members a env) (members b env)).0
          (λ t. absurd (h ((other_is a b p q).0 (λ e. let y = (same_list-iff (members a env) (members b env)).1 e in absurd (cc))))),
    )

    subset_is : (a b : SetTree) → IsPlacedSet l a → IsPlacedSet l b →
        ((x : ℤ) → has (members a env) x ≡ true → has (members b env) x ≡ true) ↔ (AreSome (diff_of a b) → ⊥)
    subset_is a b p q = (
      λ e h. (g.not_subset a b p q).1 ((some_is (diff_of a b)).1 h) e,
      λ h. on_bool (is_subset (members a env) (members b env)) (is_subset-iff (members a env) (members b env)).0
          (λ t. absurd (h ((some_is (diff_of a b)).0 ((g.not_subset a b p q).0 (λ e. let y = (is_subset-iff (members a env) (members b env)).1 e in
          absurd (cc)))))),
    )

    -- ---- relations
    mutual
      there : (r : RelTree) → IsPlacedRel l r → IsTyped bases r → Holds r env → Holds (counted l (length env) r) whole
      there rel_true p y h = h
      there rel_false p y h = h
      there (rel_compare o a b) p y h = rw (term_is a p.0.0 y.0, term_is b p.1.0 y.1) h
      there (rel_same_set a b) p y h = (same_is a b p.0 p.1).0 h
      there (rel_other_set a b) p y h = (other_is a b p.0 p.1).0 h
      there (rel_subset a b) p y h = (subset_is a b p.0 p.1).0 h
      there (rel_divides k t) p y h = (h.0, term_is t p.1 y.1 ∙ h.1)
      there (rel_and a b) p y h = (there a p.0 y.0 h.0, there b p.1 y.1 h.1)
      there (rel_or a b) p y (inl h) = inl (there a p.0 y.0 h)
      there (rel_or a b) p y (inr h) = inr (there b p.1 y.1 h)
      there (rel_not a) p y h = λ k. h (back a p y k)

      back : (r : RelTree) → IsPlacedRel l r → IsTyped bases r → Holds (counted l (length env) r) whole → Holds r env
      back rel_true p y h = h
      back rel_false p y h = h
      back (rel_compare o a b) p y h = rw (term_is a p.0.0 y.0, term_is b p.1.0 y.1) at h
      back (rel_same_set a b) p y h = (same_is a b p.0 p.1).1 h
      back (rel_other_set a b) p y h = (other_is a b p.0 p.1).1 h
      back (rel_subset a b) p y h = (subset_is a b p.0 p.1).1 h
      back (rel_divides k t) p y h = (h.0, sym (term_is t p.1 y.1) ∙ h.1)
      back (rel_and a b) p y h = (back a p.0 y.0 h.0, back b p.1 y.1 h.1)
      back (rel_or a b) p y (inl h) = inl (back a p.0 y.0 h)
      back (rel_or a b) p y (inr h) = inr (back b p.1 y.1 h)
      back (rel_not a) p y h = λ k. h (there a p y k)

  -- ---- counts
  are_at_least : ((m : ℕ) → 1 ≤ m → m < 2 ^ set_count l → (k : ℕ) × (v (region_column l m) ≡ pos k)) → (a n : ℕ) → 1 ≤ a → a + n ≤ 2 ^ set_count l →
      Holds (are_counts (length env) (range_with_len a n)) whole
  are_at_least c a zero s h = tt
  are_at_least c a (suc n) s h =
      let k = c a s (omega arith) in
      let here : number_of (value_at whole (count_level (length env) a)) ≡ pos k.0 = ap number_of (count_is a s (omega arith)) ∙ k.1 in
      (rw here (omega (arith, ints)), are_at_least c (a + 1) n (omega arith) (omega arith))

have_counts : (f : ℕ → ℤ) (ms : List ℕ) → HaveBases (map (λ m. Int) ms) (map (λ m. number (f m)) ms)
have_counts f [] = tt
have_counts f (m ∷ ms) = ((f m, refl), have_counts f ms)

pub counts_hold : CountsHold
counts_hold bases rel typed linear env have h =
    let l = layout_of bases [] rel in
    let v = column_values l (env ++ []) in
    let long = length_have bases env have in
    let behind = subst (λ bs. IsTyped bs rel) (sym (append-nil bases)) typed in
    let s = sets_have_counts bases [] rel env [] have tt v (λ c i. refl) in
    let g = subst (λ vs. FormsAgree l vs v) (append-nil env) (forms_at bases [] env [] have tt l v s.0) in
    let n = some_masks l env v in (
      counts l env v,
      have_counts (λ m. v (region_column l m)) (masks (set_count l)),
      subst (λ k. Holds (over_counts l k rel) (env ++ counts l env v)) long (
        are_at_least l env v (λ m a b. (_, s.0.counts m a b)) 1 (2 ^ set_count l - 1) (omega arith) (omega arith),
        there l env v bases long g rel (placed-rel bases [] rel behind linear) typed h,
      ),
    )
