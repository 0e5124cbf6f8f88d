-- Values that hold the counts of the regions of sets agree with the forms over these sets.
use Rattle.std.proofs.Common.{◌≡◌, ◌↔◌, ℕ, suc, ◌-◌, ◌%◌, ◌^◌, ◌<◌, ◌≤◌, ◌==◌, ℤ, pos, negsuc, ◌+ℤ◌, ◌*ℤ◌, Bool, true, false, not, ◌&&◌, ◌||◌, List, [], ◌∷◌}
use Rattle.std.proofs.Common.{◌++◌, length, get_or, map, subst, refl, ap, sym, ◌∙◌, arith}
use Rattle.std.specs.Prelude.{◌≤ℤ◌}
use Rattle.std.proofs.lemmas.Int.{ints}
use Rattle.std.proofs.lemmas.Bool.{eqb-true}
use Rattle.std.proofs.lemmas.List.{length-append, length-map, map-append}
use Rattle.cf_tree.specs.RelTree.{SetTree, empty_set, set_var, union_of, inter_of, diff_of}
use Rattle.cf_tree.specs.Relation.{members}
use Rattle.cf_tree.specs.Sets.{IsRising, has}
use Rattle.cf_tree.specs.Values.{Value, elements_of, value_at}
use Rattle.cf_tree.proofs.SetLemmas.{on_bool, has-union, has-inter, has-diff}
use Rattle.cf_tree.proofs.RisingLemmas.{rising_ext, rising_filter, rising_union}
use Rattle.cf_linear.specs.Rows.{Values, value, put}
use Rattle.cf_linear.specs.Layout.{Layout, place, has_level, set_count, covers, input_column, region_column, region_row}
use Rattle.cf_linear.specs.Written.{IsPlacedSet}
use Rattle.cf_linear.specs.Cases.{in_first, in_one, input_row}
use Rattle.cf_linear.proofs.RowLemmas.{value-put}
use Rattle.cf_cases.specs.Holding.{AreCounts}
use Rattle.cf_cases.proofs.AgreeLaws.{FormsAgree}
use Rattle.cf_venn.specs.Columns.{Agrees}
use Rattle.cf_venn.specs.Masks.{sets_at, mask, union_all, count}
use Rattle.cf_venn.proofs.MaskLemmas.{bit_zero, bit-mask, mask_none, rising_union_all}
use Rattle.cf_venn.proofs.CountLemmas.{total, count_same, length_within}
use Rattle.cf_venn.proofs.TotalLemmas.{total-is, by_total, input_total}
use Rattle.cf_venn.proofs.RowTotals.{each_of, region_total, none_total, some_total}

-- all sets of a layout
abbrev pub sets_of : Layout → List Value → List (List ℤ)
sets_of l env = sets_at env (l.inputs ++ l.out_sets)

pub length_sets : (l : Layout) (env : List Value) → length (sets_of l env) ≡ set_count l
length_sets l env = length-map (l.inputs ++ l.out_sets) (λ x. elements_of (value_at env x)) ∙ length-append l.inputs l.out_sets

-- ---- levels and their places
pub place_later : (x y : ℕ) (ys : List ℕ) → (y == x) ≡ false → place x (y ∷ ys) ≡ suc (place x ys)
place_later x y ys e = rw e (omega arith)

pub at_place : {A : Type 0} (f : ℕ → A) (d : A) (xs : List ℕ) (x : ℕ) → has_level xs x ≡ true → get_or (map f xs) (place x xs) d ≡ f x
at_place f d [] x h = absurd (cc)
at_place f d (y ∷ ys) x h = on_bool (y == x)
    (λ e. rw e (ap f (eqb-true y x e)))
    (λ e. rw (place_later x y ys e) (at_place f d ys x (rw e at h)))

has_either : (xs ys : List ℕ) (x : ℕ) → (has_level xs x || has_level ys x) ≡ true → has_level (xs ++ ys) x ≡ true
has_either [] ys x h = h
has_either (y ∷ xs) ys x h = on_bool (y == x) (λ e. rw e refl) (λ e. rw e (has_either xs ys x (rw e at h)))

-- ---- truth values
one_bools : (a b : Bool) → (a ≡ b) ↔ ((a && not b || b && not a) ≡ false)
one_bools true true = (λ e. refl, λ e. refl)
one_bools true false = (λ e. cc, λ e. cc)
one_bools false true = (λ e. cc, λ e. cc)
one_bools false false = (λ e. refl, λ e. refl)

first_bools : (a b : Bool) → (a ≡ true → b ≡ true) ↔ ((a && not b) ≡ false)
first_bools true true = (λ e. refl, λ e f. refl)
first_bools true false = (λ e. absurd (cc (e refl)), λ e f. cc)
first_bools false b = (λ e. refl, λ e f. cc)

then_iff : {A B C : Type 0} → A ↔ B → B ↔ C → A ↔ C
then_iff f g = (λ a. g.0 (f.0 a), λ c. f.1 (g.1 c))

turn_iff : {A B : Type 0} → A ↔ B → B ↔ A
turn_iff f = (f.1, f.0)

not_zero : {P : Type 0} (n : ℕ) → P ↔ (n ≡ 0) → (P → ⊥) ↔ (1 ≤ n)
not_zero n f = (λ h. let k : n ≡ 0 → ⊥ = λ e. h (f.1 e) in omega arith, λ l p. let e = f.0 p in absurd (omega arith))

covers_none : (l : Layout) (s : SetTree) → covers l s 0 ≡ false
covers_none l empty_set = refl
covers_none l (set_var x) = bit_zero (place x (l.inputs ++ l.out_sets))
covers_none l (union_of a b) = rw (covers_none l a, covers_none l b)
covers_none l (inter_of a b) = rw (covers_none l a)
covers_none l (diff_of a b) = rw (covers_none l a)

module _ (l : Layout) (env : List Value) where
  -- a set form has an element exactly where it covers the element's mask
  has-members : (s : SetTree) → IsPlacedSet l s → (z : ℤ) → has (members s env) z ≡ covers l s (mask (sets_of l env) z)
  has-members empty_set p z = refl
  has-members (set_var x) p z =
      let levels = l.inputs ++ l.out_sets in
      sym (bit-mask (sets_of l env) (place x levels) z ∙ ap (λ s. has s z)
      (at_place (λ x. elements_of (value_at env x)) [] levels x (has_either l.inputs l.out_sets x p)))
  has-members (union_of a b) p z = has-union (members a env) (members b env) z ∙ rw (has-members a p.0 z, has-members b p.1 z) refl
  has-members (inter_of a b) p z = has-inter (members a env) (members b env) z ∙ rw (has-members a p.0 z, has-members b p.1 z) refl
  has-members (diff_of a b) p z = has-diff (members a env) (members b env) z ∙ rw (has-members a p.0 z, has-members b p.1 z) refl

  module _ (rise : (x : ℕ) → IsRising (elements_of (value_at env x))) where
    rising_members : (s : SetTree) → IsRising (members s env)
    rising_members empty_set = tt
    rising_members (set_var x) = rise x
    rising_members (union_of a b) = rising_union (members a env) (members b env) (rising_members b)
    rising_members (inter_of a b) = rising_filter (has (members b env)) (members a env) (rising_members a)
    rising_members (diff_of a b) = rising_filter (λ x. not (has (members b env) x)) (members a env) (rising_members a)

    members_within : (s : SetTree) → IsPlacedSet l s → (z : ℤ) → has (members s env) z ≡ true → has (union_all (sets_of l env)) z ≡ true
    members_within s p z e = on_bool (has (union_all (sets_of l env)) z)
        (λ f. f)
        (λ f. let n : covers l s (mask (sets_of l env) z) ≡ false = ap (covers l s) (mask_none (sets_of l env) z f) ∙ covers_none l s in
        let k = has-members s p z in absurd (cc))

    card_total : (s : SetTree) → IsPlacedSet l s → length (members s env) ≡ total (set_count l) (covers l s) (count (sets_of l env))
    card_total s p =
        let ss = sets_of l env in
        length_within (members s env) (union_all ss) (rising_members s) (rising_union_all ss) (members_within s p)
        ∙ count_same (has (members s env)) (λ z. covers l s (mask ss z)) (union_all ss) (λ z _. has-members s p z)
        ∙ total-is (covers l s) ss
        ∙ ap (λ n. total n (covers l s) (count ss)) (length_sets l env)

    by_masks : (t : ℕ → Bool) → t 0 ≡ false → ((z : ℤ) → t (mask (sets_of l env) z) ≡ false) ↔ (total (set_count l) t (count (sets_of l env)) ≡ 0)
    by_masks t n = subst (λ k. ((z : ℤ) → t (mask (sets_of l env) z) ≡ false) ↔ (total k t (count (sets_of l env)) ≡ 0)) (length_sets l env)
        (by_total t (sets_of l env) n)

    same_total : (a b : SetTree) → IsPlacedSet l a → IsPlacedSet l b →
        (members a env ≡ members b env) ↔ (total (set_count l) (in_one l a b) (count (sets_of l env)) ≡ 0)
    same_total a b p q =
        let ss = sets_of l env in
        let by = by_masks (in_one l a b) (rw (covers_none l a, covers_none l b)) in (
          λ e. by.0 (λ z. (one_bools (covers l a (mask ss z)) (covers l b (mask ss z))).0 (sym (has-members a p z) ∙ ap (λ s. has s z) e ∙ has-members b q z)),
          λ e. rising_ext (members a env) (members b env) (rising_members a) (rising_members b)
              (λ z. has-members a p z ∙ (one_bools (covers l a (mask ss z)) (covers l b (mask ss z))).1 (by.1 e z) ∙ sym (has-members b q z)),
        )

    subset_total : (a b : SetTree) → IsPlacedSet l a → IsPlacedSet l b →
        ((z : ℤ) → has (members a env) z ≡ true → has (members b env) z ≡ true) ↔ (total (set_count l) (in_first l a b) (count (sets_of l env)) ≡ 0)
    subset_total a b p q =
        let ss = sets_of l env in
        let by = by_masks (in_first l a b) (rw (covers_none l a)) in (
          λ h. by.0 (λ z. (first_bools (covers l a (mask ss z)) (covers l b (mask ss z))).0 (λ e. sym (has-members b q z) ∙ h z (has-members a p z ∙ e))),
          λ e z f. has-members b q z ∙ (first_bools (covers l a (mask ss z)) (covers l b (mask ss z))).1 (by.1 e z) (sym (has-members a p z) ∙ f),
        )

    -- where values have the numbers and the counts of the regions, they agree with all forms over sets
    pub forms_agree : (v : Values) → Agrees l env v → FormsAgree l env v
    forms_agree v g =
        let r = count (sets_of l env) in
        record {
          numbers = g.numbers;
          sizes = λ s p. ap (λ k. pos k) (card_total s p) ∙ sym (region_total l v r g.counts (covers l s));
          same = λ a b p q. then_iff (same_total a b p q) (turn_iff (none_total l v r g.counts (in_one l a b)));
          other = λ a b p q. then_iff (not_zero (total (set_count l) (in_one l a b) r) (same_total a b p q)) (some_total l v r g.counts (in_one l a b));
          subset = λ a b p q. then_iff (subset_total a b p q) (turn_iff (none_total l v r g.counts (in_first l a b)));
          not_subset = λ a b p q. then_iff (not_zero (total (set_count l) (in_first l a b) r) (subset_total a b p q))
              (some_total l v r g.counts (in_first l a b));
        }

-- ---- counts
minus_itself : (x y : ℤ) (n : ℕ) → x ≡ pos n → y ≡ pos n → negsuc 0 *ℤ x +ℤ y ≡ pos 0
minus_itself x y n e f = omega (arith, ints)

unit_nonneg : (x : ℤ) (n : ℕ) → x ≡ pos n → pos 0 ≤ℤ (pos 1 *ℤ x +ℤ pos 0)
unit_nonneg x n e = omega (arith, ints)

-- the sum over the masks with the input part m, by the levels of the layout
pub inputs_total : (l : Layout) (env : List Value) (m : ℕ) → 0 < m → total (set_count l) (λ k. k % 2 ^ length l.inputs == m) (count (sets_of l env)) ≡ count
    (sets_at env l.inputs) m
inputs_total l env m z =
    let f : ℕ → List ℤ = λ x. elements_of (value_at env x) in
    let parts : sets_of l env ≡ sets_at env l.inputs ++ sets_at env l.out_sets = map-append f l.inputs l.out_sets in
    let few : length (sets_at env l.inputs) ≡ length l.inputs = length-map l.inputs f in
    let all : length (sets_at env l.inputs ++ sets_at env l.out_sets) ≡ set_count l = ap length (sym parts) ∙ length_sets l env in
    ap (λ ss. total (set_count l) (λ k. k % 2 ^ length l.inputs == m) (count ss)) parts
    ∙ subst (λ p. total (set_count l) (λ k. k % 2 ^ p == m) (count (sets_at env l.inputs ++ sets_at env l.out_sets)) ≡ count (sets_at env l.inputs) m) few
    (subst (λ n. total n (λ k. k % 2 ^ length (sets_at env l.inputs) == m) (count (sets_at env l.inputs ++ sets_at env l.out_sets)) ≡ count
    (sets_at env l.inputs) m) all
    (input_total (sets_at env l.inputs) (sets_at env l.out_sets) m z))

module _ (l : Layout) (env : List Value) (v : Values) (held : (m : ℕ) → 1 ≤ m → m < 2 ^ set_count l → v (region_column l m) ≡ pos (count (sets_of l env) m))
    (inputs : (m : ℕ) → 1 ≤ m → m < 2 ^ length l.inputs → v (input_column l m) ≡ pos (count (sets_at env l.inputs) m)) where
  pub counts_by_counts : AreCounts l v
  counts_by_counts =
      let r = count (sets_of l env) in
      record {
        sums = each_of (λ k. value v k ≡ pos 0) (input_row l) 1 (2 ^ length l.inputs - 1)
            (λ m a b. value-put v (input_column l m) (negsuc 0) (region_row l (λ k. k % 2 ^ length l.inputs == m))
            ∙ minus_itself (v (input_column l m)) (value v (region_row l (λ k. k % 2 ^ length l.inputs == m))) (count (sets_at env l.inputs) m)
            (inputs m a (omega arith))
            (region_total l v r held (λ k. k % 2 ^ length l.inputs == m) ∙ ap (λ k. pos k) (inputs_total l env m a)));
        nonneg = each_of (λ k. pos 0 ≤ℤ value v k) (λ m. put (region_column l m) (pos 1) []) 1 (2 ^ set_count l - 1)
            (λ m a b. unit_nonneg (v (region_column l m)) (r m) (held m a (omega arith)));
      }
