-- Which arms may be tried: few tuples lie below their bounds, and no solve stands inside.
use Rattle.std.specs.Prelude.{nat_le}
use Rattle.std.proofs.Common.{◌≡◌, ℕ, ◌≤◌, true, ◌&&◌, List, [], ◌∷◌, refl}
use Rattle.std.specs.List.{All}
use Rattle.std.proofs.lemmas.Bool.{leb-true, le-leb}
use Rattle.std.proofs.lemmas.List.Elements.{All-cons, All-nil, All-head, All-tail}
use Rattle.cf_tree.specs.CodeTree.{CodeTree, code_lit, code_truth, code_var, code_set_of, code_tuple, code_sum, code_sub, code_mul, code_neg, code_div, code_mod, code_min, code_max, code_compare, code_divides, code_and, code_or, code_not, code_union, code_inter, code_diff, code_subset, code_card, code_slice, code_fresh, code_if, code_let, code_solve, CodeTrees, no_codes, code_more, ItemTree, let_item, need_item, ItemTrees, no_items, item_more, arm_of}
use Rattle.cf_tree.specs.Meaning.{count_below}
use Rattle.cf_tree.specs.Typing.{AreBounds, HasNoSolve, HaveNoSolve, ItemHasNoSolve, ItemsHaveNoSolve}
use Rattle.cf_typing.specs.Bases.{are_positive, are_bounds, has_no_solve, have_no_solve, item_has_no_solve, items_have_no_solve, is_plain, plain, done}
use Rattle.cf_typing.proofs.Steps.{IsFound, true_both, true_done}
use Rattle.cf_tree.proofs.BaseLemmas.{both, both_true}

positive_is : (bs : List ℕ) → are_positive bs ≡ true → All (λ b. 1 ≤ b) bs
positive_is [] h = All-nil (λ b. 1 ≤ b)
positive_is (b ∷ bs) h = let p = both (nat_le 1 b) (are_positive bs) h in All-cons (λ b. 1 ≤ b) b bs (leb-true 1 b p.0) (positive_is bs p.1)

is_positive : (bs : List ℕ) → All (λ b. 1 ≤ b) bs → are_positive bs ≡ true
is_positive [] h = refl
is_positive (b ∷ bs) h = both_true (nat_le 1 b) (are_positive bs) (le-leb 1 b (All-head (λ b. 1 ≤ b) b bs h)) (is_positive bs (All-tail (λ b. 1 ≤ b) b bs h))

bounds_both : (bs : List ℕ) → are_bounds bs ≡ true → AreBounds bs
bounds_both bs h = let p = both (are_positive bs) (nat_le (count_below bs) 1048576) h in (positive_is bs p.0, leb-true (count_below bs) 1048576 p.1)

bounds_is : (bs : List ℕ) → AreBounds bs → are_bounds bs ≡ true
bounds_is bs h = both_true (are_positive bs) (nat_le (count_below bs) 1048576) (is_positive bs h.0) (le-leb (count_below bs) 1048576 h.1)

mutual
  has_none : (c : CodeTree) → has_no_solve c ≡ true → HasNoSolve c
  has_none (code_lit k) h = tt
  has_none (code_truth t) h = tt
  has_none (code_var n) h = tt
  has_none (code_set_of cs) h = have_none cs h
  has_none (code_tuple cs) h = have_none cs h
  has_none (code_sum cs) h = have_none cs h
  has_none (code_sub a b) h = let p = both (has_no_solve a) (has_no_solve b) h in (has_none a p.0, has_none b p.1)
  has_none (code_mul a b) h = let p = both (has_no_solve a) (has_no_solve b) h in (has_none a p.0, has_none b p.1)
  has_none (code_neg a) h = has_none a h
  has_none (code_div a k) h = has_none a h
  has_none (code_mod a k) h = has_none a h
  has_none (code_min cs) h = have_none cs h
  has_none (code_max cs) h = have_none cs h
  has_none (code_compare o a b) h = let p = both (has_no_solve a) (has_no_solve b) h in (has_none a p.0, has_none b p.1)
  has_none (code_divides k a) h = has_none a h
  has_none (code_and a b) h = let p = both (has_no_solve a) (has_no_solve b) h in (has_none a p.0, has_none b p.1)
  has_none (code_or a b) h = let p = both (has_no_solve a) (has_no_solve b) h in (has_none a p.0, has_none b p.1)
  has_none (code_not a) h = has_none a h
  has_none (code_union cs) h = have_none cs h
  has_none (code_inter cs) h = have_none cs h
  has_none (code_diff a b) h = let p = both (has_no_solve a) (has_no_solve b) h in (has_none a p.0, has_none b p.1)
  has_none (code_subset a b) h = let p = both (has_no_solve a) (has_no_solve b) h in (has_none a p.0, has_none b p.1)
  has_none (code_card a) h = has_none a h
  has_none (code_slice a b c) h =
      let p = both (has_no_solve a) (has_no_solve b && has_no_solve c) h in
      let q = both (has_no_solve b) (has_no_solve c) p.1 in
      (has_none a p.0, has_none b q.0, has_none c q.1)
  has_none (code_fresh a b) h = let p = both (has_no_solve a) (has_no_solve b) h in (has_none a p.0, has_none b p.1)
  has_none (code_if a b c) h =
      let p = both (has_no_solve a) (has_no_solve b && has_no_solve c) h in
      let q = both (has_no_solve b) (has_no_solve c) p.1 in
      (has_none a p.0, has_none b q.0, has_none c q.1)
  has_none (code_let first n a b) h = let p = both (has_no_solve a) (has_no_solve b) h in (has_none a p.0, has_none b p.1)
  has_none (code_solve n arms) h = cc

  have_none : (cs : CodeTrees) → have_no_solve cs ≡ true → HaveNoSolve cs
  have_none no_codes h = tt
  have_none (code_more c cs) h = let p = both (has_no_solve c) (have_no_solve cs) h in (has_none c p.0, have_none cs p.1)

item_has_none : (i : ItemTree) → item_has_no_solve i ≡ true → ItemHasNoSolve i
item_has_none (let_item c) h = has_none c h
item_has_none (need_item c) h = has_none c h

items_have_none : (is : ItemTrees) → items_have_no_solve is ≡ true → ItemsHaveNoSolve is
items_have_none no_items h = tt
items_have_none (item_more i is) h = let p = both (item_has_no_solve i) (items_have_no_solve is) h in (item_has_none i p.0, items_have_none is p.1)

mutual
  none_has : (c : CodeTree) → HasNoSolve c → has_no_solve c ≡ true
  none_has (code_lit k) h = refl
  none_has (code_truth t) h = refl
  none_has (code_var n) h = refl
  none_has (code_set_of cs) h = none_have cs h
  none_has (code_tuple cs) h = none_have cs h
  none_has (code_sum cs) h = none_have cs h
  none_has (code_sub a b) h = both_true (has_no_solve a) (has_no_solve b) (none_has a h.0) (none_has b h.1)
  none_has (code_mul a b) h = both_true (has_no_solve a) (has_no_solve b) (none_has a h.0) (none_has b h.1)
  none_has (code_neg a) h = none_has a h
  none_has (code_div a k) h = none_has a h
  none_has (code_mod a k) h = none_has a h
  none_has (code_min cs) h = none_have cs h
  none_has (code_max cs) h = none_have cs h
  none_has (code_compare o a b) h = both_true (has_no_solve a) (has_no_solve b) (none_has a h.0) (none_has b h.1)
  none_has (code_divides k a) h = none_has a h
  none_has (code_and a b) h = both_true (has_no_solve a) (has_no_solve b) (none_has a h.0) (none_has b h.1)
  none_has (code_or a b) h = both_true (has_no_solve a) (has_no_solve b) (none_has a h.0) (none_has b h.1)
  none_has (code_not a) h = none_has a h
  none_has (code_union cs) h = none_have cs h
  none_has (code_inter cs) h = none_have cs h
  none_has (code_diff a b) h = both_true (has_no_solve a) (has_no_solve b) (none_has a h.0) (none_has b h.1)
  none_has (code_subset a b) h = both_true (has_no_solve a) (has_no_solve b) (none_has a h.0) (none_has b h.1)
  none_has (code_card a) h = none_has a h
  none_has (code_slice a b c) h = both_true (has_no_solve a) (has_no_solve b && has_no_solve c) (none_has a h.0)
      (both_true (has_no_solve b) (has_no_solve c) (none_has b h.1) (none_has c h.2))
  none_has (code_fresh a b) h = both_true (has_no_solve a) (has_no_solve b) (none_has a h.0) (none_has b h.1)
  none_has (code_if a b c) h = both_true (has_no_solve a) (has_no_solve b && has_no_solve c) (none_has a h.0)
      (both_true (has_no_solve b) (has_no_solve c) (none_has b h.1) (none_has c h.2))
  none_has (code_let first n a b) h = both_true (has_no_solve a) (has_no_solve b) (none_has a h.0) (none_has b h.1)
  none_has (code_solve n arms) h = absurd h

  none_have : (cs : CodeTrees) → HaveNoSolve cs → have_no_solve cs ≡ true
  none_have no_codes h = refl
  none_have (code_more c cs) h = both_true (has_no_solve c) (have_no_solve cs) (none_has c h.0) (none_have cs h.1)

none_item_has : (i : ItemTree) → ItemHasNoSolve i → item_has_no_solve i ≡ true
none_item_has (let_item c) h = none_has c h
none_item_has (need_item c) h = none_has c h

none_items_have : (is : ItemTrees) → ItemsHaveNoSolve is → items_have_no_solve is ≡ true
none_items_have no_items h = refl
none_items_have (item_more i is) h = both_true (item_has_no_solve i) (items_have_no_solve is) (none_item_has i h.0) (none_items_have is h.1)

pub plain_both : (bounds : List ℕ) (is : ItemTrees) (gs : CodeTrees) → IsFound (plain (arm_of bounds is gs)) →
    AreBounds bounds × ItemsHaveNoSolve is × HaveNoSolve gs
plain_both bounds is gs h =
    let t = true_both (is_plain (arm_of bounds is gs)) done h.0 h.1 in
    let p = both (are_bounds bounds) (items_have_no_solve is && have_no_solve gs) t.0 in
    let q = both (items_have_no_solve is) (have_no_solve gs) p.1 in
    (bounds_both bounds p.0, items_have_none is q.0, have_none gs q.1)

pub plain_is : (bounds : List ℕ) (is : ItemTrees) (gs : CodeTrees) → AreBounds bounds → ItemsHaveNoSolve is → HaveNoSolve gs →
    IsFound (plain (arm_of bounds is gs))
plain_is bounds is gs b i g =
    true_done (is_plain (arm_of bounds is gs))
    (both_true (are_bounds bounds) (items_have_no_solve is && have_no_solve gs) (bounds_is bounds b)
    (both_true (items_have_no_solve is) (have_no_solve gs) (none_items_have is i) (none_have gs g)))
