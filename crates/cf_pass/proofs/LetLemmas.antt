-- Code behind one variable less, which it does not use: its size, what it lacks, how it is spelled and typed, and its path.
use Rattle.std.proofs.Common.{◌≡◌, ◌≢◌, ℕ, zero, suc, ◌+◌, ◌-◌, ◌<◌, ◌≤◌, nat_lt, max, ℤ, pos, ◌+ℤ◌, Bool, true, false, cond, ◌||◌, Option, Some, None, List, [], ◌∷◌, ◌++◌, length, slice_get, slice_index_or, ◌⊎◌, inl, inr, length-append, refl, sym, ap, subst, ◌∙◌, arith}
use Rattle.std.proofs.lemmas.Bool.Decides.{nat_tests}
use Rattle.std.proofs.lemmas.Bool.{cases_lt}
use Rattle.std.proofs.lemmas.List.{append_assoc}
use Rattle.std.specs.Int.{int_max, int_min}
use Rattle.cf_tree.specs.declared.base.Base.{Base}
use Rattle.cf_tree.specs.declared.base.Base.TheVariants.{Int, Bool as Truth, Set}
use Rattle.cf_tree.specs.CodeTree.{CodeTree, code_lit, code_truth, code_var, code_set_of, code_tuple, code_sum, code_sub, code_mul, code_neg, code_div, code_mod, code_min, code_max, code_compare, code_divides, code_and, code_or, code_not, code_union, code_inter, code_diff, code_subset, code_card, code_slice, code_fresh, code_if, code_let, code_solve, CodeTrees, no_codes, code_more, let_item, need_item, ItemTrees, no_items, item_more, count, code_size, codes_size, code_depth, codes_depth, items_size, items_depth}
use Rattle.cf_tree.specs.Meaning.{Got, got, none_at, Path, gives_truth, then_gives, then_peak, then_path, meets, meets_value, truth_in, number_in, set_in, choose_with, joined_with, path, all_path, set_path, sum_path, best_path, join_path}
use Rattle.cf_tree.specs.Sets.{set_put, set_union, set_inter}
use Rattle.cf_tree.specs.Spelled.{IsSpelled, AreSpelled, IsNoTuple, AreGives, AreItemsSpelled}
use Rattle.cf_tree.specs.Typing.{HasBases, AllHave, PartsHave, ItemsHave, HasNoSolve, HaveNoSolve, ItemsHaveNoSolve, one, ask, share, side}
use Rattle.cf_tree.specs.Values.{Value, number}
use Rattle.cf_pass.specs.Lacks.{Lacks, AllLack, ItemsLack}
use Rattle.cf_pass.specs.Lets.{uses, any_uses, items_use, moved, all_moved, items_moved, fallen}

-- ---- a code that does not use a level
pub or_false : (t u : Bool) → t || u ≡ false → (t ≡ false) × (u ≡ false)
or_false true u e = absurd cc
or_false false u e = (refl, e)

or_three : (t u v : Bool) → t || u || v ≡ false → (t ≡ false) × (u ≡ false) × (v ≡ false)
or_three true u v e = absurd cc
or_three false true v e = absurd cc
or_three false false v e = (refl, refl, e)

mutual
  pub lacks : (x : ℕ) (c : CodeTree) → HasNoSolve c → uses x c ≡ false → Lacks x c
  lacks x (code_lit k) s e = tt
  lacks x (code_truth t) s e = tt
  lacks x (code_var y) s e = grind (arith, nat_tests)
  lacks x (code_set_of cs) s e = all_lack x cs s e
  lacks x (code_tuple cs) s e = all_lack x cs s e
  lacks x (code_sum cs) s e = all_lack x cs s e
  lacks x (code_sub a b) s e = let p = or_false (uses x a) (uses x b) e in (lacks x a s.0 p.0, lacks x b s.1 p.1)
  lacks x (code_mul a b) s e = let p = or_false (uses x a) (uses x b) e in (lacks x a s.0 p.0, lacks x b s.1 p.1)
  lacks x (code_neg a) s e = lacks x a s e
  lacks x (code_div a k) s e = lacks x a s e
  lacks x (code_mod a k) s e = lacks x a s e
  lacks x (code_min cs) s e = all_lack x cs s e
  lacks x (code_max cs) s e = all_lack x cs s e
  lacks x (code_compare o a b) s e = let p = or_false (uses x a) (uses x b) e in (lacks x a s.0 p.0, lacks x b s.1 p.1)
  lacks x (code_divides k a) s e = lacks x a s e
  lacks x (code_and a b) s e = let p = or_false (uses x a) (uses x b) e in (lacks x a s.0 p.0, lacks x b s.1 p.1)
  lacks x (code_or a b) s e = let p = or_false (uses x a) (uses x b) e in (lacks x a s.0 p.0, lacks x b s.1 p.1)
  lacks x (code_not a) s e = lacks x a s e
  lacks x (code_union cs) s e = all_lack x cs s e
  lacks x (code_inter cs) s e = all_lack x cs s e
  lacks x (code_diff a b) s e = let p = or_false (uses x a) (uses x b) e in (lacks x a s.0 p.0, lacks x b s.1 p.1)
  lacks x (code_subset a b) s e = let p = or_false (uses x a) (uses x b) e in (lacks x a s.0 p.0, lacks x b s.1 p.1)
  lacks x (code_card a) s e = lacks x a s e
  lacks x (code_slice a b c) s e = let p = or_three (uses x a) (uses x b) (uses x c) e in (lacks x a s.0 p.0, lacks x b s.1 p.1, lacks x c s.2 p.2)
  lacks x (code_fresh a b) s e = let p = or_false (uses x a) (uses x b) e in (lacks x a s.0 p.0, lacks x b s.1 p.1)
  lacks x (code_if a b c) s e = let p = or_three (uses x a) (uses x b) (uses x c) e in (lacks x a s.0 p.0, lacks x b s.1 p.1, lacks x c s.2 p.2)
  lacks x (code_let first n a b) s e = let p = or_false (uses x a) (uses x b) e in (lacks x a s.0 p.0, lacks x b s.1 p.1)
  lacks x (code_solve n arms) s e = absurd s

  pub all_lack : (x : ℕ) (cs : CodeTrees) → HaveNoSolve cs → any_uses x cs ≡ false → AllLack x cs
  all_lack x no_codes s e = tt
  all_lack x (code_more c cs) s e = let p = or_false (uses x c) (any_uses x cs) e in (lacks x c s.0 p.0, all_lack x cs s.1 p.1)

pub items_lack : (x : ℕ) (is : ItemTrees) → ItemsHaveNoSolve is → items_use x is ≡ false → ItemsLack x is
items_lack x no_items s e = tt
items_lack x (item_more (let_item c) is) s e = let p = or_false (uses x c) (items_use x is) e in (lacks x c s.0 p.0, items_lack x is s.1 p.1)
items_lack x (item_more (need_item c) is) s e = let p = or_false (uses x c) (items_use x is) e in (lacks x c s.0 p.0, items_lack x is s.1 p.1)

-- ---- sizes and depths
module _ (f : ℕ → ℕ) where
  mutual
    pub moved_size : (c : CodeTree) → code_size (moved f c) ≡ code_size c
    moved_size (code_lit k) = refl
    moved_size (code_truth t) = refl
    moved_size (code_var y) = refl
    moved_size (code_set_of cs) = rw (all_size cs) refl
    moved_size (code_tuple cs) = rw (all_size cs) refl
    moved_size (code_sum cs) = rw (all_size cs) refl
    moved_size (code_sub a b) = rw (moved_size a, moved_size b) refl
    moved_size (code_mul a b) = rw (moved_size a, moved_size b) refl
    moved_size (code_neg a) = rw (moved_size a) refl
    moved_size (code_div a k) = rw (moved_size a) refl
    moved_size (code_mod a k) = rw (moved_size a) refl
    moved_size (code_min cs) = rw (all_size cs) refl
    moved_size (code_max cs) = rw (all_size cs) refl
    moved_size (code_compare o a b) = rw (moved_size a, moved_size b) refl
    moved_size (code_divides k a) = rw (moved_size a) refl
    moved_size (code_and a b) = rw (moved_size a, moved_size b) refl
    moved_size (code_or a b) = rw (moved_size a, moved_size b) refl
    moved_size (code_not a) = rw (moved_size a) refl
    moved_size (code_union cs) = rw (all_size cs) refl
    moved_size (code_inter cs) = rw (all_size cs) refl
    moved_size (code_diff a b) = rw (moved_size a, moved_size b) refl
    moved_size (code_subset a b) = rw (moved_size a, moved_size b) refl
    moved_size (code_card a) = rw (moved_size a) refl
    moved_size (code_slice a b c) = rw (moved_size a, moved_size b, moved_size c) refl
    moved_size (code_fresh a b) = rw (moved_size a, moved_size b) refl
    moved_size (code_if a b c) = rw (moved_size a, moved_size b, moved_size c) refl
    moved_size (code_let first n a b) = rw (moved_size a, moved_size b) refl
    moved_size (code_solve n arms) = refl

    pub all_size : (cs : CodeTrees) → codes_size (all_moved f cs) ≡ codes_size cs
    all_size no_codes = refl
    all_size (code_more c cs) = rw (moved_size c, all_size cs) refl

  mutual
    pub moved_depth : (c : CodeTree) → code_depth (moved f c) ≡ code_depth c
    moved_depth (code_lit k) = refl
    moved_depth (code_truth t) = refl
    moved_depth (code_var y) = refl
    moved_depth (code_set_of cs) = rw (all_depth cs) refl
    moved_depth (code_tuple cs) = rw (all_depth cs) refl
    moved_depth (code_sum cs) = rw (all_depth cs) refl
    moved_depth (code_sub a b) = rw (moved_depth a, moved_depth b) refl
    moved_depth (code_mul a b) = rw (moved_depth a, moved_depth b) refl
    moved_depth (code_neg a) = rw (moved_depth a) refl
    moved_depth (code_div a k) = rw (moved_depth a) refl
    moved_depth (code_mod a k) = rw (moved_depth a) refl
    moved_depth (code_min cs) = rw (all_depth cs) refl
    moved_depth (code_max cs) = rw (all_depth cs) refl
    moved_depth (code_compare o a b) = rw (moved_depth a, moved_depth b) refl
    moved_depth (code_divides k a) = rw (moved_depth a) refl
    moved_depth (code_and a b) = rw (moved_depth a, moved_depth b) refl
    moved_depth (code_or a b) = rw (moved_depth a, moved_depth b) refl
    moved_depth (code_not a) = rw (moved_depth a) refl
    moved_depth (code_union cs) = rw (all_depth cs) refl
    moved_depth (code_inter cs) = rw (all_depth cs) refl
    moved_depth (code_diff a b) = rw (moved_depth a, moved_depth b) refl
    moved_depth (code_subset a b) = rw (moved_depth a, moved_depth b) refl
    moved_depth (code_card a) = rw (moved_depth a) refl
    moved_depth (code_slice a b c) = rw (moved_depth a, moved_depth b, moved_depth c) refl
    moved_depth (code_fresh a b) = rw (moved_depth a, moved_depth b) refl
    moved_depth (code_if a b c) = rw (moved_depth a, moved_depth b, moved_depth c) refl
    moved_depth (code_let first n a b) = rw (moved_depth a, moved_depth b) refl
    moved_depth (code_solve n arms) = refl

    pub all_depth : (cs : CodeTrees) → codes_depth (all_moved f cs) ≡ codes_depth cs
    all_depth no_codes = refl
    all_depth (code_more c cs) = rw (moved_depth c, all_depth cs) refl

  pub moved_count : (cs : CodeTrees) → count (all_moved f cs) ≡ count cs
  moved_count no_codes = refl
  moved_count (code_more c cs) = ap (λ n. 1 + n) (moved_count cs)

  pub items_size_same : (is : ItemTrees) → items_size (items_moved f is) ≡ items_size is
  items_size_same no_items = refl
  items_size_same (item_more (let_item c) is) = rw (moved_size c, items_size_same is) refl
  items_size_same (item_more (need_item c) is) = rw (moved_size c, items_size_same is) refl

  pub items_depth_same : (is : ItemTrees) → items_depth (items_moved f is) ≡ items_depth is
  items_depth_same no_items = refl
  items_depth_same (item_more (let_item c) is) = rw (moved_depth c, items_depth_same is) refl
  items_depth_same (item_more (need_item c) is) = rw (moved_depth c, items_depth_same is) refl

  -- ---- no solve, no tuple
  mutual
    pub moved_no_solve : (c : CodeTree) → HasNoSolve c → HasNoSolve (moved f c)
    moved_no_solve (code_lit k) s = tt
    moved_no_solve (code_truth t) s = tt
    moved_no_solve (code_var y) s = tt
    moved_no_solve (code_set_of cs) s = all_no_solve cs s
    moved_no_solve (code_tuple cs) s = all_no_solve cs s
    moved_no_solve (code_sum cs) s = all_no_solve cs s
    moved_no_solve (code_sub a b) s = (moved_no_solve a s.0, moved_no_solve b s.1)
    moved_no_solve (code_mul a b) s = (moved_no_solve a s.0, moved_no_solve b s.1)
    moved_no_solve (code_neg a) s = moved_no_solve a s
    moved_no_solve (code_div a k) s = moved_no_solve a s
    moved_no_solve (code_mod a k) s = moved_no_solve a s
    moved_no_solve (code_min cs) s = all_no_solve cs s
    moved_no_solve (code_max cs) s = all_no_solve cs s
    moved_no_solve (code_compare o a b) s = (moved_no_solve a s.0, moved_no_solve b s.1)
    moved_no_solve (code_divides k a) s = moved_no_solve a s
    moved_no_solve (code_and a b) s = (moved_no_solve a s.0, moved_no_solve b s.1)
    moved_no_solve (code_or a b) s = (moved_no_solve a s.0, moved_no_solve b s.1)
    moved_no_solve (code_not a) s = moved_no_solve a s
    moved_no_solve (code_union cs) s = all_no_solve cs s
    moved_no_solve (code_inter cs) s = all_no_solve cs s
    moved_no_solve (code_diff a b) s = (moved_no_solve a s.0, moved_no_solve b s.1)
    moved_no_solve (code_subset a b) s = (moved_no_solve a s.0, moved_no_solve b s.1)
    moved_no_solve (code_card a) s = moved_no_solve a s
    moved_no_solve (code_slice a b c) s = (moved_no_solve a s.0, moved_no_solve b s.1, moved_no_solve c s.2)
    moved_no_solve (code_fresh a b) s = (moved_no_solve a s.0, moved_no_solve b s.1)
    moved_no_solve (code_if a b c) s = (moved_no_solve a s.0, moved_no_solve b s.1, moved_no_solve c s.2)
    moved_no_solve (code_let first n a b) s = (moved_no_solve a s.0, moved_no_solve b s.1)
    moved_no_solve (code_solve n arms) s = absurd s

    pub all_no_solve : (cs : CodeTrees) → HaveNoSolve cs → HaveNoSolve (all_moved f cs)
    all_no_solve no_codes s = tt
    all_no_solve (code_more c cs) s = (moved_no_solve c s.0, all_no_solve cs s.1)

  pub items_no_solve : (is : ItemTrees) → ItemsHaveNoSolve is → ItemsHaveNoSolve (items_moved f is)
  items_no_solve no_items s = tt
  items_no_solve (item_more (let_item c) is) s = (moved_no_solve c s.0, items_no_solve is s.1)
  items_no_solve (item_more (need_item c) is) s = (moved_no_solve c s.0, items_no_solve is s.1)

  no_tuple : (c : CodeTree) → IsNoTuple c → IsNoTuple (moved f c)
  no_tuple (code_lit k) s = tt
  no_tuple (code_truth t) s = tt
  no_tuple (code_var y) s = tt
  no_tuple (code_set_of cs) s = tt
  no_tuple (code_tuple cs) s = absurd s
  no_tuple (code_sum cs) s = tt
  no_tuple (code_sub a b) s = tt
  no_tuple (code_mul a b) s = tt
  no_tuple (code_neg a) s = tt
  no_tuple (code_div a k) s = tt
  no_tuple (code_mod a k) s = tt
  no_tuple (code_min cs) s = tt
  no_tuple (code_max cs) s = tt
  no_tuple (code_compare o a b) s = tt
  no_tuple (code_divides k a) s = tt
  no_tuple (code_and a b) s = tt
  no_tuple (code_or a b) s = tt
  no_tuple (code_not a) s = tt
  no_tuple (code_union cs) s = tt
  no_tuple (code_inter cs) s = tt
  no_tuple (code_diff a b) s = tt
  no_tuple (code_subset a b) s = tt
  no_tuple (code_card a) s = tt
  no_tuple (code_slice a b c) s = tt
  no_tuple (code_fresh a b) s = tt
  no_tuple (code_if a b c) s = tt
  no_tuple (code_let first n a b) s = tt
  no_tuple (code_solve n arms) s = tt

  pub gives_kept : (cs : CodeTrees) → AreGives cs → AreGives (all_moved f cs)
  gives_kept no_codes s = absurd s
  gives_kept (code_more c no_codes) s = no_tuple c s
  gives_kept (code_more c (code_more d cs)) s = tt

-- ---- spelling: a level that is not greater is spelled
module _ (f : ℕ → ℕ) (low : (y : ℕ) → f y ≤ y) where
  mutual
    pub moved_spelled : (c : CodeTree) → IsSpelled c → IsSpelled (moved f c)
    moved_spelled (code_lit k) s = s
    moved_spelled (code_truth t) s = s
    moved_spelled (code_var y) s = let l = low y in omega (arith, l, s)
    moved_spelled (code_set_of cs) s = all_spelled cs s
    moved_spelled (code_tuple cs) s = (rw (moved_count f cs) s.0, all_spelled cs s.1)
    moved_spelled (code_sum cs) s = (rw (moved_count f cs) s.0, all_spelled cs s.1)
    moved_spelled (code_sub a b) s = (moved_spelled a s.0, moved_spelled b s.1)
    moved_spelled (code_mul a b) s = (moved_spelled a s.0, moved_spelled b s.1)
    moved_spelled (code_neg a) s = moved_spelled a s
    moved_spelled (code_div a k) s = (s.0, moved_spelled a s.1)
    moved_spelled (code_mod a k) s = (s.0, moved_spelled a s.1)
    moved_spelled (code_min cs) s = (rw (moved_count f cs) s.0, all_spelled cs s.1)
    moved_spelled (code_max cs) s = (rw (moved_count f cs) s.0, all_spelled cs s.1)
    moved_spelled (code_compare o a b) s = (moved_spelled a s.0, moved_spelled b s.1)
    moved_spelled (code_divides k a) s = (s.0, moved_spelled a s.1)
    moved_spelled (code_and a b) s = (moved_spelled a s.0, moved_spelled b s.1)
    moved_spelled (code_or a b) s = (moved_spelled a s.0, moved_spelled b s.1)
    moved_spelled (code_not a) s = moved_spelled a s
    moved_spelled (code_union cs) s = (rw (moved_count f cs) s.0, all_spelled cs s.1)
    moved_spelled (code_inter cs) s = (rw (moved_count f cs) s.0, all_spelled cs s.1)
    moved_spelled (code_diff a b) s = (moved_spelled a s.0, moved_spelled b s.1)
    moved_spelled (code_subset a b) s = (moved_spelled a s.0, moved_spelled b s.1)
    moved_spelled (code_card a) s = moved_spelled a s
    moved_spelled (code_slice a b c) s = (moved_spelled a s.0, moved_spelled b s.1, moved_spelled c s.2)
    moved_spelled (code_fresh a b) s = (moved_spelled a s.0, moved_spelled b s.1)
    moved_spelled (code_if a b c) s = (moved_spelled a s.0, moved_spelled b s.1, moved_spelled c s.2)
    moved_spelled (code_let first n a b) s = (s.0, (let l = low first in let h = s.1 in omega (arith, l, h)), moved_spelled a s.2, moved_spelled b s.3)
    moved_spelled (code_solve n arms) s = s

    pub all_spelled : (cs : CodeTrees) → AreSpelled cs → AreSpelled (all_moved f cs)
    all_spelled no_codes s = tt
    all_spelled (code_more c cs) s = (moved_spelled c s.0, all_spelled cs s.1)

  pub items_spelled : (is : ItemTrees) → AreItemsSpelled is → AreItemsSpelled (items_moved f is)
  items_spelled no_items s = tt
  items_spelled (item_more (let_item c) is) s = (moved_spelled c s.0, items_spelled is s.1)
  items_spelled (item_more (need_item c) is) s = (moved_spelled c s.0, items_spelled is s.1)

-- ---- what is lacked: a level to which no other one is moved
module _ (f : ℕ → ℕ) (x : ℕ) (apart : (y : ℕ) → x ≢ y → x ≢ f y) where
  mutual
    pub moved_lacks : (c : CodeTree) → Lacks x c → Lacks x (moved f c)
    moved_lacks (code_lit k) s = tt
    moved_lacks (code_truth t) s = tt
    moved_lacks (code_var y) s = apart y s
    moved_lacks (code_set_of cs) s = all_moved_lack cs s
    moved_lacks (code_tuple cs) s = all_moved_lack cs s
    moved_lacks (code_sum cs) s = all_moved_lack cs s
    moved_lacks (code_sub a b) s = (moved_lacks a s.0, moved_lacks b s.1)
    moved_lacks (code_mul a b) s = (moved_lacks a s.0, moved_lacks b s.1)
    moved_lacks (code_neg a) s = moved_lacks a s
    moved_lacks (code_div a k) s = moved_lacks a s
    moved_lacks (code_mod a k) s = moved_lacks a s
    moved_lacks (code_min cs) s = all_moved_lack cs s
    moved_lacks (code_max cs) s = all_moved_lack cs s
    moved_lacks (code_compare o a b) s = (moved_lacks a s.0, moved_lacks b s.1)
    moved_lacks (code_divides k a) s = moved_lacks a s
    moved_lacks (code_and a b) s = (moved_lacks a s.0, moved_lacks b s.1)
    moved_lacks (code_or a b) s = (moved_lacks a s.0, moved_lacks b s.1)
    moved_lacks (code_not a) s = moved_lacks a s
    moved_lacks (code_union cs) s = all_moved_lack cs s
    moved_lacks (code_inter cs) s = all_moved_lack cs s
    moved_lacks (code_diff a b) s = (moved_lacks a s.0, moved_lacks b s.1)
    moved_lacks (code_subset a b) s = (moved_lacks a s.0, moved_lacks b s.1)
    moved_lacks (code_card a) s = moved_lacks a s
    moved_lacks (code_slice a b c) s = (moved_lacks a s.0, moved_lacks b s.1, moved_lacks c s.2)
    moved_lacks (code_fresh a b) s = (moved_lacks a s.0, moved_lacks b s.1)
    moved_lacks (code_if a b c) s = (moved_lacks a s.0, moved_lacks b s.1, moved_lacks c s.2)
    moved_lacks (code_let first n a b) s = (moved_lacks a s.0, moved_lacks b s.1)
    moved_lacks (code_solve n arms) s = s

    pub all_moved_lack : (cs : CodeTrees) → AllLack x cs → AllLack x (all_moved f cs)
    all_moved_lack no_codes s = tt
    all_moved_lack (code_more c cs) s = (moved_lacks c s.0, all_moved_lack cs s.1)

  pub items_moved_lack : (is : ItemTrees) → ItemsLack x is → ItemsLack x (items_moved f is)
  items_moved_lack no_items s = tt
  items_moved_lack (item_more (let_item c) is) s = (moved_lacks c s.0, items_moved_lack is s.1)
  items_moved_lack (item_more (need_item c) is) s = (moved_lacks c s.0, items_moved_lack is s.1)

-- ---- falling
pub fallen_above : (x y : ℕ) → x < y → fallen x y ≡ y - 1
fallen_above x y h = ap (λ b. cond b (y - 1) y) (below x y h)
  where
    below : (x y : ℕ) → x < y → nat_lt x y ≡ true
    below x y h = grind (arith, nat_tests)

pub fallen_below : (x y : ℕ) → y ≤ x → fallen x y ≡ y
fallen_below x y h = ap (λ b. cond b (y - 1) y) (above x y h)
  where
    above : (x y : ℕ) → y ≤ x → nat_lt x y ≡ false
    above x y h = grind (arith, nat_tests)

pub fallen_low : (x y : ℕ) → fallen x y ≤ y
fallen_low x y = by (cases_lt x y)
  where
    by : (x < y) ⊎ (y ≤ x) → fallen x y ≤ y
    by (inl h) = subst (λ z. z ≤ y) (sym (fallen_above x y h)) (omega arith)
    by (inr h) = subst (λ z. z ≤ y) (sym (fallen_below x y h)) (omega arith)

pub fallen_apart : (n x : ℕ) → x < n → (y : ℕ) → x ≢ y → x ≢ fallen n y
fallen_apart n x l y s = by (cases_lt n y)
  where
    no : x ≡ y - 1 → n < y → ⊥
    no e h = omega (arith, e, h, l)

    by : (n < y) ⊎ (y ≤ n) → x ≢ fallen n y
    by (inl h) = λ e. no (e ∙ fallen_above n y h) h
    by (inr h) = λ e. s (e ∙ fallen_below n y h)

fallen_suc : (x y : ℕ) → fallen (suc x) (suc y) ≡ suc (fallen x y)
fallen_suc x y = by (cases_lt x y)
  where
    by : (x < y) ⊎ (y ≤ x) → fallen (suc x) (suc y) ≡ suc (fallen x y)
    by (inl h) =
        let k : suc x < suc y = omega (arith, h) in
        let m : suc y - 1 ≡ suc (y - 1) = omega (arith, h) in
        fallen_above (suc x) (suc y) k ∙ m ∙ ap suc (sym (fallen_above x y h))
    by (inr h) = let k : suc y ≤ suc x = omega (arith, h) in fallen_below (suc x) (suc y) k ∙ ap suc (sym (fallen_below x y h))

fallen_first : (y : ℕ) → fallen 0 (suc y) ≡ y
fallen_first y = let m : suc y - 1 ≡ y = omega arith in fallen_above 0 (suc y) (omega arith) ∙ m

fallen_zero : (x : ℕ) → fallen x 0 ≡ 0
fallen_zero x = fallen_below x 0 (omega arith)

-- an entry of a list, where one entry is left out
get_fallen : {A : Type 0} (front : List A) (v : A) (back : List A) (y : ℕ) → length front ≢ y →
    slice_get (front ++ back) (fallen (length front) y) ≡ slice_get (front ++ v ∷ back) y
get_fallen [] v back zero s = absurd (s refl)
get_fallen [] v back (suc y) s = ap (λ i. slice_get back i) (fallen_first y)
get_fallen (w ∷ front) v back zero s = ap (λ i. slice_get (w ∷ (front ++ back)) i) (fallen_zero (suc (length front)))
get_fallen (w ∷ front) v back (suc y) s =
    ap (λ i. slice_get (w ∷ (front ++ back)) i) (fallen_suc (length front) y) ∙ get_fallen front v back y (λ e. s (ap suc e))

get_or_fallen : {A : Type 0} (d : A) (front : List A) (v : A) (back : List A) (y : ℕ) → length front ≢ y →
    slice_index_or (front ++ back) (fallen (length front) y) d ≡ slice_index_or (front ++ v ∷ back) y d
get_or_fallen d [] v back zero s = absurd (s refl)
get_or_fallen d [] v back (suc y) s = ap (λ i. slice_index_or back i d) (fallen_first y)
get_or_fallen d (w ∷ front) v back zero s = ap (λ i. slice_index_or (w ∷ (front ++ back)) i d) (fallen_zero (suc (length front)))
get_or_fallen d (w ∷ front) v back (suc y) s =
    ap (λ i. slice_index_or (w ∷ (front ++ back)) i d) (fallen_suc (length front) y) ∙ get_or_fallen d front v back y (λ e. s (ap suc e))

-- ---- types
module _ (front : List Base) (b : Base) where
  abbrev down : ℕ → ℕ
  down = fallen (length front)

  long : (back : List Base) → length (front ++ back) ≡ down (length (front ++ b ∷ back))
  long back =
      let l = length-append front back in
      let m = length-append front (b ∷ back) in
      let h : length front < length (front ++ b ∷ back) = omega (arith, m) in
      let k : length (front ++ back) ≡ length (front ++ b ∷ back) - 1 = omega (arith, l, m) in
      k ∙ sym (fallen_above (length front) (length (front ++ b ∷ back)) h)

  mutual
    pub moved_typed : (c : CodeTree) (back : List Base) (asked : Option (List Base)) (bs : List Base) → Lacks (length front) c → HasNoSolve c →
        HasBases c (front ++ b ∷ back) asked bs → HasBases (moved down c) (front ++ back) asked bs
    moved_typed (code_lit k) back asked bs u s h = h
    moved_typed (code_truth t) back asked bs u s h = h
    moved_typed (code_var y) back asked bs u s h = (h.0, get_fallen front b back y u ∙ h.1, h.2)
    moved_typed (code_set_of cs) back asked bs u s h = (all_typed cs back Int u s h.0, h.1)
    moved_typed (code_tuple cs) back asked bs u s h = (rw (moved_count down cs) h.0, parts_typed cs back asked bs u s h.1, h.2)
    moved_typed (code_sum cs) back asked bs u s h = (rw (moved_count down cs) h.0, all_typed cs back Int u s h.1, h.2)
    moved_typed (code_sub a d) back asked bs u s h = (
      moved_typed a back (ask Int) (one Int) u.0 s.0 h.0,
      moved_typed d back (ask Int) (one Int) u.1
          s.1 h.1,
      h.2,
    )
    moved_typed (code_mul a d) back asked bs u s h = (
      moved_typed a back (ask Int) (one Int) u.0 s.0 h.0,
      moved_typed d back (ask Int) (one Int) u.1
          s.1 h.1,
      h.2,
    )
    moved_typed (code_neg a) back asked bs u s h = (moved_typed a back (ask Int) (one Int) u s h.0, h.1)
    moved_typed (code_div a k) back asked bs u s h = (h.0, moved_typed a back (ask Int) (one Int) u s h.1, h.2)
    moved_typed (code_mod a k) back asked bs u s h = (h.0, moved_typed a back (ask Int) (one Int) u s h.1, h.2)
    moved_typed (code_min cs) back asked bs u s h = (rw (moved_count down cs) h.0, all_typed cs back Int u s h.1, h.2)
    moved_typed (code_max cs) back asked bs u s h = (rw (moved_count down cs) h.0, all_typed cs back Int u s h.1, h.2)
    moved_typed (code_compare o a d) back asked bs u s h = (
      h.0,
      h.1,
      moved_typed a back (side o) (one h.0) u.0 s.0 h.2,
      moved_typed d back (side o)
          (one h.0) u.1 s.1 h.3,
      h.4,
    )
    moved_typed (code_divides k a) back asked bs u s h = (h.0, moved_typed a back (ask Int) (one Int) u s h.1, h.2)
    moved_typed (code_and a d) back asked bs u s h = (
      moved_typed a back (ask Truth) (one Truth) u.0 s.0 h.0,
      moved_typed d back (ask Truth)
          (one Truth) u.1 s.1 h.1,
      h.2,
    )
    moved_typed (code_or a d) back asked bs u s h = (
      moved_typed a back (ask Truth) (one Truth) u.0 s.0 h.0,
      moved_typed d back (ask Truth)
          (one Truth) u.1 s.1 h.1,
      h.2,
    )
    moved_typed (code_not a) back asked bs u s h = (moved_typed a back (ask Truth) (one Truth) u s h.0, h.1)
    moved_typed (code_union cs) back asked bs u s h = (rw (moved_count down cs) h.0, all_typed cs back Set u s h.1, h.2)
    moved_typed (code_inter cs) back asked bs u s h = (rw (moved_count down cs) h.0, all_typed cs back Set u s h.1, h.2)
    moved_typed (code_diff a d) back asked bs u s h = (
      moved_typed a back (ask Set) (one Set) u.0 s.0 h.0,
      moved_typed d back (ask Set) (one Set) u.1
          s.1 h.1,
      h.2,
    )
    moved_typed (code_subset a d) back asked bs u s h = (
      moved_typed a back (ask Set) (one Set) u.0 s.0 h.0,
      moved_typed d back (ask Set) (one Set)
          u.1 s.1 h.1,
      h.2,
    )
    moved_typed (code_card a) back asked bs u s h = (moved_typed a back (ask Set) (one Set) u s h.0, h.1)
    moved_typed (code_slice a d c) back asked bs u s h = (
      moved_typed a back (ask Set) (one Set) u.0 s.0 h.0,
      moved_typed d back (ask Int) (one Int)
          u.1 s.1 h.1,
      moved_typed c back (ask Int) (one Int) u.2 s.2 h.2,
      h.3,
    )
    moved_typed (code_fresh a d) back asked bs u s h = (
      moved_typed a back (ask Set) (one Set) u.0 s.0 h.0,
      moved_typed d back (ask Int) (one Int) u.1
          s.1 h.1,
      h.2,
    )
    moved_typed (code_if a d c) back asked bs u s h = (
      moved_typed a back (ask Truth) (one Truth) u.0 s.0 h.0,
      moved_typed d back asked bs u.1 s.1
          h.1,
      moved_typed c back asked bs u.2 s.2 h.2,
    )
    moved_typed (code_let first n a d) back asked bs u s h =
        let body : HasBases d (front ++ b ∷ (back ++ h.0)) asked bs = subst (λ sc. HasBases d sc asked bs) (append_assoc front (b ∷ back) h.0) h.4 in (
          h.0,
          moved_typed a back None h.0 u.0 s.0 h.1,
          ap down h.2 ∙ sym (long back),
          h.3,
          subst (λ sc. HasBases (moved down d) sc asked bs) (sym (append_assoc front back h.0)) (moved_typed d (back ++ h.0) asked bs u.1 s.1 body),
        )
    moved_typed (code_solve n arms) back asked bs u s h = absurd s

    pub all_typed : (cs : CodeTrees) (back : List Base) (k : Base) → AllLack (length front) cs → HaveNoSolve cs → AllHave cs (front ++ b ∷ back) k →
        AllHave (all_moved down cs) (front ++ back) k
    all_typed no_codes back k u s h = tt
    all_typed (code_more c cs) back k u s h = (moved_typed c back (ask k) (one k) u.0 s.0 h.0, all_typed cs back k u.1 s.1 h.1)

    pub parts_typed : (cs : CodeTrees) (back : List Base) (asked : Option (List Base)) (bs : List Base) → AllLack (length front) cs → HaveNoSolve cs →
        PartsHave cs (front ++ b ∷ back) asked bs → PartsHave (all_moved down cs) (front ++ back) asked bs
    parts_typed no_codes back asked bs u s h = h
    parts_typed (code_more c cs) back asked bs u s h =
        (h.0, h.1, h.2, moved_typed c back (share asked h.0) (one h.0) u.0 s.0 h.3, parts_typed cs back asked h.1 u.1 s.1 h.4)

  pub items_typed : (is : ItemTrees) (gs : CodeTrees) (back bs : List Base) → ItemsLack (length front) is → AllLack (length front) gs →
      ItemsHaveNoSolve is → HaveNoSolve gs →
      ItemsHave is (front ++ b ∷ back) (λ inner. PartsHave gs inner None bs) →
      ItemsHave (items_moved down is) (front ++ back) (λ inner. PartsHave (all_moved down gs) inner None bs)
  items_typed no_items gs back bs u v s t h = parts_typed gs back None bs v t h
  items_typed (item_more (let_item c) is) gs back bs u v s t h =
      let rest : ItemsHave is (front ++ b ∷ (back ++ one h.0)) (λ inner. PartsHave gs inner None bs) =
      subst (λ sc. ItemsHave is sc (λ inner. PartsHave gs inner None bs)) (append_assoc front (b ∷ back) (one h.0)) h.2 in (
        h.0,
        moved_typed c back None (one h.0) u.0 s.0 h.1,
        subst (λ sc. ItemsHave (items_moved down is) sc (λ inner. PartsHave (all_moved down gs) inner None bs)) (sym (append_assoc front back (one h.0)))
            (items_typed is gs (back ++ one h.0) bs u.1 v s.1 t rest),
      )
  items_typed (item_more (need_item c) is) gs back bs u v s t h = (
    moved_typed c back (ask Truth) (one Truth) u.0 s.0 h.0,
    items_typed is gs back bs
        u.1 v s.1 t h.1,
  )

-- ---- paths
pub then_same : {A B : Type 0} (p q : Path A) (go ko : A → Path B) → p ≡ q → ((x : A) → go x ≡ ko x) → then_path p go ≡ then_path q ko
then_same {A = A} {B = B} p q go ko e s = rw e (by q.gives q.peak)
  where
    by : (g : Got A) (k : ℕ) →
        ◌≡◌ {A = Path B} (record { gives = then_gives g (λ x. (go x).gives); peak = then_peak k g (λ x. (go x).peak) })
        (record { gives = then_gives g (λ x. (ko x).gives); peak = then_peak k g (λ x. (ko x).peak) })
    by (got x) k = ap (λ (r : Path B). record { gives = r.gives; peak = max k r.peak }) (s x)
    by (none_at n) k = refl

if_same : {A : Type 0} (t : Bool) (p q r s : Path A) → p ≡ r → q ≡ s → cond t p q ≡ cond t r s
if_same true p q r s h k = h
if_same false p q r s h k = k

module _ (front : List Value) (v : Value) where
  abbrev fall : ℕ → ℕ
  fall = fallen (length front)

  mutual
    pub moved_path : (c : CodeTree) (back : List Value) → Lacks (length front) c → HasNoSolve c →
        path (moved fall c) (front ++ back) ≡ path c (front ++ v ∷ back)
    moved_path (code_lit k) back u s = refl
    moved_path (code_truth t) back u s = refl
    moved_path (code_var y) back u s = ap meets_value (get_or_fallen (number (pos 0)) front v back y u)
    moved_path (code_set_of cs) back u s = set_same cs back [] u s
    moved_path (code_tuple cs) back u s = all_same cs back [] u s
    moved_path (code_sum cs) back u s = sum_same cs back (pos 0) u s
    moved_path (code_sub a b) back u s = then_same _ _ _ _ (moved_path a back u.0 s.0) (λ x. then_same _ _ _ _ (moved_path b back u.1 s.1) (λ y. refl))
    moved_path (code_mul a b) back u s = then_same _ _ _ _ (moved_path a back u.0 s.0) (λ x. then_same _ _ _ _ (moved_path b back u.1 s.1) (λ y. refl))
    moved_path (code_neg a) back u s = then_same _ _ _ _ (moved_path a back u s) (λ x. refl)
    moved_path (code_div a k) back u s = then_same _ _ _ _ (moved_path a back u s) (λ x. refl)
    moved_path (code_mod a k) back u s = then_same _ _ _ _ (moved_path a back u s) (λ x. refl)
    moved_path (code_min cs) back u s = best_same int_min cs back None u s
    moved_path (code_max cs) back u s = best_same int_max cs back None u s
    moved_path (code_compare o a b) back u s = then_same _ _ _ _ (moved_path a back u.0 s.0) (λ x. then_same _ _ _ _ (moved_path b back u.1 s.1) (λ y. refl))
    moved_path (code_divides k a) back u s = then_same _ _ _ _ (moved_path a back u s) (λ x. refl)
    moved_path (code_and a b) back u s =
        then_same _ _ _ _ (moved_path a back u.0 s.0)
        (λ x. if_same (truth_in x) (path (moved fall b) (front ++ back)) (gives_truth false) (path b (front ++ v ∷ back)) (gives_truth false)
        (moved_path b back u.1 s.1) refl)
    moved_path (code_or a b) back u s =
        then_same _ _ _ _ (moved_path a back u.0 s.0)
        (λ x. if_same (truth_in x) (gives_truth true) (path (moved fall b) (front ++ back)) (gives_truth true) (path b (front ++ v ∷ back)) refl
        (moved_path b back u.1 s.1))
    moved_path (code_not a) back u s = then_same _ _ _ _ (moved_path a back u s) (λ x. refl)
    moved_path (code_union cs) back u s = join_same set_union cs back None u s
    moved_path (code_inter cs) back u s = join_same set_inter cs back None u s
    moved_path (code_diff a b) back u s = then_same _ _ _ _ (moved_path a back u.0 s.0) (λ x. then_same _ _ _ _ (moved_path b back u.1 s.1) (λ y. refl))
    moved_path (code_subset a b) back u s = then_same _ _ _ _ (moved_path a back u.0 s.0) (λ x. then_same _ _ _ _ (moved_path b back u.1 s.1) (λ y. refl))
    moved_path (code_card a) back u s = then_same _ _ _ _ (moved_path a back u s) (λ x. refl)
    moved_path (code_slice a b c) back u s = then_same _ _ _ _ (moved_path a back u.0 s.0)
        (λ x. then_same _ _ _ _ (moved_path b back u.1 s.1) (λ y. then_same _ _ _ _ (moved_path c back u.2 s.2) (λ z. refl)))
    moved_path (code_fresh a b) back u s = then_same _ _ _ _ (moved_path a back u.0 s.0) (λ x. then_same _ _ _ _ (moved_path b back u.1 s.1) (λ y. refl))
    moved_path (code_if a b c) back u s =
        then_same _ _ _ _ (moved_path a back u.0 s.0)
        (λ x. if_same (truth_in x) (path (moved fall b) (front ++ back)) (path (moved fall c) (front ++ back)) (path b (front ++ v ∷ back))
        (path c (front ++ v ∷ back))
        (moved_path b back u.1 s.1) (moved_path c back u.2 s.2))
    moved_path (code_let first n a b) back u s =
        then_same _ _ _ _ (moved_path a back u.0 s.0) (λ x. rw (append_assoc front back x, append_assoc front (v ∷ back) x)
        (moved_path b (back ++ x) u.1 s.1))
    moved_path (code_solve n arms) back u s = absurd s

    pub all_same : (cs : CodeTrees) (back done : List Value) → AllLack (length front) cs → HaveNoSolve cs →
        all_path (all_moved fall cs) (front ++ back) done ≡ all_path cs (front ++ v ∷ back) done
    all_same no_codes back done u s = refl
    all_same (code_more c cs) back done u s = then_same _ _ _ _ (moved_path c back u.0 s.0) (λ x. all_same cs back (done ++ x) u.1 s.1)

    set_same : (cs : CodeTrees) (back : List Value) (done : List ℤ) → AllLack (length front) cs → HaveNoSolve cs →
        set_path (all_moved fall cs) (front ++ back) done ≡ set_path cs (front ++ v ∷ back) done
    set_same no_codes back done u s = refl
    set_same (code_more c cs) back done u s = then_same _ _ _ _ (moved_path c back u.0 s.0) (λ x. set_same cs back (set_put (number_in x) done) u.1 s.1)

    sum_same : (cs : CodeTrees) (back : List Value) (z : ℤ) → AllLack (length front) cs → HaveNoSolve cs →
        sum_path (all_moved fall cs) (front ++ back) z ≡ sum_path cs (front ++ v ∷ back) z
    sum_same no_codes back z u s = refl
    sum_same (code_more c cs) back z u s =
        then_same _ _ _ _ (moved_path c back u.0 s.0)
        (λ x. then_same (meets (z +ℤ number_in x)) (meets (z +ℤ number_in x)) (λ r. sum_path (all_moved fall cs) (front ++ back) (number_in r))
        (λ r. sum_path cs (front ++ v ∷ back) (number_in r)) refl (λ r. sum_same cs back (number_in r) u.1 s.1))

    best_same : (better : ℤ → ℤ → ℤ) (cs : CodeTrees) (back : List Value) (z : Option ℤ) → AllLack (length front) cs → HaveNoSolve cs →
        best_path better (all_moved fall cs) (front ++ back) z ≡ best_path better cs (front ++ v ∷ back) z
    best_same better no_codes back z u s = refl
    best_same better (code_more c cs) back z u s =
        then_same _ _ _ _ (moved_path c back u.0 s.0) (λ x. best_same better cs back (Some (choose_with better z (number_in x))) u.1 s.1)

    join_same : (join : List ℤ → List ℤ → List ℤ) (cs : CodeTrees) (back : List Value) (zs : Option (List ℤ)) → AllLack (length front) cs → HaveNoSolve cs →
        join_path join (all_moved fall cs) (front ++ back) zs ≡ join_path join cs (front ++ v ∷ back) zs
    join_same join no_codes back zs u s = refl
    join_same join (code_more c cs) back zs u s =
        then_same _ _ _ _ (moved_path c back u.0 s.0) (λ x. join_same join cs back (Some (joined_with join zs (set_in x))) u.1 s.1)
