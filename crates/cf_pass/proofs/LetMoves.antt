-- Levels of a code that are moved twice, or to themselves, and the marks of a code.
use Rattle.std.proofs.Common.{◌≡◌, ◌<◌, ℕ, zero, suc, ◌+◌, nat_eq, Bool, true, false, ◌||◌, List, ◌∷◌, ◌++◌, refl, sym, ap, ◌∙◌, arith}
use Rattle.cf_tree.specs.CodeTree.{CodeTree, code_lit, code_truth, code_var, code_set_of, code_tuple, code_sum, code_sub, code_mul, code_neg, code_div, code_mod, code_min, code_max, code_compare, code_divides, code_and, code_or, code_not, code_union, code_inter, code_diff, code_subset, code_card, code_slice, code_fresh, code_if, code_let, code_solve, CodeTrees, no_codes, code_more, let_item, need_item, ItemTrees, no_items, item_more}
use Rattle.cf_pass.specs.Lets.{uses, any_uses, items_use, moved, all_moved, items_moved, rest_moved}
use Rattle.cf_pass.specs.LetSteps.{marks_of, level_marked, marked, all_marked}

-- ---- moved twice
module _ (f g h : ℕ → ℕ) (e : (y : ℕ) → f (g y) ≡ h y) where
  mutual
    pub moved_twice : (c : CodeTree) → moved f (moved g c) ≡ moved h c
    moved_twice (code_lit k) = refl
    moved_twice (code_truth t) = refl
    moved_twice (code_var y) = ap code_var (e y)
    moved_twice (code_set_of cs) = rw (all_moved_twice cs) refl
    moved_twice (code_tuple cs) = rw (all_moved_twice cs) refl
    moved_twice (code_sum cs) = rw (all_moved_twice cs) refl
    moved_twice (code_sub a b) = rw (moved_twice a, moved_twice b) refl
    moved_twice (code_mul a b) = rw (moved_twice a, moved_twice b) refl
    moved_twice (code_neg a) = rw (moved_twice a) refl
    moved_twice (code_div a k) = rw (moved_twice a) refl
    moved_twice (code_mod a k) = rw (moved_twice a) refl
    moved_twice (code_min cs) = rw (all_moved_twice cs) refl
    moved_twice (code_max cs) = rw (all_moved_twice cs) refl
    moved_twice (code_compare o a b) = rw (moved_twice a, moved_twice b) refl
    moved_twice (code_divides k a) = rw (moved_twice a) refl
    moved_twice (code_and a b) = rw (moved_twice a, moved_twice b) refl
    moved_twice (code_or a b) = rw (moved_twice a, moved_twice b) refl
    moved_twice (code_not a) = rw (moved_twice a) refl
    moved_twice (code_union cs) = rw (all_moved_twice cs) refl
    moved_twice (code_inter cs) = rw (all_moved_twice cs) refl
    moved_twice (code_diff a b) = rw (moved_twice a, moved_twice b) refl
    moved_twice (code_subset a b) = rw (moved_twice a, moved_twice b) refl
    moved_twice (code_card a) = rw (moved_twice a) refl
    moved_twice (code_slice a b c) = rw (moved_twice a, moved_twice b, moved_twice c) refl
    moved_twice (code_fresh a b) = rw (moved_twice a, moved_twice b) refl
    moved_twice (code_if a b c) = rw (moved_twice a, moved_twice b, moved_twice c) refl
    moved_twice (code_let first m a b) = rw (e first, moved_twice a, moved_twice b) refl
    moved_twice (code_solve m arms) = refl

    pub all_moved_twice : (cs : CodeTrees) → all_moved f (all_moved g cs) ≡ all_moved h cs
    all_moved_twice no_codes = refl
    all_moved_twice (code_more c cs) = rw (moved_twice c, all_moved_twice cs) refl

  pub items_moved_twice : (is : ItemTrees) → items_moved f (items_moved g is) ≡ items_moved h is
  items_moved_twice no_items = refl
  items_moved_twice (item_more (let_item c) is) = rw (moved_twice c, items_moved_twice is) refl
  items_moved_twice (item_more (need_item c) is) = rw (moved_twice c, items_moved_twice is) refl

  pub rest_moved_twice : (is : ItemTrees) (gs : CodeTrees) →
      rest_moved f (rest_moved g (record { items = is; gives = gs })) ≡ rest_moved h (record { items = is; gives = gs })
  rest_moved_twice is gs = rw (items_moved_twice is, all_moved_twice gs) refl

-- ---- moved to themselves
module _ (f : ℕ → ℕ) (e : (y : ℕ) → f y ≡ y) where
  mutual
    pub moved_self : (c : CodeTree) → moved f c ≡ c
    moved_self (code_lit k) = refl
    moved_self (code_truth t) = refl
    moved_self (code_var y) = ap code_var (e y)
    moved_self (code_set_of cs) = rw (all_moved_self cs) refl
    moved_self (code_tuple cs) = rw (all_moved_self cs) refl
    moved_self (code_sum cs) = rw (all_moved_self cs) refl
    moved_self (code_sub a b) = rw (moved_self a, moved_self b) refl
    moved_self (code_mul a b) = rw (moved_self a, moved_self b) refl
    moved_self (code_neg a) = rw (moved_self a) refl
    moved_self (code_div a k) = rw (moved_self a) refl
    moved_self (code_mod a k) = rw (moved_self a) refl
    moved_self (code_min cs) = rw (all_moved_self cs) refl
    moved_self (code_max cs) = rw (all_moved_self cs) refl
    moved_self (code_compare o a b) = rw (moved_self a, moved_self b) refl
    moved_self (code_divides k a) = rw (moved_self a) refl
    moved_self (code_and a b) = rw (moved_self a, moved_self b) refl
    moved_self (code_or a b) = rw (moved_self a, moved_self b) refl
    moved_self (code_not a) = rw (moved_self a) refl
    moved_self (code_union cs) = rw (all_moved_self cs) refl
    moved_self (code_inter cs) = rw (all_moved_self cs) refl
    moved_self (code_diff a b) = rw (moved_self a, moved_self b) refl
    moved_self (code_subset a b) = rw (moved_self a, moved_self b) refl
    moved_self (code_card a) = rw (moved_self a) refl
    moved_self (code_slice a b c) = rw (moved_self a, moved_self b, moved_self c) refl
    moved_self (code_fresh a b) = rw (moved_self a, moved_self b) refl
    moved_self (code_if a b c) = rw (moved_self a, moved_self b, moved_self c) refl
    moved_self (code_let first m a b) = rw (e first, moved_self a, moved_self b) refl
    moved_self (code_solve m arms) = refl

    pub all_moved_self : (cs : CodeTrees) → all_moved f cs ≡ cs
    all_moved_self no_codes = refl
    all_moved_self (code_more c cs) = rw (moved_self c, all_moved_self cs) refl

  pub items_moved_self : (is : ItemTrees) → items_moved f is ≡ is
  items_moved_self no_items = refl
  items_moved_self (item_more (let_item c) is) = rw (moved_self c, items_moved_self is) refl
  items_moved_self (item_more (need_item c) is) = rw (moved_self c, items_moved_self is) refl

  pub rest_moved_self : (is : ItemTrees) (gs : CodeTrees) → rest_moved f (record { items = is; gives = gs }) ≡ record { items = is; gives = gs }
  rest_moved_self is gs = rw (items_moved_self is, all_moved_self gs) refl

-- ---- use of a level to which no other one is moved
module _ (f : ℕ → ℕ) (x : ℕ) (e : (y : ℕ) → nat_eq x (f y) ≡ nat_eq x y) where
  mutual
    pub moved_uses : (c : CodeTree) → uses x (moved f c) ≡ uses x c
    moved_uses (code_lit k) = refl
    moved_uses (code_truth t) = refl
    moved_uses (code_var y) = e y
    moved_uses (code_set_of cs) = rw (all_moved_uses cs) refl
    moved_uses (code_tuple cs) = rw (all_moved_uses cs) refl
    moved_uses (code_sum cs) = rw (all_moved_uses cs) refl
    moved_uses (code_sub a b) = rw (moved_uses a, moved_uses b) refl
    moved_uses (code_mul a b) = rw (moved_uses a, moved_uses b) refl
    moved_uses (code_neg a) = rw (moved_uses a) refl
    moved_uses (code_div a k) = rw (moved_uses a) refl
    moved_uses (code_mod a k) = rw (moved_uses a) refl
    moved_uses (code_min cs) = rw (all_moved_uses cs) refl
    moved_uses (code_max cs) = rw (all_moved_uses cs) refl
    moved_uses (code_compare o a b) = rw (moved_uses a, moved_uses b) refl
    moved_uses (code_divides k a) = rw (moved_uses a) refl
    moved_uses (code_and a b) = rw (moved_uses a, moved_uses b) refl
    moved_uses (code_or a b) = rw (moved_uses a, moved_uses b) refl
    moved_uses (code_not a) = rw (moved_uses a) refl
    moved_uses (code_union cs) = rw (all_moved_uses cs) refl
    moved_uses (code_inter cs) = rw (all_moved_uses cs) refl
    moved_uses (code_diff a b) = rw (moved_uses a, moved_uses b) refl
    moved_uses (code_subset a b) = rw (moved_uses a, moved_uses b) refl
    moved_uses (code_card a) = rw (moved_uses a) refl
    moved_uses (code_slice a b c) = rw (moved_uses a, moved_uses b, moved_uses c) refl
    moved_uses (code_fresh a b) = rw (moved_uses a, moved_uses b) refl
    moved_uses (code_if a b c) = rw (moved_uses a, moved_uses b, moved_uses c) refl
    moved_uses (code_let first m a b) = rw (moved_uses a, moved_uses b) refl
    moved_uses (code_solve m arms) = refl

    pub all_moved_uses : (cs : CodeTrees) → any_uses x (all_moved f cs) ≡ any_uses x cs
    all_moved_uses no_codes = refl
    all_moved_uses (code_more c cs) = rw (moved_uses c, all_moved_uses cs) refl

  pub items_moved_use : (is : ItemTrees) → items_use x (items_moved f is) ≡ items_use x is
  items_moved_use no_items = refl
  items_moved_use (item_more (let_item c) is) = rw (moved_uses c, items_moved_use is) refl
  items_moved_use (item_more (need_item c) is) = rw (moved_uses c, items_moved_use is) refl

-- ---- marks
pub or_assoc : (t u v : Bool) → ((t || u) || v) ≡ (t || (u || v))
or_assoc true u v = refl
or_assoc false u v = refl

or_four : (t u v w : Bool) → (((t || u) || v) || w) ≡ (t || (u || v || w))
or_four true u v w = refl
or_four false true v w = refl
or_four false false v w = refl

pub or_none : (t : Bool) → (t || false) ≡ t
or_none true = refl
or_none false = refl

pub marks_same : (u v : ℕ → Bool) (x k : ℕ) → ((y : ℕ) → y < x + k → u y ≡ v y) → marks_of u x k ≡ marks_of v x k
marks_same u v x zero e = refl
marks_same u v x (suc k) e = rw (e x (omega arith), marks_same u v (suc x) k (λ y l. e y (omega (arith, l)))) refl

level_marks : (u : ℕ → Bool) (x k y : ℕ) (fs : List Bool) → level_marked x k y (marks_of u x k ++ fs) ≡ marks_of (λ z. u z || nat_eq z y) x k ++ fs
level_marks u x zero y fs = refl
level_marks u x (suc k) y fs = ap (λ bs. (u x || nat_eq x y) ∷ bs) (level_marks u (suc x) k y fs)

module _ (x k : ℕ) (fs : List Bool) where
  -- the marks of levels by which one of these uses them
  abbrev marks : (ℕ → Bool) → List Bool
  marks u = marks_of u x k ++ fs

  same : (u v : ℕ → Bool) → ((y : ℕ) → u y ≡ v y) → marks u ≡ marks v
  same u v e = ap (λ bs. bs ++ fs) (marks_same u v x k (λ y l. e y))

  two : (u p q : ℕ → Bool) → marks (λ y. (u y || p y) || q y) ≡ marks (λ y. u y || (p y || q y))
  two u p q = same _ _ (λ y. or_assoc (u y) (p y) (q y))

  three : (u p q r : ℕ → Bool) → marks (λ y. ((u y || p y) || q y) || r y) ≡ marks (λ y. u y || (p y || q y || r y))
  three u p q r = same _ _ (λ y. or_four (u y) (p y) (q y) (r y))

  mutual
    pub marked_marks : (c : CodeTree) (u : ℕ → Bool) → marked x k c (marks u) ≡ marks (λ y. u y || uses y c)
    marked_marks (code_lit k) u = sym (same _ _ (λ y. or_none (u y)))
    marked_marks (code_truth t) u = sym (same _ _ (λ y. or_none (u y)))
    marked_marks (code_var y) u = level_marks u x k y fs
    marked_marks (code_set_of cs) u = all_marked_marks cs u
    marked_marks (code_tuple cs) u = all_marked_marks cs u
    marked_marks (code_sum cs) u = all_marked_marks cs u
    marked_marks (code_sub a b) u =
        ap (λ bs. marked x k b bs) (marked_marks a u) ∙ marked_marks b (λ y. u y || uses y a) ∙ two u (λ y. uses y a) (λ y. uses y b)
    marked_marks (code_mul a b) u =
        ap (λ bs. marked x k b bs) (marked_marks a u) ∙ marked_marks b (λ y. u y || uses y a) ∙ two u (λ y. uses y a) (λ y. uses y b)
    marked_marks (code_neg a) u = marked_marks a u
    marked_marks (code_div a k) u = marked_marks a u
    marked_marks (code_mod a k) u = marked_marks a u
    marked_marks (code_min cs) u = all_marked_marks cs u
    marked_marks (code_max cs) u = all_marked_marks cs u
    marked_marks (code_compare o a b) u =
        ap (λ bs. marked x k b bs) (marked_marks a u) ∙ marked_marks b (λ y. u y || uses y a) ∙ two u (λ y. uses y a) (λ y. uses y b)
    marked_marks (code_divides k a) u = marked_marks a u
    marked_marks (code_and a b) u =
        ap (λ bs. marked x k b bs) (marked_marks a u) ∙ marked_marks b (λ y. u y || uses y a) ∙ two u (λ y. uses y a) (λ y. uses y b)
    marked_marks (code_or a b) u =
        ap (λ bs. marked x k b bs) (marked_marks a u) ∙ marked_marks b (λ y. u y || uses y a) ∙ two u (λ y. uses y a) (λ y. uses y b)
    marked_marks (code_not a) u = marked_marks a u
    marked_marks (code_union cs) u = all_marked_marks cs u
    marked_marks (code_inter cs) u = all_marked_marks cs u
    marked_marks (code_diff a b) u =
        ap (λ bs. marked x k b bs) (marked_marks a u) ∙ marked_marks b (λ y. u y || uses y a) ∙ two u (λ y. uses y a) (λ y. uses y b)
    marked_marks (code_subset a b) u =
        ap (λ bs. marked x k b bs) (marked_marks a u) ∙ marked_marks b (λ y. u y || uses y a) ∙ two u (λ y. uses y a) (λ y. uses y b)
    marked_marks (code_card a) u = marked_marks a u
    marked_marks (code_slice a b c) u =
        ap (λ bs. marked x k c (marked x k b bs)) (marked_marks a u) ∙ ap (λ bs. marked x k c bs) (marked_marks b (λ y. u y || uses y a))
        ∙ marked_marks c (λ y. (u y || uses y a) || uses y b) ∙ three u (λ y. uses y a) (λ y. uses y b) (λ y. uses y c)
    marked_marks (code_fresh a b) u =
        ap (λ bs. marked x k b bs) (marked_marks a u) ∙ marked_marks b (λ y. u y || uses y a) ∙ two u (λ y. uses y a) (λ y. uses y b)
    marked_marks (code_if a b c) u =
        ap (λ bs. marked x k c (marked x k b bs)) (marked_marks a u) ∙ ap (λ bs. marked x k c bs) (marked_marks b (λ y. u y || uses y a))
        ∙ marked_marks c (λ y. (u y || uses y a) || uses y b) ∙ three u (λ y. uses y a) (λ y. uses y b) (λ y. uses y c)
    marked_marks (code_let first m a b) u =
        ap (λ bs. marked x k b bs) (marked_marks a u) ∙ marked_marks b (λ y. u y || uses y a) ∙ two u (λ y. uses y a) (λ y. uses y b)
    marked_marks (code_solve m arms) u = sym (same _ _ (λ y. or_none (u y)))

    pub all_marked_marks : (cs : CodeTrees) (u : ℕ → Bool) → all_marked x k cs (marks u) ≡ marks (λ y. u y || any_uses y cs)
    all_marked_marks no_codes u = sym (same _ _ (λ y. or_none (u y)))
    all_marked_marks (code_more c cs) u =
        ap (λ bs. all_marked x k cs bs) (marked_marks c u) ∙ all_marked_marks cs (λ y. u y || uses y c) ∙ two u (λ y. uses y c) (λ y. any_uses y cs)
