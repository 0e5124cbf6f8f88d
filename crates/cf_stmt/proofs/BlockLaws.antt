-- The block of a code does what the code does.
use Rattle.std.proofs.Common.{◌≡◌, ℕ, suc, ◌+◌, ℤ, pos, ◌-ℤ◌, ◌*ℤ◌, neg_ℤ, Bool, true, false, not, cond, Option, Some, None, List, [], ◌∷◌, ◌++◌, length, refl, sym, ap, subst, ◌∙◌, arith, append_assoc, zero-add}
use Rattle.std.specs.Int.{int_max, int_min}
use Rattle.cf_tree.specs.CodeTree.{CodeTree, code_lit, code_truth, code_var, code_set_of, code_tuple, code_sum, code_sub, code_mul, code_neg, code_div, code_mod, code_min, code_max, code_compare, code_divides, code_and, code_or, code_not, code_union, code_inter, code_diff, code_subset, code_card, code_slice, code_fresh, code_if, code_let, code_solve, CodeTrees, no_codes, code_more, ItemTree, let_item, need_item, ItemTrees, no_items, item_more, ArmTree, arm_of, ArmTrees, no_arms, arm_more, count}
use Rattle.cf_tree.specs.Meaning.{Path, gives_only, gives_truth, gives_set, meets, meets_set, meets_value, then_path, if_some, or_later, or_none, count_below, tuple_at, meets_all, choose_with, chosen, joined_with, joined, number_in, truth_in, set_in, path, all_path, set_path, sum_path, best_path, join_path, item_path, items_path, arm_path, arms_path}
use Rattle.cf_tree.specs.Numbers.{quotient, remainder, is_multiple, count_of}
use Rattle.cf_tree.specs.Sets.{set_put, set_union, set_inter, set_diff, is_subset, set_slice, set_fresh}
use Rattle.cf_tree.specs.Values.{Value, first_of, compared}
use Rattle.cf_stmt.specs.Blocks.{Block, give, none, part, test, given, exec}
use Rattle.cf_stmt.specs.Made.{Plain, plain_or, stay, vars_then, two_codes, block_at, two_block, bound_parts, sum_block, sum_more, tuple_block, append, arms_block, arm_block, items_block, item_block, block_of}
use Rattle.cf_shift.specs.Meeting.{AreSmall}
use Rattle.cf_shift.specs.Shifted.{shifted, all_shifted}
use Rattle.cf_shift.proofs.MeetingLaws.{path_own}
use Rattle.cf_stmt.proofs.Parts.{Found, Folds, after, read_all, one_done, two_kept, two_done, three_done, either_part, then_small, then_from, first_small, still_small}
use Rattle.cf_stmt.proofs.Paths.{from, from_zero, then_then, then_alike, only_then, goes_on, if_alike, if_then, later_alike, later_later, later_none, first_alike, some_then, need_then}
use Rattle.cf_shift.proofs.ShiftedPaths.{shifted_path}
use Rattle.cf_stmt.proofs.SumPaths.{all_from, joins, either_elim, sum_ends, sum_one_more, sum_first, sum_of_two, sum_of_one}

-- the block gives what the code gives behind the front
gives_code : (c : CodeTree) (front env : List Value) → exec (give (shifted (length front) c)) (front ++ env) ≡ then_path (path c env) given
gives_code c front env = ap (λ p. then_path p given) (shifted_path front env c)

either : (t : Bool) (c : CodeTree) (b : Block) (front env : List Value) → exec b (front ++ env) ≡ then_path (path c env) given →
    exec (plain_or t (shifted (length front) c) b) (front ++ env) ≡ then_path (path c env) given
either true c b front env h = gives_code c front env
either false c b front env h = h

-- a test whose condition goes the way p gives, as its parts go on
tests : (t a b q r : Found) (p : Path (List Value)) → t ≡ then_path p given → a ≡ q → b ≡ r →
    then_path t (λ f. if_some f (λ x. cond (truth_in x) a b)) ≡ then_path p (λ x. cond (truth_in x) q r)
tests t a b q r p e h k = goes_on t p _ _ e (λ x. if_alike (truth_in x) a b q r h k)

tests_codes : (t a b : Found) (p q r : Path (List Value)) → t ≡ then_path p given → a ≡ then_path q given → b ≡ then_path r given →
    then_path t (λ f. if_some f (λ x. cond (truth_in x) a b)) ≡ then_path (then_path p (λ x. cond (truth_in x) q r)) given
tests_codes t a b p q r e h k =
    tests t a b (then_path q given) (then_path r given) p e h k
    ∙ (then_alike p _ _ (λ x. sym (if_then (truth_in x) q r given)) ∙ sym (then_then p (λ x. cond (truth_in x) q r) given))

-- a bind of a block that goes the way p gives
binds : (a : Found) (p : Path (List Value)) (b g : List Value → Found) (front env : List Value) → a ≡ then_path p given →
    ((e : List Value) → b (front ++ e) ≡ g e) → then_path a (λ f. if_some f (λ vs. b ((front ++ env) ++ vs))) ≡ then_path p (λ x. g (env ++ x))
binds a p b g front env e h = goes_on a p _ _ e (λ x. rw (append_assoc front env x) (h (env ++ x)))

-- an operation on two codes
two_parts : (t : Bool) (ba bb : Block) (a b : CodeTree) (front env : List Value) (op : CodeTree → CodeTree → CodeTree)
    (f : List Value → List Value → Path (List Value)) →
    ((c d : CodeTree) (e : List Value) → path (op c d) e ≡ then_path (path c e) (λ x. then_path (path d e) (f x))) →
    ((x y : List Value) → f (first_of x ∷ []) (first_of y ∷ []) ≡ f x y) → ((x y : List Value) → f (first_of x ∷ []) y ≡ f x y) →
    exec ba (front ++ env) ≡ then_path (path a env) given → ((v : Value) → exec bb (v ∷ (front ++ env)) ≡ then_path (path b env) given) →
    exec (two_block t ba bb (shifted (suc (length front)) b) op) (front ++ env) ≡ then_path (path (op a b) env) given
two_parts t ba bb a b front env op f law same half h k =
    either_part t ba (give (op (code_var 0) (shifted (suc (length front)) b))) (part bb (give (op (code_var 1) (code_var 0)))) (front ++ env) _
    (two_kept _ (path a env) (path b env) (λ v. path (op (code_var 0) (shifted (suc (length front)) b)) (v ∷ (front ++ env))) f h
    (λ v. law (code_var 0) (shifted (suc (length front)) b) (v ∷ (front ++ env))
    ∙ ap (λ q. then_path (meets_value v) (λ x. then_path q (f x))) (shifted_path (v ∷ front) env b)) (path_own a env) same half)
    (two_done _ (λ v. exec bb (v ∷ (front ++ env))) (path a env) (path b env)
    (λ v w. path (op (code_var 1) (code_var 0)) (w ∷ (v ∷ (front ++ env)))) f h k
    (λ v w. law (code_var 1) (code_var 0) (w ∷ (v ∷ (front ++ env)))) (path_own a env) (path_own b env) same)
    ∙ ap (λ p. then_path p given) (sym (law a b env))

-- an operation on the variables of all its parts
parts_read : (Z : Type 0) (go : CodeTrees → List Value → Z → Path (List Value)) (step : Z → List Value → Z)
    (last : Z → Path (List Value)) (folds : Folds Z go step last) (z : Z) (op : CodeTrees → CodeTree) →
    ((ds : CodeTrees) (e : List Value) → path (op ds) e ≡ go ds e z) → (rs outer env : List Value) (k : ℕ) → AreSmall k rs →
    from k (exec (give (op (vars_then 0 (length rs) no_codes))) ((rs ++ outer) ++ env))
    ≡ from k (then_path (go no_codes env (after Z go step last folds z rs)) given)
parts_read Z go step last folds z op law rs outer env k s =
    then_from k (path (op (vars_then 0 (length rs) no_codes)) ((rs ++ outer) ++ env)) (go no_codes env (after Z go step last folds z rs)) given
    (ap (from k) (law (vars_then 0 (length rs) no_codes) ((rs ++ outer) ++ env))
    ∙ (read_all Z go step last folds z rs (outer ++ env) ((rs ++ outer) ++ env) 0 no_codes k s (λ t. rw (append_assoc rs outer env, zero-add t) refl)
    ∙ ap (from k) (folds.nil ((rs ++ outer) ++ env) (after Z go step last folds z rs) ∙ sym (folds.nil env (after Z go step last folds z rs)))))

-- the block of a code does what the code does
abbrev Does : Plain → CodeTree → Type 0
Does plain c = (front env : List Value) → exec (block_at plain (length front) c) (front ++ env) ≡ then_path (path c env) given

abbrev EachDoes : Plain → CodeTrees → Type 0
EachDoes plain no_codes = Unit {0}
EachDoes plain (code_more c cs) = Does plain c × EachDoes plain cs

none_yet : (n : ℕ) → n ≡ 0 + n
none_yet n = sym (zero-add n)

module _ (plain : Plain) where
  -- parts
  does_parts : (cs : CodeTrees) → EachDoes plain cs → (Z : Type 0) (go : CodeTrees → List Value → Z → Path (List Value)) (step : Z → List Value → Z)
      (last : Z → Path (List Value)) (folds : Folds Z go step last) (z : Z) (op : CodeTrees → CodeTree) →
      ((ds : CodeTrees) (e : List Value) → path (op ds) e ≡ go ds e z) → (rs outer env : List Value) (k : ℕ) → AreSmall k rs →
      (j : ℕ) → j ≡ length rs + count cs →
      from k (exec (bound_parts plain (length (rs ++ outer)) cs (give (op (vars_then 0 j no_codes)))) ((rs ++ outer) ++ env))
      ≡ from k (then_path (go cs env (after Z go step last folds z rs)) given)
  does_parts no_codes d Z go step last folds z op law rs outer env k s j e =
      subst (λ i. from k (exec (give (op (vars_then 0 i no_codes))) ((rs ++ outer) ++ env))
      ≡ from k (then_path (go no_codes env (after Z go step last folds z rs)) given))
      (sym (e ∙ plus_none (length rs))) (parts_read Z go step last folds z op law rs outer env k s)
    where
      plus_none : (i : ℕ) → i + 0 ≡ i
      plus_none i = omega arith
  does_parts (code_more c cs) d Z go step last folds z op law rs outer env k s j e =
      ap (from k) (goes_on _ (path c env) _
      (λ x. exec (bound_parts plain (suc (length (rs ++ outer))) cs (give (op (vars_then 0 j no_codes)))) (first_of x ∷ ((rs ++ outer) ++ env)))
      (d.0 (rs ++ outer) env) (λ x. refl))
      ∙ (then_small k (path c env) _ (λ x. then_path (go cs env (step (after Z go step last folds z rs) x)) given) (path_own c env)
      (λ m x l t. does_parts cs d.1 Z go step last folds z op law (first_of x ∷ rs) outer env m (first_small m x t, still_small k m rs l s) j
      (e ∙ one_on (length rs) (count cs))
      ∙ ap (λ y. from m (then_path (go cs env y) given)) (folds.firsts (after Z go step last folds z rs) x))
      ∙ ap (from k) (sym (then_then (path c env) (λ x. go cs env (step (after Z go step last folds z rs) x)) given)
      ∙ ap (λ p. then_path p given) (sym (folds.more c cs env (after Z go step last folds z rs)))))
    where
      one_on : (a b : ℕ) → a + (1 + b) ≡ suc a + b
      one_on a b = omega arith

  does_tuple : (cs : CodeTrees) → EachDoes plain cs → (front env : List Value) →
      exec (tuple_block plain (length front) cs) (front ++ env) ≡ then_path (all_path cs env []) given
  does_tuple no_codes d front env = refl
  does_tuple (code_more c cs) d front env =
      joins _ _ (path c env) (λ done. all_path cs env done) (d.0 front env) (does_tuple cs d.1 front env) (all_from cs env)

  does_more : (cs : CodeTrees) → EachDoes plain cs → (ready : CodeTrees) (front env : List Value) →
      exec (sum_more plain (length front) ready cs) (front ++ env)
      ≡ then_path (then_path (sum_path ready (front ++ env) (pos 0)) (λ s. sum_path cs env (number_in s))) given
  does_more no_codes d ready front env = ap (λ p. then_path p given) (sym (sum_ends ready (front ++ env) (pos 0)))
  does_more (code_more c cs) d ready front env =
      either_elim (plain.part c) _ _ (front ++ env) _
      (does_more cs d.1 (append ready (code_more (shifted (length front) c) no_codes)) front env
      ∙ ap (λ p. then_path p given) (sum_one_more ready c cs front env))
      (goes_on _ (sum_path ready (front ++ env) (pos 0)) _ _ refl (λ s. goes_on _ (path c env) _ _ (d.0 (first_of s ∷ front) env)
      (λ x. does_more cs d.1 (two_codes (code_var 1) (code_var 0)) (first_of x ∷ (first_of s ∷ front)) env))
      ∙ sum_of_two (sum_path ready (front ++ env) (pos 0)) (path c env) (λ z. sum_path cs env z) (front ++ env)
      (path_own (code_sum ready) (front ++ env)) (path_own c env))

  does_sum : (cs : CodeTrees) → EachDoes plain cs → (front env : List Value) →
      exec (sum_block plain (length front) cs) (front ++ env) ≡ then_path (sum_path cs env (pos 0)) given
  does_sum no_codes d front env = refl
  does_sum (code_more c cs) d front env =
      either_elim (plain.part c) _ _ (front ++ env) _
      (does_more cs d.1 (code_more (shifted (length front) c) no_codes) front env
      ∙ ap (λ p. then_path p given) (sum_first c cs front env))
      (goes_on _ (path c env) _ _ (d.0 front env) (λ x. does_more cs d.1 (code_more (code_var 0) no_codes) (first_of x ∷ front) env)
      ∙ sum_of_one (path c env) (λ z. sum_path cs env z) (front ++ env) (path_own c env))

  mutual
    does : (c : CodeTree) (front env : List Value) → exec (block_at plain (length front) c) (front ++ env) ≡ then_path (path c env) given
    does (code_and a b) front env =
        either (plain.whole (code_and a b)) (code_and a b)
        (test (block_at plain (length front) a) (block_at plain (length front) b) (give (code_truth false))) front env
        (tests_codes _ _ _ (path a env) (path b env) (gives_truth false) (does a front env) (does b front env) refl)
    does (code_or a b) front env =
        either (plain.whole (code_or a b)) (code_or a b)
        (test (block_at plain (length front) a) (give (code_truth true)) (block_at plain (length front) b)) front env
        (tests_codes _ _ _ (path a env) (gives_truth true) (path b env) (does a front env) refl (does b front env))
    does (code_if t a b) front env =
        either (plain.whole (code_if t a b)) (code_if t a b)
        (test (block_at plain (length front) t) (block_at plain (length front) a) (block_at plain (length front) b)) front env
        (tests_codes _ _ _ (path t env) (path a env) (path b env) (does t front env) (does a front env) (does b front env))
    does (code_let first n a b) front env =
        binds _ (path a env) (exec (block_at plain (length front) b)) (λ e. then_path (path b e) given) front env (does a front env) (does b front)
        ∙ sym (then_then (path a env) (λ x. path b (env ++ x)) given)
    does (code_solve id arms) front env =
        does_arms arms front (none id) env
        ∙ (then_alike (arms_path arms env) _ _ (λ o. later_none id o) ∙ sym (then_then (arms_path arms env) (or_none id) given))
    does (code_neg a) front env =
        either (plain.whole (code_neg a)) (code_neg a) (part (block_at plain (length front) a) (give (code_neg (code_var 0)))) front env
        (one_done _ (path a env) (λ x. meets (neg_ℤ (number_in x))) (does a front env) (path_own a env))
    does (code_div a k) front env =
        either (plain.whole (code_div a k)) (code_div a k) (part (block_at plain (length front) a) (give (code_div (code_var 0) k))) front env
        (one_done _ (path a env) (λ x. meets (quotient (number_in x) k)) (does a front env) (path_own a env))
    does (code_mod a k) front env =
        either (plain.whole (code_mod a k)) (code_mod a k) (part (block_at plain (length front) a) (give (code_mod (code_var 0) k))) front env
        (one_done _ (path a env) (λ x. meets (remainder (number_in x) k)) (does a front env) (path_own a env))
    does (code_divides k a) front env =
        either (plain.whole (code_divides k a)) (code_divides k a) (part (block_at plain (length front) a) (give (code_divides k (code_var 0)))) front env
        (one_done _ (path a env) (λ x. gives_truth (is_multiple k (number_in x))) (does a front env) (path_own a env))
    does (code_not a) front env =
        either (plain.whole (code_not a)) (code_not a) (part (block_at plain (length front) a) (give (code_not (code_var 0)))) front env
        (one_done _ (path a env) (λ x. gives_truth (not (truth_in x))) (does a front env) (path_own a env))
    does (code_card a) front env =
        either (plain.whole (code_card a)) (code_card a) (part (block_at plain (length front) a) (give (code_card (code_var 0)))) front env
        (one_done _ (path a env) (λ x. meets (pos (length (set_in x)))) (does a front env) (path_own a env))
    does (code_sub a b) front env =
        either (plain.whole (code_sub a b)) (code_sub a b)
        (two_block (plain.part b) (block_at plain (length front) a) (block_at plain (suc (length front)) b) (shifted (suc (length front)) b) code_sub) front
        env
        (two_parts (plain.part b) (block_at plain (length front) a) (block_at plain (suc (length front)) b) a b front env code_sub
        (λ x y. meets (number_in x -ℤ number_in y)) (λ c d e. refl) (λ x y. refl) (λ x y. refl) (does a front env) (λ v. does b (v ∷ front) env))
    does (code_mul a b) front env =
        either (plain.whole (code_mul a b)) (code_mul a b)
        (two_block (plain.part b) (block_at plain (length front) a) (block_at plain (suc (length front)) b) (shifted (suc (length front)) b) code_mul) front
        env
        (two_parts (plain.part b) (block_at plain (length front) a) (block_at plain (suc (length front)) b) a b front env code_mul
        (λ x y. meets (number_in x *ℤ number_in y)) (λ c d e. refl) (λ x y. refl) (λ x y. refl) (does a front env) (λ v. does b (v ∷ front) env))
    does (code_compare o a b) front env =
        either (plain.whole (code_compare o a b)) (code_compare o a b)
        (two_block (plain.part b) (block_at plain (length front) a) (block_at plain (suc (length front)) b) (shifted (suc (length front)) b)
        (code_compare o)) front env
        (two_parts (plain.part b) (block_at plain (length front) a) (block_at plain (suc (length front)) b) a b front env (code_compare o)
        (λ x y. gives_truth (compared o (first_of x) (first_of y))) (λ c d e. refl) (λ x y. refl) (λ x y. refl) (does a front env)
        (λ v. does b (v ∷ front) env))
    does (code_diff a b) front env =
        either (plain.whole (code_diff a b)) (code_diff a b)
        (two_block (plain.part b) (block_at plain (length front) a) (block_at plain (suc (length front)) b) (shifted (suc (length front)) b) code_diff)
        front env
        (two_parts (plain.part b) (block_at plain (length front) a) (block_at plain (suc (length front)) b) a b front env code_diff
        (λ x y. gives_set (set_diff (set_in x) (set_in y))) (λ c d e. refl) (λ x y. refl) (λ x y. refl) (does a front env) (λ v. does b (v ∷ front) env))
    does (code_subset a b) front env =
        either (plain.whole (code_subset a b)) (code_subset a b)
        (two_block (plain.part b) (block_at plain (length front) a) (block_at plain (suc (length front)) b) (shifted (suc (length front)) b) code_subset)
        front env
        (two_parts (plain.part b) (block_at plain (length front) a) (block_at plain (suc (length front)) b) a b front env code_subset
        (λ x y. gives_truth (is_subset (set_in x) (set_in y))) (λ c d e. refl) (λ x y. refl) (λ x y. refl) (does a front env) (λ v. does b (v ∷ front) env))
    does (code_fresh a b) front env =
        either (plain.whole (code_fresh a b)) (code_fresh a b)
        (two_block (plain.part b) (block_at plain (length front) a) (block_at plain (suc (length front)) b) (shifted (suc (length front)) b) code_fresh)
        front env
        (two_parts (plain.part b) (block_at plain (length front) a) (block_at plain (suc (length front)) b) a b front env code_fresh
        (λ x y. meets_set (set_fresh (set_in x) (count_of (number_in y)))) (λ c d e. refl) (λ x y. refl) (λ x y. refl) (does a front env)
        (λ v. does b (v ∷ front) env))
    does (code_set_of cs) front env =
        either (plain.whole (code_set_of cs)) (code_set_of cs) (bound_parts plain (length front) cs (give (code_set_of (vars_then 0 (count cs) no_codes))))
        front env
        (sym (from_zero _)
        ∙ (does_parts cs (does_each cs) (List ℤ) set_path (λ z x. set_put (number_in x) z) gives_set
        (record { nil = λ e z. refl; more = λ c ds e z. refl; firsts = λ z x. refl }) [] code_set_of
        (λ ds e. refl) [] front env 0 tt (count cs) (none_yet (count cs)) ∙ from_zero _))
    does (code_min cs) front env =
        either (plain.whole (code_min cs)) (code_min cs) (bound_parts plain (length front) cs (give (code_min (vars_then 0 (count cs) no_codes)))) front env
        (sym (from_zero _)
        ∙ (does_parts cs (does_each cs) (Option ℤ) (best_path int_min) (λ z x. Some (choose_with int_min z (number_in x))) (λ z. meets (chosen z))
        (record { nil = λ e z. refl; more = λ c ds e z. refl; firsts = λ z x. refl }) None code_min
        (λ ds e. refl) [] front env 0 tt (count cs) (none_yet (count cs)) ∙ from_zero _))
    does (code_max cs) front env =
        either (plain.whole (code_max cs)) (code_max cs) (bound_parts plain (length front) cs (give (code_max (vars_then 0 (count cs) no_codes)))) front env
        (sym (from_zero _)
        ∙ (does_parts cs (does_each cs) (Option ℤ) (best_path int_max) (λ z x. Some (choose_with int_max z (number_in x))) (λ z. meets (chosen z))
        (record { nil = λ e z. refl; more = λ c ds e z. refl; firsts = λ z x. refl }) None code_max
        (λ ds e. refl) [] front env 0 tt (count cs) (none_yet (count cs)) ∙ from_zero _))
    does (code_union cs) front env =
        either (plain.whole (code_union cs)) (code_union cs) (bound_parts plain (length front) cs (give (code_union (vars_then 0 (count cs) no_codes)))) front
        env
        (sym (from_zero _)
        ∙ (does_parts cs (does_each cs) (Option (List ℤ)) (join_path set_union) (λ z x. Some (joined_with set_union z (set_in x))) (λ z. gives_set (joined z))
        (record { nil = λ e z. refl; more = λ c ds e z. refl; firsts = λ z x. refl }) None code_union
        (λ ds e. refl) [] front env 0 tt (count cs) (none_yet (count cs)) ∙ from_zero _))
    does (code_inter cs) front env =
        either (plain.whole (code_inter cs)) (code_inter cs) (bound_parts plain (length front) cs (give (code_inter (vars_then 0 (count cs) no_codes)))) front
        env
        (sym (from_zero _)
        ∙ (does_parts cs (does_each cs) (Option (List ℤ)) (join_path set_inter) (λ z x. Some (joined_with set_inter z (set_in x))) (λ z. gives_set (joined z))
        (record { nil = λ e z. refl; more = λ c ds e z. refl; firsts = λ z x. refl }) None code_inter
        (λ ds e. refl) [] front env 0 tt (count cs) (none_yet (count cs)) ∙ from_zero _))
    does (code_slice a b c) front env =
        either (plain.whole (code_slice a b c)) (code_slice a b c)
        (part (block_at plain (length front) a) (part (block_at plain (suc (length front)) b) (part (block_at plain (suc (suc (length front))) c)
        (give (code_slice (code_var 2) (code_var 1) (code_var 0)))))) front env
        (three_done _ (λ v. exec (block_at plain (suc (length front)) b) (v ∷ (front ++ env)))
        (λ v w. exec (block_at plain (suc (suc (length front))) c) (w ∷ (v ∷ (front ++ env)))) (path a env) (path b env) (path c env)
        (λ x y z. gives_set (set_slice (set_in x) (count_of (number_in y)) (count_of (number_in z)))) (does a front env) (λ v. does b (v ∷ front) env)
        (λ v w. does c (w ∷ (v ∷ front)) env) (path_own a env) (path_own b env) (path_own c env))
    does (code_lit k) front env = refl
    does (code_truth t) front env = refl
    does (code_var x) front env = gives_code (code_var x) front env
    does (code_tuple cs) front env =
        either (stay plain.whole cs) (code_tuple cs) (tuple_block plain (length front) cs) front env (does_tuple cs (does_each cs) front env)
    does (code_sum cs) front env =
        either (plain.whole (code_sum cs)) (code_sum cs) (sum_block plain (length front) cs) front env (does_sum cs (does_each cs) front env)

    does_each : (cs : CodeTrees) → EachDoes plain cs
    does_each no_codes = tt
    does_each (code_more c cs) = (does c, does_each cs)

    does_arms : (arms : ArmTrees) (front : List Value) (b : Block) (env : List Value) →
        exec (arms_block plain (length front) arms b) (front ++ env) ≡ then_path (arms_path arms env) (λ o. or_later o (exec b (front ++ env)))
    does_arms no_arms front b env = sym (only_then None (λ o. or_later o (exec b (front ++ env))))
    does_arms (arm_more a arms) front b env =
        does_arm a front (arms_block plain (length front) arms b) env
        ∙ (then_alike (arm_path a env) _ _
        (λ o. later_alike o _ _ (does_arms arms front b env) ∙ sym (later_later o (arms_path arms env) (exec b (front ++ env))))
        ∙ sym (then_then (arm_path a env) (λ o. or_later o (arms_path arms env)) (λ o. or_later o (exec b (front ++ env)))))

    does_arm : (a : ArmTree) (front : List Value) (b : Block) (env : List Value) →
        exec (arm_block plain (length front) a b) (front ++ env) ≡ then_path (arm_path a env) (λ o. or_later o (exec b (front ++ env)))
    does_arm (arm_of ks is gs) front b env =
        ap (λ p. then_path p (λ o. or_later o (exec b (front ++ env))))
        (first_alike (count_below ks) 0 _ _ (λ i. then_alike (meets_all (tuple_at ks i)) _ _
        (λ vs. rw (append_assoc front env vs)
        (does_items is front (plain_or (stay plain.whole gs) (code_tuple (all_shifted (length front) gs)) (tuple_block plain (length front) gs))
        (λ e. then_path (all_path gs e []) given)
        (λ e. either (stay plain.whole gs) (code_tuple gs) (tuple_block plain (length front) gs) front e (does_tuple gs (does_each gs) front e))
        (env ++ vs)))))

    does_items : (is : ItemTrees) (front : List Value) (b : Block) (g : List Value → Path (Option (List Value))) →
        ((e : List Value) → exec b (front ++ e) ≡ g e) →
        (env : List Value) → exec (items_block plain (length front) is b) (front ++ env) ≡ then_path (items_path is env) (λ o. if_some o g)
    does_items no_items front b g h env = h env ∙ sym (only_then (Some env) (λ o. if_some o g))
    does_items (item_more i is) front b g h env =
        does_item i front (items_block plain (length front) is b) (λ e. then_path (items_path is e) (λ o. if_some o g)) (does_items is front b g h) env
        ∙ (then_alike (item_path i env) _ _ (λ o. some_then o (items_path is) g)
        ∙ sym (then_then (item_path i env) (λ o. if_some o (items_path is)) (λ o. if_some o g)))

    does_item : (i : ItemTree) (front : List Value) (b : Block) (g : List Value → Path (Option (List Value))) → ((e : List Value) → exec b (front ++ e) ≡ g e) →
        (env : List Value) → exec (item_block plain (length front) i b) (front ++ env) ≡ then_path (item_path i env) (λ o. if_some o g)
    does_item (let_item c) front b g h env =
        binds _ (path c env) (exec b) g front env (does c front env) h
        ∙ (then_alike (path c env) _ _ (λ x. sym (only_then (Some (env ++ x)) (λ o. if_some o g)))
        ∙ sym (then_then (path c env) (λ x. gives_only (Some (env ++ x))) (λ o. if_some o g)))
    does_item (need_item c) front b g h env =
        tests _ _ (gives_only None) (g env) (gives_only None) (path c env) (does c front env) (h env) refl
        ∙ (then_alike (path c env) _ _ (λ x. need_then (truth_in x) env g)
        ∙ sym (then_then (path c env) (λ x. gives_only (cond (truth_in x) (Some env) None)) (λ o. if_some o g)))

pub block_means : (plain : Plain) (c : CodeTree) (env : List Value) → exec (block_of plain c) env ≡ then_path (path c env) given
block_means plain c env = does plain c [] env
