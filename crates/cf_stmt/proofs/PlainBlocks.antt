-- Only plain expressions are evaluated in the block that is made of a code.
use Rattle.std.proofs.Common.{◌≡◌, ℕ, zero, suc, ◌+◌, ◌≤◌, max, Bool, true, false, ◌&&◌, cond, refl, sym, ap, ◌∙◌, arith, zero-add}
use Rattle.std.specs.Prelude.{nat_le}
use Rattle.std.proofs.lemmas.Bool.{leb-true, le-leb}
use Rattle.cf_tree.specs.CodeTree.{CodeTree, code_lit, code_truth, code_var, code_set_of, code_tuple, code_sum, code_sub, code_mul, code_neg, code_div, code_mod, code_min, code_max, code_compare, code_divides, code_and, code_or, code_not, code_union, code_inter, code_diff, code_subset, code_card, code_slice, code_fresh, code_if, code_let, code_solve, CodeTrees, no_codes, code_more, code_depth, codes_depth, ItemTree, let_item, need_item, ItemTrees, no_items, item_more, ArmTree, arm_of, ArmTrees, no_arms, arm_more, count}
use Rattle.cf_shift.specs.Shifted.{shifted, all_shifted}
use Rattle.cf_shift.proofs.ShiftedSpelling.{depth_same}
use Rattle.cf_stmt.specs.declared.expression.TheConstants.{DEEPEST}
use Rattle.cf_stmt.specs.Blocks.{Block, give, none, part}
use Rattle.cf_stmt.specs.Expressions.{is_expression, are_expressions, is_plain, are_plain, gives_plain, EvaluatesPlain}
use Rattle.cf_stmt.specs.Fitting.{fits, plain}
use Rattle.cf_stmt.specs.Made.{plain_or, stay, vars_then, two_codes, append, two_block, block_at, bound_parts, sum_block, sum_more, tuple_block, arms_block, arm_block, items_block, item_block, block_of}

both : {a b c d : Bool} → a ≡ c → b ≡ d → a && b ≡ c && d
both {a} {b} {c} {d} e h = rw (e, h) refl

true_both : (a b : Bool) → a ≡ true → b ≡ true → a && b ≡ true
true_both a b e h = rw (e, h) refl

true_left : (a b : Bool) → a && b ≡ true → a ≡ true
true_left true b e = refl
true_left false b e = e

true_right : (a b : Bool) → a && b ≡ true → b ≡ true
true_right true b e = e
true_right false b e = absurd (not_true e)
  where
    not_true : false ≡ true → ⊥
    not_true e = cc

-- a code behind more variables is an expression where it is one
mutual
  moved : (n : ℕ) (c : CodeTree) → is_expression (shifted n c) ≡ is_expression c
  moved n (code_lit k) = refl
  moved n (code_truth t) = refl
  moved n (code_var x) = refl
  moved n (code_tuple cs) = refl
  moved n (code_let first m a b) = refl
  moved n (code_solve id arms) = refl
  moved n (code_neg a) = moved n a
  moved n (code_div a k) = moved n a
  moved n (code_mod a k) = moved n a
  moved n (code_divides k a) = moved n a
  moved n (code_not a) = moved n a
  moved n (code_card a) = moved n a
  moved n (code_sub a b) = both (moved n a) (moved n b)
  moved n (code_mul a b) = both (moved n a) (moved n b)
  moved n (code_compare o a b) = both (moved n a) (moved n b)
  moved n (code_and a b) = both (moved n a) (moved n b)
  moved n (code_or a b) = both (moved n a) (moved n b)
  moved n (code_diff a b) = both (moved n a) (moved n b)
  moved n (code_subset a b) = both (moved n a) (moved n b)
  moved n (code_fresh a b) = both (moved n a) (moved n b)
  moved n (code_set_of cs) = all_moved n cs
  moved n (code_sum cs) = all_moved n cs
  moved n (code_min cs) = all_moved n cs
  moved n (code_max cs) = all_moved n cs
  moved n (code_union cs) = all_moved n cs
  moved n (code_inter cs) = all_moved n cs
  moved n (code_slice a b c) = both (moved n a) (both (moved n b) (moved n c))
  moved n (code_if t a b) = both (moved n t) (both (moved n a) (moved n b))

  all_moved : (n : ℕ) (cs : CodeTrees) → are_expressions (all_shifted n cs) ≡ are_expressions cs
  all_moved n no_codes = refl
  all_moved n (code_more c cs) = both (moved n c) (all_moved n cs)

-- ---- codes that fit
fits_moved : (k n : ℕ) (c : CodeTree) → fits k (shifted n c) ≡ fits k c
fits_moved k n c = rw (moved n c, depth_same n c) refl

all_moved_fit : (k n : ℕ) (cs : CodeTrees) → stay (fits k) (all_shifted n cs) ≡ stay (fits k) cs
all_moved_fit k n no_codes = refl
all_moved_fit k n (code_more c cs) = both (fits_moved k n c) (all_moved_fit k n cs)

plain_is : (c : CodeTree) → is_plain c ≡ fits 0 c
plain_is c = ap (λ d. is_expression c && nat_le d DEEPEST) (sym (zero-add (code_depth c)))

pub all_plain_is : (cs : CodeTrees) → are_plain cs ≡ stay (fits 0) cs
all_plain_is no_codes = refl
all_plain_is (code_more c cs) = both (plain_is c) (all_plain_is cs)

still_plain : (n : ℕ) (c : CodeTree) → fits 0 c ≡ true → is_plain (shifted n c) ≡ true
still_plain n c h = plain_is (shifted n c) ∙ (fits_moved 0 n c ∙ h)

all_still_plain : (n : ℕ) (cs : CodeTrees) → stay (fits 0) cs ≡ true → are_plain (all_shifted n cs) ≡ true
all_still_plain n cs h = all_plain_is (all_shifted n cs) ∙ (all_moved_fit 0 n cs ∙ h)

depth_fits : (k : ℕ) (c : CodeTree) → fits k c ≡ true → k + code_depth c ≤ DEEPEST
depth_fits k c h = leb-true (k + code_depth c) DEEPEST (true_right (is_expression c) _ h)

-- each is an expression, and is plain in one more
pub parts_fit : (cs : CodeTrees) → stay (fits 1) cs ≡ true → (are_expressions cs ≡ true) × (1 + codes_depth cs ≤ DEEPEST)
parts_fit no_codes h = (refl, omega arith)
parts_fit (code_more c cs) h =
    let one : fits 1 c ≡ true = true_left (fits 1 c) _ h in
    let more : (are_expressions cs ≡ true) × (1 + codes_depth cs ≤ DEEPEST) = parts_fit cs (true_right (fits 1 c) _ h) in (
      true_both (is_expression c) (are_expressions cs) (true_left (is_expression c) _ one) more.0,
      deeper (code_depth c) (codes_depth cs) DEEPEST
          (depth_fits 1 c one) more.1,
    )
  where
    deeper : (a b k : ℕ) → 1 + a ≤ k → 1 + b ≤ k → 1 + max a b ≤ k
    deeper a b k l m = omega (arith, l, m)

-- so the form over them is plain
pub over_parts : (cs : CodeTrees) → stay (fits 1) cs ≡ true → are_expressions cs && nat_le (1 + codes_depth cs) DEEPEST ≡ true
over_parts cs h = true_both (are_expressions cs) _ (parts_fit cs h).0 (le-leb (1 + codes_depth cs) DEEPEST (parts_fit cs h).1)

pub over_two_parts : (c d : CodeTree) → fits 1 c ≡ true → fits 1 d ≡ true →
    (is_expression c && is_expression d) && nat_le (1 + max (code_depth c) (code_depth d)) DEEPEST ≡ true
over_two_parts c d h k =
    true_both (is_expression c && is_expression d) _
    (true_both (is_expression c) (is_expression d) (true_left (is_expression c) _ h) (true_left (is_expression d) _ k))
    (le-leb (1 + max (code_depth c) (code_depth d)) DEEPEST (deeper (code_depth c) (code_depth d) DEEPEST (depth_fits 1 c h) (depth_fits 1 d k)))
  where
    deeper : (a b k : ℕ) → 1 + a ≤ k → 1 + b ≤ k → 1 + max a b ≤ k
    deeper a b k l m = omega (arith, l, m)

vars_first : (i j : ℕ) (ds : CodeTrees) → stay (fits 1) (vars_then i j ds) ≡ stay (fits 1) ds
vars_first i zero ds = refl
vars_first i (suc j) ds = vars_first (suc i) j (code_more (code_var i) ds)

one_more : (cs : CodeTrees) (c : CodeTree) → stay (fits 1) cs ≡ true → fits 1 c ≡ true → stay (fits 1) (append cs (code_more c no_codes)) ≡ true
one_more no_codes c e h = true_both (fits 1 c) true h refl
one_more (code_more d ds) c e h = true_both (fits 1 d) _ (true_left (fits 1 d) _ e) (one_more ds c (true_right (fits 1 d) _ e) h)

-- ---- blocks
whole : (t : Bool) (c : CodeTree) (b : Block) → (t ≡ true → gives_plain c ≡ true) → EvaluatesPlain b → EvaluatesPlain (plain_or t c b)
whole true c b h p = h refl
whole false c b h p = p

either : (t : Bool) (b c : Block) → (t ≡ true → EvaluatesPlain b) → EvaluatesPlain c → EvaluatesPlain (cond t b c)
either true b c h k = h refl
either false b c h k = k

either_elim : (t : Bool) (b c : Block) → (t ≡ true → EvaluatesPlain b) → EvaluatesPlain c → EvaluatesPlain (elim t [ true ↦ b | false ↦ c ])
either_elim true b c h k = h refl
either_elim false b c h k = k

two : (a b : Block) (c : CodeTree) (n : ℕ) (op : CodeTree → CodeTree → CodeTree) → EvaluatesPlain a → EvaluatesPlain b →
    ((d e : CodeTree) → gives_plain (op d e) ≡ (is_expression d && is_expression e) && nat_le (1 + max (code_depth d) (code_depth e)) DEEPEST) →
    EvaluatesPlain (two_block (fits 1 c) a b (shifted n c) op)
two a b c n op p q law = (
  p,
  either (fits 1 c) (give (op (code_var 0) (shifted n c))) (part b (give (op (code_var 1) (code_var 0))))
      (λ e. law (code_var 0) (shifted n c) ∙ over_two_parts (code_var 0) (shifted n c) refl (fits_moved 1 n c ∙ e))
      (q, law (code_var 1) (code_var 0)),
)

abbrev EachPlain : CodeTrees → Type 0
EachPlain no_codes = Unit {0}
EachPlain (code_more c cs) = ((n : ℕ) → EvaluatesPlain (block_at plain n c)) × EachPlain cs

bound : (cs : CodeTrees) → EachPlain cs → (n : ℕ) (b : Block) → EvaluatesPlain b → EvaluatesPlain (bound_parts plain n cs b)
bound no_codes d n b p = p
bound (code_more c cs) d n b p = (d.0 n, bound cs d.1 (suc n) b p)

parts : (cs : CodeTrees) → EachPlain cs → (n j : ℕ) (op : CodeTrees → CodeTree) →
    ((ds : CodeTrees) → gives_plain (op ds) ≡ are_expressions ds && nat_le (1 + codes_depth ds) DEEPEST) →
    EvaluatesPlain (bound_parts plain n cs (give (op (vars_then 0 j no_codes))))
parts cs d n j op law =
    bound cs d n (give (op (vars_then 0 j no_codes))) (law (vars_then 0 j no_codes) ∙ over_parts (vars_then 0 j no_codes) (vars_first 0 j no_codes))

tuple : (cs : CodeTrees) → EachPlain cs → (n : ℕ) → EvaluatesPlain (tuple_block plain n cs)
tuple no_codes d n = refl
tuple (code_more c cs) d n = (d.0 n, tuple cs d.1 n)

gives : (cs : CodeTrees) → EachPlain cs → (n : ℕ) →
    EvaluatesPlain (plain_or (stay (fits 0) cs) (code_tuple (all_shifted n cs)) (tuple_block plain n cs))
gives cs d n = whole (stay (fits 0) cs) (code_tuple (all_shifted n cs)) (tuple_block plain n cs) (all_still_plain n cs) (tuple cs d n)

more : (cs : CodeTrees) → EachPlain cs → (n : ℕ) (ready : CodeTrees) → stay (fits 1) ready ≡ true → EvaluatesPlain (sum_more plain n ready cs)
more no_codes d n ready h = over_parts ready h
more (code_more c cs) d n ready h =
    either_elim (fits 1 c) _ _
    (λ e. more cs d.1 n (append ready (code_more (shifted n c) no_codes)) (one_more ready (shifted n c) h (fits_moved 1 n c ∙ e)))
    (over_parts ready h, (d.0 (suc n), more cs d.1 (suc (suc n)) (two_codes (code_var 1) (code_var 0)) refl))

sum : (cs : CodeTrees) → EachPlain cs → (n : ℕ) → EvaluatesPlain (sum_block plain n cs)
sum no_codes d n = refl
sum (code_more c cs) d n =
    either_elim (fits 1 c) _ _
    (λ e. more cs d.1 n (code_more (shifted n c) no_codes) (true_both (fits 1 (shifted n c)) true (fits_moved 1 n c ∙ e) refl))
    (d.0 n, more cs d.1 (suc n) (code_more (code_var 0) no_codes) refl)

mutual
  evaluates : (c : CodeTree) (n : ℕ) → EvaluatesPlain (block_at plain n c)
  evaluates (code_lit k) n = refl
  evaluates (code_truth t) n = refl
  evaluates (code_var x) n = refl
  evaluates (code_tuple cs) n = gives cs (evaluates_each cs) n
  evaluates (code_neg a) n = whole (fits 0 (code_neg a)) (shifted n (code_neg a)) _ (still_plain n (code_neg a))
      (evaluates a n, refl)
  evaluates (code_div a k) n = whole (fits 0 (code_div a k)) (shifted n (code_div a k)) _ (still_plain n (code_div a k))
      (evaluates a n, refl)
  evaluates (code_mod a k) n = whole (fits 0 (code_mod a k)) (shifted n (code_mod a k)) _ (still_plain n (code_mod a k))
      (evaluates a n, refl)
  evaluates (code_divides k a) n = whole (fits 0 (code_divides k a)) (shifted n (code_divides k a)) _ (still_plain n (code_divides k a))
      (evaluates a n, refl)
  evaluates (code_not a) n = whole (fits 0 (code_not a)) (shifted n (code_not a)) _ (still_plain n (code_not a))
      (evaluates a n, refl)
  evaluates (code_card a) n = whole (fits 0 (code_card a)) (shifted n (code_card a)) _ (still_plain n (code_card a))
      (evaluates a n, refl)
  evaluates (code_sub a b) n = whole (fits 0 (code_sub a b)) (shifted n (code_sub a b)) _ (still_plain n (code_sub a b))
      (two _ _ b (suc n) code_sub (evaluates a n) (evaluates b (suc n)) (λ d e. refl))
  evaluates (code_mul a b) n = whole (fits 0 (code_mul a b)) (shifted n (code_mul a b)) _ (still_plain n (code_mul a b))
      (two _ _ b (suc n) code_mul (evaluates a n) (evaluates b (suc n)) (λ d e. refl))
  evaluates (code_compare o a b) n = whole (fits 0 (code_compare o a b)) (shifted n (code_compare o a b)) _ (still_plain n (code_compare o a b))
      (two _ _ b (suc n) (code_compare o) (evaluates a n) (evaluates b (suc n)) (λ d e. refl))
  evaluates (code_and a b) n = whole (fits 0 (code_and a b)) (shifted n (code_and a b)) _ (still_plain n (code_and a b))
      (evaluates a n, evaluates b n, refl)
  evaluates (code_or a b) n = whole (fits 0 (code_or a b)) (shifted n (code_or a b)) _ (still_plain n (code_or a b))
      (evaluates a n, refl, evaluates b n)
  evaluates (code_diff a b) n = whole (fits 0 (code_diff a b)) (shifted n (code_diff a b)) _ (still_plain n (code_diff a b))
      (two _ _ b (suc n) code_diff (evaluates a n) (evaluates b (suc n)) (λ d e. refl))
  evaluates (code_subset a b) n = whole (fits 0 (code_subset a b)) (shifted n (code_subset a b)) _ (still_plain n (code_subset a b))
      (two _ _ b (suc n) code_subset (evaluates a n) (evaluates b (suc n)) (λ d e. refl))
  evaluates (code_fresh a b) n = whole (fits 0 (code_fresh a b)) (shifted n (code_fresh a b)) _ (still_plain n (code_fresh a b))
      (two _ _ b (suc n) code_fresh (evaluates a n) (evaluates b (suc n)) (λ d e. refl))
  evaluates (code_set_of cs) n = whole (fits 0 (code_set_of cs)) (shifted n (code_set_of cs)) _ (still_plain n (code_set_of cs))
      (parts cs (evaluates_each cs) n (count cs) code_set_of (λ ds. refl))
  evaluates (code_sum cs) n = whole (fits 0 (code_sum cs)) (shifted n (code_sum cs)) _ (still_plain n (code_sum cs))
      (sum cs (evaluates_each cs) n)
  evaluates (code_min cs) n = whole (fits 0 (code_min cs)) (shifted n (code_min cs)) _ (still_plain n (code_min cs))
      (parts cs (evaluates_each cs) n (count cs) code_min (λ ds. refl))
  evaluates (code_max cs) n = whole (fits 0 (code_max cs)) (shifted n (code_max cs)) _ (still_plain n (code_max cs))
      (parts cs (evaluates_each cs) n (count cs) code_max (λ ds. refl))
  evaluates (code_union cs) n = whole (fits 0 (code_union cs)) (shifted n (code_union cs)) _ (still_plain n (code_union cs))
      (parts cs (evaluates_each cs) n (count cs) code_union (λ ds. refl))
  evaluates (code_inter cs) n = whole (fits 0 (code_inter cs)) (shifted n (code_inter cs)) _ (still_plain n (code_inter cs))
      (parts cs (evaluates_each cs) n (count cs) code_inter (λ ds. refl))
  evaluates (code_slice a b c) n = whole (fits 0 (code_slice a b c)) (shifted n (code_slice a b c)) _ (still_plain n (code_slice a b c))
      (evaluates a n, (evaluates b (suc n), (evaluates c (suc (suc n)), refl)))
  evaluates (code_if t a b) n = whole (fits 0 (code_if t a b)) (shifted n (code_if t a b)) _ (still_plain n (code_if t a b))
      (evaluates t n, evaluates a n, evaluates b n)
  evaluates (code_let first m a b) n = (evaluates a n, evaluates b n)
  evaluates (code_solve id arms) n = evaluates_arms arms n (none id) tt

  evaluates_each : (cs : CodeTrees) → EachPlain cs
  evaluates_each no_codes = tt
  evaluates_each (code_more c cs) = (evaluates c, evaluates_each cs)

  evaluates_arms : (arms : ArmTrees) (n : ℕ) (b : Block) → EvaluatesPlain b → EvaluatesPlain (arms_block plain n arms b)
  evaluates_arms no_arms n b p = p
  evaluates_arms (arm_more a arms) n b p = evaluates_arm a n (arms_block plain n arms b) (evaluates_arms arms n b p)

  evaluates_arm : (a : ArmTree) (n : ℕ) (b : Block) → EvaluatesPlain b → EvaluatesPlain (arm_block plain n a b)
  evaluates_arm (arm_of ks is gs) n b p = (
    evaluates_items is n (plain_or (stay (fits 0) gs) (code_tuple (all_shifted n gs)) (tuple_block plain n gs))
        (gives gs (evaluates_each gs) n),
    p,
  )

  evaluates_items : (is : ItemTrees) (n : ℕ) (b : Block) → EvaluatesPlain b → EvaluatesPlain (items_block plain n is b)
  evaluates_items no_items n b p = p
  evaluates_items (item_more i is) n b p = evaluates_item i n (items_block plain n is b) (evaluates_items is n b p)

  evaluates_item : (i : ItemTree) (n : ℕ) (b : Block) → EvaluatesPlain b → EvaluatesPlain (item_block plain n i b)
  evaluates_item (let_item c) n b p = (evaluates c n, p)
  evaluates_item (need_item c) n b p = (evaluates c n, p, tt)

pub block_is_plain : (c : CodeTree) → EvaluatesPlain (block_of plain c)
block_is_plain c = evaluates c 0
