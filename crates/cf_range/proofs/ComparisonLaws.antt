-- Comparisons that are decided.
use Rattle.std.proofs.Common.{◌≡◌, ◌≤◌, ℕ, ℤ, max, Bool, true, false, not, ◌&&◌, ◌||◌, cond, Option, Some, None, List, [], ◌∷◌, refl, sym, ap, subst, ◌∙◌, arith}
use Rattle.std.specs.Prelude.{int_lt, ◌<ℤ◌, ◌≤ℤ◌}
use Rattle.std.proofs.lemmas.Int.{ints}
use Rattle.cf_num.specs.Limit.{limit}
use Rattle.cf_tree.specs.CodeTree.{CodeTree, code_lit, code_truth, code_var, code_set_of, code_tuple, code_sum, code_sub, code_mul, code_neg, code_div, code_mod, code_min, code_max, code_compare, code_divides, code_and, code_or, code_not, code_union, code_inter, code_diff, code_subset, code_card, code_slice, code_fresh, code_if, code_let, code_solve}
use Rattle.cf_tree.specs.Meaning.{Got, got, Path, then_path, path, gives_truth, number_in}
use Rattle.cf_tree.specs.Typing.{HasBases, HasNoSolve}
use Rattle.cf_tree.specs.Values.{Value, number, truth, elements, number_of, first_of, same_truth, compared}
use Rattle.cf_tree.specs.declared.base.Base.{Base}
use Rattle.cf_tree.specs.declared.base.Order.{Order}
use Rattle.cf_tree.specs.declared.base.Order.TheVariants.{Eq, Ne, Lt, Le, Gt, Ge}
use Rattle.cf_tree.proofs.SetLemmas.{eq_same, eq_other, lt_is, lt_not, same_list-iff}
use Rattle.cf_range.specs.Alike.{Alike}
use Rattle.cf_range.specs.CodeRanges.{range_of}
use Rattle.cf_range.specs.Ranges.{LiesIn, LieIn}
use Rattle.cf_range.specs.Settled.{is_var, are_one, holds_of_itself, is_below, is_nowhere_below, holds_always, other_order, told_by, compares_numbers, known, told, compared_as, comparison}
use Rattle.cf_range.specs.Total.{is_total}
use Rattle.cf_range.specs.declared.range.Range.{Range}
use Rattle.cf_range.proofs.AlikeLemmas.{alike_refl, both_fit}
use Rattle.cf_range.proofs.GivenLaws.{number_given}
use Rattle.cf_range.proofs.PutLaws.{eq_means}
use Rattle.cf_range.proofs.RangeLaws.{values_lie, total_codes}

and_true : (a b : Bool) → (a && b) ≡ true → (a ≡ true) × (b ≡ true)
and_true true b e = (refl, e)
and_true false b e = cc

-- ---- one variable
var_is : (x : ℕ) (c : CodeTree) → is_var x c ≡ true → code_var x ≡ c
var_is x (code_lit k) e = cc
var_is x (code_truth t) e = cc
var_is x (code_var y) e = ap code_var (eq_means x y e)
var_is x (code_set_of cs) e = cc
var_is x (code_tuple cs) e = cc
var_is x (code_sum cs) e = cc
var_is x (code_sub a b) e = cc
var_is x (code_mul a b) e = cc
var_is x (code_neg a) e = cc
var_is x (code_div a k) e = cc
var_is x (code_mod a k) e = cc
var_is x (code_min cs) e = cc
var_is x (code_max cs) e = cc
var_is x (code_compare o a b) e = cc
var_is x (code_divides k a) e = cc
var_is x (code_and a b) e = cc
var_is x (code_or a b) e = cc
var_is x (code_not a) e = cc
var_is x (code_union cs) e = cc
var_is x (code_inter cs) e = cc
var_is x (code_diff a b) e = cc
var_is x (code_subset a b) e = cc
var_is x (code_card a) e = cc
var_is x (code_slice a b c) e = cc
var_is x (code_fresh a b) e = cc
var_is x (code_if t a b) e = cc
var_is x (code_let first n a b) e = cc
var_is x (code_solve n arms) e = cc

one_is : (a c : CodeTree) → are_one a c ≡ true → a ≡ c
one_is (code_lit k) c e = cc
one_is (code_truth t) c e = cc
one_is (code_var x) c e = var_is x c e
one_is (code_set_of cs) c e = cc
one_is (code_tuple cs) c e = cc
one_is (code_sum cs) c e = cc
one_is (code_sub a b) c e = cc
one_is (code_mul a b) c e = cc
one_is (code_neg a) c e = cc
one_is (code_div a k) c e = cc
one_is (code_mod a k) c e = cc
one_is (code_min cs) c e = cc
one_is (code_max cs) c e = cc
one_is (code_compare o a b) c e = cc
one_is (code_divides k a) c e = cc
one_is (code_and a b) c e = cc
one_is (code_or a b) c e = cc
one_is (code_not a) c e = cc
one_is (code_union cs) c e = cc
one_is (code_inter cs) c e = cc
one_is (code_diff a b) c e = cc
one_is (code_subset a b) c e = cc
one_is (code_card a) c e = cc
one_is (code_slice a b d) c e = cc
one_is (code_fresh a b) c e = cc
one_is (code_if t a b) c e = cc
one_is (code_let first n a b) c e = cc
one_is (code_solve n arms) c e = cc

-- ---- a value and itself
not_less : (z : ℤ) → int_lt z z ≡ false
not_less z = by (int_lt z z) refl
  where
    by : (t : Bool) → int_lt z z ≡ t → t ≡ false
    by true e = absurd (omega (arith, ints, e))
    by false e = refl

same_truths : (b : Bool) → same_truth b b ≡ true
same_truths true = refl
same_truths false = refl

compared_itself : (o : Order) (v : Value) → compared o v v ≡ holds_of_itself o
compared_itself Eq (number z) = eq_same z z refl
compared_itself Eq (truth b) = same_truths b
compared_itself Eq (elements zs) = (same_list-iff zs zs).1 refl
compared_itself Ne (number z) = ap not (eq_same z z refl)
compared_itself Ne (truth b) = ap not (same_truths b)
compared_itself Ne (elements zs) = ap not ((same_list-iff zs zs).1 refl)
compared_itself Lt v = not_less (number_of v)
compared_itself Le v = ap not (not_less (number_of v))
compared_itself Gt v = not_less (number_of v)
compared_itself Ge v = ap not (not_less (number_of v))

abbrev path_of : {A : Type 0} → Got A → ℕ → Path A
path_of g k = record { gives = g; peak = k }

-- ---- what ranges tell
not_true : (b : Bool) → not b ≡ true → b ≡ false
not_true true e = cc
not_true false e = refl

less : (x y : ℤ) → x <ℤ y → int_lt x y ≡ true
less x y h = by (int_lt x y) refl
  where
    by : (t : Bool) → int_lt x y ≡ t → t ≡ true
    by true e = refl
    by false e = absurd (omega (arith, ints, h, lt_not x y e))

not_below : (x y : ℤ) → y ≤ℤ x → int_lt x y ≡ false
not_below x y h = by (int_lt x y) refl
  where
    by : (t : Bool) → int_lt x y ≡ t → t ≡ false
    by true e = absurd (omega (arith, ints, h, lt_is x y e))
    by false e = refl

or_either : {P : Type 0} (a b : Bool) → (a || b) ≡ true → (a ≡ true → P) → (b ≡ true → P) → P
or_either true b e h k = h refl
or_either false b e h k = k e

-- numbers of two ranges
module _ (r s : Range) (x y : ℤ) (h : LiesIn r x) (k : LiesIn s y) where
  below_is : is_below r s ≡ true → x <ℤ y
  below_is e = let l = lt_is r.high s.low e in let a = h.2 in let b = k.1 in omega (arith, ints, l, a, b)

  above_is : is_below s r ≡ true → y <ℤ x
  above_is e = let l = lt_is s.high r.low e in let a = h.1 in let b = k.2 in omega (arith, ints, l, a, b)

  not_less_is : is_nowhere_below r s ≡ true → y ≤ℤ x
  not_less_is e = let l = lt_not r.low s.high (not_true _ e) in let a = h.1 in let b = k.2 in omega (arith, ints, l, a, b)

  not_more_is : is_nowhere_below s r ≡ true → x ≤ℤ y
  not_more_is e = let l = lt_not s.low r.high (not_true _ e) in let a = h.2 in let b = k.1 in omega (arith, ints, l, a, b)

  same_is : (is_nowhere_below r s && is_nowhere_below s r) ≡ true → x ≡ y
  same_is e =
      let q = and_true (is_nowhere_below r s) (is_nowhere_below s r) e in
      let a = not_less_is q.0 in
      let b = not_more_is q.1 in
      omega (arith, ints, a, b)

  other_is : (is_below r s || is_below s r) ≡ true → x ≡ y → ⊥
  other_is e same = or_either (is_below r s) (is_below s r) e
      (λ a. let l = below_is a in omega (arith, ints, same, l))
      (λ a. let l = above_is a in omega (arith, ints, same, l))

  -- what holds of all numbers of the ranges holds of these
  always_holds : (o : Order) → holds_always o r s ≡ true → compared o (number x) (number y) ≡ true
  always_holds Eq e = eq_same x y (same_is e)
  always_holds Ne e = ap not (eq_other x y (other_is e))
  always_holds Lt e = less x y (below_is e)
  always_holds Le e = ap not (not_below y x (not_more_is e))
  always_holds Gt e = less y x (above_is e)
  always_holds Ge e = ap not (not_below x y (not_less_is e))

  never_holds : (o : Order) → holds_always (other_order o) r s ≡ true → compared o (number x) (number y) ≡ false
  never_holds Eq e = eq_other x y (other_is e)
  never_holds Ne e = ap not (eq_same x y (same_is e))
  never_holds Lt e = not_below x y (not_less_is e)
  never_holds Le e = ap not (less y x (above_is e))
  never_holds Gt e = not_below y x (not_more_is e)
  never_holds Ge e = ap not (less x y (below_is e))

some_same : (t b : Bool) → Some t ≡ Some b → t ≡ b
some_same t b e = cc

told_holds : (o : Order) (r s : Range) (x y : ℤ) (b : Bool) → LiesIn r x → LiesIn s y → told_by o r s ≡ Some b → compared o (number x) (number y) ≡ b
told_holds o r s x y b h k e =
    by (holds_always o r s) (holds_always (other_order o) r s) (always_holds r s x y h k o) (never_holds r s x y h k o) e
  where
    by : (t u : Bool) → (t ≡ true → compared o (number x) (number y) ≡ true) → (u ≡ true → compared o (number x) (number y) ≡ false) →
        cond t (Some true) (cond u (Some false) None) ≡ Some b → compared o (number x) (number y) ≡ b
    by true u f g e = f refl ∙ some_same true b e
    by false true f g e = g refl ∙ some_same false b e
    by false false f g e = cc

-- ---- numbers
same_got : {A : Type 0} (x y : A) → got x ≡ got y → x ≡ y
same_got x y e = cc

-- how two values compare of which the first is a number
as_numbers : (o : Order) (v w : Value) → v ≡ number (number_of v) → compared o v w ≡ compared o (number (number_of v)) (number (number_of w))
as_numbers Eq v w e = ap (λ u. compared Eq u w) e
as_numbers Ne v w e = ap (λ u. compared Ne u w) e
as_numbers Lt v w e = refl
as_numbers Le v w e = refl
as_numbers Gt v w e = refl
as_numbers Ge v w e = refl

by_numbers : (o : Order) (a : CodeTree) (env vs : List Value) (w : Value) → compares_numbers o a ≡ true → (path a env).gives ≡ got vs →
    compared o (first_of vs) w ≡ compared o (number (number_in vs)) (number (number_of w))
by_numbers Eq a env vs w t e = as_numbers Eq (first_of vs) w (number_given a env t vs e)
by_numbers Ne a env vs w t e = as_numbers Ne (first_of vs) w (number_given a env t vs e)
by_numbers Lt a env vs w t e = refl
by_numbers Le a env vs w t e = refl
by_numbers Gt a env vs w t e = refl
by_numbers Ge a env vs w t e = refl

-- ---- two codes that are evaluated
module _ (rs : List Range) (o : Order) (a b : CodeTree) (env xs ys : List Value) (lie : LieIn rs env) (e : (path a env).gives ≡ got xs)
    (l : (path a env).peak ≤ limit) (f : (path b env).gives ≡ got ys) (m : (path b env).peak ≤ limit) where
  of_itself : are_one a b ≡ true → compared o (first_of xs) (first_of ys) ≡ holds_of_itself o
  of_itself t =
      let same : xs ≡ ys = same_got xs ys (sym e ∙ subst (λ c. (path c env).gives ≡ got ys) (sym (one_is a b t)) f) in
      subst (λ zs. compared o (first_of xs) (first_of zs) ≡ holds_of_itself o) same (compared_itself o (first_of xs))

  by_ranges : (t : Bool) → compares_numbers o a ≡ true → told_by o (range_of rs a) (range_of rs b) ≡ Some t → compared o (first_of xs) (first_of ys) ≡ t
  by_ranges t n s = by_numbers o a env xs (first_of ys) n e
      ∙ told_holds o (range_of rs a) (range_of rs b) (number_in xs) (number_in ys) t (values_lie rs a env xs lie l e) (values_lie rs b env ys lie m f) s

  known_holds : (t : Bool) → known rs o a b ≡ Some t → compared o (first_of xs) (first_of ys) ≡ t
  known_holds t k = by (are_one a b) (compares_numbers o a) of_itself (by_ranges t) k
    where
      by : (u v : Bool) → (u ≡ true → compared o (first_of xs) (first_of ys) ≡ holds_of_itself o) →
          (v ≡ true → told_by o (range_of rs a) (range_of rs b) ≡ Some t → compared o (first_of xs) (first_of ys) ≡ t) →
          cond u (Some (holds_of_itself o)) (cond v (told_by o (range_of rs a) (range_of rs b)) None) ≡ Some t → compared o (first_of xs) (first_of ys) ≡ t
      by true v g h k = g refl ∙ some_same (holds_of_itself o) t k
      by false true g h k = h refl k
      by false false g h k = cc

  both_given : (t : Bool) → compared o (first_of xs) (first_of ys) ≡ t → Alike (path (code_compare o a b) env) (gives_truth t)
  both_given t c = by (path a env).gives (path a env).peak (path b env).gives (path b env).peak e l f m
    where
      by : (g : Got (List Value)) (k : ℕ) (h : Got (List Value)) (n : ℕ) → g ≡ got xs → k ≤ limit → h ≡ got ys → n ≤ limit →
          Alike (then_path (path_of g k) (λ x. then_path (path_of h n) (λ y. gives_truth (compared o (first_of x) (first_of y))))) (gives_truth t)
      by g k h n e l f m = rw (e, f, c) (both_fit (path_of (got (truth t ∷ [])) (max k (max n 0))) (gives_truth t) (omega (arith, l, m)) (omega arith) refl)

told_alike : (rs : List Range) (o : Order) (a b : CodeTree) (env : List Value) (t : Bool) → LieIn rs env → told rs o a b ≡ Some t →
    Alike (path (code_compare o a b) env) (gives_truth t)
told_alike rs o a b env t lie e = by (is_total rs a && is_total rs b) refl e
  where
    by : (u : Bool) → (is_total rs a && is_total rs b) ≡ u → cond u (known rs o a b) None ≡ Some t → Alike (path (code_compare o a b) env) (gives_truth t)
    by false f e = cc
    by true f e =
        let q = and_true (is_total rs a) (is_total rs b) f in
        let d = total_codes rs a env lie q.0 in
        let g = total_codes rs b env lie q.1 in
        both_given rs o a b env d.values g.values lie d.gives d.fits g.gives g.fits t
        (known_holds rs o a b env d.values g.values lie d.gives d.fits g.gives g.fits t e)

pub comparison_alike : (rs : List Range) (o : Order) (a b : CodeTree) (env : List Value) → LieIn rs env →
    Alike (path (code_compare o a b) env) (path (comparison rs o a b) env)
comparison_alike rs o a b env lie = by (told rs o a b) refl
  where
    by : (d : Option Bool) → told rs o a b ≡ d → Alike (path (code_compare o a b) env) (path (compared_as d o a b) env)
    by None e = alike_refl (path (code_compare o a b) env)
    by (Some t) e = told_alike rs o a b env t lie e

-- ---- types
pub comparison_free : (rs : List Range) (o : Order) (a b : CodeTree) → HasNoSolve (code_compare o a b) → HasNoSolve (comparison rs o a b)
comparison_free rs o a b h = by (told rs o a b)
  where
    by : (d : Option Bool) → HasNoSolve (compared_as d o a b)
    by None = h
    by (Some t) = tt

pub comparison_typed : (rs : List Range) (o : Order) (a b : CodeTree) (scope : List Base) (asked : Option (List Base)) (bs : List Base) →
    HasBases (code_compare o a b) scope asked bs → HasBases (comparison rs o a b) scope asked bs
comparison_typed rs o a b scope asked bs h = by (told rs o a b)
  where
    by : (d : Option Bool) → HasBases (compared_as d o a b) scope asked bs
    by None = h
    by (Some t) = h.4
