-- Worked examples of printed expressions in each language.
use Rattle.std.specs.Prelude.{ℕ, pos, negsuc, ◌≡◌, true, false, List, [], ◌∷◌, map, refl, codes}
use Rattle.std.specs.Fmt.{digits}
use Rattle.cf_tree.specs.declared.base.Base.TheVariants.{Int, Bool as Truth, Set}
use Rattle.cf_tree.specs.declared.base.Order.TheVariants.{Eq, Ne, Lt, Le, Gt, Ge}
use Rattle.cf_tree.specs.CodeTree.{CodeTree, code_lit, code_truth, code_var, code_set_of, code_sum, code_sub, code_mul, code_neg, code_div, code_mod, code_min, code_max, code_compare, code_divides, code_and, code_or, code_not, code_union, code_inter, code_diff, code_subset, code_card, code_slice, code_fresh, code_if, codes_of}
use Rattle.cf_range.specs.Ranges.{whole, between as from_to}
use Rattle.cf_print_term.specs.Terms.{text}
use Rattle.cf_print_term.specs.Expressions.{Sight, term_of}
use Rattle.cf_print_term.specs.declared.table.TheConstants.{PYTHON, C as C_TABLE, JAVASCRIPT, RUST}

abbrev var : ℕ → CodeTree
var x = code_var x

abbrev num : ℕ → CodeTree
num k = code_lit (pos k)

abbrev sum : List CodeTree → CodeTree
sum cs = code_sum (codes_of cs)

-- a number x of any size, one y from 0 to 9, a truth value p, and sets s and u
abbrev known : Sight
known = record {
  names = codes "x" ∷ codes "y" ∷ codes "p" ∷ codes "s" ∷ codes "u" ∷ [];
  bases = Int ∷ Int ∷ Truth ∷ Set ∷ Set ∷ [];
  ranges = whole ∷ from_to (pos 0) (pos 9) ∷ whole ∷ whole ∷ whole ∷ [];
}

abbrev python : CodeTree → List ℕ
python c = text (term_of PYTHON known c)

abbrev in_c : CodeTree → List ℕ
in_c c = text (term_of C_TABLE known c)

abbrev in_js : CodeTree → List ℕ
in_js c = text (term_of JAVASCRIPT known c)

abbrev in_rust : CodeTree → List ℕ
in_rust c = text (term_of RUST known c)

-- all comparisons of x and y
abbrev compared : (CodeTree → List ℕ) → List (List ℕ)
compared l = map (λ o. l (code_compare o (var 0) (var 1))) (Eq ∷ Ne ∷ Lt ∷ Le ∷ Gt ∷ Ge ∷ [])

-- ---- numbers

checked_sum : python (sum (var 0 ∷ var 1 ∷ [])) ≡ codes "fit(x + y)"
unfolding digits
checked_sum = refl

free_sum : python (sum (var 1 ∷ num 5 ∷ [])) ≡ codes "y + 5"
unfolding digits
free_sum = refl

taken_off : python (sum (var 1 ∷ code_neg (var 1) ∷ code_lit (negsuc 4) ∷ [])) ≡ codes "y - y - 5"
unfolding digits
taken_off = refl

turned : python (sum (code_neg (var 1) ∷ num 3 ∷ [])) ≡ codes "3 - y"
unfolding digits
turned = refl

negative_factor : python (sum (var 1 ∷ code_mul (code_lit (negsuc 1)) (var 1) ∷ [])) ≡ codes "y - 2 * y"
unfolding digits
negative_factor = refl

difference : python (code_sub (var 1) (code_sub (num 1) (var 1))) ≡ codes "y - (1 - y)"
unfolding digits
difference = refl

checked_difference : python (code_sub (var 0) (num 1)) ≡ codes "fit(x - 1)"
unfolding digits
checked_difference = refl

checked_product : python (code_mul (code_neg (var 0)) (var 1)) ≡ codes "fit(-x * y)"
unfolding digits
checked_product = refl

product : python (code_mul (sum (var 1 ∷ num 1 ∷ [])) (var 1)) ≡ codes "(y + 1) * y"
unfolding digits
product = refl

free_product : python (code_mul (num 7) (var 1)) ≡ codes "7 * y"
unfolding digits
free_product = refl

negation : python (code_neg (sum (var 1 ∷ num 1 ∷ []))) ≡ codes "-(y + 1)"
unfolding digits
negation = refl

quotient : python (code_div (sum (var 1 ∷ num 1 ∷ [])) (pos 60)) ≡ codes "(y + 1) // 60"
unfolding digits
quotient = refl

remainder : python (code_mod (code_div (var 0) (pos 4)) (pos 7)) ≡ codes "x // 4 % 7"
unfolding digits
remainder = refl

least : python (code_min (codes_of (var 0 ∷ num 3 ∷ var 1 ∷ []))) ≡ codes "min(x, 3, y)"
unfolding digits
least = refl

greatest : python (code_max (codes_of (var 0 ∷ num 3 ∷ []))) ≡ codes "max(x, 3)"
unfolding digits
greatest = refl

-- ---- truth values

comparison : python (code_compare Le (var 0) (code_if (var 2) (num 1) (num 2))) ≡ codes "x <= (1 if p else 2)"
unfolding digits
comparison = refl

signs : compared python ≡ codes "x == y" ∷ codes "x != y" ∷ codes "x < y" ∷ codes "x <= y" ∷ codes "x > y" ∷ codes "x >= y" ∷ []
signs = refl

comparisons : python (code_compare Eq (code_compare Le (var 0) (var 1)) (code_compare Eq (var 2) (code_truth false))) ≡
    codes "(x <= y) == (p == False)"
unfolding digits
comparisons = refl

divides : python (code_divides (pos 4) (sum (var 1 ∷ num 1 ∷ []))) ≡ codes "(y + 1) % 4 == 0"
unfolding digits
divides = refl

mixed : python (code_and (code_or (var 2) (code_truth false)) (code_or (var 2) (code_and (var 2) (var 2)))) ≡ codes "(p or False) and (p or p and p)"
unfolding digits
mixed = refl

opposite : python (code_not (code_and (code_compare Ge (var 0) (num 0)) (code_divides (pos 2) (var 0)))) ≡ codes "x < 0 or x % 2 != 0"
unfolding digits
opposite = refl

denied : python (code_not (code_and (var 2) (code_compare Ge (var 0) (num 0)))) ≡ codes "not (p and x >= 0)"
unfolding digits
denied = refl

twice_denied : python (code_not (code_not (var 2))) ≡ codes "p"
unfolding digits
twice_denied = refl

choice : python (code_if (code_if (var 2) (var 2) (var 2)) (var 1) (num 2)) ≡ codes "y if (p if p else p) else 2"
unfolding digits
choice = refl

-- ---- sets

no_set : python (code_set_of (codes_of [])) ≡ codes "frozenset()"
unfolding digits
no_set = refl

set : python (code_set_of (codes_of (num 1 ∷ var 0 ∷ []))) ≡ codes "frozenset({1, x})"
unfolding digits
set = refl

operations : python (code_diff (code_union (codes_of (var 3 ∷ var 4 ∷ []))) (code_inter (codes_of (var 3 ∷ code_diff (var 3) (var 4) ∷ [])))) ≡
    codes "(s | u) - (s & s - u)"
unfolding digits
operations = refl

sets_differ : python (code_not (code_compare Eq (var 3) (var 4))) ≡ codes "s != u"
unfolding digits
sets_differ = refl

subset : python (code_not (code_subset (var 3) (var 4))) ≡ codes "not s <= u"
unfolding digits
subset = refl

calls : python (code_slice (code_fresh (var 3) (num 2)) (code_card (var 4)) (num 1)) ≡ codes "cut(fresh(s, 2), len(u), 1)"
unfolding digits
calls = refl

-- ---- C

c_sum : in_c (sum (var 0 ∷ var 1 ∷ [])) ≡ codes "add(x, y, &past)"
unfolding digits
c_sum = refl

-- one of more parts is one call, whose parts stand as they are
sum_of_three : python (sum (var 0 ∷ code_neg (var 1) ∷ num 1 ∷ [])) ≡ codes "sum_of(x, -y, 1)"
unfolding digits
sum_of_three = refl

c_sum_of : in_c (sum (var 0 ∷ code_neg (var 1) ∷ num 1 ∷ [])) ≡ codes "sum_of((const whole[]){x, -y, 1, END}, &past)"
unfolding digits
c_sum_of = refl

c_numerals : in_c (sum (num 2 ∷ num 3 ∷ [])) ≡ codes "add(2, 3, &past)"
unfolding digits
c_numerals = refl

-- the least of one part is that part, so a sum of two numerals may pass as numerals do
c_alone : in_c (sum (code_min (codes_of (num 2147483647 ∷ [])) ∷ num 1 ∷ [])) ≡ codes "add(2147483647, 1, &past)"
unfolding digits
c_alone = refl

c_long : in_c (num 2147483648) ≡ codes "2147483648LL"
unfolding digits
c_long = refl

c_halves : in_c (code_lit (pos 18446744073709551617)) ≡ codes "from_halves(1, 1ULL)"
unfolding digits
c_halves = refl

c_most : in_c (code_lit (pos 170141183460469231731687303715884105727)) ≡ codes "MAX"
unfolding digits
c_most = refl

c_down : in_c (code_div (var 0) (pos 60)) ≡ codes "div_down(x, 60)"
unfolding digits
c_down = refl

c_natural : in_c (code_mod (var 1) (pos 7)) ≡ codes "y % 7"
unfolding digits
c_natural = refl

c_least : in_c (code_min (codes_of (var 0 ∷ num 3 ∷ var 1 ∷ []))) ≡ codes "least(least(x, 3), y)"
unfolding digits
c_least = refl

c_mixed : in_c (code_or (code_or (var 2) (code_and (var 2) (var 2))) (code_not (var 2))) ≡ codes "p || (p && p) || !p"
unfolding digits
c_mixed = refl

c_signs : compared in_c ≡ codes "x == y" ∷ codes "x != y" ∷ codes "x < y" ∷ codes "x <= y" ∷ codes "x > y" ∷ codes "x >= y" ∷ []
c_signs = refl

c_choice : in_c (code_if (var 2) (num 1) (var 1)) ≡ codes "p ? 1 : y"
unfolding digits
c_choice = refl

-- ---- JavaScript

js_sum : in_js (sum (var 0 ∷ var 1 ∷ [])) ≡ codes "fit(x + y)"
unfolding digits
js_sum = refl

js_sum_of : in_js (sum (var 0 ∷ code_neg (var 1) ∷ num 1 ∷ [])) ≡ codes "sum_of(x, -y, 1n)"
unfolding digits
js_sum_of = refl

js_difference : in_js (code_sub (var 1) (code_sub (num 1) (var 1))) ≡ codes "y - (1n - y)"
unfolding digits
js_difference = refl

js_negations : in_js (code_neg (code_neg (var 1))) ≡ codes "-(-y)"
unfolding digits
js_negations = refl

js_quotients : in_js (code_div (code_mod (var 1) (pos 7)) (pos 60)) ≡ codes "y % 7n / 60n"
unfolding digits
js_quotients = refl

js_down : in_js (code_mod (code_div (var 0) (pos 60)) (pos 7)) ≡ codes "mod(div(x, 60n), 7n)"
unfolding digits
js_down = refl

js_signs : compared in_js ≡ codes "x === y" ∷ codes "x !== y" ∷ codes "x < y" ∷ codes "x <= y" ∷ codes "x > y" ∷ codes "x >= y" ∷ []
js_signs = refl

js_least : in_js (code_min (codes_of (var 0 ∷ num 3 ∷ var 1 ∷ []))) ≡ codes "least(x, 3n, y)"
unfolding digits
js_least = refl

js_divides : in_js (code_not (code_and (code_divides (pos 4) (var 0)) (code_compare Eq (var 1) (num 0)))) ≡ codes "x % 4n !== 0n || y !== 0n"
unfolding digits
js_divides = refl

js_mixed : in_js (code_and (code_or (var 2) (code_truth false)) (code_not (var 2))) ≡ codes "(p || false) && !p"
unfolding digits
js_mixed = refl

js_choice : in_js (code_if (code_if (var 2) (var 2) (code_truth true)) (num 1) (sum (var 1 ∷ num 1 ∷ []))) ≡ codes "(p ? p : true) ? 1n : y + 1n"
unfolding digits
js_choice = refl

js_sets : in_js (code_diff (code_union (codes_of (var 3 ∷ var 4 ∷ []))) (code_set_of (codes_of (num 1 ∷ var 0 ∷ [])))) ≡ codes
    "diff(union(s, u), set_of(1n, x))"
unfolding digits
js_sets = refl

js_sets_differ : in_js (code_not (code_compare Eq (var 3) (code_set_of (codes_of [])))) ≡ codes "!same(s, new Set())"
unfolding digits
js_sets_differ = refl

js_subset : in_js (code_not (code_subset (var 3) (var 4))) ≡ codes "!subset(s, u)"
unfolding digits
js_subset = refl

-- ---- Rust

rust_sum : in_rust (sum (var 0 ∷ var 1 ∷ [])) ≡ codes "add(x, y)?"
unfolding digits
rust_sum = refl

rust_sum_of : in_rust (sum (var 0 ∷ code_neg (var 1) ∷ num 1 ∷ [])) ≡ codes "sum_of(&[x, -y, 1])?"
unfolding digits
rust_sum_of = refl

rust_difference : in_rust (code_sub (var 0) (code_mul (num 2) (var 0))) ≡ codes "sub(x, mul(2, x)?)?"
unfolding digits
rust_difference = refl

rust_free : in_rust (code_mul (sum (var 1 ∷ num 5 ∷ [])) (code_sub (var 1) (code_mod (var 1) (pos 7)))) ≡ codes "(y + 5) * (y - y % 7)"
unfolding digits
rust_free = refl

rust_numerals : in_rust (sum (num 2 ∷ num 3 ∷ [])) ≡ codes "add(2, 3)?"
unfolding digits
rust_numerals = refl

rust_long : in_rust (code_lit (negsuc 2147483647)) ≡ codes "-2147483648_i128"
unfolding digits
rust_long = refl

rust_short : in_rust (num 2147483647) ≡ codes "2147483647"
unfolding digits
rust_short = refl

rust_down : in_rust (code_div (code_mod (var 0) (pos 7)) (pos 60)) ≡ codes "i128::rem_euclid(x, 7) / 60"
unfolding digits
rust_down = refl

rust_quotient : in_rust (code_div (num 9) (pos 5)) ≡ codes "i128::div_euclid(9, 5)"
unfolding digits
rust_quotient = refl

rust_least : in_rust (code_min (codes_of (var 0 ∷ num 3 ∷ var 1 ∷ []))) ≡ codes "i128::min(i128::min(x, 3), y)"
unfolding digits
rust_least = refl

rust_greatest : in_rust (code_max (codes_of (num 3 ∷ var 1 ∷ []))) ≡ codes "i128::max(3, y)"
unfolding digits
rust_greatest = refl

rust_signs : compared in_rust ≡ codes "x == y" ∷ codes "x != y" ∷ codes "x < y" ∷ codes "x <= y" ∷ codes "x > y" ∷ codes "x >= y" ∷ []
rust_signs = refl

rust_words : in_rust (code_or (code_truth false) (code_not (var 2))) ≡ codes "false || !p"
unfolding digits
rust_words = refl

rust_mixed : in_rust (code_or (code_or (var 2) (code_and (var 2) (var 2))) (code_compare Ge (var 0) (num 0))) ≡ codes "p || (p && p) || x >= 0"
unfolding digits
rust_mixed = refl

rust_denied : in_rust (code_not (code_and (var 2) (code_divides (pos 4) (var 1)))) ≡ codes "!(p && y % 4 == 0)"
unfolding digits
rust_denied = refl

-- a choice stands alone in a choice, and in parentheses beside a sign
rust_choice : in_rust (code_if (code_if (var 2) (var 2) (code_truth true)) (var 1) (num 2)) ≡ codes "if if p { p } else { true } { y } else { 2 }"
unfolding digits
rust_choice = refl

rust_beside : in_rust (code_or (code_if (var 2) (var 2) (code_truth true)) (var 2)) ≡ codes "(if p { p } else { true }) || p"
unfolding digits
rust_beside = refl

-- a set that is a variable is copied where one of its own is given
rust_sets : in_rust (code_if (var 2) (var 3) (code_union (codes_of (var 3 ∷ var 4 ∷ var 3 ∷ [])))) ≡
    codes "if p { s.clone() } else { union(union(s, u), s) }"
unfolding digits
rust_sets = refl

rust_copied : in_rust (code_if (var 2) (var 3) (var 4)) ≡ codes "if p { s.clone() } else { u.clone() }"
unfolding digits
rust_copied = refl

rust_set : in_rust (code_diff (code_set_of (codes_of (num 1 ∷ var 0 ∷ []))) (code_set_of (codes_of []))) ≡ codes "diff(BTreeSet::from([1, x]), BTreeSet::new())"
unfolding digits
rust_set = refl

rust_same : in_rust (code_compare Eq (var 3) (code_inter (codes_of (var 3 ∷ var 4 ∷ [])))) ≡ codes "same(s, inter(s, u))"
unfolding digits
rust_same = refl

rust_others : in_rust (code_not (code_compare Eq (var 3) (var 4))) ≡ codes "!same(s, u)"
unfolding digits
rust_others = refl

rust_calls : in_rust (code_subset (code_slice (code_fresh (var 3) (num 2)) (code_card (var 4)) (num 1)) (var 3)) ≡
    codes "subset(cut(fresh(s, 2), card(u), 1), s)"
unfolding digits
rust_calls = refl
