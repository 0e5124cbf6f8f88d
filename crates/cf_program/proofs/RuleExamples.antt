-- Worked examples that hold down the rules: the typed program of a source, or the first rule that it breaks.
--
-- Above each example stands its source.
use Rattle.std.specs.Prelude.{ℕ, pos, negsuc, ◌≡◌, true, false, List, [], ◌∷◌, codes, Ok, Err, refl}
use Rattle.cf_num.specs.Divisors.{gcd_by}
use Rattle.cf_tree.specs.declared.base.Base.{Base}
use Rattle.cf_tree.specs.declared.base.Base.TheVariants.{Int, Bool as Truth, Set}
use Rattle.cf_tree.specs.declared.base.Order.TheVariants.{Eq, Ne, Lt, Le, Gt, Ge}
use Rattle.cf_tree.specs.declared.base.Place.{Place}
use Rattle.cf_tree.specs.declared.raw.BinOp.TheVariants.{Add, Sub, Mul, And, Or, Union, Inter, Diff, Subset, Compare}
use Rattle.cf_tree.specs.declared.raw.Param.{Param}
use Rattle.cf_tree.specs.DefView.{RawDefTree, DefTree}
use Rattle.cf_tree.specs.ExprTree.{ExprTree, expr_lit, expr_truth, expr_var, expr_set_of, expr_tuple, expr_neg, expr_not, expr_abs, expr_binary, expr_divides, expr_div, expr_mod, expr_card, expr_if, expr_call, expr_let, expr_choose, expr_match, no_exprs, exprs_of, match_arm, match_arms_of}
use Rattle.cf_tree.specs.RawTree.{RawTree, raw_lit, raw_truth, raw_name, raw_set_of, raw_group, raw_tuple, raw_neg, raw_not, raw_abs, raw_binary, raw_card, raw_call, raw_if, raw_let, raw_match, no_raws, raws_of, raw_arm, raw_arms_of}
use Rattle.cf_tree.specs.RelTree.{empty_set, set_var, union_of, inter_of, diff_of, term_lit, term_var, term_card, term_neg, term_add, term_sub, term_mul, term_div, term_mod, term_abs, rel_true, rel_false, rel_compare, rel_same_set, rel_other_set, rel_subset, rel_divides, rel_and, rel_or, rel_not}
use Rattle.cf_program.specs.declared.fault.TypeFault.TheVariants.{UnknownName, DuplicateName, WrongCount, Mismatch, CallsLater, NoMain, NotLinear}
use Rattle.cf_program.proofs.PlainForms.{raw_divides, raw_div, raw_mod, raw_choose, part, checked}
use Rattle.cf_program.specs.Checked.{TypedTree}
use Rattle.cf_program.specs.Reading.{relation, term, set, not_linear, on_relation, on_term, on_set, sets_reading}
use Rattle.cf_program.specs.Walk.{linear}

-- a place in the first line, and in another
abbrev pub at : ℕ → Place
at column = record { line = 1; column = column }

abbrev pub on : ℕ → ℕ → Place
on line column = record { line = line; column = column }

abbrev pub param : Place → List ℕ → Base → Param
param p x b = record { place = p; name = x; base = b }

abbrev pub def : Place → List ℕ → List Param → List Base → RawTree → RawDefTree
def p x ps bs body = record { place = p; name = x; params = ps; results = bs; body = body }

abbrev typed : List ℕ → List Param → List Base → ExprTree → DefTree
typed x ps bs body = record { name = x; params = ps; results = bs; body = body }

abbrev program : List DefTree → ℕ → TypedTree
program defs main = record { defs = defs; main = main }

-- def main(a: int, s: set): (int, int, int, int, int) = (a + a, a - 2, a * a, -a, card(s))
numbers :
    checked (def (at 1) (codes "main") (param (at 10) (codes "a") Int ∷ param (at 18) (codes "s") Set ∷ []) (Int ∷ Int ∷ Int ∷ Int ∷ Int ∷ []) (raw_tuple
    (at 55) (raws_of (raw_binary (at 58) Add (raw_name (at 56) (codes "a")) (raw_name (at 60) (codes "a")) ∷ raw_binary (at 65) Sub (raw_name (at 63)
    (codes "a")) (raw_lit (at 67) (pos 2)) ∷ raw_binary (at 72) Mul (raw_name (at 70) (codes "a")) (raw_name (at 74) (codes "a")) ∷ raw_neg (at 77)
    (raw_name (at 78) (codes "a")) ∷ raw_card (at 81) (raw_name (at 86) (codes "s")) ∷ []))) ∷ [])
    ≡ Ok (program (typed (codes "main") (param (at 10) (codes "a") Int ∷ param (at 18) (codes "s") Set ∷ []) (Int ∷ Int ∷ Int ∷ Int ∷ Int ∷ []) (expr_tuple
    (exprs_of (expr_binary Add (expr_var 0) (expr_var 0) ∷ expr_binary Sub (expr_var 0) (expr_lit (pos 2)) ∷ expr_binary Mul (expr_var 0) (expr_var 0) ∷
    expr_neg (expr_var 0) ∷ expr_card (expr_var 1) ∷ []))) ∷ []) 0)
numbers = refl

-- def main(a: int): (int, int, int, bool) = (abs(a), div(a, 2), mod(a, 3), 5 divides a)
divisions :
    checked (def (at 1) (codes "main") (param (at 10) (codes "a") Int ∷ []) (Int ∷ Int ∷ Int ∷ Truth ∷ []) (raw_tuple (at 43) (raws_of (raw_abs (at 44)
    (raw_name (at 48) (codes "a")) ∷ raw_div (at 52) (raw_name (at 56) (codes "a")) (pos 2) ∷ raw_mod (at 63) (raw_name (at 67) (codes "a")) (pos 3) ∷
    raw_divides (at 74) (pos 5) (raw_name (at 84) (codes "a")) ∷ []))) ∷ [])
    ≡ Ok (program (typed (codes "main") (param (at 10) (codes "a") Int ∷ []) (Int ∷ Int ∷ Int ∷ Truth ∷ []) (expr_tuple (exprs_of (expr_abs (expr_var 0) ∷
    expr_div (expr_var 0) (pos 2) ∷ expr_mod (expr_var 0) (pos 3) ∷ expr_divides (pos 5) (expr_var 0) ∷ []))) ∷ []) 0)
divisions = refl

-- def main(p: bool, q: bool): (bool, bool, bool, bool, bool) = (p && q, p || q, !p, true, false)
truths :
    checked (def (at 1) (codes "main") (param (at 10) (codes "p") Truth ∷ param (at 19) (codes "q") Truth ∷ []) (Truth ∷ Truth ∷ Truth ∷ Truth ∷ Truth ∷
    []) (raw_tuple (at 62) (raws_of (raw_binary (at 65) And (raw_name (at 63) (codes "p")) (raw_name (at 68) (codes "q")) ∷ raw_binary (at 73) Or (raw_name
    (at 71) (codes "p")) (raw_name (at 76) (codes "q")) ∷ raw_not (at 79) (raw_name (at 80) (codes "p")) ∷ raw_truth (at 83) true ∷ raw_truth (at 89) false
    ∷ []))) ∷ [])
    ≡ Ok (program (typed (codes "main") (param (at 10) (codes "p") Truth ∷ param (at 19) (codes "q") Truth ∷ []) (Truth ∷ Truth ∷ Truth ∷ Truth ∷ Truth ∷
    []) (expr_tuple (exprs_of (expr_binary And (expr_var 0) (expr_var 1) ∷ expr_binary Or (expr_var 0) (expr_var 1) ∷ expr_not (expr_var 0) ∷ expr_truth
    true ∷ expr_truth false ∷ []))) ∷ []) 0)
truths = refl

-- def main(a: int): (bool, bool, bool, bool, bool, bool) = (a == 1, a != 1, a < 1, a <= 1, a > 1, a >= 1)
comparisons :
    checked (def (at 1) (codes "main") (param (at 10) (codes "a") Int ∷ []) (Truth ∷ Truth ∷ Truth ∷ Truth ∷ Truth ∷ Truth ∷ []) (raw_tuple (at 58)
    (raws_of (raw_binary (at 61) (Compare Eq) (raw_name (at 59) (codes "a")) (raw_lit (at 64) (pos 1)) ∷ raw_binary (at 69) (Compare Ne) (raw_name (at 67)
    (codes "a")) (raw_lit (at 72) (pos 1)) ∷ raw_binary (at 77) (Compare Lt) (raw_name (at 75) (codes "a")) (raw_lit (at 79) (pos 1)) ∷ raw_binary (at 84)
    (Compare Le) (raw_name (at 82) (codes "a")) (raw_lit (at 87) (pos 1)) ∷ raw_binary (at 92) (Compare Gt) (raw_name (at 90) (codes "a")) (raw_lit (at 94)
    (pos 1)) ∷ raw_binary (at 99) (Compare Ge) (raw_name (at 97) (codes "a")) (raw_lit (at 102) (pos 1)) ∷ []))) ∷ [])
    ≡ Ok (program (typed (codes "main") (param (at 10) (codes "a") Int ∷ []) (Truth ∷ Truth ∷ Truth ∷ Truth ∷ Truth ∷ Truth ∷ []) (expr_tuple (exprs_of
    (expr_binary (Compare Eq) (expr_var 0) (expr_lit (pos 1)) ∷ expr_binary (Compare Ne) (expr_var 0) (expr_lit (pos 1)) ∷ expr_binary (Compare Lt)
    (expr_var 0) (expr_lit (pos 1)) ∷ expr_binary (Compare Le) (expr_var 0) (expr_lit (pos 1)) ∷ expr_binary (Compare Gt) (expr_var 0) (expr_lit (pos 1)) ∷
    expr_binary (Compare Ge) (expr_var 0) (expr_lit (pos 1)) ∷ []))) ∷ []) 0)
comparisons = refl

-- def main(s: set, p: bool): (bool, bool, bool, bool) = (s == s, s != s, p == p, p != p)
same_sides :
    checked (def (at 1) (codes "main") (param (at 10) (codes "s") Set ∷ param (at 18) (codes "p") Truth ∷ []) (Truth ∷ Truth ∷ Truth ∷ Truth ∷ [])
    (raw_tuple (at 55) (raws_of (raw_binary (at 58) (Compare Eq) (raw_name (at 56) (codes "s")) (raw_name (at 61) (codes "s")) ∷ raw_binary (at 66)
    (Compare Ne) (raw_name (at 64) (codes "s")) (raw_name (at 69) (codes "s")) ∷ raw_binary (at 74) (Compare Eq) (raw_name (at 72) (codes "p")) (raw_name
    (at 77) (codes "p")) ∷ raw_binary (at 82) (Compare Ne) (raw_name (at 80) (codes "p")) (raw_name (at 85) (codes "p")) ∷ []))) ∷ [])
    ≡ Ok (program (typed (codes "main") (param (at 10) (codes "s") Set ∷ param (at 18) (codes "p") Truth ∷ []) (Truth ∷ Truth ∷ Truth ∷ Truth ∷ [])
    (expr_tuple (exprs_of (expr_binary (Compare Eq) (expr_var 0) (expr_var 0) ∷ expr_binary (Compare Ne) (expr_var 0) (expr_var 0) ∷ expr_binary (Compare
    Eq) (expr_var 1) (expr_var 1) ∷ expr_binary (Compare Ne) (expr_var 1) (expr_var 1) ∷ []))) ∷ []) 0)
same_sides = refl

-- def main(s: set, a: int): (set, set, set, set, set, bool) = (s union s, s inter s, s diff s, {}, {a, 1}, s subset s)
sets :
    checked (def (at 1) (codes "main") (param (at 10) (codes "s") Set ∷ param (at 18) (codes "a") Int ∷ []) (Set ∷ Set ∷ Set ∷ Set ∷ Set ∷ Truth ∷ [])
    (raw_tuple (at 61) (raws_of (raw_binary (at 64) Union (raw_name (at 62) (codes "s")) (raw_name (at 70) (codes "s")) ∷ raw_binary (at 75) Inter
    (raw_name (at 73) (codes "s")) (raw_name (at 81) (codes "s")) ∷ raw_binary (at 86) Diff (raw_name (at 84) (codes "s")) (raw_name (at 91) (codes "s")) ∷
    raw_set_of (at 94) no_raws ∷ raw_set_of (at 98) (raws_of (raw_name (at 99) (codes "a") ∷ raw_lit (at 102) (pos 1) ∷ [])) ∷ raw_binary (at 108) Subset
    (raw_name (at 106) (codes "s")) (raw_name (at 115) (codes "s")) ∷ []))) ∷ [])
    ≡ Ok (program (typed (codes "main") (param (at 10) (codes "s") Set ∷ param (at 18) (codes "a") Int ∷ []) (Set ∷ Set ∷ Set ∷ Set ∷ Set ∷ Truth ∷ [])
    (expr_tuple (exprs_of (expr_binary Union (expr_var 0) (expr_var 0) ∷ expr_binary Inter (expr_var 0) (expr_var 0) ∷ expr_binary Diff (expr_var 0)
    (expr_var 0) ∷ expr_set_of no_exprs ∷ expr_set_of (exprs_of (expr_var 1 ∷ expr_lit (pos 1) ∷ [])) ∷ expr_binary Subset (expr_var 0) (expr_var 0) ∷
    []))) ∷ []) 0)
sets = refl

-- def main(a: int): int = let (b, a) = (a + 1, true) in if a then (b) else (let b = 3 in b)
shadowed :
    checked (def (at 1) (codes "main") (param (at 10) (codes "a") Int ∷ []) (Int ∷ []) (raw_let (at 25) ((codes "b") ∷ (codes "a") ∷ []) ((at 30) ∷ (at 33)
    ∷ []) (raw_tuple (at 38) (raws_of (raw_binary (at 41) Add (raw_name (at 39) (codes "a")) (raw_lit (at 43) (pos 1)) ∷ raw_truth (at 46) true ∷ [])))
    (raw_if (at 55) (raw_name (at 58) (codes "a")) (raw_group (at 65) (raw_name (at 66) (codes "b"))) (raw_group (at 74) (raw_let (at 75) ((codes "b") ∷
    []) ((at 79) ∷ []) (raw_lit (at 83) (pos 3)) (raw_name (at 88) (codes "b")))))) ∷ [])
    ≡ Ok (program (typed (codes "main") (param (at 10) (codes "a") Int ∷ []) (Int ∷ []) (expr_let 2 (expr_tuple (exprs_of (expr_binary Add (expr_var 0)
    (expr_lit (pos 1)) ∷ expr_truth true ∷ []))) (expr_if (expr_var 2) (expr_var 1) (expr_let 1 (expr_lit (pos 3)) (expr_var 3)))) ∷ []) 0)
shadowed = refl

-- def f(x: int, s: set): (int, set) = (x, s)
-- def main(a: int): (int, set) = f(a, {})
calls :
    checked (def (at 1) (codes "f") (param (at 7) (codes "x") Int ∷ param (at 15) (codes "s") Set ∷ []) (Int ∷ Set ∷ []) (raw_tuple (at 37) (raws_of
    (raw_name (at 38) (codes "x") ∷ raw_name (at 41) (codes "s") ∷ []))) ∷ def (on 2 1) (codes "main") (param (on 2 10) (codes "a") Int ∷ []) (Int ∷ Set ∷
    []) (raw_call (on 2 32) (codes "f") (raws_of (raw_name (on 2 34) (codes "a") ∷ raw_set_of (on 2 37) no_raws ∷ []))) ∷ [])
    ≡ Ok (program (typed (codes "f") (param (at 7) (codes "x") Int ∷ param (at 15) (codes "s") Set ∷ []) (Int ∷ Set ∷ []) (expr_tuple (exprs_of (expr_var 0
    ∷ expr_var 1 ∷ []))) ∷ typed (codes "main") (param (on 2 10) (codes "a") Int ∷ []) (Int ∷ Set ∷ []) (expr_call 0 (exprs_of (expr_var 0 ∷ expr_set_of
    no_exprs ∷ []))) ∷ []) 1)
calls = refl

-- def main(a: int): int = choose (x: int) where x + a - 2 * x == -3 * a && div(x, 2) < a && mod(x, 3) <= abs(a) && x >= x * (1 - 4)
chosen_numbers :
    checked (def (at 1) (codes "main") (param (at 10) (codes "a") Int ∷ []) (Int ∷ []) (raw_choose (at 25) (param (at 33) (codes "x") Int ∷ []) (raw_binary
    (at 111) And (raw_binary (at 88) And (raw_binary (at 71) And (raw_binary (at 61) (Compare Eq) (raw_binary (at 53) Sub (raw_binary (at 49) Add (raw_name
    (at 47) (codes "x")) (raw_name (at 51) (codes "a"))) (raw_binary (at 57) Mul (raw_lit (at 55) (pos 2)) (raw_name (at 59) (codes "x")))) (raw_binary (at
    67) Mul (raw_neg (at 64) (raw_lit (at 65) (pos 3))) (raw_name (at 69) (codes "a")))) (raw_binary (at 84) (Compare Lt) (raw_div (at 74) (raw_name (at
    78) (codes "x")) (pos 2)) (raw_name (at 86) (codes "a")))) (raw_binary (at 101) (Compare Le) (raw_mod (at 91) (raw_name (at 95) (codes "x")) (pos 3))
    (raw_abs (at 104) (raw_name (at 108) (codes "a"))))) (raw_binary (at 116) (Compare Ge) (raw_name (at 114) (codes "x")) (raw_binary (at 121) Mul
    (raw_name (at 119) (codes "x")) (raw_group (at 123) (raw_binary (at 126) Sub (raw_lit (at 124) (pos 1)) (raw_lit (at 128) (pos 4)))))))) ∷ [])
    ≡ Ok (program (typed (codes "main") (param (at 10) (codes "a") Int ∷ []) (Int ∷ []) (expr_choose 1 (param (at 10) (codes "a") Int ∷ []) (Int ∷ [])
    (rel_and (rel_and (rel_and (rel_compare Eq (term_sub (term_add (term_var 1) (term_var 0)) (term_mul (term_lit (pos 2)) (term_var 1))) (term_mul
    (term_neg (term_lit (pos 3))) (term_var 0))) (rel_compare Lt (term_div (term_var 1) (pos 2)) (term_var 0))) (rel_compare Le (term_mod (term_var 1) (pos
    3)) (term_abs (term_var 0)))) (rel_compare Ge (term_var 1) (term_mul (term_var 1) (term_sub (term_lit (pos 1)) (term_lit (pos 4))))))) ∷ []) 0)
chosen_numbers = refl

-- def main(a: int): int = choose (x: int) where (true || false) && !(2 divides x) && a != x && (x > a)
chosen_truth :
    checked (def (at 1) (codes "main") (param (at 10) (codes "a") Int ∷ []) (Int ∷ []) (raw_choose (at 25) (param (at 33) (codes "x") Int ∷ []) (raw_binary
    (at 91) And (raw_binary (at 81) And (raw_binary (at 63) And (raw_group (at 47) (raw_binary (at 53) Or (raw_truth (at 48) true) (raw_truth (at 56)
    false))) (raw_not (at 66) (raw_group (at 67) (raw_divides (at 68) (pos 2) (raw_name (at 78) (codes "x")))))) (raw_binary (at 86) (Compare Ne) (raw_name
    (at 84) (codes "a")) (raw_name (at 89) (codes "x")))) (raw_group (at 94) (raw_binary (at 97) (Compare Gt) (raw_name (at 95) (codes "x")) (raw_name (at
    99) (codes "a")))))) ∷ [])
    ≡ Ok (program (typed (codes "main") (param (at 10) (codes "a") Int ∷ []) (Int ∷ []) (expr_choose 1 (param (at 10) (codes "a") Int ∷ []) (Int ∷ [])
    (rel_and (rel_and (rel_and (rel_or (rel_true) (rel_false)) (rel_not (rel_divides (pos 2) (term_var 1)))) (rel_compare Ne (term_var 0) (term_var 1)))
    (rel_compare Gt (term_var 1) (term_var 0)))) ∷ []) 0)
chosen_truth = refl

-- def main(s: set): set = choose (t: set) where t union s == s && t inter {} != s diff t && t subset s && card(t) == 1
chosen_sets :
    checked (def (at 1) (codes "main") (param (at 10) (codes "s") Set ∷ []) (Set ∷ []) (raw_choose (at 25) (param (at 33) (codes "t") Set ∷ []) (raw_binary
    (at 102) And (raw_binary (at 88) And (raw_binary (at 62) And (raw_binary (at 57) (Compare Eq) (raw_binary (at 49) Union (raw_name (at 47) (codes "t"))
    (raw_name (at 55) (codes "s"))) (raw_name (at 60) (codes "s"))) (raw_binary (at 76) (Compare Ne) (raw_binary (at 67) Inter (raw_name (at 65) (codes
    "t")) (raw_set_of (at 73) no_raws)) (raw_binary (at 81) Diff (raw_name (at 79) (codes "s")) (raw_name (at 86) (codes "t"))))) (raw_binary (at 93)
    Subset (raw_name (at 91) (codes "t")) (raw_name (at 100) (codes "s")))) (raw_binary (at 113) (Compare Eq) (raw_card (at 105) (raw_name (at 110) (codes
    "t"))) (raw_lit (at 116) (pos 1))))) ∷ [])
    ≡ Ok (program (typed (codes "main") (param (at 10) (codes "s") Set ∷ []) (Set ∷ []) (expr_choose 1 (param (at 10) (codes "s") Set ∷ []) (Set ∷ [])
    (rel_and (rel_and (rel_and (rel_same_set (union_of (set_var 1) (set_var 0)) (set_var 0)) (rel_other_set (inter_of (set_var 1) (empty_set)) (diff_of
    (set_var 0) (set_var 1)))) (rel_subset (set_var 1) (set_var 0))) (rel_compare Eq (term_card (set_var 1)) (term_lit (pos 1))))) ∷ []) 0)
chosen_sets = refl

-- def main(a: int): (int, int) = let b = a in choose (x: int, y: int) where x == b && y == a && b == x
chosen_behind :
    checked (def (at 1) (codes "main") (param (at 10) (codes "a") Int ∷ []) (Int ∷ Int ∷ []) (raw_let (at 32) ((codes "b") ∷ []) ((at 36) ∷ []) (raw_name
    (at 40) (codes "a")) (raw_choose (at 45) (param (at 53) (codes "x") Int ∷ param (at 61) (codes "y") Int ∷ []) (raw_binary (at 92) And (raw_binary (at
    82) And (raw_binary (at 77) (Compare Eq) (raw_name (at 75) (codes "x")) (raw_name (at 80) (codes "b"))) (raw_binary (at 87) (Compare Eq) (raw_name (at
    85) (codes "y")) (raw_name (at 90) (codes "a")))) (raw_binary (at 97) (Compare Eq) (raw_name (at 95) (codes "b")) (raw_name (at 100) (codes "x")))))) ∷
    [])
    ≡ Ok (program (typed (codes "main") (param (at 10) (codes "a") Int ∷ []) (Int ∷ Int ∷ []) (expr_let 1 (expr_var 0) (expr_choose 1 (param (at 10) (codes
    "a") Int ∷ param (at 36) (codes "b") Int ∷ []) (Int ∷ Int ∷ []) (rel_and (rel_and (rel_compare Eq (term_var 2) (term_var 1)) (rel_compare Eq (term_var
    3) (term_var 0))) (rel_compare Eq (term_var 1) (term_var 2))))) ∷ []) 0)
chosen_behind = refl

-- def f(a: int): int = (choose (x: int) where x == a) + (choose (y: int) where true)
-- def main(a: int): int = match choose (x: int) where true with { 2 * i then choose (y: int) where y == i; 7 then choose (z: int) where false }
numbered :
    checked (def (at 1) (codes "f") (param (at 7) (codes "a") Int ∷ []) (Int ∷ []) (raw_binary (at 53) Add (raw_group (at 22) (raw_choose (at 23) (param
    (at 31) (codes "x") Int ∷ []) (raw_binary (at 47) (Compare Eq) (raw_name (at 45) (codes "x")) (raw_name (at 50) (codes "a"))))) (raw_group (at 55)
    (raw_choose (at 56) (param (at 64) (codes "y") Int ∷ []) (raw_truth (at 78) true)))) ∷ def (on 2 1) (codes "main") (param (on 2 10) (codes "a") Int ∷
    []) (Int ∷ []) (raw_match (on 2 25) (raw_choose (on 2 31) (param (on 2 39) (codes "x") Int ∷ []) (raw_truth (on 2 53) true)) (raw_arms_of (raw_arm
    (part (on 2 69) (pos 2) (codes "i") ∷ []) (pos 0) (raw_choose (on 2 76) (param (on 2 84) (codes "y") Int ∷ []) (raw_binary (on 2 100) (Compare Eq)
    (raw_name (on 2 98) (codes "y")) (raw_name (on 2 103) (codes "i")))) ∷ raw_arm [] (pos 7) (raw_choose (on 2 113) (param (on 2 121) (codes "z") Int ∷
    []) (raw_truth (on 2 135) false)) ∷ []))) ∷ [])
    ≡ Ok (program (typed (codes "f") (param (at 7) (codes "a") Int ∷ []) (Int ∷ []) (expr_binary Add (expr_choose 1 (param (at 7) (codes "a") Int ∷ [])
    (Int ∷ []) (rel_compare Eq (term_var 1) (term_var 0))) (expr_choose 2 (param (at 7) (codes "a") Int ∷ []) (Int ∷ []) (rel_true))) ∷ typed (codes
    "main") (param (on 2 10) (codes "a") Int ∷ []) (Int ∷ []) (expr_match 3 (param (on 2 10) (codes "a") Int ∷ param (on 2 25) (codes "match") Int ∷ [])
    (expr_choose 4 (param (on 2 10) (codes "a") Int ∷ []) (Int ∷ []) (rel_true)) (match_arms_of (match_arm 5 ((pos 2) ∷ []) (pos 0) (expr_choose 6 (param
    (on 2 10) (codes "a") Int ∷ param (on 2 25) (codes "match") Int ∷ param (on 2 69) (codes "i") Int ∷ []) (Int ∷ []) (rel_compare Eq (term_var 3)
    (term_var 2))) ∷ match_arm 0 [] (pos 7) (expr_choose 7 (param (on 2 10) (codes "a") Int ∷ param (on 2 25) (codes "match") Int ∷ []) (Int ∷ [])
    (rel_false)) ∷ []))) ∷ []) 1)
unfolding gcd_by
numbered = refl

-- def main(a: int): int = match a with { 2 * i - 3 * j + 1 then i - j; i then i + a; 3 then a }
matched :
    checked (def (at 1) (codes "main") (param (at 10) (codes "a") Int ∷ []) (Int ∷ []) (raw_match (at 25) (raw_name (at 31) (codes "a")) (raw_arms_of
    (raw_arm (part (at 44) (pos 2) (codes "i") ∷ part (at 52) (negsuc 2) (codes "j") ∷ []) (pos 1) (raw_binary (at 65) Sub (raw_name (at 63) (codes "i"))
    (raw_name (at 67) (codes "j"))) ∷ raw_arm (part (at 70) (pos 1) (codes "i") ∷ []) (pos 0) (raw_binary (at 79) Add (raw_name (at 77) (codes "i"))
    (raw_name (at 81) (codes "a"))) ∷ raw_arm [] (pos 3) (raw_name (at 91) (codes "a")) ∷ []))) ∷ [])
    ≡ Ok (program (typed (codes "main") (param (at 10) (codes "a") Int ∷ []) (Int ∷ []) (expr_match 1 (param (at 10) (codes "a") Int ∷ param (at 25) (codes
    "match") Int ∷ []) (expr_var 0) (match_arms_of (match_arm 2 ((pos 2) ∷ (negsuc 2) ∷ []) (pos 1) (expr_binary Sub (expr_var 2) (expr_var 3)) ∷ match_arm
    3 ((pos 1) ∷ []) (pos 0) (expr_binary Add (expr_var 2) (expr_var 0)) ∷ match_arm 0 [] (pos 3) (expr_var 0) ∷ []))) ∷ []) 0)
unfolding gcd_by
matched = refl

-- def main(a: int): int = a
-- def g(a: int): int = a
main_first :
    checked (def (at 1) (codes "main") (param (at 10) (codes "a") Int ∷ []) (Int ∷ []) (raw_name (at 25) (codes "a")) ∷ def (on 2 1) (codes "g") (param (on
    2 7) (codes "a") Int ∷ []) (Int ∷ []) (raw_name (on 2 22) (codes "a")) ∷ [])
    ≡ Ok (program (typed (codes "main") (param (at 10) (codes "a") Int ∷ []) (Int ∷ []) (expr_var 0) ∷ typed (codes "g") (param (on 2 7) (codes "a") Int ∷
    []) (Int ∷ []) (expr_var 0) ∷ []) 0)
main_first = refl

-- def main(a: int): int = b
no_variable :
    checked (def (at 1) (codes "main") (param (at 10) (codes "a") Int ∷ []) (Int ∷ []) (raw_name (at 25) (codes "b")) ∷ [])
    ≡ Err (UnknownName (at 25))
no_variable = refl

-- def main(a: int): int = f(a)
no_function :
    checked (def (at 1) (codes "main") (param (at 10) (codes "a") Int ∷ []) (Int ∷ []) (raw_call (at 25) (codes "f") (raws_of (raw_name (at 27) (codes "a")
    ∷ []))) ∷ [])
    ≡ Err (UnknownName (at 25))
no_function = refl

-- def main(a: int): int = (let b = a in b) + b
no_variable_of_a_let :
    checked (def (at 1) (codes "main") (param (at 10) (codes "a") Int ∷ []) (Int ∷ []) (raw_binary (at 42) Add (raw_group (at 25) (raw_let (at 26) ((codes
    "b") ∷ []) ((at 30) ∷ []) (raw_name (at 34) (codes "a")) (raw_name (at 39) (codes "b")))) (raw_name (at 44) (codes "b"))) ∷ [])
    ≡ Err (UnknownName (at 44))
no_variable_of_a_let = refl

-- def f(a: int): int = f
function_is_no_variable :
    checked (def (at 1) (codes "f") (param (at 7) (codes "a") Int ∷ []) (Int ∷ []) (raw_name (at 22) (codes "f")) ∷ [])
    ≡ Err (UnknownName (at 22))
function_is_no_variable = refl

-- def f(a: int): int = a
-- def f(b: int): int = b
function_twice :
    checked (def (at 1) (codes "f") (param (at 7) (codes "a") Int ∷ []) (Int ∷ []) (raw_name (at 22) (codes "a")) ∷ def (on 2 1) (codes "f") (param (on 2
    7) (codes "b") Int ∷ []) (Int ∷ []) (raw_name (on 2 22) (codes "b")) ∷ [])
    ≡ Err (DuplicateName (on 2 1))
function_twice = refl

-- def main(a: int, b: int, a: int): int = c
param_twice :
    checked (def (at 1) (codes "main") (param (at 10) (codes "a") Int ∷ param (at 18) (codes "b") Int ∷ param (at 26) (codes "a") Int ∷ []) (Int ∷ [])
    (raw_name (at 41) (codes "c")) ∷ [])
    ≡ Err (DuplicateName (at 26))
param_twice = refl

-- def main(a: int): int = let (x, y, x) = a in c
let_twice :
    checked (def (at 1) (codes "main") (param (at 10) (codes "a") Int ∷ []) (Int ∷ []) (raw_let (at 25) ((codes "x") ∷ (codes "y") ∷ (codes "x") ∷ []) ((at
    30) ∷ (at 33) ∷ (at 36) ∷ []) (raw_name (at 41) (codes "a")) (raw_name (at 46) (codes "c"))) ∷ [])
    ≡ Err (DuplicateName (at 36))
let_twice = refl

-- def main(a: int): int = choose (x: int, y: int, x: int) where c
output_twice :
    checked (def (at 1) (codes "main") (param (at 10) (codes "a") Int ∷ []) (Int ∷ []) (raw_choose (at 25) (param (at 33) (codes "x") Int ∷ param (at 41)
    (codes "y") Int ∷ param (at 49) (codes "x") Int ∷ []) (raw_name (at 63) (codes "c"))) ∷ [])
    ≡ Err (DuplicateName (at 49))
output_twice = refl

-- def main(a: int): int = match a with { x + 2 * x then c }
part_twice :
    checked (def (at 1) (codes "main") (param (at 10) (codes "a") Int ∷ []) (Int ∷ []) (raw_match (at 25) (raw_name (at 31) (codes "a")) (raw_arms_of
    (raw_arm (part (at 40) (pos 1) (codes "x") ∷ part (at 48) (pos 2) (codes "x") ∷ []) (pos 0) (raw_name (at 55) (codes "c")) ∷ []))) ∷ [])
    ≡ Err (DuplicateName (at 48))
part_twice = refl

-- def f(a: int): int = a
-- def main(a: int): int = f()
argument_missing :
    checked (def (at 1) (codes "f") (param (at 7) (codes "a") Int ∷ []) (Int ∷ []) (raw_name (at 22) (codes "a")) ∷ def (on 2 1) (codes "main") (param (on
    2 10) (codes "a") Int ∷ []) (Int ∷ []) (raw_call (on 2 25) (codes "f") no_raws) ∷ [])
    ≡ Err (WrongCount (on 2 25))
argument_missing = refl

-- def f(a: int): int = a
-- def main(a: int): int = f(true, a)
argument_too_many :
    checked (def (at 1) (codes "f") (param (at 7) (codes "a") Int ∷ []) (Int ∷ []) (raw_name (at 22) (codes "a")) ∷ def (on 2 1) (codes "main") (param (on
    2 10) (codes "a") Int ∷ []) (Int ∷ []) (raw_call (on 2 25) (codes "f") (raws_of (raw_truth (on 2 27) true ∷ raw_name (on 2 33) (codes "a") ∷ []))) ∷
    [])
    ≡ Err (WrongCount (on 2 25))
argument_too_many = refl

-- def main(a: int): int = let (x, y) = a in c
let_of_one :
    checked (def (at 1) (codes "main") (param (at 10) (codes "a") Int ∷ []) (Int ∷ []) (raw_let (at 25) ((codes "x") ∷ (codes "y") ∷ []) ((at 30) ∷ (at 33)
    ∷ []) (raw_name (at 38) (codes "a")) (raw_name (at 43) (codes "c"))) ∷ [])
    ≡ Err (WrongCount (at 25))
let_of_one = refl

-- def main(a: int): int = let x = (a, a) in c
let_of_two :
    checked (def (at 1) (codes "main") (param (at 10) (codes "a") Int ∷ []) (Int ∷ []) (raw_let (at 25) ((codes "x") ∷ []) ((at 29) ∷ []) (raw_tuple (at
    33) (raws_of (raw_name (at 34) (codes "a") ∷ raw_name (at 37) (codes "a") ∷ []))) (raw_name (at 43) (codes "c"))) ∷ [])
    ≡ Err (WrongCount (at 25))
let_of_two = refl

-- def main(a: int): int = true + a
left_side :
    checked (def (at 1) (codes "main") (param (at 10) (codes "a") Int ∷ []) (Int ∷ []) (raw_binary (at 30) Add (raw_truth (at 25) true) (raw_name (at 32)
    (codes "a"))) ∷ [])
    ≡ Err (Mismatch (at 30))
left_side = refl

-- def main(a: int): int = a + true
right_side :
    checked (def (at 1) (codes "main") (param (at 10) (codes "a") Int ∷ []) (Int ∷ []) (raw_binary (at 27) Add (raw_name (at 25) (codes "a")) (raw_truth
    (at 29) true)) ∷ [])
    ≡ Err (Mismatch (at 27))
right_side = refl

-- def main(a: int): int = (a, a) + a
side_of_two :
    checked (def (at 1) (codes "main") (param (at 10) (codes "a") Int ∷ []) (Int ∷ []) (raw_binary (at 32) Add (raw_tuple (at 25) (raws_of (raw_name (at
    26) (codes "a") ∷ raw_name (at 29) (codes "a") ∷ []))) (raw_name (at 34) (codes "a"))) ∷ [])
    ≡ Err (Mismatch (at 32))
side_of_two = refl

-- def main(a: int): int = if true < true then a else a
no_order_of_truth :
    checked (def (at 1) (codes "main") (param (at 10) (codes "a") Int ∷ []) (Int ∷ []) (raw_if (at 25) (raw_binary (at 33) (Compare Lt) (raw_truth (at 28)
    true) (raw_truth (at 35) true)) (raw_name (at 45) (codes "a")) (raw_name (at 52) (codes "a"))) ∷ [])
    ≡ Err (Mismatch (at 33))
no_order_of_truth = refl

-- def main(a: int): int = if {} <= {} then a else a
no_order_of_sets :
    checked (def (at 1) (codes "main") (param (at 10) (codes "a") Int ∷ []) (Int ∷ []) (raw_if (at 25) (raw_binary (at 31) (Compare Le) (raw_set_of (at 28)
    no_raws) (raw_set_of (at 34) no_raws)) (raw_name (at 42) (codes "a")) (raw_name (at 49) (codes "a"))) ∷ [])
    ≡ Err (Mismatch (at 31))
no_order_of_sets = refl

-- def main(a: int): int = if a == {} then a else a
two_bases :
    checked (def (at 1) (codes "main") (param (at 10) (codes "a") Int ∷ []) (Int ∷ []) (raw_if (at 25) (raw_binary (at 30) (Compare Eq) (raw_name (at 28)
    (codes "a")) (raw_set_of (at 33) no_raws)) (raw_name (at 41) (codes "a")) (raw_name (at 48) (codes "a"))) ∷ [])
    ≡ Err (Mismatch (at 30))
two_bases = refl

-- def main(a: int): int = if (a, a) == (a, a) then a else a
two_tuples :
    checked (def (at 1) (codes "main") (param (at 10) (codes "a") Int ∷ []) (Int ∷ []) (raw_if (at 25) (raw_binary (at 35) (Compare Eq) (raw_tuple (at 28)
    (raws_of (raw_name (at 29) (codes "a") ∷ raw_name (at 32) (codes "a") ∷ []))) (raw_tuple (at 38) (raws_of (raw_name (at 39) (codes "a") ∷ raw_name (at
    42) (codes "a") ∷ [])))) (raw_name (at 50) (codes "a")) (raw_name (at 57) (codes "a"))) ∷ [])
    ≡ Err (Mismatch (at 35))
two_tuples = refl

-- def main(a: int): int = card({a, true})
element :
    checked (def (at 1) (codes "main") (param (at 10) (codes "a") Int ∷ []) (Int ∷ []) (raw_card (at 25) (raw_set_of (at 30) (raws_of (raw_name (at 31)
    (codes "a") ∷ raw_truth (at 34) true ∷ [])))) ∷ [])
    ≡ Err (Mismatch (at 30))
element = refl

-- def main(a: int): (int, int, int) = ((a, a), a)
tuple_in_tuple :
    checked (def (at 1) (codes "main") (param (at 10) (codes "a") Int ∷ []) (Int ∷ Int ∷ Int ∷ []) (raw_tuple (at 37) (raws_of (raw_tuple (at 38) (raws_of
    (raw_name (at 39) (codes "a") ∷ raw_name (at 42) (codes "a") ∷ [])) ∷ raw_name (at 46) (codes "a") ∷ []))) ∷ [])
    ≡ Err (Mismatch (at 37))
tuple_in_tuple = refl

-- def main(a: int): int = -true
neg_of_truth :
    checked (def (at 1) (codes "main") (param (at 10) (codes "a") Int ∷ []) (Int ∷ []) (raw_neg (at 25) (raw_truth (at 26) true)) ∷ [])
    ≡ Err (Mismatch (at 25))
neg_of_truth = refl

-- def main(a: int): int = if !a then a else a
not_of_number :
    checked (def (at 1) (codes "main") (param (at 10) (codes "a") Int ∷ []) (Int ∷ []) (raw_if (at 25) (raw_not (at 28) (raw_name (at 29) (codes "a")))
    (raw_name (at 36) (codes "a")) (raw_name (at 43) (codes "a"))) ∷ [])
    ≡ Err (Mismatch (at 28))
not_of_number = refl

-- def main(a: int): int = abs({})
abs_of_set :
    checked (def (at 1) (codes "main") (param (at 10) (codes "a") Int ∷ []) (Int ∷ []) (raw_abs (at 25) (raw_set_of (at 29) no_raws)) ∷ [])
    ≡ Err (Mismatch (at 25))
abs_of_set = refl

-- def main(a: int): int = card(a)
card_of_number :
    checked (def (at 1) (codes "main") (param (at 10) (codes "a") Int ∷ []) (Int ∷ []) (raw_card (at 25) (raw_name (at 30) (codes "a"))) ∷ [])
    ≡ Err (Mismatch (at 25))
card_of_number = refl

-- def main(a: int): int = div(true, 2)
div_of_truth :
    checked (def (at 1) (codes "main") (param (at 10) (codes "a") Int ∷ []) (Int ∷ []) (raw_div (at 25) (raw_truth (at 29) true) (pos 2)) ∷ [])
    ≡ Err (Mismatch (at 25))
div_of_truth = refl

-- def main(a: int): int = mod(true, 2)
mod_of_truth :
    checked (def (at 1) (codes "main") (param (at 10) (codes "a") Int ∷ []) (Int ∷ []) (raw_mod (at 25) (raw_truth (at 29) true) (pos 2)) ∷ [])
    ≡ Err (Mismatch (at 25))
mod_of_truth = refl

-- def main(a: int): int = if 2 divides {} then a else a
divides_set :
    checked (def (at 1) (codes "main") (param (at 10) (codes "a") Int ∷ []) (Int ∷ []) (raw_if (at 25) (raw_divides (at 28) (pos 2) (raw_set_of (at 38)
    no_raws)) (raw_name (at 46) (codes "a")) (raw_name (at 53) (codes "a"))) ∷ [])
    ≡ Err (Mismatch (at 28))
divides_set = refl

-- def f(a: int, s: set): int = a
-- def main(a: int): int = f(a, a)
argument :
    checked (def (at 1) (codes "f") (param (at 7) (codes "a") Int ∷ param (at 15) (codes "s") Set ∷ []) (Int ∷ []) (raw_name (at 30) (codes "a")) ∷ def (on
    2 1) (codes "main") (param (on 2 10) (codes "a") Int ∷ []) (Int ∷ []) (raw_call (on 2 25) (codes "f") (raws_of (raw_name (on 2 27) (codes "a") ∷
    raw_name (on 2 30) (codes "a") ∷ []))) ∷ [])
    ≡ Err (Mismatch (on 2 25))
argument = refl

-- def main(a: int): int = if a then a else a
test :
    checked (def (at 1) (codes "main") (param (at 10) (codes "a") Int ∷ []) (Int ∷ []) (raw_if (at 25) (raw_name (at 28) (codes "a")) (raw_name (at 35)
    (codes "a")) (raw_name (at 42) (codes "a"))) ∷ [])
    ≡ Err (Mismatch (at 25))
test = refl

-- def main(a: int): int = if true then a else true
branches :
    checked (def (at 1) (codes "main") (param (at 10) (codes "a") Int ∷ []) (Int ∷ []) (raw_if (at 25) (raw_truth (at 28) true) (raw_name (at 38) (codes
    "a")) (raw_truth (at 45) true)) ∷ [])
    ≡ Err (Mismatch (at 25))
branches = refl

-- def main(a: int): int = (a == a)
result :
    checked (def (at 1) (codes "main") (param (at 10) (codes "a") Int ∷ []) (Int ∷ []) (raw_group (at 25) (raw_binary (at 28) (Compare Eq) (raw_name (at
    26) (codes "a")) (raw_name (at 31) (codes "a")))) ∷ [])
    ≡ Err (Mismatch (at 25))
result = refl

-- def main(a: int): (int, bool) = (a, a)
results :
    checked (def (at 1) (codes "main") (param (at 10) (codes "a") Int ∷ []) (Int ∷ Truth ∷ []) (raw_tuple (at 33) (raws_of (raw_name (at 34) (codes "a") ∷
    raw_name (at 37) (codes "a") ∷ []))) ∷ [])
    ≡ Err (Mismatch (at 33))
results = refl

-- def main(a: int): int = choose (x: int, p: bool) where c
output_of_truth :
    checked (def (at 1) (codes "main") (param (at 10) (codes "a") Int ∷ []) (Int ∷ []) (raw_choose (at 25) (param (at 33) (codes "x") Int ∷ param (at 41)
    (codes "p") Truth ∷ []) (raw_name (at 56) (codes "c"))) ∷ [])
    ≡ Err (Mismatch (at 41))
output_of_truth = refl

-- def main(a: int): int = choose (x: int) where x
relation_of_number :
    checked (def (at 1) (codes "main") (param (at 10) (codes "a") Int ∷ []) (Int ∷ []) (raw_choose (at 25) (param (at 33) (codes "x") Int ∷ []) (raw_name
    (at 47) (codes "x"))) ∷ [])
    ≡ Err (Mismatch (at 25))
relation_of_number = refl

-- def main(a: int): int = choose (x: int) where (true, true)
relation_of_two :
    checked (def (at 1) (codes "main") (param (at 10) (codes "a") Int ∷ []) (Int ∷ []) (raw_choose (at 25) (param (at 33) (codes "x") Int ∷ []) (raw_tuple
    (at 47) (raws_of (raw_truth (at 48) true ∷ raw_truth (at 54) true ∷ [])))) ∷ [])
    ≡ Err (Mismatch (at 25))
relation_of_two = refl

-- def main(a: int): int = match true with { x then x }
match_of_truth :
    checked (def (at 1) (codes "main") (param (at 10) (codes "a") Int ∷ []) (Int ∷ []) (raw_match (at 25) (raw_truth (at 31) true) (raw_arms_of (raw_arm
    (part (at 43) (pos 1) (codes "x") ∷ []) (pos 0) (raw_name (at 50) (codes "x")) ∷ []))) ∷ [])
    ≡ Err (Mismatch (at 25))
match_of_truth = refl

-- def main(a: int): int = match a with { 1 then a; x then true }
arms_of_two_bases :
    checked (def (at 1) (codes "main") (param (at 10) (codes "a") Int ∷ []) (Int ∷ []) (raw_match (at 25) (raw_name (at 31) (codes "a")) (raw_arms_of
    (raw_arm [] (pos 1) (raw_name (at 47) (codes "a")) ∷ raw_arm (part (at 50) (pos 1) (codes "x") ∷ []) (pos 0) (raw_truth (at 57) true) ∷ []))) ∷ [])
    ≡ Err (Mismatch (at 25))
arms_of_two_bases = refl

-- def main(a: int): int = main(a)
calls_itself :
    checked (def (at 1) (codes "main") (param (at 10) (codes "a") Int ∷ []) (Int ∷ []) (raw_call (at 25) (codes "main") (raws_of (raw_name (at 30) (codes
    "a") ∷ []))) ∷ [])
    ≡ Err (CallsLater (at 25))
calls_itself = refl

-- def main(a: int): int = g(a)
-- def g(a: int): int = a
calls_later :
    checked (def (at 1) (codes "main") (param (at 10) (codes "a") Int ∷ []) (Int ∷ []) (raw_call (at 25) (codes "g") (raws_of (raw_name (at 27) (codes "a")
    ∷ []))) ∷ def (on 2 1) (codes "g") (param (on 2 7) (codes "a") Int ∷ []) (Int ∷ []) (raw_name (on 2 22) (codes "a")) ∷ [])
    ≡ Err (CallsLater (at 25))
calls_later = refl

-- def main(a: int): int = g(true)
-- def g(a: int): int = a
calls_later_wrong :
    checked (def (at 1) (codes "main") (param (at 10) (codes "a") Int ∷ []) (Int ∷ []) (raw_call (at 25) (codes "g") (raws_of (raw_truth (at 27) true ∷
    []))) ∷ def (on 2 1) (codes "g") (param (on 2 7) (codes "a") Int ∷ []) (Int ∷ []) (raw_name (on 2 22) (codes "a")) ∷ [])
    ≡ Err (Mismatch (at 25))
calls_later_wrong = refl

-- def f(a: int): int = a
no_main : checked (def (at 1) (codes "f") (param (at 7) (codes "a") Int ∷ []) (Int ∷ []) (raw_name (at 22) (codes "a")) ∷ []) ≡ Err NoMain
no_main = refl

-- def f(a: int): int = a
-- def g(a: int): int = b
no_main_comes_last :
    checked (def (at 1) (codes "f") (param (at 7) (codes "a") Int ∷ []) (Int ∷ []) (raw_name (at 22) (codes "a")) ∷ def (on 2 1) (codes "g") (param (on 2
    7) (codes "a") Int ∷ []) (Int ∷ []) (raw_name (on 2 22) (codes "b")) ∷ [])
    ≡ Err (UnknownName (on 2 22))
no_main_comes_last = refl

-- def main(a: int): int = choose (x: int) where x * x == a
product :
    checked (def (at 1) (codes "main") (param (at 10) (codes "a") Int ∷ []) (Int ∷ []) (raw_choose (at 25) (param (at 33) (codes "x") Int ∷ []) (raw_binary
    (at 53) (Compare Eq) (raw_binary (at 49) Mul (raw_name (at 47) (codes "x")) (raw_name (at 51) (codes "x"))) (raw_name (at 56) (codes "a")))) ∷ [])
    ≡ Err (NotLinear (at 49))
product = refl

-- def main(a: int): int = choose (x: int) where (a * x) == 1
product_with_input :
    checked (def (at 1) (codes "main") (param (at 10) (codes "a") Int ∷ []) (Int ∷ []) (raw_choose (at 25) (param (at 33) (codes "x") Int ∷ []) (raw_binary
    (at 55) (Compare Eq) (raw_group (at 47) (raw_binary (at 50) Mul (raw_name (at 48) (codes "a")) (raw_name (at 52) (codes "x")))) (raw_lit (at 58) (pos
    1)))) ∷ [])
    ≡ Err (NotLinear (at 50))
product_with_input = refl

-- def main(s: set): set = choose (t: set) where t == {card(t) * card(t)}
product_of_card :
    checked (def (at 1) (codes "main") (param (at 10) (codes "s") Set ∷ []) (Set ∷ []) (raw_choose (at 25) (param (at 33) (codes "t") Set ∷ []) (raw_binary
    (at 49) (Compare Eq) (raw_name (at 47) (codes "t")) (raw_set_of (at 52) (raws_of (raw_binary (at 61) Mul (raw_card (at 53) (raw_name (at 58) (codes
    "t"))) (raw_card (at 63) (raw_name (at 68) (codes "t"))) ∷ []))))) ∷ [])
    ≡ Err (NotLinear (at 61))
product_of_card = refl

-- def main(a: int): int = choose (x: int) where div(3, 2) * x == a
product_of_quotient :
    checked (def (at 1) (codes "main") (param (at 10) (codes "a") Int ∷ []) (Int ∷ []) (raw_choose (at 25) (param (at 33) (codes "x") Int ∷ []) (raw_binary
    (at 61) (Compare Eq) (raw_binary (at 57) Mul (raw_div (at 47) (raw_lit (at 51) (pos 3)) (pos 2)) (raw_name (at 59) (codes "x"))) (raw_name (at 64)
    (codes "a")))) ∷ [])
    ≡ Err (NotLinear (at 57))
product_of_quotient = refl

-- def main(p: bool): int = choose (x: int) where x == 1 && p
truth_variable :
    checked (def (at 1) (codes "main") (param (at 10) (codes "p") Truth ∷ []) (Int ∷ []) (raw_choose (at 26) (param (at 34) (codes "x") Int ∷ [])
    (raw_binary (at 55) And (raw_binary (at 50) (Compare Eq) (raw_name (at 48) (codes "x")) (raw_lit (at 53) (pos 1))) (raw_name (at 58) (codes "p")))) ∷
    [])
    ≡ Err (NotLinear (at 58))
truth_variable = refl

-- def main(p: bool): int = choose (x: int) where (x == 1) == p
same_truths :
    checked (def (at 1) (codes "main") (param (at 10) (codes "p") Truth ∷ []) (Int ∷ []) (raw_choose (at 26) (param (at 34) (codes "x") Int ∷ [])
    (raw_binary (at 57) (Compare Eq) (raw_group (at 48) (raw_binary (at 51) (Compare Eq) (raw_name (at 49) (codes "x")) (raw_lit (at 54) (pos 1))))
    (raw_name (at 60) (codes "p")))) ∷ [])
    ≡ Err (NotLinear (at 60))
same_truths = refl

-- def main(a: int): int = choose (x: int) where (x == 1) == (a == 1)
truths_compared :
    checked (def (at 1) (codes "main") (param (at 10) (codes "a") Int ∷ []) (Int ∷ []) (raw_choose (at 25) (param (at 33) (codes "x") Int ∷ []) (raw_binary
    (at 56) (Compare Eq) (raw_group (at 47) (raw_binary (at 50) (Compare Eq) (raw_name (at 48) (codes "x")) (raw_lit (at 53) (pos 1)))) (raw_group (at 59)
    (raw_binary (at 62) (Compare Eq) (raw_name (at 60) (codes "a")) (raw_lit (at 65) (pos 1)))))) ∷ [])
    ≡ Err (NotLinear (at 56))
truths_compared = refl

-- def main(s: set): set = choose (t: set) where t == {1}
set_of_elements :
    checked (def (at 1) (codes "main") (param (at 10) (codes "s") Set ∷ []) (Set ∷ []) (raw_choose (at 25) (param (at 33) (codes "t") Set ∷ []) (raw_binary
    (at 49) (Compare Eq) (raw_name (at 47) (codes "t")) (raw_set_of (at 52) (raws_of (raw_lit (at 53) (pos 1) ∷ []))))) ∷ [])
    ≡ Err (NotLinear (at 52))
set_of_elements = refl

-- def main(s: set): set = choose (t: set) where {1} subset t
set_of_elements_left :
    checked (def (at 1) (codes "main") (param (at 10) (codes "s") Set ∷ []) (Set ∷ []) (raw_choose (at 25) (param (at 33) (codes "t") Set ∷ []) (raw_binary
    (at 51) Subset (raw_set_of (at 47) (raws_of (raw_lit (at 48) (pos 1) ∷ []))) (raw_name (at 58) (codes "t")))) ∷ [])
    ≡ Err (NotLinear (at 47))
set_of_elements_left = refl

-- def f(a: int): int = a
-- def main(a: int): int = choose (x: int) where x == f(x)
call_in_relation :
    checked (def (at 1) (codes "f") (param (at 7) (codes "a") Int ∷ []) (Int ∷ []) (raw_name (at 22) (codes "a")) ∷ def (on 2 1) (codes "main") (param (on
    2 10) (codes "a") Int ∷ []) (Int ∷ []) (raw_choose (on 2 25) (param (on 2 33) (codes "x") Int ∷ []) (raw_binary (on 2 49) (Compare Eq) (raw_name (on 2
    47) (codes "x")) (raw_call (on 2 52) (codes "f") (raws_of (raw_name (on 2 54) (codes "x") ∷ []))))) ∷ [])
    ≡ Err (NotLinear (on 2 52))
call_in_relation = refl

-- def f(a: int): int = a
-- def main(a: int): int = choose (x: int) where x == f(x * x)
call_of_a_product :
    checked (def (at 1) (codes "f") (param (at 7) (codes "a") Int ∷ []) (Int ∷ []) (raw_name (at 22) (codes "a")) ∷ def (on 2 1) (codes "main") (param (on
    2 10) (codes "a") Int ∷ []) (Int ∷ []) (raw_choose (on 2 25) (param (on 2 33) (codes "x") Int ∷ []) (raw_binary (on 2 49) (Compare Eq) (raw_name (on 2
    47) (codes "x")) (raw_call (on 2 52) (codes "f") (raws_of (raw_binary (on 2 56) Mul (raw_name (on 2 54) (codes "x")) (raw_name (on 2 58) (codes "x")) ∷
    []))))) ∷ [])
    ≡ Err (NotLinear (on 2 56))
call_of_a_product = refl

-- def main(a: int): int = choose (x: int) where x == (match a with { y then y })
match_in_relation :
    checked (def (at 1) (codes "main") (param (at 10) (codes "a") Int ∷ []) (Int ∷ []) (raw_choose (at 25) (param (at 33) (codes "x") Int ∷ []) (raw_binary
    (at 49) (Compare Eq) (raw_name (at 47) (codes "x")) (raw_group (at 52) (raw_match (at 53) (raw_name (at 59) (codes "a")) (raw_arms_of (raw_arm (part
    (at 68) (pos 1) (codes "y") ∷ []) (pos 0) (raw_name (at 75) (codes "y")) ∷ [])))))) ∷ [])
    ≡ Err (NotLinear (at 53))
match_in_relation = refl

-- def main(a: int): int = choose (x: int) where x == (match x * x with { y then y })
match_of_a_product :
    checked (def (at 1) (codes "main") (param (at 10) (codes "a") Int ∷ []) (Int ∷ []) (raw_choose (at 25) (param (at 33) (codes "x") Int ∷ []) (raw_binary
    (at 49) (Compare Eq) (raw_name (at 47) (codes "x")) (raw_group (at 52) (raw_match (at 53) (raw_binary (at 61) Mul (raw_name (at 59) (codes "x"))
    (raw_name (at 63) (codes "x"))) (raw_arms_of (raw_arm (part (at 72) (pos 1) (codes "y") ∷ []) (pos 0) (raw_name (at 79) (codes "y")) ∷ [])))))) ∷ [])
    ≡ Err (NotLinear (at 61))
match_of_a_product = refl

-- def main(a: int): int = choose (x: int) where x == (match x with { y then y * y })
match_to_a_product :
    checked (def (at 1) (codes "main") (param (at 10) (codes "a") Int ∷ []) (Int ∷ []) (raw_choose (at 25) (param (at 33) (codes "x") Int ∷ []) (raw_binary
    (at 49) (Compare Eq) (raw_name (at 47) (codes "x")) (raw_group (at 52) (raw_match (at 53) (raw_name (at 59) (codes "x")) (raw_arms_of (raw_arm (part
    (at 68) (pos 1) (codes "y") ∷ []) (pos 0) (raw_binary (at 77) Mul (raw_name (at 75) (codes "y")) (raw_name (at 79) (codes "y"))) ∷ [])))))) ∷ [])
    ≡ Err (NotLinear (at 77))
match_to_a_product = refl

-- def main(a: int): int = choose (x: int) where x == (match x with { 1 then x; y then y * y })
match_to_a_later_product :
    checked (def (at 1) (codes "main") (param (at 10) (codes "a") Int ∷ []) (Int ∷ []) (raw_choose (at 25) (param (at 33) (codes "x") Int ∷ []) (raw_binary
    (at 49) (Compare Eq) (raw_name (at 47) (codes "x")) (raw_group (at 52) (raw_match (at 53) (raw_name (at 59) (codes "x")) (raw_arms_of (raw_arm [] (pos
    1) (raw_name (at 75) (codes "x")) ∷ raw_arm (part (at 78) (pos 1) (codes "y") ∷ []) (pos 0) (raw_binary (at 87) Mul (raw_name (at 85) (codes "y"))
    (raw_name (at 89) (codes "y"))) ∷ [])))))) ∷ [])
    ≡ Err (NotLinear (at 87))
match_to_a_later_product = refl

-- def main(a: int): int = choose (x: int) where x == (let y = a in y)
let_in_relation :
    checked (def (at 1) (codes "main") (param (at 10) (codes "a") Int ∷ []) (Int ∷ []) (raw_choose (at 25) (param (at 33) (codes "x") Int ∷ []) (raw_binary
    (at 49) (Compare Eq) (raw_name (at 47) (codes "x")) (raw_group (at 52) (raw_let (at 53) ((codes "y") ∷ []) ((at 57) ∷ []) (raw_name (at 61) (codes
    "a")) (raw_name (at 66) (codes "y")))))) ∷ [])
    ≡ Err (NotLinear (at 53))
let_in_relation = refl

-- def main(a: int): int = choose (x: int) where (let (y, z) = (x * x, 1) in y == z)
let_of_a_product :
    checked (def (at 1) (codes "main") (param (at 10) (codes "a") Int ∷ []) (Int ∷ []) (raw_choose (at 25) (param (at 33) (codes "x") Int ∷ []) (raw_group
    (at 47) (raw_let (at 48) ((codes "y") ∷ (codes "z") ∷ []) ((at 53) ∷ (at 56) ∷ []) (raw_tuple (at 61) (raws_of (raw_binary (at 64) Mul (raw_name (at
    62) (codes "x")) (raw_name (at 66) (codes "x")) ∷ raw_lit (at 69) (pos 1) ∷ []))) (raw_binary (at 77) (Compare Eq) (raw_name (at 75) (codes "y"))
    (raw_name (at 80) (codes "z")))))) ∷ [])
    ≡ Err (NotLinear (at 64))
let_of_a_product = refl

-- def main(a: int): int = choose (x: int) where (let y = x in y * x == 1)
let_to_a_product :
    checked (def (at 1) (codes "main") (param (at 10) (codes "a") Int ∷ []) (Int ∷ []) (raw_choose (at 25) (param (at 33) (codes "x") Int ∷ []) (raw_group
    (at 47) (raw_let (at 48) ((codes "y") ∷ []) ((at 52) ∷ []) (raw_name (at 56) (codes "x")) (raw_binary (at 67) (Compare Eq) (raw_binary (at 63) Mul
    (raw_name (at 61) (codes "y")) (raw_name (at 65) (codes "x"))) (raw_lit (at 70) (pos 1)))))) ∷ [])
    ≡ Err (NotLinear (at 63))
let_to_a_product = refl

-- def main(a: int): int = choose (x: int) where (if true then x == 1 else x == 2)
if_in_relation :
    checked (def (at 1) (codes "main") (param (at 10) (codes "a") Int ∷ []) (Int ∷ []) (raw_choose (at 25) (param (at 33) (codes "x") Int ∷ []) (raw_group
    (at 47) (raw_if (at 48) (raw_truth (at 51) true) (raw_binary (at 63) (Compare Eq) (raw_name (at 61) (codes "x")) (raw_lit (at 66) (pos 1))) (raw_binary
    (at 75) (Compare Eq) (raw_name (at 73) (codes "x")) (raw_lit (at 78) (pos 2)))))) ∷ [])
    ≡ Err (NotLinear (at 48))
if_in_relation = refl

-- def main(a: int): int = choose (x: int) where (if x * x == 1 then true else false)
if_of_a_product :
    checked (def (at 1) (codes "main") (param (at 10) (codes "a") Int ∷ []) (Int ∷ []) (raw_choose (at 25) (param (at 33) (codes "x") Int ∷ []) (raw_group
    (at 47) (raw_if (at 48) (raw_binary (at 57) (Compare Eq) (raw_binary (at 53) Mul (raw_name (at 51) (codes "x")) (raw_name (at 55) (codes "x")))
    (raw_lit (at 60) (pos 1))) (raw_truth (at 67) true) (raw_truth (at 77) false)))) ∷ [])
    ≡ Err (NotLinear (at 53))
if_of_a_product = refl

-- def main(a: int): int = choose (x: int) where (if true then x * x == 1 else x == 2)
if_to_a_product :
    checked (def (at 1) (codes "main") (param (at 10) (codes "a") Int ∷ []) (Int ∷ []) (raw_choose (at 25) (param (at 33) (codes "x") Int ∷ []) (raw_group
    (at 47) (raw_if (at 48) (raw_truth (at 51) true) (raw_binary (at 67) (Compare Eq) (raw_binary (at 63) Mul (raw_name (at 61) (codes "x")) (raw_name (at
    65) (codes "x"))) (raw_lit (at 70) (pos 1))) (raw_binary (at 79) (Compare Eq) (raw_name (at 77) (codes "x")) (raw_lit (at 82) (pos 2)))))) ∷ [])
    ≡ Err (NotLinear (at 63))
if_to_a_product = refl

-- def main(a: int): int = choose (x: int) where (if true then x == 1 else x * x == 2)
if_else_a_product :
    checked (def (at 1) (codes "main") (param (at 10) (codes "a") Int ∷ []) (Int ∷ []) (raw_choose (at 25) (param (at 33) (codes "x") Int ∷ []) (raw_group
    (at 47) (raw_if (at 48) (raw_truth (at 51) true) (raw_binary (at 63) (Compare Eq) (raw_name (at 61) (codes "x")) (raw_lit (at 66) (pos 1))) (raw_binary
    (at 79) (Compare Eq) (raw_binary (at 75) Mul (raw_name (at 73) (codes "x")) (raw_name (at 77) (codes "x"))) (raw_lit (at 82) (pos 2)))))) ∷ [])
    ≡ Err (NotLinear (at 75))
if_else_a_product = refl

-- def main(a: int): int = choose (x: int) where x == (choose (y: int) where true)
choose_in_relation :
    checked (def (at 1) (codes "main") (param (at 10) (codes "a") Int ∷ []) (Int ∷ []) (raw_choose (at 25) (param (at 33) (codes "x") Int ∷ []) (raw_binary
    (at 49) (Compare Eq) (raw_name (at 47) (codes "x")) (raw_group (at 52) (raw_choose (at 53) (param (at 61) (codes "y") Int ∷ []) (raw_truth (at 75)
    true))))) ∷ [])
    ≡ Err (NotLinear (at 53))
choose_in_relation = refl

-- def main(a: int): int = choose (x: int) where x * x == 1 && a * x == 2
first_of_two_products :
    checked (def (at 1) (codes "main") (param (at 10) (codes "a") Int ∷ []) (Int ∷ []) (raw_choose (at 25) (param (at 33) (codes "x") Int ∷ []) (raw_binary
    (at 58) And (raw_binary (at 53) (Compare Eq) (raw_binary (at 49) Mul (raw_name (at 47) (codes "x")) (raw_name (at 51) (codes "x"))) (raw_lit (at 56)
    (pos 1))) (raw_binary (at 67) (Compare Eq) (raw_binary (at 63) Mul (raw_name (at 61) (codes "a")) (raw_name (at 65) (codes "x"))) (raw_lit (at 70) (pos
    2))))) ∷ [])
    ≡ Err (NotLinear (at 49))
first_of_two_products = refl

-- def main(a: int): int = choose (x: int) where x == x * x
second_side :
    checked (def (at 1) (codes "main") (param (at 10) (codes "a") Int ∷ []) (Int ∷ []) (raw_choose (at 25) (param (at 33) (codes "x") Int ∷ []) (raw_binary
    (at 49) (Compare Eq) (raw_name (at 47) (codes "x")) (raw_binary (at 54) Mul (raw_name (at 52) (codes "x")) (raw_name (at 56) (codes "x"))))) ∷ [])
    ≡ Err (NotLinear (at 54))
second_side = refl

-- def main(a: int): int = choose (x: int) where !(2 divides -abs(card({}) - mod(x * x, 3)))
below_forms :
    checked (def (at 1) (codes "main") (param (at 10) (codes "a") Int ∷ []) (Int ∷ []) (raw_choose (at 25) (param (at 33) (codes "x") Int ∷ []) (raw_not
    (at 47) (raw_group (at 48) (raw_divides (at 49) (pos 2) (raw_neg (at 59) (raw_abs (at 60) (raw_binary (at 73) Sub (raw_card (at 64) (raw_set_of (at 69)
    no_raws)) (raw_mod (at 75) (raw_binary (at 81) Mul (raw_name (at 79) (codes "x")) (raw_name (at 83) (codes "x"))) (pos 3))))))))) ∷ [])
    ≡ Err (NotLinear (at 81))
below_forms = refl

-- def main(a: int): int = choose (x: int) where div(x * x, 3) > 1
below_div :
    checked (def (at 1) (codes "main") (param (at 10) (codes "a") Int ∷ []) (Int ∷ []) (raw_choose (at 25) (param (at 33) (codes "x") Int ∷ []) (raw_binary
    (at 61) (Compare Gt) (raw_div (at 47) (raw_binary (at 53) Mul (raw_name (at 51) (codes "x")) (raw_name (at 55) (codes "x"))) (pos 3)) (raw_lit (at 63)
    (pos 1)))) ∷ [])
    ≡ Err (NotLinear (at 53))
below_div = refl

-- def main(s: set): set = choose (t: set) where s == {card(t), card(t) * card(s)}
element_first :
    checked (def (at 1) (codes "main") (param (at 10) (codes "s") Set ∷ []) (Set ∷ []) (raw_choose (at 25) (param (at 33) (codes "t") Set ∷ []) (raw_binary
    (at 49) (Compare Eq) (raw_name (at 47) (codes "s")) (raw_set_of (at 52) (raws_of (raw_card (at 53) (raw_name (at 58) (codes "t")) ∷ raw_binary (at 70)
    Mul (raw_card (at 62) (raw_name (at 67) (codes "t"))) (raw_card (at 72) (raw_name (at 77) (codes "s"))) ∷ []))))) ∷ [])
    ≡ Err (NotLinear (at 70))
element_first = refl

-- def main(a: int): int = choose (x: int) where x * x == true
mismatch_before_linear :
    checked (def (at 1) (codes "main") (param (at 10) (codes "a") Int ∷ []) (Int ∷ []) (raw_choose (at 25) (param (at 33) (codes "x") Int ∷ []) (raw_binary
    (at 53) (Compare Eq) (raw_binary (at 49) Mul (raw_name (at 47) (codes "x")) (raw_name (at 51) (codes "x"))) (raw_truth (at 56) true))) ∷ [])
    ≡ Err (Mismatch (at 53))
mismatch_before_linear = refl

-- def main(a: int): int = choose (x: int) where x * x == 1
-- def main(a: int): int = a
linear_before_later :
    checked (def (at 1) (codes "main") (param (at 10) (codes "a") Int ∷ []) (Int ∷ []) (raw_choose (at 25) (param (at 33) (codes "x") Int ∷ []) (raw_binary
    (at 53) (Compare Eq) (raw_binary (at 49) Mul (raw_name (at 47) (codes "x")) (raw_name (at 51) (codes "x"))) (raw_lit (at 56) (pos 1)))) ∷ def (on 2 1)
    (codes "main") (param (on 2 10) (codes "a") Int ∷ []) (Int ∷ []) (raw_name (on 2 25) (codes "a")) ∷ [])
    ≡ Err (NotLinear (at 49))
linear_before_later = refl

-- def main(a: int): int = true + true
sum_of_others :
    checked (def (at 1) (codes "main") (param (at 10) (codes "a") Int ∷ []) (Int ∷ []) (raw_binary (at 30) Add (raw_truth (at 25) true) (raw_truth (at 32)
    true)) ∷ [])
    ≡ Err (Mismatch (at 30))
sum_of_others = refl

-- def main(a: int): int = {} - {}
difference_of_others :
    checked (def (at 1) (codes "main") (param (at 10) (codes "a") Int ∷ []) (Int ∷ []) (raw_binary (at 28) Sub (raw_set_of (at 25) no_raws) (raw_set_of (at
    30) no_raws)) ∷ [])
    ≡ Err (Mismatch (at 28))
difference_of_others = refl

-- def main(a: int): int = true * true
product_of_others :
    checked (def (at 1) (codes "main") (param (at 10) (codes "a") Int ∷ []) (Int ∷ []) (raw_binary (at 30) Mul (raw_truth (at 25) true) (raw_truth (at 32)
    true)) ∷ [])
    ≡ Err (Mismatch (at 30))
product_of_others = refl

-- def main(a: int): int = if a && a then a else a
and_of_others :
    checked (def (at 1) (codes "main") (param (at 10) (codes "a") Int ∷ []) (Int ∷ []) (raw_if (at 25) (raw_binary (at 30) And (raw_name (at 28) (codes
    "a")) (raw_name (at 33) (codes "a"))) (raw_name (at 40) (codes "a")) (raw_name (at 47) (codes "a"))) ∷ [])
    ≡ Err (Mismatch (at 30))
and_of_others = refl

-- def main(a: int): int = if a || a then a else a
or_of_others :
    checked (def (at 1) (codes "main") (param (at 10) (codes "a") Int ∷ []) (Int ∷ []) (raw_if (at 25) (raw_binary (at 30) Or (raw_name (at 28) (codes
    "a")) (raw_name (at 33) (codes "a"))) (raw_name (at 40) (codes "a")) (raw_name (at 47) (codes "a"))) ∷ [])
    ≡ Err (Mismatch (at 30))
or_of_others = refl

-- def main(a: int): int = card(a union a)
union_of_others :
    checked (def (at 1) (codes "main") (param (at 10) (codes "a") Int ∷ []) (Int ∷ []) (raw_card (at 25) (raw_binary (at 32) Union (raw_name (at 30) (codes
    "a")) (raw_name (at 38) (codes "a")))) ∷ [])
    ≡ Err (Mismatch (at 32))
union_of_others = refl

-- def main(a: int): int = card(true inter true)
inter_of_others :
    checked (def (at 1) (codes "main") (param (at 10) (codes "a") Int ∷ []) (Int ∷ []) (raw_card (at 25) (raw_binary (at 35) Inter (raw_truth (at 30) true)
    (raw_truth (at 41) true))) ∷ [])
    ≡ Err (Mismatch (at 35))
inter_of_others = refl

-- def main(a: int): int = card(a diff a)
diff_of_others :
    checked (def (at 1) (codes "main") (param (at 10) (codes "a") Int ∷ []) (Int ∷ []) (raw_card (at 25) (raw_binary (at 32) Diff (raw_name (at 30) (codes
    "a")) (raw_name (at 37) (codes "a")))) ∷ [])
    ≡ Err (Mismatch (at 32))
diff_of_others = refl

-- def main(a: int): int = if a subset a then a else a
subset_of_others :
    checked (def (at 1) (codes "main") (param (at 10) (codes "a") Int ∷ []) (Int ∷ []) (raw_if (at 25) (raw_binary (at 30) Subset (raw_name (at 28) (codes
    "a")) (raw_name (at 37) (codes "a"))) (raw_name (at 44) (codes "a")) (raw_name (at 51) (codes "a"))) ∷ [])
    ≡ Err (Mismatch (at 30))
subset_of_others = refl

-- def main(a: int): int = if true <= true then a else a
at_most_of_others :
    checked (def (at 1) (codes "main") (param (at 10) (codes "a") Int ∷ []) (Int ∷ []) (raw_if (at 25) (raw_binary (at 33) (Compare Le) (raw_truth (at 28)
    true) (raw_truth (at 36) true)) (raw_name (at 46) (codes "a")) (raw_name (at 53) (codes "a"))) ∷ [])
    ≡ Err (Mismatch (at 33))
at_most_of_others = refl

-- def main(a: int): int = if {} > {} then a else a
more_of_others :
    checked (def (at 1) (codes "main") (param (at 10) (codes "a") Int ∷ []) (Int ∷ []) (raw_if (at 25) (raw_binary (at 31) (Compare Gt) (raw_set_of (at 28)
    no_raws) (raw_set_of (at 33) no_raws)) (raw_name (at 41) (codes "a")) (raw_name (at 48) (codes "a"))) ∷ [])
    ≡ Err (Mismatch (at 31))
more_of_others = refl

-- def main(a: int): int = if true >= true then a else a
at_least_of_others :
    checked (def (at 1) (codes "main") (param (at 10) (codes "a") Int ∷ []) (Int ∷ []) (raw_if (at 25) (raw_binary (at 33) (Compare Ge) (raw_truth (at 28)
    true) (raw_truth (at 36) true)) (raw_name (at 46) (codes "a")) (raw_name (at 53) (codes "a"))) ∷ [])
    ≡ Err (Mismatch (at 33))
at_least_of_others = refl

-- readings that no well-typed relation has
no_relations : (linear (at 5) (term (term_var 0)) ≡ Err (NotLinear (at 5))) × (linear (at 5) (set empty_set) ≡ Err (NotLinear (at 5)))
no_relations = (refl, refl)

no_readings : (on_relation (λ r. relation r) (at 5) (term (term_var 0)) ≡ not_linear (at 5)) ×
    (on_relation (λ r. relation r) (at 5) (set empty_set) ≡ not_linear (at 5))
    × (on_term (λ t. term t) (at 5) (relation rel_true) ≡ not_linear (at 5)) × (on_term (λ t. term t) (at 5) (set empty_set) ≡ not_linear (at 5))
    × (on_set (λ s. set s) (at 5) (relation rel_true) ≡ not_linear (at 5)) × (on_set (λ s. set s) (at 5) (term (term_var 0)) ≡ not_linear (at 5))
no_readings = (refl, refl, refl, refl, refl, refl)

no_orders : (sets_reading Lt (at 5) empty_set empty_set ≡ not_linear (at 5)) × (sets_reading Le (at 5) empty_set empty_set ≡ not_linear (at 5))
    × (sets_reading Gt (at 5) empty_set empty_set ≡ not_linear (at 5)) × (sets_reading Ge (at 5) empty_set empty_set ≡ not_linear (at 5))
no_orders = (refl, refl, refl, refl)
