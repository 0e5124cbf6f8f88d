-- Worked examples of chooses: their names, the lets that are kept, and the whole text.
use Rattle.std.proofs.Common.{◌≡◌, ℕ, pos, [], ◌∷◌, List, true, false, refl, codes, map}
use Rattle.std.specs.Prelude.{negsuc, Some, None}
use Rattle.std.specs.Fmt.{digits}
use Rattle.std.specs.List.{concat}
use Rattle.cf_tree.specs.declared.base.Order.TheVariants.{Eq, Le, Lt, Ge}
use Rattle.cf_tree.specs.RelTree.{TermTree, term_lit, term_var, term_card, term_add, term_mul, RelTree, rel_compare, rel_and, rel_true, rel_same_set, empty_set}
use Rattle.cf_tree.specs.CodeTree.{CodeTree, code_lit, code_var, code_sum, code_sub, code_mul, code_neg, code_div, code_max, code_compare, code_let, code_set_of, codes_of, items_of, arms_of, let_item, need_item, ItemTrees, arm_of, ArmTrees}
use Rattle.cf_smt.specs.Commands.{few_below, call_text, all_of, constant}
use Rattle.cf_smt.specs.Forms.{has_form, rel_has_form}
use Rattle.cf_smt.specs.Goals.{claim_text, claim_has_form, arm_goals, arms_denied, functions_defined, about_claim, relation_defined, needs_defined, give_defined, about_functions, has_defined, output_defined, given_digits, given_in, needs_goal, needs_in}
use Rattle.cf_smt.specs.Heads.{source_lines}
use Rattle.cf_smt.specs.Names.{Claim, Setting, setting_of, claim_name, search_name, search_names}
use Rattle.cf_smt.specs.Terms.{greatest_word}

abbrev number : ℕ → TermTree
number n = term_lit (pos n)

abbrev from : ℕ → ℕ → RelTree
from n x = rel_compare Le (number n) (term_var x)

abbrev to : ℕ → ℕ → RelTree
to x n = rel_compare Le (term_var x) (number n)

abbrev natural : CodeTree → CodeTree
natural c = code_compare Ge c (code_lit (pos 0))

abbrev var : ℕ → CodeTree
var x = code_var x

abbrev times : ℕ → CodeTree → CodeTree
times k c = code_mul (code_lit (pos k)) c

-- ---- hours, minutes and seconds
abbrev relation : RelTree
relation =
    rel_and (rel_and (rel_and (rel_and (rel_and
    (rel_compare Eq (term_add (term_add (term_mul (term_var 1) (number 3600)) (term_mul (term_var 2) (number 60))) (term_var 3)) (term_var 0))
    (from 0 1)) (from 0 2)) (to 2 59)) (from 0 3)) (to 3 59)

abbrev items : ItemTrees
items = items_of
    (let_item (code_div (var 0) (pos 60)) ∷ let_item (code_div (code_sub (code_lit (pos 59)) (var 0)) (pos 60)) ∷ need_item
    (natural (code_sum (codes_of (var 1 ∷ var 2 ∷ []))))
    ∷ let_item (code_div (var 1) (pos 60)) ∷ need_item (natural (var 3))
    ∷ need_item (natural (code_sum (codes_of (code_div (code_sum (codes_of (code_lit (pos 59) ∷ var 2 ∷ []))) (pos 60) ∷ var 3 ∷ []))))
    ∷ let_item (code_max (codes_of (code_sum (codes_of (code_lit (negsuc 58) ∷ code_neg (times 60 (var 3)) ∷ [])) ∷ code_neg (var 1) ∷ [])))
    ∷ let_item (code_sum (codes_of (var 0 ∷ times 60 (var 4) ∷ [])))
    ∷ let_item (code_sum (codes_of (code_neg (var 4) ∷ code_neg (times 60 (var 3)) ∷ []))) ∷ [])

abbrev seconds : Claim
seconds = record {
  number = 1;
  branch = 0;
  scope = codes "t" ∷ [];
  outputs = codes "h" ∷ codes "m" ∷ codes "s" ∷ [];
  relation = relation;
  arms = arms_of (arm_of [] items (codes_of (var 3 ∷ var 6 ∷ var 5 ∷ [])) ∷ []);
}

seconds_text : claim_text seconds ≡ concat (
    codes "; Choose 1: its relation, and what each arm needs and gives.\n"
    ∷ codes "(define-fun choose1.relation ((t Int) (h Int) (m Int) (s Int)) Bool\n"
    ∷ codes "  (and (and (and (and (and (= (+ (+ (* h 3600) (* m 60)) s) t) (<= 0 h)) (<= 0 m)) (<= m 59)) (<= 0 s)) (<= s 59)))\n"
    ∷ codes "(define-fun choose1.arm1 ((t Int)) Bool\n"
    ∷ codes "  (let ((n1. (div t 60)))\n"
    ∷ codes "  (let ((n2. (div (- 59 t) 60)))\n"
    ∷ codes "  (let ((n3. (div n1. 60)))\n"
    ∷ codes "  (and (>= (+ n1. n2.) 0) (>= n3. 0) (>= (+ (div (+ 59 n2.) 60) n3.) 0))))))\n"
    ∷ codes "(define-fun choose1.arm1.h ((t Int)) Int\n"
    ∷ codes "  (let ((n1. (div t 60)))\n"
    ∷ codes "  (let ((n3. (div n1. 60)))\n"
    ∷ codes "  n3.)))\n"
    ∷ codes "(define-fun choose1.arm1.m ((t Int)) Int\n"
    ∷ codes "  (let ((n1. (div t 60)))\n"
    ∷ codes "  (let ((n3. (div n1. 60)))\n"
    ∷ codes "  (let ((n4. (greatest. (+ (- 59) (- (* 60 n3.))) (- n1.))))\n"
    ∷ codes "  (let ((n6. (+ (- n4.) (- (* 60 n3.)))))\n"
    ∷ codes "  n6.)))))\n"
    ∷ codes "(define-fun choose1.arm1.s ((t Int)) Int\n"
    ∷ codes "  (let ((n1. (div t 60)))\n"
    ∷ codes "  (let ((n3. (div n1. 60)))\n"
    ∷ codes "  (let ((n4. (greatest. (+ (- 59) (- (* 60 n3.))) (- n1.))))\n"
    ∷ codes "  (let ((n5. (+ t (* 60 n4.))))\n"
    ∷ codes "  n5.)))))\n"
    ∷ codes "; Choose 1 as functions: whether there are outputs, and which.\n"
    ∷ codes "(define-fun choose1.has ((t Int)) Bool (or (choose1.arm1 t) false))\n"
    ∷ codes "(define-fun choose1.h ((t Int)) Int (choose1.arm1.h t))\n"
    ∷ codes "(define-fun choose1.m ((t Int)) Int (choose1.arm1.m t))\n"
    ∷ codes "(define-fun choose1.s ((t Int)) Int (choose1.arm1.s t))\n"
    ∷ codes "; What arm 1 gives satisfies the relation.\n"
    ∷ codes "(push 1)\n"
    ∷ codes "(declare-const t Int)\n"
    ∷ codes "(assert (choose1.arm1 t))\n"
    ∷ codes "(assert (not (choose1.relation t (choose1.arm1.h t) (choose1.arm1.m t) (choose1.arm1.s t))))\n"
    ∷ codes "(check-sat)\n"
    ∷ codes "(pop 1)\n"
    ∷ codes "; Where outputs satisfy the relation, the needs of an arm hold.\n"
    ∷ codes "(push 1)\n"
    ∷ codes "(declare-const t Int)\n"
    ∷ codes "(declare-const h Int)\n"
    ∷ codes "(declare-const m Int)\n"
    ∷ codes "(declare-const s Int)\n"
    ∷ codes "(assert (choose1.relation t h m s))\n"
    ∷ codes "(assert (not (choose1.arm1 t)))\n"
    ∷ codes "(check-sat)\n"
    ∷ codes "(pop 1)\n"
    ∷ [])
unfolding digits about_claim relation_defined needs_defined give_defined about_functions has_defined output_defined given_digits given_in
    needs_goal needs_in constant greatest_word
seconds_text = refl

seconds_form : claim_has_form seconds ≡ true
seconds_form = refl

-- ---- names: of the source; others where they are taken, or words of SMT-LIB; none for what is not read
abbrev one_of : List (List ℕ) → List (List ℕ) → Claim
one_of scope outputs = record {
  number = 7;
  branch = 0;
  scope = scope;
  outputs = outputs;
  relation = rel_compare Lt (term_var 1) (term_var 2);
  arms =
      arms_of [];
}

names : setting_of (one_of (codes "spare" ∷ codes "let" ∷ []) (codes "let" ∷ codes "_x" ∷ [])) ≡ record {
  name = codes "choose7";
  scope = [] ∷ codes "let_" ∷ [];
  params = codes "let_" ∷ [];
  all = [] ∷ codes "let_" ∷ codes "let__" ∷ codes "n1" ∷ [];
  outputs = codes "let__" ∷ codes "n1" ∷ [];
}
unfolding digits
names = refl

second_branch : claim_name 7 1 ≡ codes "choose7.2"
unfolding digits
second_branch = refl

searches : search_names 0 (5 ∷ 5 ∷ 5 ∷ 5 ∷ []) ≡ codes "i." ∷ codes "j." ∷ codes "k." ∷ codes "k3." ∷ []
unfolding digits search_name
searches = refl

-- ---- searches: goals at each tuple, or at all where there are many
abbrev setting : Setting
setting = record { name = codes "c"; scope = codes "a" ∷ []; params = codes "a" ∷ []; all = codes "a" ∷ codes "x" ∷ []; outputs = codes "x" ∷ [] }

abbrev searching : List ℕ → ArmTrees
searching bounds = arms_of (arm_of bounds (items_of []) (codes_of (var 1 ∷ [])) ∷ [])

searched : arm_goals setting 0 (searching (2 ∷ [])) ≡ concat (
    codes "; What arm 1 gives satisfies the relation.\n(push 1)\n"
    ∷ codes "(declare-const a Int)\n(declare-const i. Int)\n"
    ∷ codes "(assert (and (<= 0 i.) (< i. 2)))\n"
    ∷ codes "(assert (c.arm1 a i.))\n"
    ∷ codes "(assert (not (c.relation a (c.arm1.x a i.))))\n"
    ∷ codes "(check-sat)\n(pop 1)\n"
    ∷ [])
unfolding digits given_digits given_in constant search_name
searched = refl

tuples : arms_denied setting 0 (searching (2 ∷ 2 ∷ [])) ≡ concat (
    codes "(assert (not (c.arm1 a 0 0)))\n"
    ∷ codes "(assert (not (c.arm1 a 1 0)))\n"
    ∷ codes "(assert (not (c.arm1 a 0 1)))\n"
    ∷ codes "(assert (not (c.arm1 a 1 1)))\n"
    ∷ [])
unfolding digits
tuples = refl

many_tuples : arms_denied setting 0 (searching (5 ∷ 13 ∷ [])) ≡ concat (
    codes "(assert (forall ((i. Int) (j. Int)) "
    ∷ codes "(=> (and (and (<= 0 i.) (< i. 5)) (and (<= 0 j.) (< j. 13))) (not (c.arm1 a i. j.)))))\n"
    ∷ [])
unfolding digits search_name
many_tuples = refl

few : few_below 1 (8 ∷ 8 ∷ []) ≡ Some 64
few = refl

not_few : few_below 1 (5 ∷ 13 ∷ []) ≡ None
not_few = refl

-- no functions where an arm searches
no_functions : functions_defined setting (codes "1") (searching (2 ∷ [])) ≡ []
no_functions = refl

-- two arms: the last one needs no test
two_arms : functions_defined setting (codes "1")
    (arms_of (arm_of [] (items_of []) (codes_of (var 0 ∷ [])) ∷ arm_of [] (items_of []) (codes_of (var 0 ∷ [])) ∷ [])) ≡ concat (
    codes "; Choose 1 as functions: whether there are outputs, and which.\n"
    ∷ codes "(define-fun c.has ((a Int)) Bool (or (c.arm1 a) (c.arm2 a) false))\n"
    ∷ codes "(define-fun c.x ((a Int)) Int (ite (c.arm1 a) (c.arm1.x a) (c.arm2.x a)))\n"
    ∷ [])
unfolding digits about_functions has_defined output_defined
two_arms = refl

-- ---- terms
no_terms : call_text (codes "f") [] ≡ codes "f"
no_terms = refl

one_term : all_of (codes "a" ∷ []) ≡ codes "a"
one_term = refl

none_of_all : all_of [] ≡ codes "true"
none_of_all = refl

-- ---- what has no form
no_sets : map rel_has_form (rel_compare Eq (term_card empty_set) (number 0) ∷ rel_same_set empty_set empty_set ∷ rel_true ∷ []) ≡ false ∷ false ∷ true ∷ []
no_sets = refl

no_tuples : map has_form (code_set_of (codes_of []) ∷ code_let 1 2 (var 0) (var 1) ∷ code_let 1 1 (var 0) (var 1) ∷ []) ≡ false ∷ false ∷ true ∷ []
no_tuples = refl

-- ---- the source as a comment
lines : source_lines false (codes "a\tb\n\nc") ≡ codes ";     a b\n;\n;     c\n"
lines = refl

ended : source_lines false (codes "a\n") ≡ codes ";     a\n"
ended = refl
