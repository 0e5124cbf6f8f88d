-- Worked examples: every form of a printed target, with its words and spaces.
use Rattle.std.proofs.Common.{◌≡◌, pos, true, false, [], ◌∷◌, map, refl, codes}
use Rattle.std.specs.Prelude.{negsuc}
use Rattle.std.specs.Fmt.{digits}
use Rattle.cf_tree.specs.declared.base.Base.TheVariants.{Int, Bool as Truth, Set}
use Rattle.cf_tree.specs.declared.base.Edition.TheVariants.{Two, Three}
use Rattle.cf_tree.specs.declared.base.Order.TheVariants.{Eq, Ne, Lt, Le, Gt, Ge}
use Rattle.cf_tree.specs.declared.target.RawTarget.{RawTarget}
use Rattle.cf_tree.specs.CodeTree.{CodeTree, code_lit, code_truth, code_var, code_set_of, code_tuple, code_sum, code_sub, code_mul, code_neg, code_div, code_mod, code_min, code_max, code_compare, code_divides, code_and, code_or, code_not, code_union, code_inter, code_diff, code_subset, code_card, code_slice, code_fresh, code_if, code_let, code_solve, CodeTrees, let_item, need_item, arm_of, no_arms, codes_of, items_of, arms_of}
use Rattle.cf_tree.specs.CodeView.{code_tree}
use Rattle.cf_emit.specs.Printed.{base_text, order_text, variables_text, results_text, code_text, target_text, pre_text}

abbrev a : CodeTree
a = code_var 0

abbrev b : CodeTree
b = code_var 1

abbrev c : CodeTree
c = code_var 12

abbrev pair : CodeTrees
pair = codes_of (a ∷ b ∷ [])

abbrev three : CodeTrees
three = codes_of (a ∷ b ∷ c ∷ [])

-- ---- words
bases : map base_text (Int ∷ Truth ∷ Set ∷ []) ≡ codes "int" ∷ codes "bool" ∷ codes "set" ∷ []
bases = refl

orders : map order_text (Eq ∷ Ne ∷ Lt ∷ Le ∷ Gt ∷ Ge ∷ []) ≡
    codes " == " ∷ codes " != " ∷ codes " < " ∷ codes " <= " ∷ codes " > " ∷ codes " >= " ∷ []
orders = refl

variables : map (variables_text 9) (0 ∷ 1 ∷ 2 ∷ 3 ∷ []) ≡ codes "()" ∷ codes "v9" ∷ codes "(v9, v10)" ∷ codes "(v9, v10, v11)" ∷ []
unfolding digits
variables = refl

results : map results_text ([] ∷ (Set ∷ []) ∷ (Int ∷ Set ∷ []) ∷ (Int ∷ Truth ∷ Set ∷ []) ∷ []) ≡
    codes "()" ∷ codes "set" ∷ codes "(int, set)" ∷ codes "(int, bool, set)" ∷ []
results = refl

-- ---- codes
leaves : map code_text (code_lit (pos 10) ∷ code_lit (negsuc 9) ∷ code_truth true ∷ code_truth false ∷ c ∷ []) ≡
    codes "10" ∷ codes "-10" ∷ codes "true" ∷ codes "false" ∷ codes "v12" ∷ []
unfolding digits
leaves = refl

sets : map code_text (code_set_of (codes_of []) ∷ code_set_of (codes_of (c ∷ [])) ∷ code_set_of three ∷ []) ≡
    codes "{}" ∷ codes "{v12}" ∷ codes "{v0, v1, v12}" ∷ []
unfolding digits
sets = refl

tuples : map code_text (code_tuple (codes_of []) ∷ code_tuple three ∷ []) ≡ codes "()" ∷ codes "(v0, v1, v12)" ∷ []
unfolding digits
tuples = refl

numbers : map code_text (code_sum three ∷ code_sub a b ∷ code_mul a b ∷ code_neg a ∷ code_div a (pos 3) ∷ code_mod a (pos 4) ∷ []) ≡
    codes "(v0 + v1 + v12)" ∷ codes "(v0 - v1)" ∷ codes "(v0 * v1)" ∷ codes "neg(v0)" ∷ codes "div(v0, 3)" ∷ codes "mod(v0, 4)" ∷ []
unfolding digits
numbers = refl

negative_divisors : map code_text (code_div a (negsuc 2) ∷ code_mod a (negsuc 3) ∷ code_divides (negsuc 4) a ∷ []) ≡
    codes "div(v0, -3)" ∷ codes "mod(v0, -4)" ∷ codes "(-5 divides v0)" ∷ []
unfolding digits
negative_divisors = refl

ends : map code_text (code_min three ∷ code_max three ∷ code_card a ∷ []) ≡ codes "min(v0, v1, v12)" ∷ codes "max(v0, v1, v12)" ∷ codes "card(v0)" ∷ []
unfolding digits
ends = refl

tests : map code_text (code_compare Le a b ∷ code_divides (pos 5) a ∷ code_and a b ∷ code_or a b ∷ code_not a ∷ code_subset a b ∷ []) ≡
    codes "(v0 <= v1)" ∷ codes "(5 divides v0)" ∷ codes "(v0 && v1)" ∷ codes "(v0 || v1)" ∷ codes "not(v0)" ∷ codes "(v0 subset v1)" ∷ []
unfolding digits
tests = refl

of_sets : map code_text (code_union three ∷ code_inter three ∷ code_diff a b ∷ code_slice a b c ∷ code_fresh a b ∷ []) ≡
    codes "(v0 union v1 union v12)" ∷ codes "(v0 inter v1 inter v12)" ∷ codes "(v0 diff v1)" ∷ codes "slice(v0, v1, v12)" ∷ codes "fresh(v0, v1)" ∷ []
unfolding digits
of_sets = refl

choices : map code_text (code_if a b c ∷ code_let 12 1 a b ∷ code_let 2 2 (code_tuple pair) b ∷ []) ≡
    codes "(if v0 then v1 else v12)" ∷ codes "(let v12 = v0 in v1)" ∷ codes "(let (v2, v3) = (v0, v1) in v1)" ∷ []
unfolding digits
choices = refl

nested : code_text (code_and (code_not (code_compare Lt (code_neg a) b)) (code_subset (code_union pair) (code_set_of pair))) ≡
    codes "(not((neg(v0) < v1)) && ((v0 union v1) subset {v0, v1}))"
unfolding digits
nested = refl

-- ---- solves
no_arm : code_text (code_solve 10 no_arms) ≡ codes "solve 10 {\n}"
unfolding digits
no_arm = refl

two_arms : code_text (code_solve 3 (arms_of (
    arm_of (2 ∷ 15 ∷ []) (items_of (let_item (code_neg a) ∷ need_item b ∷ [])) (codes_of (a ∷ []))
    ∷ arm_of [] (items_of []) (codes_of [])
    ∷ arm_of (7 ∷ []) (items_of []) three
    ∷ []))) ≡
    codes "solve 3 {\narm [2, 15] {\nlet neg(v0);\nneed v1;\ngive v0\n}\narm [] {\ngive ()\n}\narm [7] {\ngive (v0, v1, v12)\n}\n}"
unfolding digits
two_arms = refl

-- ---- targets and preconditions
module _ (t : RawTarget) where
  whole : t.params.items ≡ Int ∷ Set ∷ [] → t.results.items ≡ Truth ∷ [] → code_tree t.code ≡ code_truth true →
      (target_text Two t ≡ codes "comfusy 2\nmain (int, set): bool = true\n") × (target_text Three t ≡ codes "comfusy 3\nmain (int, set): bool = true\n")
  whole params results code = (rw (params, results, code) refl, rw (params, results, code) refl)

  without_parameters : t.params.items ≡ [] → t.results.items ≡ Int ∷ Int ∷ [] → code_tree t.code ≡ code_tuple pair →
      target_text Two t ≡ codes "comfusy 2\nmain (): (int, int) = (v0, v1)\n"
  unfolding digits
  without_parameters params results code = rw (params, results, code) refl

two_cases : pre_text 2 (codes "a" ∷ codes "bc" ∷ []) (arms_of (
    arm_of (3 ∷ 4 ∷ []) (items_of (let_item a ∷ need_item (code_compare Ge b a) ∷ [])) three
    ∷ arm_of [] (items_of []) (codes_of [])
    ∷ [])) ≡ codes "pre 2 (a, bc) {\narm [3, 4] {\nlet v0;\nneed (v1 >= v0);\n}\narm [] {\n}\n}\n"
unfolding digits
two_cases = refl
