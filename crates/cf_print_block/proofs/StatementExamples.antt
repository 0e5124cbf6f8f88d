-- Worked examples of printed statements.
use Rattle.std.specs.Prelude.{ℕ, pos, ◌≡◌, true, false, List, [], ◌∷◌, map, codes, refl}
use Rattle.std.specs.Fmt.{digits}
use Rattle.cf_tree.specs.declared.base.Base.TheVariants.{Int, Bool as Truth, Set}
use Rattle.cf_tree.specs.declared.base.Order.TheVariants.{Ge}
use Rattle.cf_tree.specs.CodeTree.{CodeTree, code_lit, code_truth, code_var, code_compare, codes_of, code_sum, code_sub, code_fresh, code_tuple}
use Rattle.cf_stmt.specs.Blocks.{Block, give, none, leave, bind, part, join, test, arm}
use Rattle.cf_range.specs.Ranges.{whole}
use Rattle.cf_print_block.specs.Statements.{block, with_let, with_variable, all_in_variables, bound_for, inner_behind, inner_ahead, kept, function_of, begun, results_held, called, in_place, give_back, first_side, second_side, branched, tested, guarded, plain_arm, searched_arm, with_loop, function_name, search_name, pointers_for, parameters_of, differ_behind}
use Rattle.cf_print_block.specs.Places.{deeper, leaving_by, behind_arm, giving, name_in, put, taking, freed, behind_one, ahead, at_hand}
use Rattle.cf_print_shape.specs.declared.exit.Exit.TheVariants.{Falls}
use Rattle.cf_print_block.specs.declared.place.Giving.TheVariants.{Results}
use Rattle.cf_print.specs.declared.language.Language.{Language}
use Rattle.cf_print.specs.declared.language.Language.TheVariants.{C, Python, JavaScript, Rust}

abbrev num : ℕ → CodeTree
num k = code_lit (pos k)

abbrev var : ℕ → CodeTree
var x = code_var x

abbrev sum : List CodeTree → CodeTree
sum cs = code_sum (codes_of cs)

-- ---- variables that are not read
abbrev lines_in : Language → Block → List ℕ
lines_in l b = (block (record { language = l; results = []; outputs = λ n. [] }) (record { names = codes "x" ∷ []; bases = Int ∷ []; ranges = whole ∷ [] }) b
    (record { depth = 1; exit = Falls; arms = 0; giving = Results })
    (record { lines = []; pointers = codes "out" ∷ []; taken = codes "x" ∷ []; functions = []; numbers = [] })).lines

abbrev unread : Block
unread = bind (give (code_lit (pos 5))) (give (code_var 0))

unread_in_python : lines_in Python unread ≡ codes "    n1 = 5\n    return x\n"
unfolding digits with_let with_variable all_in_variables bound_for inner_behind inner_ahead kept function_of begun results_held called in_place give_back first_side second_side branched tested guarded plain_arm searched_arm with_loop function_name deeper leaving_by behind_arm giving name_in put taking freed behind_one ahead at_hand
unread_in_python = refl

unread_in_c : lines_in C unread ≡ codes "    whole n1 = 5;\n    (void)n1;\n    *out = x;\n    return past ? COMFUSY_OVERFLOW : 0;\n"
unfolding digits with_let with_variable all_in_variables bound_for inner_behind inner_ahead kept function_of begun results_held called in_place give_back first_side second_side branched tested guarded plain_arm searched_arm with_loop function_name deeper leaving_by behind_arm giving name_in put taking freed behind_one ahead at_hand
unread_in_c = refl

read_in_c : lines_in C (bind (give (code_lit (pos 5))) (give (code_var 1))) ≡
    codes "    whole n1 = 5;\n    *out = n1;\n    return past ? COMFUSY_OVERFLOW : 0;\n"
unfolding digits with_let with_variable all_in_variables bound_for inner_behind inner_ahead kept function_of begun results_held called in_place give_back first_side second_side branched tested guarded plain_arm searched_arm with_loop function_name deeper leaving_by behind_arm giving name_in put taking freed behind_one ahead at_hand
read_in_c = refl

-- ---- blocks that never give
-- what stands behind them is not reached: values that are bound, other values, a test
never_bound : lines_in Python (bind (none 3) (give (code_var 1))) ≡ codes "    raise NoSolution(3)\n"
unfolding digits with_let with_variable all_in_variables bound_for inner_behind inner_ahead kept function_of begun results_held called in_place give_back first_side second_side branched tested guarded plain_arm searched_arm with_loop function_name deeper leaving_by behind_arm giving name_in put taking freed behind_one ahead at_hand
never_bound = refl

never_tested : lines_in Python (test (part (none 3) (give (code_var 0))) (give (code_var 0)) (none 4)) ≡ codes "    raise NoSolution(3)\n"
unfolding digits with_let with_variable all_in_variables bound_for inner_behind inner_ahead kept function_of begun results_held called in_place give_back first_side second_side branched tested guarded plain_arm searched_arm with_loop function_name deeper leaving_by behind_arm giving name_in put taking freed behind_one ahead at_hand
never_tested = refl

never_first : lines_in Python (join (test (give (code_truth true)) (none 3) (none 4)) (give (code_var 0))) ≡
    codes "    if not True:\n        raise NoSolution(4)\n    raise NoSolution(3)\n"
unfolding digits with_let with_variable all_in_variables bound_for inner_behind inner_ahead kept function_of begun results_held called in_place give_back first_side second_side branched tested guarded plain_arm searched_arm with_loop function_name deeper leaving_by behind_arm giving name_in put taking freed behind_one ahead at_hand
never_first = refl

never_second : lines_in Python (join (give (code_lit (pos 5))) (none 3)) ≡ codes "    n1 = 5\n    raise NoSolution(3)\n"
unfolding digits with_let with_variable all_in_variables bound_for inner_behind inner_ahead kept function_of begun results_held called in_place give_back first_side second_side branched tested guarded plain_arm searched_arm with_loop function_name deeper leaving_by behind_arm giving name_in put taking freed behind_one ahead at_hand
never_second = refl

never_second_in_c : lines_in C (join (give (code_lit (pos 5))) (none 3)) ≡
    codes "    whole n1 = 5;\n    (void)n1;\n    return past ? COMFUSY_OVERFLOW : 3;\n"
unfolding digits with_let with_variable all_in_variables bound_for inner_behind inner_ahead kept function_of begun results_held called in_place give_back first_side second_side branched tested guarded plain_arm searched_arm with_loop function_name deeper leaving_by behind_arm giving name_in put taking freed behind_one ahead at_hand
never_second_in_c = refl

-- a block is never empty
left_at_once : lines_in Python (arm [] (test (give (code_truth true)) leave (give (code_var 0))) (arm [] (give (code_var 0)) (none 1))) ≡
    codes "    # Arm 1.\n    if True:\n        pass\n    else:\n        return x\n    # Arm 2.\n    return x\n"
unfolding digits with_let with_variable all_in_variables bound_for inner_behind inner_ahead kept function_of begun results_held called in_place give_back first_side second_side branched tested guarded plain_arm searched_arm with_loop function_name deeper leaving_by behind_arm giving name_in put taking freed behind_one ahead at_hand
left_at_once = refl

-- ---- a block that is not straight is a function before this one
abbrev functions_in : Language → Block → List ℕ
functions_in l b = (block (record { language = l; results = []; outputs = λ n. [] }) (record { names = codes "x" ∷ []; bases = Int ∷ []; ranges = whole ∷ [] })
    b
    (record { depth = 1; exit = Falls; arms = 0; giving = Results })
    (record { lines = []; pointers = codes "out" ∷ []; taken = codes "x" ∷ []; functions = []; numbers = [] })).functions

-- the number where it is 10 or more, or else 3
abbrev two_ways : Block
two_ways =
    bind (arm [] (test (give (code_compare Ge (code_var 0) (code_lit (pos 10)))) (give (code_var 0)) leave) (arm [] (give (code_lit (pos 3))) (none 7)))
    (give (code_var 1))

call_in_python : lines_in Python two_ways ≡ codes "    n1 = choose_7(x)\n    return n1\n"
unfolding digits with_let with_variable all_in_variables bound_for inner_behind inner_ahead kept function_of begun results_held called in_place give_back first_side second_side branched tested guarded plain_arm searched_arm with_loop function_name deeper leaving_by behind_arm giving name_in put taking freed behind_one ahead at_hand
call_in_python = refl

function_in_python : functions_in Python two_ways ≡
    codes "\n\ndef choose_7(x: int) -> int:\n    \"\"\"Gives what choose 7 picks.\"\"\"\n    # Arm 1.\n    if x >= 10:\n        return x\n    # Arm 2.\n    return 3\n"
unfolding digits with_let with_variable all_in_variables bound_for inner_behind inner_ahead kept function_of begun results_held called in_place give_back first_side second_side branched tested guarded plain_arm searched_arm with_loop function_name deeper leaving_by behind_arm giving name_in put taking freed behind_one ahead at_hand
function_in_python = refl

call_in_c : lines_in C two_ways ≡
    codes "    if (past)\n        return COMFUSY_OVERFLOW;\n    whole n1 = 0;\n    int status = choose_7(x, &n1);\n    if (status)\n        return status;\n    *out = n1;\n    return past ? COMFUSY_OVERFLOW : 0;\n"
unfolding digits with_let with_variable all_in_variables bound_for inner_behind inner_ahead kept function_of begun results_held called in_place give_back first_side second_side branched tested guarded plain_arm searched_arm with_loop function_name deeper leaving_by behind_arm giving name_in put taking freed behind_one ahead at_hand
call_in_c = refl

call_in_javascript : lines_in JavaScript two_ways ≡ codes "  const n1 = choose_7(x);\n  return n1;\n"
unfolding digits with_let with_variable all_in_variables bound_for inner_behind inner_ahead kept function_of begun results_held called in_place give_back first_side second_side branched tested guarded plain_arm searched_arm with_loop function_name deeper leaving_by behind_arm giving name_in put taking freed behind_one ahead at_hand
call_in_javascript = refl

-- two variables of one name are one parameter: the second has the value of the first
abbrev read_twice : Block
read_twice =
    bind (give (var 0)) (bind (arm [] (test (give (code_compare Ge (var 0) (var 1))) (give (var 1)) leave) (arm [] (give (num 3)) (none 7)))
    (give (var 2)))

one_parameter : functions_in Python read_twice ≡
    codes "\n\ndef choose_7(x: int) -> int:\n    \"\"\"Gives what choose 7 picks.\"\"\"\n    # Arm 1.\n    if x >= x:\n        return x\n    # Arm 2.\n    return 3\n"
unfolding digits with_let with_variable all_in_variables bound_for inner_behind inner_ahead kept function_of begun results_held called in_place give_back first_side second_side branched tested guarded plain_arm searched_arm with_loop function_name deeper leaving_by behind_arm giving name_in put taking freed behind_one ahead at_hand
one_parameter = refl

one_argument : lines_in Python read_twice ≡ codes "    n1 = choose_7(x)\n    return n1\n"
unfolding digits with_let with_variable all_in_variables bound_for inner_behind inner_ahead kept function_of begun results_held called in_place give_back first_side second_side branched tested guarded plain_arm searched_arm with_loop function_name deeper leaving_by behind_arm giving name_in put taking freed behind_one ahead at_hand
one_argument = refl

parameters : parameters_of (codes "x" ∷ codes "s" ∷ codes "x" ∷ codes "t" ∷ []) (Int ∷ Set ∷ Int ∷ Truth ∷ []) ≡
    record { names = codes "x" ∷ codes "s" ∷ codes "t" ∷ []; bases = Int ∷ Set ∷ Truth ∷ [] }
parameters = refl

differing : map (differ_behind []) ((codes "x" ∷ codes "s" ∷ []) ∷ (codes "x" ∷ codes "s" ∷ codes "x" ∷ []) ∷ []) ≡ true ∷ false ∷ []
differing = refl

-- ---- arms and searches
-- two arms: the number less 10 where that is not negative, or else itself where it is not negative
abbrev two_arms : Block
two_arms =
    arm [] (bind (give (code_sub (var 0) (num 10))) (test (give (code_compare Ge (var 1) (num 0))) (give (var 1)) leave))
    (arm [] (test (give (code_compare Ge (var 0) (num 0))) (give (var 0)) leave) (none 7))

arms : lines_in Python two_arms ≡ codes "    # Arm 1.\n    n1 = fit(x - 10)\n    if n1 >= 0:\n        return n1\n    # Arm 2.\n    if x < 0:\n        raise NoSolution(7)\n    return x\n"
unfolding digits with_let with_variable all_in_variables bound_for inner_behind inner_ahead kept function_of begun results_held called in_place give_back first_side second_side branched tested guarded plain_arm searched_arm with_loop function_name deeper leaving_by behind_arm giving name_in put taking freed behind_one ahead at_hand
arms = refl

-- of a last arm that has guards its statements alone are left, and it is told all the same
abbrev guarded_last : Block
guarded_last =
    arm [] (test (give (code_compare Ge (var 0) (num 10))) (give (var 0)) leave) (test (give (code_compare Ge (var 0) (num 0))) (give (num 3)) (none 7))

last_arm : lines_in Python guarded_last ≡ codes "    # Arm 1.\n    if x >= 10:\n        return x\n    # Arm 2.\n    if x < 0:\n        raise NoSolution(7)\n    return 3\n"
unfolding digits with_let with_variable all_in_variables bound_for inner_behind inner_ahead kept function_of begun results_held called in_place give_back first_side second_side branched tested guarded plain_arm searched_arm with_loop function_name deeper leaving_by behind_arm giving name_in put taking freed behind_one ahead at_hand
last_arm = refl

last_arm_function : functions_in Python (bind guarded_last (give (var 1))) ≡
    codes "\n\ndef choose_7(x: int) -> int:\n    \"\"\"Gives what choose 7 picks.\"\"\"\n    # Arm 1.\n    if x >= 10:\n        return x\n    # Arm 2.\n    if x < 0:\n        raise NoSolution(7)\n    return 3\n"
unfolding digits with_let with_variable all_in_variables bound_for inner_behind inner_ahead kept function_of begun results_held called in_place give_back first_side second_side branched tested guarded plain_arm searched_arm with_loop function_name deeper leaving_by behind_arm giving name_in put taking freed behind_one ahead at_hand
last_arm_function = refl

-- where an arm declares a variable it has a scope, and where it is one `if` it has none
arms_in_c : lines_in C two_arms ≡
    codes "    // Arm 1.\n    {\n        whole n1 = sub(x, 10, &past);\n        if (n1 >= 0) {\n            *out = n1;\n            return past ? COMFUSY_OVERFLOW : 0;\n        }\n    }\n    // Arm 2.\n    if (x < 0)\n        return past ? COMFUSY_OVERFLOW : 7;\n    *out = x;\n    return past ? COMFUSY_OVERFLOW : 0;\n"
unfolding digits with_let with_variable all_in_variables bound_for inner_behind inner_ahead kept function_of begun results_held called in_place give_back first_side second_side branched tested guarded plain_arm searched_arm with_loop function_name deeper leaving_by behind_arm giving name_in put taking freed behind_one ahead at_hand
arms_in_c = refl

abbrev one_if : Block
one_if = arm [] (test (give (code_compare Ge (var 0) (num 10))) (give (var 0)) leave) (arm [] (give (num 3)) (none 7))

one_if_in_c : lines_in C one_if ≡
    codes "    // Arm 1.\n    if (x >= 10) {\n        *out = x;\n        return past ? COMFUSY_OVERFLOW : 0;\n    }\n    // Arm 2.\n    *out = 3;\n    return past ? COMFUSY_OVERFLOW : 0;\n"
unfolding digits with_let with_variable all_in_variables bound_for inner_behind inner_ahead kept function_of begun results_held called in_place give_back first_side second_side branched tested guarded plain_arm searched_arm with_loop function_name deeper leaving_by behind_arm giving name_in put taking freed behind_one ahead at_hand
one_if_in_c = refl

one_if_in_javascript : lines_in JavaScript one_if ≡ codes "  // Arm 1.\n  if (x >= 10n) {\n    return x;\n  }\n  // Arm 2.\n  return 3n;\n"
unfolding digits with_let with_variable all_in_variables bound_for inner_behind inner_ahead kept function_of begun results_held called in_place give_back first_side second_side branched tested guarded plain_arm searched_arm with_loop function_name deeper leaving_by behind_arm giving name_in put taking freed behind_one ahead at_hand
one_if_in_javascript = refl

search : lines_in Python (arm (6 ∷ []) (test (give (code_compare Ge (sum (var 1 ∷ var 1 ∷ [])) (var 0))) (give (var 1)) leave) (none 3)) ≡
    codes "    for i in range(6):\n        if i + i < x:\n            continue\n        return i\n    raise NoSolution(3)\n"
unfolding digits with_let with_variable all_in_variables bound_for inner_behind inner_ahead kept function_of begun results_held called in_place give_back first_side second_side branched tested guarded plain_arm searched_arm with_loop function_name deeper leaving_by behind_arm giving name_in put taking freed behind_one ahead at_hand
search = refl

two_searches : lines_in JavaScript (arm (2 ∷ 3 ∷ []) (give (var 2)) (none 3)) ≡
    codes "  for (let i = 0n; i < 2n; i++) {\n    for (let j = 0n; j < 3n; j++) {\n      return j;\n    }\n  }\n  throw new NoSolution(3);\n"
unfolding digits with_let with_variable all_in_variables bound_for inner_behind inner_ahead kept function_of begun results_held called in_place give_back first_side second_side branched tested guarded plain_arm searched_arm with_loop function_name deeper leaving_by behind_arm giving name_in put taking freed behind_one ahead at_hand
two_searches = refl

search_in_c : lines_in C (arm (6 ∷ []) (test (give (code_compare Ge (sum (var 1 ∷ var 1 ∷ [])) (var 0))) (give (var 1)) leave) (none 3)) ≡
    codes "    for (whole i = 0; i < 6; i++) {\n        if (i + i < x)\n            continue;\n        *out = i;\n        return past ? COMFUSY_OVERFLOW : 0;\n    }\n    return past ? COMFUSY_OVERFLOW : 3;\n"
unfolding digits with_let with_variable all_in_variables bound_for inner_behind inner_ahead kept function_of begun results_held called in_place give_back first_side second_side branched tested guarded plain_arm searched_arm with_loop function_name deeper leaving_by behind_arm giving name_in put taking freed behind_one ahead at_hand
search_in_c = refl

both_sides : lines_in JavaScript (test (give (code_compare Ge (var 0) (num 10))) (give (var 0)) (give (num 3))) ≡
    codes "  if (x >= 10n) {\n    return x;\n  }\n  return 3n;\n"
unfolding digits with_let with_variable all_in_variables bound_for inner_behind inner_ahead kept function_of begun results_held called in_place give_back first_side second_side branched tested guarded plain_arm searched_arm with_loop function_name deeper leaving_by behind_arm giving name_in put taking freed behind_one ahead at_hand
both_sides = refl

guard_in_c : lines_in C (test (give (code_compare Ge (var 0) (num 10))) (give (var 0)) (none 2)) ≡
    codes "    if (x < 10)\n        return past ? COMFUSY_OVERFLOW : 2;\n    *out = x;\n    return past ? COMFUSY_OVERFLOW : 0;\n"
unfolding digits with_let with_variable all_in_variables bound_for inner_behind inner_ahead kept function_of begun results_held called in_place give_back first_side second_side branched tested guarded plain_arm searched_arm with_loop function_name deeper leaving_by behind_arm giving name_in put taking freed behind_one ahead at_hand
guard_in_c = refl

-- ---- Rust
-- a number of numerals alone is told its type
rust_numeral : lines_in Rust unread ≡ codes "    let n1: i128 = 5;\n    Ok(x)\n"
unfolding digits with_let with_variable all_in_variables bound_for inner_behind inner_ahead kept function_of begun results_held called in_place give_back first_side second_side branched tested guarded plain_arm searched_arm with_loop function_name deeper leaving_by behind_arm giving name_in put taking freed behind_one ahead at_hand
rust_numeral = refl

rust_never : lines_in Rust (bind (none 3) (give (code_var 1))) ≡ codes "    Err(ComfusyError::NoSolution(3))\n"
unfolding digits with_let with_variable all_in_variables bound_for inner_behind inner_ahead kept function_of begun results_held called in_place give_back first_side second_side branched tested guarded plain_arm searched_arm with_loop function_name deeper leaving_by behind_arm giving name_in put taking freed behind_one ahead at_hand
rust_never = refl

rust_call : lines_in Rust two_ways ≡ codes "    let n1 = choose_7(x)?;\n    Ok(n1)\n"
unfolding digits with_let with_variable all_in_variables bound_for inner_behind inner_ahead kept function_of begun results_held called in_place give_back first_side second_side branched tested guarded plain_arm searched_arm with_loop function_name deeper leaving_by behind_arm giving name_in put taking freed behind_one ahead at_hand
rust_call = refl

rust_function : functions_in Rust two_ways ≡
    codes "\n/// Gives what choose 7 picks.\nfn choose_7(x: i128) -> Result<i128, ComfusyError> {\n    // Arm 1.\n    if x >= 10 {\n        return Ok(x);\n    }\n    // Arm 2.\n    Ok(3)\n}\n"
unfolding digits with_let with_variable all_in_variables bound_for inner_behind inner_ahead kept function_of begun results_held called in_place give_back first_side second_side branched tested guarded plain_arm searched_arm with_loop function_name deeper leaving_by behind_arm giving name_in put taking freed behind_one ahead at_hand
rust_function = refl

rust_arms : lines_in Rust two_arms ≡ codes "    // Arm 1.\n    {\n        let n1 = sub(x, 10)?;\n        if n1 >= 0 {\n            return Ok(n1);\n        }\n    }\n    // Arm 2.\n    if x < 0 {\n        return Err(ComfusyError::NoSolution(7));\n    }\n    Ok(x)\n"
unfolding digits with_let with_variable all_in_variables bound_for inner_behind inner_ahead kept function_of begun results_held called in_place give_back first_side second_side branched tested guarded plain_arm searched_arm with_loop function_name deeper leaving_by behind_arm giving name_in put taking freed behind_one ahead at_hand
rust_arms = refl

rust_search : lines_in Rust (arm (6 ∷ []) (test (give (code_compare Ge (sum (var 1 ∷ var 1 ∷ [])) (var 0))) (give (var 1)) leave) (none 3)) ≡
    codes "    for i in 0..6_i128 {\n        if i + i < x {\n            continue;\n        }\n        return Ok(i);\n    }\n    Err(ComfusyError::NoSolution(3))\n"
unfolding digits with_let with_variable all_in_variables bound_for inner_behind inner_ahead kept function_of begun results_held called in_place give_back first_side second_side branched tested guarded plain_arm searched_arm with_loop function_name deeper leaving_by behind_arm giving name_in put taking freed behind_one ahead at_hand
rust_search = refl

-- ---- sets in Rust: variables are lent, and a variable that is given is copied
abbrev lines_of_sets : Block → List ℕ
lines_of_sets b = (block (record { language = Rust; results = []; outputs = λ n. [] })
    (record { names = codes "s" ∷ codes "p" ∷ []; bases = Set ∷ Truth ∷ []; ranges = whole ∷ whole ∷ [] }) b
    (record { depth = 1; exit = Falls; arms = 0; giving = Results })
    (record { lines = []; pointers = []; taken = codes "s" ∷ codes "p" ∷ []; functions = []; numbers = [] })).lines

set_given : lines_of_sets (give (code_tuple (codes_of (code_var 0 ∷ code_fresh (code_var 0) (num 2) ∷ code_var 1 ∷ [])))) ≡
    codes "    Ok((s.clone(), fresh(s, 2), p))\n"
unfolding digits with_let with_variable all_in_variables bound_for inner_behind inner_ahead kept function_of begun results_held called in_place give_back first_side second_side branched tested guarded plain_arm searched_arm with_loop function_name deeper leaving_by behind_arm giving name_in put taking freed behind_one ahead at_hand
set_given = refl

set_in_a_variable : lines_of_sets (bind (give (code_fresh (code_var 0) (num 2))) (give (code_var 2))) ≡
    codes "    let s1: &BTreeSet<i128> = &fresh(s, 2);\n    Ok(s1.clone())\n"
unfolding digits with_let with_variable all_in_variables bound_for inner_behind inner_ahead kept function_of begun results_held called in_place give_back first_side second_side branched tested guarded plain_arm searched_arm with_loop function_name deeper leaving_by behind_arm giving name_in put taking freed behind_one ahead at_hand
set_in_a_variable = refl

-- ---- names
search_names : map search_name (0 ∷ 1 ∷ 2 ∷ 3 ∷ []) ≡ codes "i" ∷ codes "j" ∷ codes "k" ∷ codes "k3" ∷ []
unfolding digits
search_names = refl

function_names : map (function_name 7) ([] ∷ (7 ∷ 3 ∷ 7 ∷ []) ∷ []) ≡ codes "choose_7" ∷ codes "choose_7_3" ∷ []
unfolding digits function_name
function_names = refl

part_names : map (function_name 0) ([] ∷ (0 ∷ []) ∷ []) ≡ codes "part" ∷ codes "part_2" ∷ []
unfolding digits function_name
part_names = refl

pointer_names : pointers_for (record { language = C; results = []; outputs = λ n. [] }) (codes "h" ∷ []) (Int ∷ Int ∷ []) (codes "h" ∷ []) ≡
    codes "out_h" ∷ codes "out" ∷ []
unfolding digits name_in
pointer_names = refl
