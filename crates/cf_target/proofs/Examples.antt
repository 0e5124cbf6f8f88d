-- Worked examples of target texts: each production, and what is refused beside it.
use Rattle.std.proofs.Common.{◌≡◌, ℕ, true, false, List, [], ◌∷◌, map, Ok, Err, refl, codes}
use Rattle.std.specs.Prelude.{pos, negsuc}
use Rattle.cf_lex.specs.declared.token.Token.{Token}
use Rattle.cf_tree.specs.declared.base.Edition.TheVariants.{Two, Three}
use Rattle.cf_tree.specs.declared.base.Base.TheVariants.{Int, Bool as Truth, Set}
use Rattle.cf_tree.specs.declared.base.Order.TheVariants.{Eq, Ne, Lt, Le, Gt, Ge}
use Rattle.cf_tree.specs.CodeTree.{CodeTree, code_lit, code_truth, code_var, code_set_of, code_tuple, code_sum, code_sub, code_mul, code_neg, code_div, code_mod, code_min, code_max, code_compare, code_divides, code_and, code_or, code_not, code_union, code_inter, code_diff, code_subset, code_card, code_slice, code_fresh, code_if, code_let, code_solve, no_codes, let_item, need_item, no_items, arm_of, no_arms, codes_of, items_of, arms_of}
use Rattle.cf_reader.specs.Readers.{at, pure, refuse, must, bind, first, deep, at_end, more_of, others_of, several_of, one_or_tuple}
use Rattle.cf_reader.specs.Kinds.{results_of}
use Rattle.cf_reader.specs.Operations.{op_of}
use Rattle.cf_reader.proofs.Sample.{word, sign, literal}
use Rattle.cf_target.specs.Levels.{last_level, with_digit}
use Rattle.cf_target.specs.Reading.{variables_of, all_variables, vars_of, bounds_of, list_of, elements_of, one_of, divided_of, listed_of, slice_of, fresh_of, if_of, let_of, operated_of, divides_by, behind_of, inside_of, item_of, steps_of, all_steps, gives_of, arm_from, all_arms, solve_of, forms_of, unless_zero, word_of, negative_of, step, read}
use Rattle.cf_target.specs.Spelling.{TargetTree, IsTarget}
use Rattle.cf_target.specs.Targets.{bases_of, main_of, headless_of, part_of, target_of}
use Rattle.cf_target.proofs.Targets.{found_law}

-- codes and their tokens
abbrev spelled : List (CodeTree × List Token)
spelled =
    -- a literal
    (code_lit (pos 7), literal 7 ∷ []) ∷
    -- a negative one
    (code_lit (negsuc 6), sign (codes "-") ∷ literal 7 ∷ []) ∷
    -- truth values
    (code_truth true, word (codes "true") ∷ []) ∷
    (code_truth false, word (codes "false") ∷ []) ∷
    -- variables
    (code_var 0, word (codes "v0") ∷ []) ∷
    (code_var 4294967295, word (codes "v4294967295") ∷ []) ∷
    -- sets
    (code_set_of no_codes, sign (codes "{") ∷ sign (codes "}") ∷ []) ∷
    (code_set_of (codes_of (code_var 1 ∷ code_lit (pos 2) ∷ [])), sign (codes "{") ∷ word (codes "v1") ∷ sign (codes ",") ∷ literal 2 ∷ sign (codes "}") ∷ []) ∷
    -- tuples
    (code_tuple (codes_of (code_var 1 ∷ code_lit (pos 2) ∷ [])), sign (codes "(") ∷ word (codes "v1") ∷ sign (codes ",") ∷ literal 2 ∷ sign (codes ")") ∷ []) ∷ (
      code_tuple (codes_of (code_var 1 ∷ code_lit (pos 2) ∷ code_truth true ∷ [])),
      sign (codes "(") ∷ word (codes "v1") ∷ sign (codes ",") ∷ literal 2 ∷ sign
          (codes ",") ∷ word (codes "true") ∷ sign (codes ")") ∷ [],
    ) ∷
    -- operations of two parts or more
    (
      code_sum (codes_of (code_var 1 ∷ code_lit (pos 2) ∷ code_var 3 ∷ [])),
      sign (codes "(") ∷ word (codes "v1") ∷ sign (codes "+") ∷ literal 2 ∷ sign
          (codes "+") ∷ word (codes "v3") ∷ sign (codes ")") ∷ [],
    ) ∷ (
      code_union (codes_of (code_var 1 ∷ code_var 2 ∷ [])),
      sign (codes "(") ∷ word (codes "v1") ∷ word (codes "union") ∷ word (codes "v2") ∷ sign (codes ")") ∷
          [],
    ) ∷ (
      code_inter (codes_of (code_var 1 ∷ code_var 2 ∷ [])),
      sign (codes "(") ∷ word (codes "v1") ∷ word (codes "inter") ∷ word (codes "v2") ∷ sign (codes ")") ∷
          [],
    ) ∷
    -- operations of two parts
    (code_sub (code_var 1) (code_var 2), sign (codes "(") ∷ word (codes "v1") ∷ sign (codes "-") ∷ word (codes "v2") ∷ sign (codes ")") ∷ []) ∷
    (code_mul (code_var 1) (code_var 2), sign (codes "(") ∷ word (codes "v1") ∷ sign (codes "*") ∷ word (codes "v2") ∷ sign (codes ")") ∷ []) ∷
    (code_diff (code_var 1) (code_var 2), sign (codes "(") ∷ word (codes "v1") ∷ word (codes "diff") ∷ word (codes "v2") ∷ sign (codes ")") ∷ []) ∷
    (code_subset (code_var 1) (code_var 2), sign (codes "(") ∷ word (codes "v1") ∷ word (codes "subset") ∷ word (codes "v2") ∷ sign (codes ")") ∷ []) ∷
    (code_and (code_var 1) (code_var 2), sign (codes "(") ∷ word (codes "v1") ∷ sign (codes "&&") ∷ word (codes "v2") ∷ sign (codes ")") ∷ []) ∷
    (code_or (code_var 1) (code_var 2), sign (codes "(") ∷ word (codes "v1") ∷ sign (codes "||") ∷ word (codes "v2") ∷ sign (codes ")") ∷ []) ∷
    (code_compare Eq (code_var 1) (code_var 2), sign (codes "(") ∷ word (codes "v1") ∷ sign (codes "==") ∷ word (codes "v2") ∷ sign (codes ")") ∷ []) ∷
    (code_compare Ne (code_var 1) (code_var 2), sign (codes "(") ∷ word (codes "v1") ∷ sign (codes "!=") ∷ word (codes "v2") ∷ sign (codes ")") ∷ []) ∷
    (code_compare Lt (code_var 1) (code_var 2), sign (codes "(") ∷ word (codes "v1") ∷ sign (codes "<") ∷ word (codes "v2") ∷ sign (codes ")") ∷ []) ∷
    (code_compare Le (code_var 1) (code_var 2), sign (codes "(") ∷ word (codes "v1") ∷ sign (codes "<=") ∷ word (codes "v2") ∷ sign (codes ")") ∷ []) ∷
    (code_compare Gt (code_var 1) (code_var 2), sign (codes "(") ∷ word (codes "v1") ∷ sign (codes ">") ∷ word (codes "v2") ∷ sign (codes ")") ∷ []) ∷
    (code_compare Ge (code_var 1) (code_var 2), sign (codes "(") ∷ word (codes "v1") ∷ sign (codes ">=") ∷ word (codes "v2") ∷ sign (codes ")") ∷ []) ∷
    (code_divides (pos 3) (code_var 2), sign (codes "(") ∷ literal 3 ∷ word (codes "divides") ∷ word (codes "v2") ∷ sign (codes ")") ∷ []) ∷
    -- forms that begin with a word
    (code_neg (code_var 1), word (codes "neg") ∷ sign (codes "(") ∷ word (codes "v1") ∷ sign (codes ")") ∷ []) ∷
    (code_not (code_var 1), word (codes "not") ∷ sign (codes "(") ∷ word (codes "v1") ∷ sign (codes ")") ∷ []) ∷
    (code_card (code_var 1), word (codes "card") ∷ sign (codes "(") ∷ word (codes "v1") ∷ sign (codes ")") ∷ []) ∷
    (code_div (code_var 1) (pos 2), word (codes "div") ∷ sign (codes "(") ∷ word (codes "v1") ∷ sign (codes ",") ∷ literal 2 ∷ sign (codes ")") ∷ []) ∷
    (code_mod (code_var 1) (pos 2), word (codes "mod") ∷ sign (codes "(") ∷ word (codes "v1") ∷ sign (codes ",") ∷ literal 2 ∷ sign (codes ")") ∷ []) ∷ (
      code_min (codes_of (code_var 1 ∷ code_var 2 ∷ [])),
      word (codes "min") ∷ sign (codes "(") ∷ word (codes "v1") ∷ sign (codes ",") ∷ word (codes "v2") ∷ sign
          (codes ")") ∷ [],
    ) ∷
    (code_max (codes_of (code_var 1 ∷ [])), word (codes "max") ∷ sign (codes "(") ∷ word (codes "v1") ∷ sign (codes ")") ∷ []) ∷ (
      code_slice (code_var 1) (code_var 2) (code_var 3),
      word (codes "slice") ∷ sign (codes "(") ∷ word (codes "v1") ∷ sign (codes ",") ∷ word (codes "v2") ∷
          sign (codes ",") ∷ word (codes "v3") ∷ sign (codes ")") ∷ [],
    ) ∷ (
      code_fresh (code_var 1) (code_var 2),
      word (codes "fresh") ∷ sign (codes "(") ∷ word (codes "v1") ∷ sign (codes ",") ∷ word (codes "v2") ∷ sign (codes ")")
          ∷ [],
    ) ∷
    -- forms with words inside
    (
      code_if (code_var 1) (code_var 2) (code_var 3),
      sign (codes "(") ∷ word (codes "if") ∷ word (codes "v1") ∷ word (codes "then") ∷ word (codes "v2") ∷ word
          (codes "else") ∷ word (codes "v3") ∷ sign (codes ")") ∷ [],
    ) ∷ (
      code_let 4 1 (code_var 2) (code_var 4),
      sign (codes "(") ∷ word (codes "let") ∷ word (codes "v4") ∷ sign (codes "=") ∷ word (codes "v2") ∷ word
          (codes "in") ∷ word (codes "v4") ∷ sign (codes ")") ∷ [],
    ) ∷ (
      code_let 4 3 (code_var 2) (code_var 4),
      sign (codes "(") ∷ word (codes "let") ∷ sign (codes "(") ∷ word (codes "v4") ∷ sign (codes ",") ∷ word (codes "v5")
          ∷ sign (codes ",") ∷ word (codes "v6") ∷ sign (codes ")") ∷ sign (codes "=") ∷ word (codes "v2") ∷ word (codes "in") ∷ word (codes "v4") ∷ sign
          (codes ")") ∷ [],
    ) ∷
    -- solves
    (code_solve 2 no_arms, word (codes "solve") ∷ literal 2 ∷ sign (codes "{") ∷ sign (codes "}") ∷ []) ∷ (
      code_solve 1 (arms_of (arm_of [] no_items (codes_of (code_var 1 ∷ [])) ∷ [])),
      word (codes "solve") ∷ literal 1 ∷ sign (codes "{") ∷ word (codes "arm") ∷
          sign (codes "[") ∷ sign (codes "]") ∷ sign (codes "{") ∷ word (codes "give") ∷ word (codes "v1") ∷ sign (codes "}") ∷ sign (codes "}") ∷ [],
    ) ∷ (
      code_solve 1 (arms_of (arm_of (4 ∷ 5 ∷ []) (items_of (let_item (code_var 0) ∷ need_item (code_var 1) ∷ [])) (codes_of (code_var 2 ∷ code_var 3 ∷ [])) ∷
          [])),
      word (codes "solve") ∷ literal 1 ∷ sign (codes "{") ∷ word (codes "arm") ∷ sign (codes "[") ∷ literal 4 ∷ sign (codes ",") ∷ literal 5 ∷ sign
          (codes "]") ∷ sign (codes "{") ∷ word (codes "let") ∷ word (codes "v0") ∷ sign (codes ";") ∷ word (codes "need") ∷ word (codes "v1") ∷ sign
          (codes ";")
          ∷ word (codes "give") ∷ sign (codes "(") ∷ word (codes "v2") ∷ sign (codes ",") ∷ word (codes "v3") ∷ sign (codes ")") ∷ sign (codes "}") ∷ sign
          (codes "}") ∷ [],
    ) ∷
    []

spelled-read : map (λ x. read 3 x.1) spelled ≡ map (λ x. Ok (x.0, [])) spelled
unfolding at pure refuse must bind first deep at_end more_of others_of several_of one_or_tuple op_of results_of last_level with_digit variables_of all_variables vars_of bounds_of list_of elements_of one_of divided_of listed_of slice_of fresh_of if_of let_of operated_of divides_by behind_of inside_of item_of steps_of all_steps gives_of arm_from all_arms solve_of forms_of unless_zero word_of negative_of step read
spelled-read = refl

-- tokens that spell no code, by how many are left from the fault on
abbrev refused : List (ℕ × List Token)
refused =
    -- no minus before 0
    (1, sign (codes "-") ∷ literal 0 ∷ []) ∷
    -- no leading zeros, no level past the last
    (1, word (codes "v01") ∷ []) ∷
    (1, word (codes "v4294967296") ∷ []) ∷
    -- no tuple and no sum of one
    (1, sign (codes "(") ∷ word (codes "v1") ∷ sign (codes ")") ∷ []) ∷
    -- a difference has two parts
    (3, sign (codes "(") ∷ word (codes "v1") ∷ sign (codes "-") ∷ word (codes "v2") ∷ sign (codes "-") ∷ word (codes "v3") ∷ sign (codes ")") ∷ []) ∷
    -- a divisor is at least 1
    (2, word (codes "div") ∷ sign (codes "(") ∷ word (codes "v1") ∷ sign (codes ",") ∷ literal 0 ∷ sign (codes ")") ∷ []) ∷
    (3, sign (codes "(") ∷ literal 0 ∷ word (codes "divides") ∷ word (codes "v2") ∷ sign (codes ")") ∷ []) ∷
    -- no minimum of none
    (1, word (codes "min") ∷ sign (codes "(") ∷ sign (codes ")") ∷ []) ∷
    -- the variables of a let rise by one
    (
      7,
      sign (codes "(") ∷ word (codes "let") ∷ sign (codes "(") ∷ word (codes "v4") ∷ sign (codes ",") ∷ word (codes "v6") ∷ sign (codes ")") ∷ sign
          (codes "=") ∷ word (codes "v2") ∷ word (codes "in") ∷ word (codes "v4") ∷ sign (codes ")") ∷ [],
    ) ∷ (
      6,
      sign (codes "(") ∷ word (codes "let") ∷ sign (codes "(") ∷ word (codes "v4") ∷ sign (codes ")") ∷ sign (codes "=") ∷ word (codes "v2") ∷ word
          (codes "in") ∷ word (codes "v4") ∷ sign (codes ")") ∷ [],
    ) ∷
    -- numbers of chooses and bounds of searches are not 0
    (3, word (codes "solve") ∷ literal 0 ∷ sign (codes "{") ∷ sign (codes "}") ∷ []) ∷ (
      7,
      word (codes "solve") ∷ literal 1 ∷ sign (codes "{") ∷ word (codes "arm") ∷ sign (codes "[") ∷ literal 0 ∷ sign (codes "]") ∷ sign (codes "{") ∷ word
          (codes "give") ∷ word (codes "v1") ∷ sign (codes "}") ∷ sign (codes "}") ∷ [],
    ) ∷
    -- one give is no tuple, and no arm gives nothing
    (
      3,
      word (codes "solve") ∷ literal 1 ∷ sign (codes "{") ∷ word (codes "arm") ∷ sign (codes "[") ∷ sign (codes "]") ∷ sign (codes "{") ∷ word (codes "give")
          ∷ sign (codes "(") ∷ sign (codes ")") ∷ sign (codes "}") ∷ sign (codes "}") ∷ [],
    ) ∷
    -- a token is missing at the end
    (0, word (codes "neg") ∷ sign (codes "(") ∷ word (codes "v1") ∷ []) ∷
    -- a code past the depth
    (
      6,
      word (codes "neg") ∷ sign (codes "(") ∷ word (codes "neg") ∷ sign (codes "(") ∷ word (codes "neg") ∷ sign (codes "(") ∷ word (codes "v1") ∷ sign
          (codes ")") ∷ sign (codes ")") ∷ sign (codes ")") ∷ [],
    ) ∷ (
      7,
      sign (codes "(") ∷ word (codes "v1") ∷ sign (codes "+") ∷ sign (codes "(") ∷ word (codes "v2") ∷ sign (codes "+") ∷ sign (codes "(") ∷ word (codes "v3")
          ∷ sign (codes "+") ∷ word (codes "v4") ∷ sign (codes ")") ∷ sign (codes ")") ∷ sign (codes ")") ∷ [],
    ) ∷
    []

refused-read : map (λ x. read 3 x.1) refused ≡ map (λ x. Err x.0) refused
unfolding at pure refuse must bind first deep at_end more_of others_of several_of one_or_tuple op_of results_of last_level with_digit variables_of all_variables vars_of bounds_of list_of elements_of one_of divided_of listed_of slice_of fresh_of if_of let_of operated_of divides_by behind_of inside_of item_of steps_of all_steps gives_of arm_from all_arms solve_of forms_of unless_zero word_of negative_of step read
refused-read = refl

-- a whole target, with its header and without
abbrev last_of_two : TargetTree
last_of_two = record { params = Int ∷ Set ∷ []; results = Truth ∷ Int ∷ []; code = code_tuple (codes_of (code_truth true ∷ code_var 0 ∷ [])) }

with-header : IsTarget Two last_of_two (word (codes "comfusy") ∷ literal 2 ∷ word (codes "main") ∷ sign (codes "(") ∷ word (codes "int") ∷
    sign (codes ",") ∷ word
    (codes "set") ∷ sign (codes ")") ∷ sign (codes ":") ∷ sign (codes "(") ∷ word (codes "bool") ∷ sign (codes ",") ∷ word (codes "int") ∷ sign (codes ")") ∷
    sign (codes "=") ∷ sign (codes "(") ∷ word (codes "true") ∷ sign (codes ",") ∷ word (codes "v0") ∷ sign (codes ")") ∷ [])
unfolding bases_of main_of headless_of part_of target_of at pure refuse must bind first deep at_end more_of others_of several_of one_or_tuple op_of results_of last_level with_digit variables_of all_variables vars_of bounds_of list_of elements_of one_of divided_of listed_of slice_of fresh_of if_of let_of operated_of divides_by behind_of inside_of item_of steps_of all_steps gives_of arm_from all_arms solve_of forms_of unless_zero word_of negative_of step read
with-header = found_law Two _ last_of_two [] refl

without-header : IsTarget Two (record { params = []; results = Int ∷ []; code = code_lit (pos 1) })
    (word (codes "main") ∷ sign (codes "(") ∷ sign (codes ")") ∷ sign (codes ":") ∷ word (codes "int") ∷ sign (codes "=") ∷ literal 1 ∷ [])
unfolding bases_of main_of headless_of part_of target_of at pure refuse must bind first deep at_end more_of others_of several_of one_or_tuple op_of results_of last_level with_digit variables_of all_variables vars_of bounds_of list_of elements_of one_of divided_of listed_of slice_of fresh_of if_of let_of operated_of divides_by behind_of inside_of item_of steps_of all_steps gives_of arm_from all_arms solve_of forms_of unless_zero word_of negative_of step read
without-header = found_law Two _ _ [] refl

-- the tokens of main (): int = 1
abbrev main_of_one : List Token
main_of_one = word (codes "main") ∷ sign (codes "(") ∷ sign (codes ")") ∷ sign (codes ":") ∷ word (codes "int") ∷ sign (codes "=") ∷ literal 1 ∷ []

abbrev one : TargetTree
one = record { params = []; results = Int ∷ []; code = code_lit (pos 1) }

-- each edition has its number in the header, and edition 3 needs it
headers : map (λ ts. target_of Three 500 ts) ((word (codes "comfusy") ∷ literal 3 ∷ main_of_one) ∷ (word (codes "comfusy") ∷ literal 2 ∷ main_of_one) ∷
    main_of_one ∷ []) ≡ Ok (one, []) ∷ Err 8 ∷ Err 7 ∷ []
unfolding bases_of main_of headless_of part_of target_of at pure refuse must bind first deep at_end more_of others_of several_of one_or_tuple op_of results_of last_level with_digit variables_of all_variables vars_of bounds_of list_of elements_of one_of divided_of listed_of slice_of fresh_of if_of let_of operated_of divides_by behind_of inside_of item_of steps_of all_steps gives_of arm_from all_arms solve_of forms_of unless_zero word_of negative_of step read
headers = refl

header-of-three : IsTarget Three one (word (codes "comfusy") ∷ literal 3 ∷ main_of_one)
unfolding bases_of main_of headless_of part_of target_of at pure refuse must bind first deep at_end more_of others_of several_of one_or_tuple op_of results_of last_level with_digit variables_of all_variables vars_of bounds_of list_of elements_of one_of divided_of listed_of slice_of fresh_of if_of let_of operated_of divides_by behind_of inside_of item_of steps_of all_steps gives_of arm_from all_arms solve_of forms_of unless_zero word_of negative_of step read
header-of-three = found_law Three _ one [] refl

headers-of-two : map (λ ts. target_of Two 500 ts) ((word (codes "comfusy") ∷ literal 3 ∷ main_of_one) ∷ (word (codes "comfusy") ∷ literal 2 ∷ main_of_one) ∷
    main_of_one ∷ []) ≡ Err 8 ∷ Ok (one, []) ∷ Ok (one, []) ∷ []
unfolding bases_of main_of headless_of part_of target_of at pure refuse must bind first deep at_end more_of others_of several_of one_or_tuple op_of results_of last_level with_digit variables_of all_variables vars_of bounds_of list_of elements_of one_of divided_of listed_of slice_of fresh_of if_of let_of operated_of divides_by behind_of inside_of item_of steps_of all_steps gives_of arm_from all_arms solve_of forms_of unless_zero word_of negative_of step read
headers-of-two = refl
