-- Worked examples of what is told of a broken rule: the words behind its place, and the help.
--
-- The sources are those of the examples of the rules, and stand there.
use Rattle.std.specs.Prelude.{◌≡◌, [], ◌∷◌, codes, Some, None, refl}
use Rattle.std.specs.Fmt.{digits}
use Rattle.cf_program.specs.declared.fault.TypeFault.TheVariants.{UnknownName, DuplicateName, WrongCount, Mismatch, NotConstant, ConstantBelow, ConstantPast, CallsLater, NoMain, NotLinear, Weight, Depth, NoMemory}
use Rattle.cf_program.specs.declared.linearity.Linearity.TheVariants.{Plain, Late}
use Rattle.cf_program.proofs.RuleExamples.{on}
use Rattle.cf_program.proofs.EditionExamples as rules
use Rattle.cf_help.specs.Faults.{words, rule_words, not_one, not_numbers, call_text, bend_in, bend_words, seen_before, seen_behind, seen_of_item}

word_not_told : rule_words Plain rules.word_not (UnknownName (on 2 47)) ≡ words (codes "unknown name: 'not'" ∷ []) (Some (codes "not is !"))
unfolding seen_of_item seen_before seen_behind
word_not_told = refl

unknown_name_near_told :
    rule_words Plain rules.unknown_name_near (UnknownName (on 2 29)) ≡ words (codes "unknown name: 'hour'" ∷ []) (Some (codes "did you mean 'hours'?"))
unfolding seen_of_item seen_before seen_behind
unknown_name_near_told = refl

unknown_name_with_one_byte_more_told :
    rule_words Plain rules.unknown_name_with_one_byte_more (UnknownName (on 2 28)) ≡ words (codes "unknown name: 'hourr'" ∷ []) (Some (codes
    "did you mean 'hour'?"))
unfolding seen_of_item seen_before seen_behind
unknown_name_with_one_byte_more_told = refl

unknown_name_with_another_byte_told :
    rule_words Plain rules.unknown_name_with_another_byte (UnknownName (on 3 25)) ≡ words (codes "unknown name: 'LIMAT'" ∷ []) (Some (codes
    "did you mean 'LIMIT'?"))
unfolding seen_of_item seen_before seen_behind
unknown_name_with_another_byte_told = refl

unknown_name_innermost_first_told :
    rule_words Plain rules.unknown_name_innermost_first (UnknownName (on 2 41)) ≡ words (codes "unknown name: 'ad'" ∷ []) (Some (codes "did you mean 'ac'?"))
unfolding seen_of_item seen_before seen_behind
unknown_name_innermost_first_told = refl

unknown_name_of_one_byte_told : rule_words Plain rules.unknown_name_of_one_byte (UnknownName (on 2 25)) ≡ words (codes "unknown name: 'b'" ∷ []) None
unfolding seen_of_item seen_before seen_behind
unknown_name_of_one_byte_told = refl

unknown_name_far_told : rule_words Plain rules.unknown_name_far (UnknownName (on 2 29)) ≡ words (codes "unknown name: 'minutes'" ∷ []) None
unfolding seen_of_item seen_before seen_behind
unknown_name_far_told = refl

unknown_function_near_told :
    rule_words Plain rules.unknown_function_near (UnknownName (on 3 25)) ≡ words (codes "unknown name: 'evem'" ∷ []) (Some (codes "did you mean 'even'?"))
unfolding seen_of_item seen_before seen_behind
unknown_function_near_told = refl

unknown_operation_near_told :
    rule_words Plain rules.unknown_operation_near (UnknownName (on 2 25)) ≡ words (codes "unknown name: 'maxx'" ∷ []) (Some (codes "did you mean 'max'?"))
unfolding seen_of_item seen_before seen_behind
unknown_operation_near_told = refl

output_in_given_told :
    rule_words Plain rules.output_in_given (UnknownName (on 2 48)) ≡ words (codes "unknown name: 'xy'" ∷ []) (Some (codes
    "given speaks of the scope and not of the outputs"))
unfolding seen_of_item seen_before seen_behind
output_in_given_told = refl

constant_used_before_told : rule_words Plain rules.constant_used_before (UnknownName (on 2 25)) ≡ words (codes "unknown name: 'KK'" ∷ []) None
unfolding seen_of_item seen_before seen_behind
constant_used_before_told = refl

duplicate_constant_told :
    rule_words Plain rules.duplicate_constant (DuplicateName (on 3 7)) ≡ words (codes "duplicate name: 'K'" ∷ []) (Some (codes "'K' is a constant"))
unfolding seen_of_item seen_before seen_behind
duplicate_constant_told = refl

parameter_named_as_a_constant_told :
    rule_words Plain rules.parameter_named_as_a_constant (DuplicateName (on 3 10)) ≡ words (codes "duplicate name: 'a'" ∷ []) (Some (codes
    "'a' is a constant"))
unfolding seen_of_item seen_before seen_behind
parameter_named_as_a_constant_told = refl

let_named_as_a_constant_told :
    rule_words Plain rules.let_named_as_a_constant (DuplicateName (on 3 29)) ≡ words (codes "duplicate name: 'K'" ∷ []) (Some (codes "'K' is a constant"))
unfolding seen_of_item seen_before seen_behind
let_named_as_a_constant_told = refl

output_named_as_a_constant_told :
    rule_words Plain rules.output_named_as_a_constant (DuplicateName (on 3 33)) ≡ words (codes "duplicate name: 'x'" ∷ []) (Some (codes "'x' is a constant"))
unfolding seen_of_item seen_before seen_behind
output_named_as_a_constant_told = refl

hidden_output_named_as_an_output_told :
    rule_words Plain rules.hidden_output_named_as_an_output (DuplicateName (on 2 41)) ≡ words (codes "duplicate name: 'x'" ∷ []) None
unfolding seen_of_item seen_before seen_behind
hidden_output_named_as_an_output_told = refl

pattern_variable_named_as_a_constant_told :
    rule_words Plain rules.pattern_variable_named_as_a_constant (DuplicateName (on 3 44)) ≡ words (codes "duplicate name: 'K'" ∷ []) (Some (codes
    "'K' is a constant"))
unfolding seen_of_item seen_before seen_behind
pattern_variable_named_as_a_constant_told = refl

duplicate_parameter_told : rule_words Plain rules.duplicate_parameter (DuplicateName (on 2 18)) ≡ words (codes "duplicate name: 'a'" ∷ []) None
unfolding seen_of_item seen_before seen_behind
duplicate_parameter_told = refl

duplicate_function_told : rule_words Plain rules.duplicate_function (DuplicateName (on 3 1)) ≡ words (codes "duplicate name: 'f'" ∷ []) None
unfolding seen_of_item seen_before seen_behind
duplicate_function_told = refl

const_of_a_truth_value_told :
    rule_words Plain rules.const_of_a_truth_value (Mismatch (on 2 11)) ≡ words (codes "type mismatch: asked int, found bool" ∷ []) None
unfolding seen_of_item seen_before seen_behind not_one not_numbers
const_of_a_truth_value_told = refl

const_with_a_comparison_told :
    rule_words Plain rules.const_with_a_comparison (NotConstant (on 2 16)) ≡ words (codes "not constant" ∷ []) (Some (codes
    "a constant is made of literals, constants, + - *, div, mod, abs, min and max"))
unfolding seen_of_item seen_before seen_behind
const_with_a_comparison_told = refl

const_with_a_call_told :
    rule_words Plain rules.const_with_a_call (NotConstant (on 3 11)) ≡ words (codes "not constant" ∷ []) (Some (codes
    "a constant is made of literals, constants, + - *, div, mod, abs, min and max"))
unfolding seen_of_item seen_before seen_behind
const_with_a_call_told = refl

const_with_an_unknown_name_told : rule_words Plain rules.const_with_an_unknown_name (UnknownName (on 2 11)) ≡ words (codes "unknown name: 'a'" ∷ []) None
unfolding seen_of_item seen_before seen_behind
const_with_an_unknown_name_told = refl

const_past_the_limit_told : rule_words Plain rules.const_past_the_limit (ConstantPast (on 3 18)) ≡ words (codes "constant past limit" ∷ []) None
unfolding seen_of_item seen_before seen_behind
const_past_the_limit_told = refl

const_past_the_limit_below_told : rule_words Plain rules.const_past_the_limit_below (ConstantPast (on 2 52)) ≡ words (codes "constant past limit" ∷ []) None
unfolding seen_of_item seen_before seen_behind
const_past_the_limit_below_told = refl

constant_below_1_divides_told :
    rule_words Plain rules.constant_below_1_divides (ConstantBelow (on 3 47)) ≡ words (codes "constant below 1: 'Z' is 0" ∷ []) None
unfolding digits seen_of_item seen_before seen_behind
constant_below_1_divides_told = refl

constant_below_1_in_mod_told :
    rule_words Plain rules.constant_below_1_in_mod (ConstantBelow (on 3 32)) ≡ words (codes "constant below 1: 'N' is -2" ∷ []) None
unfolding digits seen_of_item seen_before seen_behind
constant_below_1_in_mod_told = refl

divides_by_a_variable_told :
    rule_words Plain rules.divides_by_a_variable (NotConstant (on 2 55)) ≡ words (codes "not constant: 'k'" ∷ []) (Some (codes
    "here stands a literal or a constant"))
unfolding seen_of_item seen_before seen_behind
divides_by_a_variable_told = refl

div_by_an_unknown_name_told :
    rule_words Plain rules.div_by_an_unknown_name (UnknownName (on 3 32)) ≡ words (codes "unknown name: 'STE'" ∷ []) (Some (codes "did you mean 'STEP'?"))
unfolding seen_of_item seen_before seen_behind
div_by_an_unknown_name_told = refl

pattern_with_a_variable_as_factor_told :
    rule_words Plain rules.pattern_with_a_variable_as_factor (NotConstant (on 2 40)) ≡ words (codes "not constant: 'a'" ∷ []) (Some (codes
    "here stands a literal or a constant"))
unfolding seen_of_item seen_before seen_behind
pattern_with_a_variable_as_factor_told = refl

pattern_constant_past_the_limit_told :
    rule_words Plain rules.pattern_constant_past_the_limit (ConstantPast (on 3 40)) ≡ words (codes "constant past limit" ∷ []) None
unfolding seen_of_item seen_before seen_behind
pattern_constant_past_the_limit_told = refl

chain_of_truth_values_told :
    rule_words Plain rules.chain_of_truth_values (Mismatch (on 2 29)) ≡ words (codes "type mismatch: asked int, found bool" ∷ []) None
unfolding seen_of_item seen_before seen_behind not_one not_numbers
chain_of_truth_values_told = refl

chain_of_sets_told : rule_words Plain rules.chain_of_sets (Mismatch (on 2 28)) ≡ words (codes "type mismatch: asked int, found set" ∷ []) None
unfolding seen_of_item seen_before seen_behind not_one not_numbers
chain_of_sets_told = refl

chain_with_one_set_told : rule_words Plain rules.chain_with_one_set (Mismatch (on 2 41)) ≡ words (codes "type mismatch: asked int, found set" ∷ []) None
unfolding seen_of_item seen_before seen_behind not_one not_numbers
chain_with_one_set_told = refl

min_of_a_set_told : rule_words Plain rules.min_of_a_set (Mismatch (on 2 25)) ≡ words (codes "type mismatch: asked int, found set" ∷ []) None
unfolding seen_of_item seen_before seen_behind not_one not_numbers
min_of_a_set_told = refl

implication_of_numbers_told :
    rule_words Plain rules.implication_of_numbers (Mismatch (on 2 30)) ≡ words (codes "type mismatch: asked bool, found int" ∷ []) None
unfolding seen_of_item seen_before seen_behind not_one not_numbers
implication_of_numbers_told = refl

given_is_a_number_told : rule_words Plain rules.given_is_a_number (Mismatch (on 2 41)) ≡ words (codes "type mismatch: asked bool, found int" ∷ []) None
unfolding seen_of_item seen_before seen_behind not_one not_numbers
given_is_a_number_told = refl

relation_is_a_number_told : rule_words Plain rules.relation_is_a_number (Mismatch (on 2 25)) ≡ words (codes "type mismatch: asked bool, found int" ∷ []) None
unfolding seen_of_item seen_before seen_behind not_one not_numbers
relation_is_a_number_told = refl

minimise_a_truth_value_told :
    rule_words Plain rules.minimise_a_truth_value (Mismatch (on 2 53)) ≡ words (codes "type mismatch: asked numbers, found bool" ∷ []) None
unfolding seen_of_item seen_before seen_behind not_one not_numbers
minimise_a_truth_value_told = refl

minimise_a_set_told : rule_words Plain rules.minimise_a_set (Mismatch (on 2 58)) ≡ words (codes "type mismatch: asked numbers, found set" ∷ []) None
unfolding seen_of_item seen_before seen_behind not_one not_numbers
minimise_a_set_told = refl

minimise_a_tuple_with_a_truth_value_told :
    rule_words Plain rules.minimise_a_tuple_with_a_truth_value (Mismatch (on 2 53)) ≡ words (codes "type mismatch: asked numbers, found (int, bool)" ∷ [])
    None
unfolding seen_of_item seen_before seen_behind not_one not_numbers
minimise_a_tuple_with_a_truth_value_told = refl

body_of_another_type_told : rule_words Plain rules.body_of_another_type (Mismatch (on 2 26)) ≡ words (codes "type mismatch: asked bool, found int" ∷ []) None
unfolding seen_of_item seen_before seen_behind not_one not_numbers
body_of_another_type_told = refl

tuple_body_for_one_result_told :
    rule_words Plain rules.tuple_body_for_one_result (Mismatch (on 2 25)) ≡ words (codes "type mismatch: asked int, found (int, int)" ∷ []) None
unfolding seen_of_item seen_before seen_behind not_one not_numbers
tuple_body_for_one_result_told = refl

truth_output_for_a_number_told :
    rule_words Plain rules.truth_output_for_a_number (Mismatch (on 2 25)) ≡ words (codes "type mismatch: asked int, found bool" ∷ []) None
unfolding seen_of_item seen_before seen_behind not_one not_numbers
truth_output_for_a_number_told = refl

branches_of_two_types_told :
    rule_words Plain rules.branches_of_two_types (Mismatch (on 2 25)) ≡ words (codes "type mismatch: branches int and bool" ∷ []) None
unfolding seen_of_item seen_before seen_behind not_one not_numbers
branches_of_two_types_told = refl

arms_of_two_types_told : rule_words Plain rules.arms_of_two_types (Mismatch (on 2 25)) ≡ words (codes "type mismatch: arms int and bool" ∷ []) None
unfolding seen_of_item seen_before seen_behind not_one not_numbers
arms_of_two_types_told = refl

sides_of_two_types_told : rule_words Plain rules.sides_of_two_types (Mismatch (on 2 36)) ≡ words (codes "type mismatch: sides int and set" ∷ []) None
unfolding seen_of_item seen_before seen_behind not_one not_numbers
sides_of_two_types_told = refl

tuple_as_an_argument_told :
    rule_words Plain rules.tuple_as_an_argument (Mismatch (on 3 25)) ≡ words (codes "type mismatch: asked int, found (int, int)" ∷ []) None
unfolding seen_of_item seen_before seen_behind not_one not_numbers
tuple_as_an_argument_told = refl

call_with_a_wrong_count_told :
    rule_words Plain rules.call_with_a_wrong_count (WrongCount (on 3 28)) ≡ words (codes "wrong count: 'even' takes 1, given 2" ∷ []) None
unfolding digits seen_of_item seen_before seen_behind
call_with_a_wrong_count_told = refl

let_with_a_wrong_count_told : rule_words Plain rules.let_with_a_wrong_count (WrongCount (on 2 25)) ≡ words (codes "wrong count: names 2, values 1" ∷ []) None
unfolding digits seen_of_item seen_before seen_behind
let_with_a_wrong_count_told = refl

calls_later_function_told :
    rule_words Plain rules.calls_later_function (CallsLater (on 2 25)) ≡ words (codes "calls later function: 'g'" ∷ []) (Some (codes
    "a function calls only functions that stand before it"))
unfolding seen_of_item seen_before seen_behind
calls_later_function_told = refl

calls_itself_told :
    rule_words Plain rules.calls_itself (CallsLater (on 2 22)) ≡ words (codes "calls later function: 'f'" ∷ []) (Some (codes
    "a function calls only functions that stand before it"))
unfolding seen_of_item seen_before seen_behind
calls_itself_told = refl

no_main_told : rule_words Plain rules.no_main NoMain ≡ words (codes "no main" ∷ []) None
unfolding seen_of_item seen_before seen_behind
no_main_told = refl

product_of_outputs_told : rule_words Plain rules.product_of_outputs (NotLinear (on 2 64)) ≡ words (codes "not linear: a product of two unknowns" ∷ []) None
unfolding seen_of_item seen_before seen_behind bend_in bend_words call_text
product_of_outputs_told = refl

square_in_a_relation_told :
    rule_words Plain rules.square_in_a_relation (NotLinear (on 2 49)) ≡ words (codes "not linear: a product of two unknowns" ∷ []) None
unfolding seen_of_item seen_before seen_behind bend_in bend_words call_text
square_in_a_relation_told = refl

product_with_an_input_told :
    rule_words Plain rules.product_with_an_input (NotLinear (on 2 57)) ≡ words (codes "not linear: a product with inputs" ∷ []) (Some (codes
    "comfusy run takes a product with inputs"))
unfolding seen_of_item seen_before seen_behind bend_in bend_words call_text
product_with_an_input_told = refl

product_of_inputs_told :
    rule_words Plain rules.product_of_inputs (NotLinear (on 2 62)) ≡ words (codes "not linear: a product with inputs" ∷ []) (Some (codes
    "comfusy run takes a product with inputs"))
unfolding seen_of_item seen_before seen_behind bend_in bend_words call_text
product_of_inputs_told = refl

product_of_two_unknowns_for_run_told :
    rule_words Late rules.product_of_two_unknowns_for_run (NotLinear (on 2 71)) ≡ words (codes "not linear: a product of two unknowns" ∷ []) None
unfolding seen_of_item seen_before seen_behind bend_in bend_words call_text
product_of_two_unknowns_for_run_told = refl

card_times_an_input_told :
    rule_words Plain rules.card_times_an_input (NotLinear (on 2 57)) ≡ words (codes "not linear: a product with inputs" ∷ []) (Some (codes
    "comfusy run takes a product with inputs"))
unfolding seen_of_item seen_before seen_behind bend_in bend_words call_text
card_times_an_input_told = refl

product_of_two_unknowns_by_let_told :
    rule_words Plain rules.product_of_two_unknowns_by_let (NotLinear (on 2 66)) ≡ words (codes "not linear: a product of two unknowns" ∷ []) None
unfolding seen_of_item seen_before seen_behind bend_in bend_words call_text
product_of_two_unknowns_by_let_told = refl

product_of_two_unknowns_in_a_call_told :
    rule_words Plain rules.product_of_two_unknowns_in_a_call (NotLinear (on 3 47)) ≡ words (codes
    "not linear: a call of 'square', which holds a product of two unknowns" ∷ []) None
unfolding seen_of_item seen_before seen_behind bend_in bend_words call_text
product_of_two_unknowns_in_a_call_told = refl

product_in_a_call_of_a_call_told :
    rule_words Plain rules.product_in_a_call_of_a_call (NotLinear (on 4 47)) ≡ words (codes
    "not linear: a call of 'square', which holds a call of 'times', which holds a product of two unknowns" ∷ []) None
unfolding seen_of_item seen_before seen_behind bend_in bend_words call_text
product_in_a_call_of_a_call_told = refl

product_with_inputs_in_a_call_told :
    rule_words Plain rules.product_with_inputs_in_a_call (NotLinear (on 3 55)) ≡ words (codes
    "not linear: a call of 'times', which holds a product with inputs" ∷ []) None
unfolding seen_of_item seen_before seen_behind bend_in bend_words call_text
product_with_inputs_in_a_call_told = refl

call_that_holds_a_choose_told :
    rule_words Plain rules.call_that_holds_a_choose (NotLinear (on 3 52)) ≡ words (codes "not linear: a call of 'half', which holds a choose" ∷ []) (Some
    (codes "bind it by let before the choose"))
unfolding seen_of_item seen_before seen_behind bend_in bend_words call_text
call_that_holds_a_choose_told = refl

call_of_a_call_that_holds_a_choose_told :
    rule_words Plain rules.call_of_a_call_that_holds_a_choose (NotLinear (on 4 52)) ≡ words (codes
    "not linear: a call of 'f', which holds a call of 'half', which holds a choose" ∷ []) (Some (codes "bind it by let before the choose"))
unfolding seen_of_item seen_before seen_behind bend_in bend_words call_text
call_of_a_call_that_holds_a_choose_told = refl

call_that_holds_a_match_told :
    rule_words Plain rules.call_that_holds_a_match (NotLinear (on 3 52)) ≡ words (codes "not linear: a call of 'odd', which holds a match" ∷ []) (Some (codes
    "bind it by let before the choose"))
unfolding seen_of_item seen_before seen_behind bend_in bend_words call_text
call_that_holds_a_match_told = refl

choose_in_a_relation_told :
    rule_words Plain rules.choose_in_a_relation (NotLinear (on 2 53)) ≡ words (codes "not linear: a choose" ∷ []) (Some (codes
    "bind it by let before the choose"))
unfolding seen_of_item seen_before seen_behind bend_in bend_words call_text
choose_in_a_relation_told = refl

match_in_a_relation_told :
    rule_words Plain rules.match_in_a_relation (NotLinear (on 2 53)) ≡ words (codes "not linear: a match" ∷ []) (Some (codes
    "bind it by let before the choose"))
unfolding seen_of_item seen_before seen_behind bend_in bend_words call_text
match_in_a_relation_told = refl

set_literal_in_a_relation_told :
    rule_words Plain rules.set_literal_in_a_relation (NotLinear (on 2 61)) ≡ words (codes "not linear: a set literal" ∷ []) (Some (codes
    "only {} may stand in a relation"))
unfolding seen_of_item seen_before seen_behind bend_in bend_words call_text
set_literal_in_a_relation_told = refl

set_literal_in_a_call_told :
    rule_words Plain rules.set_literal_in_a_call (NotLinear (on 3 56)) ≡ words (codes "not linear: a call of 'one', which holds a set literal" ∷ []) None
unfolding seen_of_item seen_before seen_behind bend_in bend_words call_text
set_literal_in_a_call_told = refl

product_of_two_unknowns_in_given_told :
    rule_words Plain rules.product_of_two_unknowns_in_given (NotLinear (on 2 57)) ≡ words (codes "not linear: a product with inputs" ∷ []) None
unfolding seen_of_item seen_before seen_behind bend_in bend_words call_text
product_of_two_unknowns_in_given_told = refl

choose_in_given_told :
    rule_words Plain rules.choose_in_given (NotLinear (on 2 53)) ≡ words (codes "not linear: a choose" ∷ []) (Some (codes
    "bind it by let before the choose"))
unfolding seen_of_item seen_before seen_behind bend_in bend_words call_text
choose_in_given_told = refl

product_in_minimise_told : rule_words Plain rules.product_in_minimise (NotLinear (on 2 65)) ≡ words (codes "not linear: a product of two unknowns" ∷ []) None
unfolding seen_of_item seen_before seen_behind bend_in bend_words call_text
product_in_minimise_told = refl

test_of_if_as_a_factor_told :
    rule_words Plain rules.test_of_if_as_a_factor (NotLinear (on 2 72)) ≡ words (codes "not linear: a product of two unknowns" ∷ []) None
unfolding seen_of_item seen_before seen_behind bend_in bend_words call_text
test_of_if_as_a_factor_told = refl

linear_before_an_unknown_name_told :
    rule_words Plain rules.linear_before_an_unknown_name (UnknownName (on 2 61)) ≡ words (codes "unknown name: 'zz'" ∷ []) None
unfolding seen_of_item seen_before seen_behind
linear_before_an_unknown_name_told = refl

type_before_linear_told : rule_words Plain rules.type_before_linear (Mismatch (on 2 53)) ≡ words (codes "type mismatch: sides int and bool" ∷ []) None
unfolding seen_of_item seen_before seen_behind not_one not_numbers
type_before_linear_told = refl

minimise_a_sum_with_a_truth_value_told :
    rule_words Plain rules.minimise_a_sum_with_a_truth_value (Mismatch (on 2 64)) ≡ words (codes "type mismatch: asked int, found bool" ∷ []) None
unfolding seen_of_item seen_before seen_behind not_one not_numbers
minimise_a_sum_with_a_truth_value_told = refl

product_with_inputs_in_given_for_run_told :
    rule_words Late rules.product_with_inputs_in_given_for_run (NotLinear (on 2 57)) ≡ words (codes "not linear: a product with inputs" ∷ []) None
unfolding seen_of_item seen_before seen_behind bend_in bend_words call_text
product_with_inputs_in_given_for_run_told = refl

header_3_with_zeros_and_a_comment_before_told :
    rule_words Plain rules.header_3_with_zeros_and_a_comment_before (UnknownName (on 2 37)) ≡ words (codes "unknown name: 'b'" ∷ []) None
unfolding seen_of_item seen_before seen_behind
header_3_with_zeros_and_a_comment_before_told = refl

a_given_is_never_late_told : rule_words Late rules.a_given_is_never_late (NotLinear (on 2 57)) ≡ words (codes "not linear: a product with inputs" ∷ []) None
unfolding seen_of_item seen_before seen_behind bend_in bend_words call_text
a_given_is_never_late_told = refl

an_aim_is_linear_too_told :
    rule_words Plain rules.an_aim_is_linear_too (NotLinear (on 2 73)) ≡ words (codes "not linear: a product with inputs" ∷ []) (Some (codes
    "comfusy run takes a product with inputs"))
unfolding seen_of_item seen_before seen_behind bend_in bend_words call_text
an_aim_is_linear_too_told = refl

the_divisor_before_the_type_told : rule_words Plain rules.the_divisor_before_the_type (UnknownName (on 2 32)) ≡ words (codes "unknown name: 'k'" ∷ []) None
unfolding seen_of_item seen_before seen_behind
the_divisor_before_the_type_told = refl

the_part_before_the_divisor_told : rule_words Plain rules.the_part_before_the_divisor (UnknownName (on 2 29)) ≡ words (codes "unknown name: 't'" ∷ []) None
unfolding seen_of_item seen_before seen_behind
the_part_before_the_divisor_told = refl

the_divisor_before_the_part_told : rule_words Plain rules.the_divisor_before_the_part (UnknownName (on 2 26)) ≡ words (codes "unknown name: 'k'" ∷ []) None
unfolding seen_of_item seen_before seen_behind
the_divisor_before_the_part_told = refl

the_factor_before_the_names_told : rule_words Plain rules.the_factor_before_the_names (UnknownName (on 2 40)) ≡ words (codes "unknown name: 'k'" ∷ []) None
unfolding seen_of_item seen_before seen_behind
the_factor_before_the_names_told = refl

the_names_before_the_sum_told : rule_words Plain rules.the_names_before_the_sum (DuplicateName (on 3 52)) ≡ words (codes "duplicate name: 'i'" ∷ []) None
unfolding seen_of_item seen_before seen_behind
the_names_before_the_sum_told = refl

the_sum_before_the_body_told : rule_words Plain rules.the_sum_before_the_body (ConstantPast (on 3 40)) ≡ words (codes "constant past limit" ∷ []) None
unfolding seen_of_item seen_before seen_behind
the_sum_before_the_body_told = refl

the_body_before_the_matched_type_told :
    rule_words Plain rules.the_body_before_the_matched_type (UnknownName (on 2 47)) ≡ words (codes "unknown name: 'b'" ∷ []) None
unfolding seen_of_item seen_before seen_behind
the_body_before_the_matched_type_told = refl

the_outputs_before_given_told : rule_words Plain rules.the_outputs_before_given (DuplicateName (on 2 41)) ≡ words (codes "duplicate name: 'x'" ∷ []) None
unfolding seen_of_item seen_before seen_behind
the_outputs_before_given_told = refl

given_before_the_relation_told :
    rule_words Plain rules.given_before_the_relation (Mismatch (on 2 41)) ≡ words (codes "type mismatch: asked bool, found int" ∷ []) None
unfolding seen_of_item seen_before seen_behind not_one not_numbers
given_before_the_relation_told = refl

the_bend_of_given_before_the_relation_told :
    rule_words Plain rules.the_bend_of_given_before_the_relation (NotLinear (on 2 49)) ≡ words (codes "not linear: a product with inputs" ∷ []) None
unfolding seen_of_item seen_before seen_behind bend_in bend_words call_text
the_bend_of_given_before_the_relation_told = refl

the_relation_before_the_aim_told :
    rule_words Plain rules.the_relation_before_the_aim (Mismatch (on 2 25)) ≡ words (codes "type mismatch: asked bool, found int" ∷ []) None
unfolding seen_of_item seen_before seen_behind not_one not_numbers
the_relation_before_the_aim_told = refl

the_bend_of_the_relation_before_the_aim_told :
    rule_words Plain rules.the_bend_of_the_relation_before_the_aim (NotLinear (on 2 49)) ≡ words (codes "not linear: a product of two unknowns" ∷ []) None
unfolding seen_of_item seen_before seen_behind bend_in bend_words call_text
the_bend_of_the_relation_before_the_aim_told = refl

a_constant_value_is_typed_before_it_is_folded_told :
    rule_words Plain rules.a_constant_value_is_typed_before_it_is_folded (Mismatch (on 2 19)) ≡ words (codes "type mismatch: asked int, found bool" ∷ [])
    None
unfolding seen_of_item seen_before seen_behind not_one not_numbers
a_constant_value_is_typed_before_it_is_folded_told = refl

not_constant_comes_parts_first_told :
    rule_words Plain rules.not_constant_comes_parts_first (CallsLater (on 2 20)) ≡ words (codes "calls later function: 'f'" ∷ []) (Some (codes
    "a function calls only functions that stand before it"))
unfolding seen_of_item seen_before seen_behind
not_constant_comes_parts_first_told = refl

a_set_is_not_constant_told :
    rule_words Plain rules.a_set_is_not_constant (NotConstant (on 2 16)) ≡ words (codes "not constant" ∷ []) (Some (codes
    "a constant is made of literals, constants, + - *, div, mod, abs, min and max"))
unfolding seen_of_item seen_before seen_behind
a_set_is_not_constant_told = refl

a_let_is_not_constant_told :
    rule_words Plain rules.a_let_is_not_constant (NotConstant (on 2 11)) ≡ words (codes "not constant" ∷ []) (Some (codes
    "a constant is made of literals, constants, + - *, div, mod, abs, min and max"))
unfolding seen_of_item seen_before seen_behind
a_let_is_not_constant_told = refl

a_variable_of_a_let_is_not_constant_told :
    rule_words Plain rules.a_variable_of_a_let_is_not_constant (NotConstant (on 2 24)) ≡ words (codes "not constant" ∷ []) (Some (codes
    "a constant is made of literals, constants, + - *, div, mod, abs, min and max"))
unfolding seen_of_item seen_before seen_behind
a_variable_of_a_let_is_not_constant_told = refl

a_choose_is_not_constant_told :
    rule_words Plain rules.a_choose_is_not_constant (NotConstant (on 2 33)) ≡ words (codes "not constant" ∷ []) (Some (codes
    "a constant is made of literals, constants, + - *, div, mod, abs, min and max"))
unfolding seen_of_item seen_before seen_behind
a_choose_is_not_constant_told = refl

a_match_is_not_constant_told :
    rule_words Plain rules.a_match_is_not_constant (NotConstant (on 2 11)) ≡ words (codes "not constant" ∷ []) (Some (codes
    "a constant is made of literals, constants, + - *, div, mod, abs, min and max"))
unfolding seen_of_item seen_before seen_behind
a_match_is_not_constant_told = refl

a_constant_of_itself_told : rule_words Plain rules.a_constant_of_itself (UnknownName (on 2 12)) ≡ words (codes "unknown name: 'KK'" ∷ []) None
unfolding seen_of_item seen_before seen_behind
a_constant_of_itself_told = refl

a_product_past_the_limit_told : rule_words Plain rules.a_product_past_the_limit (ConstantPast (on 3 13)) ≡ words (codes "constant past limit" ∷ []) None
unfolding seen_of_item seen_before seen_behind
a_product_past_the_limit_told = refl

the_other_part_of_a_tuple_as_a_factor_told :
    rule_words Plain rules.the_other_part_of_a_tuple_as_a_factor (NotLinear (on 2 72)) ≡ words (codes "not linear: a product of two unknowns" ∷ []) None
unfolding seen_of_item seen_before seen_behind bend_in bend_words call_text
the_other_part_of_a_tuple_as_a_factor_told = refl

a_quotient_is_no_factor_told :
    rule_words Plain rules.a_quotient_is_no_factor (NotLinear (on 2 57)) ≡ words (codes "not linear: a product of two unknowns" ∷ []) None
unfolding seen_of_item seen_before seen_behind bend_in bend_words call_text
a_quotient_is_no_factor_told = refl

a_quotient_times_an_input_told :
    rule_words Plain rules.a_quotient_times_an_input (NotLinear (on 2 57)) ≡ words (codes "not linear: a product with inputs" ∷ []) (Some (codes
    "comfusy run takes a product with inputs"))
unfolding seen_of_item seen_before seen_behind bend_in bend_words call_text
a_quotient_times_an_input_told = refl

an_inner_choose_is_checked_first_told :
    rule_words Plain rules.an_inner_choose_is_checked_first (NotLinear (on 2 77)) ≡ words (codes "not linear: a product of two unknowns" ∷ []) None
unfolding seen_of_item seen_before seen_behind bend_in bend_words call_text
an_inner_choose_is_checked_first_told = refl

a_call_of_a_call_with_inputs_told :
    rule_words Plain rules.a_call_of_a_call_with_inputs (NotLinear (on 4 55)) ≡ words (codes
    "not linear: a call of 'f', which holds a call of 'times', which holds a product with inputs" ∷ []) None
unfolding seen_of_item seen_before seen_behind bend_in bend_words call_text
a_call_of_a_call_with_inputs_told = refl

min_of_known_is_known_told :
    rule_words Plain rules.min_of_known_is_known (NotLinear (on 2 57)) ≡ words (codes "not linear: a product with inputs" ∷ []) (Some (codes
    "comfusy run takes a product with inputs"))
unfolding seen_of_item seen_before seen_behind bend_in bend_words call_text
min_of_known_is_known_told = refl

the_part_of_div_before_the_divisor_told :
    rule_words Plain rules.the_part_of_div_before_the_divisor (UnknownName (on 2 29)) ≡ words (codes "unknown name: 't'" ∷ []) None
unfolding seen_of_item seen_before seen_behind
the_part_of_div_before_the_divisor_told = refl

card_is_unknown_told : rule_words Plain rules.card_is_unknown (NotLinear (on 2 63)) ≡ words (codes "not linear: a product of two unknowns" ∷ []) None
unfolding seen_of_item seen_before seen_behind bend_in bend_words call_text
card_is_unknown_told = refl

mod_is_unknown_told : rule_words Plain rules.mod_is_unknown (NotLinear (on 2 57)) ≡ words (codes "not linear: a product of two unknowns" ∷ []) None
unfolding seen_of_item seen_before seen_behind bend_in bend_words call_text
mod_is_unknown_told = refl

max_of_known_is_known_told :
    rule_words Plain rules.max_of_known_is_known (NotLinear (on 2 57)) ≡ words (codes "not linear: a product with inputs" ∷ []) (Some (codes
    "comfusy run takes a product with inputs"))
unfolding seen_of_item seen_before seen_behind bend_in bend_words call_text
max_of_known_is_known_told = refl

an_input_on_the_right_told :
    rule_words Plain rules.an_input_on_the_right (NotLinear (on 2 49)) ≡ words (codes "not linear: a product with inputs" ∷ []) (Some (codes
    "comfusy run takes a product with inputs"))
unfolding seen_of_item seen_before seen_behind bend_in bend_words call_text
an_input_on_the_right_told = refl

a_part_of_a_set_is_valued_first_told :
    rule_words Plain rules.a_part_of_a_set_is_valued_first (NotConstant (on 3 20)) ≡ words (codes "not constant" ∷ []) (Some (codes
    "a constant is made of literals, constants, + - *, div, mod, abs, min and max"))
unfolding seen_of_item seen_before seen_behind
a_part_of_a_set_is_valued_first_told = refl

a_part_of_a_tuple_is_valued_first_told :
    rule_words Plain rules.a_part_of_a_tuple_is_valued_first (NotConstant (on 3 28)) ≡ words (codes "not constant" ∷ []) (Some (codes
    "a constant is made of literals, constants, + - *, div, mod, abs, min and max"))
unfolding seen_of_item seen_before seen_behind
a_part_of_a_tuple_is_valued_first_told = refl

match_of_a_set_told : rule_words Plain rules.match_of_a_set (Mismatch (on 2 25)) ≡ words (codes "type mismatch: asked int, found set" ∷ []) None
unfolding seen_of_item seen_before seen_behind not_one not_numbers
match_of_a_set_told = refl

a_function_before_the_operations_told :
    rule_words Plain rules.a_function_before_the_operations (UnknownName (on 3 25)) ≡ words (codes "unknown name: 'maxx'" ∷ []) (Some (codes
    "did you mean 'maxy'?"))
unfolding seen_of_item seen_before seen_behind
a_function_before_the_operations_told = refl

the_last_function_first_told :
    rule_words Plain rules.the_last_function_first (UnknownName (on 4 25)) ≡ words (codes "unknown name: 'maxx'" ∷ []) (Some (codes "did you mean 'maxb'?"))
unfolding seen_of_item seen_before seen_behind
the_last_function_first_told = refl

a_later_function_is_no_candidate_told :
    rule_words Plain rules.a_later_function_is_no_candidate (UnknownName (on 2 25)) ≡ words (codes "unknown name: 'evem'" ∷ []) None
unfolding seen_of_item seen_before seen_behind
a_later_function_is_no_candidate_told = refl

a_hidden_output_in_given_told :
    rule_words Plain rules.a_hidden_output_in_given (UnknownName (on 2 56)) ≡ words (codes "unknown name: 'ky'" ∷ []) (Some (codes
    "given speaks of the scope and not of the outputs"))
unfolding seen_of_item seen_before seen_behind
a_hidden_output_in_given_told = refl

a_near_name_before_the_outputs_of_given_told :
    rule_words Plain rules.a_near_name_before_the_outputs_of_given (UnknownName (on 2 57)) ≡ words (codes "unknown name: 'ky'" ∷ []) (Some (codes
    "did you mean 'kz'?"))
unfolding seen_of_item seen_before seen_behind
a_near_name_before_the_outputs_of_given_told = refl

outputs_of_given_are_none_in_the_relation_told :
    rule_words Plain rules.outputs_of_given_are_none_in_the_relation (UnknownName (on 2 77)) ≡ words (codes "unknown name: 'xz'" ∷ []) (Some (codes
    "did you mean 'xy'?"))
unfolding seen_of_item seen_before seen_behind
outputs_of_given_are_none_in_the_relation_told = refl

a_constant_after_the_variables_told :
    rule_words Plain rules.a_constant_after_the_variables (UnknownName (on 3 26)) ≡ words (codes "unknown name: 'ad'" ∷ []) (Some (codes
    "did you mean 'ac'?"))
unfolding seen_of_item seen_before seen_behind
a_constant_after_the_variables_told = refl

a_word_before_a_near_name_told :
    rule_words Plain rules.a_word_before_a_near_name (UnknownName (on 2 27)) ≡ words (codes "unknown name: 'or'" ∷ []) (Some (codes "or is ||"))
unfolding seen_of_item seen_before seen_behind
a_word_before_a_near_name_told = refl

tuple_in_a_tuple_told :
    rule_words Plain rules.tuple_in_a_tuple (Mismatch (on 2 32)) ≡ words (codes "type mismatch: asked one value, found (int, int)" ∷ []) None
unfolding seen_of_item seen_before seen_behind not_one not_numbers
tuple_in_a_tuple_told = refl

not_of_a_number_told : rule_words Plain rules.not_of_a_number (Mismatch (on 2 26)) ≡ words (codes "type mismatch: asked bool, found int" ∷ []) None
unfolding seen_of_item seen_before seen_behind not_one not_numbers
not_of_a_number_told = refl

card_of_a_number_told : rule_words Plain rules.card_of_a_number (Mismatch (on 2 25)) ≡ words (codes "type mismatch: asked set, found int" ∷ []) None
unfolding seen_of_item seen_before seen_behind not_one not_numbers
card_of_a_number_told = refl

abs_of_a_set_told : rule_words Plain rules.abs_of_a_set (Mismatch (on 2 25)) ≡ words (codes "type mismatch: asked int, found set" ∷ []) None
unfolding seen_of_item seen_before seen_behind not_one not_numbers
abs_of_a_set_told = refl

minus_a_set_told : rule_words Plain rules.minus_a_set (Mismatch (on 2 25)) ≡ words (codes "type mismatch: asked int, found set" ∷ []) None
unfolding seen_of_item seen_before seen_behind not_one not_numbers
minus_a_set_told = refl

divides_a_set_told : rule_words Plain rules.divides_a_set (Mismatch (on 2 26)) ≡ words (codes "type mismatch: asked int, found set" ∷ []) None
unfolding seen_of_item seen_before seen_behind not_one not_numbers
divides_a_set_told = refl

mod_of_a_set_told : rule_words Plain rules.mod_of_a_set (Mismatch (on 2 25)) ≡ words (codes "type mismatch: asked int, found set" ∷ []) None
unfolding seen_of_item seen_before seen_behind not_one not_numbers
mod_of_a_set_told = refl

div_of_a_set_told : rule_words Plain rules.div_of_a_set (Mismatch (on 2 25)) ≡ words (codes "type mismatch: asked int, found set" ∷ []) None
unfolding seen_of_item seen_before seen_behind not_one not_numbers
div_of_a_set_told = refl

max_of_a_truth_value_told : rule_words Plain rules.max_of_a_truth_value (Mismatch (on 2 25)) ≡ words (codes "type mismatch: asked int, found bool" ∷ []) None
unfolding seen_of_item seen_before seen_behind not_one not_numbers
max_of_a_truth_value_told = refl

set_of_a_truth_value_told : rule_words Plain rules.set_of_a_truth_value (Mismatch (on 2 25)) ≡ words (codes "type mismatch: asked int, found bool" ∷ []) None
unfolding seen_of_item seen_before seen_behind not_one not_numbers
set_of_a_truth_value_told = refl

test_of_a_number_told : rule_words Plain rules.test_of_a_number (Mismatch (on 2 25)) ≡ words (codes "type mismatch: asked bool, found int" ∷ []) None
unfolding seen_of_item seen_before seen_behind not_one not_numbers
test_of_a_number_told = refl

union_with_a_number_told : rule_words Plain rules.union_with_a_number (Mismatch (on 2 35)) ≡ words (codes "type mismatch: asked set, found int" ∷ []) None
unfolding seen_of_item seen_before seen_behind not_one not_numbers
union_with_a_number_told = refl

and_with_a_number_told : rule_words Plain rules.and_with_a_number (Mismatch (on 2 37)) ≡ words (codes "type mismatch: asked bool, found int" ∷ []) None
unfolding seen_of_item seen_before seen_behind not_one not_numbers
and_with_a_number_told = refl

tuples_as_sides_told : rule_words Plain rules.tuples_as_sides (Mismatch (on 2 33)) ≡ words (codes "type mismatch: sides (int, int) and (int, int)" ∷ []) None
unfolding seen_of_item seen_before seen_behind not_one not_numbers
tuples_as_sides_told = refl

the_second_argument_told : rule_words Plain rules.the_second_argument (Mismatch (on 3 25)) ≡ words (codes "type mismatch: asked set, found int" ∷ []) None
unfolding seen_of_item seen_before seen_behind not_one not_numbers
the_second_argument_told = refl

results_of_several_told :
    rule_words Plain rules.results_of_several (Mismatch (on 2 32)) ≡ words (codes "type mismatch: asked (int, set), found (int, bool)" ∷ []) None
unfolding seen_of_item seen_before seen_behind not_one not_numbers
results_of_several_told = refl

the_third_arm_told : rule_words Plain rules.the_third_arm (Mismatch (on 2 25)) ≡ words (codes "type mismatch: arms int and set" ∷ []) None
unfolding seen_of_item seen_before seen_behind not_one not_numbers
the_third_arm_told = refl

a_clash_in_a_let_told : rule_words Plain rules.a_clash_in_a_let (Mismatch (on 2 51)) ≡ words (codes "type mismatch: asked int, found set" ∷ []) None
unfolding seen_of_item seen_before seen_behind not_one not_numbers
a_clash_in_a_let_told = refl

a_clash_in_an_arm_told : rule_words Plain rules.a_clash_in_an_arm (Mismatch (on 2 50)) ≡ words (codes "type mismatch: asked bool, found int" ∷ []) None
unfolding seen_of_item seen_before seen_behind not_one not_numbers
a_clash_in_an_arm_told = refl

a_clash_under_outputs_told :
    rule_words Plain rules.a_clash_under_outputs (Mismatch (on 2 59)) ≡ words (codes "type mismatch: asked bool, found set" ∷ []) None
unfolding seen_of_item seen_before seen_behind not_one not_numbers
a_clash_under_outputs_told = refl

a_clash_in_an_objective_told :
    rule_words Plain rules.a_clash_in_an_objective (Mismatch (on 2 68)) ≡ words (codes "type mismatch: asked set, found bool" ∷ []) None
unfolding seen_of_item seen_before seen_behind not_one not_numbers
a_clash_in_an_objective_told = refl

a_clash_in_given_told : rule_words Plain rules.a_clash_in_given (Mismatch (on 2 59)) ≡ words (codes "type mismatch: asked int, found set" ∷ []) None
unfolding seen_of_item seen_before seen_behind not_one not_numbers
a_clash_in_given_told = refl

a_clash_of_a_call_told : rule_words Plain rules.a_clash_of_a_call (Mismatch (on 3 30)) ≡ words (codes "type mismatch: asked int, found (int, set)" ∷ []) None
unfolding seen_of_item seen_before seen_behind not_one not_numbers
a_clash_of_a_call_told = refl

let_of_a_duplicate_told : rule_words Plain rules.let_of_a_duplicate (DuplicateName (on 2 33)) ≡ words (codes "duplicate name: 'x'" ∷ []) None
unfolding seen_of_item seen_before seen_behind
let_of_a_duplicate_told = refl

pattern_of_a_duplicate_told : rule_words Plain rules.pattern_of_a_duplicate (DuplicateName (on 2 48)) ≡ words (codes "duplicate name: 'i'" ∷ []) None
unfolding seen_of_item seen_before seen_behind
pattern_of_a_duplicate_told = refl

constant_and_repeated_told :
    rule_words Plain rules.constant_and_repeated (DuplicateName (on 3 18)) ≡ words (codes "duplicate name: 'K'" ∷ []) (Some (codes "'K' is a constant"))
unfolding seen_of_item seen_before seen_behind
constant_and_repeated_told = refl

not_constant_in_a_let_of_a_constant_told :
    rule_words Plain rules.not_constant_in_a_let_of_a_constant (NotConstant (on 2 31)) ≡ words (codes "not constant: 'x'" ∷ []) (Some (codes
    "here stands a literal or a constant"))
unfolding seen_of_item seen_before seen_behind
not_constant_in_a_let_of_a_constant_told = refl

divides_by_a_constant_in_a_constant_told :
    rule_words Plain rules.divides_by_a_constant_in_a_constant (NotConstant (on 3 14)) ≡ words (codes "not constant" ∷ []) (Some (codes
    "a constant is made of literals, constants, + - *, div, mod, abs, min and max"))
unfolding seen_of_item seen_before seen_behind
divides_by_a_constant_in_a_constant_told = refl

a_factor_of_nothing_told :
    rule_words Plain rules.a_factor_of_nothing (UnknownName (on 3 40)) ≡ words (codes "unknown name: 'STEK'" ∷ []) (Some (codes "did you mean 'STEP'?"))
unfolding seen_of_item seen_before seen_behind
a_factor_of_nothing_told = refl

a_call_with_more_told : rule_words Plain rules.a_call_with_more (WrongCount (on 3 25)) ≡ words (codes "wrong count: 'f' takes 2, given 0" ∷ []) None
unfolding digits seen_of_item seen_before seen_behind
a_call_with_more_told = refl

let_with_fewer_told : rule_words Plain rules.let_with_fewer (WrongCount (on 2 25)) ≡ words (codes "wrong count: names 1, values 3" ∷ []) None
unfolding digits seen_of_item seen_before seen_behind
let_with_fewer_told = refl

a_set_literal_in_given_told :
    rule_words Plain rules.a_set_literal_in_given (NotLinear (on 2 47)) ≡ words (codes "not linear: a set literal" ∷ []) (Some (codes
    "only {} may stand in a relation"))
unfolding seen_of_item seen_before seen_behind bend_in bend_words call_text
a_set_literal_in_given_told = refl

a_match_in_an_objective_told :
    rule_words Plain rules.a_match_in_an_objective (NotLinear (on 2 63)) ≡ words (codes "not linear: a match" ∷ []) (Some (codes
    "bind it by let before the choose"))
unfolding seen_of_item seen_before seen_behind bend_in bend_words call_text
a_match_in_an_objective_told = refl

inputs_in_a_call_of_given_told :
    rule_words Plain rules.inputs_in_a_call_of_given (NotLinear (on 3 55)) ≡ words (codes "not linear: a call of 'times', which holds a product with inputs"
    ∷ []) None
unfolding seen_of_item seen_before seen_behind bend_in bend_words call_text
inputs_in_a_call_of_given_told = refl

a_candidate_of_one_byte_told : rule_words Plain rules.a_candidate_of_one_byte (UnknownName (on 2 25)) ≡ words (codes "unknown name: 'ab'" ∷ []) None
unfolding seen_of_item seen_before seen_behind
a_candidate_of_one_byte_told = refl

a_name_of_one_byte_told : rule_words Plain rules.a_name_of_one_byte (UnknownName (on 2 26)) ≡ words (codes "unknown name: 'a'" ∷ []) None
unfolding seen_of_item seen_before seen_behind
a_name_of_one_byte_told = refl

-- where nothing more is seen
name_not_seen_told : rule_words Plain [] (UnknownName (on 1 1)) ≡ words (codes "unknown name" ∷ []) None
name_not_seen_told = refl

duplicate_not_seen_told : rule_words Plain [] (DuplicateName (on 1 1)) ≡ words (codes "duplicate name" ∷ []) None
duplicate_not_seen_told = refl

count_not_seen_told : rule_words Plain [] (WrongCount (on 1 1)) ≡ words (codes "wrong count" ∷ []) None
count_not_seen_told = refl

mismatch_not_seen_told : rule_words Plain [] (Mismatch (on 1 1)) ≡ words (codes "type mismatch" ∷ []) None
mismatch_not_seen_told = refl

constant_below_not_seen_told : rule_words Plain [] (ConstantBelow (on 1 1)) ≡ words (codes "constant below 1" ∷ []) None
constant_below_not_seen_told = refl

later_function_not_seen_told : rule_words Plain [] (CallsLater (on 1 1)) ≡ words (codes "calls later function" ∷ []) None
later_function_not_seen_told = refl

bend_not_seen_told : rule_words Plain [] (NotLinear (on 1 1)) ≡ words (codes "not linear" ∷ []) None
bend_not_seen_told = refl

weight_told : rule_words Plain [] (Weight 1572859) ≡ words (codes "Weight 1572859" ∷ []) None
unfolding digits
weight_told = refl

depth_told : rule_words Plain [] (Depth 201) ≡ words (codes "Depth 201" ∷ []) None
unfolding digits
depth_told = refl

no_memory_told : rule_words Plain [] NoMemory ≡ words (codes "no memory" ∷ []) None
no_memory_told = refl
