-- What a form of code gives, where the form alone tells it.
use Rattle.std.specs.Prelude.{Bool, true, false}
use Rattle.cf_tree.specs.CodeTree.{CodeTree, code_lit, code_truth, code_var, code_set_of, code_tuple, code_sum, code_sub, code_mul, code_neg, code_div, code_mod, code_min, code_max, code_compare, code_divides, code_and, code_or, code_not, code_union, code_inter, code_diff, code_subset, code_card, code_slice, code_fresh, code_if, code_let, code_solve}
use Rattle.cf_tree.specs.declared.base.Order.{Order}
use Rattle.cf_tree.specs.declared.base.Order.TheVariants.{Eq, Ne, Lt, Le, Gt, Ge}
use Rattle.cf_eval.specs.declared.kind.Kind.{Kind}
use Rattle.cf_eval.specs.declared.kind.Kind.TheVariants.{Number, Truth, Elements, Other}

abbrev pub kind_of_tree : CodeTree → Kind
kind_of_tree (code_lit k) = Number
kind_of_tree (code_truth t) = Truth
kind_of_tree (code_var x) = Other
kind_of_tree (code_set_of cs) = Elements
kind_of_tree (code_tuple cs) = Other
kind_of_tree (code_sum cs) = Number
kind_of_tree (code_sub a b) = Number
kind_of_tree (code_mul a b) = Number
kind_of_tree (code_neg a) = Number
kind_of_tree (code_div a k) = Number
kind_of_tree (code_mod a k) = Number
kind_of_tree (code_min cs) = Number
kind_of_tree (code_max cs) = Number
kind_of_tree (code_compare o a b) = Truth
kind_of_tree (code_divides k a) = Truth
kind_of_tree (code_and a b) = Other
kind_of_tree (code_or a b) = Other
kind_of_tree (code_not a) = Truth
kind_of_tree (code_union cs) = Elements
kind_of_tree (code_inter cs) = Elements
kind_of_tree (code_diff a b) = Elements
kind_of_tree (code_subset a b) = Truth
kind_of_tree (code_card a) = Number
kind_of_tree (code_slice a b c) = Elements
kind_of_tree (code_fresh a b) = Elements
kind_of_tree (code_if t a b) = Other
kind_of_tree (code_let first count a b) = Other
kind_of_tree (code_solve n arms) = Other

abbrev pub is_number_kind : Kind → Bool
is_number_kind Number = true
is_number_kind Truth = false
is_number_kind Elements = false
is_number_kind Other = false

-- whether a comparison is that of the numbers of its sides
abbrev pub is_numeric : Order → Kind → Bool
is_numeric Eq k = is_number_kind k
is_numeric Ne k = is_number_kind k
is_numeric Lt k = true
is_numeric Le k = true
is_numeric Gt k = true
is_numeric Ge k = true
