-- What is told of a broken rule, by the program that breaks it: the words behind its place, and a help.
use Rattle.std.specs.Prelude.{ℕ, ◌+◌, ℤ, Bool, true, false, ◌&&◌, ◌==◌, List, [], ◌∷◌, ◌++◌, length, map, reverse, codes, decimal, Option, Some, None, Result, Ok, Err, if◌then◌else◌}
use Rattle.std.specs.Fmt.{signed_decimal}
use Rattle.std.specs.List.{concat}
use Rattle.cf_tree.specs.declared.base.Edition.TheVariants.{Three}
use Rattle.cf_lex.specs.Words.{operation_words}
use Rattle.cf_tree.specs.declared.base.Base.{Base}
use Rattle.cf_tree.specs.declared.base.Base.TheVariants.{Int, Bool as Truth, Set}
use Rattle.cf_tree.specs.declared.base.Place.{Place}
use Rattle.cf_tree.specs.declared.raw.Param.{Param}
use Rattle.cf_tree.specs.Bases.{same_bases}
use Rattle.cf_tree.specs.DefView.{RawDefTree, RawItemTree, item_const, item_def}
use Rattle.cf_tree.specs.Params.{bases_of}
use Rattle.cf_tree.specs.RawTree.{RawTree, raw_lit, raw_truth, raw_name, raw_set_of, raw_group, raw_tuple, raw_neg, raw_not, raw_abs, raw_binary, raw_chain, raw_min, raw_max, raw_divides, raw_div, raw_mod, raw_card, raw_call, raw_if, raw_let, raw_choose, raw_match, RawTrees, no_raws, raw_more, RawArmTree, RawArmTrees, no_raw_arms, raw_arm, raw_arm_more, NumberTree, number_lit, number_name, PartTree, GivenTree, no_given, given_that, AimTree, no_aim, aim_at, place_of}
use Rattle.cf_program.specs.declared.fault.TypeFault.{TypeFault}
use Rattle.cf_program.specs.declared.fault.TypeFault.TheVariants as rule
use Rattle.cf_program.specs.declared.linearity.Linearity.{Linearity}
use Rattle.cf_program.specs.Checked.{functions_of}
use Rattle.cf_program.specs.Constants.{Constant, constant_of, value}
use Rattle.cf_program.specs.Linear.{Holder, is_unknown, Cause, a_choose, a_match, a_set_literal, a_product_with_inputs, a_product_of_unknowns, a_call, Found, linear, bends, found_in, all_hold, is_known}
use Rattle.cf_program.specs.Names.{is_among}
use Rattle.cf_program.specs.Walk.{side_of, is_one, are_numbers, takes_inputs}
use Rattle.cf_help.specs.Lines.{same_place}
use Rattle.cf_help.specs.Near.{in_quotes, first_near, did_you_mean}
use Rattle.cf_help.specs.Rows.{or_else}
use Rattle.cf_help.specs.Spots.{Around, Binding, bindings, matched_value, function_of, bases_in, bases_of_arm, Look, first_in, first_item, expression_of, variables_of_item}
use Rattle.cf_help.specs.Syntax.{foreign_help}

-- words, and a help where there is one
pub record Words : Type 0 where
  pub what : List ℕ
  pub help : Option (List ℕ)

abbrev pub words : List (List ℕ) → Option (List ℕ) → Words
words what help = record { what = concat what; help = help }

-- ---- types
abbrev pub base_text : Base → List ℕ
base_text Int = codes "int"
base_text Truth = codes "bool"
base_text Set = codes "set"

abbrev pub more_bases : List Base → List ℕ
more_bases [] = []
more_bases (b ∷ bs) = codes ", " ++ (base_text b ++ more_bases bs)

-- one base, or several in parentheses
abbrev pub type_text : List Base → List ℕ
type_text [] = codes "()"
type_text (b ∷ []) = base_text b
type_text (b ∷ c ∷ bs) = concat (codes "(" ∷ base_text b ∷ more_bases (c ∷ bs) ∷ codes ")" ∷ [])

abbrev pub asked_found : List ℕ → List Base → List ℕ
asked_found asked bs = concat (codes "asked " ∷ asked ∷ codes ", found " ∷ type_text bs ∷ [])

abbrev pub two_types : List ℕ → List Base → List Base → List ℕ
two_types of_ bs cs = concat (of_ ∷ codes " " ∷ type_text bs ∷ codes " and " ∷ type_text cs ∷ [])

-- ---- what is wrong with the types of the parts of a form
-- a part that is no value of this one base
unfoldable pub not_one : Base → List Base → Option (List ℕ)
not_one b bs = if is_one b bs then None else Some (asked_found (base_text b) bs)

abbrev pub not_types : List ℕ → List Base → List Base → Option (List ℕ)
not_types of_ bs cs = if same_bases cs bs then None else Some (two_types of_ bs cs)

abbrev pub none_is_not : Base → Around → List Binding → RawTrees → Option (List ℕ)
none_is_not b r vs no_raws = None
none_is_not b r vs (raw_more e es) = or_else (not_one b (bases_in r vs e)) (none_is_not b r vs es)

abbrev pub not_single_one : List Base → Option (List ℕ)
not_single_one bs = if length bs == 1 then None else Some (asked_found (codes "one value") bs)

abbrev pub not_single : Around → List Binding → RawTrees → Option (List ℕ)
not_single r vs no_raws = None
not_single r vs (raw_more e es) = or_else (not_single_one (bases_in r vs e)) (not_single r vs es)

abbrev pub not_sides : Option Base → List Base → List Base → Option (List ℕ)
not_sides (Some b) bs cs = or_else (not_one b bs) (not_one b cs)
not_sides None bs cs = if (length bs == 1) && same_bases bs cs then None else Some (two_types (codes "sides") bs cs)

-- the sides of the order at p
abbrev pub not_links : Place → Around → List Binding → List Place → RawTrees → Option (List ℕ)
not_links p r vs places no_raws = None
not_links p r vs places (raw_more a no_raws) = None
not_links p r vs [] (raw_more a (raw_more b es)) = None
not_links p r vs (q ∷ places) (raw_more a (raw_more b es)) =
    if same_place p q then or_else (not_one Int (bases_in r vs a)) (not_one Int (bases_in r vs b)) else not_links p r vs places (raw_more b es)

abbrev pub not_params : Around → List Binding → List Base → RawTrees → Option (List ℕ)
not_params r vs bs no_raws = None
not_params r vs [] (raw_more e es) = None
not_params r vs (b ∷ bs) (raw_more e es) = or_else (not_one b (bases_in r vs e)) (not_params r vs bs es)

abbrev pub params_of : Option RawDefTree → List Base
params_of None = []
params_of (Some d) = bases_of d.params

-- the first arm with another type than the first arm of all
abbrev pub not_arms : Around → List Binding → List Base → RawArmTrees → Option (List ℕ)
not_arms r vs bs no_raw_arms = None
not_arms r vs bs (raw_arm_more a arms) = or_else (not_types (codes "arms") bs (bases_of_arm r vs a)) (not_arms r vs bs arms)

unfoldable pub not_numbers : List Base → Option (List ℕ)
not_numbers bs = if are_numbers bs then None else Some (asked_found (codes "numbers") bs)

abbrev pub where_at : Place → Place → Option (List ℕ) → Option (List ℕ)
where_at p q found = if same_place p q then found else None

abbrev pub not_given : Place → Around → List Binding → GivenTree → Option (List ℕ)
not_given p r vs no_given = None
not_given p r vs (given_that q a) = where_at p q (not_one Truth (bases_in r vs a))

abbrev pub not_aim : Place → Around → List Binding → AimTree → Option (List ℕ)
not_aim p r vs no_aim = None
not_aim p r vs (aim_at q sense a) = where_at p q (not_numbers (bases_in r vs a))

-- what is wrong with the types of the parts of a form that has one place
abbrev pub clash_there : Around → List Binding → RawTree → Option (List ℕ)
clash_there r vs (raw_lit q k) = None
clash_there r vs (raw_truth q t) = None
clash_there r vs (raw_name q x) = None
clash_there r vs (raw_set_of q es) = none_is_not Int r vs es
clash_there r vs (raw_group q a) = None
clash_there r vs (raw_tuple q es) = not_single r vs es
clash_there r vs (raw_neg q a) = not_one Int (bases_in r vs a)
clash_there r vs (raw_not q a) = not_one Truth (bases_in r vs a)
clash_there r vs (raw_abs q a) = not_one Int (bases_in r vs a)
clash_there r vs (raw_binary q op a b) = not_sides (side_of op) (bases_in r vs a) (bases_in r vs b)
clash_there r vs (raw_chain q orders places es) = None
clash_there r vs (raw_min q es) = none_is_not Int r vs es
clash_there r vs (raw_max q es) = none_is_not Int r vs es
clash_there r vs (raw_divides q k a) = not_one Int (bases_in r vs a)
clash_there r vs (raw_div q a k) = not_one Int (bases_in r vs a)
clash_there r vs (raw_mod q a k) = not_one Int (bases_in r vs a)
clash_there r vs (raw_card q a) = not_one Set (bases_in r vs a)
clash_there r vs (raw_call q f es) = not_params r vs (params_of (function_of r.functions f)) es
clash_there r vs (raw_if q t a b) = or_else (not_one Truth (bases_in r vs t)) (not_types (codes "branches") (bases_in r vs a) (bases_in r vs b))
clash_there r vs (raw_let q xs places a b) = None
clash_there r vs (raw_choose q outputs hidden given rel aim) = None
clash_there r vs (raw_match q a arms) =
    or_else (not_one Int (bases_in r vs a)) (not_arms r (vs ++ matched_value) (bases_in r vs (raw_match q a arms)) arms)

-- what is wrong at p with the types of the parts of a form; of a chain each order has a place, and of a choose each of its three parts
abbrev pub clash : Place → Around → List Binding → RawTree → Option (List ℕ)
clash p r vs (raw_chain q orders places es) = not_links p r vs places es
clash p r vs (raw_choose q outputs hidden given rel aim) =
    or_else (not_given p r vs given) (
    or_else (where_at p q (not_one Truth (bases_in r (vs ++ bindings outputs ++ bindings hidden) rel))) (
    not_aim p r (vs ++ bindings outputs ++ bindings hidden) aim))
clash p r vs other = where_at p (place_of other) (clash_there r vs other)

abbrev pub mismatch_words : Option (List ℕ) → Option Words
mismatch_words None = None
mismatch_words (Some w) = Some (words (codes "type mismatch: " ∷ w ∷ []) None)

abbrev pub mismatch_at : Place → Around → List Binding → RawTree → Option Words
mismatch_at p r vs e = mismatch_words (clash p r vs e)

-- a body has the results of its function, and the expression of a constant is a number
abbrev pub item_clash : Place → Around → List Binding → RawItemTree → Option (List ℕ)
item_clash p r vs (item_const q x e) = where_at p (place_of e) (not_one Int (bases_in r vs e))
item_clash p r vs (item_def d) = where_at p (place_of d.body) (Some (asked_found (type_text d.results) (bases_in r vs d.body)))

-- ---- names at a place
-- the name of a number at p
abbrev pub number_at : Place → NumberTree → Option (List ℕ)
number_at p (number_lit k) = None
number_at p (number_name q x) = where_at p q (Some x)

abbrev pub factor_at : Place → Option NumberTree → Option (List ℕ)
factor_at p None = None
factor_at p (Some k) = number_at p k

abbrev pub factors_at : Place → List PartTree → Option (List ℕ)
factors_at p [] = None
factors_at p (x ∷ xs) = or_else (factor_at p x.factor) (factors_at p xs)

abbrev pub factors_of_arm : Place → RawArmTree → Option (List ℕ)
factors_of_arm p (raw_arm parts k body) = factors_at p parts

abbrev pub arm_factors_at : Place → RawArmTrees → Option (List ℕ)
arm_factors_at p no_raw_arms = None
arm_factors_at p (raw_arm_more a arms) = or_else (factors_of_arm p a) (arm_factors_at p arms)

abbrev pub number_in : Place → RawTree → Option (List ℕ)
number_in p (raw_divides q k a) = number_at p k
number_in p (raw_div q a k) = number_at p k
number_in p (raw_mod q a k) = number_at p k
number_in p (raw_match q a arms) = arm_factors_at p arms
number_in p other = None

-- the names of variables that are in scope and of constants, the last ones first
abbrev pub variable_candidates : List (List ℕ) → List Binding → List (List ℕ)
variable_candidates cs vs = reverse (cs ++ map (λ v. v.name) vs)

abbrev pub function_candidates : List RawDefTree → List (List ℕ)
function_candidates earlier = reverse (map (λ d. d.name) earlier) ++ operation_words Three

abbrev pub given_help : List Binding → List ℕ → Option (List ℕ)
given_help outs x = if is_among (map (λ v. v.name) outs) x then Some (codes "given speaks of the scope and not of the outputs") else None

abbrev pub unknown_words : List ℕ → List (List ℕ) → Option (List ℕ) → Words
unknown_words x candidates otherwise =
    words (codes "unknown name: " ∷ in_quotes x ∷ [])
    (or_else (foreign_help (Some x)) (or_else (did_you_mean (first_near x candidates)) otherwise))

abbrev pub number_words : List (List ℕ) → Option (List ℕ) → Option Words
number_words cs None = None
number_words cs (Some x) = Some (unknown_words x (reverse cs) None)

abbrev pub words_at : Place → Place → Words → Option Words
words_at p q w = if same_place p q then Some w else None

abbrev pub unknown_at : Place → Around → Look Words
unknown_at p r outs vs (raw_name q x) = words_at p q (unknown_words x (variable_candidates r.constants vs) (given_help outs x))
unknown_at p r outs vs (raw_call q f es) = words_at p q (unknown_words f (function_candidates r.earlier) None)
unknown_at p r outs vs other = number_words r.constants (number_in p other)

-- ---- binders
abbrev pub binder_at : Place → List Place → List (List ℕ) → Option (List ℕ)
binder_at p places [] = None
binder_at p [] (x ∷ xs) = None
binder_at p (q ∷ places) (x ∷ xs) = if same_place p q then Some x else binder_at p places xs

abbrev pub param_at : Place → List Param → Option (List ℕ)
param_at p [] = None
param_at p (q ∷ ps) = if same_place p q.place then Some q.name else param_at p ps

abbrev pub part_at : Place → List PartTree → Option (List ℕ)
part_at p [] = None
part_at p (x ∷ xs) = if same_place p x.place then Some x.name else part_at p xs

abbrev pub part_of_arm : Place → RawArmTree → Option (List ℕ)
part_of_arm p (raw_arm parts k body) = part_at p parts

abbrev pub arm_binder_at : Place → RawArmTrees → Option (List ℕ)
arm_binder_at p no_raw_arms = None
arm_binder_at p (raw_arm_more a arms) = or_else (part_of_arm p a) (arm_binder_at p arms)

abbrev pub binder_in : Place → RawTree → Option (List ℕ)
binder_in p (raw_let q xs places a b) = binder_at p places xs
binder_in p (raw_choose q outputs hidden given r aim) = or_else (param_at p outputs) (param_at p hidden)
binder_in p (raw_match q a arms) = arm_binder_at p arms
binder_in p other = None

abbrev pub duplicate_words : List ℕ → Bool → Words
duplicate_words x is_constant =
    words (codes "duplicate name: " ∷ in_quotes x ∷ []) (if is_constant then Some (concat (in_quotes x ∷ codes " is a constant" ∷ [])) else None)

abbrev pub binder_words : List (List ℕ) → Option (List ℕ) → Option Words
binder_words cs None = None
binder_words cs (Some x) = Some (duplicate_words x (is_among cs x))

abbrev pub duplicate_at : Place → Around → RawTree → Option Words
duplicate_at p r e = binder_words r.constants (binder_in p e)

-- the name of an item or of a parameter; the place of a function is that of its word `def`, and a function is no constant
abbrev pub duplicate_item : Place → Around → RawItemTree → Option Words
duplicate_item p r (item_const q x e) = words_at p q (duplicate_words x true)
duplicate_item p r (item_def d) = or_else (words_at p d.place (duplicate_words d.name false)) (binder_words r.constants (param_at p d.params))

-- ---- counts and calls
abbrev pub raws_length : RawTrees → ℕ
raws_length no_raws = 0
raws_length (raw_more e es) = 1 + raws_length es

abbrev pub count_at : Place → Around → List Binding → RawTree → Option Words
count_at p r vs (raw_call q f es) = words_at p q (words
    (codes "wrong count: " ∷ in_quotes f ∷ codes " takes " ∷ decimal (length (params_of (function_of r.functions f))) ∷ codes ", given "
    ∷ decimal (raws_length es) ∷ []) None)
count_at p r vs (raw_let q xs places a b) = words_at p q (words
    (codes "wrong count: names " ∷ decimal (length xs) ∷ codes ", values " ∷ decimal (length (bases_in r vs a)) ∷ []) None)
count_at p r vs other = None

abbrev pub later_at : Place → RawTree → Option Words
later_at p (raw_call q f es) = words_at p q (words (codes "calls later function: " ∷ in_quotes f ∷ [])
    (Some (codes "a function calls only functions that stand before it")))
later_at p other = None

-- ---- constants
abbrev pub number_help : List ℕ
number_help = codes "here stands a literal or a constant"

abbrev pub const_help : List ℕ
const_help = codes "a constant is made of literals, constants, + - *, div, mod, abs, min and max"

-- a name at p in the place of a number, which is no constant
abbrev pub variable_words : List (List ℕ) → Option (List ℕ) → Option Words
variable_words cs None = None
variable_words cs (Some x) =
    if is_among cs x then None else Some (words (codes "not constant: " ∷ in_quotes x ∷ []) (Some number_help))

abbrev pub variable_at : Place → Around → RawTree → Option Words
variable_at p r e = variable_words r.constants (number_in p e)

abbrev pub below_words : List ℕ → Option ℤ → Option Words
below_words x None = None
below_words x (Some k) = Some (words (codes "constant below 1: " ∷ in_quotes x ∷ codes " is " ∷ signed_decimal k ∷ []) None)

abbrev pub with_value : List Constant → List ℕ → Result ℤ TypeFault → List Constant
with_value cs x (Ok k) = cs ++ record { name = x; value = k } ∷ []
with_value cs x (Err e) = cs

-- the constants of a program that have values, behind these
abbrev pub constants_in : List Constant → List RawItemTree → List Constant
constants_in cs [] = cs
constants_in cs (item_const p x e ∷ items) = constants_in (with_value cs x (value cs e)) items
constants_in cs (item_def d ∷ items) = constants_in cs items

abbrev pub below_named : List Constant → Option (List ℕ) → Option Words
below_named cs None = None
below_named cs (Some x) = below_words x (constant_of cs x)

-- a constant at p in the place of a number
abbrev pub below_at : List Constant → Place → RawTree → Option Words
below_at cs p e = below_named cs (number_in p e)

-- ---- causes
unfoldable pub call_text : List ℕ → List ℕ
call_text f = concat (codes "a call of " ∷ in_quotes f ∷ codes ", which holds " ∷ [])

abbrev pub cause_text : Cause → List ℕ
cause_text a_choose = codes "a choose"
cause_text a_match = codes "a match"
cause_text a_set_literal = codes "a set literal"
cause_text a_product_with_inputs = codes "a product with inputs"
cause_text a_product_of_unknowns = codes "a product of two unknowns"
cause_text (a_call f c) = call_text f ++ cause_text c

-- of what a call holds, only a choose and a match have a help
abbrev pub call_help : Cause → Option (List ℕ)
call_help a_choose = Some (codes "bind it by let before the choose")
call_help a_match = Some (codes "bind it by let before the choose")
call_help a_set_literal = None
call_help a_product_with_inputs = None
call_help a_product_of_unknowns = None
call_help (a_call f c) = call_help c

-- `run` takes no product with inputs in a `given`
abbrev pub cause_help : Bool → Cause → Option (List ℕ)
cause_help is_given a_choose = call_help a_choose
cause_help is_given a_match = call_help a_match
cause_help is_given a_set_literal = Some (codes "only {} may stand in a relation")
cause_help is_given a_product_with_inputs = if is_given then None else Some (codes "comfusy run takes a product with inputs")
cause_help is_given a_product_of_unknowns = None
cause_help is_given (a_call f c) = call_help c

abbrev pub known : List Binding → List Holder
known vs = map (λ v. record { name = v.name; held = is_known }) vs

abbrev pub in_relation : List Binding → List Param → List Param → List Holder
in_relation vs outputs hidden = known vs ++ all_hold is_unknown outputs ++ all_hold is_unknown hidden

unfoldable pub bend_words : Place → Bool → Found → Option Words
bend_words p is_given (linear hs) = None
bend_words p is_given (bends q c) = words_at p q (words (codes "not linear: " ∷ cause_text c ∷ []) (cause_help is_given c))

-- of the first form in an expression that is not linear over these variables, with products with inputs or without
unfoldable pub bend_in : Place → Bool → Bool → Around → List Holder → RawTree → Option Words
bend_in p is_given inputs r hs a = bend_words p is_given (found_in inputs (reverse r.earlier) hs a)

abbrev pub given_bend : Place → Around → List Binding → GivenTree → Option Words
given_bend p r vs no_given = None
given_bend p r vs (given_that q a) = bend_in p true false r (known vs) a

abbrev pub aim_bend : Linearity → Place → Around → List Holder → AimTree → Option Words
aim_bend how p r hs no_aim = None
aim_bend how p r hs (aim_at q sense a) = bend_in p false (takes_inputs how) r hs a

-- the first form that is not linear, where it stands at p
abbrev pub bend_at : Linearity → Place → Around → List Binding → RawTree → Option Words
bend_at how p r vs (raw_choose q outputs hidden given rel aim) =
    or_else (given_bend p r vs given) (
    or_else (bend_in p false (takes_inputs how) r (in_relation vs outputs hidden) rel) (
    aim_bend how p r (in_relation vs outputs hidden) aim))
bend_at how p r vs other = None

-- ---- all rules
-- what is seen at the place of a fault of one form, where relations are linear so, and these constants have values
abbrev pub seen_at : Linearity → List Constant → TypeFault → Around → Look Words
seen_at how cs (rule.UnknownName p) r outs vs e = unknown_at p r outs vs e
seen_at how cs (rule.DuplicateName p) r outs vs e = duplicate_at p r e
seen_at how cs (rule.WrongCount p) r outs vs e = count_at p r vs e
seen_at how cs (rule.Mismatch p) r outs vs e = mismatch_at p r vs e
seen_at how cs (rule.NotConstant p) r outs vs e = variable_at p r e
seen_at how cs (rule.ConstantBelow p) r outs vs e = below_at cs p e
seen_at how cs (rule.ConstantPast p) r outs vs e = None
seen_at how cs (rule.CallsLater p) r outs vs e = later_at p e
seen_at how cs rule.NoMain r outs vs e = None
seen_at how cs (rule.NotLinear p) r outs vs e = bend_at how p r vs e
seen_at how cs (rule.Weight n) r outs vs e = None
seen_at how cs (rule.Depth n) r outs vs e = None
seen_at how cs rule.NoMemory r outs vs e = None

-- what is seen before the expression of an item
unfoldable pub seen_before : TypeFault → Around → RawItemTree → Option Words
seen_before (rule.DuplicateName p) r item = duplicate_item p r item
seen_before fault r item = None

-- what is seen behind it
unfoldable pub seen_behind : TypeFault → Around → RawItemTree → Option Words
seen_behind (rule.Mismatch p) r item = mismatch_words (item_clash p r (variables_of_item item) item)
seen_behind fault r item = None

unfoldable pub seen_of_item : Linearity → List Constant → TypeFault → Around → RawItemTree → Option Words
seen_of_item how cs fault r item =
    or_else (seen_before fault r item) (
    or_else (first_in (seen_at how cs fault r) r [] (variables_of_item item) (expression_of item)) (seen_behind fault r item))

-- the constants with values, where a fault asks for them
abbrev pub values_for : TypeFault → List RawItemTree → List Constant
values_for (rule.ConstantBelow p) items = constants_in [] items
values_for fault items = []

abbrev pub at_start : List RawItemTree → Around
at_start items = record { constants = []; earlier = []; functions = functions_of items }

abbrev pub just : List ℕ → Words
just what = record { what = what; help = None }

abbrev pub count_words : List ℕ → ℕ → Words
count_words of_ n = words (of_ ∷ codes " " ∷ decimal n ∷ []) None

-- what is told of a fault where nothing more is seen
abbrev pub plain_words : TypeFault → Words
plain_words (rule.UnknownName p) = just (codes "unknown name")
plain_words (rule.DuplicateName p) = just (codes "duplicate name")
plain_words (rule.WrongCount p) = just (codes "wrong count")
plain_words (rule.Mismatch p) = just (codes "type mismatch")
plain_words (rule.NotConstant p) = record { what = codes "not constant"; help = Some const_help }
plain_words (rule.ConstantBelow p) = just (codes "constant below 1")
plain_words (rule.ConstantPast p) = just (codes "constant past limit")
plain_words (rule.CallsLater p) = just (codes "calls later function")
plain_words rule.NoMain = just (codes "no main")
plain_words (rule.NotLinear p) = just (codes "not linear")
plain_words (rule.Weight n) = count_words (codes "Weight") n
plain_words (rule.Depth n) = count_words (codes "Depth") n
plain_words rule.NoMemory = just (codes "no memory")

abbrev pub or_plain : Option Words → Words → Words
or_plain (Some w) plain = w
or_plain None plain = plain

-- what is told of the first rule that a program breaks, where relations are linear so
abbrev pub rule_words : Linearity → List RawItemTree → TypeFault → Words
rule_words how items fault = or_plain (first_item (seen_of_item how (values_for fault items) fault) (at_start items) items) (plain_words fault)

-- the place of a broken rule
abbrev pub rule_place : TypeFault → Option Place
rule_place (rule.UnknownName p) = Some p
rule_place (rule.DuplicateName p) = Some p
rule_place (rule.WrongCount p) = Some p
rule_place (rule.Mismatch p) = Some p
rule_place (rule.NotConstant p) = Some p
rule_place (rule.ConstantBelow p) = Some p
rule_place (rule.ConstantPast p) = Some p
rule_place (rule.CallsLater p) = Some p
rule_place rule.NoMain = None
rule_place (rule.NotLinear p) = Some p
rule_place (rule.Weight n) = None
rule_place (rule.Depth n) = None
rule_place rule.NoMemory = None
