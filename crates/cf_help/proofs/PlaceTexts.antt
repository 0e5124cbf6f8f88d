-- Worked examples of the places of chooses, matches and arms, by their numbers, and of functions.
use Rattle.std.specs.Prelude.{◌≡◌, [], ◌∷◌, Some, None, refl}
use Rattle.cf_program.specs.Checked.{functions_of}
use Rattle.cf_program.proofs.RuleExamples.{on}
use Rattle.cf_program.proofs.EditionExamples as rules
use Rattle.cf_help.specs.Numbers.{numbered_items, number_place, function_place}

call_that_holds_a_choose_places : numbered_items [] rules.call_that_holds_a_choose ≡ ((on 2 25) ∷ (on 3 25) ∷ [])
call_that_holds_a_choose_places = refl

call_of_a_call_that_holds_a_choose_places : numbered_items [] rules.call_of_a_call_that_holds_a_choose ≡ ((on 2 25) ∷ (on 4 25) ∷ [])
call_of_a_call_that_holds_a_choose_places = refl

call_that_holds_a_match_places : numbered_items [] rules.call_that_holds_a_match ≡ ((on 2 24) ∷ (on 2 39) ∷ (on 2 54) ∷ (on 3 25) ∷ [])
call_that_holds_a_match_places = refl

choose_in_a_relation_places : numbered_items [] rules.choose_in_a_relation ≡ ((on 2 25) ∷ (on 2 53) ∷ [])
choose_in_a_relation_places = refl

match_in_a_relation_places : numbered_items [] rules.match_in_a_relation ≡ ((on 2 25) ∷ (on 2 53) ∷ (on 2 68) ∷ (on 2 83) ∷ [])
match_in_a_relation_places = refl

choose_in_given_places : numbered_items [] rules.choose_in_given ≡ ((on 2 25) ∷ (on 2 53) ∷ [])
choose_in_given_places = refl

a_pattern_with_constants_places : numbered_items [] rules.a_pattern_with_constants ≡ ((on 4 25) ∷ (on 4 40) ∷ (on 4 92) ∷ (on 4 109) ∷ [])
a_pattern_with_constants_places = refl

numbers_of_chooses_places : numbered_items [] rules.numbers_of_chooses ≡ ((on 2 38) ∷ (on 2 68) ∷ (on 2 83) ∷ (on 2 94) ∷ (on 2 125) ∷ (on 2 148) ∷ [])
numbers_of_chooses_places = refl

an_inner_choose_is_checked_first_places : numbered_items [] rules.an_inner_choose_is_checked_first ≡ ((on 2 25) ∷ (on 2 53) ∷ [])
an_inner_choose_is_checked_first_places = refl

a_match_in_an_objective_places : numbered_items [] rules.a_match_in_an_objective ≡ ((on 2 25) ∷ (on 2 63) ∷ (on 2 78) ∷ [])
a_match_in_an_objective_places = refl

a_constant_alone_under_a_minus_places : numbered_items [] rules.a_constant_alone_under_a_minus ≡ ((on 3 25) ∷ (on 3 40) ∷ [])
a_constant_alone_under_a_minus_places = refl

second : (number_place rules.choose_in_a_relation 1 ≡ Some (on 2 25)) × (number_place rules.choose_in_a_relation 2 ≡ Some (on 2 53))
    × (number_place rules.choose_in_a_relation 3 ≡ None)
second = (refl, refl, refl)

functions : (function_place (functions_of rules.product_in_a_call_of_a_call) 1 ≡ Some (on 3 1))
    × (function_place (functions_of rules.constants_as_divisors) 0 ≡ Some (on 3 1)) × (function_place (functions_of rules.constants_as_divisors) 1 ≡ None)
functions = (refl, refl, refl)
