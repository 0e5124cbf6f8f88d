-- Worked questions whether outputs are missing, their runs, and what these say.
use Rattle.std.proofs.Common.{◌≡◌, ◌≤◌, ◌^◌, ◌-◌, pos, negsuc, refl, [], ◌∷◌, None, arith}
use Rattle.cf_tree.specs.declared.base.Base.TheVariants.{Int, Bool, Set}
use Rattle.cf_tree.specs.declared.base.Order.TheVariants.{Eq, Ge, Le}
use Rattle.cf_tree.specs.Meaning.{means, peak}
use Rattle.cf_tree.specs.RelTree.{set_var, inter_of, diff_of, term_lit, term_var, term_card, term_neg, term_add, term_sub, term_mul}
use Rattle.cf_tree.specs.RelTree.{RelTree, rel_false, rel_compare, rel_subset, rel_divides, rel_and, rel_or, rel_not}
use Rattle.cf_tree.specs.Values.{number, elements, values, no_solution}
use Rattle.cf_num.specs.Divisors.{gcd_by, factors_by}
use Rattle.cf_num.specs.Parts.{parts_of}
use Rattle.cf_linear.specs.Steps.{clean, mix, factors_of, merge, merge_passes, merge_factor, last, pick, searched, dropped, searched_by, bound, bound_passes, bound_factor}
use Rattle.cf_linear.specs.Stages.{run, run_for, clean_stage, equation_stage, bound_stage, unknown_stage, row_stage, stage}
use Rattle.cf_linear.specs.Cases.{disjuncts, case_count, system_of_case, first_systems, write_atom, written_passes}
use Rattle.cf_linear.specs.Arm.{arm}
use Rattle.cf_linear.specs.Chooses.{arms, first_refused, refusal_by, limit}
use Rattle.cf_choose.specs.Laws.{IsUnrefused}
use Rattle.cf_warn.specs.Missing.{none_outputs, none, tuple_count}
use Rattle.cf_warn.specs.Solutions.{question_code, AreAlways, AreMissing}
use Rattle.cf_warn.proofs.ClassLaws.{one_output}
use Rattle.cf_warn.proofs.MissingTypes.{none_typed, none_linear, none_are_outputs}
use Rattle.cf_warn.proofs.SolutionLaws.{question_solution, question_none, always, missing}

-- ---- one number: the arm has no needs
abbrev pub three : RelTree
three = rel_compare Eq (term_var 0) (term_lit (pos 3))

three-none : none [] (Int ∷ []) three ≡ rel_false
unfolding arms arm first_systems disjuncts system_of_case write_atom run run_for stage clean_stage equation_stage bound_stage unknown_stage row_stage clean mix
    factors_of merge merge_passes merge_factor last pick searched dropped searched_by bound bound_passes bound_factor gcd_by factors_by parts_of
three-none = refl

three-outputs : none_outputs [] (Int ∷ []) three ≡ []
unfolding arms arm first_systems disjuncts system_of_case write_atom run run_for stage clean_stage equation_stage bound_stage unknown_stage row_stage clean mix
    factors_of merge merge_passes merge_factor last pick searched dropped searched_by bound bound_passes bound_factor gcd_by factors_by parts_of
three-outputs = refl

pub three-run : means (question_code (none_outputs [] (Int ∷ []) three) (none [] (Int ∷ []) three)) [] ≡ no_solution 1
unfolding arms arm first_systems disjuncts system_of_case write_atom run run_for stage clean_stage equation_stage bound_stage unknown_stage row_stage clean mix
    factors_of merge merge_passes merge_factor last pick searched dropped searched_by bound bound_passes bound_factor gcd_by factors_by parts_of
three-run = refl

three-solved : limit [] (Int ∷ []) three ≡ None
unfolding arms arm first_systems disjuncts system_of_case write_atom run run_for stage clean_stage equation_stage bound_stage unknown_stage row_stage clean mix
    factors_of merge merge_passes merge_factor last pick searched dropped searched_by bound bound_passes bound_factor gcd_by factors_by parts_of limit
    refusal_by case_count written_passes first_refused
three-solved = refl

three-unrefused : IsUnrefused [] (Int ∷ []) three
three-unrefused = record { typed = (refl, omega arith); linear = (tt, tt); are_outputs = one_output; within = three-solved }

pub three-limit : limit [] (none_outputs [] (Int ∷ []) three) (none [] (Int ∷ []) three) ≡ None
unfolding arms arm first_systems disjuncts system_of_case write_atom run run_for stage clean_stage equation_stage bound_stage unknown_stage row_stage clean mix
    factors_of merge merge_passes merge_factor last pick searched dropped searched_by bound bound_passes bound_factor gcd_by factors_by parts_of limit
    refusal_by case_count written_passes first_refused
three-limit = refl

pub three-tuples : tuple_count [] (Int ∷ []) three ≡ 1
unfolding arms arm first_systems disjuncts system_of_case write_atom run run_for stage clean_stage equation_stage bound_stage unknown_stage row_stage clean mix
    factors_of merge merge_passes merge_factor last pick searched dropped searched_by bound bound_passes bound_factor gcd_by factors_by parts_of
three-tuples = refl

pub three-peak : peak (question_code (none_outputs [] (Int ∷ []) three) (none [] (Int ∷ []) three)) [] ≡ 1
unfolding arms arm first_systems disjuncts system_of_case write_atom run run_for stage clean_stage equation_stage bound_stage unknown_stage row_stage clean mix
    factors_of merge merge_passes merge_factor last pick searched dropped searched_by bound bound_passes bound_factor gcd_by factors_by parts_of
three-peak = refl

three-question : IsUnrefused [] (none_outputs [] (Int ∷ []) three) (none [] (Int ∷ []) three)
three-question = record {
  typed = none_typed [] (Int ∷ []) three three-unrefused;
  linear = none_linear [] (Int ∷ []) three three-unrefused;
  are_outputs = none_are_outputs [] (Int ∷ []) three three-unrefused;
  within = three-limit;
}

pub three-always : AreAlways [] (Int ∷ []) three
three-always =
    always [] (Int ∷ []) three three-unrefused
    (question_none (none_outputs [] (Int ∷ []) three) (none [] (Int ∷ []) three) 1 three-question three-run)

-- ---- half of a number: a need before a let; a truth value that does not occur is in scope
abbrev half : RelTree
half = rel_compare Eq (term_mul (term_lit (pos 2)) (term_var 2)) (term_var 1)

half-none : none (Bool ∷ Int ∷ []) (Int ∷ []) half ≡
    rel_and (rel_compare Ge (term_sub (term_mul (term_lit (negsuc 0)) (term_var 0)) (term_mul (term_lit (pos 2)) (term_var 1))) (term_lit (pos 0)))
    (rel_and (rel_compare Ge (term_sub (term_add (term_add (term_neg (term_mul (term_lit (negsuc 0)) (term_var 0))) (term_mul (term_lit (pos 2))
    (term_var 1))) (term_lit (pos 2))) (term_lit (pos 1))) (term_lit (pos 0)))
    (rel_not (rel_divides (pos 2) (term_mul (term_lit (negsuc 0)) (term_var 0)))))
unfolding arms arm first_systems disjuncts system_of_case write_atom run run_for stage clean_stage equation_stage bound_stage unknown_stage row_stage clean mix
    factors_of merge merge_passes merge_factor last pick searched dropped searched_by bound bound_passes bound_factor gcd_by factors_by parts_of
half-none = refl

half-run : means (question_code (none_outputs (Bool ∷ Int ∷ []) (Int ∷ []) half) (none (Bool ∷ Int ∷ []) (Int ∷ []) half)) [] ≡ values (number
    (negsuc 0) ∷ number (pos 0) ∷ [])
unfolding arms arm first_systems disjuncts system_of_case write_atom run run_for stage clean_stage equation_stage bound_stage unknown_stage row_stage clean mix
    factors_of merge merge_passes merge_factor last pick searched dropped searched_by bound bound_passes bound_factor gcd_by factors_by parts_of
half-run = refl

-- ---- a double between two parameters: two lets, missing at 1 and 0
abbrev pub between : RelTree
between = rel_and (rel_compare Le (term_var 0) (term_mul (term_lit (pos 2)) (term_var 2))) (rel_compare Le (term_mul (term_lit (pos 2)) (term_var 2))
    (term_var 1))

between-outputs : none_outputs (Int ∷ Int ∷ []) (Int ∷ []) between ≡ Int ∷ Int ∷ Int ∷ Int ∷ []
unfolding arms arm first_systems disjuncts system_of_case write_atom run run_for stage clean_stage equation_stage bound_stage unknown_stage row_stage clean mix
    factors_of merge merge_passes merge_factor last pick searched dropped searched_by bound bound_passes bound_factor gcd_by factors_by parts_of
between-outputs = refl

between-none : none (Int ∷ Int ∷ []) (Int ∷ []) between ≡
    rel_and (rel_and (rel_compare Ge (term_sub (term_mul (term_lit (negsuc 0)) (term_var 0)) (term_mul (term_lit (pos 2)) (term_var 2))) (term_lit (pos 0)))
    (rel_compare Ge (term_sub (term_add (term_add (term_neg (term_mul (term_lit (negsuc 0)) (term_var 0))) (term_mul (term_lit (pos 2)) (term_var 2)))
    (term_lit (pos 2))) (term_lit (pos 1))) (term_lit (pos 0))))
    (rel_and (rel_compare Ge (term_sub (term_var 1) (term_mul (term_lit (pos 2)) (term_var 3))) (term_lit (pos 0)))
    (rel_and (rel_compare Ge (term_sub (term_add (term_add (term_neg (term_var 1)) (term_mul (term_lit (pos 2)) (term_var 3))) (term_lit (pos 2)))
    (term_lit (pos 1))) (term_lit (pos 0)))
    (rel_not (rel_compare Ge (term_add (term_var 2) (term_var 3)) (term_lit (pos 0))))))
unfolding arms arm first_systems disjuncts system_of_case write_atom run run_for stage clean_stage equation_stage bound_stage unknown_stage row_stage clean mix
    factors_of merge merge_passes merge_factor last pick searched dropped searched_by bound bound_passes bound_factor gcd_by factors_by parts_of
between-none = refl

pub between-run : means (question_code (none_outputs (Int ∷ Int ∷ []) (Int ∷ []) between) (none (Int ∷ Int ∷ []) (Int ∷ []) between)) [] ≡
    values (number (pos 1) ∷ number (pos 0) ∷ number (negsuc 0) ∷ number (pos 0) ∷ [])
unfolding arms arm first_systems disjuncts system_of_case write_atom run run_for stage clean_stage equation_stage bound_stage unknown_stage row_stage clean mix
    factors_of merge merge_passes merge_factor last pick searched dropped searched_by bound bound_passes bound_factor gcd_by factors_by parts_of
between-run = refl

between-solved : limit (Int ∷ Int ∷ []) (Int ∷ []) between ≡ None
unfolding arms arm first_systems disjuncts system_of_case write_atom run run_for stage clean_stage equation_stage bound_stage unknown_stage row_stage clean mix
    factors_of merge merge_passes merge_factor last pick searched dropped searched_by bound bound_passes bound_factor gcd_by factors_by parts_of limit
    refusal_by case_count written_passes first_refused
between-solved = refl

between-unrefused : IsUnrefused (Int ∷ Int ∷ []) (Int ∷ []) between
between-unrefused = record {
  typed = ((refl, (omega arith, refl)), ((omega arith, refl), refl));
  linear = ((tt, (tt, tt, refl)), ((tt, tt, refl), tt));
  are_outputs = one_output;
  within = between-solved;
}

pub between-limit : limit [] (none_outputs (Int ∷ Int ∷ []) (Int ∷ []) between) (none (Int ∷ Int ∷ []) (Int ∷ []) between) ≡ None
unfolding arms arm first_systems disjuncts system_of_case write_atom run run_for stage clean_stage equation_stage bound_stage unknown_stage row_stage clean mix
    factors_of merge merge_passes merge_factor last pick searched dropped searched_by bound bound_passes bound_factor gcd_by factors_by parts_of limit
    refusal_by case_count written_passes first_refused
between-limit = refl

pub between-tuples : tuple_count (Int ∷ Int ∷ []) (Int ∷ []) between ≡ 1
unfolding arms arm first_systems disjuncts system_of_case write_atom run run_for stage clean_stage equation_stage bound_stage unknown_stage row_stage clean mix
    factors_of merge merge_passes merge_factor last pick searched dropped searched_by bound bound_passes bound_factor gcd_by factors_by parts_of
between-tuples = refl

pub between-peak : peak (question_code (none_outputs (Int ∷ Int ∷ []) (Int ∷ []) between) (none (Int ∷ Int ∷ []) (Int ∷ []) between)) [] ≤ 2 ^ 127 - 1
unfolding arms arm first_systems disjuncts system_of_case write_atom run run_for stage clean_stage equation_stage bound_stage unknown_stage row_stage clean mix
    factors_of merge merge_passes merge_factor last pick searched dropped searched_by bound bound_passes bound_factor gcd_by factors_by parts_of
between-peak = omega arith

between-question : IsUnrefused [] (none_outputs (Int ∷ Int ∷ []) (Int ∷ []) between) (none (Int ∷ Int ∷ []) (Int ∷ []) between)
between-question = record {
  typed = none_typed (Int ∷ Int ∷ []) (Int ∷ []) between between-unrefused;
  linear = none_linear (Int ∷ Int ∷ []) (Int ∷ []) between between-unrefused;
  are_outputs = none_are_outputs (Int ∷ Int ∷ []) (Int ∷ []) between between-unrefused;
  within = between-limit;
}

pub between-missing : AreMissing (Int ∷ Int ∷ []) (Int ∷ []) between (number (pos 1) ∷ number (pos 0) ∷ [])
between-missing =
    missing (Int ∷ Int ∷ []) (Int ∷ []) between between-unrefused (number (pos 1) ∷ number (pos 0) ∷ []) (number (negsuc 0) ∷ number (pos 0) ∷ []) refl
    (question_solution (none_outputs (Int ∷ Int ∷ []) (Int ∷ []) between) (none (Int ∷ Int ∷ []) (Int ∷ []) between)
    (number (pos 1) ∷ number (pos 0) ∷ number (negsuc 0) ∷ number (pos 0) ∷ []) between-question between-run)

-- ---- a search with two tuples: each has its lets and its needs
abbrev twos_threes : RelTree
twos_threes =
    let sum = term_add (term_mul (term_lit (pos 2)) (term_var 1)) (term_mul (term_lit (pos 3)) (term_var 2)) in
    rel_and (rel_compare Le (term_var 0) sum) (rel_and (rel_compare Le sum (term_var 0))
    (rel_and (rel_compare Le (term_lit (pos 0)) (term_var 2)) (rel_compare Le (term_var 2) (term_lit (pos 0)))))

twos_threes-tuples : tuple_count (Int ∷ []) (Int ∷ Int ∷ []) twos_threes ≡ 2
unfolding arms arm first_systems disjuncts system_of_case write_atom run run_for stage clean_stage equation_stage bound_stage unknown_stage row_stage clean mix
    factors_of merge merge_passes merge_factor last pick searched dropped searched_by bound bound_passes bound_factor gcd_by factors_by parts_of
twos_threes-tuples = refl

twos_threes-none : none (Int ∷ []) (Int ∷ Int ∷ []) twos_threes ≡
    rel_and (rel_and (rel_and
    (rel_compare Ge (term_sub (term_add (term_mul (term_lit (negsuc 0)) (term_var 0)) (term_mul (term_lit (negsuc 0)) (term_lit (pos 0)))) (term_mul
    (term_lit (pos 2)) (term_var 1))) (term_lit (pos 0)))
    (rel_compare Ge (term_sub (term_add (term_add (term_neg (term_add (term_mul (term_lit (negsuc 0)) (term_var 0)) (term_mul (term_lit (negsuc 0))
    (term_lit (pos 0))))) (term_mul (term_lit (pos 2)) (term_var 1))) (term_lit (pos 2))) (term_lit (pos 1))) (term_lit (pos 0))))
    (rel_and
    (rel_compare Ge (term_sub (term_add (term_var 0) (term_lit (pos 0))) (term_mul (term_lit (pos 2)) (term_var 2))) (term_lit (pos 0)))
    (rel_and
    (rel_compare Ge (term_sub (term_add (term_add (term_neg (term_add (term_var 0) (term_lit (pos 0)))) (term_mul (term_lit (pos 2)) (term_var 2)))
    (term_lit (pos 2))) (term_lit (pos 1))) (term_lit (pos 0)))
    (rel_or (rel_not (rel_compare Ge (term_mul (term_lit (negsuc 0)) (term_lit (pos 0))) (term_lit (pos 0)))) (rel_not
    (rel_compare Ge (term_add (term_var 1) (term_var 2)) (term_lit (pos 0)))))))) (rel_and (rel_and
    (rel_compare Ge (term_sub (term_add (term_mul (term_lit (negsuc 0)) (term_var 0)) (term_mul (term_lit (negsuc 0)) (term_lit (pos 1)))) (term_mul
    (term_lit (pos 2)) (term_var 3))) (term_lit (pos 0)))
    (rel_compare Ge (term_sub (term_add (term_add (term_neg (term_add (term_mul (term_lit (negsuc 0)) (term_var 0)) (term_mul (term_lit (negsuc 0))
    (term_lit (pos 1))))) (term_mul (term_lit (pos 2)) (term_var 3))) (term_lit (pos 2))) (term_lit (pos 1))) (term_lit (pos 0))))
    (rel_and
    (rel_compare Ge (term_sub (term_add (term_var 0) (term_lit (pos 1))) (term_mul (term_lit (pos 2)) (term_var 4))) (term_lit (pos 0)))
    (rel_and
    (rel_compare Ge (term_sub (term_add (term_add (term_neg (term_add (term_var 0) (term_lit (pos 1)))) (term_mul (term_lit (pos 2)) (term_var 4)))
    (term_lit (pos 2))) (term_lit (pos 1))) (term_lit (pos 0)))
    (rel_or (rel_not (rel_compare Ge (term_mul (term_lit (negsuc 0)) (term_lit (pos 1))) (term_lit (pos 0)))) (rel_not
    (rel_compare Ge (term_add (term_var 3) (term_var 4)) (term_lit (pos 0))))))))
unfolding arms arm first_systems disjuncts system_of_case write_atom run run_for stage clean_stage equation_stage bound_stage unknown_stage row_stage clean mix
    factors_of merge merge_passes merge_factor last pick searched dropped searched_by bound bound_passes bound_factor gcd_by factors_by parts_of
twos_threes-none = refl

twos_threes-run : means (question_code (none_outputs (Int ∷ []) (Int ∷ Int ∷ []) twos_threes) (none (Int ∷ []) (Int ∷ Int ∷ []) twos_threes)) [] ≡
    values (number (negsuc 0) ∷ number (pos 0) ∷ number (negsuc 0) ∷ number (pos 0) ∷ number (pos 0) ∷ [])
unfolding arms arm first_systems disjuncts system_of_case write_atom run run_for stage clean_stage equation_stage bound_stage unknown_stage row_stage clean mix
    factors_of merge merge_passes merge_factor last pick searched dropped searched_by bound bound_passes bound_factor gcd_by factors_by parts_of
twos_threes-run = refl

-- ---- two elements of a set
abbrev two_of : RelTree
two_of = rel_and (rel_compare Eq (term_card (set_var 1)) (term_lit (pos 2))) (rel_subset (set_var 1) (set_var 0))

two_of-none : none (Set ∷ []) (Set ∷ []) two_of ≡
    rel_or (rel_not (rel_compare Ge (term_lit (pos 0)) (term_lit (pos 0)))) (rel_or (rel_not (rel_compare Ge (term_lit (pos 2)) (term_lit (pos 0))))
    (rel_not (rel_compare Ge (term_add (term_lit (negsuc 1)) (term_card (set_var 0))) (term_lit (pos 0)))))
unfolding arms arm first_systems disjuncts system_of_case write_atom run run_for stage clean_stage equation_stage bound_stage unknown_stage row_stage clean mix
    factors_of merge merge_passes merge_factor last pick searched dropped searched_by bound bound_passes bound_factor gcd_by factors_by parts_of
two_of-none = refl

two_of-run : means (question_code (none_outputs (Set ∷ []) (Set ∷ []) two_of) (none (Set ∷ []) (Set ∷ []) two_of)) [] ≡ values (elements [] ∷ [])
unfolding arms arm first_systems disjuncts system_of_case write_atom run run_for stage clean_stage equation_stage bound_stage unknown_stage row_stage clean mix
    factors_of merge merge_passes merge_factor last pick searched dropped searched_by bound bound_passes bound_factor gcd_by factors_by parts_of
two_of-run = refl

-- ---- an element of one set that is not in another: the regions of two sets
abbrev one_outside : RelTree
one_outside = rel_and (rel_compare Eq (term_card (set_var 2)) (term_lit (pos 1))) (rel_subset (set_var 2) (diff_of (set_var 0) (set_var 1)))

one_outside-none : none (Set ∷ Set ∷ []) (Set ∷ []) one_outside ≡
    rel_or (rel_or (rel_not (rel_compare Ge (term_lit (pos 0)) (term_lit (pos 0)))) (rel_or (rel_not
    (rel_compare Ge (term_lit (pos 0)) (term_lit (pos 0)))) (rel_not (rel_compare Ge (term_lit (pos 1)) (term_lit (pos 0)))))) (rel_or (rel_or
    (rel_not (rel_compare Ge (term_lit (pos 0)) (term_lit (pos 0)))) (rel_not
    (rel_compare Ge (term_add (term_lit (negsuc 0)) (term_card (diff_of (set_var 0) (set_var 1)))) (term_lit (pos 0))))) (rel_or (rel_not
    (rel_compare Ge (term_card (diff_of (set_var 1) (set_var 0))) (term_lit (pos 0)))) (rel_not
    (rel_compare Ge (term_card (inter_of (set_var 0) (set_var 1))) (term_lit (pos 0))))))
unfolding arms arm first_systems disjuncts system_of_case write_atom run run_for stage clean_stage equation_stage bound_stage unknown_stage row_stage clean mix
    factors_of merge merge_passes merge_factor last pick searched dropped searched_by bound bound_passes bound_factor gcd_by factors_by parts_of
one_outside-none = refl

-- ---- two arms, each with its needs
abbrev half_or_one : RelTree
half_or_one = rel_or half (rel_compare Eq (term_var 1) (term_lit (pos 1)))

half_or_one-outputs : none_outputs (Bool ∷ Int ∷ []) (Int ∷ []) half_or_one ≡ Int ∷ Int ∷ []
unfolding arms arm first_systems disjuncts system_of_case write_atom run run_for stage clean_stage equation_stage bound_stage unknown_stage row_stage clean mix
    factors_of merge merge_passes merge_factor last pick searched dropped searched_by bound bound_passes bound_factor gcd_by factors_by parts_of
half_or_one-outputs = refl

half_or_one-none : none (Bool ∷ Int ∷ []) (Int ∷ []) half_or_one ≡
    rel_and (rel_and (rel_compare Ge (term_sub (term_mul (term_lit (negsuc 0)) (term_var 0)) (term_mul (term_lit (pos 2)) (term_var 1))) (term_lit (pos 0)))
    (rel_compare Ge (term_sub (term_add (term_add (term_neg (term_mul (term_lit (negsuc 0)) (term_var 0))) (term_mul (term_lit (pos 2)) (term_var 1)))
    (term_lit (pos 2))) (term_lit (pos 1))) (term_lit (pos 0))))
    (rel_and (rel_not (rel_divides (pos 2) (term_mul (term_lit (negsuc 0)) (term_var 0))))
    (rel_not (rel_compare Eq (term_add (term_lit (negsuc 0)) (term_var 0)) (term_lit (pos 0)))))
unfolding arms arm first_systems disjuncts system_of_case write_atom run run_for stage clean_stage equation_stage bound_stage unknown_stage row_stage clean mix
    factors_of merge merge_passes merge_factor last pick searched dropped searched_by bound bound_passes bound_factor gcd_by factors_by parts_of
half_or_one-none = refl

-- ---- more than 1,000 tuples
abbrev pub many : RelTree
many =
    let sum = term_add (term_mul (term_lit (pos 1009)) (term_var 1)) (term_mul (term_lit (pos 1013)) (term_var 2)) in
    rel_and (rel_compare Le (term_var 0) sum) (rel_and (rel_compare Le sum (term_var 0))
    (rel_and (rel_compare Le (term_lit (pos 0)) (term_var 2)) (rel_compare Le (term_var 2) (term_lit (pos 0)))))

pub many-tuples : tuple_count (Int ∷ []) (Int ∷ Int ∷ []) many ≡ 1009
unfolding arms arm first_systems disjuncts system_of_case write_atom run run_for stage clean_stage equation_stage bound_stage unknown_stage row_stage clean mix
    factors_of merge merge_passes merge_factor last pick searched dropped searched_by bound bound_passes bound_factor gcd_by factors_by parts_of
many-tuples = refl
