-- Worked questions of small chooses, their runs, and what these say.
use Rattle.std.proofs.Common.{◌≡◌, ◌∙◌, ap, sym, pos, negsuc, refl, List, [], ◌∷◌, take, Some, None, arith}
use Rattle.cf_tree.specs.declared.base.Base.TheVariants.{Int, Bool, Set}
use Rattle.cf_tree.specs.declared.base.Order.TheVariants.{Eq, Ne, Ge}
use Rattle.cf_tree.specs.Meaning.{means, peak}
use Rattle.cf_tree.specs.RelTree.{empty_set, set_var, union_of, inter_of, diff_of, term_lit, term_var, term_card, term_neg, term_add, term_sub, term_mul, term_div, term_mod, term_abs}
use Rattle.cf_tree.specs.RelTree.{RelTree, rel_true, rel_false, rel_compare, rel_same_set, rel_other_set, rel_subset, rel_divides, rel_and, rel_or, rel_not}
use Rattle.cf_tree.specs.Relation.{Sol}
use Rattle.cf_tree.specs.Values.{Value, number, number_of, elements, values, no_solution}
use Rattle.cf_num.specs.Divisors.{gcd_by, factors_by}
use Rattle.cf_num.specs.Parts.{parts_of}
use Rattle.cf_linear.specs.declared.refusal.LimitKind.TheVariants.{Cases}
use Rattle.cf_linear.specs.declared.refusal.Refusal.TheVariants.{Limit}
use Rattle.cf_linear.specs.Steps.{clean, mix, factors_of, merge, merge_passes, merge_factor, last, pick, searched, dropped, searched_by, bound, bound_passes, bound_factor}
use Rattle.cf_linear.specs.Stages.{run, run_for, clean_stage, equation_stage, bound_stage, unknown_stage, row_stage, stage}
use Rattle.cf_linear.specs.Cases.{disjuncts, case_count, system_of_case, first_systems, write_atom, written_passes}
use Rattle.cf_linear.specs.Arm.{arm}
use Rattle.cf_linear.specs.Chooses.{arms, first_refused, refusal_by, limit}
use Rattle.cf_choose.specs.Laws.{IsUnrefused}
use Rattle.cf_warn.specs.Questions.{parameters, parameter_bases, halves, rel_at, level_in, twice_outputs, twice}
use Rattle.cf_warn.specs.Solutions.{question_code, AreUnique, AreTwo}
use Rattle.cf_warn.proofs.ClassLaws.{one_output}
use Rattle.cf_warn.proofs.SolutionLaws.{question_solution, question_none, unique, two_values}
use Rattle.cf_warn.proofs.TwiceLaws.{twice_typed, twice_linear, twice_are_outputs}

-- ---- trees of halves
none-halves : halves rel_or rel_false [] ≡ rel_false
none-halves = refl

five-halves : halves term_add (term_lit (pos 0)) (term_var 0 ∷ term_var 1 ∷ term_var 2 ∷ term_var 3 ∷ term_var 4 ∷ []) ≡
    term_add (term_add (term_var 0) (term_var 1)) (term_add (term_var 2) (term_add (term_var 3) (term_var 4)))
five-halves = refl

-- ---- parameters: those variables in scope that occur, by level
abbrev apart : RelTree
apart = rel_and (rel_compare Eq (term_var 4) (term_card (set_var 3))) (rel_compare Ne (term_var 4) (term_var 1))

apart-parameters : parameters (Bool ∷ Int ∷ Int ∷ Set ∷ []) apart ≡ 1 ∷ 3 ∷ []
apart-parameters = refl

apart-bases : parameter_bases (Bool ∷ Int ∷ Int ∷ Set ∷ []) apart ≡ Int ∷ Set ∷ []
apart-bases = refl

-- each form over other levels: parameters first, outputs behind them
forms-at : rel_at (level_in 4 (1 ∷ 3 ∷ []) 5)
    (rel_or (rel_not (rel_divides (pos 2) (term_neg (term_add (term_var 1) (term_sub (term_var 4) (term_mul (term_lit (pos 3)) (term_var 5)))))))
    (rel_and (rel_compare Ge (term_div (term_mod (term_abs (term_var 4)) (pos 5)) (pos 7)) (term_card (union_of (set_var 3) empty_set)))
    (rel_or (rel_and rel_true rel_false)
    (rel_and (rel_same_set (set_var 3) (inter_of (set_var 6) (set_var 3)))
    (rel_and (rel_other_set (diff_of (set_var 6) (set_var 3)) empty_set) (rel_subset (set_var 6) (set_var 3)))))))
    ≡ rel_or (rel_not (rel_divides (pos 2) (term_neg (term_add (term_var 0) (term_sub (term_var 7) (term_mul (term_lit (pos 3)) (term_var 8)))))))
    (rel_and (rel_compare Ge (term_div (term_mod (term_abs (term_var 7)) (pos 5)) (pos 7)) (term_card (union_of (set_var 1) empty_set)))
    (rel_or (rel_and rel_true rel_false)
    (rel_and (rel_same_set (set_var 1) (inter_of (set_var 9) (set_var 1)))
    (rel_and (rel_other_set (diff_of (set_var 9) (set_var 1)) empty_set) (rel_subset (set_var 9) (set_var 1))))))
forms-at = refl

-- ---- one number: outputs are unique
abbrev pub three : RelTree
three = rel_compare Eq (term_var 0) (term_lit (pos 3))

three-twice : twice [] (Int ∷ []) 1 three ≡
    rel_and (rel_compare Eq (term_var 0) (term_lit (pos 3)))
    (rel_and (rel_compare Eq (term_var 1) (term_lit (pos 3))) (rel_compare Ne (term_var 0) (term_var 1)))
three-twice = refl

pub three-limit : limit [] (twice_outputs [] (Int ∷ []) three) (twice [] (Int ∷ []) 1 three) ≡ None
unfolding arms arm first_systems disjuncts system_of_case write_atom run run_for stage clean_stage equation_stage bound_stage unknown_stage row_stage clean mix
    factors_of merge merge_passes merge_factor last pick searched dropped searched_by bound bound_passes bound_factor gcd_by factors_by parts_of limit
    refusal_by case_count written_passes first_refused
three-limit = refl

pub three-run : means (question_code (twice_outputs [] (Int ∷ []) three) (twice [] (Int ∷ []) 1 three)) [] ≡ no_solution 1
unfolding arms arm first_systems disjuncts system_of_case write_atom run run_for stage clean_stage equation_stage bound_stage unknown_stage row_stage clean mix
    factors_of merge merge_passes merge_factor last pick searched dropped searched_by bound bound_passes bound_factor gcd_by factors_by parts_of
three-run = refl

three-unrefused : IsUnrefused [] (twice_outputs [] (Int ∷ []) three) (twice [] (Int ∷ []) 1 three)
three-unrefused = record {
  typed = twice_typed [] (Int ∷ []) three (refl, omega arith) one_output 1;
  linear = twice_linear [] (Int ∷ []) three (refl, omega arith) one_output 1 (tt, tt);
  are_outputs = twice_are_outputs [] (Int ∷ []) three (refl, omega arith) one_output;
  within = three-limit;
}

pub three-peak : peak (question_code (twice_outputs [] (Int ∷ []) three) (twice [] (Int ∷ []) 1 three)) [] ≡ 1
unfolding arms arm first_systems disjuncts system_of_case write_atom run run_for stage clean_stage equation_stage bound_stage unknown_stage row_stage clean mix
    factors_of merge merge_passes merge_factor last pick searched dropped searched_by bound bound_passes bound_factor gcd_by factors_by parts_of
three-peak = refl

pub three-unique : AreUnique [] (Int ∷ []) 1 three
three-unique =
    unique [] (Int ∷ []) 1 three (refl, omega arith) one_output
    (question_none (twice_outputs [] (Int ∷ []) three) (twice [] (Int ∷ []) 1 three) 1 three-unrefused three-run)

-- ---- a number from a parameter on, where a truth value that does not occur is in scope: two outputs at the sample -1
abbrev pub above : RelTree
above = rel_compare Ge (term_var 2) (term_var 1)

above-outputs : twice_outputs (Bool ∷ Int ∷ []) (Int ∷ []) above ≡ Int ∷ Int ∷ Int ∷ []
above-outputs = refl

above-twice : twice (Bool ∷ Int ∷ []) (Int ∷ []) 1 above ≡
    rel_and (rel_compare Ge (term_var 1) (term_var 0)) (rel_and (rel_compare Ge (term_var 2) (term_var 0)) (rel_compare Ne (term_var 1) (term_var 2)))
above-twice = refl

pub above-run : means (question_code (twice_outputs (Bool ∷ Int ∷ []) (Int ∷ []) above) (twice (Bool ∷ Int ∷ []) (Int ∷ []) 1 above)) [] ≡
    values (number (negsuc 0) ∷ number (negsuc 0) ∷ number (pos 0) ∷ [])
unfolding arms arm first_systems disjuncts system_of_case write_atom run run_for stage clean_stage equation_stage bound_stage unknown_stage row_stage clean mix
    factors_of merge merge_passes merge_factor last pick searched dropped searched_by bound bound_passes bound_factor gcd_by factors_by parts_of
above-run = refl

pub above-limit : limit [] (twice_outputs (Bool ∷ Int ∷ []) (Int ∷ []) above) (twice (Bool ∷ Int ∷ []) (Int ∷ []) 1 above) ≡ None
unfolding arms arm first_systems disjuncts system_of_case write_atom run run_for stage clean_stage equation_stage bound_stage unknown_stage row_stage clean mix
    factors_of merge merge_passes merge_factor last pick searched dropped searched_by bound bound_passes bound_factor gcd_by factors_by parts_of limit
    refusal_by case_count written_passes first_refused
above-limit = refl

pub above-peak : peak (question_code (twice_outputs (Bool ∷ Int ∷ []) (Int ∷ []) above) (twice (Bool ∷ Int ∷ []) (Int ∷ []) 1 above)) [] ≡ 1
unfolding arms arm first_systems disjuncts system_of_case write_atom run run_for stage clean_stage equation_stage bound_stage unknown_stage row_stage clean mix
    factors_of merge merge_passes merge_factor last pick searched dropped searched_by bound bound_passes bound_factor gcd_by factors_by parts_of
above-peak = refl

above-unrefused : IsUnrefused [] (twice_outputs (Bool ∷ Int ∷ []) (Int ∷ []) above) (twice (Bool ∷ Int ∷ []) (Int ∷ []) 1 above)
above-unrefused = record {
  typed = twice_typed (Bool ∷ Int ∷ []) (Int ∷ []) above (refl, refl) one_output 1;
  linear = twice_linear (Bool ∷ Int ∷ []) (Int ∷ []) above (refl, refl) one_output 1 (tt, tt);
  are_outputs = twice_are_outputs (Bool ∷ Int ∷ []) (Int ∷ []) above (refl, refl) one_output;
  within = above-limit;
}

pub above-two : AreTwo (Bool ∷ Int ∷ []) (Int ∷ []) 1 above (number (negsuc 0) ∷ []) (number (negsuc 0) ∷ []) (number (pos 0) ∷ [])
above-two =
    two_values (Bool ∷ Int ∷ []) (Int ∷ []) 1 above (refl, refl) one_output (number (negsuc 0) ∷ []) (number (negsuc 0) ∷ []) (number (pos 0) ∷ []) refl refl
    (question_solution (twice_outputs (Bool ∷ Int ∷ []) (Int ∷ []) above) (twice (Bool ∷ Int ∷ []) (Int ∷ []) 1 above)
    (number (negsuc 0) ∷ number (negsuc 0) ∷ number (pos 0) ∷ []) above-unrefused above-run)

-- ---- two numbers: the copies differ in one of them
abbrev both : RelTree
both = rel_compare Eq (term_var 0) (term_var 1)

both-twice : twice [] (Int ∷ Int ∷ []) 2 both ≡
    rel_and (rel_compare Eq (term_var 0) (term_var 1)) (rel_and (rel_compare Eq (term_var 2) (term_var 3))
    (rel_or (rel_compare Ne (term_var 0) (term_var 2)) (rel_compare Ne (term_var 1) (term_var 3))))
both-twice = refl

-- the second is hidden: the copies differ in the first
both-shown : twice [] (Int ∷ Int ∷ []) 1 both ≡
    rel_and (rel_compare Eq (term_var 0) (term_var 1)) (rel_and (rel_compare Eq (term_var 2) (term_var 3)) (rel_compare Ne (term_var 0) (term_var 2)))
both-shown = refl

-- 3 and any number: unique where the second is hidden, and two outputs where both are shown
three-shown : means (question_code (twice_outputs [] (Int ∷ Int ∷ []) three) (twice [] (Int ∷ Int ∷ []) 1 three)) [] ≡ no_solution 1
unfolding arms arm first_systems disjuncts system_of_case write_atom run run_for stage clean_stage equation_stage bound_stage unknown_stage row_stage clean mix
    factors_of merge merge_passes merge_factor last pick searched dropped searched_by bound bound_passes bound_factor gcd_by factors_by parts_of
three-shown = refl

three-both : means (question_code (twice_outputs [] (Int ∷ Int ∷ []) three) (twice [] (Int ∷ Int ∷ []) 2 three)) [] ≡
    values (number (pos 3) ∷ number (negsuc 0) ∷ number (pos 3) ∷ number (pos 0) ∷ [])
unfolding arms arm first_systems disjuncts system_of_case write_atom run run_for stage clean_stage equation_stage bound_stage unknown_stage row_stage clean mix
    factors_of merge merge_passes merge_factor last pick searched dropped searched_by bound bound_passes bound_factor gcd_by factors_by parts_of
three-both = refl

three-first : (xs : List Value) → Sol (Int ∷ Int ∷ []) three [] xs → take 1 xs ≡ number (pos 3) ∷ []
three-first [] s = absurd s.0
three-first (v ∷ xs) s = let (z, is) = s.0.0 in ap (λ w. w ∷ []) (is ∙ ap number (sym (ap number_of is) ∙ s.1))

three-and-any : AreUnique [] (Int ∷ Int ∷ []) 1 three
three-and-any [] xs ys have p q = three-first xs p ∙ sym (three-first ys q)
three-and-any (v ∷ vs) xs ys have p q = absurd have

-- ---- subsets of a set
abbrev parts : RelTree
parts = rel_subset (set_var 1) (set_var 0)

parts-twice : twice (Set ∷ []) (Set ∷ []) 1 parts ≡
    rel_and (rel_subset (set_var 1) (set_var 0)) (rel_and (rel_subset (set_var 2) (set_var 0)) (rel_other_set (set_var 1) (set_var 2)))
parts-twice = refl

parts-run : means (question_code (twice_outputs (Set ∷ []) (Set ∷ []) parts) (twice (Set ∷ []) (Set ∷ []) 1 parts)) [] ≡
    values (elements (pos 0 ∷ []) ∷ elements (pos 0 ∷ []) ∷ elements [] ∷ [])
unfolding arms arm first_systems disjuncts system_of_case write_atom run run_for stage clean_stage equation_stage bound_stage unknown_stage row_stage clean mix
    factors_of merge merge_passes merge_factor last pick searched dropped searched_by bound bound_passes bound_factor gcd_by factors_by parts_of
parts-run = refl

-- ---- doubts: the question has 2 * 32 * 32 cases; the second of the outputs passes the limit of numbers
abbrev pub not_few : RelTree
not_few = rel_and (rel_and (rel_and (rel_and (rel_compare Ne (term_var 0) (term_lit (pos 0))) (rel_compare Ne (term_var 0) (term_lit (pos 1))))
    (rel_compare Ne (term_var 0) (term_lit (pos 2)))) (rel_compare Ne (term_var 0) (term_lit (pos 3)))) (rel_compare Ne (term_var 0) (term_lit (pos 4)))

pub not_few-limit : limit [] (twice_outputs [] (Int ∷ []) not_few) (twice [] (Int ∷ []) 1 not_few) ≡ Some (Limit Cases 2048)
unfolding limit refusal_by case_count
not_few-limit = refl

abbrev pub most : RelTree
most = rel_compare Ge (term_var 0) (term_lit (pos 170141183460469231731687303715884105727))

pub most-run : peak (question_code (twice_outputs [] (Int ∷ []) most) (twice [] (Int ∷ []) 1 most)) [] ≡ 170141183460469231731687303715884105728
unfolding arms arm first_systems disjuncts system_of_case write_atom run run_for stage clean_stage equation_stage bound_stage unknown_stage row_stage clean mix
    factors_of merge merge_passes merge_factor last pick searched dropped searched_by bound bound_passes bound_factor gcd_by factors_by parts_of
most-run = refl

pub most-limit : limit [] (twice_outputs [] (Int ∷ []) most) (twice [] (Int ∷ []) 1 most) ≡ None
unfolding arms arm first_systems disjuncts system_of_case write_atom run run_for stage clean_stage equation_stage bound_stage unknown_stage row_stage clean mix
    factors_of merge merge_passes merge_factor last pick searched dropped searched_by bound bound_passes bound_factor gcd_by factors_by parts_of limit
    refusal_by case_count written_passes first_refused
most-limit = refl
