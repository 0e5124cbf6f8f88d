-- The elimination on worked examples: each is computed.
use Rattle.std.proofs.Common.{◌≡◌, pos, negsuc, refl, [], ◌∷◌, map, true, Some}
use Rattle.cf_tree.specs.declared.base.Base.TheVariants.{Int, Set}
use Rattle.cf_tree.specs.declared.base.Order.TheVariants.{Eq, Le, Ge}
use Rattle.cf_tree.specs.RelTree.{empty_set, set_var, inter_of, term_lit, term_var, term_card, term_add, term_mul, term_div, term_mod, term_abs, RelTree, rel_true, rel_compare, rel_same_set, rel_divides, rel_and}
use Rattle.cf_tree.specs.CodeTree.{code_lit, code_var, code_sum, code_mul, code_div, code_max, code_compare, code_union, code_card, code_slice, code_fresh, let_item, need_item, arm_of, codes_of, items_of}
use Rattle.cf_linear.specs.declared.refusal.LimitKind.TheVariants.{Cases, Rows, Columns, Search, Sets}
use Rattle.cf_linear.specs.declared.refusal.Refusal.TheVariants.{Past, Limit}
use Rattle.cf_linear.specs.Systems.{System}
use Rattle.cf_num.specs.Divisors.{gcd_by, factors_by}
use Rattle.cf_num.specs.Parts.{parts_of}
use Rattle.cf_linear.specs.Steps.{clean, mix, factors_of, merge, merge_passes, merge_factor, last, pick, searched, dropped, searched_by, bound, bound_passes, bound_factor}
use Rattle.cf_linear.specs.Stages.{run, run_for, limits, clean_stage, equation_stage, bound_stage, unknown_stage, row_stage, stage}
use Rattle.cf_linear.specs.Layout.{layout_of}
use Rattle.cf_linear.specs.Cases.{disjuncts, case_count, system_of_case, first_systems, write_atom, written_passes}
use Rattle.cf_linear.specs.Arm.{arm}
use Rattle.cf_linear.specs.Chooses.{arms, made_of, choose_limits, first_refused, refusal_by, limit, last_factor, growth_of_case, growth}

abbrev seconds : RelTree
seconds = rel_and (rel_and (rel_and (rel_and
    (rel_and (rel_compare Eq (term_add (term_add (term_mul (term_var 1) (term_lit (pos 3600))) (term_mul (term_var 2) (term_lit (pos 60)))) (term_var 3))
    (term_var 0)) (rel_compare Le (term_lit (pos 0)) (term_var 1))) (rel_compare Le (term_lit (pos 0)) (term_var 2)))
    (rel_compare Le (term_var 2) (term_lit (pos 59)))) (rel_compare Le (term_lit (pos 0)) (term_var 3))) (rel_compare Le (term_var 3) (term_lit (pos 59)))

pub seconds-arms : arms (Int ∷ []) (Int ∷ Int ∷ Int ∷ []) seconds ≡
    arm_of ([]) (items_of (
    let_item (code_div (code_var 0) (pos 60)) ∷
    let_item (code_div (code_sum (codes_of ((code_lit (pos 59)) ∷ (code_mul (code_lit (negsuc 0)) (code_var 0)) ∷ []))) (pos 60)) ∷
    need_item (code_compare Ge (code_lit (pos 59)) (code_lit (pos 0))) ∷
    need_item (code_compare Ge (code_sum (codes_of ((code_var 1) ∷ (code_var 2) ∷ []))) (code_lit (pos 0))) ∷
    let_item (code_div (code_sum (codes_of ((code_lit (pos 59)) ∷ (code_var 2) ∷ []))) (pos 60)) ∷
    let_item (code_div (code_var 1) (pos 60)) ∷
    need_item (code_compare Ge (code_var 4) (code_lit (pos 0))) ∷
    need_item (code_compare Ge (code_sum (codes_of ((code_var 3) ∷ (code_var 4) ∷ []))) (code_lit (pos 0))) ∷
    let_item (code_mul (code_lit (negsuc 0)) (code_var 4)) ∷
    let_item (code_max (codes_of ((code_sum (codes_of ((code_lit (negsuc 58)) ∷ (code_mul (code_lit (pos 60)) (code_var 5)) ∷ []))) ∷
    (code_mul (code_lit (negsuc 0)) (code_var 1)) ∷ []))) ∷
    let_item (code_var 0) ∷
    let_item (code_mul (code_lit (negsuc 0)) (code_var 6)) ∷
    let_item (code_sum (codes_of ((code_var 7) ∷ (code_mul (code_lit (pos 60)) (code_var 6)) ∷ []))) ∷
    let_item (code_mul (code_lit (negsuc 0)) (code_var 5)) ∷
    let_item (code_sum (codes_of ((code_var 8) ∷ (code_mul (code_lit (pos 60)) (code_var 5)) ∷ []))) ∷ []))
    (codes_of ((code_var 10) ∷ (code_var 11) ∷ (code_var 9) ∷ [])) ∷
    []
unfolding arms arm first_systems disjuncts system_of_case write_atom run run_for stage clean_stage equation_stage bound_stage unknown_stage row_stage clean mix factors_of merge merge_passes merge_factor last pick searched dropped searched_by bound bound_passes bound_factor gcd_by factors_by parts_of
seconds-arms = refl

pub seconds-growth : growth (Int ∷ []) (Int ∷ Int ∷ Int ∷ []) seconds ≡ 94050507600
unfolding arms arm first_systems disjuncts system_of_case write_atom run run_for stage clean_stage equation_stage bound_stage unknown_stage row_stage clean mix factors_of merge merge_passes merge_factor last pick searched dropped searched_by bound bound_passes bound_factor gcd_by factors_by parts_of growth growth_of_case
seconds-growth = refl

pub seconds-factors : map (λ m. map (λ a. a.factor) (run limits m).taken) (first_systems (layout_of (Int ∷ []) (Int ∷ Int ∷ Int ∷ []) seconds) seconds) ≡
    (1 ∷ 61 ∷ 61 ∷ 1 ∷ 60 ∷ 119 ∷ 60 ∷ 1 ∷ 1 ∷ []) ∷ []
unfolding arms arm first_systems disjuncts system_of_case write_atom run run_for stage clean_stage equation_stage bound_stage unknown_stage row_stage clean mix factors_of merge merge_passes merge_factor last pick searched dropped searched_by bound bound_passes bound_factor gcd_by factors_by parts_of
seconds-factors = refl

pub seconds-last-factor : map (λ m. last_factor (layout_of (Int ∷ []) (Int ∷ Int ∷ Int ∷ []) seconds) (made_of m (run limits m)))
    (first_systems (layout_of (Int ∷ []) (Int ∷ Int ∷ Int ∷ []) seconds) seconds) ≡ 59 ∷ []
unfolding arms arm first_systems disjuncts system_of_case write_atom run run_for stage clean_stage equation_stage bound_stage unknown_stage row_stage clean mix factors_of merge merge_passes merge_factor last pick searched dropped searched_by bound bound_passes bound_factor gcd_by factors_by parts_of
seconds-last-factor = refl

abbrev rounding : RelTree
rounding = rel_and (rel_compare Le (term_var 0) (term_mul (term_lit (pos 2)) (term_var 2)))
    (rel_compare Le (term_mul (term_lit (pos 2)) (term_var 2)) (term_var 1))

pub rounding-arms : arms (Int ∷ Int ∷ []) (Int ∷ []) rounding ≡
    arm_of ([]) (items_of (
    let_item (code_div (code_mul (code_lit (negsuc 0)) (code_var 0)) (pos 2)) ∷
    let_item (code_div (code_var 1) (pos 2)) ∷
    need_item (code_compare Ge (code_sum (codes_of ((code_var 2) ∷ (code_var 3) ∷ []))) (code_lit (pos 0))) ∷
    let_item (code_mul (code_lit (negsuc 0)) (code_var 2)) ∷ [])) (codes_of ((code_var 4) ∷ [])) ∷
    []
unfolding arms arm first_systems disjuncts system_of_case write_atom run run_for stage clean_stage equation_stage bound_stage unknown_stage row_stage clean mix factors_of merge merge_passes merge_factor last pick searched dropped searched_by bound bound_passes bound_factor gcd_by factors_by parts_of
rounding-arms = refl

pub rounding-growth : growth (Int ∷ Int ∷ []) (Int ∷ []) rounding ≡ 2
unfolding arms arm first_systems disjuncts system_of_case write_atom run run_for stage clean_stage equation_stage bound_stage unknown_stage row_stage clean mix factors_of merge merge_passes merge_factor last pick searched dropped searched_by bound bound_passes bound_factor gcd_by factors_by parts_of growth growth_of_case
rounding-growth = refl

abbrev remainders : RelTree
remainders = rel_and (rel_and (rel_and (rel_compare Le (term_var 0)
    (term_add (term_mul (term_lit (pos 3)) (term_var 1)) (term_mul (term_lit (pos 5)) (term_var 2))))
    (rel_compare Le (term_add (term_mul (term_lit (pos 3)) (term_var 1)) (term_mul (term_lit (pos 5)) (term_var 2))) (term_var 0)))
    (rel_compare Le (term_lit (pos 0)) (term_var 2))) (rel_compare Le (term_var 2) (term_lit (pos 1)))

pub remainders-arms : arms (Int ∷ []) (Int ∷ Int ∷ []) remainders ≡
    arm_of (3 ∷ []) (items_of (
    need_item (code_compare Ge (code_mul (code_lit (negsuc 0)) (code_var 1)) (code_lit (pos 0))) ∷
    let_item (code_div (code_sum (codes_of ((code_mul (code_lit (negsuc 0)) (code_var 0)) ∷ (code_mul (code_lit (negsuc 0)) (code_var 1)) ∷ []))) (pos 3)) ∷
    let_item (code_div (code_sum (codes_of ((code_lit (pos 1)) ∷ (code_var 0) ∷ (code_var 1) ∷ []))) (pos 3)) ∷
    need_item (code_compare Ge (code_sum (codes_of ((code_var 2) ∷ (code_var 3) ∷ []))) (code_lit (pos 0))) ∷
    let_item (code_mul (code_lit (negsuc 0)) (code_var 2)) ∷
    let_item (code_sum (codes_of ((code_mul (code_lit (negsuc 0)) (code_var 0)) ∷ (code_mul (code_lit (negsuc 0)) (code_var 1)) ∷ []))) ∷
    let_item (code_sum (codes_of ((code_var 5) ∷ (code_mul (code_lit (pos 3)) (code_var 4)) ∷ []))) ∷
    let_item (code_sum (codes_of ((code_mul (code_lit (negsuc 1)) (code_var 5)) ∷ (code_mul (code_lit (negsuc 4)) (code_var 4)) ∷ []))) ∷
    let_item (code_var 7) ∷ [])) (codes_of ((code_var 8) ∷ (code_var 6) ∷ [])) ∷
    []
unfolding arms arm first_systems disjuncts system_of_case write_atom run run_for stage clean_stage equation_stage bound_stage unknown_stage row_stage clean mix factors_of merge merge_passes merge_factor last pick searched dropped searched_by bound bound_passes bound_factor gcd_by factors_by parts_of
remainders-arms = refl

pub remainders-growth : growth (Int ∷ []) (Int ∷ Int ∷ []) remainders ≡ 1512
unfolding arms arm first_systems disjuncts system_of_case write_atom run run_for stage clean_stage equation_stage bound_stage unknown_stage row_stage clean mix factors_of merge merge_passes merge_factor last pick searched dropped searched_by bound bound_passes bound_factor gcd_by factors_by parts_of growth growth_of_case
remainders-growth = refl

abbrev apart : RelTree
apart = rel_and (rel_same_set (inter_of (set_var 2) (set_var 0)) empty_set) (rel_compare Eq (term_card (set_var 2)) (term_var 1))

pub apart-arms : arms (Set ∷ Int ∷ []) (Set ∷ []) apart ≡
    arm_of ([]) (items_of (
    let_item (code_var 0) ∷
    let_item (code_card (code_var 2)) ∷
    need_item (code_compare Ge (code_lit (pos 0)) (code_lit (pos 0))) ∷
    need_item (code_compare Ge (code_var 1) (code_lit (pos 0))) ∷
    need_item (code_compare Ge (code_var 3) (code_lit (pos 0))) ∷
    let_item (code_var 3) ∷
    let_item (code_var 1) ∷
    let_item (code_lit (pos 0)) ∷
    let_item (code_fresh (code_var 0) (code_var 5)) ∷ []))
    (codes_of ((code_union (codes_of ((code_slice (code_var 7) (code_lit (pos 0)) (code_var 5)) ∷ (code_slice (code_var 2) (code_var 4) (code_var 6)) ∷
    []))) ∷ [])) ∷
    []
unfolding arms arm first_systems disjuncts system_of_case write_atom run run_for stage clean_stage equation_stage bound_stage unknown_stage row_stage clean mix factors_of merge merge_passes merge_factor last pick searched dropped searched_by bound bound_passes bound_factor gcd_by factors_by parts_of
apart-arms = refl

pub apart-growth : growth (Set ∷ Int ∷ []) (Set ∷ []) apart ≡ 4
unfolding arms arm first_systems disjuncts system_of_case write_atom run run_for stage clean_stage equation_stage bound_stage unknown_stage row_stage clean mix factors_of merge merge_passes merge_factor last pick searched dropped searched_by bound bound_passes bound_factor gcd_by factors_by parts_of growth growth_of_case
apart-growth = refl

abbrev search : RelTree
search = rel_and (rel_compare Le (term_var 0) (term_add (term_mul (term_lit (pos 2097152)) (term_var 2)) (term_mul (term_lit (pos 2097153)) (term_var 3))))
    (rel_compare Le (term_add (term_mul (term_lit (pos 2097152)) (term_var 2)) (term_mul (term_lit (pos 2097153)) (term_var 3))) (term_var 1))

pub search-limit : limit (Int ∷ Int ∷ []) (Int ∷ Int ∷ []) search ≡ Some (Limit Search 2097152)
unfolding arms arm first_systems disjuncts system_of_case write_atom run run_for stage clean_stage equation_stage bound_stage unknown_stage row_stage clean mix factors_of merge merge_passes merge_factor last pick searched dropped searched_by bound bound_passes bound_factor gcd_by factors_by parts_of limit refusal_by case_count written_passes first_refused
search-limit = refl

abbrev coefficients : RelTree
coefficients = rel_and (rel_compare Eq (term_add (term_mul (term_lit (pos 18446744073709551616)) (term_var 2)) (term_var 3)) (term_var 0))
    (rel_compare Eq (term_add (term_var 2) (term_mul (term_lit (pos 18446744073709551616)) (term_var 3))) (term_var 1))

pub coefficients-limit : limit (Int ∷ Int ∷ []) (Int ∷ Int ∷ []) coefficients ≡ Some (Past)
unfolding arms arm first_systems disjuncts system_of_case write_atom run run_for stage clean_stage equation_stage bound_stage unknown_stage row_stage clean mix factors_of merge merge_passes merge_factor last pick searched dropped searched_by bound bound_passes bound_factor gcd_by factors_by parts_of limit refusal_by case_count written_passes first_refused
coefficients-limit = refl

abbrev many_cases : RelTree
many_cases = rel_and (rel_and (rel_and (rel_and
    (rel_and (rel_and (rel_and (rel_and (rel_and
    (rel_and (rel_compare Ge (term_abs (term_var 1)) (term_var 0)) (rel_compare Ge (term_abs (term_var 1)) (term_var 0)))
    (rel_compare Ge (term_abs (term_var 1)) (term_var 0))) (rel_compare Ge (term_abs (term_var 1)) (term_var 0)))
    (rel_compare Ge (term_abs (term_var 1)) (term_var 0))) (rel_compare Ge (term_abs (term_var 1)) (term_var 0)))
    (rel_compare Ge (term_abs (term_var 1)) (term_var 0))) (rel_compare Ge (term_abs (term_var 1)) (term_var 0)))
    (rel_compare Ge (term_abs (term_var 1)) (term_var 0))) (rel_compare Ge (term_abs (term_var 1)) (term_var 0)))
    (rel_compare Ge (term_abs (term_var 1)) (term_var 0))

pub many_cases-limit : limit (Int ∷ []) (Int ∷ []) many_cases ≡ Some (Limit Cases 2048)
unfolding arms arm first_systems disjuncts system_of_case write_atom run run_for stage clean_stage equation_stage bound_stage unknown_stage row_stage clean mix factors_of merge merge_passes merge_factor last pick searched dropped searched_by bound bound_passes bound_factor gcd_by factors_by parts_of limit refusal_by case_count written_passes first_refused
many_cases-limit = refl

abbrev many_rows : RelTree
many_rows = rel_and (rel_and (rel_and (rel_and
    (rel_and (rel_and (rel_and (rel_compare Le (term_mul (term_lit (pos 1)) (term_var 0)) (term_var 2))
    (rel_compare Le (term_mul (term_lit (pos 2)) (term_var 0)) (term_var 2))) (rel_compare Le (term_mul (term_lit (pos 3)) (term_var 0)) (term_var 2)))
    (rel_compare Le (term_mul (term_lit (pos 4)) (term_var 0)) (term_var 2))) (rel_compare Le (term_var 2) (term_mul (term_lit (pos 1)) (term_var 1))))
    (rel_compare Le (term_var 2) (term_mul (term_lit (pos 2)) (term_var 1)))) (rel_compare Le (term_var 2) (term_mul (term_lit (pos 3)) (term_var 1))))
    (rel_compare Le (term_var 2) (term_mul (term_lit (pos 4)) (term_var 1)))

pub many_rows-limit : refusal_by (record choose_limits { each = record { search = 4; rows = 12; columns = 9 } })
    (layout_of (Int ∷ Int ∷ []) (Int ∷ []) many_rows) many_rows ≡ Some (Limit Rows 16)
unfolding arms arm first_systems disjuncts system_of_case write_atom run run_for stage clean_stage equation_stage bound_stage unknown_stage row_stage clean mix factors_of merge merge_passes merge_factor last pick searched dropped searched_by bound bound_passes bound_factor gcd_by factors_by parts_of limit refusal_by case_count written_passes first_refused
many_rows-limit = refl

abbrev many_columns : RelTree
many_columns = rel_and (rel_and (rel_and (rel_divides (pos 2) (term_add (term_var 1) (term_var 0))) (rel_divides (pos 2) (term_add (term_var 1) (term_var 0))))
    (rel_divides (pos 2) (term_add (term_var 1) (term_var 0)))) (rel_divides (pos 2) (term_add (term_var 1) (term_var 0)))

pub many_columns-limit : refusal_by (record choose_limits { each = record { search = 4; rows = 5; columns = 6 } })
    (layout_of (Int ∷ []) (Int ∷ []) many_columns) many_columns ≡ Some (Limit Columns 7)
unfolding arms arm first_systems disjuncts system_of_case write_atom run run_for stage clean_stage equation_stage bound_stage unknown_stage row_stage clean mix factors_of merge merge_passes merge_factor last pick searched dropped searched_by bound bound_passes bound_factor gcd_by factors_by parts_of limit refusal_by case_count written_passes first_refused
many_columns-limit = refl

pub many_sets-limit : limit [] (Set ∷ Set ∷ Set ∷ Set ∷ Set ∷ Set ∷ Set ∷ []) rel_true ≡ Some (Limit Sets 7)
unfolding limit refusal_by
many_sets-limit = refl

abbrev quotients : RelTree
quotients = rel_and (rel_compare Eq (term_div (term_var 1) (pos 3)) (term_var 0)) (rel_compare Eq (term_mod (term_var 1) (pos 3)) (term_lit (pos 1)))

pub quotients-first_systems : first_systems (layout_of (Int ∷ []) (Int ∷ []) quotients) quotients ≡ (record {
  known = 0 ∷ 1 ∷ [];
  unknown = 2 ∷ 3 ∷ 4 ∷ [];
  next = 5;
  equations = ((1, negsuc 0) ∷ (3, pos 1) ∷ []) ∷ ((0, negsuc 0) ∷ (2, pos 1) ∷ (4, negsuc 2) ∷ []) ∷ [];
  inequalities = ((2, pos 1) ∷ (3, negsuc 2) ∷ []) ∷ ((0, pos 2) ∷ (2, negsuc 0) ∷ (3, pos 3) ∷ []) ∷ ((2, pos 1) ∷ (4, negsuc 2) ∷ []) ∷
      ((0, pos 2) ∷ (2, negsuc 0) ∷ (4, pos 3) ∷ []) ∷ [];
  needs = 0;
}) ∷ []
unfolding arms arm first_systems disjuncts system_of_case write_atom run run_for stage clean_stage equation_stage bound_stage unknown_stage row_stage clean mix factors_of merge merge_passes merge_factor last pick searched dropped searched_by bound bound_passes bound_factor gcd_by factors_by parts_of
quotients-first_systems = refl

abbrev signs : RelTree
signs = rel_and (rel_compare Eq (term_abs (term_var 1)) (term_var 0)) (rel_compare Le (term_var 1) (term_lit (pos 0)))

pub signs-first_systems : first_systems (layout_of (Int ∷ []) (Int ∷ []) signs) signs ≡ (record {
  known = 0 ∷ 1 ∷ [];
  unknown = 2 ∷ [];
  next = 3;
  equations = ((1, negsuc 0) ∷ (2, pos 1) ∷ []) ∷ [];
  inequalities = ((2, pos 1) ∷ []) ∷ ((2, negsuc 0) ∷ []) ∷ [];
  needs = 0;
}) ∷ (record {
  known = 0 ∷ 1 ∷ [];
  unknown = 2 ∷ [];
  next = 3;
  equations = ((1, negsuc 0) ∷ (2, negsuc 0) ∷ []) ∷ [];
  inequalities = ((0, negsuc 0) ∷ (2, negsuc 0) ∷ []) ∷ ((2, negsuc 0) ∷ []) ∷ [];
  needs = 0;
}) ∷ []
unfolding arms arm first_systems disjuncts system_of_case write_atom run run_for stage clean_stage equation_stage bound_stage unknown_stage row_stage clean mix factors_of merge merge_passes merge_factor last pick searched dropped searched_by bound bound_passes bound_factor gcd_by factors_by parts_of
signs-first_systems = refl

abbrev two_searches : RelTree
two_searches = rel_and (rel_and (rel_and
    (rel_compare Le (term_var 0) (term_add (term_mul (term_lit (pos 3)) (term_var 4)) (term_mul (term_lit (pos 5)) (term_var 5))))
    (rel_compare Le (term_var 1) (term_add (term_mul (term_lit (pos 2)) (term_var 4)) (term_mul (term_lit (pos 7)) (term_var 5)))))
    (rel_compare Le (term_add (term_mul (term_lit (pos 9)) (term_var 4)) (term_mul (term_lit (pos 8)) (term_var 5))) (term_var 2)))
    (rel_compare Le (term_add (term_mul (term_lit (pos 5)) (term_var 4)) (term_mul (term_lit (pos 6)) (term_var 5))) (term_var 3))

pub two_searches-first_systems : first_systems (layout_of (Int ∷ Int ∷ Int ∷ Int ∷ []) (Int ∷ Int ∷ []) two_searches) two_searches ≡ (record {
  known = 0 ∷ 1 ∷ 2 ∷ 3 ∷ 4 ∷ [];
  unknown = 5 ∷ 6 ∷ [];
  next = 7;
  equations = [];
  inequalities = ((1, negsuc 0) ∷ (5, pos 3) ∷ (6, pos 5) ∷ []) ∷ ((2, negsuc 0) ∷ (5, pos 2) ∷ (6, pos 7) ∷ []) ∷
      ((3, pos 1) ∷ (5, negsuc 8) ∷ (6, negsuc 7) ∷ []) ∷ ((4, pos 1) ∷ (5, negsuc 4) ∷ (6, negsuc 5) ∷ []) ∷ [];
  needs = 0;
}) ∷ []
unfolding arms arm first_systems disjuncts system_of_case write_atom run run_for stage clean_stage equation_stage bound_stage unknown_stage row_stage clean mix factors_of merge merge_passes merge_factor last pick searched dropped searched_by bound bound_passes bound_factor gcd_by factors_by parts_of
two_searches-first_systems = refl

abbrev before_search : System
before_search = record {
  known = 0 ∷ 1 ∷ 2 ∷ 3 ∷ 4 ∷ [];
  unknown = 5 ∷ 6 ∷ [];
  next = 7;
  equations = [];
  inequalities = ((1, negsuc 0) ∷ (5, pos 3) ∷ (6, pos 5) ∷ []) ∷ ((2, negsuc 0) ∷ (5, pos 2) ∷ (6, pos 7) ∷ []) ∷
      ((3, pos 1) ∷ (5, negsuc 8) ∷ (6, negsuc 7) ∷ []) ∷ ((4, pos 1) ∷ (5, negsuc 4) ∷ (6, negsuc 5) ∷ []) ∷ [];
  needs = 0;
}

pub searched-both : (searched before_search 5 true).system ≡ record {
  known = 0 ∷ 1 ∷ 2 ∷ 3 ∷ 4 ∷ 7 ∷ 9 ∷ [];
  unknown = 5 ∷ 6 ∷ 8 ∷ 10 ∷ [];
  next = 11;
  equations = ((1, pos 1) ∷ (6, negsuc 4) ∷ (7, pos 1) ∷ (8, negsuc 2) ∷ []) ∷ ((2, pos 1) ∷ (6, negsuc 6) ∷ (9, pos 1) ∷ (10, negsuc 1) ∷ []) ∷ [];
  inequalities = ((5, pos 1) ∷ (8, negsuc 0) ∷ []) ∷ ((5, pos 1) ∷ (10, negsuc 0) ∷ []) ∷ ((3, pos 1) ∷ (5, negsuc 8) ∷ (6, negsuc 7) ∷ []) ∷
      ((4, pos 1) ∷ (5, negsuc 4) ∷ (6, negsuc 5) ∷ []) ∷ [];
  needs = 0;
}
unfolding arms arm first_systems disjuncts system_of_case write_atom run run_for stage clean_stage equation_stage bound_stage unknown_stage row_stage clean mix factors_of merge merge_passes merge_factor last pick searched dropped searched_by bound bound_passes bound_factor gcd_by factors_by parts_of
searched-both = refl
