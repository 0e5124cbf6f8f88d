-- Worked examples that hold down where new forms stand, and where a truth variable does.
use Rattle.std.specs.Prelude.{pos, true, false, ◌≡◌, [], ◌∷◌, refl}
use Rattle.cf_form.specs.Wide.{WideRel, WideSet, WideTerm, has_truth, is_plain, is_plain_set, is_plain_term, no_wides, set_has_truth, term_has_truth, wide_abs, wide_add, wide_and, wide_card, wide_chain, wide_compare, wide_diff, wide_div, wide_divides, wide_empty, wide_false, wide_if, wide_if_set, wide_if_truth, wide_implies, wide_inter, wide_lit, wide_max, wide_min, wide_mod, wide_more, wide_mul, wide_neg, wide_not, wide_or, wide_other, wide_other_set, wide_same, wide_same_set, wide_set, wide_sub, wide_subset, wide_true, wide_truth, wide_union, wide_var}
use Rattle.cf_tree.specs.declared.base.Order.TheVariants.{Le, Lt}

-- a number form, a set form and a relation without new forms, and with the truth variable of level 6
abbrev n : WideTerm
n = wide_var 0

abbrev m : WideTerm
m = wide_if (wide_truth 6) (wide_var 0) (wide_var 1)

abbrev s : WideSet
s = wide_set 2

abbrev t : WideSet
t = wide_if_set (wide_truth 6) (wide_set 2) (wide_set 3)

abbrev r : WideRel
r = wide_true

abbrev p : WideRel
p = wide_truth 6

terms_plain_1 : (is_plain_term (wide_lit (pos 3)) ≡ true) × (is_plain_term (wide_var 0) ≡ true) × (is_plain_term (wide_if p n (wide_var 1)) ≡ false)
    × (is_plain_term (wide_neg n) ≡ true) × (is_plain_term (wide_neg (wide_if p n (wide_var 1))) ≡ false) × (is_plain_term (wide_abs n) ≡ true)
    × (is_plain_term (wide_abs (wide_if p n (wide_var 1))) ≡ false) × (is_plain_term (wide_div n (pos 3)) ≡ true)
    × (is_plain_term (wide_div (wide_if p n (wide_var 1)) (pos 3)) ≡ false) × (is_plain_term (wide_mod n (pos 3)) ≡ true)
    × (is_plain_term (wide_mod (wide_if p n (wide_var 1)) (pos 3)) ≡ false) × (is_plain_term (wide_card s) ≡ true)
terms_plain_1 = (refl, refl, refl, refl, refl, refl, refl, refl, refl, refl, refl, refl)

terms_plain_2 : (is_plain_term (wide_card (wide_if_set p s (wide_set 3))) ≡ false) × (is_plain_term (wide_add n n) ≡ true)
    × (is_plain_term (wide_add (wide_if p n (wide_var 1)) n) ≡ false) × (is_plain_term (wide_add n (wide_if p n (wide_var 1))) ≡ false)
    × (is_plain_term (wide_sub n n) ≡ true) × (is_plain_term (wide_sub (wide_if p n (wide_var 1)) n) ≡ false)
    × (is_plain_term (wide_sub n (wide_if p n (wide_var 1))) ≡ false) × (is_plain_term (wide_mul n n) ≡ true)
    × (is_plain_term (wide_mul (wide_if p n (wide_var 1)) n) ≡ false) × (is_plain_term (wide_mul n (wide_if p n (wide_var 1))) ≡ false)
    × (is_plain_term (wide_if wide_false n n) ≡ false) × (is_plain_term (wide_if p n n) ≡ false)
terms_plain_2 = (refl, refl, refl, refl, refl, refl, refl, refl, refl, refl, refl, refl)

terms_plain_3 : (is_plain_term (wide_if r (wide_if p n (wide_var 1)) n) ≡ false) × (is_plain_term (wide_if r n (wide_if p n (wide_var 1))) ≡ false)
    × (is_plain_term (wide_min (wide_more n (wide_more n no_wides))) ≡ false)
    × (is_plain_term (wide_min (wide_more (wide_if p n (wide_var 1)) (wide_more n no_wides))) ≡ false)
    × (is_plain_term (wide_min (wide_more n (wide_more (wide_if p n (wide_var 1)) no_wides))) ≡ false)
    × (is_plain_term (wide_max (wide_more n (wide_more n no_wides))) ≡ false)
    × (is_plain_term (wide_max (wide_more (wide_if p n (wide_var 1)) (wide_more n no_wides))) ≡ false)
    × (is_plain_term (wide_max (wide_more n (wide_more (wide_if p n (wide_var 1)) no_wides))) ≡ false)
terms_plain_3 = (refl, refl, refl, refl, refl, refl, refl, refl)

terms_truth_1 : (term_has_truth 6 (wide_lit (pos 3)) ≡ false) × (term_has_truth 6 (wide_var 0) ≡ false)
    × (term_has_truth 6 (wide_if p n (wide_var 1)) ≡ true) × (term_has_truth 6 (wide_neg n) ≡ false)
    × (term_has_truth 6 (wide_neg (wide_if p n (wide_var 1))) ≡ true) × (term_has_truth 6 (wide_abs n) ≡ false)
    × (term_has_truth 6 (wide_abs (wide_if p n (wide_var 1))) ≡ true) × (term_has_truth 6 (wide_div n (pos 3)) ≡ false)
    × (term_has_truth 6 (wide_div (wide_if p n (wide_var 1)) (pos 3)) ≡ true) × (term_has_truth 6 (wide_mod n (pos 3)) ≡ false)
    × (term_has_truth 6 (wide_mod (wide_if p n (wide_var 1)) (pos 3)) ≡ true) × (term_has_truth 6 (wide_card s) ≡ false)
terms_truth_1 = (refl, refl, refl, refl, refl, refl, refl, refl, refl, refl, refl, refl)

terms_truth_2 : (term_has_truth 6 (wide_card (wide_if_set p s (wide_set 3))) ≡ true) × (term_has_truth 6 (wide_add n n) ≡ false)
    × (term_has_truth 6 (wide_add (wide_if p n (wide_var 1)) n) ≡ true) × (term_has_truth 6 (wide_add n (wide_if p n (wide_var 1))) ≡ true)
    × (term_has_truth 6 (wide_sub n n) ≡ false) × (term_has_truth 6 (wide_sub (wide_if p n (wide_var 1)) n) ≡ true)
    × (term_has_truth 6 (wide_sub n (wide_if p n (wide_var 1))) ≡ true) × (term_has_truth 6 (wide_mul n n) ≡ false)
    × (term_has_truth 6 (wide_mul (wide_if p n (wide_var 1)) n) ≡ true) × (term_has_truth 6 (wide_mul n (wide_if p n (wide_var 1))) ≡ true)
    × (term_has_truth 6 (wide_if wide_false n n) ≡ false) × (term_has_truth 6 (wide_if p n n) ≡ true)
terms_truth_2 = (refl, refl, refl, refl, refl, refl, refl, refl, refl, refl, refl, refl)

terms_truth_3 : (term_has_truth 6 (wide_if r (wide_if p n (wide_var 1)) n) ≡ true) × (term_has_truth 6 (wide_if r n (wide_if p n (wide_var 1))) ≡ true)
    × (term_has_truth 6 (wide_min (wide_more n (wide_more n no_wides))) ≡ false)
    × (term_has_truth 6 (wide_min (wide_more (wide_if p n (wide_var 1)) (wide_more n no_wides))) ≡ true)
    × (term_has_truth 6 (wide_min (wide_more n (wide_more (wide_if p n (wide_var 1)) no_wides))) ≡ true)
    × (term_has_truth 6 (wide_max (wide_more n (wide_more n no_wides))) ≡ false)
    × (term_has_truth 6 (wide_max (wide_more (wide_if p n (wide_var 1)) (wide_more n no_wides))) ≡ true)
    × (term_has_truth 6 (wide_max (wide_more n (wide_more (wide_if p n (wide_var 1)) no_wides))) ≡ true)
terms_truth_3 = (refl, refl, refl, refl, refl, refl, refl, refl)

sets_plain_1 : (is_plain_set wide_empty ≡ true) × (is_plain_set (wide_set 2) ≡ true) × (is_plain_set (wide_if_set p s (wide_set 3)) ≡ false)
    × (is_plain_set (wide_union s s) ≡ true) × (is_plain_set (wide_union (wide_if_set p s (wide_set 3)) s) ≡ false)
    × (is_plain_set (wide_union s (wide_if_set p s (wide_set 3))) ≡ false) × (is_plain_set (wide_inter s s) ≡ true)
    × (is_plain_set (wide_inter (wide_if_set p s (wide_set 3)) s) ≡ false) × (is_plain_set (wide_inter s (wide_if_set p s (wide_set 3))) ≡ false)
    × (is_plain_set (wide_diff s s) ≡ true) × (is_plain_set (wide_diff (wide_if_set p s (wide_set 3)) s) ≡ false)
    × (is_plain_set (wide_diff s (wide_if_set p s (wide_set 3))) ≡ false)
sets_plain_1 = (refl, refl, refl, refl, refl, refl, refl, refl, refl, refl, refl, refl)

sets_plain_2 : (is_plain_set (wide_if_set r s s) ≡ false) × (is_plain_set (wide_if_set p s s) ≡ false)
    × (is_plain_set (wide_if_set r (wide_if_set p s (wide_set 3)) s) ≡ false) × (is_plain_set (wide_if_set r s (wide_if_set p s (wide_set 3))) ≡ false)
sets_plain_2 = (refl, refl, refl, refl)

sets_truth_1 : (set_has_truth 6 wide_empty ≡ false) × (set_has_truth 6 (wide_set 2) ≡ false) × (set_has_truth 6 (wide_if_set p s (wide_set 3)) ≡ true)
    × (set_has_truth 6 (wide_union s s) ≡ false) × (set_has_truth 6 (wide_union (wide_if_set p s (wide_set 3)) s) ≡ true)
    × (set_has_truth 6 (wide_union s (wide_if_set p s (wide_set 3))) ≡ true) × (set_has_truth 6 (wide_inter s s) ≡ false)
    × (set_has_truth 6 (wide_inter (wide_if_set p s (wide_set 3)) s) ≡ true) × (set_has_truth 6 (wide_inter s (wide_if_set p s (wide_set 3))) ≡ true)
    × (set_has_truth 6 (wide_diff s s) ≡ false) × (set_has_truth 6 (wide_diff (wide_if_set p s (wide_set 3)) s) ≡ true)
    × (set_has_truth 6 (wide_diff s (wide_if_set p s (wide_set 3))) ≡ true)
sets_truth_1 = (refl, refl, refl, refl, refl, refl, refl, refl, refl, refl, refl, refl)

sets_truth_2 : (set_has_truth 6 (wide_if_set r s s) ≡ false) × (set_has_truth 6 (wide_if_set p s s) ≡ true)
    × (set_has_truth 6 (wide_if_set r (wide_if_set p s (wide_set 3)) s) ≡ true) × (set_has_truth 6 (wide_if_set r s (wide_if_set p s (wide_set 3))) ≡ true)
sets_truth_2 = (refl, refl, refl, refl)

relations_plain_1 : (is_plain r ≡ true) × (is_plain wide_false ≡ true) × (is_plain (wide_truth 6) ≡ false) × (is_plain (wide_compare Lt n n) ≡ true)
    × (is_plain (wide_compare Lt (wide_if p n (wide_var 1)) n) ≡ false) × (is_plain (wide_compare Lt n (wide_if p n (wide_var 1))) ≡ false)
    × (is_plain (wide_same_set s s) ≡ true) × (is_plain (wide_same_set (wide_if_set p s (wide_set 3)) s) ≡ false)
    × (is_plain (wide_same_set s (wide_if_set p s (wide_set 3))) ≡ false) × (is_plain (wide_other_set s s) ≡ true)
    × (is_plain (wide_other_set (wide_if_set p s (wide_set 3)) s) ≡ false) × (is_plain (wide_other_set s (wide_if_set p s (wide_set 3))) ≡ false)
relations_plain_1 = (refl, refl, refl, refl, refl, refl, refl, refl, refl, refl, refl, refl)

relations_plain_2 : (is_plain (wide_subset s s) ≡ true) × (is_plain (wide_subset (wide_if_set p s (wide_set 3)) s) ≡ false)
    × (is_plain (wide_subset s (wide_if_set p s (wide_set 3))) ≡ false) × (is_plain (wide_divides (pos 2) n) ≡ true)
    × (is_plain (wide_divides (pos 2) (wide_if p n (wide_var 1))) ≡ false) × (is_plain (wide_not r) ≡ true) × (is_plain (wide_not p) ≡ false)
    × (is_plain (wide_and r r) ≡ true) × (is_plain (wide_and p r) ≡ false) × (is_plain (wide_and r p) ≡ false) × (is_plain (wide_or r r) ≡ true)
    × (is_plain (wide_or p r) ≡ false)
relations_plain_2 = (refl, refl, refl, refl, refl, refl, refl, refl, refl, refl, refl, refl)

relations_plain_3 : (is_plain (wide_or r p) ≡ false) × (is_plain (wide_implies r r) ≡ false) × (is_plain (wide_implies p r) ≡ false)
    × (is_plain (wide_implies r p) ≡ false) × (is_plain (wide_same r r) ≡ false) × (is_plain (wide_same p r) ≡ false) × (is_plain (wide_same r p) ≡ false)
    × (is_plain (wide_other r r) ≡ false) × (is_plain (wide_other p r) ≡ false) × (is_plain (wide_other r p) ≡ false)
    × (is_plain (wide_if_truth r r r) ≡ false) × (is_plain (wide_if_truth p r r) ≡ false)
relations_plain_3 = (refl, refl, refl, refl, refl, refl, refl, refl, refl, refl, refl, refl)

relations_plain_4 : (is_plain (wide_if_truth r p r) ≡ false) × (is_plain (wide_if_truth r r p) ≡ false)
    × (is_plain (wide_chain (Lt ∷ Le ∷ []) (wide_more n (wide_more n (wide_more n no_wides)))) ≡ false)
    × (is_plain (wide_chain (Lt ∷ Le ∷ []) (wide_more (wide_if p n (wide_var 1)) (wide_more n (wide_more n no_wides)))) ≡ false)
    × (is_plain (wide_chain (Lt ∷ Le ∷ []) (wide_more n (wide_more n (wide_more (wide_if p n (wide_var 1)) no_wides)))) ≡ false)
relations_plain_4 = (refl, refl, refl, refl, refl)

relations_truth_1 : (has_truth 6 r ≡ false) × (has_truth 6 wide_false ≡ false) × (has_truth 6 (wide_truth 6) ≡ true)
    × (has_truth 6 (wide_compare Lt n n) ≡ false) × (has_truth 6 (wide_compare Lt (wide_if p n (wide_var 1)) n) ≡ true)
    × (has_truth 6 (wide_compare Lt n (wide_if p n (wide_var 1))) ≡ true) × (has_truth 6 (wide_same_set s s) ≡ false)
    × (has_truth 6 (wide_same_set (wide_if_set p s (wide_set 3)) s) ≡ true) × (has_truth 6 (wide_same_set s (wide_if_set p s (wide_set 3))) ≡ true)
    × (has_truth 6 (wide_other_set s s) ≡ false) × (has_truth 6 (wide_other_set (wide_if_set p s (wide_set 3)) s) ≡ true)
    × (has_truth 6 (wide_other_set s (wide_if_set p s (wide_set 3))) ≡ true)
relations_truth_1 = (refl, refl, refl, refl, refl, refl, refl, refl, refl, refl, refl, refl)

relations_truth_2 : (has_truth 6 (wide_subset s s) ≡ false) × (has_truth 6 (wide_subset (wide_if_set p s (wide_set 3)) s) ≡ true)
    × (has_truth 6 (wide_subset s (wide_if_set p s (wide_set 3))) ≡ true) × (has_truth 6 (wide_divides (pos 2) n) ≡ false)
    × (has_truth 6 (wide_divides (pos 2) (wide_if p n (wide_var 1))) ≡ true) × (has_truth 6 (wide_not r) ≡ false) × (has_truth 6 (wide_not p) ≡ true)
    × (has_truth 6 (wide_and r r) ≡ false) × (has_truth 6 (wide_and p r) ≡ true) × (has_truth 6 (wide_and r p) ≡ true) × (has_truth 6 (wide_or r r) ≡ false)
    × (has_truth 6 (wide_or p r) ≡ true)
relations_truth_2 = (refl, refl, refl, refl, refl, refl, refl, refl, refl, refl, refl, refl)

relations_truth_3 : (has_truth 6 (wide_or r p) ≡ true) × (has_truth 6 (wide_implies r r) ≡ false) × (has_truth 6 (wide_implies p r) ≡ true)
    × (has_truth 6 (wide_implies r p) ≡ true) × (has_truth 6 (wide_same r r) ≡ false) × (has_truth 6 (wide_same p r) ≡ true)
    × (has_truth 6 (wide_same r p) ≡ true) × (has_truth 6 (wide_other r r) ≡ false) × (has_truth 6 (wide_other p r) ≡ true)
    × (has_truth 6 (wide_other r p) ≡ true) × (has_truth 6 (wide_if_truth r r r) ≡ false) × (has_truth 6 (wide_if_truth p r r) ≡ true)
relations_truth_3 = (refl, refl, refl, refl, refl, refl, refl, refl, refl, refl, refl, refl)

relations_truth_4 : (has_truth 6 (wide_if_truth r p r) ≡ true) × (has_truth 6 (wide_if_truth r r p) ≡ true)
    × (has_truth 6 (wide_chain (Lt ∷ Le ∷ []) (wide_more n (wide_more n (wide_more n no_wides)))) ≡ false)
    × (has_truth 6 (wide_chain (Lt ∷ Le ∷ []) (wide_more (wide_if p n (wide_var 1)) (wide_more n (wide_more n no_wides)))) ≡ true)
    × (has_truth 6 (wide_chain (Lt ∷ Le ∷ []) (wide_more n (wide_more n (wide_more (wide_if p n (wide_var 1)) no_wides)))) ≡ true)
relations_truth_4 = (refl, refl, refl, refl, refl)

only_this_level : (has_truth 5 p ≡ false) × (has_truth 7 p ≡ false)
only_this_level = (refl, refl)
