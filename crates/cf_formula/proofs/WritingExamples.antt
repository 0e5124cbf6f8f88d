-- Relations as formulas. Columns: 0 the constant, then number parameters, counts of input regions, number outputs, counts of all regions, quotients.
use Rattle.std.proofs.Common.{◌≡◌, pos, negsuc, [], ◌∷◌, true, false, refl}
use Rattle.cf_num.specs.Divisors.{gcd_by}
use Rattle.cf_tree.specs.declared.base.Base.TheVariants.{Int, Set}
use Rattle.cf_tree.specs.declared.base.Order.TheVariants.{Eq, Ne, Lt, Le, Gt, Ge}
use Rattle.cf_tree.specs.RelTree.{set_var, inter_of, term_lit, term_var, term_card, term_neg, term_add, term_sub, term_mul, term_div, term_mod, term_abs, rel_compare, rel_divides, rel_and, rel_or, rel_not}
use Rattle.cf_linear.specs.Cases.{write_atom}
use Rattle.cf_linear.specs.Layout.{layout_of}
use Rattle.cf_formula.specs.Formulas.{always, never, at_least, equal, both, either}
use Rattle.cf_formula.specs.Writing.{written}

-- abs(x - a) <= 2
near : written (layout_of (Int ∷ []) (Int ∷ []) (rel_compare Le (term_abs (term_sub (term_var 1) (term_var 0))) (term_lit (pos 2))))
    (rel_compare Le (term_abs (term_sub (term_var 1) (term_var 0))) (term_lit (pos 2))) ≡ record {
      formula = both (at_least ((0, pos 2) ∷ (1, pos 1) ∷ (2, negsuc 0) ∷ [])) (at_least ((0, pos 2) ∷ (1, negsuc 0) ∷ (2, pos 1) ∷ []));
      next = 3;
    }
unfolding gcd_by write_atom
near = refl

-- 3 <= abs(2 * x) - abs(a)
far : written (layout_of (Int ∷ []) (Int ∷ [])
    (rel_compare Le (term_lit (pos 3)) (term_sub (term_abs (term_mul (term_lit (pos 2)) (term_var 1))) (term_abs (term_var 0)))))
    (rel_compare Le (term_lit (pos 3)) (term_sub (term_abs (term_mul (term_lit (pos 2)) (term_var 1))) (term_abs (term_var 0)))) ≡ record {
      formula = both (either (at_least ((0, negsuc 2) ∷ (1, negsuc 0) ∷ (2, pos 2) ∷ [])) (at_least ((0, negsuc 2) ∷ (1, negsuc 0) ∷ (2, negsuc 1) ∷ [])))
          (either (at_least ((0, negsuc 2) ∷ (1, pos 1) ∷ (2, pos 2) ∷ [])) (at_least ((0, negsuc 2) ∷ (1, pos 1) ∷ (2, negsuc 1) ∷ [])));
      next = 3;
    }
unfolding gcd_by write_atom
far = refl

-- abs(x) != a
other : written (layout_of (Int ∷ []) (Int ∷ []) (rel_compare Ne (term_abs (term_var 1)) (term_var 0))) (rel_compare Ne (term_abs (term_var 1)) (term_var 0)) ≡
    record {
      formula = either (both (at_least ((0, negsuc 0) ∷ (1, pos 1) ∷ (2, negsuc 0) ∷ [])) (at_least ((0, negsuc 0) ∷ (1, pos 1) ∷ (2, pos 1) ∷ [])))
          (either (at_least ((0, negsuc 0) ∷ (1, negsuc 0) ∷ (2, pos 1) ∷ [])) (at_least ((0, negsuc 0) ∷ (1, negsuc 0) ∷ (2, negsuc 0) ∷ [])));
      next = 3;
    }
unfolding gcd_by write_atom
other = refl

-- abs(x) == abs(a)
same_size : written (layout_of (Int ∷ []) (Int ∷ []) (rel_compare Eq (term_abs (term_var 1)) (term_abs (term_var 0))))
    (rel_compare Eq (term_abs (term_var 1)) (term_abs (term_var 0))) ≡ record {
      formula = both (either (at_least ((1, negsuc 0) ∷ (2, pos 1) ∷ [])) (at_least ((1, negsuc 0) ∷ (2, negsuc 0) ∷ [])))
          (both (either (at_least ((1, pos 1) ∷ (2, pos 1) ∷ [])) (at_least ((1, pos 1) ∷ (2, negsuc 0) ∷ [])))
          (both (either (at_least ((1, pos 1) ∷ (2, negsuc 0) ∷ [])) (at_least ((1, negsuc 0) ∷ (2, negsuc 0) ∷ [])))
          (either (at_least ((1, pos 1) ∷ (2, pos 1) ∷ [])) (at_least ((1, negsuc 0) ∷ (2, pos 1) ∷ [])))));
      next = 3;
    }
unfolding gcd_by write_atom
same_size = refl

-- x mod 3 == 1 || x != 2
rest : written (layout_of ([]) (Int ∷ [])
    (rel_or (rel_compare Eq (term_mod (term_var 0) (pos 3)) (term_lit (pos 1))) (rel_compare Ne (term_var 0) (term_lit (pos 2)))))
    (rel_or (rel_compare Eq (term_mod (term_var 0) (pos 3)) (term_lit (pos 1))) (rel_compare Ne (term_var 0) (term_lit (pos 2)))) ≡ record {
      formula = either (both (equal ((0, negsuc 0) ∷ (1, pos 1) ∷ (2, negsuc 2) ∷ []))
          (both (at_least ((1, pos 1) ∷ (2, negsuc 2) ∷ [])) (at_least ((0, pos 2) ∷ (1, negsuc 0) ∷ (2, pos 3) ∷ []))))
          (either (at_least ((0, pos 1) ∷ (1, negsuc 0) ∷ [])) (at_least ((0, negsuc 2) ∷ (1, pos 1) ∷ [])));
      next = 3;
    }
unfolding gcd_by write_atom
rest = refl

-- !(2 divides x) && x < a
odd_one : written (layout_of (Int ∷ []) (Int ∷ []) (rel_and (rel_not (rel_divides (pos 2) (term_var 1))) (rel_compare Lt (term_var 1) (term_var 0))))
    (rel_and (rel_not (rel_divides (pos 2) (term_var 1))) (rel_compare Lt (term_var 1) (term_var 0))) ≡ record {
      formula = both (at_least ((0, negsuc 0) ∷ (2, pos 1) ∷ (3, negsuc 1) ∷ []))
          (both (at_least ((0, pos 1) ∷ (2, negsuc 0) ∷ (3, pos 2) ∷ [])) (at_least ((0, negsuc 0) ∷ (1, pos 1) ∷ (2, negsuc 0) ∷ [])));
      next = 4;
    }
unfolding gcd_by write_atom
odd_one = refl

-- abs(x mod 2) <= a
size_of_rest : written (layout_of (Int ∷ []) (Int ∷ []) (rel_compare Le (term_abs (term_mod (term_var 1) (pos 2))) (term_var 0)))
    (rel_compare Le (term_abs (term_mod (term_var 1) (pos 2))) (term_var 0)) ≡ record {
      formula = either (both (at_least ((2, pos 1) ∷ (3, negsuc 1) ∷ []))
          (both (at_least ((0, pos 1) ∷ (2, negsuc 0) ∷ (3, pos 2) ∷ [])) (at_least ((1, pos 1) ∷ (2, negsuc 0) ∷ (3, pos 2) ∷ []))))
          (both (at_least ((2, pos 1) ∷ (4, negsuc 1) ∷ []))
          (both (at_least ((0, pos 1) ∷ (2, negsuc 0) ∷ (4, pos 2) ∷ []))
          (both (at_least ((0, negsuc 0) ∷ (2, negsuc 0) ∷ (4, pos 2) ∷ [])) (at_least ((1, pos 1) ∷ (2, pos 1) ∷ (4, negsuc 1) ∷ [])))));
      next = 5;
    }
unfolding gcd_by write_atom
size_of_rest = refl

-- card(S inter T) >= x, T an output
counted : written (layout_of (Set ∷ []) (Int ∷ Set ∷ []) (rel_compare Ge (term_card (inter_of (set_var 0) (set_var 2))) (term_var 1)))
    (rel_compare Ge (term_card (inter_of (set_var 0) (set_var 2))) (term_var 1)) ≡ record {
      formula = both (at_least ((2, negsuc 0) ∷ (5, pos 1) ∷ []))
          (both (equal ((1, pos 1) ∷ (3, negsuc 0) ∷ (5, negsuc 0) ∷ []))
          (both (at_least ((3, pos 1) ∷ [])) (both (at_least ((4, pos 1) ∷ [])) (at_least ((5, pos 1) ∷ [])))));
      next = 6;
    }
unfolding gcd_by write_atom
counted = refl
