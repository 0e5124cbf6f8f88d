-- Where a number passes the limit on the way to the formula of a relation.
use Rattle.std.proofs.Common.{◌≡◌, ◌-◌, ◌^◌, pos, [], ◌∷◌, true, false, refl}
use Rattle.cf_num.specs.Divisors.{gcd_by}
use Rattle.cf_tree.specs.declared.base.Base.TheVariants.{Int}
use Rattle.cf_tree.specs.declared.base.Order.TheVariants.{Eq, Ne, Le}
use Rattle.cf_tree.specs.RelTree.{RelTree, term_lit, term_var, term_add, term_mul, term_mod, term_abs, rel_compare, rel_divides, rel_and}
use Rattle.cf_linear.specs.Cases.{write_atom}
use Rattle.cf_linear.specs.Layout.{layout_of}
use Rattle.cf_formula.specs.WritingAnswers.{way_count, relation_passes}

-- m * abs(x) + m * x <= 0: 2 * m is an entry of the row where x is above 0
abbrev sum_of : RelTree
sum_of = rel_compare Le (term_add (term_mul (term_lit (pos (2 ^ 127 - 1))) (term_abs (term_var 0))) (term_mul (term_lit (pos (2 ^ 127 - 1))) (term_var 0)))
    (term_lit (pos 0))

sum_passes : relation_passes (layout_of [] (Int ∷ []) sum_of) sum_of ≡ true
unfolding gcd_by write_atom
sum_passes = refl

-- m * abs(x) <= 0: no entry is above m
abbrev one_of : RelTree
one_of = rel_compare Le (term_mul (term_lit (pos (2 ^ 127 - 1))) (term_abs (term_var 0))) (term_lit (pos 0))

one_fits : relation_passes (layout_of [] (Int ∷ []) one_of) one_of ≡ false
unfolding gcd_by write_atom
one_fits = refl

-- abs(m * (x mod 2)) + m * (x mod 2) == 0: by its ways, in one of which it passes
abbrev way_of : RelTree
way_of = rel_compare Eq (term_add (term_abs (term_mul (term_lit (pos (2 ^ 127 - 1))) (term_mod (term_var 0) (pos 2))))
    (term_mul (term_lit (pos (2 ^ 127 - 1))) (term_mod (term_var 0) (pos 2)))) (term_lit (pos 0))

way_passes : relation_passes (layout_of [] (Int ∷ []) way_of) way_of ≡ true
unfolding gcd_by write_atom
way_passes = refl

-- the second part passes
second_passes : relation_passes (layout_of [] (Int ∷ []) (rel_and one_of sum_of)) (rel_and one_of sum_of) ≡ true
unfolding gcd_by write_atom
second_passes = refl

-- ---- ways
-- abs(x) != 2, either order and either sign; its negation has one order
four_ways : way_count true (rel_compare Ne (term_abs (term_var 0)) (term_lit (pos 2))) ≡ 4
four_ways = refl

two_ways : way_count false (rel_compare Ne (term_abs (term_var 0)) (term_lit (pos 2))) ≡ 2
two_ways = refl

-- 3 divides abs(abs(x) + x)
divided_ways : way_count true (rel_divides (pos 3) (term_abs (term_add (term_abs (term_var 0)) (term_var 0)))) ≡ 4
divided_ways = refl
