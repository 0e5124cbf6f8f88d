-- Worked examples: what nothing bounds, and what nothing uses.
use Rattle.std.proofs.Common.{◌≡◌, ◌≢◌, ℕ, zero, suc, pos, true, false, List, [], ◌∷◌, map, refl, codes}
use Rattle.cf_tree.specs.declared.base.Base.TheVariants.{Int}
use Rattle.cf_tree.specs.declared.base.Order.TheVariants.{Eq, Le}
use Rattle.cf_tree.specs.declared.raw.BinOp.TheVariants.{Add, Compare}
use Rattle.cf_tree.specs.declared.raw.Param.{Param}
use Rattle.cf_tree.specs.DefView.{DefTree}
use Rattle.cf_tree.specs.ExprTree.{ExprTree, expr_lit, expr_var, expr_binary, expr_chain, expr_choose_where, expr_match, expr_more, no_exprs, match_arm, match_arm_more, no_match_arms, holds_always, holds_where, at_any, at_least}
use Rattle.cf_tree.specs.RelTree.{TermTree, term_lit, term_var, term_neg, term_add, term_sub, term_mul, term_div, term_mod, term_abs, RelTree, rel_true, rel_compare, rel_divides, rel_and, rel_or, rel_not}
use Rattle.cf_tree.specs.Values.{Value, elements_of, number, number_of, value_at}
use Rattle.cf_advice.specs.Bounds.{AreButFor, IsUnbounded}
use Rattle.cf_advice.specs.Factors.{factor, IsFlat, IsLevel}
use Rattle.cf_advice.specs.Unused.{stands, unused, all_unused}
use Rattle.cf_advice.proofs.BoundLaws.{is_unbounded}

-- ---- bounds
abbrev x : TermTree
x = term_var 0

abbrev y : TermTree
y = term_var 1

-- x counts once in x + y, twice in 2 * x, and not in x - x
counted : (factor 0 (term_add x y) ≡ pos 1) × (factor 0 (term_mul (term_lit (pos 2)) x) ≡ pos 2) × (factor 0 (term_mul x (term_lit (pos 2))) ≡ pos 2)
    × (factor 0 (term_sub x x) ≡ pos 0) × (factor 0 (term_neg (term_neg x)) ≡ pos 1)
counted = (refl, refl, refl, refl, refl)

-- nothing bounds x in `y <= 3`, in `x + y == x`, or in `2 divides x - x`
free_of_x : IsUnbounded 0 (rel_and (rel_compare Le y (term_lit (pos 3))) (rel_or (rel_compare Eq (term_add x y) x) (rel_not (rel_divides (pos 2) (term_sub x x)))))
free_of_x = is_unbounded 0 (rel_and (rel_compare Le y (term_lit (pos 3))) (rel_or (rel_compare Eq (term_add x y) x) (rel_not (rel_divides (pos 2) (term_sub x x)))))
    ((tt, tt, refl), (((tt, tt), tt, refl), ((tt, tt), refl)))

-- `x == 0` bounds it
bound : IsUnbounded 0 (rel_compare Eq x (term_lit (pos 0))) → ⊥
bound h = let e : pos 1 ≡ pos 0 = h.any (number (pos 0) ∷ []) (number (pos 1) ∷ []) (record { numbers = numbers; sets = sets }) refl in cc
  where
    numbers : (z : ℕ) → z ≢ 0 → number_of (value_at (number (pos 1) ∷ []) z) ≡ number_of (value_at (number (pos 0) ∷ []) z)
    numbers zero n = absurd (n refl)
    numbers (suc k) n = refl

    sets : (z : ℕ) → elements_of (value_at (number (pos 1) ∷ []) z) ≡ elements_of (value_at (number (pos 0) ∷ []) z)
    sets zero = refl
    sets (suc k) = refl

-- ---- parameters
abbrev named : List ℕ → Param
named name = record { place = record { line = 1; column = 1 }; name = name; base = Int }

abbrev a : Param
a = named (codes "a")

abbrev b : Param
b = named (codes "b")

abbrev of_body : ExprTree → DefTree
of_body e = record { name = codes "f"; params = a ∷ b ∷ []; results = Int ∷ []; body = e }

-- `a + 1`: b stands nowhere
sum_of_a : unused (of_body (expr_binary Add (expr_var 0) (expr_lit (pos 1)))) ≡ b ∷ []
sum_of_a = refl

-- a stands in what is given, b in the relation; or a alone, in the objective
chosen : unused (of_body (expr_choose_where 1 (a ∷ b ∷ []) (Int ∷ []) [] (holds_where (expr_binary (Compare Le) (expr_var 0) (expr_lit (pos 1))))
    (expr_binary (Compare Eq) (expr_var 2) (expr_var 1)) at_any)) ≡ []
chosen = refl

aimed : unused (of_body (expr_choose_where 1 (a ∷ b ∷ []) (Int ∷ []) [] holds_always (expr_binary (Compare Eq) (expr_var 2) (expr_lit (pos 1)))
    (at_least (expr_var 0)))) ≡ b ∷ []
aimed = refl

-- a is matched, and b stands in no arm
matched : unused (of_body (expr_match 1 (a ∷ b ∷ named (codes "match") ∷ []) (expr_var 0) (match_arm_more (match_arm 0 [] (pos 1) (expr_lit (pos 1))) no_match_arms)))
    ≡ b ∷ []
matched = refl

-- both stand in a chain; in two functions
chained : all_unused (of_body (expr_chain (Le ∷ Le ∷ []) (expr_more (expr_var 0) (expr_more (expr_lit (pos 1)) (expr_more (expr_var 1) no_exprs))))
    ∷ of_body (expr_lit (pos 1)) ∷ []) ≡ a ∷ b ∷ []
chained = refl
