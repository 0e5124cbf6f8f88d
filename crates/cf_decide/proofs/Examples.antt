-- Answers by meaning: one in doubt promises nothing. And what is found of x == 3, and of what never holds.
use Rattle.std.proofs.Common.{◌≡◌, pos, refl, sym, ◌∙◌, List, [], ◌∷◌, Vec, Global}
use Rattle.cf_tree.specs.declared.base.Base.TheVariants.{Int}
use Rattle.cf_tree.specs.declared.base.Order.TheVariants.{Eq}
use Rattle.cf_tree.specs.RelTree.{RelTree, term_lit, term_var, rel_false, rel_compare, rel_and}
use Rattle.cf_tree.specs.Relation.{Sol}
use Rattle.cf_tree.specs.Values.{Value, number}
use Rattle.cf_eval.specs.declared.value.Value.{Value as RunValue}
use Rattle.cf_eval.specs.declared.value.Value.TheVariants as ran
use Rattle.cf_warn.specs.declared.answer.Doubt.TheVariants.{Overflow}
use Rattle.cf_warn.specs.declared.answer.ExistenceAnswer.TheVariants as existence
use Rattle.cf_warn.specs.declared.answer.UniquenessAnswer.TheVariants as uniqueness
use Rattle.cf_decide.specs.Answers.{SaysExistence, SaysUniqueness}
use Rattle.cf_decide.specs.Finding.{IsFound}
use Rattle.cf_decide.specs.Trying.{IsUnsolved}
use Rattle.cf_decide.specs.declared.searching.Found.TheVariants.{Never, At, Nothing}

-- x == a
abbrev same : RelTree
same = rel_compare Eq (term_var 1) (term_var 0)

-- a doubt promises nothing
in_doubt : SaysExistence (Int ∷ []) (Int ∷ []) same (existence.Undecided Overflow)
in_doubt = tt

in_doubt_of_two : SaysUniqueness (Int ∷ []) (Int ∷ []) 1 same (uniqueness.Undecided Overflow)
in_doubt_of_two = tt

-- x == 3
abbrev three : RelTree
three = rel_compare Eq (term_var 0) (term_lit (pos 3))

-- ---- what is found
at_three : (values : Vec RunValue Global) → values.items ≡ ran.Int (pos 3) ∷ [] → IsFound (Int ∷ []) three (At values)
at_three values e = rw e (((pos 3, refl), tt), refl)

never : IsFound (Int ∷ []) rel_false Never
never = record { never = λ env xs e h holds. holds }

nothing : IsFound (Int ∷ []) three Nothing
nothing = tt

-- ---- x == a and x == 3
abbrev both_three : RelTree
both_three = rel_and same (rel_compare Eq (term_var 1) (term_lit (pos 3)))

-- it has no solution where a is 4
at_four : IsUnsolved (Int ∷ []) (Int ∷ []) both_three (number (pos 4) ∷ [])
at_four = record { bases = ((pos 4, refl), tt); unsolved = unsolved }
  where
    four_three : pos 4 ≡ pos 3 → ⊥
    four_three e = absurd (cc)

    unsolved : (xs : List Value) → Sol (Int ∷ []) both_three (number (pos 4) ∷ []) xs → ⊥
    unsolved [] s = s.0
    unsolved (x ∷ []) s = four_three (sym s.1.0 ∙ s.1.1)
    unsolved (x ∷ y ∷ xs) s = s.0.1

-- it has one where a is 3
at_three_solved : IsUnsolved (Int ∷ []) (Int ∷ []) both_three (number (pos 3) ∷ []) → ⊥
at_three_solved h = h.unsolved (number (pos 3) ∷ []) (((pos 3, refl), tt), (refl, refl))

-- no values are none of a scope with a variable
of_no_scope : IsUnsolved (Int ∷ []) (Int ∷ []) both_three [] → ⊥
of_no_scope h = h.bases
