-- Worked examples: chooses in the order of their numbers, and the first that is refused.
use Rattle.std.proofs.Common.{◌≡◌, ℕ, zero, suc, List, [], ◌∷◌, Some, None, refl}
use Rattle.cf_num.specs.Divisors.{gcd_by, factors_by}
use Rattle.cf_num.specs.Parts.{parts_of}
use Rattle.cf_tree.specs.declared.base.Base.{Base}
use Rattle.cf_tree.specs.declared.base.Base.TheVariants.{Int, Set}
use Rattle.cf_tree.specs.RelTree.{rel_true, rel_false}
use Rattle.cf_tree.specs.ChooseTree.{ChooseTree}
use Rattle.cf_linear.specs.Cases.{disjuncts, case_count, system_of_case, first_systems, write_atom, written_passes}
use Rattle.cf_linear.specs.Chooses.{refusal_by, limit, first_refused as first_unsolved}
use Rattle.cf_linear.specs.Stages.{run, run_for, clean_stage, equation_stage, bound_stage, unknown_stage, row_stage, stage}
use Rattle.cf_linear.specs.Steps.{clean, mix, factors_of, merge, merge_passes, merge_factor, last, pick, searched, dropped, searched_by, bound, bound_passes, bound_factor}
use Rattle.cf_linear.specs.declared.refusal.LimitKind.TheVariants.{Sets}
use Rattle.cf_linear.specs.declared.refusal.Refusal.TheVariants.{Limit}
use Rattle.cf_build.specs.Chooses.{by_number, first_refused}

-- a choose of that number under these names
abbrev choose : ℕ → List (List ℕ) → ChooseTree
choose n names = record { number = n; names = names; scope = []; outputs = []; relation = rel_false }

rising : by_number (choose 3 [] ∷ choose 1 [] ∷ choose 2 [] ∷ []) ≡ choose 1 [] ∷ choose 2 [] ∷ choose 3 [] ∷ []
rising = refl

-- those of one number stay in their order
stable : by_number (choose 1 ([] ∷ []) ∷ choose 1 [] ∷ []) ≡ choose 1 ([] ∷ []) ∷ choose 1 [] ∷ []
stable = refl

stable_among : by_number (choose 2 ([] ∷ []) ∷ choose 3 [] ∷ choose 2 [] ∷ choose 1 [] ∷ []) ≡ choose 1 [] ∷ choose 2 ([] ∷ []) ∷ choose 2 [] ∷ choose 3 [] ∷ []
stable_among = refl

-- ---- the first that is refused
abbrev sets : ℕ → List Base
sets zero = []
sets (suc n) = Set ∷ sets n

-- a choose of that number with so many sets, of which more than six are refused
abbrev wide : ℕ → ℕ → ChooseTree
wide n count = record { number = n; names = []; scope = []; outputs = sets count; relation = rel_true }

-- one that passes no limit
abbrev narrow : ℕ → ChooseTree
narrow n = record { number = n; names = []; scope = []; outputs = Int ∷ []; relation = rel_false }

-- The least number is told, whatever the order of the text; of two branches of one choose the first one refused, or the second, where it alone is refused.
told : (first_refused (by_number (wide 3 7 ∷ narrow 1 ∷ wide 2 8 ∷ [])) ≡ Some (2, Limit Sets 8))
    × (first_refused (by_number (narrow 1 ∷ wide 2 8 ∷ wide 2 7 ∷ [])) ≡ Some (2, Limit Sets 8))
    × (first_refused (by_number (narrow 2 ∷ wide 2 7 ∷ [])) ≡ Some (2, Limit Sets 7)) × (first_refused (by_number (narrow 2 ∷ narrow 2 ∷ [])) ≡ None)
unfolding first_systems disjuncts system_of_case write_atom run run_for stage clean_stage equation_stage bound_stage unknown_stage row_stage clean mix
    factors_of merge merge_passes merge_factor last pick searched dropped searched_by bound bound_passes bound_factor gcd_by factors_by parts_of limit
    refusal_by case_count written_passes first_unsolved
told = (refl, refl, refl, refl)
