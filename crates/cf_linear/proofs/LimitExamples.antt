-- The limits of a choose as numbers, and what is refused on both sides of each.
use Rattle.std.proofs.Common.{◌≡◌, ℕ, zero, suc, ◌+◌, ◌-◌, ◌^◌, List, [], ◌∷◌, true, Option, Some, None, refl}
use Rattle.std.specs.List.{range_with_len}
use Rattle.cf_num.specs.Divisors.{gcd_by, factors_by}
use Rattle.cf_num.specs.Parts.{parts_of}
use Rattle.cf_tree.specs.declared.base.Base.{Base}
use Rattle.cf_tree.specs.declared.base.Base.TheVariants.{Int, Set}
use Rattle.cf_tree.specs.RelTree.{RelTree, rel_true, rel_and, rel_or}
use Rattle.cf_linear.specs.declared.refusal.TheConstants.{MOST_SETS, MOST_CASES, MOST_ROWS, MOST_COLUMNS, MOST_TUPLES}
use Rattle.cf_linear.specs.declared.refusal.LimitKind.TheVariants.{Cases, Rows, Columns, Search, Sets}
use Rattle.cf_linear.specs.declared.refusal.Refusal.{Refusal}
use Rattle.cf_linear.specs.declared.refusal.Refusal.TheVariants.{Limit}
use Rattle.cf_linear.specs.Cases.{disjuncts, case_count, system_of_case, first_systems, write_atom, written_passes}
use Rattle.cf_linear.specs.Chooses.{choose_limits, first_refused, refusal_by, refusal_of, limit}
use Rattle.cf_linear.specs.Stages.{limits, Stage, State, ends, goes, first_count, run, run_for, clean_stage, equation_stage, bound_stage, unknown_stage, row_stage, stage}
use Rattle.cf_linear.specs.Steps.{clean, mix, factors_of, merge, merge_passes, merge_factor, last, pick, searched, dropped, searched_by, bound, bound_passes, bound_factor}
use Rattle.cf_linear.specs.Systems.{System}

-- ---- the constants
most-sets : MOST_SETS ≡ 6
most-sets = refl

most-cases : MOST_CASES ≡ 1024
most-cases = refl

most-rows : MOST_ROWS ≡ 1000
most-rows = refl

most-columns : MOST_COLUMNS ≡ 1000
most-columns = refl

most-tuples : MOST_TUPLES ≡ 1048576
most-tuples = refl

-- ---- what is limited by which
each-limit : limits ≡ record { search = 1048576; rows = 1000; columns = 1000 }
each-limit = refl

choose-limits : choose_limits ≡ record { sets = 6; cases = 1024; each = record { search = 1048576; rows = 1000; columns = 1000 } }
choose-limits = refl

-- ---- cases
-- a conjunction of n choices, which has 2^n cases
abbrev choices : ℕ → RelTree
choices zero = rel_true
choices (suc n) = rel_and (rel_or rel_true rel_true) (choices n)

most-choices : limit [] (Int ∷ []) (choices 10) ≡ None
unfolding first_systems disjuncts system_of_case write_atom run run_for stage clean_stage equation_stage bound_stage unknown_stage row_stage clean mix
    factors_of merge merge_passes merge_factor last pick searched dropped searched_by bound bound_passes bound_factor gcd_by factors_by parts_of limit
    refusal_by case_count written_passes first_refused
most-choices = refl

one-more_choice : limit [] (Int ∷ []) (rel_or (choices 10) rel_true) ≡ Some (Limit Cases 1025)
unfolding limit refusal_by case_count
one-more_choice = refl

-- the number that is told stands still at 2^64 - 1
many-choices : limit [] (Int ∷ []) (choices 65) ≡ Some (Limit Cases (2 ^ 64 - 1))
unfolding limit refusal_by case_count
many-choices = refl

-- ---- sets: those that occur in scope and all outputs
abbrev outputs : ℕ → List Base
outputs zero = []
outputs (suc n) = Set ∷ outputs n

-- six are none too many: what is refused are the cases, which are counted next
six-sets : limit [] (outputs 6) (choices 11) ≡ Some (Limit Cases 2048)
unfolding limit refusal_by case_count
six-sets = refl

seven-sets : limit [] (outputs 7) rel_true ≡ Some (Limit Sets 7)
unfolding limit refusal_by
seven-sets = refl

-- sets of the scope that do not occur are not counted
unused-sets : limit (outputs 7) (Int ∷ []) rel_true ≡ None
unfolding first_systems disjuncts system_of_case write_atom run run_for stage clean_stage equation_stage bound_stage unknown_stage row_stage clean mix
    factors_of merge merge_passes merge_factor last pick searched dropped searched_by bound bound_passes bound_factor gcd_by factors_by parts_of limit
    refusal_by case_count written_passes first_refused
unused-sets = refl

-- ---- rows and columns of a state
-- with so many columns in order, and so many needs
abbrev counted : ℕ → ℕ → System
counted columns needs =
    record { known = 0 ∷ []; unknown = range_with_len 1 columns; next = 1 + columns; equations = []; inequalities = []; needs = needs }

most-counts : first_count limits (counted 999 1000) ≡ None
most-counts = refl

one-row_more : first_count limits (counted 999 1001) ≡ Some (Limit Rows 1001)
one-row_more = refl

one-column_more : first_count limits (counted 1000 1000) ≡ Some (Limit Columns 1001)
one-column_more = refl

-- rows come first
both-more : first_count limits (counted 1000 1001) ≡ Some (Limit Rows 1001)
both-more = refl

-- ---- tuples of the searches
abbrev refused_at : Stage → Option Refusal
refused_at (ends e) = refusal_of e
refused_at (goes s a) = None

-- one unknown without bounds, behind searches with so many tuples
abbrev searched_behind : ℕ → State
searched_behind n = record { system = counted 1 0; tuples = n; is_past_clean = true }

most-searched : refused_at (stage limits (searched_behind 1048576)) ≡ None
unfolding stage row_stage unknown_stage bound_stage pick searched dropped searched_by bound bound_passes bound_factor
most-searched = refl

one-more_searched : refused_at (stage limits (searched_behind 1048577)) ≡ Some (Limit Search 1048577)
unfolding stage row_stage unknown_stage bound_stage pick searched dropped searched_by bound bound_passes bound_factor
one-more_searched = refl
