-- A whole choose: its eliminations, its arms, its first refusal and its growth.
use Rattle.std.specs.Prelude.{ℕ, ◌*◌, ◌-◌, ◌^◌, nat_lt, true, List, [], ◌∷◌, map, min, max, length, Option, Some, None, if◌then◌else◌}
use Rattle.std.specs.List.{fold}
use Rattle.cf_tree.specs.declared.base.Base.{Base}
use Rattle.cf_tree.specs.RelTree.{RelTree}
use Rattle.cf_tree.specs.CodeTree.{ArmTree}
use Rattle.cf_linear.specs.declared.refusal.TheConstants.{MOST_SETS, MOST_CASES}
use Rattle.cf_linear.specs.declared.refusal.LimitKind.TheVariants.{Sets, Cases}
use Rattle.cf_linear.specs.declared.refusal.Refusal.{Refusal}
use Rattle.cf_linear.specs.declared.refusal.Refusal.TheVariants.{Past, Limit}
use Rattle.cf_linear.specs.Rows.{norm}
use Rattle.cf_linear.specs.Systems.{System, Step, floor_of, need_nonneg, need_zero, need_divides, Answer, whole}
use Rattle.cf_linear.specs.Steps.{greatest_of}
use Rattle.cf_linear.specs.Stages.{Limits, End, solved, refused, Run, run, answers_of, limits}
use Rattle.cf_linear.specs.Layout.{Layout, layout_of, set_count}
use Rattle.cf_linear.specs.Cases.{negation_normal, first_systems, case_count, written_passes}
use Rattle.cf_linear.specs.Arm.{arm}

-- ---- arms
-- what the whole elimination of a first system makes
abbrev pub made_of : System → Run → Answer
made_of m r = whole m (answers_of r)

abbrev pub arm_of_case : Limits → Layout → System → ArmTree
arm_of_case lim l m = arm l (made_of m (run lim m))

-- the arms of a choose, one for each case in order
unfoldable pub arms : List Base → List Base → RelTree → List ArmTree
arms scope outputs rel = let l = layout_of scope outputs rel in map (arm_of_case limits l) (first_systems l rel)

-- ---- the first refusal
pub record ChooseLimits : Type 0 where
  pub sets : ℕ
  pub cases : ℕ
  pub each : Limits

abbrev pub choose_limits : ChooseLimits
choose_limits = record { sets = MOST_SETS; cases = MOST_CASES; each = limits }

abbrev pub refusal_of : End → Option Refusal
refusal_of solved = None
refusal_of (refused r) = Some r

abbrev pub or_else : Option Refusal → Option Refusal → Option Refusal
or_else None b = b
or_else (Some r) b = Some r

-- the first refusal of the eliminations, case by case
unfoldable pub first_refused : Limits → List System → Option Refusal
first_refused lim [] = None
first_refused lim (m ∷ ms) = or_else (refusal_of (run lim m).end) (first_refused lim ms)

-- Sets, then Cases, then a written or guard row past the limit, then the eliminations
unfoldable pub refusal_by : ChooseLimits → Layout → RelTree → Option Refusal
refusal_by lim l rel =
    (if nat_lt lim.sets (set_count l) then Some (Limit Sets (set_count l))
    else (if nat_lt lim.cases (case_count (negation_normal true rel)) then Some (Limit Cases (min (case_count (negation_normal true rel)) (2 ^ 64 - 1)))
    else (if written_passes l (negation_normal true rel) then Some Past
    else first_refused lim.each (first_systems l rel))))

-- the first refusal of a choose, or none
unfoldable pub limit : List Base → List Base → RelTree → Option Refusal
limit scope outputs rel = refusal_by choose_limits (layout_of scope outputs rel) rel

-- ---- growth
abbrev pub need_norm : Step → ℕ
need_norm (floor_of c r g) = 0
need_norm (need_nonneg r) = norm r
need_norm (need_zero r) = norm r
need_norm (need_divides g r) = norm r

-- the greatest norm of a need, or the number of regions where there are output sets and that is greater
abbrev pub last_factor : Layout → Answer → ℕ
last_factor l a =
    max 1 (max (greatest_of (map need_norm a.steps)) (if nat_lt 0 (length l.out_sets) then 2 ^ set_count l else 1))

abbrev pub product_of_all : List ℕ → ℕ
product_of_all ns = fold (λ a b. a * b) 1 ns

-- the growth of a case: the product of one factor for each step, and of the last factor
unfoldable pub growth_of_case : Limits → Layout → System → ℕ
growth_of_case lim l m =
    let r = run lim m in product_of_all (map (λ a. a.factor) r.taken) * last_factor l (made_of m r)

-- the greatest growth of a case, at least 1
unfoldable pub growth : List Base → List Base → RelTree → ℕ
growth scope outputs rel =
    let l = layout_of scope outputs rel in max 1 (greatest_of (map (growth_of_case limits l) (first_systems l rel)))
