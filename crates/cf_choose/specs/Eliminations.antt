-- What an elimination that ended leaves to the arm of its case, and what the cases of a choose answer.
use Rattle.std.specs.Prelude.{◌≡◌, ◌≤◌, ◌<◌, ◌^◌, ◌-◌, nat_lt, true, false, List, [], map, min, length, Option, Some, None, Result, Ok, Err, Vec, if◌then◌else◌}
use Rattle.std.specs.Global.{Global}
use Rattle.cf_tree.specs.CodeView.{arm_tree}
use Rattle.cf_tree.specs.declared.code.Arm.{Arm}
use Rattle.cf_tree.specs.RelTree.{RelTree}
use Rattle.cf_tree.specs.Typing.{AreBounds}
use Rattle.cf_linear.specs.declared.refusal.TheConstants.{MOST_SETS}
use Rattle.cf_linear.specs.declared.refusal.LimitKind.TheVariants.{Sets, Cases}
use Rattle.cf_linear.specs.declared.refusal.Refusal.{Refusal}
use Rattle.cf_linear.specs.declared.refusal.Refusal.TheVariants.{Past, Limit}
use Rattle.cf_linear.specs.declared.system.Layout.{Layout as DeclaredLayout}
use Rattle.cf_linear.specs.Systems.{System, Answer}
use Rattle.cf_linear.specs.Keep.{Formed, Differ}
use Rattle.cf_linear.specs.Solved.{Owes, SolvedBy}
use Rattle.cf_linear.specs.Stages.{solved, refused, run, limits}
use Rattle.cf_linear.specs.Layout.{Layout, set_count}
use Rattle.cf_linear.specs.Cases.{negation_normal, first_systems, case_count, written_passes}
use Rattle.cf_linear.specs.Chooses.{made_of, arm_of_case, choose_limits, first_refused}
use Rattle.cf_linear.specs.Views.{system_of, step_of, bound_of}
use Rattle.cf_cases.specs.declared.first_systems.TheConstants.{LEVEL_LIMIT}
use Rattle.cf_choose.specs.declared.fault.ChooseFault.{ChooseFault}
use Rattle.cf_choose.specs.declared.fault.ChooseFault.TheVariants.{Refused, NoMemory}
use Rattle.cf_choose.specs.CaseArms.{IsWritable, HasFewLevels}
use Rattle.cf_choose.specs.ArmBuilders.{HasOutputs}
use Rattle.cf_cases.specs.Holding.{EachOf}
use Rattle.cf_elim.specs.declared.solved.CaseParts.{CaseParts}
use Rattle.cf_elim.specs.Returning.{ComesBack, BackDivides, StepsDivide}

-- ---- a case
-- what an elimination can begin with: its rows have forms, and its unknowns are all different
abbrev pub CanBegin : System → Type 0
CanBegin m = Formed m × Differ m.unknown

-- the case is solved, no unknown is left, each unknown is computed from columns that have names by then, divisors are at least 1, and the
-- searches have few tuples
pub record IsEliminated (m : System) (a : Answer) : Type 0 where
  pub solved : SolvedBy m a
  pub owes : Owes m a
  pub comes : ComesBack m a
  pub done : a.system.unknown ≡ []
  pub steps : StepsDivide a.steps
  pub back : BackDivides a.back
  pub bounds : AreBounds (map (λ (c, p). p) a.bounds)

-- what the elimination of the system makes
abbrev pub made : System → Answer
made m = made_of m (run limits m)

pub record IsCaseDone (l : Layout) (m : System) : Type 0 where
  pub ends : (run limits m).end ≡ solved
  pub eliminated : IsEliminated m (made m)
  pub writable : IsWritable (made m)
  pub few : HasFewLevels l (made m)

-- a layout and a case whose levels are few
pub record HasRoom (l : DeclaredLayout) (c : CaseParts) : Type 0 where
  pub scope : l.scope < LEVEL_LIMIT
  pub numbers : length l.numbers.items < LEVEL_LIMIT
  pub outputs : length l.out_numbers.items < LEVEL_LIMIT
  pub bounds : length c.bounds.items < LEVEL_LIMIT
  pub steps : length c.steps.items < LEVEL_LIMIT
  pub back : length c.back.items < LEVEL_LIMIT

-- the system of a case before any step
abbrev pub first_of : CaseParts → System
first_of c = system_of c.first

-- the case of the system, or the refusal of its elimination
abbrev pub CaseIs : System → Result CaseParts ChooseFault → Type 0
CaseIs m (Ok c) = (first_of c ≡ m) × ((run limits m).end ≡ solved)
CaseIs m (Err (Refused r)) = (run limits m).end ≡ refused r
CaseIs m (Err NoMemory) = Unit {0}

-- the cases of the systems, or the first refusal among them
abbrev pub EachCaseIs : List System → Result (Vec CaseParts Global) ChooseFault → Type 0
EachCaseIs ms (Ok v) = map first_of v.items ≡ ms
EachCaseIs ms (Err (Refused r)) = first_refused limits ms ≡ Some r
EachCaseIs ms (Err NoMemory) = Unit {0}

-- what a case keeps of its elimination is what the definition makes
pub record IsTraced (c : CaseParts) : Type 0 where
  pub steps : map step_of c.steps.items ≡ (made (first_of c)).steps
  pub bounds : map bound_of c.bounds.items ≡ (made (first_of c)).bounds

-- the case is done, and this is its arm
pub record IsArmFor (l : Layout) (c : CaseParts) (a : Arm) : Type 0 where
  pub done : IsCaseDone l (first_of c)
  pub traced : IsTraced c
  pub tree : arm_tree a ≡ arm_of_case limits l (first_of c)

-- the cases are done, and these are their arms
pub record AreArmsFor (l : Layout) (cases : List CaseParts) (arms : List Arm) : Type 0 where
  pub done : EachOf (IsCaseDone l) (map first_of cases)
  pub traced : EachOf IsTraced cases
  pub trees : map arm_tree arms ≡ map (λ c. arm_of_case limits l (first_of c)) cases

-- ---- a relation whose counts are within the limits
-- the refusal for a row past the limit, or else the first one of the eliminations
abbrev pub later_refusal : Layout → RelTree → Option Refusal
later_refusal l rel = (if written_passes l (negation_normal true rel) then Some Past else first_refused limits (first_systems l rel))

-- the cases of the relation, or its first refusal
abbrev pub CasesAre : Layout → RelTree → Result (Vec CaseParts Global) ChooseFault → Type 0
CasesAre l rel (Ok v) = (written_passes l (negation_normal true rel) ≡ false) × (map first_of v.items ≡ first_systems l rel)
CasesAre l rel (Err (Refused r)) = later_refusal l rel ≡ Some r
CasesAre l rel (Err NoMemory) = Unit {0}

-- few sets, and outputs that are numbers or sets
pub record IsFewSets (l : Layout) : Type 0 where
  pub few : set_count l ≤ MOST_SETS
  pub outputs : HasOutputs l

-- ---- counts
-- the refusal for too many sets or cases
abbrev pub case_refusal : Layout → RelTree → Option Refusal
case_refusal l rel =
    (if nat_lt choose_limits.sets (set_count l) then Some (Limit Sets (set_count l))
    else (if nat_lt choose_limits.cases (case_count (negation_normal true rel)) then Some
    (Limit Cases (min (case_count (negation_normal true rel)) (2 ^ 64 - 1)))
    else None))

abbrev pub CountIs : Option Refusal → Result (Unit {0}) ChooseFault → Type 0
CountIs o (Ok u) = o ≡ None
CountIs o (Err (Refused r)) = o ≡ Some r
CountIs o (Err NoMemory) = Unit {0}
