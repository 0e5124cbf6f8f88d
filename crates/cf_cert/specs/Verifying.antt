-- What the calls that judge blocks answer.
use Rattle.std.specs.Prelude.{◌≡◌, ℕ, ◌≤◌, ◌<◌, true, false, List, [], ◌∷◌, length, map, Some, None, Result, Ok, Err, Vec, IfOk}
use Rattle.std.specs.List.{flat_map}
use Rattle.std.specs.Global.{Global}
use Rattle.cf_tree.specs.CodeTree.{CodeTree}
use Rattle.cf_tree.specs.CodeView.{arm_tree}
use Rattle.cf_tree.specs.DefView.{TargetTree}
use Rattle.cf_tree.specs.declared.code.Arm.{Arm}
use Rattle.cf_tree.specs.declared.memory.NoMemory.{NoMemory as NoRoom}
use Rattle.cf_linear.specs.declared.system.Layout.{Layout as DeclaredLayout}
use Rattle.cf_linear.specs.Arm.{arm}
use Rattle.cf_linear.specs.Cases.{negation_normal, first_systems, written_passes}
use Rattle.cf_linear.specs.Layout.{Layout}
use Rattle.cf_linear.specs.Stages.{limits}
use Rattle.cf_linear.specs.Systems.{System, Answer}
use Rattle.cf_cases.specs.Holding.{EachOf}
use Rattle.cf_choose.specs.declared.fault.ChooseFault.{ChooseFault}
use Rattle.cf_choose.specs.declared.fault.ChooseFault.TheVariants.{Refused as ChooseRefused, NoMemory as ChooseNoMemory}
use Rattle.cf_cases.specs.declared.first_systems.TheConstants.{LEVEL_LIMIT}
use Rattle.cf_choose.specs.Eliminations.{case_refusal}
use Rattle.cf_elim.specs.declared.act.Act.{Act}
use Rattle.cf_steps.specs.Blocks.{BlockTree, block_acts}
use Rattle.cf_cert.specs.declared.fault.JudgeFault.{JudgeFault}
use Rattle.cf_cert.specs.declared.fault.JudgeFault.TheVariants.{Rejected, NoMemory}
use Rattle.cf_cert.specs.declared.follow.CaseFault.{CaseFault}
use Rattle.cf_cert.specs.declared.follow.CaseFault.TheVariants.{Rejected as CaseRejected, NoMemory as CaseNoMemory}
use Rattle.cf_cert.specs.declared.follow.TheConstants.{MOST_STEPS}
use Rattle.cf_cert.specs.declared.verdict.Verdict.{Verdict}
use Rattle.cf_cert.specs.declared.verdict.Verdict.TheVariants.{Rejected as VerdictRejected}
use Rattle.cf_cert.specs.declared.verdict.Why.TheVariants.{Refused}
use Rattle.cf_tree.specs.ChooseTree.{ChooseTree}
use Rattle.cf_cert.specs.Certifying.{layout, Followed, AreEliminated, Certifies}
use Rattle.cf_cert.specs.Judging.{case_fault, IsFaultOf}
use Rattle.cf_cert.specs.Laws.{MeansSolutions}

-- the target of the choose with that code
abbrev pub target_of : ChooseTree → CodeTree → TargetTree
target_of q code = record { params = q.scope; results = q.outputs; code = code }

-- each case has so few steps
abbrev pub HasFewActs : BlockTree → Type 0
HasFewActs b = EachOf (λ acts. length acts ≤ MOST_STEPS) b.cases

-- the blocks have so few steps in all as a steps file has bytes
abbrev pub HaveFewSteps : List BlockTree → Type 0
HaveFewSteps bs = length (flat_map block_acts bs) ≤ MOST_STEPS

-- there is one block for each choose, and its code means solutions
abbrev pub EachMeans : List ChooseTree → List BlockTree → Type 0
EachMeans [] [] = Unit {0}
EachMeans [] (b ∷ bs) = ⊥
EachMeans (q ∷ qs) [] = ⊥
EachMeans (q ∷ qs) (b ∷ bs) = MeansSolutions q b × EachMeans qs bs

-- the arm of what the steps of a case make, or the first of them that does not apply, or want of memory
abbrev pub ArmIs : Layout → Followed → Result Arm CaseFault → Type 0
ArmIs l f (Ok a) = (x : Answer) × (f ≡ Ok x) × (arm_tree a ≡ arm l x)
ArmIs l f (Err (CaseRejected i w)) = f ≡ Err (i, w)
ArmIs l f (Err CaseNoMemory) = Unit {0}

-- the fault of case i as one of the block
abbrev pub in_case : ℕ → CaseFault → JudgeFault
in_case i (CaseRejected s w) = Rejected i s w
in_case i CaseNoMemory = NoMemory

-- a layout and so many searches have few levels
pub record HasFew (l : DeclaredLayout) (n : ℕ) : Type 0 where
  pub scope : l.scope < LEVEL_LIMIT
  pub numbers : length l.numbers.items < LEVEL_LIMIT
  pub outputs : length l.out_numbers.items < LEVEL_LIMIT
  pub searches : n < LEVEL_LIMIT

-- the arms of what the steps of each case make
pub record AreArmsOf (l : Layout) (ms : List System) (cases : List (List Act)) (arms : List Arm) : Type 0 where
  pub answers : List Answer
  pub eliminated : AreEliminated limits ms cases answers
  pub trees : map arm_tree arms ≡ map (arm l) answers

-- the arms, or the first fault of the steps, or want of memory
abbrev pub ArmsIs : Layout → List System → List (List Act) → Result (Vec Arm Global) JudgeFault → Type 0
ArmsIs l ms cases (Ok arms) = AreArmsOf l ms cases arms.items
ArmsIs l ms cases (Err (Rejected c s w)) = case_fault limits 1 ms cases ≡ Some (c, s, w)
ArmsIs l ms cases (Err NoMemory) = Unit {0}

-- the block certifies the choose, or its first fault, or want of memory
abbrev pub JudgeIs : ChooseTree → BlockTree → Result (Unit {0}) JudgeFault → Type 0
JudgeIs q b (Ok u) = Certifies q b
JudgeIs q b (Err (Rejected c s w)) = IsFaultOf q b (c, s, w)
JudgeIs q b (Err NoMemory) = Unit {0}

-- a limit that a choose passes as a fault of the choose as a whole
abbrev pub whole_refusal : ChooseFault → JudgeFault
whole_refusal (ChooseRefused r) = Rejected 0 0 (Refused r)
whole_refusal ChooseNoMemory = NoMemory

-- the block has the choose's number, and the layout is the choose's
pub record IsPlaced (q : ChooseTree) (b : BlockTree) (l : Layout) : Type 0 where
  pub number : b.number ≡ q.number
  pub layout : l ≡ layout q

-- the block has the choose's number, no limit of sets, of cases or of written rows is passed, and its steps make these arms
pub record IsArmed (q : ChooseTree) (b : BlockTree) (arms : List Arm) : Type 0 where
  pub number : b.number ≡ q.number
  pub counts : case_refusal (layout q) q.relation ≡ None
  pub written : written_passes (layout q) (negation_normal true q.relation) ≡ false
  pub armed : AreArmsOf (layout q) (first_systems (layout q) q.relation) b.cases arms

-- the arms that its steps make, or its first fault before its code, or want of memory
abbrev pub ArmedIs : ChooseTree → BlockTree → Result (Vec Arm Global) JudgeFault → Type 0
ArmedIs q b (Ok arms) = IsArmed q b arms.items
ArmedIs q b (Err f) = JudgeIs q b (Err f)

-- the fault of a block as the verdict, or none where memory ran out
abbrev pub RejectedIs : ℕ → JudgeFault → Result Verdict NoRoom → Type 0
RejectedIs n (Rejected c s w) r = r ≡ Ok (VerdictRejected n c s w)
RejectedIs n NoMemory r = IfOk r (λ v. ⊥)
