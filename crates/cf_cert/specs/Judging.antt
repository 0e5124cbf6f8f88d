-- The first fault of the blocks of a steps file.
use Rattle.std.specs.Prelude.{◌≡◌, ℕ, ◌+◌, ◌==◌, true, not, ◌⊎◌, List, [], ◌∷◌, length, Option, Some, None, Ok, Err, Bool, if◌then◌else◌}
use Rattle.cf_linear.specs.declared.refusal.Refusal.{Refusal}
use Rattle.cf_linear.specs.declared.refusal.Refusal.TheVariants.{Past}
use Rattle.cf_linear.specs.Systems.{System}
use Rattle.cf_linear.specs.Stages.{Limits, limits}
use Rattle.cf_linear.specs.Cases.{negation_normal, first_systems, written_passes}
use Rattle.cf_choose.specs.Eliminations.{case_refusal}
use Rattle.cf_elim.specs.declared.act.Act.{Act}
use Rattle.cf_steps.specs.Blocks.{BlockTree}
use Rattle.cf_cert.specs.declared.verdict.Verdict.{Verdict}
use Rattle.cf_cert.specs.declared.verdict.Verdict.TheVariants.{Yes, Rejected}
use Rattle.cf_cert.specs.declared.verdict.Why.{Why}
use Rattle.cf_cert.specs.declared.verdict.Why.TheVariants.{Blocks, Code, Refused}
use Rattle.cf_tree.specs.ChooseTree.{ChooseTree}
use Rattle.cf_cert.specs.Certifying.{layout, Followed, eliminated, Certifies}

-- a case, a step and why
abbrev pub Fault : Type 0
Fault = ℕ × ℕ × Why

-- a fault of the choose as a whole
abbrev pub whole_fault : Why → Option Fault
whole_fault w = Some (0, 0, w)

abbrev pub fault_in : ℕ → Followed → Option Fault → Option Fault
fault_in i (Err f) later = Some (i, f.0, f.1)
fault_in i (Ok a) later = later

-- the first fault of the steps of as many cases, counted from i
unfoldable pub case_fault : Limits → ℕ → List System → List (List Act) → Option Fault
case_fault l i [] cases = None
case_fault l i (m ∷ ms) [] = None
case_fault l i (m ∷ ms) (acts ∷ cases) = fault_in i (eliminated l m acts) (case_fault l (i + 1) ms cases)

abbrev pub fault_of_refusal : Option Refusal → Option Fault → Option Fault
fault_of_refusal (Some r) later = whole_fault (Refused r)
fault_of_refusal None later = later

abbrev pub fault_if : Bool → Why → Option Fault → Option Fault
fault_if b w later = (if b then whole_fault w else later)

-- the block's number, Sets, Cases, a written or guard row past the limit, the number of cases, and then the steps
unfoldable pub fault_before_code : ChooseTree → BlockTree → Option Fault
fault_before_code q b =
    fault_if (not (b.number == q.number)) Blocks (
    fault_of_refusal (case_refusal (layout q) q.relation) (
    fault_if (written_passes (layout q) (negation_normal true q.relation)) (Refused Past) (
    fault_if (not (length b.cases == length (first_systems (layout q) q.relation))) Blocks (
    case_fault limits 1 (first_systems (layout q) q.relation) b.cases))))

-- the fault is the first one of the block: that of its code where there is no other and the block certifies nothing
abbrev pub IsFaultOf : ChooseTree → BlockTree → Fault → Type 0
IsFaultOf q b f = (fault_before_code q b ≡ Some f) ⊎ ((fault_before_code q b ≡ None) × (Certifies q b → ⊥) × (f ≡ (0, 0, Code)))

-- the verdict on the blocks for these chooses, one block for each in order
abbrev pub IsVerdict : List ChooseTree → List BlockTree → Verdict → Type 0
IsVerdict [] [] v = v ≡ Yes
IsVerdict [] (b ∷ bs) v = v ≡ Rejected b.number 0 0 Blocks
IsVerdict (q ∷ qs) [] v = v ≡ Rejected q.number 0 0 Blocks
IsVerdict (q ∷ qs) (b ∷ bs) v =
    (Certifies q b × IsVerdict qs bs v) ⊎ ((f : Fault) × IsFaultOf q b f × (v ≡ Rejected q.number f.0 f.1 f.2))
