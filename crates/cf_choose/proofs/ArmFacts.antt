-- What the arm of a case owes to its first system.
use Rattle.std.specs.Prelude.{ℕ, ◌≤◌, List}
use Rattle.cf_tree.specs.declared.base.Base.{Base}
use Rattle.cf_tree.specs.CodeTree.{ArmTree, no_arms, arm_more, arms_depth}
use Rattle.cf_tree.specs.Solving.{NeedsHold, ArmGives}
use Rattle.cf_tree.specs.Typing.{ArmsHave}
use Rattle.cf_tree.specs.Values.{Value, HaveBases}
use Rattle.cf_linear.specs.Layout.{Layout}
use Rattle.cf_linear.specs.Systems.{System, Sat}
use Rattle.cf_linear.specs.Rows.{Values}
use Rattle.cf_linear.specs.Solved.{SameKnown}
use Rattle.cf_venn.specs.Columns.{known_values, outputs_from}

-- the needs of the arm hold at some tuple where the system has a solution at the parameters, and at each tuple at which they hold the arm
-- gives the outputs of a solution; the arm is well typed and not deep
pub record IsArmOf (scope outputs : List Base) (l : Layout) (m : System) (arm : ArmTree) : Type 0 where
  pub meets : (env : List Value) → HaveBases scope env → (w : Values) → SameKnown m (known_values l env) w → Sat m w → (ks : List ℕ) × (e : List Value) ×
      NeedsHold arm env ks e
  pub gives : (env : List Value) → HaveBases scope env → (ks : List ℕ) (e : List Value) → NeedsHold arm env ks e →
      (w : Values) × SameKnown m (known_values l env) w × Sat m w × ArmGives arm e (outputs_from l env w)
  pub typed : ArmsHave (arm_more arm no_arms) scope outputs
  pub shallow : arms_depth (arm_more arm no_arms) ≤ 16
