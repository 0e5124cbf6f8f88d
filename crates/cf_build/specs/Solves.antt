-- Chooses that may be solved, and what their codes keep.
use Rattle.std.specs.Prelude.{◌^◌, ◌≤◌, ◌<◌, ◌≡◌, List, [], ◌∷◌, ◌++◌, length, Some, None, All}
use Rattle.cf_tree.specs.CodeTree.{CodeTree}
use Rattle.cf_tree.specs.Relation.{IsTyped, IsLinear}
use Rattle.cf_tree.specs.Spelled.{IsSpelled}
use Rattle.cf_choose.specs.Solved.{IsOutput, ArmsSolve, IsOf}
use Rattle.cf_tree.specs.DefView.{DefTree}
use Rattle.cf_tree.specs.ChooseView.{choose_tree}
use Rattle.cf_build.specs.declared.solves.SolvedChoose.{SolvedChoose}
use Rattle.cf_build.specs.declared.fault.BuildFault.{BuildFault}
use Rattle.cf_build.specs.declared.fault.BuildFault.TheVariants as faults
use Rattle.cf_tree.specs.ChooseTree.{ChooseTree}
use Rattle.cf_build.specs.Chooses.{chooses_in, limit_of, first_refused, IsFirstRefused, choose_arms, solve_of}

-- a choose of a typed program
pub record IsTypedChoose (q : ChooseTree) : Type 0 where
  pub positive : 1 ≤ q.number
  pub several : 1 ≤ length q.outputs
  pub outputs : All IsOutput q.outputs
  pub typed : IsTyped (q.scope ++ q.outputs) q.relation
  pub linear : IsLinear q.relation

-- the solve of a choose that passes no limit, whose arms solve it
pub record IsSolveOf (q : ChooseTree) (c : CodeTree) : Type 0 where
  pub code : c ≡ solve_of q
  pub within : limit_of q ≡ None
  pub solved : ArmsSolve q.scope q.outputs q.relation (choose_arms q)
  pub spelled : IsSpelled c

-- this choose of a typed program, with arms that solve its relation over its scope for its outputs
pub record IsSolved (q : ChooseTree) (s : SolvedChoose) : Type 0 where
  pub choose : choose_tree s.choose ≡ q
  pub fits : q.number < 2 ^ 32
  pub typed : IsTypedChoose q
  pub solved : IsOf q.scope q.outputs q.relation s.solved

-- these chooses are solved, in this order
abbrev pub AreSolved : List ChooseTree → List SolvedChoose → Type 0
AreSolved [] [] = Unit {0}
AreSolved (q ∷ qs) (s ∷ ss) = IsSolved q s × AreSolved qs ss
AreSolved qs ss = ⊥

-- the chooses of all functions, without regard to matches
abbrev pub chooses_of : List DefTree → List ChooseTree
chooses_of [] = []
chooses_of (d ∷ ds) = chooses_in d.body ++ chooses_of ds

-- the first of these chooses that is refused, or memory ran out
abbrev pub IsFaultAmong : List ChooseTree → BuildFault → Type 0
IsFaultAmong qs (faults.Choose n r) = first_refused qs ≡ Some (n, r)
IsFaultAmong qs faults.NoMemory = Unit {0}

-- the same of chooses that are solved in the order of their numbers
abbrev pub FaultAnswer : List ChooseTree → BuildFault → Type 0
FaultAnswer qs (faults.Choose n r) = IsFirstRefused qs n r
FaultAnswer qs faults.NoMemory = Unit {0}
