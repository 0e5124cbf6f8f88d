-- What `emit smt` writes: the chooses of a source with their arms, and goals for solvers.
use Rattle.std.specs.Prelude.{◌≡◌, ◌==◌, ℕ, ◌+◌, ◌&&◌, Bool, true, false, List, [], ◌∷◌, ◌++◌, length, Result, Ok, Err, if◌then◌else◌}
use Rattle.std.specs.List.{list_all}
use Rattle.cf_tree.specs.ChooseTree.{ChooseTree}
use Rattle.cf_tree.specs.CodeTree.{CodeTree, code_solve}
use Rattle.cf_program.specs.Checked.{TypedTree}
use Rattle.cf_build.specs.Chooses.{all_chooses, by_number, choose_arms}
use Rattle.cf_smt.specs.Forms.{rel_has_form, arms_have_forms}
use Rattle.cf_smt.specs.Goals.{claim_text}
use Rattle.cf_smt.specs.Names.{Claim}
use Rattle.cf_smt.specs.declared.claims.ClaimFault.{ClaimFault}
use Rattle.cf_smt.specs.declared.claims.ClaimFault.TheVariants.{Sets, NoMemory}

-- no set stands in a choose and its arms
abbrev pub choose_has_form : ChooseTree → Bool
choose_has_form q = rel_has_form q.relation && arms_have_forms (choose_arms q)

abbrev pub all_have_forms : TypedTree → Bool
all_have_forms typed = list_all choose_has_form (by_number (all_chooses typed.defs))

-- which branch of its number comes next, where this number came last and this branch of it would follow
abbrev pub branch_behind : ℕ → ℕ → ℕ → ℕ
branch_behind last next number = if last == number then next else 0

-- chooses in the order of their numbers, each with which of its branches it is
abbrev pub with_branches : ℕ → ℕ → List ChooseTree → List (ChooseTree × ℕ)
with_branches last next [] = []
with_branches last next (q ∷ qs) =
    (q, branch_behind last next q.number) ∷ with_branches q.number (branch_behind last next q.number + 1) qs

-- the claim is that the arms of the choose solve it in this branch; what the source names its scope and its outputs is free
pub record IsClaimOf (q : ChooseTree) (k : ℕ) (c : Claim) : Type 0 where
  pub number : c.number ≡ q.number
  pub branch : c.branch ≡ k
  pub scope : length c.scope ≡ length q.names
  pub outputs : length c.outputs ≡ length q.outputs
  pub relation : c.relation ≡ q.relation
  pub arms : c.arms ≡ choose_arms q

-- what is written of chooses, each in one of its branches, is the text of such claims in order
abbrev pub AreClaimed : List (ChooseTree × ℕ) → List ℕ → Type 0
AreClaimed [] text = text ≡ []
AreClaimed (c ∷ cs) text = (claim : Claim) × (more : List ℕ) × (text ≡ claim_text claim ++ more) × IsClaimOf c.0 c.1 claim × AreClaimed cs more

-- ---- what the parts of it answer
abbrev pub IsSolve : CodeTree → Type 0
IsSolve (code_solve n arms) = Unit {0}
IsSolve c = ⊥

-- a set stands where none may, or memory ran out
abbrev pub IsClaimFault : Bool → ClaimFault → Type 0
IsClaimFault forms Sets = forms ≡ false
IsClaimFault forms NoMemory = Unit {0}

-- the goals of a choose stand behind what was written, or why they do not
abbrev pub GoalsAnswer : ChooseTree → ℕ → List ℕ → List ℕ → Result (Unit {0}) ClaimFault → Type 0
GoalsAnswer q k old new (Ok done) = (choose_has_form q ≡ true) × (c : Claim) × IsClaimOf q k c × (new ≡ old ++ claim_text c)
GoalsAnswer q k old new (Err f) = IsClaimFault (choose_has_form q) f

abbrev pub GoalsWritten : List ChooseTree → List ℕ → List ℕ → Result (Unit {0}) ClaimFault → Type 0
GoalsWritten qs old new (Ok done) = (list_all choose_has_form qs ≡ true) × (more : List ℕ) × (new ≡ old ++ more) × AreClaimed (with_branches 0 0 qs) more
GoalsWritten qs old new (Err f) = IsClaimFault (list_all choose_has_form qs) f
