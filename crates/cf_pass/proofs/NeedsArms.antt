-- Arms in a vector that lose their needs `true` one after the other.
use Rattle.std.proofs.Common.{◌≡◌, ◌<◌, ℕ, zero, suc, ◌+◌, List, [], ◌∷◌, length, get_or, refl, ap, arith}
use Rattle.std.proofs.Math.ListN.{set}
use Rattle.cf_tree.specs.declared.code.Arm.{Arm}
use Rattle.cf_tree.specs.CodeTree.{ArmTree, ArmTrees, no_arms, arm_more}
use Rattle.cf_tree.specs.CodeView.{arm_tree, arm_trees}
use Rattle.cf_pass.specs.DropNeeds.{arm_without, arms_without, needs_in_arm, needs_in_arms}

-- the first i arms have lost theirs
abbrev pub arms_to : ℕ → ArmTrees → ArmTrees
arms_to zero arms = arms
arms_to (suc i) no_arms = no_arms
arms_to (suc i) (arm_more a arms) = arm_more (arm_without a) (arms_to i arms)

abbrev pub needs_to : ℕ → ArmTrees → ℕ
needs_to zero arms = 0
needs_to (suc i) no_arms = 0
needs_to (suc i) (arm_more a arms) = needs_in_arm a + needs_to i arms

same_first : (a b : ArmTree) (arms brms : ArmTrees) → arm_more a arms ≡ arm_more b brms → (a ≡ b) × (arms ≡ brms)
same_first a b arms brms e = (cc, cc)

pub arms_on : (arms : ArmTrees) (xs : List Arm) (i : ℕ) (d x : Arm) → arm_trees xs ≡ arms_to i arms → i < length xs →
    arm_tree x ≡ arm_without (arm_tree (get_or xs i d)) → arm_trees (set xs i x) ≡ arms_to (suc i) arms
arms_on arms [] i d x e l h = absurd (omega arith)
arms_on no_arms (y ∷ xs) zero d x e l h = cc
arms_on no_arms (y ∷ xs) (suc i) d x e l h = cc
arms_on (arm_more a arms) (y ∷ xs) zero d x e l h = let p = same_first _ _ _ _ e in rw (h, p.0, p.1) refl
arms_on (arm_more a arms) (y ∷ xs) (suc i) d x e l h =
    let p = same_first _ _ _ _ e in rw (p.0, arms_on arms xs i d x p.1 (omega arith) h) refl

pub needs_on : (arms : ArmTrees) (xs : List Arm) (i : ℕ) (d : Arm) → arm_trees xs ≡ arms_to i arms → i < length xs →
    needs_to (suc i) arms ≡ needs_to i arms + needs_in_arm (arm_tree (get_or xs i d))
needs_on arms [] i d e l = absurd (omega arith)
needs_on no_arms (y ∷ xs) zero d e l = cc
needs_on no_arms (y ∷ xs) (suc i) d e l = cc
needs_on (arm_more a arms) (y ∷ xs) zero d e l = let p = same_first _ _ _ _ e in rw p.0 (omega arith)
needs_on (arm_more a arms) (y ∷ xs) (suc i) d e l =
    let p = same_first _ _ _ _ e in let r = needs_on arms xs i d p.1 (omega arith) in omega (arith, r)

pub arms_all : (arms : ArmTrees) (xs : List Arm) → arm_trees xs ≡ arms_to (length xs) arms → arm_trees xs ≡ arms_without arms
arms_all no_arms [] e = refl
arms_all no_arms (y ∷ xs) e = cc
arms_all (arm_more a arms) [] e = cc
arms_all (arm_more a arms) (y ∷ xs) e =
    let p = same_first _ _ _ _ e in rw (p.0, arms_all arms xs p.1) refl

pub needs_all : (arms : ArmTrees) (xs : List Arm) → arm_trees xs ≡ arms_to (length xs) arms → needs_to (length xs) arms ≡ needs_in_arms arms
needs_all no_arms [] e = refl
needs_all no_arms (y ∷ xs) e = cc
needs_all (arm_more a arms) [] e = cc
needs_all (arm_more a arms) (y ∷ xs) e =
    let p = same_first _ _ _ _ e in ap (λ n. needs_in_arm a + n) (needs_all arms xs p.1)
