-- What it means that the walk fails.
use Rattle.std.proofs.Common.{◌≡◌, ◌<◌, ℕ, zero, suc, ◌==◌, false, Option, Some, None, List, [], ◌∷◌, length, refl, sym, ◌∙◌, subst, arith}
use Rattle.cf_tree.specs.declared.base.Base.{Base}
use Rattle.cf_tree.specs.declared.code.Arm.{Arm}
use Rattle.cf_tree.specs.CodeView.{arm_trees}
use Rattle.cf_typing.specs.declared.fault.TargetFault.{TargetFault}
use Rattle.cf_typing.specs.declared.fault.TargetFault.TheVariants as faults
use Rattle.cf_typing.specs.Bases.{solved, arms_bases}
use Rattle.cf_typing.specs.TypingAnswers.{TypingFault}

pub not_zero : (n : ℕ) → false ≡ (n == 0) → 0 < n
not_zero zero h = cc
not_zero (suc n) h = omega arith

by_arms : (arms : List Arm) (e : TargetFault) (asked found : Option (List Base)) → 0 < length arms → TypingFault e found →
    TypingFault e (solved (arm_trees arms) asked found)
by_arms [] e asked found h f = absurd (omega (arith, h))
by_arms (a ∷ arms) faults.NoMemory asked found h f = tt
by_arms (a ∷ arms) faults.BadTarget None found h f = f
by_arms (a ∷ arms) faults.BadTarget (Some asked) found h f = rw f refl

-- a solve with arms fails as its arms do
pub solved_fails : (arms lent : List Arm) (scope : List Base) (e : TargetFault) (asked : Option (List Base)) → lent ≡ arms → 0 < length arms →
    TypingFault e (arms_bases (arm_trees lent) scope) →
    TypingFault e (solved (arm_trees arms) asked (arms_bases (arm_trees arms) scope))
solved_fails arms lent scope e asked same h f =
    by_arms arms e asked (arms_bases (arm_trees arms) scope) h (subst (λ xs. TypingFault e (arms_bases (arm_trees xs) scope)) same f)

-- where something is found, nothing is refused
pub refused : {A : Type 0} (e : TargetFault) (found : Option A) (x : A) → TypingFault e found → e ≡ faults.BadTarget → found ≡ Some x → ⊥
refused faults.NoMemory found x h e s = cc
refused faults.BadTarget found x h e s = let none : None ≡ Some x = sym h ∙ s in cc
