-- What is written for each of some numbers, and how many arms there are.
use Rattle.std.proofs.Common.{◌≡◌, ◌∙◌, ℕ, suc, ◌+◌, ◌-◌, ◌<◌, List, [], ◌∷◌, ◌++◌, length, refl, ap, subst, arith}
use Rattle.std.proofs.lemmas.List.{append_assoc}
use Rattle.cf_tree.specs.CodeView.{arm_trees}
use Rattle.cf_tree.specs.declared.code.Arm.{Arm}
use Rattle.cf_smt.specs.Commands.{each}
use Rattle.cf_smt.specs.Goals.{arm_count}

-- the next of n numbers
pub next_each : (f : ℕ → List ℕ) (n i : ℕ) (out new all : List ℕ) → i < n → new ≡ out ++ f i → out ++ each f i (n - i) ≡ all →
    new ++ each f (i + 1) (n - (i + 1)) ≡ all
next_each f n i out new all below is e =
    let one : n - i ≡ suc (n - (i + 1)) = omega (arith, below) in
    ap (λ u. u ++ each f (i + 1) (n - (i + 1))) is ∙ append_assoc out (f i) (each f (i + 1) (n - (i + 1))) ∙
    subst (λ m. out ++ each f i m ≡ all) one e

pub count_arms : (arms : List Arm) → arm_count (arm_trees arms) ≡ length arms
count_arms [] = refl
count_arms (a ∷ arms) = ap suc (count_arms arms)
