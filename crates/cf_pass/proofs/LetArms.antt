-- Arms in a vector that lose their lets one after the other.
use Rattle.std.proofs.Common.{◌≡◌, ◌<◌, ℕ, zero, suc, ◌+◌, Result, Ok, Err, IsOk, OnOk, OnErr, IfOk, List, [], ◌∷◌, length, get_or, refl, sym, ap, subst, ◌∙◌, arith}
use Rattle.std.proofs.Math.ListN.{set}
use Rattle.cf_tree.specs.declared.code.Arm.{Arm}
use Rattle.cf_tree.specs.CodeTree.{ArmTree, ArmTrees, no_arms, arm_more}
use Rattle.cf_tree.specs.CodeView.{arm_tree, arm_trees}
use Rattle.cf_tree.specs.RelSize.{capped}
use Rattle.cf_pass.specs.Lets.{arm_dropped, arms_dropped, arm_gone, arms_gone}
use Rattle.cf_pass.specs.LetSteps.{dropped_to, gone_to}

same_first : (a b : ArmTree) (arms brms : ArmTrees) → arm_more a arms ≡ arm_more b brms → (a ≡ b) × (arms ≡ brms)
same_first a b arms brms e = (cc, cc)

pub arms_on : (n : ℕ) (arms : ArmTrees) (xs : List Arm) (i : ℕ) (d x : Arm) → arm_trees xs ≡ dropped_to n i arms → i < length xs →
    arm_tree x ≡ arm_dropped n (arm_tree (get_or xs i d)) → arm_trees (set xs i x) ≡ dropped_to n (suc i) arms
arms_on n arms [] i d x e l h = absurd (omega (arith, l))
arms_on n no_arms (y ∷ xs) zero d x e l h = cc
arms_on n no_arms (y ∷ xs) (suc i) d x e l h = cc
arms_on n (arm_more a arms) (y ∷ xs) zero d x e l h = let p = same_first _ _ _ _ e in rw (h, p.0, p.1) refl
arms_on n (arm_more a arms) (y ∷ xs) (suc i) d x e l h =
    let p = same_first _ _ _ _ e in rw (p.0, arms_on n arms xs i d x p.1 (omega (arith, l)) h) refl

pub arms_same : (xs : List Arm) (i : ℕ) (d x : Arm) → i < length xs → arm_tree x ≡ arm_tree (get_or xs i d) → arm_trees (set xs i x) ≡ arm_trees xs
arms_same [] i d x l h = absurd (omega (arith, l))
arms_same (y ∷ xs) zero d x l h = rw h refl
arms_same (y ∷ xs) (suc i) d x l h = ap (λ arms. arm_more (arm_tree y) arms) (arms_same xs i d x (omega (arith, l)) h)

pub gone_on : (n : ℕ) (arms : ArmTrees) (xs : List Arm) (i : ℕ) (d : Arm) → arm_trees xs ≡ dropped_to n i arms → i < length xs →
    gone_to n (suc i) arms ≡ gone_to n i arms + arm_gone n (arm_tree (get_or xs i d))
gone_on n arms [] i d e l = absurd (omega (arith, l))
gone_on n no_arms (y ∷ xs) zero d e l = cc
gone_on n no_arms (y ∷ xs) (suc i) d e l = cc
gone_on n (arm_more a arms) (y ∷ xs) zero d e l = let p = same_first _ _ _ _ e in rw p.0 (omega arith)
gone_on n (arm_more a arms) (y ∷ xs) (suc i) d e l =
    let p = same_first _ _ _ _ e in let r = gone_on n arms xs i d p.1 (omega (arith, l)) in omega (arith, r)

pub arms_all : (n : ℕ) (arms : ArmTrees) (xs : List Arm) → arm_trees xs ≡ dropped_to n (length xs) arms → arm_trees xs ≡ arms_dropped n arms
arms_all n no_arms [] e = refl
arms_all n no_arms (y ∷ xs) e = cc
arms_all n (arm_more a arms) [] e = cc
arms_all n (arm_more a arms) (y ∷ xs) e = let p = same_first _ _ _ _ e in rw (p.0, arms_all n arms xs p.1) refl

pub gone_all : (n : ℕ) (arms : ArmTrees) (xs : List Arm) → arm_trees xs ≡ dropped_to n (length xs) arms → gone_to n (length xs) arms ≡ arms_gone n arms
gone_all n no_arms [] e = refl
gone_all n no_arms (y ∷ xs) e = cc
gone_all n (arm_more a arms) [] e = cc
gone_all n (arm_more a arms) (y ∷ xs) e = let p = same_first _ _ _ _ e in ap (λ m. arm_gone n a + m) (gone_all n arms xs p.1)

-- the first i arms are done, unless memory was wanting at one of them
pub record SoFar {E : Type 0} (n : ℕ) (olds : ArmTrees) (xs : List Arm) (i : ℕ) (r : Result ℕ E) : Type 0 where
  pub partly : (k : ℕ) × (arm_trees xs ≡ dropped_to n k olds)
  pub done : OnOk r (arm_trees xs ≡ dropped_to n i olds)
  pub removed : IfOk r (λ m. m ≡ capped (gone_to n i olds))

added : (m k a b : ℕ) → m ≡ capped (k + a) → k ≡ capped b → m ≡ capped (b + a)
added m k a b e f = omega (arith, e, f)

pub arm_next : {E : Type 0} (n : ℕ) (arms : ArmTrees) (xs : List Arm) (i : ℕ) (d x : Arm) (before after : Result ℕ E) → i < length xs →
    SoFar n arms xs i before → OnOk after (IsOk before) → OnOk after (arm_tree x ≡ arm_dropped n (arm_tree (get_or xs i d))) →
    OnErr after (arm_tree x ≡ arm_tree (get_or xs i d)) → IfOk after (λ m. IfOk before (λ k. m ≡ capped (k + arm_gone n (arm_tree (get_or xs i d))))) →
    SoFar n arms (set xs i x) (suc i) after
arm_next n arms xs i d x (Ok k) (Ok m) l h o e s g =
    let on = arms_on n arms xs i d x h.done l e in
    record {
      partly = (suc i, on);
      done = on;
      removed = added m k (arm_gone n (arm_tree (get_or xs i d))) (gone_to n i arms) g h.removed ∙ ap capped (sym (gone_on n arms xs i d h.done l));
    }
arm_next n arms xs i d x (Err f) (Ok m) l h o e s g = absurd cc
arm_next n arms xs i d x before (Err f) l h o e s g = record { partly = (h.partly.0, arms_same xs i d x l s ∙ h.partly.1); done = tt; removed = tt }

-- all arms are done
pub arms_end : {E : Type 0} (n : ℕ) (arms : ArmTrees) (xs : List Arm) (i : ℕ) (r : Result ℕ E) → i ≡ length xs → SoFar n arms xs i r →
    OnOk r (arm_trees xs ≡ arms_dropped n arms) × IfOk r (λ m. m ≡ capped (arms_gone n arms))
arms_end n arms xs i (Ok m) e h =
    let all : arm_trees xs ≡ dropped_to n (length xs) arms = subst (λ k. arm_trees xs ≡ dropped_to n k arms) e h.done in
    (arms_all n arms xs all, h.removed ∙ ap (λ k. capped (gone_to n k arms)) e ∙ ap capped (gone_all n arms xs all))
arms_end n arms xs i (Err f) e h = (tt, tt)
