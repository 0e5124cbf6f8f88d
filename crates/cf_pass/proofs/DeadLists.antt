-- Arms in a vector, without the dead ones.
use Rattle.std.proofs.Common.{◌≡◌, ◌≤◌, ℕ, suc, Bool, true, false, not, ◌&&◌, cond, List, [], ◌∷◌, length, filter, take, refl, ap, sym, ◌∙◌, arith}
use Rattle.cf_tree.specs.declared.code.Arm.{Arm}
use Rattle.cf_tree.specs.CodeTree.{ArmTree, ArmTrees, no_arms, arm_more}
use Rattle.cf_tree.specs.CodeView.{arm_tree, arm_trees}
use Rattle.cf_pass.specs.DropArms.{is_dead, all_dead, live_arms, or_this, arms_left, arm_count}

abbrev pub lives : Arm → Bool
lives a = not (is_dead (arm_tree a))

one_live : (t : Bool) (x : Arm) (xs : List Arm) (arms : ArmTrees) → arm_trees xs ≡ arms →
    arm_trees (cond (not t) (x ∷ xs) xs) ≡ cond t arms (arm_more (arm_tree x) arms)
one_live true x xs arms e = e
one_live false x xs arms e = ap (λ brms. arm_more (arm_tree x) brms) e

filter_live : (xs : List Arm) → arm_trees (filter lives xs) ≡ live_arms (arm_trees xs)
filter_live [] = refl
filter_live (x ∷ xs) = one_live (is_dead (arm_tree x)) x (filter lives xs) (live_arms (arm_trees xs)) (filter_live xs)

or_live : (a : ArmTree) (arms : ArmTrees) → all_dead arms ≡ false → or_this a (live_arms arms) ≡ live_arms arms
or_live a no_arms e = cc
or_live a (arm_more b arms) e = by (is_dead b) e (or_live a arms)
  where
    by : (t : Bool) → (t && all_dead arms) ≡ false → (all_dead arms ≡ false → or_this a (live_arms arms) ≡ live_arms arms) →
        or_this a (cond t (live_arms arms) (arm_more b (live_arms arms))) ≡ cond t (live_arms arms) (arm_more b (live_arms arms))
    by true e r = r e
    by false e r = refl

left_live : (arms : ArmTrees) → all_dead arms ≡ false → arms_left arms ≡ live_arms arms
left_live no_arms e = cc
left_live (arm_more a arms) e = or_live a (arm_more a arms) e

none_live : (arms : ArmTrees) → all_dead arms ≡ true → live_arms arms ≡ no_arms
none_live no_arms e = refl
none_live (arm_more a arms) e = by (is_dead a) e (none_live arms)
  where
    by : (t : Bool) → (t && all_dead arms) ≡ true → (all_dead arms ≡ true → live_arms arms ≡ no_arms) →
        cond t (live_arms arms) (arm_more a (live_arms arms)) ≡ no_arms
    by true e r = r e
    by false e r = cc

pub live_left : (xs : List Arm) → all_dead (arm_trees xs) ≡ false → arm_trees (filter lives xs) ≡ arms_left (arm_trees xs)
live_left xs e = filter_live xs ∙ sym (left_live (arm_trees xs) e)

pub first_left : (xs : List Arm) → all_dead (arm_trees xs) ≡ true → arm_trees (take 1 xs) ≡ arms_left (arm_trees xs)
first_left [] e = refl
first_left (x ∷ xs) e = ap (λ brms. or_this (arm_tree x) brms) (sym (none_live (arm_trees (x ∷ xs)) e))

pub as_many_arms : (xs : List Arm) → arm_count (arm_trees xs) ≡ length xs
as_many_arms [] = refl
as_many_arms (x ∷ xs) = ap suc (as_many_arms xs)

live_fewer : (arms : ArmTrees) → arm_count (live_arms arms) ≤ arm_count arms
live_fewer no_arms = omega arith
live_fewer (arm_more a arms) = by (is_dead a) (live_fewer arms)
  where
    by : (t : Bool) → arm_count (live_arms arms) ≤ arm_count arms → arm_count (cond t (live_arms arms) (arm_more a (live_arms arms))) ≤ suc (arm_count arms)
    by true l = omega (arith, l)
    by false l = omega (arith, l)

or_fewer : (a : ArmTree) (arms : ArmTrees) (n : ℕ) → arm_count arms ≤ suc n → arm_count (or_this a arms) ≤ suc n
or_fewer a no_arms n l = omega arith
or_fewer a (arm_more b arms) n l = l

pub left_fewer : (arms : ArmTrees) → arm_count (arms_left arms) ≤ arm_count arms
left_fewer no_arms = omega arith
left_fewer (arm_more a arms) = or_fewer a (live_arms (arm_more a arms)) (arm_count arms) (live_fewer (arm_more a arms))
