-- A solve without its needs `true` may take the place of the solve.
use Rattle.std.proofs.Common.{◌≡◌, ℕ, Bool, true, false, cond, refl, sym, subst}
use Rattle.cf_tree.specs.CodeTree.{CodeTree, code_truth, code_solve, ItemTree, let_item, need_item, ItemTrees, no_items, item_more, arm_of, ArmTrees, no_arms, arm_more}
use Rattle.cf_pass.specs.Improves.{Improves}
use Rattle.cf_pass.specs.Parts.{behind_item}
use Rattle.cf_pass.specs.DropNeeds.{always_holds, other_items, arms_without, without_needs}
use Rattle.cf_pass.proofs.Forms.{improves_self}
use Rattle.cf_pass.proofs.CodeLists.{all_self}
use Rattle.cf_pass.proofs.Arms.{ItemsBetter, items_end, let_better, need_better, need_gone, ArmsBetter, IsStillGiven, improves_solve, arms_self, arm_better}

always_is : (i : ItemTree) → always_holds i ≡ true → i ≡ need_item (code_truth true)
always_is (need_item (code_truth true)) e = refl
always_is (need_item (code_truth false)) e = cc
always_is i e = cc

item_kept : (n : ℕ) (i : ItemTree) (is js : ItemTrees) → ItemsBetter (behind_item i n) is js → ItemsBetter n (item_more i is) (item_more i js)
item_kept n (let_item c) is js h = let_better n c c is js (improves_self n c) h
item_kept n (need_item c) is js h = need_better n c c is js (improves_self n c) h

kept_or_gone : (n : ℕ) (i : ItemTree) (is js : ItemTrees) (t : Bool) → always_holds i ≡ t → ItemsBetter (behind_item i n) is js →
    ItemsBetter n (item_more i is) (cond t js (item_more i js))
kept_or_gone n i is js false e h = item_kept n i is js h
kept_or_gone n i is js true e h =
    subst (λ k. ItemsBetter (behind_item k n) is js → ItemsBetter n (item_more k is) js) (sym (always_is i e)) (need_gone n is js) h

other_better : (n : ℕ) (is : ItemTrees) → ItemsBetter n is (other_items is)
other_better n no_items = items_end n
other_better n (item_more i is) = kept_or_gone n i is (other_items is) (always_holds i) refl (other_better (behind_item i n) is)

without_better : (n : ℕ) (arms : ArmTrees) → ArmsBetter n arms (arms_without arms)
without_better n no_arms = arms_self n no_arms
without_better n (arm_more (arm_of bounds is gs) arms) =
    arm_better n bounds is (other_items is) gs gs arms (arms_without arms) (other_better _ is) (all_self _ gs) (without_better n arms)

still_given : (arms : ArmTrees) → IsStillGiven arms (arms_without arms)
still_given no_arms asked bs t = t
still_given (arm_more (arm_of bounds is gs) arms) asked bs t = t

pub needs_improve : (n : ℕ) (c : CodeTree) → Improves n c (without_needs c)
needs_improve n (code_solve k arms) = improves_solve n k arms (arms_without arms) (still_given arms) (without_better n arms)
needs_improve n c = improves_self n c
