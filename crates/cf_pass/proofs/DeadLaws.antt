-- A solve without its dead arms may take the place of the solve.
use Rattle.std.proofs.Common.{◌||◌, ◌≡◌, ℕ, zero, suc, Bool, true, false, cond, Option, Some, None, List, [], ◌∷◌, ◌++◌, refl, sym, subst, arith}
use Rattle.cf_tree.specs.CodeTree.{CodeTree, code_truth, code_solve, CodeTrees, ItemTree, let_item, need_item, ItemTrees, no_items, item_more, ArmTree, arm_of, ArmTrees, no_arms, arm_more}
use Rattle.cf_tree.specs.Meaning.{Got, got, Path, then_gives, then_path, if_some, or_later, items_path, item_path, arm_path, first_from, meets_all, tuple_at, count_below}
use Rattle.cf_tree.specs.Typing.{ItemHasNoSolve, ItemsHaveNoSolve}
use Rattle.cf_tree.specs.Values.{Value}
use Rattle.cf_pass.specs.Improves.{IsNoWorse, Improves}
use Rattle.cf_pass.specs.DropArms.{never_holds, some_never, is_dead, live_arms, or_this, arms_left, without_arms}
use Rattle.cf_tree.proofs.SolvingLemmas.{IsGot, is_got, got_then, got_path}
use Rattle.cf_pass.proofs.Forms.{improves_self}
use Rattle.cf_pass.proofs.CodeLists.{all_self}
use Rattle.cf_pass.proofs.Arms.{ArmsBetter, IsStillGiven, improves_solve, arms_self, arm_better, items_better}
use Rattle.cf_pass.proofs.LoopSteps.{items_self}

never_is : (i : ItemTree) → never_holds i ≡ true → i ≡ need_item (code_truth false)
never_is (need_item (code_truth false)) e = refl
never_is (need_item (code_truth true)) e = cc
never_is i e = cc

-- nothing is found
abbrev IsNone : Got (Option (List Value)) → Type 0
IsNone g = g ≡ got None

none_first : (n k : ℕ) (f : ℕ → Path (Option (List Value))) → ((i : ℕ) → IsNone (f i).gives) → IsNone (first_from n k f).gives
none_first zero k f h = refl
none_first (suc n) k f h = rw (h k) (none_first n (suc k) f h)

none_then : (g : Got (Option (List Value))) (go : List Value → Path (Option (List Value))) → IsNone g → IsNone (then_gives g (λ o. (if_some o go).gives))
none_then g go h = rw h refl

-- a path that is sure to give something, and then nothing
then_none : {A : Type 0} (g : Got A) (go : A → Got (Option (List Value))) → IsGot g → ((x : A) → IsNone (go x)) → IsNone (then_gives g go)
then_none g go (is_got x) f = f x

some_none : (o : Option (List Value)) (go : List Value → Path (Option (List Value))) → ((env : List Value) → IsNone (go env).gives) →
    IsNone (if_some o go).gives
some_none None go f = refl
some_none (Some env) go f = f env

item_got : (i : ItemTree) (env : List Value) → ItemHasNoSolve i → IsGot (item_path i env).gives
item_got (let_item c) env s = got_then _ (got_path c env s) (λ x. is_got _)
item_got (need_item c) env s = got_then _ (got_path c env s) (λ x. is_got _)

never_none : (is : ItemTrees) (env : List Value) → some_never is ≡ true → ItemsHaveNoSolve is → IsNone (items_path is env).gives
never_none no_items env e s = cc
never_none (item_more i is) env e s = by (never_holds i) refl e (λ env' e'. never_none is env' e' s.1)
  where
    by : (t : Bool) → never_holds i ≡ t → (t || some_never is) ≡ true → ((env' : List Value) → some_never is ≡ true → IsNone (items_path is env').gives) →
        IsNone (items_path (item_more i is) env).gives
    by true f e r = subst (λ k. IsNone (items_path (item_more k is) env).gives) (sym (never_is i f)) refl
    by false f e r = then_none (item_path i env).gives _ (item_got i env s.0) (λ o. some_none o (items_path is) (λ env'. r env' e))

numbers_got : (ks : List ℕ) → IsGot (meets_all ks).gives
numbers_got [] = is_got _
numbers_got (k ∷ ks) = got_then _ (numbers_got ks) (λ vs. is_got _)

dead_none : (bounds : List ℕ) (is : ItemTrees) (gs : CodeTrees) (env : List Value) → some_never is ≡ true → ItemsHaveNoSolve is →
    IsNone (arm_path (arm_of bounds is gs) env).gives
dead_none bounds is gs env e s =
    none_first (count_below bounds) 0 _
    (λ i. then_none _ _ (numbers_got (tuple_at bounds i)) (λ ks. none_then _ _ (never_none is (env ++ ks) e s)))

-- a way that finds nothing, and then another
then_later : (g : Got (Option (List Value))) (m : ℕ) (p q : Path (Option (List Value))) → IsNone g → IsNoWorse p q →
    IsNoWorse (then_path (record { gives = g; peak = m }) (λ o. or_later o p)) q
then_later g m p q e h = rw e (record { gives = h.gives; peak = omega (arith, h.peak) })

arm_gone : (n : ℕ) (a : ArmTree) (arms brms : ArmTrees) → is_dead a ≡ true → ArmsBetter n arms brms → ArmsBetter n (arm_more a arms) brms
arm_gone n (arm_of bounds is gs) arms brms e k = record {
  typed = λ scope bs l t. k.typed scope bs l t.4;
  runs = λ scope bs env l t h. then_later (arm_path (arm_of bounds is gs) env).gives (arm_path (arm_of bounds is gs) env).peak _ _
      (dead_none bounds is gs env e t.1) (k.runs scope bs env l t.4 h);
  size = omega (arith, k.size);
  deep = omega (arith, k.deep);
  lacks = λ x l u. k.lacks x l u.2;
  spelled = λ u. k.spelled u.4;
}

arm_kept : (n : ℕ) (a : ArmTree) (arms brms : ArmTrees) → ArmsBetter n arms brms → ArmsBetter n (arm_more a arms) (arm_more a brms)
arm_kept n (arm_of bounds is gs) arms brms k =
    arm_better n bounds is is gs gs arms brms (items_better _ is is (items_self _ is)) (all_self _ gs) k

live_or_dead : (n : ℕ) (a : ArmTree) (arms brms : ArmTrees) (t : Bool) → is_dead a ≡ t → ArmsBetter n arms brms →
    ArmsBetter n (arm_more a arms) (cond t brms (arm_more a brms))
live_or_dead n a arms brms false e k = arm_kept n a arms brms k
live_or_dead n a arms brms true e k = arm_gone n a arms brms e k

live_better : (n : ℕ) (arms : ArmTrees) → ArmsBetter n arms (live_arms arms)
live_better n no_arms = arms_self n no_arms
live_better n (arm_more a arms) = live_or_dead n a arms (live_arms arms) (is_dead a) refl (live_better n arms)

-- where no arm is left, the first one stays
or_this_better : (n : ℕ) (a : ArmTree) (arms brms : ArmTrees) (t : Bool) → ArmsBetter n arms brms →
    ArmsBetter n (arm_more a arms) (cond t brms (arm_more a brms)) →
    ArmsBetter n (arm_more a arms) (or_this a (cond t brms (arm_more a brms)))
or_this_better n a arms brms false k h = h
or_this_better n a arms no_arms true k h = arm_kept n a arms no_arms k
or_this_better n a arms (arm_more b brms) true k h = h

left_better : (n : ℕ) (arms : ArmTrees) → ArmsBetter n arms (arms_left arms)
left_better n no_arms = arms_self n no_arms
left_better n (arm_more a arms) = or_this_better n a arms (live_arms arms) (is_dead a) (live_better n arms) (live_better n (arm_more a arms))

this_given : (a : ArmTree) (arms brms : ArmTrees) → IsStillGiven (arm_more a arms) (or_this a brms)
this_given a arms no_arms asked bs t = t
this_given a arms (arm_more b brms) asked bs t = t

still_given : (arms : ArmTrees) → IsStillGiven arms (arms_left arms)
still_given no_arms asked bs t = t
still_given (arm_more a arms) asked bs t = this_given a arms (live_arms (arm_more a arms)) asked bs t

pub arms_improve : (n : ℕ) (c : CodeTree) → Improves n c (without_arms c)
arms_improve n (code_solve k arms) = improves_solve n k arms (arms_left arms) (still_given arms) (left_better n arms)
arms_improve n c = improves_self n c
