-- Solves with better arms, and arms with better items.
use Rattle.std.proofs.Common.{◌≡◌, ◌≤◌, ◌<◌, ℕ, suc, ◌+◌, true, Option, Some, None, List, [], ◌∷◌, ◌++◌, length, map, refl, sym, ap, subst, arith, length-append}
use Rattle.cf_tree.specs.declared.base.Base.{Base}
use Rattle.cf_tree.specs.declared.base.Base.TheVariants.{Int, Bool as Truth}
use Rattle.cf_tree.specs.CodeTree.{CodeTree, code_truth, code_solve, CodeTrees, let_item, need_item, ItemTrees, no_items, item_more, arm_of, ArmTrees, no_arms, arm_more, items_size, arms_size, items_depth, arms_depth}
use Rattle.cf_tree.specs.Meaning.{Got, got, items_path, arms_path, arm_path, meets_all, tuple_at, count_below}
use Rattle.cf_tree.specs.Spelled.{AreItemsSpelled, AreArmsSpelled}
use Rattle.cf_tree.specs.Typing.{PartsHave, ItemsHave, ArmsHave, IsGiven, ItemsHaveNoSolve, one, ask}
use Rattle.cf_tree.specs.Values.{Value, HaveBases}
use Rattle.cf_pass.specs.Improves.{IsNoWorse, Improves}
use Rattle.cf_pass.specs.Lacks.{ItemsLack, ArmsLack}
use Rattle.cf_pass.specs.Parts.{count_lets, AllImprove, ItemsImprove, ArmsImprove}
use Rattle.cf_pass.proofs.Ways.{same_way, ways_on, then_better, then_any, then_same, some_better, later_better, first_better}
use Rattle.cf_pass.proofs.Sound.{GivesOnly, given_is, have_append, numbers_have, HoldsIfSome, Reaches, items_sound, let_sound, need_sound}
use Rattle.cf_pass.proofs.CodeLists.{all_size, all_deep, all_lack, all_spelled, all_no_solve, all_gives, parts_typed, parts_run}

-- ---- items
pub record ItemsBetter (n : ℕ) (is js : ItemTrees) : Type 1 where
  pub typed : (scope : List Base) (P Q : List Base → Type 0) → length scope ≡ n → ((inner : List Base) → length inner ≡ n + count_lets is → P inner → Q inner) →
      ItemsHave is scope P → ItemsHave js scope Q
  pub runs : (scope : List Base) (P : List Base → Type 0) (env : List Value) → length scope ≡ n → ItemsHave is scope P → HaveBases scope env →
      IsNoWorse (items_path is env) (items_path js env)
  pub size : items_size js ≤ items_size is
  pub deep : items_depth js ≤ items_depth is
  pub lacks : (x : ℕ) → x < n → ItemsLack x is → ItemsLack x js
  pub spelled : AreItemsSpelled is → AreItemsSpelled js
  pub no_solve : ItemsHaveNoSolve is → ItemsHaveNoSolve js

pub items_end : (n : ℕ) → ItemsBetter n no_items no_items
items_end n = record {
  typed = λ scope P Q l f t. f scope (omega (arith, l)) t;
  runs = λ scope P env l t e. same_way _;
  size = omega arith;
  deep = omega arith;
  lacks = λ x l u. tt;
  spelled = λ u. tt;
  no_solve = λ u. tt;
}

found_env : (P : List Value → Type 0) (g : Got (Option (List Value))) (o : Option (List Value)) (env : List Value) → GivesOnly (HoldsIfSome P) g →
    g ≡ got o → o ≡ Some env → P env
found_env P g o env h e f = subst (HoldsIfSome P) f (given_is (HoldsIfSome P) o h e)

module _ (n : ℕ) (c d : CodeTree) (is js : ItemTrees) (h : Improves n c d) where
  pub let_better : ItemsBetter (suc n) is js → ItemsBetter n (item_more (let_item c) is) (item_more (let_item d) js)
  let_better k = record {
    typed = λ scope P Q l f t. (
      t.0,
      h.typed scope None (one t.0) l t.1,
      k.typed (scope ++ one t.0) P Q (omega (arith, l, length-append scope (one t.0))) (λ inner m. f inner (omega (arith, m))) t.2,
    );
    runs = λ scope P env l t e. then_better _ _ _ _ (then_same _ _ _ (h.runs scope None (one t.0) env l t.1 e))
        (λ o g. some_better o _ _ (λ env' f. k.runs (scope ++ one t.0) P env' (omega (arith, l, length-append scope (one t.0))) t.2
        (found_env (HaveBases (scope ++ one t.0)) _ o env' (let_sound c scope t.0 env t.1 e) g f)));
    size = omega (arith, h.size, k.size);
    deep = omega (arith, h.deep, k.deep);
    lacks = λ x l u. (h.lacks x l u.0, k.lacks x (omega (arith, l)) u.1);
    spelled = λ u. (h.spelled u.0, k.spelled u.1);
    no_solve = λ u. (h.no_solve u.0, k.no_solve u.1);
  }

  pub need_better : ItemsBetter n is js → ItemsBetter n (item_more (need_item c) is) (item_more (need_item d) js)
  need_better k = record {
    typed = λ scope P Q l f t. (h.typed scope (ask Truth) (one Truth) l t.0, k.typed scope P Q l f t.1);
    runs = λ scope P env l t e. then_better _ _ _ _ (then_same _ _ _ (h.runs scope (ask Truth) (one Truth) env l t.0 e))
        (λ o g. some_better o _ _ (λ env' f. k.runs scope P env' l t.1 (found_env (HaveBases scope) _ o env' (need_sound c scope env e) g f)));
    size = omega (arith, h.size, k.size);
    deep = omega (arith, h.deep, k.deep);
    lacks = λ x l u. (h.lacks x l u.0, k.lacks x l u.1);
    spelled = λ u. (h.spelled u.0, k.spelled u.1);
    no_solve = λ u. (h.no_solve u.0, k.no_solve u.1);
  }

-- a need that always holds is left out
pub need_gone : (n : ℕ) (is js : ItemTrees) → ItemsBetter n is js → ItemsBetter n (item_more (need_item (code_truth true)) is) js
need_gone n is js k = record {
  typed = λ scope P Q l f t. k.typed scope P Q l f t.1;
  runs = λ scope P env l t e. let r = k.runs scope P env l t.1 e in record { gives = r.gives; peak = omega (arith, r.peak) };
  size = omega (arith, k.size);
  deep = omega (arith, k.deep);
  lacks = λ x l u. k.lacks x l u.1;
  spelled = λ u. k.spelled u.1;
  no_solve = λ u. k.no_solve u.1;
}

pub items_better : (n : ℕ) (is js : ItemTrees) → ItemsImprove n is js → ItemsBetter n is js
items_better n no_items no_items h = items_end n
items_better n no_items (item_more j js) h = absurd h
items_better n (item_more i is) no_items h = absurd h
items_better n (item_more (let_item c) is) (item_more (let_item d) js) h = let_better n c d is js h.0 (items_better (suc n) is js h.1)
items_better n (item_more (let_item c) is) (item_more (need_item d) js) h = absurd h.0
items_better n (item_more (need_item c) is) (item_more (let_item d) js) h = absurd h.0
items_better n (item_more (need_item c) is) (item_more (need_item d) js) h = need_better n c d is js h.0 (items_better n is js h.1)

-- ---- arms
-- a solve of the one has what is asked for where a solve of the other has it
abbrev pub IsStillGiven : ArmTrees → ArmTrees → Type 0
IsStillGiven arms brms = (asked : Option (List Base)) (bs : List Base) → IsGiven arms asked bs → IsGiven brms asked bs

pub record ArmsBetter (n : ℕ) (arms brms : ArmTrees) : Type 0 where
  pub typed : (scope bs : List Base) → length scope ≡ n → ArmsHave arms scope bs → ArmsHave brms scope bs
  pub runs : (scope bs : List Base) (env : List Value) → length scope ≡ n → ArmsHave arms scope bs → HaveBases scope env →
      IsNoWorse (arms_path arms env) (arms_path brms env)
  pub size : arms_size brms ≤ arms_size arms
  pub deep : arms_depth brms ≤ arms_depth arms
  pub lacks : (x : ℕ) → x < n → ArmsLack x arms → ArmsLack x brms
  pub spelled : AreArmsSpelled arms → AreArmsSpelled brms

pub improves_solve : (n k : ℕ) (arms brms : ArmTrees) → IsStillGiven arms brms → ArmsBetter n arms brms →
    Improves n (code_solve k arms) (code_solve k brms)
improves_solve n k arms brms g h = record {
  typed = λ scope asked bs l t. (g asked bs t.0, h.typed scope bs l t.1);
  runs = λ scope asked bs env l t e. then_same _ _ _ (h.runs scope bs env l t.1 e);
  size = omega (arith, h.size);
  deep = omega (arith, h.deep);
  lacks = h.lacks;
  spelled = λ u. (u.0, h.spelled u.1);
  no_solve = λ u. u;
  no_tuple = λ u. u;
}

pub arms_self : (n : ℕ) (arms : ArmTrees) → ArmsBetter n arms arms
arms_self n arms = record {
  typed = λ scope bs l t. t;
  runs = λ scope bs env l t e. same_way _;
  size = omega arith;
  deep = omega arith;
  lacks = λ x l u. u;
  spelled = λ u. u;
}

pub arms_on : (n : ℕ) (olds bs cs : ArmTrees) → ArmsBetter n olds bs → ArmsBetter n bs cs → ArmsBetter n olds cs
arms_on n olds bs cs h k = record {
  typed = λ scope ds l t. k.typed scope ds l (h.typed scope ds l t);
  runs = λ scope ds env l t e. ways_on _ _ _ (h.runs scope ds env l t e) (k.runs scope ds env l (h.typed scope ds l t) e);
  size = omega (arith, h.size, k.size);
  deep = omega (arith, h.deep, k.deep);
  lacks = λ x l u. k.lacks x l (h.lacks x l u);
  spelled = λ u. k.spelled (h.spelled u);
}

module _ (n : ℕ) (bounds : List ℕ) (is js : ItemTrees) (gs hs : CodeTrees) (arms brms : ArmTrees)
    (h : ItemsBetter (n + length bounds) is js) (g : AllImprove (n + length bounds + count_lets is) gs hs) (k : ArmsBetter n arms brms) where
  -- the scope of an arm's items
  abbrev inside : List Base → List Base
  inside scope = scope ++ map (λ _. Int) bounds

  long : (scope : List Base) → length scope ≡ n → length (inside scope) ≡ n + length bounds
  long scope l = omega (arith, length-append scope (map {A = ℕ} (λ _. Int) bounds), as_long bounds)
    where
      as_long : (xs : List ℕ) → length (map {A = ℕ} (λ _. Int) xs) ≡ length xs
      as_long [] = refl
      as_long (x ∷ xs) = ap suc (as_long xs)

  arm_runs : (scope bs : List Base) (env : List Value) → length scope ≡ n → ArmsHave (arm_more (arm_of bounds is gs) arms) scope bs → HaveBases scope env →
      IsNoWorse (arm_path (arm_of bounds is gs) env) (arm_path (arm_of bounds js hs) env)
  arm_runs scope bs env l t e =
      first_better (count_below bounds) 0 _ _
      (λ i. then_better _ _ _ _ (same_way (meets_all (tuple_at bounds i)))
      (λ ks gk.
      let has : HaveBases (inside scope) (env ++ ks) = have_append scope (map (λ _. Int) bounds) env ks e (given_is _ ks (numbers_have bounds i) gk) in
      then_better _ _ _ _ (h.runs (inside scope) (λ inner. PartsHave gs inner None bs) (env ++ ks) (long scope l) t.3 has)
      (λ o go. some_better o _ _ (λ env' f.
      let r : Reaches (λ inner. PartsHave gs inner None bs) (length (inside scope) + count_lets is) env' =
      found_env (Reaches (λ inner. PartsHave gs inner None bs) (length (inside scope) + count_lets is)) _ o env'
      (items_sound is (inside scope) gs bs (env ++ ks) t.3 has) go f in
      then_same _ _ _ (parts_run _ gs hs g r.scope None bs env' [] (omega (arith, r.long, long scope l)) r.holds r.has)))))

  pub arm_better : ArmsBetter n (arm_more (arm_of bounds is gs) arms) (arm_more (arm_of bounds js hs) brms)
  arm_better = record {
    typed = λ scope bs l t. (
      t.0,
      h.no_solve t.1,
      all_no_solve _ gs hs g t.2,
      h.typed (inside scope) _ _ (long scope l) (λ inner m. parts_typed _ gs hs g inner None bs (omega (arith, m))) t.3,
      k.typed scope bs l t.4,
    );
    runs = λ scope bs env l t e. then_any _ _ _ _ (arm_runs scope bs env l t e) (λ o. later_better o _ _ (k.runs scope bs env l t.4 e));
    size = omega (arith, h.size, k.size, all_size _ gs hs g);
    deep = omega (arith, h.deep, k.deep, all_deep _ gs hs g);
    lacks = λ x l u. (h.lacks x (omega (arith, l)) u.0, all_lack _ gs hs g x (omega (arith, l)) u.1, k.lacks x l u.2);
    spelled = λ u. (u.0, h.spelled u.1, all_gives _ gs hs g u.2, all_spelled _ gs hs g u.3, k.spelled u.4);
  }

pub arms_given : (n : ℕ) (arms brms : ArmTrees) → ArmsImprove n arms brms → IsStillGiven arms brms
arms_given n no_arms no_arms h asked bs t = t
arms_given n no_arms (arm_more b brms) h asked bs t = absurd h
arms_given n (arm_more a arms) no_arms h asked bs t = absurd h
arms_given n (arm_more a arms) (arm_more b brms) h asked bs t = t

pub arms_better : (n : ℕ) (arms brms : ArmTrees) → ArmsImprove n arms brms → ArmsBetter n arms brms
arms_better n no_arms no_arms h = arms_self n no_arms
arms_better n no_arms (arm_more b brms) h = absurd h
arms_better n (arm_more a arms) no_arms h = absurd h
arms_better n (arm_more (arm_of bounds is gs) arms) (arm_more (arm_of bounds' js hs) brms) h =
    subst (λ xs. ArmsBetter n (arm_more (arm_of bounds is gs) arms) (arm_more (arm_of xs js hs) brms)) (sym h.0.0)
    (arm_better n bounds is js gs hs arms brms (items_better (n + length bounds) is js h.0.1) h.0.2 (arms_better n arms brms h.1))
