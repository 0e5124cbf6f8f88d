-- A solve whose arms solve a relation has an outcome that the choose of that relation allows.
use Rattle.std.specs.Prelude.{ℕ, zero, suc, ℤ, pos, ◌+ℤ◌, ◌+◌, ◌<◌, ◌≤◌, ◌≡◌, ◌⊎◌, Bool, true, false, Option, Some, None, List, [], ◌∷◌, ◌++◌, map}
use Rattle.std.proofs.Common.{refl, ◌∙◌, arith, inl, inr, cond, zero-add, ◌↔◌}
use Rattle.std.proofs.lemmas.Bool.{cases_order}
use Rattle.cf_tree.specs.declared.base.Base.{Base}
use Rattle.cf_tree.specs.Allowed.{Chosen}
use Rattle.cf_tree.specs.CodeTree.{CodeTree, code_lit, code_truth, code_var, code_set_of, code_tuple, code_sum, code_sub, code_mul, code_neg, code_div, code_mod, code_min, code_max, code_compare, code_divides, code_and, code_or, code_not, code_union, code_inter, code_diff, code_subset, code_card, code_slice, code_fresh, code_if, code_let, code_solve, CodeTrees, no_codes, code_more, let_item, need_item, ItemTrees, no_items, item_more, ArmTree, arm_of, ArmTrees, no_arms, arm_more}
use Rattle.cf_tree.specs.Meaning.{Got, got, Path, gives_only, gives_truth, then_gives, then_path, meets_value, truth_in, number_in, set_in, choose_with, joined_with, if_some, path, all_path, set_path, sum_path, best_path, join_path, items_path, arms_path, arm_path, first_from, meets_all, tuple_at, count_below, means}
use Rattle.cf_tree.specs.Relation.{Sol}
use Rattle.cf_tree.specs.RelTree.{RelTree}
use Rattle.cf_tree.specs.Solving.{IsBelow, with_tuple, HoldSomewhere, EachGives, Solves}
use Rattle.cf_tree.proofs.TupleLemmas.{tuples_numbered}
use Rattle.std.specs.Int.{int_min, int_max}
use Rattle.cf_tree.specs.Sets.{set_put, set_union, set_inter}
use Rattle.cf_tree.specs.Typing.{HasNoSolve, HaveNoSolve, ItemsHaveNoSolve, ArmsHave}
use Rattle.cf_tree.specs.Values.{Value, number, truth, elements, value_at, HaveBases}

-- something is given
pub data IsGot {A : Type 0} : Got A → Type 0 where
  is_got : (x : A) → IsGot (got x)

pub got_then : {A B : Type 0} {g : Got A} (go : A → Got B) → IsGot g → ((x : A) → IsGot (go x)) → IsGot (then_gives g go)
got_then go (is_got x) f = f x

pub got_value : (v : Value) → IsGot (meets_value v).gives
got_value (number z) = is_got _
got_value (truth b) = is_got _
got_value (elements zs) = is_got _

pub got_either : {A : Type 0} (b : Bool) (p q : Path A) → IsGot p.gives → IsGot q.gives → IsGot (cond b p q).gives
got_either true p q s t = s
got_either false p q s t = t

pub got_if_some : (o : Option (List Value)) (go : List Value → Path (Option (List Value))) → ((e : List Value) → IsGot (go e).gives) →
    IsGot (if_some o go).gives
got_if_some None go f = is_got _
got_if_some (Some e) go f = f e

-- code without a solve gives something in each environment
mutual
  pub got_path : (c : CodeTree) (env : List Value) → HasNoSolve c → IsGot (path c env).gives
  got_path (code_lit k) env s = is_got _
  got_path (code_truth t) env s = is_got _
  got_path (code_var x) env s = got_value (value_at env x)
  got_path (code_set_of cs) env s = got_set cs env [] s
  got_path (code_tuple cs) env s = got_all cs env [] s
  got_path (code_sum cs) env s = got_sum cs env (pos 0) s
  got_path (code_min cs) env s = got_best int_min cs env None s
  got_path (code_max cs) env s = got_best int_max cs env None s
  got_path (code_union cs) env s = got_join set_union cs env None s
  got_path (code_inter cs) env s = got_join set_inter cs env None s
  got_path (code_neg a) env s = got_then _ (got_path a env s) (λ x. is_got _)
  got_path (code_div a k) env s = got_then _ (got_path a env s) (λ x. is_got _)
  got_path (code_mod a k) env s = got_then _ (got_path a env s) (λ x. is_got _)
  got_path (code_divides k a) env s = got_then _ (got_path a env s) (λ x. is_got _)
  got_path (code_not a) env s = got_then _ (got_path a env s) (λ x. is_got _)
  got_path (code_card a) env s = got_then _ (got_path a env s) (λ x. is_got _)
  got_path (code_sub a b) env s = got_then _ (got_path a env s.0) (λ x. got_then _ (got_path b env s.1) (λ y. is_got _))
  got_path (code_mul a b) env s = got_then _ (got_path a env s.0) (λ x. got_then _ (got_path b env s.1) (λ y. is_got _))
  got_path (code_compare o a b) env s = got_then _ (got_path a env s.0) (λ x. got_then _ (got_path b env s.1) (λ y. is_got _))
  got_path (code_diff a b) env s = got_then _ (got_path a env s.0) (λ x. got_then _ (got_path b env s.1) (λ y. is_got _))
  got_path (code_subset a b) env s = got_then _ (got_path a env s.0) (λ x. got_then _ (got_path b env s.1) (λ y. is_got _))
  got_path (code_fresh a b) env s = got_then _ (got_path a env s.0) (λ x. got_then _ (got_path b env s.1) (λ y. is_got _))
  got_path (code_and a b) env s = got_then _ (got_path a env s.0)
      (λ x. got_either (truth_in x) (path b env) (gives_truth false) (got_path b env s.1) (is_got _))
  got_path (code_or a b) env s = got_then _ (got_path a env s.0) (λ x. got_either (truth_in x) (gives_truth true) (path b env) (is_got _) (got_path b env s.1))
  got_path (code_slice a b c) env s =
      got_then _ (got_path a env s.0) (λ x. got_then _ (got_path b env s.1) (λ y. got_then _ (got_path c env s.2) (λ z. is_got _)))
  got_path (code_if t a b) env s = got_then _ (got_path t env s.0)
      (λ x. got_either (truth_in x) (path a env) (path b env) (got_path a env s.1) (got_path b env s.2))
  got_path (code_let first n a b) env s = got_then _ (got_path a env s.0) (λ x. got_path b (env ++ x) s.1)
  got_path (code_solve n arms) env s = absurd s

  pub got_all : (cs : CodeTrees) (env done : List Value) → HaveNoSolve cs → IsGot (all_path cs env done).gives
  got_all no_codes env done s = is_got _
  got_all (code_more c cs) env done s = got_then _ (got_path c env s.0) (λ x. got_all cs env (done ++ x) s.1)

  pub got_set : (cs : CodeTrees) (env : List Value) (done : List ℤ) → HaveNoSolve cs → IsGot (set_path cs env done).gives
  got_set no_codes env done s = is_got _
  got_set (code_more c cs) env done s = got_then _ (got_path c env s.0) (λ x. got_set cs env (set_put (number_in x) done) s.1)

  pub got_sum : (cs : CodeTrees) (env : List Value) (z : ℤ) → HaveNoSolve cs → IsGot (sum_path cs env z).gives
  got_sum no_codes env z s = is_got _
  got_sum (code_more c cs) env z s = got_then _ (got_path c env s.0) (λ x. got_sum cs env (z +ℤ number_in x) s.1)

  pub got_best : (better : ℤ → ℤ → ℤ) (cs : CodeTrees) (env : List Value) (z : Option ℤ) → HaveNoSolve cs → IsGot (best_path better cs env z).gives
  got_best better no_codes env z s = is_got _
  got_best better (code_more c cs) env z s =
      got_then _ (got_path c env s.0) (λ x. got_best better cs env (Some (choose_with better z (number_in x))) s.1)

  pub got_join : (join : List ℤ → List ℤ → List ℤ) (cs : CodeTrees) (env : List Value) (zs : Option (List ℤ)) → HaveNoSolve cs →
      IsGot (join_path join cs env zs).gives
  got_join join no_codes env zs s = is_got _
  got_join join (code_more c cs) env zs s =
      got_then _ (got_path c env s.0) (λ x. got_join join cs env (Some (joined_with join zs (set_in x))) s.1)

pub got_items : (is : ItemTrees) (env : List Value) → ItemsHaveNoSolve is → IsGot (items_path is env).gives
got_items no_items env s = is_got _
got_items (item_more (let_item c) is) env s =
    got_then _ (got_then _ (got_path c env s.0) (λ x. is_got _)) (λ o. got_if_some o (items_path is) (λ e. got_items is e s.1))
got_items (item_more (need_item c) is) env s =
    got_then _ (got_then _ (got_path c env s.0) (λ x. is_got _)) (λ o. got_if_some o (items_path is) (λ e. got_items is e s.1))

pub got_is : {A : Type 0} (g : Got A) → IsGot g → (x : A) × (g ≡ got x)
got_is g (is_got x) = (x, refl)

meets_all-gives : (ks : List ℕ) → (meets_all ks).gives ≡ got (map (λ k. number (pos k)) ks)
meets_all-gives [] = refl
meets_all-gives (k ∷ ks) = rw (meets_all-gives ks) refl

-- what an arm finds at tuple number i
abbrev tried : List ℕ → ItemTrees → CodeTrees → List Value → ℕ → Path (Option (List Value))
tried bounds is gs env i =
    then_path (meets_all (tuple_at bounds i)) (λ ks.
    then_path (items_path is (env ++ ks)) (λ next.
    if_some next (λ e. then_path (all_path gs e []) (λ vs. gives_only (Some vs)))))

-- what is found where the items lead to o
abbrev given : CodeTrees → Option (List Value) → Got (Option (List Value))
given gs None = got None
given gs (Some e) = then_gives (all_path gs e []).gives (λ vs. got (Some vs))

tried-gives : (bounds : List ℕ) (is : ItemTrees) (gs : CodeTrees) (env : List Value) (i : ℕ) (o : Option (List Value)) →
    (items_path is (with_tuple env (tuple_at bounds i))).gives ≡ got o → (tried bounds is gs env i).gives ≡ given gs o
tried-gives bounds is gs env i None h = rw (meets_all-gives (tuple_at bounds i), h) refl
tried-gives bounds is gs env i (Some e) h = rw (meets_all-gives (tuple_at bounds i), h) refl

-- nothing is found at the numbers from k on, n of them; or something is, at one of them
pub data FoundIn (f : ℕ → Path (Option (List Value))) (k n : ℕ) (g : Got (Option (List Value))) : Type 0 where
  nothing : ((i : ℕ) → k ≤ i → i < k + n → (f i).gives ≡ got None) → g ≡ got None → FoundIn f k n g
  something : (i : ℕ) (vs : List Value) → k ≤ i → i < k + n → (f i).gives ≡ got (Some vs) → g ≡ got (Some vs) → FoundIn f k n g

-- nothing at k and nothing from k + 1 on is nothing from k on
nothing_from : (f : ℕ → Path (Option (List Value))) (k n : ℕ) → (f k).gives ≡ got None → ((i : ℕ) → suc k ≤ i → i < suc k + n → (f i).gives ≡ got None) →
    (i : ℕ) → k ≤ i → i < k + suc n → (f i).gives ≡ got None
nothing_from f k n e all i l m =
    elim (cases_order k i) as (λ _. (f i).gives ≡ got None) [
      | inl same ↦ rw (← same) e
      | inr s ↦ elim s as (λ _. (f i).gives ≡ got None) [ inl h ↦ all i (omega arith) (omega arith) | inr h ↦ absurd (omega arith) ]
    ]

found_first : (n k : ℕ) (f : ℕ → Path (Option (List Value))) (o : Option (List Value)) → (f k).gives ≡ got o →
    FoundIn f (suc k) n (first_from n (suc k) f).gives → FoundIn f k (suc n) (first_from (suc n) k f).gives
found_first n k f None e (nothing all g) = nothing (nothing_from f k n e all) (rw e g)
found_first n k f None e (something i vs l m h g) = something i vs (omega arith) (omega arith) h (rw e g)
found_first n k f (Some vs) e r = something k vs (omega arith) (omega arith) e (rw e refl)

first_from-finds : (n k : ℕ) (f : ℕ → Path (Option (List Value))) → ((i : ℕ) → IsGot (f i).gives) → FoundIn f k n (first_from n k f).gives
first_from-finds zero k f h = nothing (λ i l m. absurd (omega arith)) refl
first_from-finds (suc n) k f h =
    let g = got_is (f k).gives (h k) in found_first n k f g.0 g.1 (first_from-finds n (suc k) f h)

-- what an arm finds: nothing, where its needs hold at no tuple, or outputs
pub data Finds (solves : List Value → Type 0) (holds : Type 0) (g : Got (Option (List Value))) : Type 0 where
  no_outputs : (holds → ⊥) → g ≡ got None → Finds solves holds g
  found : (xs : List Value) → solves xs → g ≡ got (Some xs) → Finds solves holds g

abbrev HoldsAt : List ℕ → ItemTrees → List Value → List ℕ → List Value → Type 0
HoldsAt bounds is env ks e = IsBelow bounds ks × ((items_path is (with_tuple env ks)).gives ≡ got (Some e))

got_once : {A : Type 0} (x y : A) (g : Got A) → g ≡ got x → g ≡ got y → x ≡ y
got_once x y g e h = cc

none_is_some : (e : List Value) → None ≡ Some e → ⊥
none_is_some e h = cc

-- what stands at one tuple number
at_number : (solves : List Value → Type 0) (bounds : List ℕ) (is : ItemTrees) (gs : CodeTrees) (env : List Value) (i : ℕ) →
    IsBelow bounds (tuple_at bounds i) →
    ((ks : List ℕ) (e : List Value) → HoldsAt bounds is env ks e → (xs : List Value) × ((all_path gs e []).gives ≡ got xs) × solves xs) →
    (o : Option (List Value)) → (items_path is (with_tuple env (tuple_at bounds i))).gives ≡ got o →
    Finds solves ((e : List Value) × HoldsAt bounds is env (tuple_at bounds i) e) (tried bounds is gs env i).gives
at_number solves bounds is gs env i below gives None h =
    no_outputs (λ s. none_is_some s.0 (got_once None (Some s.0) _ h s.1.1)) (tried-gives bounds is gs env i None h)
at_number solves bounds is gs env i below gives (Some e) h =
    let s = gives (tuple_at bounds i) e (below, h) in
    found s.0 s.2 (tried-gives bounds is gs env i (Some e) h ∙ rw s.1 refl)

got_given : (gs : CodeTrees) → HaveNoSolve gs → (o : Option (List Value)) → IsGot (given gs o)
got_given gs t None = is_got _
got_given gs t (Some e) = got_then _ (got_all gs e [] t) (λ x. is_got _)

got_tried : (bounds : List ℕ) (is : ItemTrees) (gs : CodeTrees) (env : List Value) → ItemsHaveNoSolve is → HaveNoSolve gs →
    (i : ℕ) → IsGot (tried bounds is gs env i).gives
got_tried bounds is gs env s t i =
    let g = got_is _ (got_items is (with_tuple env (tuple_at bounds i)) s) in
    rw (tried-gives bounds is gs env i g.0 g.1) (got_given gs t g.0)

some_once : (xs ys : List Value) (g : Got (Option (List Value))) → g ≡ got (Some xs) → g ≡ got (Some ys) → xs ≡ ys
some_once xs ys g e h = cc

none_or_some : (xs : List Value) (g : Got (Option (List Value))) → g ≡ got None → g ≡ got (Some xs) → ⊥
none_or_some xs g e h = cc

-- an arm whose gives solve wherever its needs hold
module _ (solves : List Value → Type 0) (bounds : List ℕ) (is : ItemTrees) (gs : CodeTrees) (env : List Value) (plain : ItemsHaveNoSolve is)
    (plain_gives : HaveNoSolve gs)
    (gives : (ks : List ℕ) (e : List Value) → HoldsAt bounds is env ks e → (xs : List Value) × ((all_path gs e []).gives ≡ got xs) × solves xs) where
  number_finds : (i : ℕ) → i < count_below bounds →
      Finds solves ((e : List Value) × HoldsAt bounds is env (tuple_at bounds i) e) (tried bounds is gs env i).gives
  number_finds i l =
      let g = got_is _ (got_items is (with_tuple env (tuple_at bounds i)) plain) in
      at_number solves bounds is gs env i ((tuples_numbered bounds).below i l) gives g.0 g.1

  missed : (i : ℕ) (ks : List ℕ) → tuple_at bounds i ≡ ks → (e : List Value) → HoldsAt bounds is env ks e →
      (tried bounds is gs env i).gives ≡ got None →
      Finds solves ((e : List Value) × HoldsAt bounds is env (tuple_at bounds i) e) (tried bounds is gs env i).gives → ⊥
  missed i ks same e h none (no_outputs f g) = f (e, rw same h)
  missed i ks same e h none (found xs s g) = none_or_some xs _ none g

  taken : (i : ℕ) (vs : List Value) → (tried bounds is gs env i).gives ≡ got (Some vs) →
      Finds solves ((e : List Value) × HoldsAt bounds is env (tuple_at bounds i) e) (tried bounds is gs env i).gives → solves vs
  taken i vs h (no_outputs f g) = absurd (none_or_some vs _ g h)
  taken i vs h (found xs s g) = rw (← some_once xs vs _ g h) s

  arm_found : FoundIn (tried bounds is gs env) 0 (count_below bounds) (arm_path (arm_of bounds is gs) env).gives →
      Finds solves ((ks : List ℕ) × (e : List Value) × HoldsAt bounds is env ks e) (arm_path (arm_of bounds is gs) env).gives
  arm_found (nothing all g) =
      no_outputs (λ s.
      let r = (tuples_numbered bounds).reached s.0 s.2.0 in
      missed r.0 s.0 r.2 s.1 s.2 (all r.0 (omega arith) (rw (zero-add (count_below bounds)) r.1)) (number_finds r.0 r.1)) g
  arm_found (something i vs l m h g) = found vs (taken i vs h (number_finds i (rw (zero-add (count_below bounds)) at m))) g

  arm_finds : Finds solves ((ks : List ℕ) × (e : List Value) × HoldsAt bounds is env ks e) (arm_path (arm_of bounds is gs) env).gives
  arm_finds = arm_found (first_from-finds (count_below bounds) 0 (tried bounds is gs env) (got_tried bounds is gs env plain plain_gives))

-- one arm and then the others
arms_from : (solves : List Value → Type 0) (a : ArmTree) (arms : ArmTrees) (env : List Value) (here there : Type 0) →
    Finds solves here (arm_path a env).gives → Finds solves there (arms_path arms env).gives →
    Finds solves (here ⊎ there) (arms_path (arm_more a arms) env).gives
arms_from solves a arms env here there (found xs s g) r = found xs s (rw g refl)
arms_from solves a arms env here there (no_outputs f g) (no_outputs h k) = no_outputs (λ s. elim s [ inl x ↦ f x | inr y ↦ h y ]) (rw g k)
arms_from solves a arms env here there (no_outputs f g) (found xs s k) = found xs s (rw g k)

pub arms_find : (arms : ArmTrees) (scope bs : List Base) (env : List Value) (solves : List Value → Type 0) → ArmsHave arms scope bs →
    EachGives arms solves env → Finds solves (HoldSomewhere arms env) (arms_path arms env).gives
arms_find no_arms scope bs env solves t g = no_outputs (λ s. s) refl
arms_find (arm_more (arm_of bounds is gs) arms) scope bs env solves t g =
    arms_from solves (arm_of bounds is gs) arms env _ _ (arm_finds solves bounds is gs env t.1 t.2 g.0) (arms_find arms scope bs env solves t.4 g.1)

chosen_from : (n : ℕ) (solves : List Value → Type 0) (holds : Type 0) (arms : ArmTrees) (env : List Value) → (holds ↔ ((xs : List Value) × solves xs)) →
    Finds solves holds (arms_path arms env).gives → Chosen n solves (means (code_solve n arms) env)
chosen_from n solves holds arms env same (no_outputs f g) = rw g (refl, λ xs s. f (same.1 (xs, s)))
chosen_from n solves holds arms env same (found xs s g) = rw g s

-- the outcome of a solve whose arms solve a relation is one that the choose allows
pub solve_chosen : (n : ℕ) (scope outputs : List Base) (rel : RelTree) (arms : ArmTrees) → Solves scope outputs rel arms → ArmsHave arms scope outputs →
    (env : List Value) → HaveBases scope env → Chosen n (Sol outputs rel env) (means (code_solve n arms) env)
solve_chosen n scope outputs rel arms solves typed env h =
    chosen_from n (Sol outputs rel env) (HoldSomewhere arms env) arms env (solves.holds env h)
    (arms_find arms scope outputs env (Sol outputs rel env) typed (solves.gives env h))
