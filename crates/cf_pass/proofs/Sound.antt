-- What well-typed code gives has its bases.
use Rattle.std.proofs.Common.{◌≡◌, ℕ, zero, suc, ◌+◌, ◌%◌, ℤ, pos, ◌+ℤ◌, Bool, true, false, cond, Option, Some, None, List, [], ◌∷◌, ◌++◌, length, map, slice_get, refl, subst, arith, length-append}
use Rattle.std.proofs.lemmas.List.{append-nil, append_assoc}
use Rattle.std.specs.Int.{int_max, int_min}
use Rattle.cf_tree.specs.declared.base.Base.{Base}
use Rattle.cf_tree.specs.declared.base.Base.TheVariants.{Int, Bool as Truth, Set}
use Rattle.cf_tree.specs.CodeTree.{CodeTree, code_lit, code_truth, code_var, code_set_of, code_tuple, code_sum, code_sub, code_mul, code_neg, code_div, code_mod, code_min, code_max, code_compare, code_divides, code_and, code_or, code_not, code_union, code_inter, code_diff, code_subset, code_card, code_slice, code_fresh, code_if, code_let, code_solve, CodeTrees, no_codes, code_more, let_item, need_item, ItemTrees, no_items, item_more, arm_of, ArmTrees, no_arms, arm_more}
use Rattle.cf_tree.specs.Meaning.{Got, got, none_at, Path, gives_only, then_gives, then_path, meets_value, truth_in, number_in, set_in, choose_with, joined_with, joined, if_some, or_later, or_none, path, all_path, set_path, sum_path, best_path, join_path, items_path, item_path, arms_path, first_from, meets_all, tuple_at, count_below}
use Rattle.cf_tree.specs.Numbers.{count_of}
use Rattle.cf_tree.specs.Sets.{IsRising, set_put, set_union, set_inter, set_diff, set_fresh, set_slice}
use Rattle.cf_tree.specs.Typing.{HasBases, AllHave, PartsHave, ItemsHave, ArmsHave, one, share, ask}
use Rattle.cf_tree.specs.Values.{Value, number, truth, elements, elements_of, value_at, first_of, HasBase, HaveBases}
use Rattle.cf_pass.specs.Parts.{count_lets}
use Rattle.cf_tree.proofs.RisingLemmas.{rising_put, rising_union, rising_filter, rising_take, rising_drop}
use Rattle.cf_tree.proofs.SliceLemmas.{rising_fresh}

-- what is given, if anything, is so
pub data GivesOnly {A : Type 0} (P : A → Type 0) : Got A → Type 0 where
  given : (x : A) → P x → GivesOnly P (got x)
  nothing : (n : ℕ) → GivesOnly P (none_at n)

same_given : {A : Type 0} (x y : A) → got x ≡ got y → x ≡ y
same_given x y e = cc

none_given : {A : Type 0} (n : ℕ) (y : A) → none_at n ≡ got y → ⊥
none_given n y e = cc

pub given_is : {A : Type 0} {g : Got A} (P : A → Type 0) (x : A) → GivesOnly P g → g ≡ got x → P x
given_is P x (given y p) e = subst P (same_given y x e) p
given_is P x (nothing n) e = absurd (none_given n x e)

pub then_given : {A B : Type 0} {P : A → Type 0} {g : Got A} (Q : B → Type 0) (go : A → Got B) → GivesOnly P g → ((x : A) → P x → GivesOnly Q (go x)) →
    GivesOnly Q (then_gives g go)
then_given Q go (given x p) f = f x p
then_given Q go (nothing n) f = nothing n

then_any : {A B : Type 0} (Q : B → Type 0) (g : Got A) (go : A → Got B) → ((x : A) → GivesOnly Q (go x)) → GivesOnly Q (then_gives g go)
then_any Q (got x) go f = f x
then_any Q (none_at n) go f = nothing n

either : {A : Type 0} (P : A → Type 0) (t : Bool) (p q : Path A) → GivesOnly P p.gives → GivesOnly P q.gives → GivesOnly P (cond t p q).gives
either P true p q h k = h
either P false p q h k = k

-- ---- values of bases
number_has : (bs : List Base) (z : ℤ) → bs ≡ Int ∷ [] → GivesOnly (HaveBases bs) (got (number z ∷ []))
number_has bs z e = given _ (rw e ((z, refl), tt))

truth_has : (bs : List Base) (b : Bool) → bs ≡ Truth ∷ [] → GivesOnly (HaveBases bs) (got (truth b ∷ []))
truth_has bs b e = given _ (rw e ((b, refl), tt))

set_has : (bs : List Base) (zs : List ℤ) → bs ≡ Set ∷ [] → IsRising zs → GivesOnly (HaveBases bs) (got (elements zs ∷ []))
set_has bs zs e r = given _ (rw e ((zs, refl, r), tt))

value_has : (scope : List Base) (env : List Value) (x : ℕ) (b : Base) → HaveBases scope env → slice_get scope x ≡ Some b → HasBase b (value_at env x)
value_has [] env x b h e = cc
value_has (c ∷ scope) [] x b h e = absurd h
value_has (c ∷ scope) (v ∷ env) zero b h e = let same : c ≡ b = cc in rw (← same) h.0
value_has (c ∷ scope) (v ∷ env) (suc x) b h e = value_has scope env x b h.1 e

alone_has : (bs : List Base) (b : Base) (v : Value) → bs ≡ b ∷ [] → HasBase b v → GivesOnly (HaveBases bs) (meets_value v).gives
alone_has bs b (number z) e h = given _ (rw e (h, tt))
alone_has bs b (truth t) e h = given _ (rw e (h, tt))
alone_has bs b (elements zs) e h = given _ (rw e (h, tt))

pub have_append : (bs cs : List Base) (xs ys : List Value) → HaveBases bs xs → HaveBases cs ys → HaveBases (bs ++ cs) (xs ++ ys)
have_append [] cs [] ys h k = k
have_append [] cs (v ∷ xs) ys h k = absurd h
have_append (b ∷ bs) cs [] ys h k = absurd h
have_append (b ∷ bs) cs (v ∷ xs) ys h k = (h.0, have_append bs cs xs ys h.1 k)

set_rises : (v : Value) → HasBase Set v → IsRising (elements_of v)
set_rises v h = rw h.1 h.2

given_rises : (xs : List Value) → HaveBases (Set ∷ []) xs → IsRising (elements_of (first_of xs))
given_rises [] h = absurd h
given_rises (v ∷ xs) h = set_rises v h.0

pub numbers_have : (bounds : List ℕ) (i : ℕ) → GivesOnly (HaveBases (map (λ _. Int) bounds)) (meets_all (tuple_at bounds i)).gives
numbers_have [] i = given _ tt
numbers_have (b ∷ bs) i = then_given _ _ (numbers_have bs (i % count_below bs)) (λ vs h. given _ ((_, refl), h))

-- ---- what is found
-- values of these bases, if any were found
abbrev pub Found : List Base → Option (List Value) → Type 0
Found bs None = Unit {0}
Found bs (Some vs) = HaveBases bs vs

later_found : (bs : List Base) (o : Option (List Value)) (p : Path (Option (List Value))) → Found bs o → GivesOnly (Found bs) p.gives →
    GivesOnly (Found bs) (or_later o p).gives
later_found bs None p h k = k
later_found bs (Some vs) p h k = given _ h

first_found : (bs : List Base) (n k : ℕ) (f : ℕ → Path (Option (List Value))) → ((i : ℕ) → GivesOnly (Found bs) (f i).gives) →
    GivesOnly (Found bs) (first_from n k f).gives
first_found bs zero k f h = given _ tt
first_found bs (suc n) k f h = then_given _ _ (h k) (λ o fo. later_found bs o _ fo (first_found bs n (suc k) f h))

none_found : (bs : List Base) (n : ℕ) (o : Option (List Value)) → Found bs o → GivesOnly (HaveBases bs) (or_none n o).gives
none_found bs n None h = nothing n
none_found bs n (Some vs) h = given _ h

-- a scope after some items, of that length, and an environment of it
pub record Reaches (P : List Base → Type 0) (n : ℕ) (env : List Value) : Type 0 where
  pub scope : List Base
  pub holds : P scope
  pub has : HaveBases scope env
  pub long : length scope ≡ n

-- what is found, if anything, is so
abbrev pub HoldsIfSome : (List Value → Type 0) → Option (List Value) → Type 0
HoldsIfSome P None = Unit {0}
HoldsIfSome P (Some env) = P env

-- ---- sets joined so far
abbrev RisesIfSome : Option (List ℤ) → Type 0
RisesIfSome None = Unit {0}
RisesIfSome (Some zs) = IsRising zs

joined_rises : (zs : Option (List ℤ)) → RisesIfSome zs → IsRising (joined zs)
joined_rises None r = tt
joined_rises (Some zs) r = r

union_rises : (zs : Option (List ℤ)) (xs : List ℤ) → RisesIfSome zs → IsRising xs → RisesIfSome (Some (joined_with set_union zs xs))
union_rises None xs r h = h
union_rises (Some zs) xs r h = rising_union zs xs h

inter_rises : (zs : Option (List ℤ)) (xs : List ℤ) → RisesIfSome zs → IsRising xs → RisesIfSome (Some (joined_with set_inter zs xs))
inter_rises None xs r h = h
inter_rises (Some zs) xs r h = rising_filter _ _ r

-- ---- the cases of an item
if_some_given : (P : List Value → Type 0) (Q : Option (List Value) → Type 0) (o : Option (List Value)) (go : List Value → Path (Option (List Value))) →
    Q None → HoldsIfSome P o → ((env : List Value) → P env → GivesOnly Q (go env).gives) → GivesOnly Q (if_some o go).gives
if_some_given P Q None go q h f = given _ q
if_some_given P Q (Some env) go q h f = f env h

env_or_none : (P : List Value → Type 0) (t : Bool) (env : List Value) → P env → HoldsIfSome P (cond t (Some env) None)
env_or_none P true env h = h
env_or_none P false env h = tt

-- ---- the way of an arm
abbrev given_by : CodeTrees → List Value → Path (Option (List Value))
given_by gs env = then_path (all_path gs env []) (λ vs. gives_only (Some vs))

abbrev with_numbers : ItemTrees → CodeTrees → List Value → Path (Option (List Value))
with_numbers is gs env = then_path (items_path is env) (λ o. if_some o (given_by gs))

abbrev at_tuple : List ℕ → ItemTrees → CodeTrees → List Value → ℕ → Path (Option (List Value))
at_tuple bounds is gs env i = then_path (meets_all (tuple_at bounds i)) (λ ks. with_numbers is gs (env ++ ks))

-- ---- a code, and lists of codes, items and arms
mutual
  pub sound : (c : CodeTree) (scope : List Base) (asked : Option (List Base)) (bs : List Base) (env : List Value) → HasBases c scope asked bs →
      HaveBases scope env →
      GivesOnly (HaveBases bs) (path c env).gives
  sound (code_lit k) scope asked bs env h e = number_has bs k h.0
  sound (code_truth t) scope asked bs env h e = truth_has bs t h.0
  sound (code_var x) scope asked bs env h e = alone_has bs h.0 (value_at env x) h.2.0 (value_has scope env x h.0 e h.1)
  sound (code_set_of cs) scope asked bs env h e = rw h.1.0 (set_sound cs scope env [] h.0 e tt)
  sound (code_tuple cs) scope asked bs env h e = parts_sound cs scope asked bs env [] [] h.1 e tt
  sound (code_sum cs) scope asked bs env h e = rw h.2.0 (sum_sound cs env (pos 0))
  sound (code_neg a) scope asked bs env h e = then_any _ (path a env).gives _ (λ x. number_has bs _ h.1.0)
  sound (code_div a k) scope asked bs env h e = then_any _ (path a env).gives _ (λ x. number_has bs _ h.2.0)
  sound (code_mod a k) scope asked bs env h e = then_any _ (path a env).gives _ (λ x. number_has bs _ h.2.0)
  sound (code_divides k a) scope asked bs env h e = then_any _ (path a env).gives _ (λ x. truth_has bs _ h.2.0)
  sound (code_not a) scope asked bs env h e = then_any _ (path a env).gives _ (λ x. truth_has bs _ h.1.0)
  sound (code_card a) scope asked bs env h e = then_any _ (path a env).gives _ (λ x. number_has bs _ h.1.0)
  sound (code_min cs) scope asked bs env h e = rw h.2.0 (best_sound int_min cs env None)
  sound (code_max cs) scope asked bs env h e = rw h.2.0 (best_sound int_max cs env None)
  sound (code_sub a b) scope asked bs env h e = then_any _ (path a env).gives _ (λ x. then_any _ (path b env).gives _ (λ y. number_has bs _ h.2.0))
  sound (code_mul a b) scope asked bs env h e = then_any _ (path a env).gives _ (λ x. then_any _ (path b env).gives _ (λ y. number_has bs _ h.2.0))
  sound (code_compare o a b) scope asked bs env h e = then_any _ (path a env).gives _ (λ x. then_any _ (path b env).gives _ (λ y. truth_has bs _ h.4.0))
  sound (code_subset a b) scope asked bs env h e = then_any _ (path a env).gives _ (λ x. then_any _ (path b env).gives _ (λ y. truth_has bs _ h.2.0))
  sound (code_and a b) scope asked bs env h e =
      rw h.2.0 (then_any _ (path a env).gives _
      (λ x. either _ (truth_in x) _ _ (sound b scope (ask Truth) (one Truth) env h.1 e) (truth_has (one Truth) _ refl)))
  sound (code_or a b) scope asked bs env h e =
      rw h.2.0 (then_any _ (path a env).gives _
      (λ x. either _ (truth_in x) _ _ (truth_has (one Truth) _ refl) (sound b scope (ask Truth) (one Truth) env h.1 e)))
  sound (code_union cs) scope asked bs env h e = rw h.2.0 (union_sound cs scope env None h.1 e tt)
  sound (code_inter cs) scope asked bs env h e = rw h.2.0 (inter_sound cs scope env None h.1 e tt)
  sound (code_diff a b) scope asked bs env h e =
      then_given _ _ (sound a scope (ask Set) (one Set) env h.0 e)
      (λ x hx. then_any _ (path b env).gives _ (λ y. set_has bs (set_diff (set_in x) (set_in y)) h.2.0 (rising_filter _ (set_in x) (given_rises x hx))))
  sound (code_slice a b c) scope asked bs env h e =
      then_given _ _ (sound a scope (ask Set) (one Set) env h.0 e)
      (λ x hx. then_any _ (path b env).gives _
      (λ y. then_any _ (path c env).gives _ (λ z. set_has bs (set_slice (set_in x) (count_of (number_in y)) (count_of (number_in z))) h.3.0
      (rising_take (count_of (number_in z)) _ (rising_drop (count_of (number_in y)) (set_in x) (given_rises x hx))))))
  sound (code_fresh a b) scope asked bs env h e =
      then_any _ (path a env).gives _ (λ x. then_any _ (path b env).gives _
      (λ y. set_has bs (set_fresh (set_in x) (count_of (number_in y))) h.2.0 (rising_fresh (set_in x) (count_of (number_in y)))))
  sound (code_if t a b) scope asked bs env h e =
      then_any _ (path t env).gives _ (λ x. either _ (truth_in x) _ _ (sound a scope asked bs env h.1 e) (sound b scope asked bs env h.2 e))
  sound (code_let first n a b) scope asked bs env h e =
      then_given _ _ (sound a scope None h.0 env h.1 e)
      (λ xs hx. sound b (scope ++ h.0) asked bs (env ++ xs) h.4 (have_append scope h.0 env xs e hx))
  sound (code_solve n arms) scope asked bs env h e =
      then_given _ _ (arms_sound arms scope bs env h.1 e) (λ o ho. none_found bs n o ho)

  pub parts_sound : (cs : CodeTrees) (scope : List Base) (asked : Option (List Base)) (bs : List Base) (env : List Value) (ds : List Base) (done : List Value) →
      PartsHave cs scope asked bs → HaveBases scope env → HaveBases ds done → GivesOnly (HaveBases (ds ++ bs)) (all_path cs env done).gives
  parts_sound no_codes scope asked bs env ds done h e d = given _ (rw (h, append-nil ds) d)
  parts_sound (code_more c cs) scope asked bs env ds done h e d =
      then_given _ _ (sound c scope (share asked h.0) (one h.0) env h.3 e)
      (λ xs hx. rw (h.2, ← append_assoc ds (one h.0) h.1)
      (parts_sound cs scope asked h.1 env (ds ++ one h.0) (done ++ xs) h.4 e (have_append ds (one h.0) done xs d hx)))

  set_sound : (cs : CodeTrees) (scope : List Base) (env : List Value) (done : List ℤ) → AllHave cs scope Int → HaveBases scope env → IsRising done →
      GivesOnly (HaveBases (one Set)) (set_path cs env done).gives
  set_sound no_codes scope env done h e r = set_has (one Set) done refl r
  set_sound (code_more c cs) scope env done h e r =
      then_any _ (path c env).gives _ (λ x. set_sound cs scope env (set_put (number_in x) done) h.1 e (rising_put (number_in x) done r))

  sum_sound : (cs : CodeTrees) (env : List Value) (z : ℤ) → GivesOnly (HaveBases (one Int)) (sum_path cs env z).gives
  sum_sound no_codes env z = number_has (one Int) z refl
  sum_sound (code_more c cs) env z = then_any _ (path c env).gives _ (λ x. sum_sound cs env (z +ℤ number_in x))

  best_sound : (better : ℤ → ℤ → ℤ) (cs : CodeTrees) (env : List Value) (z : Option ℤ) → GivesOnly (HaveBases (one Int)) (best_path better cs env z).gives
  best_sound better no_codes env z = number_has (one Int) _ refl
  best_sound better (code_more c cs) env z = then_any _ (path c env).gives _ (λ x. best_sound better cs env (Some (choose_with better z (number_in x))))

  union_sound : (cs : CodeTrees) (scope : List Base) (env : List Value) (zs : Option (List ℤ)) → AllHave cs scope Set → HaveBases scope env → RisesIfSome zs →
      GivesOnly (HaveBases (one Set)) (join_path set_union cs env zs).gives
  union_sound no_codes scope env zs h e r = set_has (one Set) _ refl (joined_rises zs r)
  union_sound (code_more c cs) scope env zs h e r =
      then_given _ _ (sound c scope (ask Set) (one Set) env h.0 e)
      (λ x hx. union_sound cs scope env (Some (joined_with set_union zs (set_in x))) h.1 e (union_rises zs (set_in x) r (given_rises x hx)))

  inter_sound : (cs : CodeTrees) (scope : List Base) (env : List Value) (zs : Option (List ℤ)) → AllHave cs scope Set → HaveBases scope env → RisesIfSome zs →
      GivesOnly (HaveBases (one Set)) (join_path set_inter cs env zs).gives
  inter_sound no_codes scope env zs h e r = set_has (one Set) _ refl (joined_rises zs r)
  inter_sound (code_more c cs) scope env zs h e r =
      then_given _ _ (sound c scope (ask Set) (one Set) env h.0 e)
      (λ x hx. inter_sound cs scope env (Some (joined_with set_inter zs (set_in x))) h.1 e (inter_rises zs (set_in x) r (given_rises x hx)))

  pub items_sound : (is : ItemTrees) (scope : List Base) (gs : CodeTrees) (bs : List Base) (env : List Value) →
      ItemsHave is scope (λ inner. PartsHave gs inner None bs) → HaveBases scope env →
      GivesOnly (HoldsIfSome (Reaches (λ inner. PartsHave gs inner None bs) (length scope + count_lets is))) (items_path is env).gives
  items_sound no_items scope gs bs env h e = given _ (record { scope = scope; holds = h; has = e; long = omega arith })
  items_sound (item_more (let_item c) is) scope gs bs env h e =
      then_given _ _
      (then_given (HoldsIfSome (HaveBases (scope ++ one h.0))) _ (sound c scope None (one h.0) env h.1 e)
      (λ xs hx. given _ (have_append scope (one h.0) env xs e hx)))
      (λ o ho. if_some_given (HaveBases (scope ++ one h.0)) (HoldsIfSome (Reaches (λ inner. PartsHave gs inner None bs) (length scope + suc (count_lets is)))) o
      _ tt ho
      (λ env' e'. let n : length (scope ++ one h.0) + count_lets is ≡ length scope + suc (count_lets is) = omega (arith, length-append scope (one h.0)) in
      subst (λ m. GivesOnly (HoldsIfSome (Reaches (λ inner. PartsHave gs inner None bs) m)) (items_path is env').gives) n
      (items_sound is (scope ++ one h.0) gs bs env' h.2 e')))
  items_sound (item_more (need_item c) is) scope gs bs env h e =
      then_given _ _ (then_any (HoldsIfSome (HaveBases scope)) (path c env).gives _ (λ x. given _ (env_or_none (HaveBases scope) (truth_in x) env e)))
      (λ o ho. if_some_given (HaveBases scope) (HoldsIfSome (Reaches (λ inner. PartsHave gs inner None bs) (length scope + count_lets is))) o _ tt ho
      (λ env' e'. items_sound is scope gs bs env' h.1 e'))

  pub arms_sound : (arms : ArmTrees) (scope : List Base) (bs : List Base) (env : List Value) → ArmsHave arms scope bs → HaveBases scope env →
      GivesOnly (Found bs) (arms_path arms env).gives
  arms_sound no_arms scope bs env h e = given _ tt
  arms_sound (arm_more (arm_of bounds is gs) arms) scope bs env h e =
      then_given (Found bs) (λ o. (or_later o (arms_path arms env)).gives)
      (first_found bs (count_below bounds) 0 (at_tuple bounds is gs env)
      (λ i. then_given (Found bs) (λ ks. (with_numbers is gs (env ++ ks)).gives) (numbers_have bounds i)
      (λ ks hk. then_given (Found bs) (λ o. (if_some o (given_by gs)).gives)
      (items_sound is (scope ++ map (λ _. Int) bounds) gs bs (env ++ ks) h.3 (have_append scope (map (λ _. Int) bounds) env ks e hk))
      (λ o ho.
      if_some_given (Reaches (λ inner. PartsHave gs inner None bs) (length (scope ++ map (λ _. Int) bounds) + count_lets is)) (Found bs) o (given_by gs) tt ho
      (λ env' r. then_given (Found bs) (λ vs. got (Some vs)) (parts_sound gs r.scope None bs env' [] [] r.holds r.has tt) (λ vs hv. given (Some vs) hv))))))
      (λ o ho. later_found bs o (arms_path arms env) ho (arms_sound arms scope bs env h.4 e))

-- ---- one item
pub let_sound : (c : CodeTree) (scope : List Base) (b : Base) (env : List Value) → HasBases c scope None (one b) → HaveBases scope env →
    GivesOnly (HoldsIfSome (HaveBases (scope ++ one b))) (item_path (let_item c) env).gives
let_sound c scope b env h e =
    then_given (HoldsIfSome (HaveBases (scope ++ one b))) _ (sound c scope None (one b) env h e) (λ xs hx. given _ (have_append scope (one b) env xs e hx))

pub need_sound : (c : CodeTree) (scope : List Base) (env : List Value) → HaveBases scope env →
    GivesOnly (HoldsIfSome (HaveBases scope)) (item_path (need_item c) env).gives
need_sound c scope env e = then_any (HoldsIfSome (HaveBases scope)) (path c env).gives _ (λ x. given _ (env_or_none (HaveBases scope) (truth_in x) env e))
