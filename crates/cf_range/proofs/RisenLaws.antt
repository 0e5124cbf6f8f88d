-- Each set that a code gives is a rising list, where those of its variables are.
use Rattle.std.proofs.Common.{◌≡◌, ℕ, zero, suc, ℤ, pos, ◌+ℤ◌, Bool, true, false, cond, not, Option, Some, None, List, [], ◌∷◌, ◌++◌, refl, ap, subst, ◌∙◌}
use Rattle.std.specs.Int.{int_min, int_max}
use Rattle.cf_tree.specs.CodeTree.{CodeTree, code_lit, code_truth, code_var, code_set_of, code_tuple, code_sum, code_sub, code_mul, code_neg, code_div, code_mod, code_min, code_max, code_compare, code_divides, code_and, code_or, code_not, code_union, code_inter, code_diff, code_subset, code_card, code_slice, code_fresh, code_if, code_let, code_solve, CodeTrees, no_codes, code_more, ItemTree, let_item, need_item, ItemTrees, no_items, item_more, ArmTree, arm_of, ArmTrees, no_arms, arm_more}
use Rattle.cf_tree.specs.Meaning.{Got, got, none_at, Path, then_gives, then_path, gives_only, if_some, or_later, or_none, first_from, path, all_path, set_path, sum_path, best_path, join_path, items_path, item_path, arm_path, arms_path, meets, meets_value, meets_all, tuple_at, count_below, joined, joined_with, number_in, truth_in, set_in}
use Rattle.cf_tree.specs.Numbers.{count_of}
use Rattle.cf_tree.specs.Sets.{IsRising, has, set_put, set_union, set_inter, set_diff, set_slice, set_fresh}
use Rattle.cf_tree.specs.Values.{Value, number, truth, elements, first_of, value_at, elements_of}
use Rattle.cf_tree.proofs.RisingLemmas.{rising_put, rising_union, rising_filter, rising_take, rising_drop}
use Rattle.cf_tree.proofs.SliceLemmas.{rising_fresh}

some_once : (e f : List Value) → got (Some e) ≡ got (Some f) → e ≡ f
some_once e f h = cc

none_is_some : (e : List Value) → got None ≡ got (Some e) → ⊥
none_is_some e h = cc

stop_not : {A : Type 0} (k : ℕ) (x : A) → none_at k ≡ got x → ⊥
stop_not k x e = cc

same_got : {A : Type 0} (x y : A) → got x ≡ got y → x ≡ y
same_got x y e = cc

abbrev pub Rises : Value → Type 0
Rises (number z) = Unit {0}
Rises (truth b) = Unit {0}
Rises (elements zs) = IsRising zs

abbrev pub AllRise : List Value → Type 0
AllRise [] = Unit {0}
AllRise (v ∷ vs) = Rises v × AllRise vs

all_rise_append : (xs ys : List Value) → AllRise xs → AllRise ys → AllRise (xs ++ ys)
all_rise_append [] ys h k = k
all_rise_append (x ∷ xs) ys h k = (h.0, all_rise_append xs ys h.1 k)

rises_at : (env : List Value) (x : ℕ) → AllRise env → Rises (value_at env x)
rises_at [] x h = tt
rises_at (v ∷ env) zero h = h.0
rises_at (v ∷ env) (suc x) h = rises_at env x h.1

pub first_rises : (vs : List Value) → AllRise vs → Rises (first_of vs)
first_rises [] h = tt
first_rises (v ∷ vs) h = h.0

elements_rise : (v : Value) → Rises v → IsRising (elements_of v)
elements_rise (number z) h = tt
elements_rise (truth b) h = tt
elements_rise (elements zs) h = h

pub set_rises : (vs : List Value) → AllRise vs → IsRising (set_in vs)
set_rises vs h = elements_rise (first_of vs) (first_rises vs h)

-- ---- what paths give
abbrev pub GivesRising : Got (List Value) → Type 0
GivesRising g = (vs : List Value) → g ≡ got vs → AllRise vs

abbrev FindsRising : Got (Option (List Value)) → Type 0
FindsRising g = (vs : List Value) → g ≡ got (Some vs) → AllRise vs

only_rises : (vs : List Value) → AllRise vs → GivesRising (got vs)
only_rises vs h ws e = subst AllRise (same_got vs ws e) h

number_rises : (z : ℤ) → GivesRising (got (number z ∷ []))
number_rises z = only_rises (number z ∷ []) (tt, tt)

truth_rises : (b : Bool) → GivesRising (got (truth b ∷ []))
truth_rises b = only_rises (truth b ∷ []) (tt, tt)

set_only : (zs : List ℤ) → IsRising zs → GivesRising (got (elements zs ∷ []))
set_only zs h = only_rises (elements zs ∷ []) (h, tt)

value_rises : (v : Value) → Rises v → GivesRising (meets_value v).gives
value_rises (number z) h = number_rises z
value_rises (truth b) h = truth_rises b
value_rises (elements zs) h = set_only zs h

then_rises : {A : Type 0} (g : Got A) (go : A → Got (List Value)) → ((x : A) → g ≡ got x → GivesRising (go x)) → GivesRising (then_gives g go)
then_rises (got x) go h vs e = h x refl vs e
then_rises (none_at k) go h vs e = absurd (stop_not k vs e)

then_finds : {A : Type 0} (g : Got A) (go : A → Got (Option (List Value))) → ((x : A) → g ≡ got x → FindsRising (go x)) → FindsRising (then_gives g go)
then_finds (got x) go h vs e = h x refl vs e
then_finds (none_at k) go h vs e = absurd (stop_not k (Some vs) e)

either_rises : (b : Bool) (p q : Path (List Value)) → GivesRising p.gives → GivesRising q.gives → GivesRising (cond b p q).gives
either_rises true p q h k = h
either_rises false p q h k = k

none_finds : FindsRising (got None)
none_finds vs e = absurd (none_is_some vs e)

some_finds : (vs : List Value) → AllRise vs → FindsRising (got (Some vs))
some_finds vs h ws e = subst AllRise (some_once vs ws e) h

either_finds : (b : Bool) (env : List Value) → AllRise env → FindsRising (got (cond b (Some env) None))
either_finds true env h = some_finds env h
either_finds false env h = none_finds

-- one search and then others
or_else_finds : (g : Got (Option (List Value))) (q : Path (Option (List Value))) → FindsRising g → FindsRising q.gives →
    FindsRising (then_gives g (λ found. (or_later found q).gives))
or_else_finds (got None) q h k vs e = k vs e
or_else_finds (got (Some ws)) q h k vs e = h vs e
or_else_finds (none_at x) q h k vs e = absurd (stop_not x (Some vs) e)

first_finds : (total k : ℕ) (f : ℕ → Path (Option (List Value))) → ((i : ℕ) → FindsRising (f i).gives) → FindsRising (first_from total k f).gives
first_finds zero k f h = none_finds
first_finds (suc t) k f h = or_else_finds (f k).gives (first_from t (suc k) f) (h k) (first_finds t (suc k) f h)

next_finds : (o : Option (List Value)) (go : List Value → Path (Option (List Value))) → ((e : List Value) → o ≡ Some e → FindsRising (go e).gives) →
    FindsRising (if_some o go).gives
next_finds None go h = none_finds
next_finds (Some e) go h = h e refl

-- what was found is the outcome of a solve
solve_rises : (id : ℕ) (g : Got (Option (List Value))) → FindsRising g → GivesRising (then_gives g (λ found. (or_none id found).gives))
solve_rises id (got None) h vs e = absurd (stop_not id vs e)
solve_rises id (got (Some ws)) h vs e = h vs (ap (λ xs. got (Some xs)) (same_got ws vs e))
solve_rises id (none_at x) h vs e = absurd (stop_not x vs e)

pub tuple_rises : (bounds : List ℕ) → GivesRising (meets_all bounds).gives
tuple_rises [] = only_rises [] tt
tuple_rises (k ∷ bounds) = then_rises (meets (pos k)).gives (λ v. (then_path (meets_all bounds) (λ vs. gives_only (v ++ vs))).gives) (λ v e.
    then_rises (meets_all bounds).gives (λ vs. got (v ++ vs)) (λ vs f.
    only_rises (v ++ vs) (all_rise_append v vs (number_rises (pos k) v e) (tuple_rises bounds vs f))))

-- ---- joined sets
abbrev pub RisesIfSome : Option (List ℤ) → Type 0
RisesIfSome None = Unit {0}
RisesIfSome (Some zs) = IsRising zs

abbrev Keeps : (List ℤ → List ℤ → List ℤ) → Type 0
Keeps join = (xs ys : List ℤ) → IsRising xs → IsRising ys → IsRising (join xs ys)

joined_rise : (zs : Option (List ℤ)) → RisesIfSome zs → IsRising (joined zs)
joined_rise None r = tt
joined_rise (Some zs) r = r

with_rises : (join : List ℤ → List ℤ → List ℤ) → Keeps join → (zs : Option (List ℤ)) (xs : List ℤ) → RisesIfSome zs → IsRising xs →
    IsRising (joined_with join zs xs)
with_rises join k None xs r h = h
with_rises join k (Some zs) xs r h = k zs xs r h

union_keeps : Keeps set_union
union_keeps xs ys h k = rising_union xs ys k

inter_keeps : Keeps set_inter
inter_keeps xs ys h k = rising_filter (has ys) xs h

pub union_rises : (zs : Option (List ℤ)) (xs : List ℤ) → RisesIfSome zs → IsRising xs → RisesIfSome (Some (joined_with set_union zs xs))
union_rises zs xs r h = with_rises set_union union_keeps zs xs r h

-- ---- codes
sum_rises : (cs : CodeTrees) (env : List Value) (z : ℤ) → GivesRising (sum_path cs env z).gives
sum_rises no_codes env z = number_rises z
sum_rises (code_more c cs) env z = then_rises (path c env).gives _ (λ x e.
    then_rises (meets (z +ℤ number_in x)).gives (λ s. (sum_path cs env (number_in s)).gives) (λ s f. sum_rises cs env (number_in s)))

best_rises : (better : ℤ → ℤ → ℤ) (cs : CodeTrees) (env : List Value) (z : Option ℤ) → GivesRising (best_path better cs env z).gives
best_rises better no_codes env z = number_rises _
best_rises better (code_more c cs) env z = then_rises (path c env).gives _ (λ x e. best_rises better cs env _)

set_path_rises : (cs : CodeTrees) (env : List Value) (done : List ℤ) → IsRising done → GivesRising (set_path cs env done).gives
set_path_rises no_codes env done r = set_only done r
set_path_rises (code_more c cs) env done r = then_rises (path c env).gives _ (λ x e.
    set_path_rises cs env (set_put (number_in x) done) (rising_put (number_in x) done r))

mutual
  pub path_rises : (c : CodeTree) (env : List Value) → AllRise env → GivesRising (path c env).gives
  path_rises (code_lit k) env r = number_rises k
  path_rises (code_truth t) env r = truth_rises t
  path_rises (code_var x) env r = value_rises (value_at env x) (rises_at env x r)
  path_rises (code_set_of cs) env r = set_path_rises cs env [] tt
  path_rises (code_tuple cs) env r = all_path_rises cs env [] r tt
  path_rises (code_sum cs) env r = sum_rises cs env (pos 0)
  path_rises (code_sub a b) env r = then_rises (path a env).gives _ (λ x e. then_rises (path b env).gives _ (λ y f. number_rises _))
  path_rises (code_mul a b) env r = then_rises (path a env).gives _ (λ x e. then_rises (path b env).gives _ (λ y f. number_rises _))
  path_rises (code_neg a) env r = then_rises (path a env).gives _ (λ x e. number_rises _)
  path_rises (code_div a k) env r = then_rises (path a env).gives _ (λ x e. number_rises _)
  path_rises (code_mod a k) env r = then_rises (path a env).gives _ (λ x e. number_rises _)
  path_rises (code_min cs) env r = best_rises int_min cs env None
  path_rises (code_max cs) env r = best_rises int_max cs env None
  path_rises (code_compare o a b) env r = then_rises (path a env).gives _ (λ x e. then_rises (path b env).gives _ (λ y f. truth_rises _))
  path_rises (code_divides k a) env r = then_rises (path a env).gives _ (λ x e. truth_rises _)
  path_rises (code_and a b) env r = then_rises (path a env).gives _
      (λ x e. either_rises (truth_in x) (path b env) (gives_only (truth false ∷ [])) (path_rises b env r) (truth_rises false))
  path_rises (code_or a b) env r = then_rises (path a env).gives _
      (λ x e. either_rises (truth_in x) (gives_only (truth true ∷ [])) (path b env) (truth_rises true) (path_rises b env r))
  path_rises (code_not a) env r = then_rises (path a env).gives _ (λ x e. truth_rises _)
  path_rises (code_union cs) env r = join_rises set_union union_keeps cs env None r tt
  path_rises (code_inter cs) env r = join_rises set_inter inter_keeps cs env None r tt
  path_rises (code_diff a b) env r = then_rises (path a env).gives _ (λ x e. then_rises (path b env).gives _ (λ y f.
      set_only (set_diff (set_in x) (set_in y)) (rising_filter (λ z. not (has (set_in y) z)) (set_in x) (set_rises x (path_rises a env r x e)))))
  path_rises (code_subset a b) env r = then_rises (path a env).gives _ (λ x e. then_rises (path b env).gives _ (λ y f. truth_rises _))
  path_rises (code_card a) env r = then_rises (path a env).gives _ (λ x e. number_rises _)
  path_rises (code_slice a b c) env r = then_rises (path a env).gives _ (λ x e. then_rises (path b env).gives _ (λ y f. then_rises (path c env).gives _ (λ z g.
      set_only (set_slice (set_in x) (count_of (number_in y)) (count_of (number_in z)))
      (rising_take (count_of (number_in z)) _ (rising_drop (count_of (number_in y)) (set_in x) (set_rises x (path_rises a env r x e)))))))
  path_rises (code_fresh a b) env r = then_rises (path a env).gives _ (λ x e. then_rises (path b env).gives _ (λ y f.
      set_only (set_fresh (set_in x) (count_of (number_in y))) (rising_fresh (set_in x) (count_of (number_in y)))))
  path_rises (code_if t a b) env r = then_rises (path t env).gives _
      (λ x e. either_rises (truth_in x) (path a env) (path b env) (path_rises a env r) (path_rises b env r))
  path_rises (code_let first count a b) env r = then_rises (path a env).gives _ (λ x e.
      path_rises b (env ++ x) (all_rise_append env x r (path_rises a env r x e)))
  path_rises (code_solve n arms) env r = solve_rises n (arms_path arms env).gives (arms_rise arms env r)

  all_path_rises : (cs : CodeTrees) (env done : List Value) → AllRise env → AllRise done → GivesRising (all_path cs env done).gives
  all_path_rises no_codes env done r d = only_rises done d
  all_path_rises (code_more c cs) env done r d = then_rises (path c env).gives _ (λ x e.
      all_path_rises cs env (done ++ x) r (all_rise_append done x d (path_rises c env r x e)))

  join_rises : (join : List ℤ → List ℤ → List ℤ) → Keeps join → (cs : CodeTrees) (env : List Value) (zs : Option (List ℤ)) → AllRise env →
      RisesIfSome zs → GivesRising (join_path join cs env zs).gives
  join_rises join k no_codes env zs r h = set_only (joined zs) (joined_rise zs h)
  join_rises join k (code_more c cs) env zs r h = then_rises (path c env).gives _ (λ x e.
      join_rises join k cs env (Some (joined_with join zs (set_in x))) r (with_rises join k zs (set_in x) h (set_rises x (path_rises c env r x e))))

  item_rises : (i : ItemTree) (env : List Value) → AllRise env → FindsRising (item_path i env).gives
  item_rises (let_item c) env r = then_finds (path c env).gives _ (λ x e. some_finds (env ++ x) (all_rise_append env x r (path_rises c env r x e)))
  item_rises (need_item c) env r = then_finds (path c env).gives _ (λ x e. either_finds (truth_in x) env r)

  items_rise : (is : ItemTrees) (env : List Value) → AllRise env → FindsRising (items_path is env).gives
  items_rise no_items env r = some_finds env r
  items_rise (item_more i is) env r = then_finds (item_path i env).gives _ (λ next e.
      next_finds next (items_path is) (λ inner s. items_rise is inner (item_rises i env r inner (e ∙ ap got s))))

  arms_rise : (arms : ArmTrees) (env : List Value) → AllRise env → FindsRising (arms_path arms env).gives
  arms_rise no_arms env r = none_finds
  arms_rise (arm_more a arms) env r = or_else_finds (arm_path a env).gives (arms_path arms env) (arm_rises a env r) (arms_rise arms env r)

  arm_rises : (a : ArmTree) (env : List Value) → AllRise env → FindsRising (arm_path a env).gives
  arm_rises (arm_of bounds is gs) env r = first_finds (count_below bounds) 0 _ (λ i. then_finds (meets_all (tuple_at bounds i)).gives _ (λ ks e.
      let inner = all_rise_append env ks r (tuple_rises (tuple_at bounds i) ks e) in
      then_finds (items_path is (env ++ ks)).gives _ (λ next f.
      next_finds next _ (λ last s. then_finds (all_path gs last []).gives _ (λ vs g.
      some_finds vs (all_path_rises gs last [] (items_rise is (env ++ ks) inner last (f ∙ ap got s)) tt vs g))))))
