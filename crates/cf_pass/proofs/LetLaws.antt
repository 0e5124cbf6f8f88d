-- The rest of an arm without the lets that it does not use.
use Rattle.std.proofs.Common.{◌≡◌, ℕ, zero, suc, ◌+◌, ◌<◌, ◌≤◌, max, Bool, true, false, cond, Option, Some, None, List, [], ◌∷◌, ◌++◌, length, map, refl, sym, ap, subst, ◌∙◌, arith, length-append}
use Rattle.std.proofs.lemmas.List.{append-nil, append_assoc}
use Rattle.cf_tree.specs.declared.base.Base.{Base}
use Rattle.cf_tree.specs.declared.base.Base.TheVariants.{Int}
use Rattle.cf_tree.specs.CodeTree.{CodeTree, code_solve, CodeTrees, ItemTree, let_item, need_item, ItemTrees, no_items, item_more, arm_of, ArmTrees, no_arms, arm_more, codes_size, codes_depth, items_size, items_depth}
use Rattle.cf_tree.specs.Meaning.{Got, got, none_at, Path, gives_only, then_gives, then_peak, then_path, truth_in, if_some, path, all_path, items_path, item_path, arm_path, count_below, tuple_at, meets_all}
use Rattle.cf_tree.specs.Spelled.{AreSpelled, AreItemsSpelled, AreGives}
use Rattle.cf_tree.specs.Typing.{PartsHave, ItemsHave, ArmsHave, HaveNoSolve, ItemsHaveNoSolve, one}
use Rattle.cf_tree.specs.Values.{Value, HaveBases}
use Rattle.cf_tree.proofs.SolvingLemmas.{IsGot, is_got, got_path}
use Rattle.cf_pass.specs.Improves.{Improves, IsNoWorse}
use Rattle.cf_pass.specs.Lacks.{AllLack, ItemsLack}
use Rattle.cf_pass.specs.Lets.{any_uses, items_use, moved, all_moved, items_moved, fallen, Rest, rest_uses, rest_moved, behind, lets_dropped}
use Rattle.cf_pass.specs.LetSteps.{dropped_to, form_to}
use Rattle.cf_pass.proofs.Arms.{ArmsBetter, IsStillGiven, improves_solve, arms_self}
use Rattle.cf_pass.proofs.Forms.{improves_self}
use Rattle.cf_pass.proofs.LetLemmas.{lacks, all_lack, items_lack, or_false, moved_path, all_same, items_typed, items_size_same, all_size, items_depth_same, all_depth, items_no_solve, all_no_solve, gives_kept, items_spelled, all_spelled, items_moved_lack, all_moved_lack, fallen_low, fallen_apart, then_same as same_then}
use Rattle.cf_pass.proofs.Sound.{GivesOnly, given_is, sound, have_append, numbers_have, HoldsIfSome, let_sound, need_sound}
use Rattle.cf_pass.proofs.Ways.{same_way, ways_on, then_better, then_any, later_better, first_better}

-- ---- the way through the rest of an arm
abbrev given_last : CodeTrees → Option (List Value) → Path (Option (List Value))
given_last gs next = if_some next (λ e. then_path (all_path gs e []) (λ vs. gives_only (Some vs)))

abbrev rest_path : ItemTrees → CodeTrees → List Value → Path (Option (List Value))
rest_path is gs env = then_path (items_path is env) (given_last gs)

-- the same from a found environment on
abbrev rest_next : ItemTrees → CodeTrees → Option (List Value) → Path (Option (List Value))
rest_next is gs next = then_path (if_some next (items_path is)) (given_last gs)

abbrev path_of : {A : Type 0} → Got A → ℕ → Path A
path_of g k = record { gives = g; peak = k }

same_as : {A : Type 0} (p q : Path A) → p ≡ q → IsNoWorse p q
same_as p q e = subst (λ r. IsNoWorse p r) e (same_way p)

then_assoc : {A B C : Type 0} (p : Path A) (f : A → Path B) (g : B → Path C) → then_path (then_path p f) g ≡ then_path p (λ x. then_path (f x) g)
then_assoc {A = A} {B = B} {C = C} p f g = by p.gives p.peak
  where
    peaks : (k : ℕ) (h : Got B) (m : ℕ) → then_peak (max k m) h (λ y. (g y).peak) ≡ max k (then_peak m h (λ y. (g y).peak))
    peaks k (got y) m = omega arith
    peaks k (none_at n) m = refl

    by : (h : Got A) (k : ℕ) → then_path (then_path (path_of h k) f) g ≡ then_path (path_of h k) (λ x. then_path (f x) g)
    by (got x) k = ap (λ m. path_of (then_gives (f x).gives (λ y. (g y).gives)) m) (peaks k (f x).gives (f x).peak)
    by (none_at n) k = refl

-- what is given goes on
then_given_way : {A B : Type 0} (p : Path A) (x : A) (go : A → Path B) → p.gives ≡ got x → IsNoWorse (then_path p go) (go x)
then_given_way {A = A} {B = B} p x go e = by p.gives p.peak e
  where
    by : (g : Got A) (k : ℕ) → g ≡ got x → IsNoWorse {A = B} (path_of (then_gives g (λ y. (go y).gives)) (then_peak k g (λ y. (go y).peak))) (go x)
    by g k s = rw s (record { gives = refl; peak = omega arith })

item_first : (i : ItemTree) (is : ItemTrees) (gs : CodeTrees) (env : List Value) →
    rest_path (item_more i is) gs env ≡ then_path (item_path i env) (rest_next is gs)
item_first i is gs env = then_assoc (item_path i env) (λ next. if_some next (items_path is)) (given_last gs)

step_runs : (i : ItemTree) (is js : ItemTrees) (gs hs : CodeTrees) (env : List Value) →
    ((e : List Value) → (item_path i env).gives ≡ got (Some e) → IsNoWorse (rest_path is gs e) (rest_path js hs e)) →
    IsNoWorse (rest_path (item_more i is) gs env) (rest_path (item_more i js) hs env)
step_runs i is js gs hs env h =
    ways_on (rest_path (item_more i is) gs env) (then_path (item_path i env) (rest_next is gs)) (rest_path (item_more i js) hs env)
    (same_as _ _ (item_first i is gs env))
    (ways_on (then_path (item_path i env) (rest_next is gs)) (then_path (item_path i env) (rest_next js hs)) (rest_path (item_more i js) hs env)
    (then_better (item_path i env) (item_path i env) (rest_next is gs) (rest_next js hs) (same_way _) by) (same_as _ _ (sym (item_first i js hs env))))
  where
    by : (o : Option (List Value)) → (item_path i env).gives ≡ got o → IsNoWorse (rest_next is gs o) (rest_next js hs o)
    by None e = same_way _
    by (Some env') e = h env' e

-- ---- a rest behind one variable less
module _ (front : List Value) (v : Value) where
  abbrev down : ℕ → ℕ
  down = fallen (length front)

  abbrev met_first : Path (Option (List Value)) → Path (Option (List Value))
  met_first p = path_of p.gives (max 0 p.peak)

  rest_same : (is : ItemTrees) (gs : CodeTrees) (back : List Value) → ItemsLack (length front) is → AllLack (length front) gs → ItemsHaveNoSolve is →
      HaveNoSolve gs →
      rest_path (items_moved down is) (all_moved down gs) (front ++ back) ≡ rest_path is gs (front ++ v ∷ back)
  rest_same no_items gs back u w s t =
      ap (λ (p : Path (List Value)). path_of (then_gives p.gives (λ vs. got (Some vs))) (max 0 (then_peak p.peak p.gives (λ vs. 0))))
      (all_same front v gs back [] w t)
  rest_same (item_more (let_item c) is) gs back u w s t =
      item_first (let_item (moved down c)) (items_moved down is) (all_moved down gs) (front ++ back)
      ∙ then_assoc (path (moved down c) (front ++ back)) (λ x. gives_only (Some ((front ++ back) ++ x))) (rest_next (items_moved down is) (all_moved down gs))
      ∙ same_then (path (moved down c) (front ++ back)) (path c (front ++ v ∷ back))
      (λ x. met_first (rest_path (items_moved down is) (all_moved down gs) ((front ++ back) ++ x)))
      (λ x. met_first (rest_path is gs ((front ++ v ∷ back) ++ x)))
      (moved_path front v c back u.0 s.0)
      (λ x. rw (append_assoc front back x, append_assoc front (v ∷ back) x) (ap met_first (rest_same is gs (back ++ x) u.1 w s.1 t)))
      ∙ sym (then_assoc (path c (front ++ v ∷ back)) (λ x. gives_only (Some ((front ++ v ∷ back) ++ x))) (rest_next is gs))
      ∙ sym (item_first (let_item c) is gs (front ++ v ∷ back))
  rest_same (item_more (need_item c) is) gs back u w s t =
      item_first (need_item (moved down c)) (items_moved down is) (all_moved down gs) (front ++ back)
      ∙ then_assoc (path (moved down c) (front ++ back)) (λ x. gives_only (cond (truth_in x) (Some (front ++ back)) None))
      (rest_next (items_moved down is) (all_moved down gs))
      ∙ same_then (path (moved down c) (front ++ back)) (path c (front ++ v ∷ back))
      (λ x. then_path (gives_only (cond (truth_in x) (Some (front ++ back)) None)) (rest_next (items_moved down is) (all_moved down gs)))
      (λ x. then_path (gives_only (cond (truth_in x) (Some (front ++ v ∷ back)) None)) (rest_next is gs))
      (moved_path front v c back u.0 s.0) (λ x. need_same (rest_same is gs back u.1 w s.1 t) (truth_in x))
      ∙ sym (then_assoc (path c (front ++ v ∷ back)) (λ x. gives_only (cond (truth_in x) (Some (front ++ v ∷ back)) None)) (rest_next is gs))
      ∙ sym (item_first (need_item c) is gs (front ++ v ∷ back))
    where
      need_same : rest_path (items_moved down is) (all_moved down gs) (front ++ back) ≡ rest_path is gs (front ++ v ∷ back) → (b : Bool) →
          then_path (gives_only (cond b (Some (front ++ back)) None)) (rest_next (items_moved down is) (all_moved down gs))
          ≡ then_path (gives_only (cond b (Some (front ++ v ∷ back)) None)) (rest_next is gs)
      need_same e true = ap met_first e
      need_same e false = refl

-- ---- when one rest may take the place of another
record RestBetter (n : ℕ) (r s : Rest) : Type 0 where
  typed : (scope bs : List Base) → length scope ≡ n → ItemsHaveNoSolve r.items → HaveNoSolve r.gives →
      ItemsHave r.items scope (λ inner. PartsHave r.gives inner None bs) →
      ItemsHave s.items scope (λ inner. PartsHave s.gives inner None bs)
  runs : (scope bs : List Base) (env : List Value) → length scope ≡ n → ItemsHaveNoSolve r.items → HaveNoSolve r.gives →
      ItemsHave r.items scope (λ inner. PartsHave r.gives inner None bs) → HaveBases scope env →
      IsNoWorse (rest_path r.items r.gives env) (rest_path s.items s.gives env)
  size : items_size s.items + codes_size s.gives ≤ items_size r.items + codes_size r.gives
  deep : max (items_depth s.items) (codes_depth s.gives) ≤ max (items_depth r.items) (codes_depth r.gives)
  lack_items : (x : ℕ) → x < n → ItemsLack x r.items → ItemsLack x s.items
  lack_gives : (x : ℕ) → x < n → AllLack x r.gives → AllLack x s.gives
  spell_items : AreItemsSpelled r.items → AreItemsSpelled s.items
  spell_gives : AreSpelled r.gives → AreSpelled s.gives
  are_gives : AreGives r.gives → AreGives s.gives
  free_items : ItemsHaveNoSolve r.items → ItemsHaveNoSolve s.items
  free_gives : HaveNoSolve r.gives → HaveNoSolve s.gives

rest_self : (n : ℕ) (r : Rest) → RestBetter n r r
rest_self n r = record {
  typed = λ scope bs l s t h. h;
  runs = λ scope bs env l s t h e. same_way _;
  size = omega arith;
  deep = omega arith;
  lack_items = λ x l u. u;
  lack_gives = λ x l u. u;
  spell_items = λ u. u;
  spell_gives = λ u. u;
  are_gives = λ u. u;
  free_items = λ u. u;
  free_gives = λ u. u;
}

need_kept : (n : ℕ) (c : CodeTree) (r s : Rest) → RestBetter n r s → RestBetter n (behind (need_item c) r) (behind (need_item c) s)
need_kept n c r s k = record {
  typed = λ scope bs l u w h. (h.0, k.typed scope bs l u.1 w h.1);
  runs = λ scope bs env l u w h e. step_runs (need_item c) r.items s.items r.gives s.gives env
      (λ env' g. k.runs scope bs env' l u.1 w h.1 (given_is (HoldsIfSome (HaveBases scope)) (Some env') (need_sound c scope env e) g));
  size = omega (arith, k.size);
  deep = omega (arith, k.deep);
  lack_items = λ x l u. (u.0, k.lack_items x l u.1);
  lack_gives = k.lack_gives;
  spell_items = λ u. (u.0, k.spell_items u.1);
  spell_gives = k.spell_gives;
  are_gives = k.are_gives;
  free_items = λ u. (u.0, k.free_items u.1);
  free_gives = k.free_gives;
}

module _ (n : ℕ) (c : CodeTree) (r s : Rest) (k : RestBetter (suc n) r s) where
  let_kept : RestBetter n (behind (let_item c) r) (behind (let_item c) s)
  let_kept = record {
    typed = λ scope bs l u w h. (h.0, h.1, k.typed (scope ++ one h.0) bs (omega (arith, l, length-append scope (one h.0))) u.1 w h.2);
    runs = λ scope bs env l u w h e. step_runs (let_item c) r.items s.items r.gives s.gives env
        (λ env' g. k.runs (scope ++ one h.0) bs env' (omega (arith, l, length-append scope (one h.0))) u.1 w h.2
        (given_is (HoldsIfSome (HaveBases (scope ++ one h.0))) (Some env') (let_sound c scope h.0 env h.1 e) g));
    size = omega (arith, k.size);
    deep = omega (arith, k.deep);
    lack_items = λ x l u. (u.0, k.lack_items x (omega (arith, l)) u.1);
    lack_gives = λ x l. k.lack_gives x (omega (arith, l));
    spell_items = λ u. (u.0, k.spell_items u.1);
    spell_gives = k.spell_gives;
    are_gives = k.are_gives;
    free_items = λ u. (u.0, k.free_items u.1);
    free_gives = k.free_gives;
  }

as_long : (scope : List Base) (env : List Value) → HaveBases scope env → length env ≡ length scope
as_long [] [] h = refl
as_long [] (v ∷ env) h = absurd h
as_long (b ∷ scope) [] h = absurd h
as_long (b ∷ scope) (v ∷ env) h = ap suc (as_long scope env h.1)

-- one value
record OneGiven (p : Path (List Value)) (b : Base) : Type 0 where
  value : Value
  given : p.gives ≡ got (value ∷ [])
  has : HaveBases (one b) (value ∷ [])

got_some : (g : Got (List Value)) → IsGot g → (xs : List Value) × (g ≡ got xs)
got_some g (is_got xs) = (xs, refl)

one_given : (p : Path (List Value)) (b : Base) → IsGot p.gives → GivesOnly (HaveBases (one b)) p.gives → OneGiven p b
one_given p b g h = of (got_some p.gives g).0 (got_some p.gives g).1
  where
    by : (xs : List Value) → HaveBases (one b) xs → p.gives ≡ got xs → OneGiven p b
    by [] k e = absurd k
    by (v ∷ []) k e = record { value = v; given = e; has = k }
    by (v ∷ w ∷ xs) k e = absurd k.1

    of : (xs : List Value) → p.gives ≡ got xs → OneGiven p b
    of xs e = by xs (given_is (HaveBases (one b)) xs h e) e

module _ (n : ℕ) (c : CodeTree) (r s : Rest) (k : RestBetter (suc n) r s) (no_use : rest_uses n s ≡ false) where
  no_item : ItemsHaveNoSolve s.items → ItemsLack n s.items
  no_item w = items_lack n s.items w (or_false (items_use n s.items) (any_uses n s.gives) no_use).0

  no_give : HaveNoSolve s.gives → AllLack n s.gives
  no_give w = all_lack n s.gives w (or_false (items_use n s.items) (any_uses n s.gives) no_use).1

  gone_typed : (scope bs : List Base) → length scope ≡ n → ItemsHaveNoSolve (item_more (let_item c) r.items) → HaveNoSolve r.gives →
      ItemsHave (item_more (let_item c) r.items) scope (λ inner. PartsHave r.gives inner None bs) →
      ItemsHave (items_moved (fallen n) s.items) scope (λ inner. PartsHave (all_moved (fallen n) s.gives) inner None bs)
  gone_typed scope bs l u w h =
      let typed = k.typed (scope ++ one h.0) bs (omega (arith, l, length-append scope (one h.0))) u.1 w h.2 in
      let none = k.free_items u.1 in
      let none_given = k.free_gives w in
      let m = items_typed scope h.0 s.items s.gives [] bs (subst (λ x. ItemsLack x s.items) (sym l) (no_item none))
      (subst (λ x. AllLack x s.gives) (sym l) (no_give none_given)) none none_given typed in
      subst (λ x. ItemsHave (items_moved (fallen x) s.items) scope (λ inner. PartsHave (all_moved (fallen x) s.gives) inner None bs)) l
      (subst (λ sc. ItemsHave (items_moved (fallen (length scope)) s.items) sc
      (λ inner. PartsHave (all_moved (fallen (length scope)) s.gives) inner None bs)) (append-nil scope) m)

  -- the rest behind the value that is let
  gone_first : (env : List Value) (v : Value) → (path c env).gives ≡ got (v ∷ []) →
      IsNoWorse (rest_path (item_more (let_item c) r.items) r.gives env) (rest_path r.items r.gives (env ++ v ∷ []))
  gone_first env v e =
      ways_on (rest_path (item_more (let_item c) r.items) r.gives env) (then_path (item_path (let_item c) env) (rest_next r.items r.gives))
      (rest_path r.items r.gives (env ++ v ∷ [])) (same_as _ _ (item_first (let_item c) r.items r.gives env))
      (then_given_way (item_path (let_item c) env) (Some (env ++ v ∷ [])) (rest_next r.items r.gives)
      (ap (λ g. then_gives g (λ x. got (Some (env ++ x)))) e))

  gone_same : (env : List Value) (v : Value) → length env ≡ n → ItemsHaveNoSolve s.items → HaveNoSolve s.gives →
      rest_path s.items s.gives (env ++ v ∷ []) ≡ rest_path (items_moved (fallen n) s.items) (all_moved (fallen n) s.gives) env
  gone_same env v l u w =
      let m = rest_same env v s.items s.gives [] (subst (λ x. ItemsLack x s.items) (sym l) (no_item u))
      (subst (λ x. AllLack x s.gives) (sym l) (no_give w)) u w in
      sym (subst (λ x. rest_path (items_moved (fallen x) s.items) (all_moved (fallen x) s.gives) env ≡ rest_path s.items s.gives (env ++ v ∷ [])) l
      (subst (λ e. rest_path (items_moved (fallen (length env)) s.items) (all_moved (fallen (length env)) s.gives) e ≡ rest_path s.items s.gives
      (env ++ v ∷ [])) (append-nil env) m))

  gone_runs : (scope bs : List Base) (env : List Value) → length scope ≡ n → ItemsHaveNoSolve (item_more (let_item c) r.items) → HaveNoSolve r.gives →
      ItemsHave (item_more (let_item c) r.items) scope (λ inner. PartsHave r.gives inner None bs) → HaveBases scope env →
      IsNoWorse (rest_path (item_more (let_item c) r.items) r.gives env) (rest_path (items_moved (fallen n) s.items) (all_moved (fallen n) s.gives) env)
  gone_runs scope bs env l u w h e =
      let g = one_given (path c env) h.0 (got_path c env u.0) (sound c scope None (one h.0) env h.1 e) in
      ways_on (rest_path (item_more (let_item c) r.items) r.gives env) (rest_path r.items r.gives (env ++ g.value ∷ []))
      (rest_path (items_moved (fallen n) s.items) (all_moved (fallen n) s.gives) env) (gone_first env g.value g.given)
      (ways_on (rest_path r.items r.gives (env ++ g.value ∷ [])) (rest_path s.items s.gives (env ++ g.value ∷ []))
      (rest_path (items_moved (fallen n) s.items) (all_moved (fallen n) s.gives) env)
      (k.runs (scope ++ one h.0) bs (env ++ g.value ∷ []) (omega (arith, l, length-append scope (one h.0))) u.1 w h.2
      (have_append scope (one h.0) env (g.value ∷ []) e g.has))
      (same_as _ _ (gone_same env g.value (as_long scope env e ∙ l) (k.free_items u.1) (k.free_gives w))))

  let_gone : RestBetter n (behind (let_item c) r) (rest_moved (fallen n) s)
  let_gone = record {
    typed = gone_typed;
    runs = gone_runs;
    size = omega (arith, k.size, items_size_same (fallen n) s.items, all_size (fallen n) s.gives);
    deep = omega (arith, k.deep, items_depth_same (fallen n) s.items, all_depth (fallen n) s.gives);
    lack_items = λ x l u. items_moved_lack (fallen n) x (fallen_apart n x l) s.items (k.lack_items x (omega (arith, l)) u.1);
    lack_gives = λ x l u. all_moved_lack (fallen n) x (fallen_apart n x l) s.gives (k.lack_gives x (omega (arith, l)) u);
    spell_items = λ u. items_spelled (fallen n) (fallen_low n) s.items (k.spell_items u.1);
    spell_gives = λ u. all_spelled (fallen n) (fallen_low n) s.gives (k.spell_gives u);
    are_gives = λ u. gives_kept (fallen n) s.gives (k.are_gives u);
    free_items = λ u. items_no_solve (fallen n) s.items (k.free_items u.1);
    free_gives = λ u. all_no_solve (fallen n) s.gives (k.free_gives u);
  }

let_by : (n : ℕ) (c : CodeTree) (r s : Rest) (t : Bool) → RestBetter (suc n) r s → rest_uses n s ≡ t →
    RestBetter n (behind (let_item c) r) (cond t (behind (let_item c) s) (rest_moved (fallen n) s))
let_by n c r s true k e = let_kept n c r s k
let_by n c r s false k e = let_gone n c r s k e

abbrev whole : ItemTrees → CodeTrees → Rest
whole is gs = record { items = is; gives = gs }

rest_better : (n : ℕ) (is : ItemTrees) (gs : CodeTrees) → RestBetter n (whole is gs) (lets_dropped n is gs)
rest_better n no_items gs = rest_self n (whole no_items gs)
rest_better n (item_more (need_item c) is) gs = need_kept n c (whole is gs) (lets_dropped n is gs) (rest_better n is gs)
rest_better n (item_more (let_item c) is) gs =
    let_by n c (whole is gs) (lets_dropped (suc n) is gs) (rest_uses n (lets_dropped (suc n) is gs)) (rest_better (suc n) is gs) refl

-- ---- arms
module _ (n : ℕ) (bounds : List ℕ) (is : ItemTrees) (gs : CodeTrees) (arms brms : ArmTrees) (k : ArmsBetter n arms brms) where
  abbrev left : Rest
  left = lets_dropped (n + length bounds) is gs

  h : RestBetter (n + length bounds) (whole is gs) left
  h = rest_better (n + length bounds) is gs

  abbrev inside : List Base → List Base
  inside scope = scope ++ map (λ _. Int) bounds

  long : (scope : List Base) → length scope ≡ n → length (inside scope) ≡ n + length bounds
  long scope l = omega (arith, l, length-append scope (map {A = ℕ} (λ _. Int) bounds), same_long bounds)
    where
      same_long : (xs : List ℕ) → length (map {A = ℕ} (λ _. Int) xs) ≡ length xs
      same_long [] = refl
      same_long (x ∷ xs) = ap suc (same_long xs)

  arm_runs : (scope bs : List Base) (env : List Value) → length scope ≡ n → ArmsHave (arm_more (arm_of bounds is gs) arms) scope bs → HaveBases scope env →
      IsNoWorse (arm_path (arm_of bounds is gs) env) (arm_path (arm_of bounds left.items left.gives) env)
  arm_runs scope bs env l t e =
      first_better (count_below bounds) 0 _ _
      (λ i. then_better _ _ _ _ (same_way (meets_all (tuple_at bounds i)))
      (λ ks g. h.runs (inside scope) bs (env ++ ks) (long scope l) t.1 t.2 t.3
      (have_append scope (map (λ _. Int) bounds) env ks e (given_is _ ks (numbers_have bounds i) g))))

  arm_better : ArmsBetter n (arm_more (arm_of bounds is gs) arms) (arm_more (arm_of bounds left.items left.gives) brms)
  arm_better = record {
    typed = λ scope bs l t. (t.0, h.free_items t.1, h.free_gives t.2, h.typed (inside scope) bs (long scope l) t.1 t.2 t.3, k.typed scope bs l t.4);
    runs = λ scope bs env l t e. then_any _ _ _ _ (arm_runs scope bs env l t e) (λ o. later_better o _ _ (k.runs scope bs env l t.4 e));
    size = omega (arith, h.size, k.size);
    deep = omega (arith, h.deep, k.deep);
    lacks = λ x l u. (h.lack_items x (omega (arith, l)) u.0, h.lack_gives x (omega (arith, l)) u.1, k.lacks x l u.2);
    spelled = λ u. (u.0, h.spell_items u.1, h.are_gives u.2, h.spell_gives u.3, k.spelled u.4);
  }

still_given : (n i : ℕ) (arms : ArmTrees) → IsStillGiven arms (dropped_to n i arms)
still_given n zero arms asked bs t = t
still_given n (suc i) no_arms asked bs t = t
still_given n (suc i) (arm_more a arms) asked bs t = t

arms_left : (n i : ℕ) (arms : ArmTrees) → ArmsBetter n arms (dropped_to n i arms)
arms_left n zero arms = arms_self n arms
arms_left n (suc i) no_arms = arms_self n no_arms
arms_left n (suc i) (arm_more (arm_of bounds is gs) arms) = arm_better n bounds is gs arms (dropped_to n i arms) (arms_left n i arms)

solve_improves : (n k i : ℕ) (arms : ArmTrees) → Improves n (code_solve k arms) (code_solve k (dropped_to n i arms))
solve_improves n k i arms = improves_solve n k arms (dropped_to n i arms) (still_given n i arms) (arms_left n i arms)

pub form_improves : (n i : ℕ) (c : CodeTree) → Improves n c (form_to n i c)
form_improves n i (code_solve k arms) = solve_improves n k i arms
form_improves n i c = improves_self n c
