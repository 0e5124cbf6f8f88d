-- What is met in lets and needs, one after another, and at the tuples of an arm.
use Rattle.std.proofs.Common.{◌≡◌, ◌≢◌, ℕ, zero, suc, ◌+◌, ◌≤◌, ◌<◌, ◌==◌, ℤ, pos, List, [], ◌∷◌, ◌++◌, ◌⊎◌, inl, inr, ⊎_elim, length, map, Some, refl, sym, ap, arith, ◌∙◌, cond, subst, length-append}
use Rattle.std.specs.Prelude.{Option, None, Bool, true, false, unsigned_abs}
use Rattle.std.specs.Int.{int_div_euclid}
use Rattle.std.specs.List.{fold}
use Rattle.std.proofs.lemmas.Bool.{eqb-true, eqb-false, cases_order, true≢false}
use Rattle.cf_tree.specs.declared.base.Order.{Order}
use Rattle.cf_tree.specs.declared.base.Order.TheVariants.{Eq, Ge}
use Rattle.cf_tree.specs.CodeTree.{CodeTree, code_lit, code_div, code_compare, code_divides, CodeTrees, ItemTree, let_item, need_item, items_of, arm_of, ArmTrees, code_solve}
use Rattle.cf_tree.specs.Meaning.{Got, got, none_at, Path, then_gives, then_peak, then_path, gives_only, if_some, or_later, or_none, outcome_of, path, peak, means, items_path, item_path, all_path, meets_all, first_from, count_below, tuple_at, arm_path, arms_path}
use Rattle.cf_tree.specs.Numbers.{is_multiple}
use Rattle.cf_tree.specs.Sets.{has}
use Rattle.cf_tree.specs.Solving.{with_tuple}
use Rattle.cf_tree.specs.Values.{Value, values, number, truth, elements, number_of, elements_of, value_at, compared}
use Rattle.cf_linear.specs.Arm.{ColumnLevels, level_of, row_code, how_code, ArmBuilder, let_named, need, step_item, back_item}
use Rattle.cf_linear.specs.Keep.{In, update, how_value, after_back}
use Rattle.cf_linear.specs.Systems.{Step, floor_of, need_nonneg, need_zero, need_divides, How}
use Rattle.cf_linear.specs.Rows.{Values, value}
use Rattle.cf_linear.specs.Solved.{StepsOver}
use Rattle.cf_linear.proofs.BoolLemmas.{on_bool}
use Rattle.cf_linear.proofs.KindLemmas.{Over-weaker}
use Rattle.cf_linear.proofs.ValueLemmas.{update-at, update-other}
use Rattle.cf_elim.specs.Returning.{BackOver, StepsDivide, BackDivides}
use Rattle.cf_elim.proofs.ReturnLaws.{how_wider}
use Rattle.cf_choose.proofs.ArmBuilderLemmas.{value_at-end, value_at-early, wider_let}
use Rattle.cf_choose.proofs.ItemLemmas.{some_once, none_is_some}
use Rattle.cf_choose.proofs.RowCodes.{named, HasName}
use Rattle.cf_growth.specs.Growing.{LetsFit, LetsWithin, NeedsWithin, WaysWithin}
use Rattle.cf_growth.proofs.MetCodes.{IsMet, AreHeld, row_met, how_met, div_met}

-- ---- items
-- the items lead to an environment, or to none, and meet nothing above n
abbrev pub Reaches : ℕ → List ItemTree → List Value → Option (List Value) → Type 0
Reaches n is env o = ((items_path (items_of is) env).gives ≡ got o) × ((items_path (items_of is) env).peak ≤ n)

stop_not : (k : ℕ) (o : Option (List Value)) → none_at k ≡ got o → ⊥
stop_not k o h = cc

some_not : (e : List Value) → got (Some e) ≡ got None → ⊥
some_not e h = cc

pub reach_none : (n : ℕ) (is js : List ItemTree) (env : List Value) → Reaches n is env None → Reaches n (is ++ js) env None
reach_none n [] js env h = absurd (some_not env h.0)
reach_none n (i ∷ is) js env h = by (item_path i env).gives (item_path i env).peak (λ e k. reach_none n is js e k) h
  where
    by : (g : Got (Option (List Value))) (p : ℕ) → ((e : List Value) → Reaches n is e None → Reaches n (is ++ js) e None) →
        (then_gives g (λ next. (if_some next (items_path (items_of is))).gives) ≡ got None) ×
        (then_peak p g (λ next. (if_some next (items_path (items_of is))).peak) ≤ n) →
        (then_gives g (λ next. (if_some next (items_path (items_of (is ++ js)))).gives) ≡ got None) ×
        (then_peak p g (λ next. (if_some next (items_path (items_of (is ++ js)))).peak) ≤ n)
    by (got None) p again h = h
    by (got (Some e)) p again h = let l = h.1 in let r = again e (h.0, omega arith) in let m = r.1 in (r.0, omega arith)
    by (none_at k) p again h = absurd (stop_not k None h.0)

pub reach_some : (n : ℕ) (is js : List ItemTree) (env d : List Value) (o : Option (List Value)) → Reaches n is env (Some d) → Reaches n js d o →
    Reaches n (is ++ js) env o
reach_some n [] js env d o h k = subst (λ x. Reaches n js x o) (sym (some_once env d h.0)) k
reach_some n (i ∷ is) js env d o h k = by (item_path i env).gives (item_path i env).peak (λ e l. reach_some n is js e d o l k) h
  where
    by : (g : Got (Option (List Value))) (p : ℕ) → ((e : List Value) → Reaches n is e (Some d) → Reaches n (is ++ js) e o) →
        (then_gives g (λ next. (if_some next (items_path (items_of is))).gives) ≡ got (Some d)) ×
        (then_peak p g (λ next. (if_some next (items_path (items_of is))).peak) ≤ n) →
        (then_gives g (λ next. (if_some next (items_path (items_of (is ++ js)))).gives) ≡ got o) ×
        (then_peak p g (λ next. (if_some next (items_path (items_of (is ++ js)))).peak) ≤ n)
    by (got None) p again h = absurd (none_is_some d h.0)
    by (got (Some e)) p again h = let l = h.1 in let r = again e (h.0, omega arith) in let m = r.1 in (r.0, omega arith)
    by (none_at x) p again h = absurd (stop_not x (Some d) h.0)

pub let_reaches : (n : ℕ) (c : CodeTree) (e : List Value) (x : Value) → (path c e).gives ≡ got (x ∷ []) → (path c e).peak ≤ n →
    Reaches n (let_item c ∷ []) e (Some (e ++ (x ∷ [])))
let_reaches n c e x g p = (rw g refl, rw g (omega arith))

need_reaches : (n : ℕ) (c : CodeTree) (e : List Value) (b : Bool) → (path c e).gives ≡ got (truth b ∷ []) → (path c e).peak ≤ n →
    Reaches n (need_item c ∷ []) e (cond b (Some e) None)
need_reaches n c e true g p = (rw g refl, rw g (omega arith))
need_reaches n c e false g p = (rw g refl, rw g (omega arith))

-- ---- what is made so far
-- its items lead from env to e, where the named columns have these values; those of base stand in front, and those after them are fine
-- no number above n, and no set with an element that is not of the kind
abbrev pub IsFine : ℕ → (ℤ → Type 0) → Value → Type 0
IsFine n E v = (unsigned_abs (number_of v) ≤ n) × ((y : ℤ) → has (elements_of v) y ≡ true → E y)

pub record At (n : ℕ) (E : ℤ → Type 0) (k : ArmBuilder) (base env e : List Value) (v : Values) : Type 0 where
  pub reach : Reaches n k.items env (Some e)
  pub level : k.level ≡ length e
  pub held : AreHeld k.names e v
  pub long : length base ≤ length e
  pub early : (x : ℕ) → x < length base → value_at e x ≡ value_at base x
  pub small : (x : ℕ) → length base ≤ x → IsFine n E (value_at e x)

-- or to none
abbrev pub Comes : ℕ → (ℤ → Type 0) → ArmBuilder → List Value → List Value → Values → Type 0
Comes n E k base env v = Reaches n k.items env None ⊎ ((e : List Value) × At n E k base env e v)

pub value_at-beyond : (vs : List Value) (x : ℕ) → length vs ≤ x → value_at vs x ≡ number (pos 0)
value_at-beyond [] x h = refl
value_at-beyond (v ∷ vs) zero h = absurd (omega arith)
value_at-beyond (v ∷ vs) (suc x) h = value_at-beyond vs x (omega arith)

pub fine_number : (n : ℕ) (E : ℤ → Type 0) (z : ℤ) → unsigned_abs z ≤ n → IsFine n E (number z)
fine_number n E z l = (l, λ y h. absurd (true≢false (sym h)))

pub small_more : (n : ℕ) (E : ℤ → Type 0) (lo : ℕ) (e : List Value) (y : Value) → lo ≤ length e → ((x : ℕ) → lo ≤ x → IsFine n E (value_at e x)) →
    IsFine n E y →
    (x : ℕ) → lo ≤ x → IsFine n E (value_at (e ++ (y ∷ [])) x)
small_more n E lo e y long h l x i = ⊎_elim (λ q. subst (λ v. IsFine n E v) (sym (value_at-end e y x q)) l)
    (λ o. ⊎_elim (λ b. subst (λ v. IsFine n E v) (sym (value_at-early e (y ∷ []) x b)) (h x i)) (λ (b : length e < x). beyond b) o) (cases_order x (length e))
  where
    beyond : length e < x → IsFine n E (value_at (e ++ (y ∷ [])) x)
    beyond b = subst (λ v. IsFine n E v) (sym (value_at-beyond (e ++ (y ∷ [])) x (omega (arith, length-append e (y ∷ [])))))
        (fine_number n E (pos 0) (omega arith))

-- one more value, and the columns named before
held_more : (names : ColumnLevels) (e : List Value) (v w : Values) (x : Value) → ((d : ℕ) → In d (named names) → w d ≡ v d) → AreHeld names e v →
    AreHeld names (e ++ (x ∷ [])) w
held_more names e v w x same h d i =
    let p = h d i in
    let l = p.1 in
    (value_at-early e (x ∷ []) (level_of names d) l ∙ p.0 ∙ ap number (sym (same d i)), omega (arith, length-append e (x ∷ [])))

held_let : (names : ColumnLevels) (e : List Value) (v w : Values) (c level : ℕ) (z : ℤ) → level ≡ length e → w c ≡ z → ((d : ℕ) → d ≢ c → w d ≡ v d) →
    AreHeld names e v → AreHeld ((c, level) ∷ names) (e ++ (number z ∷ [])) w
held_let names e v w c level z s at same h d i = on_bool (c == d)
    (λ t. rw t (value_at-end e (number z) level s ∙ ap number (sym at ∙ ap w (eqb-true c d t)), omega (arith, length-append e (number z ∷ []))))
    (λ t.
    let apart : d ≢ c = λ q. eqb-false c d t (sym q) in
    let j : In d (named names) = ⊎_elim (λ q. absurd (apart q)) (λ q. q) i in
    let p = h d j in
    let l = p.1 in
    rw t (value_at-early e (number z ∷ []) (level_of names d) l ∙ p.0 ∙ ap number (sym (same d apart)), omega (arith, length-append e (number z ∷ []))))

-- a number that is a column's
pub let_at : (n : ℕ) (E : ℤ → Type 0) (k : ArmBuilder) (c : ℕ) (code : CodeTree) (base env e : List Value) (v w : Values) (z : ℤ) → At n E k base env e v →
    IsMet n code e z → w c ≡ z → ((d : ℕ) → d ≢ c → w d ≡ v d) →
    At n E (let_named k c code) base env (e ++ (number z ∷ [])) w
let_at n E k c code base env e v w z h m at same =
    let l = h.level in
    let g = h.long in
    let a = length-append e (number z ∷ []) in
    record {
      reach = reach_some n k.items (let_item code ∷ []) env e (Some (e ++ (number z ∷ []))) h.reach (let_reaches n code e (number z) m.gives m.peak);
      level = omega arith;
      held = held_let k.names e v w c k.level z h.level at same h.held;
      long = omega arith;
      early = λ x i. value_at-early e (number z ∷ []) x (omega arith) ∙ h.early x i;
      small = small_more n E (length base) e (number z) h.long h.small (fine_number n E z m.size);
    }

-- a set, which no column names
abbrev pub with_let : ArmBuilder → CodeTree → ArmBuilder
with_let k code = record { level = k.level + 1; names = k.names; items = k.items ++ (let_item code ∷ []) }

pub set_at : (n : ℕ) (E : ℤ → Type 0) (k : ArmBuilder) (code : CodeTree) (base env e : List Value) (v : Values) (zs : List ℤ) → At n E k base env e v →
    (path code e).gives ≡ got (elements zs ∷ []) → (path code e).peak ≤ n → ((y : ℤ) → has zs y ≡ true → E y) →
    At n E (with_let k code) base env (e ++ (elements zs ∷ [])) v
set_at n E k code base env e v zs h q p f =
    let l = h.level in
    let g = h.long in
    let a = length-append e (elements zs ∷ []) in
    record {
      reach = reach_some n k.items (let_item code ∷ []) env e (Some (e ++ (elements zs ∷ []))) h.reach (let_reaches n code e (elements zs) q p);
      level = omega arith;
      held = held_more k.names e v v (elements zs) (λ d i. refl) h.held;
      long = omega arith;
      early = λ x i. value_at-early e (elements zs ∷ []) x (omega arith) ∙ h.early x i;
      small = small_more n E (length base) e (elements zs) h.long h.small (omega arith, f);
    }

pub let_comes : (n : ℕ) (E : ℤ → Type 0) (k : ArmBuilder) (c : ℕ) (code : CodeTree) (base env : List Value) (v w : Values) (z : ℤ) → Comes n E k base env v →
    ((e : List Value) → At n E k base env e v → IsMet n code e z) → w c ≡ z → ((d : ℕ) → d ≢ c → w d ≡ v d) →
    Comes n E (let_named k c code) base env w
let_comes n E k c code base env v w z (inl h) met at same = inl (reach_none n k.items (let_item code ∷ []) env h)
let_comes n E k c code base env v w z (inr (e, h)) met at same = inr (e ++ (number z ∷ []), let_at n E k c code base env e v w z h (met e h) at same)

need_at : (n : ℕ) (E : ℤ → Type 0) (k : ArmBuilder) (code : CodeTree) (base env e : List Value) (v : Values) (b : Bool) → At n E k base env e v →
    Reaches n (need_item code ∷ []) e (cond b (Some e) None) → Comes n E (need k code) base env v
need_at n E k code base env e v true h r =
    inr (
      e,
      record {
        reach = reach_some n k.items (need_item code ∷ []) env e (Some e) h.reach r;
        level = h.level;
        held = h.held;
        long = h.long;
        early =
            h.early;
        small = h.small;
      },
    )
need_at n E k code base env e v false h r = inl (reach_some n k.items (need_item code ∷ []) env e None h.reach r)

need_comes : (n : ℕ) (E : ℤ → Type 0) (k : ArmBuilder) (code : CodeTree) (base env : List Value) (v : Values) → Comes n E k base env v →
    ((e : List Value) → At n E k base env e v → (b : Bool) × ((path code e).gives ≡ got (truth b ∷ [])) × ((path code e).peak ≤ n)) →
    Comes n E (need k code) base env v
need_comes n E k code base env v (inl h) met = inl (reach_none n k.items (need_item code ∷ []) env h)
need_comes n E k code base env v (inr (e, h)) met = let m = met e h in need_at n E k code base env e v m.0 h (need_reaches n code e m.0 m.1 m.2)

-- ---- lets and needs
compare_met : (n : ℕ) (o : Order) (c : CodeTree) (e : List Value) (z : ℤ) → IsMet n c e z →
    (b : Bool) × ((path (code_compare o c (code_lit (pos 0))) e).gives ≡ got (truth b ∷ [])) × ((path (code_compare o c (code_lit (pos 0))) e).peak ≤ n)
compare_met n o c e z h = let p = h.peak in (compared o (number z) (number (pos 0)), rw h.gives refl, rw h.gives (omega arith))

divides_met : (n : ℕ) (g : ℤ) (c : CodeTree) (e : List Value) (z : ℤ) → IsMet n c e z →
    (b : Bool) × ((path (code_divides g c) e).gives ≡ got (truth b ∷ [])) × ((path (code_divides g c) e).peak ≤ n)
divides_met n g c e z h = let p = h.peak in (is_multiple g z, rw h.gives refl, rw h.gives (omega arith))

pub steps_come : (n : ℕ) (E : ℤ → Type 0) (base env : List Value) (v : Values) → v 0 ≡ pos 1 → (ms : List Step) (k : ArmBuilder) (Q : ℕ → Type 0) →
    Comes n E k base env v → ((c : ℕ) → Q c → HasName k.names c) → StepsOver Q ms → LetsFit v ms → LetsWithin n v ms →
    NeedsWithin n v ms → StepsDivide ms → Comes n E (fold step_item k ms) base env v
steps_come n E base env v one [] k Q h f o l w s d = h
steps_come n E base env v one (floor_of c r g ∷ ms) k Q h f o l w s d =
    let j = step_item k (floor_of c r g) in
    let z = int_div_euclid (value v r) g in
    let next : Comes n E j base env v = let_comes n E k c (code_div (row_code k.names r) g) base env v v z h
    (λ e a. div_met n (row_code k.names r) g e (value v r) d.0 (row_met n k.names e v one a.held r w.0 (Over-weaker Q (HasName k.names) f r o.0))) l.0
    (λ x _. refl) in
    steps_come n E base env v one ms j (λ x. (x ≡ c) ⊎ Q x) next (wider_let Q k.names c k.level f) o.1 l.1 w.1 s d.1
steps_come n E base env v one (need_nonneg r ∷ ms) k Q h f o l w s d =
    let j = step_item k (need_nonneg r) in
    let next : Comes n E j base env v = need_comes n E k (code_compare Ge (row_code k.names r) (code_lit (pos 0))) base env v h
    (λ e a. compare_met n Ge (row_code k.names r) e (value v r) (row_met n k.names e v one a.held r s.0 (Over-weaker Q (HasName k.names) f r o.0))) in
    steps_come n E base env v one ms j Q next f o.1 l w s.1 d.1
steps_come n E base env v one (need_zero r ∷ ms) k Q h f o l w s d =
    let j = step_item k (need_zero r) in
    let next : Comes n E j base env v = need_comes n E k (code_compare Eq (row_code k.names r) (code_lit (pos 0))) base env v h
    (λ e a. compare_met n Eq (row_code k.names r) e (value v r) (row_met n k.names e v one a.held r s.0 (Over-weaker Q (HasName k.names) f r o.0))) in
    steps_come n E base env v one ms j Q next f o.1 l w s.1 d.1
steps_come n E base env v one (need_divides g r ∷ ms) k Q h f o l w s d =
    let j = step_item k (need_divides g r) in
    let next : Comes n E j base env v = need_comes n E k (code_divides g (row_code k.names r)) base env v h
    (λ e a. divides_met n g (row_code k.names r) e (value v r) (row_met n k.names e v one a.held r s.0 (Over-weaker Q (HasName k.names) f r o.0))) in
    steps_come n E base env v one ms j Q next f o.1 l w s.1 d.1

-- ---- unknowns
pub back_come : (n : ℕ) (E : ℤ → Type 0) (base env : List Value) (ws : List (ℕ × How)) (k : ArmBuilder) (v : Values) (Q : ℕ → Type 0) → v 0 ≡ pos 1 →
    Comes n E k base env v → ((c : ℕ) → Q c → HasName k.names c) → BackOver Q ws → WaysWithin n v ws → BackDivides ws →
    Comes n E (fold back_item k ws) base env (after_back v ws)
back_come n E base env [] k v Q one h f o w d = h
back_come n E base env ((x, y) ∷ ws) k v Q one h f o w d =
    let some = o.0 in
    let z = how_value v y in
    let u = update v x z in
    let next : Comes n E (back_item k (x, y)) base env u = let_comes n E k x (how_code k.names y) base env v u z h
    (λ e a. how_met n k.names e v one a.held y w.0 (how_wider Q (HasName k.names) f y o.1) d.0) (update-at v x z) (λ c a. update-other v x c z a) in
    back_come n E base env ws (back_item k (x, y)) u (λ c. (c ≡ x) ⊎ Q c) (update-other v x 0 z (λ (q : 0 ≡ x). omega arith) ∙ one) next
    (wider_let Q k.names x k.level f) o.2 w.1 d.1

-- ---- the tuples of an arm
-- nothing above n is met, and what is found is so
pub record IsFinePath (n : ℕ) (N : List Value → Type 0) (p : Path (Option (List Value))) : Type 0 where
  pub peak : p.peak ≤ n
  pub gives : (vs : List Value) → p.gives ≡ got (Some vs) → N vs

tuple_met : (n : ℕ) (ks : List ℕ) → ((k : ℕ) → In k ks → k ≤ n) → ((meets_all ks).gives ≡ got (map (λ k. number (pos k)) ks)) × ((meets_all ks).peak ≤ n)
tuple_met n [] h = (refl, omega arith)
tuple_met n (k ∷ ks) h =
    let r = tuple_met n ks (λ x i. h x (inr i)) in
    let l = h k (inl refl) in
    let m = r.1 in
    (rw r.0 refl, rw r.0 (omega arith))

module _ (n : ℕ) (N : List Value → Type 0) where
  -- one and then another
  abbrev FineParts : Got (Option (List Value)) → ℕ → Type 0
  FineParts g p = (p ≤ n) × ((vs : List Value) → g ≡ got (Some vs) → N vs)

  later_fine : (g : Got (Option (List Value))) (p : ℕ) (q : Path (Option (List Value))) → FineParts g p → IsFinePath n N q →
      FineParts (then_gives g (λ found. (or_later found q).gives)) (then_peak p g (λ found. (or_later found q).peak))
  later_fine (got None) p q h k = (let l = h.0 in let m = k.peak in omega arith, k.gives)
  later_fine (got (Some vs)) p q h k = (let l = h.0 in omega arith, λ xs e. h.1 xs e)
  later_fine (none_at x) p q h k = (h.0, λ xs e. absurd (stop_not x (Some xs) e))

  pub then_fine : (p q : Path (Option (List Value))) → IsFinePath n N p → IsFinePath n N q → IsFinePath n N (then_path p (λ found. or_later found q))
  then_fine p q h k = let r = later_fine p.gives p.peak q (h.peak, h.gives) k in record { peak = r.0; gives = r.1 }

  pub none_fine : IsFinePath n N (gives_only None)
  none_fine = record { peak = omega arith; gives = λ vs e. absurd (none_is_some vs e) }

  first_fine : (total k : ℕ) (f : ℕ → Path (Option (List Value))) → ((i : ℕ) → k ≤ i → i < k + total → IsFinePath n N (f i)) →
      IsFinePath n N (first_from total k f)
  first_fine zero k f h = none_fine
  first_fine (suc t) k f h = then_fine (f k) (first_from t (suc k) f) (h k (omega arith) (omega arith))
      (first_fine t (suc k) f (λ i l m. h i (omega arith) (omega arith)))

  -- what an arm gives after its items
  abbrev Given : CodeTrees → List Value → Type 0
  Given gs e = ((all_path gs e []).peak ≤ n) × ((vs : List Value) → (all_path gs e []).gives ≡ got vs → N vs)

  gives_fine : (gs : CodeTrees) (o : Option (List Value)) → ((e : List Value) → o ≡ Some e → Given gs e) →
      IsFinePath n N (if_some o (λ e. then_path (all_path gs e []) (λ vs. gives_only (Some vs))))
  gives_fine gs None h = none_fine
  gives_fine gs (Some e) h = let r = by (all_path gs e []).gives (all_path gs e []).peak (h e refl) in record { peak = r.0; gives = r.1 }
    where
      by : (g : Got (List Value)) (p : ℕ) → (p ≤ n) × ((vs : List Value) → g ≡ got vs → N vs) →
          (then_peak p g (λ vs. 0) ≤ n) × ((vs : List Value) → then_gives g (λ xs. got (Some xs)) ≡ got (Some vs) → N vs)
      by (got xs) p l = (let m = l.0 in omega arith, λ vs e. subst N (some_once xs vs e) (l.1 xs refl))
      by (none_at x) p l = (l.0, λ vs e. absurd (stop_not x (Some vs) e))

  pub arm_fine : (bounds : List ℕ) (is : List ItemTree) (gs : CodeTrees) (env : List Value) →
      ((i : ℕ) → i < count_below bounds → ((k : ℕ) → In k (tuple_at bounds i) → k ≤ n) ×
      ((o : Option (List Value)) × Reaches n is (with_tuple env (tuple_at bounds i)) o × ((e : List Value) → o ≡ Some e → Given gs e))) →
      IsFinePath n N (arm_path (arm_of bounds (items_of is) gs) env)
  arm_fine bounds is gs env h = first_fine (count_below bounds) 0 _ (λ i l m.
      let q = h i (omega arith) in
      let t = tuple_met n (tuple_at bounds i) q.0 in
      let r = q.1 in
      let g = gives_fine gs r.0 r.2 in
      let x = t.1 in
      let y = r.1.1 in
      let z = g.peak in
      record { peak = rw (t.0, r.1.0) (omega arith); gives = rw (t.0, r.1.0) g.gives })

  -- the outcome of a solve
  pub solve_fine : (id : ℕ) (arms : ArmTrees) (env : List Value) → IsFinePath n N (arms_path arms env) →
      (peak (code_solve id arms) env ≤ n) × ((vs : List Value) → means (code_solve id arms) env ≡ values vs → N vs)
  solve_fine id arms env h = by (arms_path arms env).gives (arms_path arms env).peak (h.peak, h.gives)
    where
      by : (g : Got (Option (List Value))) (p : ℕ) → FineParts g p →
          (then_peak p g (λ found. (or_none id found).peak) ≤ n) ×
          ((vs : List Value) → outcome_of (then_gives g (λ found. (or_none id found).gives)) ≡ values vs → N vs)
      by (got None) p l = (let m = l.0 in omega arith, λ vs e. absurd (cc))
      by (got (Some xs)) p l = (let m = l.0 in omega arith, λ vs e. let s : xs ≡ vs = cc in subst N s (l.1 xs refl))
      by (none_at x) p l = (l.0, λ vs e. absurd (cc))
