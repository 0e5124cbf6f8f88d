-- An arm meets nothing above the growth of its case, sets included.
use Rattle.std.proofs.Common.{◌≡◌, ℕ, zero, suc, ◌+◌, ◌-◌, ◌*◌, ◌/◌, ◌%◌, ◌^◌, ◌<◌, ◌≤◌, ◌==◌, ℤ, pos, List, [], ◌∷◌, ◌++◌, ◌⊎◌, inl, inr, ⊎_elim, length, map, Some, refl, sym, ap, subst, arith, ◌∙◌, length-append, cond}
use Rattle.std.specs.Prelude.{None, Option, true, false, not, filter, Bool, unsigned_abs, nat_lt}
use Rattle.std.specs.List.{range_with_len, fold}
use Rattle.std.proofs.lemmas.Option.{slice_get_within}
use Rattle.std.proofs.lemmas.Bool.{ne_eqb, ltb-true, ltb-false, lt-ltb}
use Rattle.std.proofs.lemmas.List.{length-map}
use Rattle.std.proofs.lemmas.List.FromFn.{length-range_with_len}
use Rattle.std.proofs.lemmas.Nat.{pow_pos, pow-add}
use Rattle.std.proofs.Math.Nat.{mul-le-mul_left, div-add-mod, div-le_self, div-eq_of_lt, add-mul}
use Rattle.cf_tree.specs.declared.base.Base.{Base}
use Rattle.cf_tree.specs.declared.base.Base.TheVariants.{Int}
use Rattle.cf_tree.specs.CodeTree.{CodeTree, code_var, codes_of, let_item, ItemTree}
use Rattle.cf_tree.specs.Meaning.{got, path, all_path, arm_path, tuple_at}
use Rattle.cf_tree.specs.RelTree.{RelTree}
use Rattle.cf_tree.specs.Solving.{IsBelow, with_tuple}
use Rattle.cf_tree.specs.Values.{Value, number, elements, number_of, value_at, HaveBases}
use Rattle.cf_tree.proofs.TupleLemmas.{tuples_numbered}
use Rattle.cf_linear.specs.Arm.{level_of, ArmBuilder, step_item, back_item, let_region, search_names, begun, with_fresh, fresh_code, earlier_counts, piece_code, set_code, region_level, give_code, gives, arm, sum_of, vars, union_of_all}
use Rattle.cf_linear.specs.Keep.{In, Within, after_back}
use Rattle.cf_linear.specs.Layout.{Layout, layout_of, masks, bit, place, has_level, set_count, number_column, input_column, region_column, known_count}
use Rattle.cf_linear.specs.Systems.{System, Answer}
use Rattle.cf_linear.specs.Rows.{Values}
use Rattle.cf_linear.specs.Chooses.{last_factor}
use Rattle.cf_linear.specs.Solved.{search_columns, set_tuple, after, Owes}
use Rattle.cf_linear.proofs.BoolLemmas.{on_bool}
use Rattle.cf_linear.proofs.KindLemmas.{In-append}
use Rattle.cf_elim.specs.Returning.{ComesBack, StepsDivide, BackDivides}
use Rattle.cf_elim.proofs.SearchLaws.{bounds_of}
use Rattle.cf_cases.proofs.FormedLaws.{In-range, range-In}
use Rattle.cf_choose.specs.CaseArms.{parameter_names}
use Rattle.cf_choose.proofs.ArmLemmas.{named_search}
use Rattle.cf_choose.proofs.ChooseLevels.{number_levels}
use Rattle.cf_choose.proofs.ColumnNames.{named-append, named-first, named-second, ints_of, wholes, search_numbers, search_have, AreEarlier, search_agrees, search_named, rising_from, in_bounds, parameter_numbers}
use Rattle.cf_choose.proofs.ArmBuilderLemmas.{length_have, value_at-early, steps_named, back_named}
use Rattle.cf_choose.proofs.RowCodes.{named, HasName, AreNumbers, number_named, number_at}
use Rattle.cf_venn.specs.Columns.{known_values}
use Rattle.cf_venn.specs.Masks.{sets_at, count}
use Rattle.cf_venn.proofs.CodeLaws.{each_passing, each_earlier}
use Rattle.cf_venn.proofs.ColumnLaws.{input_known}
use Rattle.cf_venn.proofs.MaskLemmas.{bit_zero, bit_high}
use Rattle.cf_venn.proofs.PartLemmas.{below_product}
use Rattle.cf_growth.specs.Norms.{IsBounded}
use Rattle.cf_growth.specs.Growing.{IsKnown, LetsFit}
use Rattle.cf_growth.specs.Reaching.{parameters_size, IsNearElement, AreNear}
use Rattle.cf_growth.specs.Tracing.{StaysWithin}
use Rattle.cf_growth.proofs.AfterLaws.{AfterIs, after_is, tuple_value}
use Rattle.cf_growth.proofs.MetCodes.{IsMet, AreHeld, var_met}
use Rattle.cf_growth.proofs.NormLaws.{times_more, times_le}
use Rattle.cf_growth.proofs.ParameterLaws.{parameter_column, known_column, parameters_agree, parameter_small, regions_keep, regions_name}
use Rattle.cf_growth.proofs.ReachLaws.{Reaches, reach_none, At, Comes, set_at, steps_come, back_come, IsFine, fine_number, IsFinePath, arm_fine}
use Rattle.cf_growth.proofs.RegionGrowth.{count_small, regions_at, input_sets}
use Rattle.cf_growth.proofs.SetCodes.{IsSetMet, each_set, IsSmallAt, AreSmall, union_met, counts_met, fresh_met, slice_met}

-- ---- what is given
-- each code gives near values, and meets nothing above n
abbrev pub AllGive : ℕ → Layout → List Value → List CodeTree → List Value → Type 0
AllGive n l env [] e = Unit {0}
AllGive n l env (c ∷ cs) e = ((vs : List Value) × ((path c e).gives ≡ got vs) × ((path c e).peak ≤ n) × AreNear n l env vs) × AllGive n l env cs e

near_append : (n : ℕ) (l : Layout) (env xs ys : List Value) → AreNear n l env xs → AreNear n l env ys → AreNear n l env (xs ++ ys)
near_append n l env [] ys h k = k
near_append n l env (x ∷ xs) ys h k = (h.0, near_append n l env xs ys h.1 k)

got_same : (xs ys : List Value) → got xs ≡ got ys → xs ≡ ys
got_same xs ys h = cc

all_give : (n : ℕ) (l : Layout) (env : List Value) (cs : List CodeTree) (e done : List Value) → AllGive n l env cs e → AreNear n l env done →
    ((all_path (codes_of cs) e done).peak ≤ n) × ((vs : List Value) → (all_path (codes_of cs) e done).gives ≡ got vs → AreNear n l env vs)
all_give n l env [] e done h d = (omega arith, λ vs q. subst (AreNear n l env) (got_same done vs q) d)
all_give n l env (c ∷ cs) e done h d =
    let p = h.0.2 in
    let again = all_give n l env cs e (done ++ h.0.0) h.1 (near_append n l env done h.0.0 d h.0.3) in
    let q = again.0 in
    (rw h.0.1 (omega arith), rw h.0.1 again.1)

map_give : (n : ℕ) (l : Layout) (env : List Value) (f : ℕ → CodeTree) (e : List Value) (xs : List ℕ) →
    ((x : ℕ) → (vs : List Value) × ((path (f x) e).gives ≡ got vs) × ((path (f x) e).peak ≤ n) × AreNear n l env vs) → AllGive n l env (map f xs) e
map_give n l env f e [] h = tt
map_give n l env f e (x ∷ xs) h = (h x, map_give n l env f e xs h)

short_filter : (p : ℕ → Bool) (xs : List ℕ) → length (filter p xs) ≤ length xs
short_filter p [] = omega arith
short_filter p (x ∷ xs) = let h = short_filter p xs in on_bool (p x) (λ t. rw t (omega arith)) (λ t. rw t (omega arith))

filter_none : (p : ℕ → Bool) (a n : ℕ) → ((r : ℕ) → a ≤ r → r < a + n → p r ≡ false) → filter p (range_with_len a n) ≡ []
filter_none p a zero h = refl
filter_none p a (suc n) h = rw (h a (omega arith) (omega arith)) (filter_none p (a + 1) n (λ r i j. h r (omega arith) (omega arith)))

-- 2^q + p is at most 2^(p + q)
regions_more : (p q : ℕ) → 2 ^ q + p ≤ 2 ^ (p + q)
regions_more zero q = let z : zero + q ≡ q = omega arith in rw z (omega arith)
regions_more (suc p) q =
    let h = regions_more p q in
    let s : suc p + q ≡ 1 + (p + q) = omega arith in
    let e : 2 ^ (1 + (p + q)) ≡ 2 ^ 1 * 2 ^ (p + q) = pow-add 2 1 (p + q) in
    let o = pow_pos (p + q) in
    rw s (rw e (omega arith))

module _ (scope outputs : List Base) (rel : RelTree) (m : System) (a : Answer) where
  abbrev l : Layout
  l = layout_of scope outputs rel

  module _ (known : m.known ≡ range_with_len 0 (known_count l)) (unknown : (x : ℕ) → has_level l.out_numbers x ≡ true → In (number_column l x) m.unknown)
      (regions : (r : ℕ) → 1 ≤ r → r < 2 ^ set_count l → In (region_column l r) m.unknown) (later : (c : ℕ) → In c m.unknown → 1 ≤ c)
      (owes : Owes m a) (comes : ComesBack m a) (done : a.system.unknown ≡ []) (steps_divide : StepsDivide a.steps) (back_divide : BackDivides a.back)
      (env : List Value) (have : HaveBases scope env) (n : ℕ)
      (stays : (v : Values) → Within v a.bounds → LetsFit v a.steps → IsBounded (IsKnown m) (1 + parameters_size l env) v →
      StaysWithin l (1 + parameters_size l env) n m a v) where
    abbrev k : ℕ
    k = 1 + parameters_size l env

    abbrev E : ℤ → Type 0
    E = IsNearElement n l env

    abbrev bounds : List ℕ
    bounds = bounds_of a.bounds

    abbrev start : List Base
    start = scope ++ ints_of bounds

    abbrev first : ArmBuilder
    first = begun l a.bounds

    abbrev regioned : ArmBuilder
    regioned = fold (let_region l) first (masks (length l.inputs))

    abbrev middle : ArmBuilder
    middle = fold step_item regioned a.steps

    abbrev end : ArmBuilder
    end = fold back_item middle a.back

    next_some : 1 ≤ m.next
    next_some = let h = owes.columns.below 0 owes.columns.constant in omega arith

    parameter_known : (d : ℕ) → In d (named (parameter_names l)) → In d m.known
    parameter_known d i = let h = parameter_column scope outputs rel d i in let p = h.1 in rw known (In-range 0 (known_count l) d (omega arith) (omega arith))

    early : AreEarlier m.next (parameter_names l)
    early d i = owes.columns.below d (parameter_known d i)

    numbers : AreNumbers start first.names
    numbers = search_numbers scope a.bounds (parameter_names l) (length scope) refl (parameter_numbers l scope l.numbers (number_levels scope outputs rel))

    -- known columns and those of searches
    abbrev Begins : ℕ → Type 0
    Begins c = In c m.known ⊎ In c (search_columns a.bounds)

    begins_named : (c : ℕ) → Begins c → HasName regioned.names c
    begins_named c (inl i) =
        let r = range-In 0 (known_count l) c (rw known at i) in
        let h = r.1 in
        ⊎_elim (λ z. inl z)
        (λ o. ⊎_elim (λ j. regions_keep l (masks (length l.inputs)) first c (inr (named-first c (parameter_names l) (search_names l.scope a.bounds) j)))
        (λ q. subst (λ d. HasName regioned.names d) q.3
        (regions_name l (masks (length l.inputs)) first q.0 (let x = q.1 in let y = q.2 in In-range 1 (2 ^ length l.inputs - 1) q.0 x (omega arith)))) o)
        (known_column scope outputs rel c (omega arith))
    begins_named c (inr i) = regions_keep l (masks (length l.inputs)) first c
        (inr (named-second c (parameter_names l) (search_names l.scope a.bounds) (search_named l.scope c a.bounds i)))

    named_begins : (c : ℕ) → In c (named first.names) → (1 ≤ c) × Begins c
    named_begins c i = ⊎_elim (λ j. ((parameter_column scope outputs rel c j).0, inl (parameter_known c j)))
        (λ j.
        let s = named_search l.scope c a.bounds j in
        let r = rising_from m.next a.system.next c (search_columns a.bounds) owes.columns.bounds_rise s in
        let o = next_some in
        (omega arith, inr s))
        (In-append c (named (parameter_names l)) (named (search_names l.scope a.bounds))
        (rw (named-append (parameter_names l) (search_names l.scope a.bounds)) at i))

    known_named : (c : ℕ) → In c a.system.known ⊎ In c a.system.unknown → HasName middle.names c
    known_named c (inl i) = elim (owes.columns.only c i) as (λ _. HasName middle.names c) [
      | inl j ↦ steps_named a.steps regioned c (inl j)
      | inr j ↦ steps_named a.steps regioned c (inr (begins_named c j))
    ]
    known_named c (inr i) = absurd (subst (λ cs. In c cs) done i)

    unknown_named : (c : ℕ) → In c m.unknown → In c (named end.names)
    unknown_named c i =
        let s = later c i in
        some_name s (elim (comes.covers c i) as (λ _. HasName end.names c)
        [ inl j ↦ absurd (subst (λ cs. In c cs) done j) | inr j ↦ back_named a.back middle c (inl j) ])
      where
        some_name : 1 ≤ c → HasName end.names c → In c (named end.names)
        some_name s (inl z) = absurd (omega arith)
        some_name s (inr i) = i

    -- the known columns of the parameters
    known_small : IsBounded (IsKnown m) k (known_values l env)
    known_small c i =
        let r = range-In 0 (known_count l) c (subst (λ cs. In c cs) known i) in
        let h = r.1 in
        ⊎_elim (λ z. subst (λ d. unsigned_abs (known_values l env d) ≤ k) (sym z) (omega arith))
        (λ o. ⊎_elim (λ j. parameter_small scope outputs rel env c j)
        (λ q.
        let e = (input_known l env q.0 q.1 q.2).1 in
        let s = count_small scope outputs rel env have q.0 q.1 q.2 in
        let t : unsigned_abs (known_values l env (input_column l q.0)) ≡ count (sets_at env l.inputs) q.0 = ap unsigned_abs e in
        subst (λ d. unsigned_abs (known_values l env d) ≤ k) q.3 (omega arith)) o)
        (known_column scope outputs rel c (omega arith))

    -- ---- one tuple
    module _ (ks : List ℕ) (below : IsBelow bounds ks) where
      abbrev e0 : List Value
      e0 = with_tuple env ks

      abbrev v : Values
      v = after a (known_values l env) (wholes ks)

      abbrev w : Values
      w = after_back v a.back

      is_after : AfterIs m a (known_values l env) (wholes ks)
      is_after = after_is m a owes (known_values l env) (wholes ks) (in_bounds a.bounds ks below)

      within : StaysWithin l k n m a v
      within = stays v is_after.within is_after.lets (λ c i. subst (λ z. unsigned_abs z ≤ k) (is_after.same c i) (known_small c i))

      one : v 0 ≡ pos 1
      one = sym (is_after.same 0 owes.columns.constant)

      start_have : HaveBases start e0
      start_have = search_have scope bounds ks env have below

      start_length : length e0 ≡ length start
      start_length = length_have start e0 start_have

      first_held : AreHeld first.names e0 v
      first_held c i =
          let b = named_begins c i in
          let s = b.0 in
          let z : c == 0 ≡ false = ne_eqb c 0 (λ q. omega arith) in
          let j = number_named start first.names c numbers i in
          let g = search_agrees scope a.bounds (parameter_names l) (length scope) m.next a.system.next env (known_values l env) ks refl
          (parameter_numbers l scope l.numbers (number_levels scope outputs rel)) have early next_some owes.columns.bounds_rise below
          (parameters_agree scope outputs rel env) c (inr i) in
          let t : number_of (value_at e0 (level_of first.names c)) ≡ set_tuple (known_values l env) a.bounds (wholes ks) c = rw z at g in
          let y = slice_get_within start (level_of first.names c) Int j in
          let e = start_length in
          (number_at start e0 (level_of first.names c) start_have j ∙ ap number (t ∙ sym (is_after.first c b.1)), omega arith)

      pub tuple_small : (j : ℕ) → In j ks → j ≤ n
      tuple_small j i =
          let t = tuple_value m.next a.system.next (known_values l env) a.bounds ks owes.columns.bounds_rise below j i in
          let h = within.known t.0 (owes.columns.bound_known t.0 t.1) in
          let e : v t.0 ≡ pos j = is_after.first t.0 (inr t.1) ∙ t.2 in
          let s : unsigned_abs (v t.0) ≡ j = ap unsigned_abs e in
          omega arith

      later_small : (vs : List Value) (js : List ℕ) → ((j : ℕ) → In j js → j ≤ n) → (x : ℕ) → length vs ≤ x →
          IsFine n E (value_at (vs ++ map (λ k. number (pos k)) js) x)
      later_small [] [] h x i = fine_number n E (pos 0) (omega arith)
      later_small [] (j ∷ js) h zero i = fine_number n E (pos j) (h j (inl refl))
      later_small [] (j ∷ js) h (suc x) i = later_small [] js (λ y k. h y (inr k)) x (omega arith)
      later_small (w ∷ vs) js h zero i = absurd (omega arith)
      later_small (w ∷ vs) js h (suc x) i = later_small vs js h x (omega arith)

      first_at : At n E first env e0 e0 v
      first_at = record {
        reach = (refl, omega arith);
        level = let e = start_length in omega (arith, length-append scope (ints_of bounds), length-map bounds (λ _. Int), length-map a.bounds (λ (c, p). p));
        held = first_held;
        long = omega (arith, length-append env (map (λ k. number (pos k)) ks));
        early = λ x i. value_at-early env (map (λ k. number (pos k)) ks) x i;
        small = λ x i. later_small env ks tuple_small x i;
      }

      last_some : 1 ≤ last_factor l a
      last_some = omega arith

      b_within : within.b ≤ n
      b_within = let t = times_more (last_factor l a) within.b last_some in let r = within.room in omega arith

      k_within : k ≤ n
      k_within = let t = b_within in let s = within.some in omega arith

      counts_are : (q : ℕ) → 1 ≤ q → q < 2 ^ length l.inputs → v (input_column l q) ≡ pos (count (sets_at env l.inputs) q)
      counts_are q x y =
          let e = input_known l env q x y in
          let h = e.0 in
          sym (is_after.same (input_column l q) (rw known (In-range 0 (known_count l) (input_column l q) (omega arith) (omega arith)))) ∙ e.1

      middle_comes : Comes n E middle env e0 v
      middle_comes =
          let s = pow_pos (length l.inputs) in
          let r = regions_at scope outputs rel env have n (2 ^ length l.inputs - 1) 1 first e0 e0 v k_within counts_are (omega arith) (omega arith) first_at in
          steps_come n E env e0 v one a.steps regioned Begins (inr (r.0, r.1)) begins_named owes.columns.over is_after.lets within.lets within.needs steps_divide

      end_comes : Comes n E end env e0 w
      end_comes = back_come n E env e0 a.back middle v (λ c. In c a.system.known ⊎ In c a.system.unknown) one middle_comes known_named comes.over within.back
          back_divide

      -- ---- counts of regions
      region_small : (e : List Value) → AreHeld end.names e w → (r : ℕ) → 1 ≤ r → r < 2 ^ set_count l →
          IsMet within.b (code_var (level_of end.names (region_column l r))) e (w (region_column l r))
      region_small e held r x y =
          let i = regions r x y in
          var_met within.b (level_of end.names (region_column l r)) e (w (region_column l r)) (held (region_column l r) (unknown_named (region_column l r) i)).0
          (within.stood (region_column l r) (inr i))

      -- the sum of the counts of the masks q + 2^p * o for o below some number
      sum_met : (e : List Value) → AreHeld end.names e w → (q many : ℕ) → ((o : ℕ) → o < many → q + 2 ^ length l.inputs * o < 2 ^ set_count l) →
          many * within.b ≤ n →
          (z : ℤ) × IsMet n (sum_of (earlier_counts l end.names q many)) e z × (unsigned_abs z ≤ many * within.b)
      sum_met e held q many f room =
          let code : ℕ → CodeTree = λ r. code_var (level_of end.names (region_column l r)) in
          let rs = filter (λ r. not (r == 0)) (map (λ o. q + 2 ^ length l.inputs * o) (range_with_len 0 many)) in
          let small : AreSmall code within.b rs e = each_earlier (IsSmallAt code within.b e) (λ o. q + 2 ^ length l.inputs * o) 0 many
          (λ o i x. let h = region_small e held (q + 2 ^ length l.inputs * o) x (f o (omega arith)) in
          (w (region_column l (q + 2 ^ length l.inputs * o)), h.gives, h.peak, h.size)) in
          let short : length rs ≤ many = omega (
            arith,
            short_filter (λ r. not (r == 0)) (map (λ o. q + 2 ^ length l.inputs * o) (range_with_len 0 many)),
            length-map (range_with_len 0 many) (λ o. q + 2 ^ length l.inputs * o),
            length-range_with_len 0 many,
          ) in
          let t = times_le (length rs) many within.b short in
          let c = counts_met n within.b code rs e small b_within (omega arith) in
          let z = c.2 in
          (c.0, c.1, omega arith)

      -- ---- where there are output sets
      room_of : 0 < length l.out_sets → 2 ^ set_count l * within.b ≤ n
      room_of some =
          let t = lt-ltb 0 (length l.out_sets) some in
          let f : 2 ^ set_count l ≤ last_factor l a = rw t (omega arith) in
          let x = times_le (2 ^ set_count l) (last_factor l a) within.b f in
          let r = within.room in
          omega arith

      fresh_is : (e : List Value) → AreHeld end.names e w → ((x : ℕ) → x < length env → value_at e x ≡ value_at env x) → 0 < length l.out_sets →
          (t : ℕ) × IsSetMet n t E (fresh_code l end.names) e
      fresh_is e held b some =
          let p = length l.inputs in
          let q = length l.out_sets in
          let room = room_of some in
          let more = times_le (2 ^ q + p) (2 ^ set_count l) within.b (regions_more p q) in
          let split = add-mul (2 ^ q) p within.b in
          let ins = union_met n k E (vars l.inputs) e (input_sets scope outputs rel env have n e b l.inputs (λ x i. i)) in
          let sum = sum_met e held 0 (2 ^ q) (λ o i. rw (pow-add 2 p q) (below_product (2 ^ p) (2 ^ q) 0 o (pow_pos p) i)) (omega arith) in
          let kb = mul-le-mul_left p within.some in
          let same : length (vars l.inputs) * k ≡ p * k = ap (λ y. y * k) (length-map l.inputs (λ x. code_var x)) in
          let z = sum.2 in (
            2 ^ q * within.b,
            fresh_met n (length (vars l.inputs) * k) (2 ^ q * within.b) E (union_of_all (vars l.inputs))
                (sum_of (earlier_counts l end.names 0 (2 ^ q))) e sum.0 (λ y i. inl i) ins sum.1 z (omega arith),
          )

      -- ---- pieces
      few_rows : (r : ℕ) → r < 2 ^ set_count l → r / 2 ^ length l.inputs * within.b ≤ n
      few_rows r h = on_bool (nat_lt 0 (length l.out_sets))
          (λ t.
          let room = room_of (ltb-true 0 (length l.out_sets) t) in
          let d = div-le_self r (2 ^ length l.inputs) in
          let x = times_le (r / 2 ^ length l.inputs) (2 ^ set_count l) within.b (omega arith) in
          omega arith)
          (λ t.
          let g = ltb-false 0 (length l.out_sets) t in
          let s : set_count l ≡ length l.inputs = omega arith in
          let lt : r < 2 ^ length l.inputs = subst (λ c. r < 2 ^ c) s h in
          let z = div-eq_of_lt lt in
          rw z (omega arith))

      piece_met : (e : List Value) → AreHeld end.names e w → ((x : ℕ) → length env ≤ x → IsFine n E (value_at e x)) → (fresh : ℕ) → length env ≤ fresh →
          (r : ℕ) → 1 ≤ r → r < 2 ^ set_count l →
          IsSetMet n within.b E (piece_code l end.names (region_level l a) fresh r) e
      piece_met e held small fresh long r x y =
          let p = length l.inputs in
          let q = r % 2 ^ p in
          let many = r / 2 ^ p in
          let parts = div-add-mod r (2 ^ p) in
          let count = region_small e held r x y in
          let t = b_within in
          let c1 = count.peak in
          let c2 = count.size in
          let big : IsMet n (code_var (level_of end.names (region_column l r))) e (w (region_column l r)) =
          record { gives = count.gives; peak = omega arith; size = omega arith } in
          let sum = sum_met e held q many (λ o i. let o1 : o ≤ many = omega arith in let h = mul-le-mul_left (2 ^ p) o1 in omega arith) (few_rows r y) in
          let n1 = length_have scope env have in
          let at : length env ≤ cond (q == 0) fresh (region_level l a q) = on_bool (q == 0) (λ s. rw s long) (λ s. rw s (omega arith)) in
          slice_met n within.b E (cond (q == 0) fresh (region_level l a q)) (sum_of (earlier_counts l end.names q many))
          (code_var (level_of end.names (region_column l r))) e sum.0 (w (region_column l r))
          (small (cond (q == 0) fresh (region_level l a q)) at) sum.1 big count.size

      few_pieces : (j : ℕ) (code : ℕ → CodeTree) → length (map code (filter (bit (length l.inputs + j)) (masks (set_count l)))) * within.b ≤ n
      few_pieces j code = on_bool (nat_lt 0 (length l.out_sets))
          (λ t.
          let rs = filter (bit (length l.inputs + j)) (masks (set_count l)) in
          let room = room_of (ltb-true 0 (length l.out_sets) t) in
          let s = pow_pos (set_count l) in
          let short : length (map code rs) ≤ 2 ^ set_count l =
          omega (arith, length-map rs code, short_filter (bit (length l.inputs + j)) (masks (set_count l)), length-range_with_len 1 (2 ^ set_count l - 1))
          in
          let x = times_le (length (map code rs)) (2 ^ set_count l) within.b short in
          omega arith)
          (λ t.
          let g = ltb-false 0 (length l.out_sets) t in
          let s : set_count l ≡ length l.inputs = omega arith in
          let c = pow_pos (set_count l) in
          let none : filter (bit (length l.inputs + j)) (masks (set_count l)) ≡ [] = filter_none (bit (length l.inputs + j)) 1 (2 ^ set_count l - 1)
          (λ r x y. bit_high (length l.inputs) j r ∙ ap (bit j) (div-eq_of_lt (subst (λ d. r < 2 ^ d) s (let z : r < 2 ^ set_count l = omega arith in z))) ∙
          bit_zero j) in
          rw none (omega arith))

      set_met : (e : List Value) → AreHeld end.names e w → ((x : ℕ) → length env ≤ x → IsFine n E (value_at e x)) → (fresh : ℕ) → length env ≤ fresh → (j : ℕ) →
          IsSetMet n n E (set_code l end.names (region_level l a) fresh j) e
      set_met e held small fresh long j =
          let rs = filter (bit (length l.inputs + j)) (masks (set_count l)) in
          let code = piece_code l end.names (region_level l a) fresh in
          let s = pow_pos (set_count l) in
          let each = each_passing (λ r. IsSetMet n within.b E (code r) e) (bit (length l.inputs + j)) 1 (2 ^ set_count l - 1)
          (λ r x y. piece_met e held small fresh long r x (omega arith)) in
          let u = union_met n within.b E (map code rs) e (each_set n within.b E code e rs each) in
          let f = few_pieces j code in
          let z = u.size in
          record { set = u.set; gives = u.gives; peak = u.peak; size = omega arith; kind = u.kind }

      give_met : (e : List Value) → AreHeld end.names e w → ((x : ℕ) → length env ≤ x → IsFine n E (value_at e x)) → length env ≤ end.level → (x : ℕ) →
          (vs : List Value) × ((path (give_code l a end x) e).gives ≡ got vs) × ((path (give_code l a end x) e).peak ≤ n) × AreNear n l env vs
      give_met e held small long x = on_bool (has_level l.out_numbers x)
          (λ t.
          let i = unknown x t in
          let h = within.stood (number_column l x) (inr i) in
          let b = b_within in
          let g = var_met n (level_of end.names (number_column l x)) e (w (number_column l x))
          (held (number_column l x) (unknown_named (number_column l x) i)).0 (omega arith) in
          rw t (number (w (number_column l x)) ∷ [], g.gives, g.peak, (g.size, tt)))
          (λ t. let s = set_met e held small end.level long (place x l.out_sets) in rw t (elements s.set ∷ [], s.gives, s.peak, ((s.size, s.kind), tt)))

      -- what is given is near, and nothing above n is met
      abbrev IsGiven : List Value → Type 0
      IsGiven e = ((all_path (codes_of (gives l a end)) e []).peak ≤ n) ×
          ((vs : List Value) → (all_path (codes_of (gives l a end)) e []).gives ≡ got vs → AreNear n l env vs)

      given_met : (e : List Value) → AreHeld end.names e w → ((x : ℕ) → length env ≤ x → IsFine n E (value_at e x)) → length env ≤ end.level → IsGiven e
      given_met e held small long =
          all_give n l env (gives l a end) e [] (map_give n l env (give_code l a end) e (range_with_len l.scope (length l.out_numbers + length l.out_sets))
          (give_met e held small long)) tt

      some_once : (e d : List Value) → Some e ≡ Some d → e ≡ d
      some_once e d h = cc

      none_some : (d : List Value) → None ≡ Some d → ⊥
      none_some d h = cc

      -- ---- the end of the items
      abbrev Ends : List ItemTree → Type 0
      Ends items = (o : Option (List Value)) × Reaches n items e0 o × ((e : List Value) → o ≡ Some e → IsGiven e)

      plain_ends : Comes n E end env e0 w → Ends end.items
      plain_ends (inl h) = (None, h, λ e q. absurd (none_some e q))
      plain_ends (inr (e, h)) =
          let g = h.level in
          let f = h.long in
          (Some e, h.reach, λ d q. subst IsGiven (some_once e d q) (given_met e h.held h.small (omega arith)))

      fresh_ends : 0 < length l.out_sets → Comes n E end env e0 w → Ends (end.items ++ (let_item (fresh_code l end.names) ∷ []))
      fresh_ends some (inl h) = (None, reach_none n end.items (let_item (fresh_code l end.names) ∷ []) e0 h, λ e q. absurd (none_some e q))
      fresh_ends some (inr (e, h)) =
          let s = (fresh_is e h.held h.early some).1 in
          let e1 = e ++ (elements s.set ∷ []) in
          let h1 = set_at n E end (fresh_code l end.names) env e0 e w s.set h s.gives s.peak s.kind in
          let g = h.level in
          let f = h.long in
          (Some e1, h1.reach, λ d q. subst IsGiven (some_once e1 d q) (given_met e1 h1.held h1.small (omega arith)))

      pub tuple_ends : Ends (with_fresh l end)
      tuple_ends = on_bool (nat_lt 0 (length l.out_sets)) (λ t. rw t (fresh_ends (ltb-true 0 (length l.out_sets) t) end_comes))
          (λ t. rw t (plain_ends end_comes))

    pub set_arm_met : IsFinePath n (AreNear n l env) (arm_path (arm l a) env)
    unfolding arm
    set_arm_met = arm_fine n (AreNear n l env) bounds (with_fresh l end) (codes_of (gives l a end)) env (λ i h.
        let below = (tuples_numbered bounds).below i h in
        (tuple_small (tuple_at bounds i) below, tuple_ends (tuple_at bounds i) below))
