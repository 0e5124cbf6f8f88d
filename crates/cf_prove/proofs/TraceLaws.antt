-- The steps of a trace that ends solved are followed, and make what the trace makes.
use Rattle.std.proofs.Common.{◌≡◌, ◌≢◌, ℕ, zero, suc, ◌+◌, ◌-◌, ◌*◌, ◌^◌, ◌<◌, ◌≤◌, ◌/◌, ℤ, pos, negsuc, neg_ℤ, ◌+ℤ◌, ◌-ℤ◌, ◌*ℤ◌, List, [], ◌∷◌, ◌++◌}
use Rattle.std.proofs.Common.{length, take, drop, map, Bool, true, false, not, ◌||◌, Option, Some, None, Ok, Err, refl, sym, ◌∙◌, ap, arith}
use Rattle.std.proofs.Common.{subst, inl, inr, ⊎_elim, append_assoc}
use Rattle.std.specs.Prelude.{nat_lt, unsigned_abs, ◌<ℤ◌, slice_get}
use Rattle.std.specs.Int.{int_div_euclid}
use Rattle.std.specs.List.{list_any, fold}
use Rattle.std.proofs.lemmas.Int.{ints, unsigned_abs-mul}
use Rattle.std.proofs.lemmas.Bool.{ltb-false, ne_eqb, eq-eqb}
use Rattle.std.proofs.lemmas.List.{append-nil}
use Rattle.std.proofs.lemmas.Nat.{mul-le}
use Rattle.std.proofs.Math.Nat.{mul-div_cancel'}
use Rattle.cf_num.specs.Limit.{IsWithin}
use Rattle.cf_num.specs.Parts.{parts_of}
use Rattle.cf_num.proofs.DivisorLemmas.{parts_of-is}
use Rattle.cf_num.proofs.Ring.{ring}
use Rattle.cf_linear.specs.Relations.{Divides}
use Rattle.cf_tree.specs.declared.base.Base.{Base}
use Rattle.cf_tree.specs.CodeTree.{arms_of, code_solve}
use Rattle.cf_tree.specs.RelTree.{RelTree}
use Rattle.cf_linear.specs.Arm.{arm}
use Rattle.cf_linear.specs.Cases.{negation_normal, first_systems, written_passes}
use Rattle.cf_linear.specs.Chooses.{made_of, arm_of_case, arms, refusal_of, or_else, first_refused, limit}
use Rattle.cf_linear.specs.Layout.{Layout, layout_of}
use Rattle.cf_linear.specs.declared.refusal.Refusal.{Refusal}
use Rattle.cf_linear.specs.declared.refusal.Refusal.TheVariants.{Past}
use Rattle.cf_linear.specs.Rows.{Row, entry, is_zero, passes, passes_at, comb_passes, subst_row, subst_passes, without}
use Rattle.cf_linear.specs.Systems.{System, EachRow, Answer, no_answer, then_answer, whole}
use Rattle.cf_linear.specs.Keep.{In, Differ}
use Rattle.cf_linear.specs.Steps.{has_column, present, is_unit, two_at, one_at, lowers, uppers, clean, mix, mix_passes, factors_of, merge, merge_passes, last}
use Rattle.cf_linear.specs.Steps.{last_passes, Pick, pick, searched, searched_by, dropped, drop_passes, bound, bound_passes}
use Rattle.cf_linear.specs.Stages.{limits, State, End, solved, refused, run, Taken, ends, goes, stage, first_count, times_bound, clean_stage}
use Rattle.cf_linear.specs.Stages.{equation_stage, row_stage, unknown_stage, bound_stage, Trace, stop, more, first_state}
use Rattle.cf_linear.proofs.BoolLemmas.{on_bool}
use Rattle.cf_linear.proofs.CombLemmas.{entry-without}
use Rattle.cf_linear.proofs.Joining.{passes_somewhere}
use Rattle.cf_linear.proofs.PassingLemmas.{or_false, within_is, within_not}
use Rattle.cf_linear.proofs.RowLemmas.{entry-comb}
use Rattle.cf_equation.proofs.FactorLaws.{exact_quotient, parts_one}
use Rattle.cf_equation.proofs.StepLaws.{Differ-filter, In-present}
use Rattle.cf_bounds.specs.Exact.{IsFree, IsExact, AreExact}
use Rattle.cf_bounds.proofs.BoundLemmas.{searched_exact, searched_free, searched_in}
use Rattle.cf_bounds.proofs.ExactLaws.{pick_in, pick_exact}
use Rattle.cf_bounds.proofs.OwesLemmas.{has-in}
use Rattle.cf_cases.specs.Holding.{EachOf}
use Rattle.cf_cases.proofs.PlacedLaws.{placed-rel}
use Rattle.cf_choose.specs.Eliminations.{case_refusal, later_refusal}
use Rattle.cf_choose.proofs.CaseLemmas.{refused_by_count, refused_later}
use Rattle.cf_cases.proofs.FirstSystemLaws.{IsBegun, first_systems_begun}
use Rattle.cf_elim.specs.Stages.{IsReady, IsEnd, Settled}
use Rattle.cf_elim.proofs.EndLaws.{one_of, count_passed, not_refused, run_is_trace, run_is_short}
use Rattle.cf_elim.proofs.StageEnds.{stage_ends_solved}
use Rattle.cf_elim.proofs.StageLaws.{goes_parts}
use Rattle.cf_elim.proofs.StageOwes.{stage_leads}
use Rattle.cf_elim.specs.declared.act.Act.{Act}
use Rattle.cf_elim.specs.declared.act.Act.TheVariants.{Clean, Mix, Last, Search, Drop}
use Rattle.cf_cert.specs.declared.verdict.Why.TheVariants.{Single}
use Rattle.cf_cert.specs.Applying.{Applied, is_held, has_inexact, determinant, determinant_passes, last_of, last_at, apply}
use Rattle.cf_cert.specs.Certifying.{layout, after_first, is_over, follow, eliminated, AreEliminated}
use Rattle.cf_prove.specs.Laws.{TracedCertifies}
use Rattle.cf_elim.specs.Acts.{equation_acts, bound_acts, unknown_acts, row_acts, acts_at, acts_for, traced}
use Rattle.cf_elim.proofs.ActLaws.{past_acts, clean_acts, ends_acts, goes_acts}

-- ---- steps that follow
-- from each number on, the steps make the answer
Makes : ℕ → System → List Act → Answer → Type 0
Makes n m acts b = (i : ℕ) → follow limits i n m acts ≡ Ok b

-- the steps lead from one system to another, and make the answer on the way
Carries : List Act → ℕ → System → ℕ → System → Answer → Type 0
Carries acts n m n' m' a = (rest : List Act) (b : Answer) → Makes n' m' rest b → Makes n m (acts ++ rest) (then_answer a b)

follow_step : (i n : ℕ) (m : System) (act : Act) (rest : List Act) (a : Answer) → apply limits n m act ≡ Ok a →
    follow limits i n m (act ∷ rest) ≡ after_first a (follow limits (i + 1) (fold times_bound n a.bounds) a.system rest)
unfolding follow
follow_step i n m act rest a h = rw (h, follow) refl

one_step : (n : ℕ) (m : System) (act : Act) (a : Answer) → apply limits n m act ≡ Ok a → Carries (act ∷ []) n m (fold times_bound n a.bounds) a.system a
unfolding Carries Makes
one_step n m act a h rest b k i = follow_step i n m act rest a h ∙ ap (after_first a) (k (i + 1))

no_step : (n : ℕ) (m : System) → Carries [] n m n m (no_answer m)
unfolding Carries Makes
no_step n m rest b k i = k i ∙ ap (λ (x : Answer). Ok x) (bare b)
  where
    bare : (b : Answer) → b ≡ then_answer (no_answer m) b
    bare b = rw (append-nil b.back) refl

two_steps : (xs ys : List Act) (n1 n2 n3 : ℕ) (m1 m2 m3 : System) (a b : Answer) → Carries xs n1 m1 n2 m2 a → Carries ys n2 m2 n3 m3 b →
    Carries (xs ++ ys) n1 m1 n3 m3 (then_answer a b)
unfolding Carries Makes
two_steps xs ys n1 n2 n3 m1 m2 m3 a b h k rest c l i =
    ap (λ z. follow limits i n1 m1 z) (append_assoc xs ys rest) ∙ h (ys ++ rest) (then_answer b c) (k rest c l) i ∙ ap (λ (x : Answer). Ok x) (assoc a b c)
  where
    assoc : (a b c : Answer) → then_answer a (then_answer b c) ≡ then_answer (then_answer a b) c
    assoc a b c = rw (append_assoc a.steps b.steps c.steps, append_assoc c.back b.back a.back, append_assoc a.bounds b.bounds c.bounds) refl

-- ---- tests that pass
column_has : (us : List ℕ) (c : ℕ) → In c us → has_column us c ≡ true
column_has us c i = has-in c us i

none_any : (p : Row → Bool) (rows : List Row) → EachRow (λ r. p r ≡ false) rows → list_any p rows ≡ false
none_any p [] h = refl
none_any p (r ∷ rows) h = rw (h.0, none_any p rows h.1) refl

free_unheld : (m : System) (x : ℕ) → IsFree x m.equations → is_held m x ≡ false
free_unheld m x f = none_any (λ r. not (is_zero (entry r x))) m.equations (each m.equations f)
  where
    each : (rows : List Row) → IsFree x rows → EachRow (λ r. not (is_zero (entry r x)) ≡ false) rows
    each [] f = tt
    each (r ∷ rows) f = (rw f.0 refl, each rows f.1)

one_unit : (k : ℤ) → k ≡ pos 1 → is_unit k ≡ true
one_unit k e = rw e refl

minus_unit : (k : ℤ) → neg_ℤ k ≡ pos 1 → is_unit k ≡ true
minus_unit k e = let q : k ≡ negsuc 0 = omega (arith, ints) in rw q refl

pair_exact : (x : ℕ) (l u : Row) → IsExact x l u → not (is_unit (entry l x) || is_unit (entry u x)) ≡ false
pair_exact x l u (inl e) = rw (one_unit (entry l x) e) refl
pair_exact x l u (inr e) = on_bool (is_unit (entry l x)) (λ t. rw t refl) (λ t. rw (t, minus_unit (entry u x) e) refl)

exact_not : (m : System) (x : ℕ) → AreExact x m.inequalities → has_inexact m.inequalities x ≡ false
exact_not m x h = outer (lowers x m.inequalities) h
  where
    inner : (l : Row) (high : List Row) → EachRow (IsExact x l) high → list_any (λ u. not (is_unit (entry l x) || is_unit (entry u x))) high ≡ false
    inner l [] h = refl
    inner l (u ∷ high) h = rw (pair_exact x l u h.0, inner l high h.1) refl

    outer : (low : List Row) → EachRow (λ l. EachRow (IsExact x l) (uppers x m.inequalities)) low →
        list_any (λ l. list_any (λ u. not (is_unit (entry l x) || is_unit (entry u x))) (uppers x m.inequalities)) low ≡ false
    outer [] h = refl
    outer (l ∷ low) h = rw (inner l (uppers x m.inequalities) h.0, outer low h.1) refl

-- ---- a Bound step
drop_applies : (n : ℕ) (m : System) (x : ℕ) → In x m.unknown → IsFree x m.equations → AreExact x m.inequalities →
    first_count limits (dropped m x).system ≡ None → drop_passes m x ≡ false →
    apply limits n m (Drop x) ≡ Ok (dropped m x)
unfolding apply
drop_applies n m x i f e c p = rw (column_has m.unknown x i, free_unheld m x f, exact_not m x e, c, p) refl

search_applies : (n : ℕ) (m : System) (x : ℕ) (lower : Bool) → In x m.unknown → IsFree x m.equations →
    nat_lt limits.search (fold times_bound n (searched m x lower).bounds) ≡ false →
    apply limits n m (Search x lower) ≡ Ok (searched m x lower)
unfolding apply
search_applies n m x lower i f l = rw (column_has m.unknown x i, free_unheld m x f, l) refl

dropped_tuples : (n : ℕ) (m : System) (x : ℕ) → fold times_bound n (dropped m x).bounds ≡ n
unfolding dropped
dropped_tuples n m x = refl

drop_carries : (n : ℕ) (m : System) (x : ℕ) → In x m.unknown → IsFree x m.equations → AreExact x m.inequalities →
    first_count limits (dropped m x).system ≡ None → drop_passes m x ≡ false →
    Carries (Drop x ∷ []) n m n (dropped m x).system (dropped m x)
drop_carries n m x i f e c p =
    subst (λ k. Carries (Drop x ∷ []) n m k (dropped m x).system (dropped m x)) (dropped_tuples n m x) (one_step n m (Drop x) (dropped m x)
    (drop_applies n m x i f e c p))

-- a pick whose search is real, and one without a search
bound_carries : (n : ℕ) (m : System) (c : Pick) → IsReady m → In c.unknown m.unknown → m.equations ≡ [] → (c.product ≤ 1 → AreExact c.unknown m.inequalities) →
    nat_lt limits.search (fold times_bound n (searched_by m c).bounds) ≡ false → first_count limits (bound m c).system ≡ None → bound_passes m c ≡ false →
    Carries (bound_acts c) n m (fold times_bound n (searched_by m c).bounds) (bound m c).system (bound m c)
unfolding bound bound_passes searched_by
bound_carries n m c r i q x l k p = on_bool (nat_lt 1 c.product)
    (λ t.
    let free : IsFree c.unknown m.equations = subst (λ rows. IsFree c.unknown rows) (sym q) tt in
    let s = searched m c.unknown c.lower in
    let l' : nat_lt limits.search (fold times_bound n s.bounds) ≡ false = rw t at l in
    let k' : first_count limits (dropped s.system c.unknown).system ≡ None = rw t at k in
    let p' : drop_passes s.system c.unknown ≡ false = rw t at p in
    rw t (two_steps (Search c.unknown c.lower ∷ []) (Drop c.unknown ∷ []) n (fold times_bound n s.bounds) (fold times_bound n s.bounds) m s.system
    (dropped s.system c.unknown).system s (dropped s.system c.unknown)
    (one_step n m (Search c.unknown c.lower) s (search_applies n m c.unknown c.lower i free l'))
    (drop_carries (fold times_bound n s.bounds) s.system c.unknown (searched_in m c.unknown c.lower i) (searched_free m c.unknown c.lower r.formed i free)
    (searched_exact m c.unknown c.lower r.formed i) k' p')))
    (λ t.
    let free : IsFree c.unknown m.equations = subst (λ rows. IsFree c.unknown rows) (sym q) tt in
    let k' : first_count limits (dropped m c.unknown).system ≡ None = rw t at k in
    let p' : drop_passes m c.unknown ≡ false = rw t at p in
    let none : Answer = record { system = m; steps = []; back = []; bounds = [] } in
    rw t (two_steps [] (Drop c.unknown ∷ []) n n n m m (dropped m c.unknown).system none (dropped m c.unknown) (no_step n m)
    (drop_carries n m c.unknown i free (x (ltb-false 1 c.product t)) k' p')))

-- ---- a Merge
-- a factor of a number within the limit
smaller : (k z : ℤ) → k ≢ pos 0 → passes (k *ℤ z) ≡ false → IsWithin z
smaller k z n h =
    let w : unsigned_abs (k *ℤ z) ≤ 2 ^ 127 - 1 = within_is (k *ℤ z) h in
    let e = unsigned_abs-mul k z in
    let s : 1 ≤ unsigned_abs k = some k n in
    let m = mul-le 1 (unsigned_abs z) (unsigned_abs k) (unsigned_abs z) s (omega arith) in
    omega (arith, w, e, m)
  where
    some : (k : ℤ) → k ≢ pos 0 → 1 ≤ unsigned_abs k
    some (pos zero) n = absurd (n refl)
    some (pos (suc k)) n = omega arith
    some (negsuc k) n = omega arith

second_product : (a b c : Bool) → (a || b || c) ≡ false → b ≡ false
second_product true b c e = cc
second_product false true c e = cc
second_product false false c e = refl

not_at : (a : ℤ) (r : Row) (b : ℤ) (s : Row) (c : ℕ) → comb_passes a r b s ≡ false → passes (b *ℤ entry s c) ≡ false
not_at a r b s c h =
    second_product (passes (a *ℤ entry r c)) (passes (b *ℤ entry s c)) (passes (a *ℤ entry r c +ℤ b *ℤ entry s c))
    (on_bool (passes_at a r b s c) (λ t. let e : true ≡ false = sym (passes_somewhere a r b s c t) ∙ h in cc) (λ t. t))

two_left : (a : ℤ) (u : ℕ) (b : ℤ) → entry (two_at a u b (u + 1)) u ≡ a
two_left a u b = entry-comb u a (one_at u) b (one_at (u + 1))
    ∙ rw (eq-eqb u u refl, ne_eqb (u + 1) u (λ q. absurd (omega arith))) (simp ring (omega (arith, ints)))

two_low : (a : ℤ) (u : ℕ) (b : ℤ) (c : ℕ) → c < u → entry (two_at a u b (u + 1)) c ≡ pos 0
two_low a u b c l = entry-comb c a (one_at u) b (one_at (u + 1))
    ∙ rw (ne_eqb u c (λ q. absurd (omega arith)), ne_eqb (u + 1) c (λ q. absurd (omega arith))) (omega (arith, ints))

-- the entry at x stays where y gives way to new columns
half_entry : (e : Row) (x y u : ℕ) (c d : ℤ) → x < u → x ≢ y → entry (subst_row y (two_at c u d (u + 1)) e) x ≡ entry e x
half_entry e x y u c d l n =
    entry-comb x (pos 1) (without y e) (entry e y) (two_at c u d (u + 1))
    ∙ rw (entry-without y x e, ne_eqb y x (λ q. n (sym q)), two_low c u d x l) (simp ring (omega (arith, ints)))

-- the products of the factors with the coefficients do not pass
record Products (m : System) (e : Row) (x y : ℕ) (a b c d : ℤ) : Type 0 where
  first : passes (entry e x *ℤ a) ≡ false
  second : passes (entry e y *ℤ c) ≡ false

products : (m : System) (e : Row) (rest : List Row) (x y : ℕ) (a b c d : ℤ) → m.equations ≡ e ∷ rest → x < m.next → x ≢ y →
    mix_passes m x y a b c d ≡ false → Products m e x y a b c d
products m e rest x y a b c d q l n p =
    let u = m.next in
    let both : Row → Bool = λ r. subst_passes y (two_at c u d (u + 1)) r || subst_passes x (two_at a u b (u + 1)) (subst_row y (two_at c u d (u + 1)) r) in
    let p' : list_any both ((e ∷ rest) ++ m.inequalities) ≡ false = subst (λ rows. list_any both (rows ++ m.inequalities) ≡ false) q p in
    let h = or_false (both e) (list_any both (rest ++ m.inequalities)) p' in
    let k = or_false (subst_passes y (two_at c u d (u + 1)) e) (subst_passes x (two_at a u b (u + 1)) (subst_row y (two_at c u d (u + 1)) e)) h.0 in
    let f = not_at (pos 1) (without y e) (entry e y) (two_at c u d (u + 1)) u k.0 in
    let half = subst_row y (two_at c u d (u + 1)) e in
    let g = not_at (pos 1) (without x half) (entry half x) (two_at a u b (u + 1)) u k.1 in
    record {
      first = subst (λ z. passes (z *ℤ a) ≡ false) (half_entry e x y u c d l n) (subst (λ z. passes (entry half x *ℤ z) ≡ false) (two_left a u b) g);
      second = subst (λ z. passes (entry e y *ℤ z) ≡ false) (two_left c u d) f;
    }

abs_divides : (g : ℕ) (a : ℤ) (y : ℕ) → g * y ≡ unsigned_abs a → Divides (pos g) a
abs_divides g (pos n) y e = (pos y, ap pos (sym e))
abs_divides g (negsuc n) y e = (neg_ℤ (pos y), let i : pos (suc n) ≡ pos g *ℤ pos y = ap pos (sym e) in simp ring (omega (arith, ints)))

divides_from : (g a : ℤ) → pos 0 <ℤ g → unsigned_abs g * (unsigned_abs a / unsigned_abs g) ≡ unsigned_abs a → Divides g a
divides_from (pos n) a h e = abs_divides n a (unsigned_abs a / n) e
divides_from (negsuc n) a h e = absurd (omega (arith, ints))

times_first : (a g s x : ℤ) → g *ℤ x ≡ a → a *ℤ s ≡ g *ℤ (s *ℤ x)
times_first a g s x e = let k = simp ring at (ap (λ z. z *ℤ s) e) in omega (arith, ints)

times_second : (b g t y : ℤ) → g *ℤ y ≡ b → b *ℤ t ≡ g *ℤ neg_ℤ (neg_ℤ y *ℤ t)
times_second b g t y e = let k = simp ring at (ap (λ z. z *ℤ t) e) in simp ring (omega (arith, ints))

determinant_one : (s x t y : ℤ) → s *ℤ x +ℤ t *ℤ y ≡ pos 1 → s *ℤ x -ℤ neg_ℤ y *ℤ t ≡ pos 1
determinant_one s x t y e = simp ring (omega (arith, ints, e))

not_zero : (g : ℤ) → pos 0 <ℤ g → g ≢ pos 0
not_zero g h e = absurd (omega (arith, ints, e))

-- the determinant of a Merge is 1, and its products are within the limit where those of the rows are
record MergeFits (a b : ℤ) : Type 0 where
  unit : is_unit (determinant (factors_of a b).s (factors_of a b).m (factors_of a b).t (factors_of a b).n) ≡ true
  fits : determinant_passes (factors_of a b).s (factors_of a b).m (factors_of a b).t (factors_of a b).n ≡ false

merge_fits : (a b : ℤ) → a ≢ pos 0 → b ≢ pos 0 → passes (a *ℤ (factors_of a b).s) ≡ false → passes (b *ℤ (factors_of a b).t) ≡ false → MergeFits a b
unfolding factors_of
merge_fits a b ha hb pa pb =
    let p = parts_of a b in
    let is = parts_of-is a b ha hb in
    let g = p.g in
    let x = int_div_euclid a g in
    let y = int_div_euclid b g in
    let ea = exact_quotient a g is.positive (divides_from g a is.positive (mul-div_cancel' (unsigned_abs g) is.divisor.0)) in
    let eb = exact_quotient b g is.positive (divides_from g b is.positive (mul-div_cancel' (unsigned_abs g) is.divisor.1)) in
    let one = parts_one a b ha hb in
    let ia = times_first a g p.s x ea in
    let ib = times_second b g p.t y eb in
    let wx : IsWithin (p.s *ℤ x) = smaller g (p.s *ℤ x) (not_zero g is.positive) (subst (λ z. passes z ≡ false) ia pa) in
    let wy : IsWithin (neg_ℤ (neg_ℤ y *ℤ p.t)) = smaller g (neg_ℤ (neg_ℤ y *ℤ p.t)) (not_zero g is.positive) (subst (λ z. passes z ≡ false) ib pb) in
    let det = determinant_one p.s x p.t y one in
    record {
      unit = rw det refl;
      fits = rw (within_not (p.s *ℤ x) wx, within_not (neg_ℤ y *ℤ p.t) (turned (neg_ℤ y *ℤ p.t) wy), det) refl;
    }
  where
    turned : (z : ℤ) → IsWithin (neg_ℤ z) → IsWithin z
    turned (pos zero) h = h
    turned (pos (suc n)) h = h
    turned (negsuc n) h = h

mix_tuples : (n : ℕ) (m : System) (x y : ℕ) (a b c d : ℤ) → fold times_bound n (mix m x y a b c d).bounds ≡ n
unfolding mix
mix_tuples n m x y a b c d = refl

mix_applies : (n : ℕ) (m : System) (x y : ℕ) (a b c d : ℤ) → In x m.unknown → In y m.unknown → x ≢ y → determinant_passes a b c d ≡ false →
    is_unit (determinant a b c d) ≡ true → mix_passes m x y a b c d ≡ false →
    apply limits n m (Mix x y a b c d) ≡ Ok (mix m x y a b c d)
unfolding apply
mix_applies n m x y a b c d ix iy apart f u p = rw (column_has m.unknown x ix, column_has m.unknown y iy, ne_eqb x y apart, f, u, p) refl

mix_carries : (n : ℕ) (m : System) (x y : ℕ) (a b c d : ℤ) → In x m.unknown → In y m.unknown → x ≢ y → determinant_passes a b c d ≡ false →
    is_unit (determinant a b c d) ≡ true → mix_passes m x y a b c d ≡ false →
    Carries (Mix x y a b c d ∷ []) n m n (mix m x y a b c d).system (mix m x y a b c d)
mix_carries n m x y a b c d ix iy apart f u p =
    subst (λ k. Carries (Mix x y a b c d ∷ []) n m k (mix m x y a b c d).system (mix m x y a b c d)) (mix_tuples n m x y a b c d)
    (one_step n m (Mix x y a b c d) (mix m x y a b c d) (mix_applies n m x y a b c d ix iy apart f u p))

merge_carries : (n : ℕ) (m : System) (e : Row) (rest : List Row) (x y : ℕ) → m.equations ≡ e ∷ rest → IsReady m → In x m.unknown → In y m.unknown →
    x ≢ y → entry e x ≢ pos 0 → entry e y ≢ pos 0 →
    merge_passes m e x y ≡ false →
    Carries (Mix x y (factors_of (entry e x) (entry e y)).s (factors_of (entry e x) (entry e y)).m (factors_of (entry e x) (entry e y)).t (factors_of
    (entry e x) (entry e y)).n ∷ []) n m n
    (merge m e x y).system (merge m e x y)
unfolding merge merge_passes
merge_carries n m e rest x y q r ix iy apart ex ey p =
    let f = factors_of (entry e x) (entry e y) in
    let h = products m e rest x y f.s f.m f.t f.n q (r.formed.unknown_below x ix) apart p in
    let k = merge_fits (entry e x) (entry e y) ex ey h.first h.second in
    mix_carries n m x y f.s f.m f.t f.n ix iy apart k.fits k.unit p

-- ---- the end of the first equation, and Clean
last_tuples : (n : ℕ) (m : System) (e : Row) (rest : List Row) (u : ℕ) → fold times_bound n (last m e rest u).bounds ≡ n
unfolding last
last_tuples n m e rest u = refl

-- the first of these equations is to end
abbrev first_in : System → List Row → Option Row → Applied
first_in m rows None = Err Single
first_in m rows (Some e) = last_of limits m e (take 0 rows ++ drop 1 rows) (present m.unknown e)

same : (m : System) (o : Option Row) → last_at limits m 0 o ≡ first_in m m.equations o
same m None = refl
same m (Some e) = refl

of_one : (m : System) (e : Row) (rest : List Row) (u : ℕ) → first_count limits (last m e rest u).system ≡ None → last_passes m e rest u ≡ false →
    last_of limits m e rest (u ∷ []) ≡ Ok (last m e rest u)
of_one m e rest u c f = rw (c, f) refl

last_applies : (n : ℕ) (m : System) (e : Row) (rest : List Row) (u : ℕ) → m.equations ≡ e ∷ rest → present m.unknown e ≡ u ∷ [] →
    first_count limits (last m e rest u).system ≡ None → last_passes m e rest u ≡ false →
    apply limits n m (Last 0) ≡ Ok (last m e rest u)
unfolding apply
last_applies n m e rest u q p c f =
    same m (slice_get m.equations 0) ∙ ap (λ rows. first_in m rows (slice_get rows 0)) q ∙ ap (last_of limits m e rest) p ∙ of_one m e rest u c f

last_carries : (n : ℕ) (m : System) (e : Row) (rest : List Row) (u : ℕ) → m.equations ≡ e ∷ rest → present m.unknown e ≡ u ∷ [] →
    first_count limits (last m e rest u).system ≡ None → last_passes m e rest u ≡ false →
    Carries (Last 0 ∷ []) n m n (last m e rest u).system (last m e rest u)
last_carries n m e rest u q p c f =
    subst (λ k. Carries (Last 0 ∷ []) n m k (last m e rest u).system (last m e rest u)) (last_tuples n m e rest u) (one_step n m (Last 0) (last m e rest u)
    (last_applies n m e rest u q p c f))

clean_tuples : (n : ℕ) (m : System) → fold times_bound n (clean m).bounds ≡ n
unfolding clean
clean_tuples n m = refl

clean_applies : (n : ℕ) (m : System) → first_count limits (clean m).system ≡ None → apply limits n m Clean ≡ Ok (clean m)
unfolding apply
clean_applies n m c = rw c refl

clean_carries : (n : ℕ) (m : System) → first_count limits (clean m).system ≡ None → Carries (Clean ∷ []) n m n (clean m).system (clean m)
clean_carries n m c = subst (λ k. Carries (Clean ∷ []) n m k (clean m).system (clean m)) (clean_tuples n m) (one_step n m Clean (clean m) (clean_applies n m c))

-- ---- one stage
StageCarries : List Act → State → State → Answer → Type 0
StageCarries acts s t a = Carries acts s.tuples s.system t.tuples t.system a

carries_at : (acts : List Act) (s u t : State) (x a : Taken) → goes u x ≡ goes t a → StageCarries acts s u x.answer → StageCarries acts s t a.answer
carries_at acts s u t x a e h = let q = goes_parts u t x a e in subst (λ (y : Taken). StageCarries acts s t y.answer) q.1 (subst
    (λ y. StageCarries acts s y x.answer) q.0 h)

clean_stage_carries : (s t : State) (a : Taken) → clean_stage limits s ≡ goes t a → StageCarries (Clean ∷ []) s t a.answer
unfolding clean_stage StageCarries
clean_stage_carries s t a e =
    let x = count_passed (first_count limits s.system) _ t a e in
    let y = count_passed (first_count limits (clean s.system).system) _ t a x.1 in
    carries_at (Clean ∷ []) s _ t _ a y.1 (clean_carries s.tuples s.system y.0)

equation_carries : (s t : State) (a : Taken) (e : Row) (rest : List Row) (us : List ℕ) → IsReady s.system → s.system.equations ≡ e ∷ rest →
    present s.system.unknown e ≡ us →
    equation_stage limits s e rest us ≡ goes t a → StageCarries (equation_acts e us) s t a.answer
unfolding equation_stage StageCarries
equation_carries s t a e rest [] r q p g = carries_at [] s _ t _ a g (no_step s.tuples s.system)
equation_carries s t a e rest (u ∷ []) r q p g =
    let x = count_passed (first_count limits (last s.system e rest u).system) _ t a g in
    let y = not_refused (last_passes s.system e rest u) _ _ t a x.1 in
    carries_at (Last 0 ∷ []) s _ t _ a y.1 (last_carries s.tuples s.system e rest u q p x.0 y.0)
equation_carries s t a e rest (u ∷ w ∷ us) r q p g =
    let x = count_passed (first_count limits (merge s.system e u w).system) _ t a g in
    let y = not_refused (merge_passes s.system e u w) _ _ t a x.1 in
    let iu = In-present u s.system.unknown e (subst (λ xs. In u xs) (sym p) (inl refl)) in
    let iw = In-present w s.system.unknown e (subst (λ xs. In w xs) (sym p) (inr (inl refl))) in
    let d : Differ (u ∷ w ∷ us) = subst Differ p (Differ-filter _ s.system.unknown r.differ) in
    let n : u ≢ w = λ k. d.0 (inl k) in
    carries_at (equation_acts e (u ∷ w ∷ us)) s _ t _ a y.1 (merge_carries s.tuples s.system e rest u w q r iu.0 iw.0 n iu.1 iw.1 y.0)

bound_stage_carries : (s t : State) (a : Taken) (c : Pick) → IsReady s.system → In c.unknown s.system.unknown → s.system.equations ≡ [] → (c.product ≤ 1 →
    AreExact c.unknown s.system.inequalities) →
    bound_stage limits s c ≡ goes t a → StageCarries (bound_acts c) s t a.answer
unfolding bound_stage StageCarries
bound_stage_carries s t a c r i q x g =
    let y = not_refused _ _ _ t a g in
    let z = count_passed (first_count limits (bound s.system c).system) _ t a y.1 in
    let w = not_refused (bound_passes s.system c) _ _ t a z.1 in
    carries_at (bound_acts c) s _ t _ a w.1 (bound_carries s.tuples s.system c r i q x y.0 z.0 w.0)

unknown_carries : (s t : State) (a : Taken) (us : List ℕ) → IsReady s.system → s.system.equations ≡ [] → ((c : ℕ) → In c us → In c s.system.unknown) →
    unknown_stage limits s us ≡ goes t a →
    StageCarries (unknown_acts s.system us) s t a.answer
unfolding unknown_stage
unknown_carries s t a [] r q i g = cc
unknown_carries s t a (x ∷ us) r q i g =
    let c = pick s.system.inequalities x us in
    bound_stage_carries s t a c r (i c.unknown (pick_in s.system.inequalities x us)) q (pick_exact s.system.inequalities x us) g

row_carries : (s t : State) (a : Taken) (rows : List Row) → IsReady s.system → s.system.equations ≡ rows → row_stage limits s rows ≡ goes t a →
    StageCarries (row_acts s.system rows) s t a.answer
unfolding row_stage
row_carries s t a [] r q g = unknown_carries s t a s.system.unknown r q (λ w i. i) g
row_carries s t a (e ∷ rest) r q g = equation_carries s t a e rest (present s.system.unknown e) r q refl g

stage_carries : (s t : State) (a : Taken) → IsReady s.system → stage limits s ≡ goes t a → StageCarries (acts_at s) s t a.answer
unfolding stage
stage_carries s t a r g = ⊎_elim
    (λ p. subst (λ acts. StageCarries acts s t a.answer) (sym (past_acts s p.0)) (row_carries s t a s.system.equations r refl p.1))
    (λ p. subst (λ acts. StageCarries acts s t a.answer) (sym (clean_acts s p.0)) (clean_stage_carries s t a p.1)) (one_of s.is_past_clean
    (row_stage limits s s.system.equations) (clean_stage limits s) t a g)

-- ---- the whole trace
over_end : (s : State) → Settled s → IsEnd s (stage limits s) → is_over s.system ≡ true
over_end s h e = rw (e.unknown, e.equations, h e.clean e.equations e.unknown) refl

ends_follow : (i n : ℕ) (m : System) → is_over m ≡ true → follow limits i n m [] ≡ Ok (no_answer m)
unfolding follow
ends_follow i n m o = rw o refl

ends_makes : (s : State) (n : ℕ) → Settled s → stage limits s ≡ ends solved → Makes s.tuples s.system (acts_for (suc n) limits s) (no_answer s.system)
unfolding Makes
ends_makes s n h p i = ap (λ acts. follow limits i s.tuples s.system acts) (ends_acts s n solved p)
    ∙ ends_follow i s.tuples s.system (over_end s h (stage_ends_solved s p))

abbrev whole_of : System → List Taken → Answer
whole_of m taken = whole m (map (λ a. a.answer) taken)

carried : (s t : State) (a : Taken) → StageCarries (acts_at s) s t a.answer → (rest : List Act) (b : Answer) → Makes t.tuples t.system rest b →
    Makes s.tuples s.system (acts_at s ++ rest) (then_answer a.answer b)
unfolding StageCarries Carries
carried s t a c rest b k = c rest b k

trace_makes : (s : State) (taken : List Taken) (e : End) → e ≡ solved → IsReady s.system → Settled s → Trace limits s taken e → (n : ℕ) →
    length taken < n → Makes s.tuples s.system (acts_for n limits s) (whole_of s.system taken)
trace_makes s taken e q r h t zero l = absurd (omega (arith, l))
trace_makes s [] e q r h (stop p) (suc n) l = ends_makes s n h (p ∙ ap (λ x. ends x) q)
trace_makes s (a ∷ taken) e q r h (more {t = t} p k) (suc n) l =
    let y = stage_leads s t a r p in
    let again = trace_makes t taken e q y.ready y.settled k n (omega (arith, l)) in
    let here : Makes t.tuples t.system (acts_for n limits t) (whole_of a.answer.system taken) = subst (λ (m : System). Makes t.tuples t.system
    (acts_for n limits t) (whole_of m taken)) (sym y.here) again in
    subst (λ acts. Makes s.tuples s.system acts (whole_of s.system (a ∷ taken))) (sym (goes_acts s t a n p)) (carried s t a (stage_carries s t a r p)
    (acts_for n limits t) (whole_of a.answer.system taken) here)

counted : (m : System) (t : State) (a : Taken) → stage limits (first_state m) ≡ goes t a → first_count limits m ≡ None
unfolding stage clean_stage
counted m t a p = (count_passed (first_count limits m) _ t a p).0

first_counted : (m : System) (taken : List Taken) (e : End) → e ≡ solved → Trace limits (first_state m) taken e → first_count limits m ≡ None
first_counted m [] e q (stop p) = let z = (stage_ends_solved (first_state m) (p ∙ ap (λ x. ends x) q)).clean in cc
first_counted m (a ∷ taken) e q (more {t = t} p k) = counted m t a p

pub traced_eliminates : (m : System) → IsReady m → (run limits m).end ≡ solved → eliminated limits m (traced limits m) ≡ Ok (made_of m (run limits m))
unfolding eliminated traced Makes
traced_eliminates m r e =
    let t : Trace limits (first_state m) (run limits m).taken solved = subst (λ x. Trace limits (first_state m) (run limits m).taken x) e (run_is_trace m r) in
    let c = first_counted m (run limits m).taken solved refl t in
    let short = run_is_short m r in
    rw c (trace_makes (first_state m) (run limits m).taken solved refl r (λ z. cc) t (2 ^ 64) short 1)

-- ---- a whole choose
each_traced : (ms : List System) → EachOf IsBegun ms → EachOf (λ m. (run limits m).end ≡ solved) ms →
    AreEliminated limits ms (map (traced limits) ms) (map (λ m. made_of m (run limits m)) ms)
each_traced [] b e = tt
each_traced (m ∷ ms) b e = (traced_eliminates m (record { formed = b.0.0; differ = b.0.1 }) e.0, each_traced ms b.1 e.1)

end_solved : (e : End) (o : Option Refusal) → or_else (refusal_of e) o ≡ None → (e ≡ solved) × (o ≡ None)
end_solved solved o h = (refl, h)
end_solved (refused r) o h = cc

pub ends_solved : (ms : List System) → first_refused limits ms ≡ None → EachOf (λ m. (run limits m).end ≡ solved) ms
unfolding first_refused
ends_solved [] h = tt
ends_solved (m ∷ ms) h = let e = end_solved (run limits m).end (first_refused limits ms) h in (e.0, ends_solved ms e.1)

-- what no limit says of the counts, of the written rows, and of the eliminations
pub record NoneRefused (l : Layout) (rel : RelTree) : Type 0 where
  pub counts : case_refusal l rel ≡ None
  pub written : written_passes l (negation_normal true rel) ≡ false
  pub ends : first_refused limits (first_systems l rel) ≡ None

later_none : (l : Layout) (rel : RelTree) → case_refusal l rel ≡ None → later_refusal l rel ≡ None → NoneRefused l rel
later_none l rel c e = on_bool (written_passes l (negation_normal true rel))
    (λ t. let k : Some Past ≡ None = rw t at e in cc)
    (λ t. record { counts = c; written = t; ends = rw t at e })

pub none_refused : (scope outputs : List Base) (rel : RelTree) → limit scope outputs rel ≡ None → NoneRefused (layout_of scope outputs rel) rel
none_refused scope outputs rel e = by (case_refusal (layout_of scope outputs rel) rel) refl
  where
    by : (o : Option Refusal) → case_refusal (layout_of scope outputs rel) rel ≡ o → NoneRefused (layout_of scope outputs rel) rel
    by (Some r) c = let k : Some r ≡ None = sym (refused_by_count scope outputs rel (layout_of scope outputs rel) r refl c) ∙ e in cc
    by None c = later_none (layout_of scope outputs rel) rel c (sym (refused_later scope outputs rel (layout_of scope outputs rel) refl c) ∙ e)

arms_are : (l : Layout) (ms : List System) → map (arm_of_case limits l) ms ≡ map (arm l) (map (λ m. made_of m (run limits m)) ms)
arms_are l [] = refl
arms_are l (m ∷ ms) = ap (λ ts. arm_of_case limits l m ∷ ts) (arms_are l ms)

pub traced_certifies : TracedCertifies
unfolding arms
traced_certifies q u =
    let l = layout q in
    let n = none_refused q.scope q.outputs q.relation u.within in
    let ms = first_systems l q.relation in
    record {
      number = refl;
      counts = n.counts;
      written = n.written;
      answers = map (λ m. made_of m (run limits m)) ms;
      cases = each_traced ms (first_systems_begun l q.relation (placed-rel q.scope q.outputs q.relation u.typed u.linear)) (ends_solved ms n.ends);
      target = ap (λ ts. record { params = q.scope; results = q.outputs; code = code_solve q.number (arms_of ts) }) (arms_are l ms);
    }
