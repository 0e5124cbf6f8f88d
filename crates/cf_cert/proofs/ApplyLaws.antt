-- What a step that applies owes.
use Rattle.std.proofs.Common.{◌≡◌, ◌≢◌, ℕ, suc, ◌+◌, ◌≤◌, ◌==◌, ℤ, pos, negsuc, neg_ℤ, List, [], ◌∷◌, ◌++◌, take, drop, Bool, true, false, not, ◌&&◌}
use Rattle.std.proofs.Common.{◌||◌, Option, Some, None, Ok, All, refl, sym, ap, arith, subst, inl, inr}
use Rattle.std.specs.Prelude.{slice_get, nat_lt, int_lt, ◌<ℤ◌}
use Rattle.std.specs.List.{list_any, fold}
use Rattle.std.proofs.lemmas.Int.{ints}
use Rattle.std.proofs.lemmas.Bool.{eqb-true, eqb-false, ltb-false}
use Rattle.std.proofs.lemmas.List.Elements.{All-nil}
use Rattle.cf_num.specs.Limit.{IsWithin}
use Rattle.cf_linear.specs.declared.refusal.Refusal.{Refusal}
use Rattle.cf_linear.specs.declared.refusal.Refusal.TheVariants.{Past}
use Rattle.cf_linear.specs.Rows.{Row, entry, is_zero}
use Rattle.cf_linear.specs.Systems.{System, EachRow, Answer}
use Rattle.cf_linear.specs.Steps.{has_column, present, is_unit, is_positive, lowers, uppers, two_at, clean, mix, mix_passes, last, last_passes, searched}
use Rattle.cf_linear.specs.Steps.{dropped, drop_passes}
use Rattle.cf_linear.specs.Stages.{limits, first_count, times_bound}
use Rattle.cf_linear.specs.Keep.{In}
use Rattle.cf_linear.specs.Solved.{Owes}
use Rattle.cf_linear.proofs.BoolLemmas.{on_bool}
use Rattle.cf_linear.proofs.RowLemmas.{zero_from_is_zero}
use Rattle.cf_linear.proofs.KindLemmas.{EachRow-with, EachRow-tested}
use Rattle.cf_linear.proofs.FormedLemmas.{kinds_from}
use Rattle.cf_linear.proofs.PassingLemmas.{or_false}
use Rattle.cf_equation.proofs.MergeLaws.{mix_formed, mix_differs}
use Rattle.cf_equation.proofs.StepLaws.{In-present, last_differs}
use Rattle.cf_bounds.specs.Exact.{IsFree, IsExact, AreExact}
use Rattle.cf_bounds.proofs.BoundLemmas.{searched_step}
use Rattle.cf_linear.proofs.SideLemmas.{positive_so, negative_so}
use Rattle.cf_bounds.proofs.FormedAgain.{dropped_formed}
use Rattle.cf_bounds.proofs.OwesLemmas.{clean_step, dropped_step}
use Rattle.cf_bounds.proofs.SearchFormed.{searched_formed}
use Rattle.cf_elim.specs.Returning.{Returns}
use Rattle.cf_elim.specs.Stages.{IsReady}
use Rattle.cf_elim.proofs.BoundLaws.{searched_differs, dropped_differs}
use Rattle.cf_elim.proofs.EndLaws.{clean_ready}
use Rattle.cf_elim.proofs.SearchLaws.{IsSome, bounds_of, searched_some}
use Rattle.cf_elim.proofs.SmallRows.{any_parts, all_mixed_small, two_small}
use Rattle.cf_elim.proofs.StageSmall.{RowsSmall, AnswerSmall, clean_small, last_small, searched_small, dropped_small}
use Rattle.cf_elim.proofs.StepReturns.{some_unknown, returns_clean, returns_last, returns_mix, returns_searched, returns_dropped}
use Rattle.cf_elim.specs.declared.act.Act.{Act}
use Rattle.cf_elim.specs.declared.act.Act.TheVariants.{Clean, Mix, Last, Search as SearchAct, Drop}
use Rattle.cf_cert.specs.declared.verdict.Why.{Why}
use Rattle.cf_cert.specs.declared.verdict.Why.TheVariants.{Unknown, Factor, Held, Exact, Refused}
use Rattle.cf_cert.specs.Applying.{IsWithinAct, Applied, rejected_if, refused_by, is_held, has_inexact, determinant, determinant_passes, last_of, last_at, apply}
use Rattle.cf_cert.proofs.LastLaws.{over_at, rows_front, last_front, last_at_owes, last_at_formed, front}
use Rattle.cf_cert.proofs.MixLaws.{mixed_owes}

-- ---- tests that were passed
pub not_rejected : (b : Bool) (w : Why) (x : Applied) (a : Answer) → rejected_if b w x ≡ Ok a → (b ≡ false) × (x ≡ Ok a)
not_rejected true w x a e = cc
not_rejected false w x a e = (refl, e)

pub not_refused : (o : Option Refusal) (x : Applied) (a : Answer) → refused_by o x ≡ Ok a → (o ≡ None) × (x ≡ Ok a)
not_refused (Some r) x a e = cc
not_refused None x a e = (refl, e)

same_ok : (x a : Answer) → ◌≡◌ {A = Applied} (Ok x) (Ok a) → x ≡ a
same_ok x a e = cc

pub is_true : (b : Bool) → not b ≡ false → b ≡ true
is_true true e = refl
is_true false e = cc

both_true : (b c : Bool) → (b && c) ≡ true → (b ≡ true) × (c ≡ true)
both_true true c e = (refl, e)
both_true false c e = cc

-- ---- what the tests say
pub column_in : (us : List ℕ) (c : ℕ) → has_column us c ≡ true → In c us
column_in [] c e = cc
column_in (u ∷ us) c e = on_bool (u == c) (λ t. inl (sym (eqb-true u c t))) (λ t. inr (column_in us c (rw t at e)))

not_any : (p : Row → Bool) (rows : List Row) → list_any p rows ≡ false → EachRow (λ r. p r ≡ false) rows
not_any p [] e = tt
not_any p (r ∷ rows) e = let h = or_false (p r) (list_any p rows) e in (h.0, not_any p rows h.1)

pub free_from : (m : System) (x : ℕ) → is_held m x ≡ false → IsFree x m.equations
free_from m x e =
    EachRow-with (λ r. not (is_zero (entry r x)) ≡ false) (λ r. not (is_zero (entry r x)) ≡ false) (λ r. entry r x ≡ pos 0)
    (λ r h k. zero_from_is_zero (entry r x) (is_true (is_zero (entry r x)) h)) m.equations
    (not_any (λ r. not (is_zero (entry r x))) m.equations e) (not_any (λ r. not (is_zero (entry r x))) m.equations e)

positive_one : (k : ℤ) → pos 0 <ℤ k → is_unit k ≡ true → k ≡ pos 1
positive_one (pos n) h e = ap pos (eqb-true n 1 e)
positive_one (negsuc n) h e = absurd (omega (arith, ints))

negative_one : (k : ℤ) → k <ℤ pos 0 → is_unit k ≡ true → neg_ℤ k ≡ pos 1
negative_one (pos n) h e = absurd (omega (arith, ints))
negative_one (negsuc n) h e = let q : n ≡ 0 = let k = eqb-true (suc n) 1 e in omega arith in rw q refl

exact_pair : (x : ℕ) (l u : Row) → pos 0 <ℤ entry l x → entry u x <ℤ pos 0 → not (is_unit (entry l x) || is_unit (entry u x)) ≡ false → IsExact x l u
exact_pair x l u hl hu e = on_bool (is_unit (entry l x))
    (λ t. inl (positive_one (entry l x) hl t))
    (λ t. let k : not (is_unit (entry u x)) ≡ false = rw t at e in inr (negative_one (entry u x) hu (is_true (is_unit (entry u x)) k)))

pub exact_from : (m : System) (x : ℕ) → has_inexact m.inequalities x ≡ false → AreExact x m.inequalities
exact_from m x e =
    let low = lowers x m.inequalities in
    let high = uppers x m.inequalities in
    let hl = EachRow-tested (λ r. pos 0 <ℤ entry r x) (λ r. is_positive (entry r x)) (λ r t. positive_so (entry r x) t) m.inequalities in
    let hu = EachRow-tested (λ r. entry r x <ℤ pos 0) (λ r. int_lt (entry r x) (pos 0)) (λ r t. negative_so (entry r x) t) m.inequalities in
    EachRow-with (λ r. pos 0 <ℤ entry r x) (λ l. list_any (λ u. not (is_unit (entry l x) || is_unit (entry u x))) high ≡
    false) (λ l. EachRow (IsExact x l) high)
    (λ l p q. EachRow-with (λ r. entry r x <ℤ pos 0) (λ u. not (is_unit (entry l x) || is_unit (entry u x)) ≡ false) (IsExact x l)
    (λ u s t. exact_pair x l u p s t) high hu (not_any (λ u. not (is_unit (entry l x) || is_unit (entry u x))) high q))
    low hl (not_any (λ l. list_any (λ u. not (is_unit (entry l x) || is_unit (entry u x))) high) low e)

-- ---- what is told where a step applies
clean_says : (n : ℕ) (m : System) (t : Answer) → apply limits n m Clean ≡ Ok t → clean m ≡ t
unfolding apply
clean_says n m t e = let q = not_refused (first_count limits (clean m).system) _ t e in same_ok (clean m) t q.1

record IsMixed (m : System) (x y : ℕ) (a b c d : ℤ) (t : Answer) : Type 0 where
  first : In x m.unknown
  second : In y m.unknown
  apart : x ≢ y
  unit : is_unit (determinant a b c d) ≡ true
  fits : mix_passes m x y a b c d ≡ false
  is : mix m x y a b c d ≡ t

mix_says : (n : ℕ) (m : System) (x y : ℕ) (a b c d : ℤ) (t : Answer) → apply limits n m (Mix x y a b c d) ≡ Ok t → IsMixed m x y a b c d t
unfolding apply
mix_says n m x y a b c d t e =
    let e1 = not_rejected (not (has_column m.unknown x && has_column m.unknown y) || (x == y)) Unknown _ t e in
    let e2 = not_rejected (determinant_passes a b c d) (Refused Past) _ t e1.1 in
    let e3 = not_rejected (not (is_unit (determinant a b c d))) Factor _ t e2.1 in
    let e4 = not_rejected (mix_passes m x y a b c d) (Refused Past) _ t e3.1 in
    let names = or_false (not (has_column m.unknown x && has_column m.unknown y)) (x == y) e1.0 in
    let both = both_true (has_column m.unknown x) (has_column m.unknown y) (is_true (has_column m.unknown x && has_column m.unknown y) names.0) in
    record {
      first = column_in m.unknown x both.0;
      second = column_in m.unknown y both.1;
      apart = eqb-false x y names.1;
      unit = is_true (is_unit (determinant a b c d)) e3.0;
      fits = e4.0;
      is = same_ok (mix m x y a b c d) t e4.1;
    }

record IsEnded (m : System) (i : ℕ) (t : Answer) : Type 0 where
  equation : Row
  unknown : ℕ
  found : slice_get m.equations i ≡ Some equation
  alone : present m.unknown equation ≡ unknown ∷ []
  fits : last_passes m equation (take i m.equations ++ drop (suc i) m.equations) unknown ≡ false
  is : last m equation (take i m.equations ++ drop (suc i) m.equations) unknown ≡ t

last_of_says : (m : System) (i : ℕ) (e : Row) (us : List ℕ) (t : Answer) → slice_get m.equations i ≡ Some e → present m.unknown e ≡ us →
    last_of limits m e (take i m.equations ++ drop (suc i) m.equations) us ≡ Ok t → IsEnded m i t
last_of_says m i e [] t s p q = cc
last_of_says m i e (u ∷ []) t s p q =
    let rest = take i m.equations ++ drop (suc i) m.equations in
    let q1 = not_refused (first_count limits (last m e rest u).system) _ t q in
    let q2 = not_rejected (last_passes m e rest u) (Refused Past) _ t q1.1 in
    record { equation = e; unknown = u; found = s; alone = p; fits = q2.0; is = same_ok (last m e rest u) t q2.1 }
last_of_says m i e (u ∷ w ∷ us) t s p q = cc

last_at_says : (m : System) (i : ℕ) (o : Option Row) (t : Answer) → slice_get m.equations i ≡ o → last_at limits m i o ≡ Ok t → IsEnded m i t
last_at_says m i None t s q = cc
last_at_says m i (Some e) t s q = last_of_says m i e (present m.unknown e) t s refl q

last_says : (n : ℕ) (m : System) (i : ℕ) (t : Answer) → apply limits n m (Last i) ≡ Ok t → IsEnded m i t
unfolding apply
last_says n m i t e = last_at_says m i (slice_get m.equations i) t refl e

record IsSearched (n : ℕ) (m : System) (x : ℕ) (lower : Bool) (t : Answer) : Type 0 where
  unknown : In x m.unknown
  few : fold times_bound n (searched m x lower).bounds ≤ 1048576
  is : searched m x lower ≡ t

search_says : (n : ℕ) (m : System) (x : ℕ) (lower : Bool) (t : Answer) → apply limits n m (SearchAct x lower) ≡ Ok t → IsSearched n m x lower t
unfolding apply
search_says n m x lower t e =
    let e1 = not_rejected (not (has_column m.unknown x)) Unknown _ t e in
    let e2 = not_rejected (is_held m x) Held _ t e1.1 in
    let e3 = not_rejected (nat_lt limits.search (fold times_bound n (searched m x lower).bounds)) _ _ t e2.1 in
    record {
      unknown = column_in m.unknown x (is_true (has_column m.unknown x) e1.0);
      few = ltb-false 1048576 (fold times_bound n (searched m x lower).bounds) e3.0;
      is = same_ok (searched m x lower) t e3.1;
    }

record IsDropped (m : System) (x : ℕ) (t : Answer) : Type 0 where
  unknown : In x m.unknown
  free : IsFree x m.equations
  exact : AreExact x m.inequalities
  fits : drop_passes m x ≡ false
  is : dropped m x ≡ t

drop_says : (n : ℕ) (m : System) (x : ℕ) (t : Answer) → apply limits n m (Drop x) ≡ Ok t → IsDropped m x t
unfolding apply
drop_says n m x t e =
    let e1 = not_rejected (not (has_column m.unknown x)) Unknown _ t e in
    let e2 = not_rejected (is_held m x) Held _ t e1.1 in
    let e3 = not_rejected (has_inexact m.inequalities x) Exact _ t e2.1 in
    let e4 = not_refused (first_count limits (dropped m x).system) _ t e3.1 in
    let e5 = not_rejected (drop_passes m x) (Refused Past) _ t e4.1 in
    record {
      unknown = column_in m.unknown x (is_true (has_column m.unknown x) e1.0);
      free = free_from m x e2.0;
      exact = exact_from m x e3.0;
      fits = e5.0;
      is = same_ok (dropped m x) t e5.1;
    }

-- ---- the step leaves a system for the next one
mix_ready : (m : System) (x y : ℕ) (a b c d : ℤ) (t : Answer) → IsReady m → IsMixed m x y a b c d t → IsReady (mix m x y a b c d).system
mix_ready m x y a b c d t r h = record {
  formed = mix_formed m x y a b c d r.formed h.first h.second h.apart;
  differ = mix_differs m x y a b c d r.formed r.differ;
}

last_ready : (m : System) (i : ℕ) (t : Answer) → IsReady m → (h : IsEnded m i t) →
    IsReady (last m h.equation (take i m.equations ++ drop (suc i) m.equations) h.unknown).system
last_ready m i t r h = record {
  formed = last_at_formed m i h.equation h.found h.unknown r.formed h.alone;
  differ = last_differs m h.equation (take i m.equations ++ drop (suc i) m.equations) h.unknown r.differ;
}

search_ready : (n : ℕ) (m : System) (x : ℕ) (lower : Bool) (t : Answer) → IsReady m → IsSearched n m x lower t → IsReady (searched m x lower).system
search_ready n m x lower t r h = record {
  formed = searched_formed m x lower r.formed h.unknown;
  differ = searched_differs m x lower r.formed r.differ;
}

drop_ready : (m : System) (x : ℕ) (t : Answer) → IsReady m → IsDropped m x t → IsReady (dropped m x).system
drop_ready m x t r h = record { formed = dropped_formed m x r.formed h.free; differ = dropped_differs m x r.differ }

-- one system as another
ready_as : (a b : Answer) → a ≡ b → IsReady a.system → IsReady b.system
ready_as a b e h = subst (λ (x : Answer). IsReady x.system) e h

pub ready_after : (n : ℕ) (m : System) (act : Act) (t : Answer) → IsReady m → apply limits n m act ≡ Ok t → IsReady t.system
ready_after n m Clean t r e = ready_as (clean m) t (clean_says n m t e) (clean_ready m r)
ready_after n m (Mix x y a b c d) t r e = let h = mix_says n m x y a b c d t e in ready_as (mix m x y a b c d) t h.is (mix_ready m x y a b c d t r h)
ready_after n m (Last i) t r e = let h = last_says n m i t e in ready_as _ t h.is (last_ready m i t r h)
ready_after n m (SearchAct x lower) t r e =
    let h = search_says n m x lower t e in ready_as (searched m x lower) t h.is (search_ready n m x lower t r h)
ready_after n m (Drop x) t r e = let h = drop_says n m x t e in ready_as (dropped m x) t h.is (drop_ready m x t r h)

-- ---- what a step owes
-- the step keeps the solutions, leaves a system for the next one, and makes rows of the program; its searches keep the tuples few
pub record Leads (n : ℕ) (m : System) (a : Answer) : Type 0 where
  pub owes : Owes m a
  pub ready : IsReady a.system
  pub returns : Returns m a
  pub small : AnswerSmall a
  pub some : All IsSome (bounds_of a.bounds)
  pub few : n ≤ 1048576 → fold times_bound n a.bounds ≤ 1048576

clean_bounds : (m : System) → (clean m).bounds ≡ []
unfolding clean
clean_bounds m = refl

-- a step without a search
plain : (n : ℕ) (m : System) (a : Answer) → a.bounds ≡ [] → Owes m a → IsReady a.system → Returns m a → AnswerSmall a → Leads n m a
plain n m a e o r t s = record {
  owes = o;
  ready = r;
  returns = t;
  small = s;
  some = subst (λ bs. All IsSome (bounds_of bs)) (sym e) (All-nil IsSome);
  few = λ h. subst (λ bs. fold times_bound n bs ≤ 1048576) (sym e) h;
}

clean_leads : (n : ℕ) (m : System) → IsReady m → RowsSmall m → Leads n m (clean m)
clean_leads n m r h = plain n m (clean m) (clean_bounds m) (clean_step m r.formed) (clean_ready m r) (returns_clean m) (clean_small m r h)

mix_small : (m : System) (x y : ℕ) (a b c d : ℤ) → RowsSmall m → IsWithin a → IsWithin b → IsWithin c → IsWithin d → mix_passes m x y a b c d ≡ false →
    AnswerSmall (mix m x y a b c d)
unfolding mix
mix_small m x y a b c d h wa wb wc wd p =
    let u = m.next in
    let v = m.next + 1 in
    let first = two_small a u b v (omega arith) wa wb in
    let second = two_small c u d v (omega arith) wc wd in
    let f = any_parts _ m.equations m.inequalities p in
    record {
      rows = record {
        zero = all_mixed_small x y (two_at a u b v) (two_at c u d v) m.equations first second h.zero f.0;
        nonneg = all_mixed_small x y (two_at a u b v) (two_at c u d v) m.inequalities first second h.nonneg f.1;
      };
      steps = tt;
      back = (first, (second, tt));
    }

mix_bounds : (m : System) (x y : ℕ) (a b c d : ℤ) → (mix m x y a b c d).bounds ≡ []
unfolding mix
mix_bounds m x y a b c d = refl

mix_leads : (n : ℕ) (m : System) (x y : ℕ) (a b c d : ℤ) (t : Answer) → IsReady m → RowsSmall m → IsWithinAct (Mix x y a b c d) → IsMixed m x y a b c d t →
    Leads n m (mix m x y a b c d)
mix_leads n m x y a b c d t r h w is =
    plain n m (mix m x y a b c d) (mix_bounds m x y a b c d) (mixed_owes m x y a b c d r.formed is.first is.second is.unit)
    (mix_ready m x y a b c d t r is) (returns_mix m x y a b c d r.formed is.first is.second is.apart) (mix_small m x y a b c d h w.0 w.1 w.2 w.3 is.fits)

last_bounds : (m : System) (e : Row) (rest : List Row) (u : ℕ) → (last m e rest u).bounds ≡ []
unfolding last
last_bounds m e rest u = refl

last_leads : (n : ℕ) (m : System) (i : ℕ) (t : Answer) → IsReady m → RowsSmall m → (is : IsEnded m i t) →
    Leads n m (last m is.equation (take i m.equations ++ drop (suc i) m.equations) is.unknown)
last_leads n m i t r h is =
    let rest = take i m.equations ++ drop (suc i) m.equations in
    let e = is.equation in
    let u = is.unknown in
    let s = is.found in
    let f = r.formed in
    let holds = In-present u m.unknown e (subst (λ xs. In u xs) (sym is.alone) (inl refl)) in
    plain n m (last m e rest u) (last_bounds m e rest u) (last_at_owes m i e s u f is.alone) (last_ready m i t r is)
    (returns_last m e rest u f (over_at m i e s u f is.alone) holds.0 (not_zero (entry e u) holds.1))
    (subst AnswerSmall (last_front m i e s u) (last_small (front m i e s) e rest u (rows_front m i e s h) refl is.fits))
  where
    not_zero : (k : ℤ) → k ≢ pos 0 → is_zero k ≡ false
    not_zero k g = on_bool (is_zero k) (λ t. absurd (g (zero_from_is_zero k t))) (λ t. t)

search_leads : (n : ℕ) (m : System) (x : ℕ) (lower : Bool) (t : Answer) → IsReady m → RowsSmall m → IsSearched n m x lower t →
    Leads n m (searched m x lower)
search_leads n m x lower t r h is = record {
  owes = searched_step m x lower r.formed is.unknown;
  ready = search_ready n m x lower t r is;
  returns = returns_searched m x lower;
  small = searched_small m x lower r is.unknown h;
  some = searched_some m x lower;
  few = λ _. is.few;
}

drop_bounds : (m : System) (x : ℕ) → (dropped m x).bounds ≡ []
unfolding dropped
drop_bounds m x = refl

drop_leads : (n : ℕ) (m : System) (x : ℕ) (t : Answer) → IsReady m → RowsSmall m → IsDropped m x t → Leads n m (dropped m x)
drop_leads n m x t r h is =
    let f = r.formed in
    plain n m (dropped m x) (drop_bounds m x) (dropped_step m x (kinds_from m f) is.unknown is.free is.exact) (drop_ready m x t r is)
    (returns_dropped m x (some_unknown m x f is.unknown) f.nonneg) (dropped_small m x h is.fits)

pub applies : (n : ℕ) (m : System) (act : Act) (t : Answer) → IsReady m → RowsSmall m → IsWithinAct act → apply limits n m act ≡ Ok t → Leads n m t
applies n m Clean t r h w e = subst (Leads n m) (clean_says n m t e) (clean_leads n m r h)
applies n m (Mix x y a b c d) t r h w e = let is = mix_says n m x y a b c d t e in subst (Leads n m) is.is (mix_leads n m x y a b c d t r h w is)
applies n m (Last i) t r h w e = let is = last_says n m i t e in subst (Leads n m) is.is (last_leads n m i t r h is)
applies n m (SearchAct x lower) t r h w e = let is = search_says n m x lower t e in subst (Leads n m) is.is (search_leads n m x lower t r h is)
applies n m (Drop x) t r h w e = let is = drop_says n m x t e in subst (Leads n m) is.is (drop_leads n m x t r h is)
