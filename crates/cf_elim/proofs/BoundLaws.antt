-- A Bound step as the code takes it.
use Rattle.std.proofs.Common.{◌≡◌, ℕ, suc, ◌+◌, ◌-◌, ◌*◌, ◌^◌, ◌<◌, ◌≤◌, List, [], ◌∷◌, ◌++◌, length, map, Bool, true, false, Option, Some, None, Result, Ok, Err, refl, sym, ◌∙◌, ap, arith, subst, inl, inr, ⊎_elim}
use Rattle.cf_tree.specs.declared.memory.NoMemory.{NoMemory as NoRoom}
use Rattle.std.specs.Prelude.{IfOk, count_by, int_lt, pos, max, min, filter, not, ◌==◌}
use Rattle.std.specs.List.{fold}
use Rattle.std.proofs.lemmas.List.Sums.{length-filter}
use Rattle.std.proofs.lemmas.Bool.{lt-ltb, le-ltb, true≢false}
use Rattle.std.proofs.lemmas.List.{append-nil, length-append, length-map}
use Rattle.cf_linear.specs.declared.refusal.LimitKind.TheVariants.{Search}
use Rattle.cf_linear.specs.declared.refusal.Refusal.{Refusal}
use Rattle.cf_linear.specs.declared.refusal.Refusal.TheVariants.{Past, Limit}
use Rattle.cf_linear.specs.Rows.{Row, entry, is_zero}
use Rattle.cf_linear.specs.Systems.{System, Answer, then_answer}
use Rattle.cf_linear.specs.Steps.{Pick, pick, searched, searched_by, dropped, drop_passes, bound, bound_passes, bound_factor, found_all, no_found, lowers, uppers, free_of, pairs_of, pair_row, is_positive}
use Rattle.cf_linear.specs.Stages.{State, refused, Stage, ends, goes, first_count, ends_or, refused_if, times_bound, bound_stage, unknown_stage, limits}
use Rattle.cf_linear.specs.Keep.{In, Formed, Differ}
use Rattle.cf_linear.specs.Solved.{Rising, Owes}
use Rattle.cf_linear.specs.Views.{system_of, back_of, bound_of}
use Rattle.cf_linear.proofs.KindLemmas.{In-append, In-left, Rising-in}
use Rattle.cf_linear.proofs.SolvedLemmas.{step_then, step_none}
use Rattle.cf_bounds.specs.Dropping.{dropped_answer}
use Rattle.cf_bounds.specs.Searching.{searched_answer}
use Rattle.cf_bounds.specs.declared.searching.Searched.{Searched}
use Rattle.cf_bounds.specs.declared.dropping.Dropped.{Dropped}
use Rattle.cf_bounds.specs.Picking.{picked}
use Rattle.cf_bounds.specs.Exact.{IsFree, AreExact}
use Rattle.cf_bounds.proofs.BoundLemmas.{made_all}
use Rattle.cf_bounds.proofs.ExactLaws.{pick_is, pick_in, pick_exact}
use Rattle.cf_equation.proofs.StepLaws.{Differ-filter}
use Rattle.cf_elim.specs.declared.fault.ElimFault.{ElimFault}
use Rattle.cf_elim.specs.declared.fault.ElimFault.TheVariants.{Refused, NoMemory}
use Rattle.cf_elim.specs.declared.stage.Stage.{Stage as DeclaredStage}
use Rattle.cf_elim.specs.declared.stage.Stage.TheVariants.{Goes, Ends}
use Rattle.cf_elim.proofs.TupleLaws.{tuples_are}
use Rattle.cf_elim.proofs.NextStageLaws.{goes_on}
use Rattle.cf_elim.specs.Stages.{IsReady, StageIs, CountsAre, CountIs, IsCount, MayLackAt}
use Rattle.cf_elim.specs.Bounds.{IsSearched, IsDropped, DropRefused, DropIs, GoesDropped, SearchedIs}

Rising-differ : (lo hi : ℕ) (cs : List ℕ) → Rising lo hi cs → Differ cs
Rising-differ lo hi [] h = tt
Rising-differ lo hi (c ∷ cs) h = ((λ i. let r = Rising-in (suc c) hi c cs h.1 i in absurd (omega arith)), Rising-differ (suc c) hi cs h.1)

pub Differ-append : (xs ys : List ℕ) → Differ xs → Differ ys → ((c : ℕ) → In c xs → In c ys → ⊥) → Differ (xs ++ ys)
Differ-append [] ys h k f = k
Differ-append (x ∷ xs) ys h k f = ((λ i. ⊎_elim (λ p. h.0 p) (λ q. f x (inl refl) q) (In-append x xs ys i)), Differ-append xs ys h.1 k (λ c i j. f c (inr i) j))

pub searched_differs : (m : System) (x : ℕ) (lower : Bool) → Formed m → Differ m.unknown → Differ (searched m x lower).system.unknown
unfolding searched
searched_differs m x lower f d =
    let s = found_all x lower (no_found m) m.inequalities in
    let h = made_all m.next x lower m.inequalities (no_found m) (record { same = refl; rise = omega arith; unknown_rise = omega arith; apart = λ c i j. i }) in
    Differ-append m.unknown s.unknowns d (Rising-differ m.next s.next s.unknowns h.unknown_rise)
    (λ c i j. let l = f.unknown_below c i in let r = Rising-in m.next s.next c s.unknowns h.unknown_rise j in absurd (omega arith))

pub searched_unknown : (m : System) (x : ℕ) (lower : Bool) (c : ℕ) → In c m.unknown → In c (searched m x lower).system.unknown
unfolding searched
searched_unknown m x lower c i = In-left c m.unknown (found_all x lower (no_found m) m.inequalities).unknowns i

-- ---- the stage
pub search_out : (s : State) (c : Pick) (n : ℕ) → n ≡ fold times_bound s.tuples (searched_by s.system c).bounds → 1048576 < n →
    bound_stage limits s c ≡ ends (refused (Limit Search n))
unfolding bound_stage
search_out s c n e h = rw (← e, lt-ltb 1048576 n h) refl

pub search_in : (s : State) (c : Pick) (n : ℕ) → n ≡ fold times_bound s.tuples (searched_by s.system c).bounds → n ≤ 1048576 →
    bound_stage limits s c ≡ ends_or (first_count limits (dropped (searched_by s.system c).system c.unknown).system)
    (refused_if (drop_passes (searched_by s.system c).system c.unknown) Past
    (goes (record { system = (bound s.system c).system; tuples = n; is_past_clean = false })
    (record { answer = bound s.system c; factor = max 1 (bound_factor s.system c) })))
unfolding bound_stage bound bound_passes
search_in s c n e h = rw (← e, le-ltb 1048576 n h) refl

pub bound_is : (m : System) (c : Pick) → bound m c ≡ then_answer (searched_by m c) (dropped (searched_by m c).system c.unknown)
unfolding bound
bound_is m c = refl

pub plain_search : (m : System) (c : Pick) → c.product ≤ 1 → searched_by m c ≡ record { system = m; steps = []; back = []; bounds = [] }
unfolding searched_by
plain_search m c h = rw (le-ltb 1 c.product h) refl

pub real_search : (m : System) (c : Pick) → 1 < c.product → searched_by m c ≡ searched m c.unknown c.lower
unfolding searched_by
real_search m c h = rw (lt-ltb 1 c.product h) refl

-- ---- counts
length-pairs : (x : ℕ) (low high : List Row) → length (pairs_of x low high) ≡ length low * length high
length-pairs x [] high = omega arith
length-pairs x (l ∷ low) high =
    let a = length-append (map (pair_row x l) high) (pairs_of x low high) in
    let b : length (map (pair_row x l) high) ≡ length high = length-map high (pair_row x l) in
    let again = length-pairs x low high in
    omega arith

pub dropped_counts : (m : System) (x rows columns low high free : ℕ) → low ≡ length (lowers x m.inequalities) → high ≡ length (uppers x m.inequalities) →
    free ≡ length (free_of x m.inequalities) →
    rows ≡ length m.equations + 0 + m.needs + free + low * high → columns ≡ length m.known + length (filter (λ w. not (w == x)) m.unknown) + 0 →
    CountsAre (dropped m x).system rows columns
unfolding dropped
dropped_counts m x rows columns low high free a b f e g =
    let p : low * high ≡ length (lowers x m.inequalities) * length (uppers x m.inequalities) = rw (a, b) refl in
    let q = length-pairs x (lowers x m.inequalities) (uppers x m.inequalities) in
    let r = length-append (free_of x m.inequalities) (pairs_of x (lowers x m.inequalities) (uppers x m.inequalities)) in
    record { rows_are = omega arith; columns_are = omega arith }

-- ---- what a search and a drop owe together
pub drop_refused : (m : System) (x : ℕ) (r : Refusal) (g h : Stage) → DropRefused m x r →
    g ≡ ends_or (first_count limits (dropped m x).system) (refused_if (drop_passes m x) Past h) → g ≡ ends (refused r)
drop_refused m x r g h d e = ⊎_elim
    (λ p. e ∙ ap (λ o. ends_or o (refused_if (drop_passes m x) Past h)) p)
    (λ q. e ∙ rw (q.0, q.1, q.2) refl) d

pub bound_owes : (m : System) (c : Pick) (s : Searched) (d : Dropped) → IsSearched m c s → IsDropped (system_of s.system) c.unknown d →
    (record { system = system_of d.system; steps = []; back = back_of d.back ∷ []; bounds = map bound_of s.bounds.items } ≡ bound m c) × Owes m (bound m c)
bound_owes m c s d h k =
    let sa = searched_answer s in
    let da = dropped_answer d in
    let e : then_answer sa da ≡ bound m c =
    ap (then_answer sa) k.is ∙ ap (λ (a : Answer). then_answer a (dropped a.system c.unknown)) h.is ∙ sym (bound_is m c) in
    let i : record { system = system_of d.system; steps = []; back = back_of d.back ∷ []; bounds = map bound_of s.bounds.items } ≡ then_answer sa da =
    rw (append-nil (map bound_of s.bounds.items)) refl in
    (i ∙ e, subst (λ a. Owes m a) e (step_then m sa da h.owes k.owes))

-- ---- the picked unknown
-- the stage is the Bound step of the pick c, whose search leaves n tuples
pub record Picks (s : State) (c : Pick) (n : ℕ) : Type 0 where
  pub is : unknown_stage limits s s.system.unknown ≡ bound_stage limits s c
  pub tuples : n ≡ fold times_bound s.tuples (searched_by s.system c).bounds

picks_first : (s : State) (x n : ℕ) (us : List ℕ) → s.system.unknown ≡ x ∷ us → s.tuples ≤ 2 ^ 64 - 1 →
    n ≡ min (s.tuples * (pick s.system.inequalities x us).product) (2 ^ 64 - 1) → Picks s (pick s.system.inequalities x us) n
unfolding unknown_stage
picks_first s x n us e l t = record {
  is = rw e refl;
  tuples = t ∙ sym (pick_is (λ c. fold times_bound s.tuples (searched_by s.system c).bounds ≡ min (s.tuples * c.product) (2 ^ 64 - 1)) s.system.inequalities x
      us (λ u i. tuples_are s.system u s.tuples l));
}

pub picks : (s : State) (c : Pick) (n : ℕ) → 0 < length s.system.unknown → c ≡ picked s.system.inequalities s.system.unknown → s.tuples ≤ 2 ^ 64 - 1 →
    n ≡ min (s.tuples * c.product) (2 ^ 64 - 1) → Picks s c n
picks s c n h e l t = by s.system.unknown refl h
  where
    by : (us : List ℕ) → s.system.unknown ≡ us → 0 < length us → Picks s c n
    by [] q k = absurd (omega arith)
    by (x ∷ us) q k =
        let i : c ≡ pick s.system.inequalities x us = e ∙ ap (picked s.system.inequalities) q in
        subst (λ z. Picks s z n) (sym i) (picks_first s x n us q l (t ∙ ap (λ (z : Pick). min (s.tuples * z.product) (2 ^ 64 - 1)) i))

pub picks_in : (m : System) (c : Pick) → 0 < length m.unknown → c ≡ picked m.inequalities m.unknown → In c.unknown m.unknown
picks_in m c h e = by m.unknown refl h
  where
    by : (us : List ℕ) → m.unknown ≡ us → 0 < length us → In c.unknown m.unknown
    by [] q k = absurd (omega arith)
    by (x ∷ us) q k =
        let i : c ≡ pick m.inequalities x us = e ∙ ap (picked m.inequalities) q in
        subst (λ (z : Pick). In z.unknown m.unknown) (sym i) (subst (λ vs. In (pick m.inequalities x us).unknown vs) (sym q) (pick_in m.inequalities x us))

pub picks_exact : (m : System) (c : Pick) → 0 < length m.unknown → c ≡ picked m.inequalities m.unknown → c.product ≤ 1 → AreExact c.unknown m.inequalities
picks_exact m c h e l = by m.unknown refl h
  where
    by : (us : List ℕ) → m.unknown ≡ us → 0 < length us → AreExact c.unknown m.inequalities
    by [] q k = absurd (omega arith)
    by (x ∷ us) q k =
        let i : c ≡ pick m.inequalities x us = e ∙ ap (picked m.inequalities) q in
        subst (λ (z : Pick). AreExact z.unknown m.inequalities) (sym i) (pick_exact m.inequalities x us (subst (λ (z : Pick). z.product ≤ 1) i l))

-- ---- the step
pub bound_out : (s : State) (c : Pick) (n : ℕ) → Picks s c n → 1048576 < n →
    StageIs s (unknown_stage limits s s.system.unknown) (Err (Refused (Limit Search n)))
bound_out s c n p h = p.is ∙ search_out s c n p.tuples h

left_is : (m : System) (c : Pick) (r : Searched) → IsSearched m c r → (searched_by m c).system ≡ system_of r.system
left_is m c r h = ap (λ (a : Answer). a.system) (sym h.is)

-- the drop in the searched system
search_left : (s : State) (c : Pick) (n : ℕ) (r : Searched) → Picks s c n → n ≤ 1048576 → IsSearched s.system c r →
    unknown_stage limits s s.system.unknown ≡ ends_or (first_count limits (dropped (system_of r.system) c.unknown).system)
    (refused_if (drop_passes (system_of r.system) c.unknown) Past
    (goes (record { system = (bound s.system c).system; tuples = n; is_past_clean = false })
    (record { answer = bound s.system c; factor = max 1 (bound_factor s.system c) })))
search_left s c n r p l h =
    p.is ∙ search_in s c n p.tuples l ∙
    ap (λ m. ends_or (first_count limits (dropped m c.unknown).system)
    (refused_if (drop_passes m c.unknown) Past
    (goes (record { system = (bound s.system c).system; tuples = n; is_past_clean = false })
    (record { answer = bound s.system c; factor = max 1 (bound_factor s.system c) })))) (left_is s.system c r h)

pub bound_refused : (s : State) (c : Pick) (n : ℕ) (r : Searched) (f : ElimFault) → Picks s c n → n ≤ 1048576 → IsSearched s.system c r →
    DropIs (system_of r.system) c.unknown (Err f) → StageIs s (unknown_stage limits s s.system.unknown) (Err f)
bound_refused s c n r (Refused q) p l h d =
    drop_refused (system_of r.system) c.unknown q (unknown_stage limits s s.system.unknown) _ d (search_left s c n r p l h)
bound_refused s c n r NoMemory p l h d = tt

pub dropped_differs : (m : System) (x : ℕ) → Differ m.unknown → Differ (dropped m x).system.unknown
unfolding dropped
dropped_differs m x h = Differ-filter (λ w. not (w == x)) m.unknown h

pub bound_goes : (s : State) (c : Pick) (n : ℕ) (r : Searched) (d : Dropped) (q : Result DeclaredStage ElimFault) → Picks s c n → n ≤ 1048576 →
    IsSearched s.system c r → IsDropped (system_of r.system) c.unknown d →
    GoesDropped r.bounds.items d n q → StageIs s (unknown_stage limits s s.system.unknown) q
bound_goes s c n r d (Ok (Goes t p)) k l h i g =
    let o = bound_owes s.system c r d h i in
    let e = o.0 in
    goes_on s.system (unknown_stage limits s s.system.unknown) t p (bound s.system c) (max 1 (bound_factor s.system c))
    (search_left s c n r k l h ∙ rw (i.within_counts, i.fits, g.1, g.2) refl)
    (rw (g.0, g.3, g.4, g.5) e)
    o.1
    (subst (λ (x : Answer). IsReady x.system) e
    (record {
      formed = i.formed;
      differ = subst (λ (a : Answer). Differ a.system.unknown) (sym i.is)
          (dropped_differs (system_of r.system) c.unknown h.differ);
    }))
    (λ b. let z : false ≡ true = sym g.2 ∙ b in absurd (true≢false (sym z)))
bound_goes s c n r d (Ok Ends) k l h i g = absurd g
bound_goes s c n r d (Err (Refused x)) k l h i g = absurd g
bound_goes s c n r d (Err NoMemory) k l h i g = tt

-- want of memory behind counts that are within their limits
pub drop_lacks : (m : System) (x : ℕ) → first_count limits (dropped m x).system ≡ None → DropIs m x (Err NoMemory)
drop_lacks m x c = subst MayLackAt (sym c) tt

pub searched_goes : (r : Searched) (x n : ℕ) (d : Dropped) (q : Result DeclaredStage ElimFault) → IsDropped (system_of r.system) x d →
    GoesDropped r.bounds.items d n q → SearchedIs r x n q
searched_goes r x n d (Ok (Goes t p)) i g = (d, i, g)
searched_goes r x n d (Ok Ends) i g = absurd g
searched_goes r x n d (Err (Refused f)) i g = absurd g
searched_goes r x n d (Err NoMemory) i g = drop_lacks (system_of r.system) x i.within_counts

pub bound_staged : (s : State) (c : Pick) (n : ℕ) (r : Searched) (q : Result DeclaredStage ElimFault) → Picks s c n → n ≤ 1048576 → IsSearched s.system c r →
    SearchedIs r c.unknown n q → StageIs s (unknown_stage limits s s.system.unknown) q
bound_staged s c n r (Ok (Goes t p)) k l h g = bound_goes s c n r g.0 (Ok (Goes t p)) k l h g.1 g.2
bound_staged s c n r (Ok Ends) k l h g = absurd g
bound_staged s c n r (Err f) k l h g = bound_refused s c n r f k l h g

-- ---- what the search leaves
pub plain_searched : (m : System) (c : Pick) (r : Searched) → IsReady m → m.equations ≡ [] → In c.unknown m.unknown → c.product ≤ 1 →
    AreExact c.unknown m.inequalities → system_of r.system ≡ m → r.bounds.items ≡ [] → IsSearched m c r
plain_searched m c r y e i l x f b = record {
  is = rw (f, b) (sym (plain_search m c l));
  owes = rw (f, b) (step_none m y.formed.constant y.formed.below);
  formed = subst Formed (sym f) y.formed;
  differ = subst (λ (n : System). Differ n.unknown) (sym f) y.differ;
  unknown = subst (λ (n : System). In c.unknown n.unknown) (sym f) i;
  free = subst (λ (n : System). IsFree c.unknown n.equations) (sym f) (subst (λ rows. IsFree c.unknown rows) (sym e) tt);
  exact = subst (λ (n : System). AreExact c.unknown n.inequalities) (sym f) x;
}

pub real_searched : (m : System) (c : Pick) (r : Result Searched NoRoom) → IsReady m → m.equations ≡ [] → In c.unknown m.unknown → 1 < c.product →
    IfOk r (λ s. searched_answer s ≡ searched m c.unknown c.lower) → IfOk r (λ s. Owes m (searched_answer s)) →
    IfOk r (λ s. Formed (system_of s.system)) → IfOk r (λ s. AreExact c.unknown (system_of s.system).inequalities) →
    IfOk r (λ s. IsFree c.unknown m.equations → IsFree c.unknown (system_of s.system).equations) → IfOk r (λ s. IsSearched m c s)
real_searched m c (Ok s) y e i l a o f x g = record {
  is = a ∙ sym (real_search m c l);
  owes = o;
  formed = f;
  differ = subst (λ (z : Answer). Differ z.system.unknown) (sym a) (searched_differs m c.unknown c.lower y.formed y.differ);
  unknown = subst (λ (z : Answer). In c.unknown z.system.unknown) (sym a) (searched_unknown m c.unknown c.lower c.unknown i);
  free = g (subst (λ rows. IsFree c.unknown rows) (sym e) tt);
  exact = x;
}
real_searched m c (Err e) y n i l a o f x g = tt

-- ---- the drop between its counts
pub drop_out : (m : System) (x : ℕ) (f : ElimFault) → CountIs (first_count limits (dropped m x).system) (Err f) → DropIs m x (Err f)
drop_out m x (Refused r) c = inl c
drop_out m x NoMemory c = c

pub drop_past : (m : System) (x : ℕ) → first_count limits (dropped m x).system ≡ None → drop_passes m x ≡ true → DropIs m x (Err (Refused Past))
drop_past m x c p = inr (c, p, refl)

pub drop_on : (m : System) (x : ℕ) (d : Dropped) → first_count limits (dropped m x).system ≡ None → drop_passes m x ≡ false →
    dropped_answer d ≡ dropped m x → Owes m (dropped_answer d) → Formed (system_of d.system) → IsDropped m x d
drop_on m x d c p e o f = record { within_counts = c; fits = p; is = e; owes = o; formed = f }

-- a count that stops at 2^128 - 1 tells the same
pub count_stopped : (s p k : ℕ) (o : Option ℕ) → s ≡ min (min p (2 ^ 128 - 1) + k) (2 ^ 128 - 1) → IsCount s o → IsCount (k + p) o
count_stopped s p k None e h = omega (arith, e, h)
count_stopped s p k (Some n) e h = let l = h.1 in (omega (arith, e, h.0, l), l)

-- ---- counts of rows
pub count_low : (x : ℕ) (rows : List Row) → count_by (λ r. is_positive (entry r x)) rows ≡ length (lowers x rows)
count_low x rows = sym (length-filter (λ r. is_positive (entry r x)) rows)

pub count_high : (x : ℕ) (rows : List Row) → count_by (λ r. int_lt (entry r x) (pos 0)) rows ≡ length (uppers x rows)
count_high x rows = sym (length-filter (λ r. int_lt (entry r x) (pos 0)) rows)

pub count_free : (x : ℕ) (rows : List Row) → count_by (λ r. is_zero (entry r x)) rows ≡ length (free_of x rows)
count_free x rows = sym (length-filter (λ r. is_zero (entry r x)) rows)
