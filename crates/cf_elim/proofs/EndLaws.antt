-- The elimination of a system ends, in fewer than 2^64 steps.
use Rattle.std.proofs.Common.{◌≡◌, ◌≢◌, ℕ, zero, suc, ◌+◌, ◌-◌, ◌*◌, ◌^◌, ◌<◌, ◌≤◌, ℤ, pos, negsuc, neg_ℤ, ◌+ℤ◌, ◌*ℤ◌, List, [], ◌∷◌, length, Bool, true, false, not, ◌==◌, Option, Some, None, refl, sym, ◌∙◌, ap, arith, subst, ◌⊎◌, inl, inr, ⊎_elim, ◌/◌}
use Rattle.std.specs.Prelude.{nat_lt, min, map, filter, unsigned_abs, ◌<ℤ◌, if◌then◌else◌}
use Rattle.std.specs.List.{fold}
use Rattle.std.specs.Int.{int_div_euclid}
use Rattle.std.proofs.Math.Nat.{mul-div_cancel'}
use Rattle.std.proofs.lemmas.Int.{ints}
use Rattle.std.proofs.lemmas.Nat.{mul-le}
use Rattle.std.proofs.lemmas.Bool.{cond_both, ltb-true, ltb-false, eqb-false, eq-eqb, ne_eqb}
use Rattle.cf_num.specs.Parts.{parts_of}
use Rattle.cf_num.proofs.Ring.{ring}
use Rattle.cf_num.proofs.DivisorLemmas.{parts_of-is}
use Rattle.cf_linear.specs.Relations.{Divides}
use Rattle.cf_linear.specs.declared.refusal.LimitKind.TheVariants.{Rows, Columns, Search}
use Rattle.cf_linear.specs.declared.refusal.Refusal.{Refusal}
use Rattle.cf_linear.specs.declared.refusal.Refusal.TheVariants.{Past, Limit}
use Rattle.cf_linear.specs.Rows.{Row, entry, is_zero, without, subst_row, Rises}
use Rattle.cf_linear.specs.Systems.{System, EachRow, Answer, rows_of, columns_of}
use Rattle.cf_linear.specs.Keep.{In, Over, IsColumn, Formed, Differ}
use Rattle.cf_linear.specs.Steps.{present, has_column, has_unknown, clean, two_at, one_at, replaced, mix, merge, factors_of, last, Pick, pick, searched, searched_by, dropped, bound}
use Rattle.cf_linear.specs.Stages.{State, End, refused, Taken, Stage, ends, goes, stage, first_count, ends_or, refused_if, times_bound, clean_stage, equation_stage, row_stage, unknown_stage, bound_stage, Trace, stop, more, first_state, Run, run, limits}
use Rattle.cf_linear.proofs.BoolLemmas.{on_bool}
use Rattle.cf_linear.proofs.StageLemmas.{run-trace}
use Rattle.cf_linear.proofs.RowLemmas.{zero_from_is_zero, entry-comb}
use Rattle.cf_linear.proofs.CombLemmas.{entry-without}
use Rattle.cf_linear.proofs.KindLemmas.{EachRow-tested, Over-weaker, Over-both, free_row}
use Rattle.cf_linear.proofs.FormedLemmas.{column_below}
use Rattle.cf_equation.proofs.FactorLaws.{exact_quotient}
use Rattle.cf_equation.proofs.MergeLaws.{mix_formed, mix_differs}
use Rattle.cf_equation.proofs.StepLaws.{Differ-filter, In-present, last_formed, last_differs, only_unknown}
use Rattle.cf_bounds.specs.Exact.{IsFree}
use Rattle.cf_bounds.proofs.ExactLaws.{pick_in, pick_is}
use Rattle.cf_bounds.proofs.BoundLemmas.{searched_free}
use Rattle.cf_bounds.proofs.FormedAgain.{clean_formed, dropped_formed}
use Rattle.cf_bounds.proofs.SearchFormed.{searched_formed}
use Rattle.cf_elim.specs.Stages.{IsReady}
use Rattle.cf_elim.proofs.TupleLaws.{tuples_are}
use Rattle.cf_elim.proofs.BoundLaws.{searched_differs, dropped_differs, plain_search}

-- ---- the measure: the product of the search bounds, the unknowns, the equations, the unknowns of the first equation, and the need of a Clean
abbrev measure : ℕ → ℕ → ℕ → ℕ → ℕ → ℕ
measure p u e f c = ((((1048577 - p) * 1001 + u) * 1001 + e) * 1001 + f) * 3 + c

by_search : (p u e f c p' u' e' f' c' : ℕ) → 1 ≤ p → 2 * p ≤ p' → p' ≤ 1048576 → u' ≤ 1000 → e' ≤ 1000 → f' ≤ u' → c' ≤ 2 →
    measure p' u' e' f' c' < measure p u e f c
by_search p u e f c p' u' e' f' c' a b d g h i j = omega arith

by_unknown : (p u e f c p' u' e' f' c' : ℕ) → p' ≡ p → u' < u → u' ≤ 1000 → e' ≤ 1000 → f' ≤ u' → c' ≤ 2 → measure p' u' e' f' c' < measure p u e f c
by_unknown p u e f c p' u' e' f' c' a b d g h i = omega arith

by_equation : (p u e f c u' e' f' c' : ℕ) → u' ≤ u → e' < e → u' ≤ 1000 → f' ≤ u' → c' ≤ 2 → measure p u' e' f' c' < measure p u e f c
by_equation p u e f c u' e' f' c' a b d g h = omega arith

by_held : (p u e f c u' e' f' c' : ℕ) → u' ≡ u → e' ≡ e → f' < f → c' ≤ 2 → measure p u' e' f' c' < measure p u e f c
by_held p u e f c u' e' f' c' a b d g = omega arith

by_need : (p u e f c c' : ℕ) → c' < c → measure p u e f c' < measure p u e f c
by_need p u e f c c' a = omega arith

measure_few : (p u e f c : ℕ) → u ≤ 1000 → e ≤ 1000 → f ≤ u → c ≤ 2 → measure p u e f c < 2 ^ 63
measure_few p u e f c a b d g = omega arith

-- the unknowns of the first equation
abbrev pub held : List ℕ → List Row → ℕ
held us [] = 0
held us (e ∷ rest) = length (present us e)

-- whether the first equation has no unknown
abbrev stuck : List ℕ → List Row → ℕ
stuck us [] = 0
stuck us (e ∷ rest) = if has_unknown us e then 0 else 2

abbrev need : Bool → List ℕ → List Row → ℕ
need b us rows = if b then stuck us rows else 1

abbrev height : State → ℕ
height s = measure s.tuples (length s.system.unknown) (length s.system.equations) (held s.system.unknown s.system.equations)
    (need s.is_past_clean s.system.unknown s.system.equations)

-- ---- parts of lists
filter_short : {A : Type 0} (p : A → Bool) (xs : List A) → length (filter p xs) ≤ length xs
filter_short p [] = omega arith
filter_short p (x ∷ xs) = let i = filter_short p xs in
    cond_both (p x) (x ∷ filter p xs) (filter p xs) (λ ys. length ys ≤ suc (length xs)) (λ _. omega arith) (λ _. omega arith)

pub filter_all : {A : Type 0} (p : A → Bool) (xs : List A) → (length (filter p xs) < length xs) ⊎ (filter p xs ≡ xs)
filter_all p [] = inr refl
filter_all p (x ∷ xs) = cond_both (p x) (x ∷ filter p xs) (filter p xs) (λ ys. (length ys < suc (length xs)) ⊎ (ys ≡ x ∷ xs))
    (λ _. ⊎_elim (λ l. inl (omega arith)) (λ e. inr (ap (λ ys. x ∷ ys) e)) (filter_all p xs))
    (λ _. let i = filter_short p xs in inl (omega arith))

pub filter_gone : (x : ℕ) (us : List ℕ) → In x us → length (filter (λ w. not (w == x)) us) < length us
filter_gone x [] i = absurd i
filter_gone x (u ∷ us) i = let l = filter_short (λ w. not (w == x)) us in
    on_bool (u == x)
    (λ e. rw e (omega arith))
    (λ e. ⊎_elim (λ (q : x ≡ u). absurd (eqb-false u x e (sym q))) (λ j. let k = filter_gone x us j in rw e (omega arith)) i)

pub held_few : (us : List ℕ) (rows : List Row) → held us rows ≤ length us
held_few us [] = omega arith
held_few us (e ∷ rest) = filter_short (λ u. not (is_zero (entry e u))) us

stuck_few : (us : List ℕ) (rows : List Row) → stuck us rows ≤ 2
stuck_few us [] = omega arith
stuck_few us (e ∷ rest) = cond_both (has_unknown us e) 0 2 (λ n. n ≤ 2) (λ _. omega arith) (λ _. omega arith)

need_few : (b : Bool) (us : List ℕ) (rows : List Row) → need b us rows ≤ 2
need_few true us rows = stuck_few us rows
need_few false us rows = omega arith

stuck_none : (us : List ℕ) (rows : List Row) → EachRow (λ r. has_unknown us r ≡ true) rows → stuck us rows ≡ 0
stuck_none us [] h = refl
stuck_none us (e ∷ rest) h = rw h.0 refl

-- ---- an equation whose unknowns all have the entry 0 has none
none_in : (us : List ℕ) (e : Row) → present us e ≡ [] → (u : ℕ) → In u us → entry e u ≡ pos 0
none_in [] e p u i = absurd i
none_in (w ∷ us) e p u i = on_bool (is_zero (entry e w))
    (λ t. ⊎_elim (λ (q : u ≡ w). ap (λ (x : ℕ). entry e x) q ∙ zero_from_is_zero (entry e w) t) (λ j. none_in us e (rw t at p) u j) i)
    (λ t. let q : w ∷ present us e ≡ [] = rw t at p in cc)

over_any : (Q : ℕ → Type 0) → ((c : ℕ) → Q c) → (e : Row) → Over Q e
over_any Q f [] = tt
over_any Q f ((c, k) ∷ e) = (f c, over_any Q f e)

apart_all : (us : List ℕ) (e : Row) → Rises 0 e → ((u : ℕ) → In u us → entry e u ≡ pos 0) → Over (λ d. In d us → ⊥) e
apart_all [] e h f = over_any (λ d. In d [] → ⊥) (λ c i. i) e
apart_all (u ∷ us) e h f =
    Over-both (λ d. d ≢ u) (λ d. In d us → ⊥) (λ d. In d (u ∷ us) → ⊥) (λ c n m i. ⊎_elim (λ q. n q) (λ j. m j) i) e (free_row 0 u e h (f u (inl refl)))
    (apart_all us e h (λ w i. f w (inr i)))

no_column : (us : List ℕ) (c : ℕ) → (In c us → ⊥) → has_column us c ≡ false
no_column [] c h = refl
no_column (u ∷ us) c h = rw (ne_eqb u c (λ q. h (inl (sym q))), no_column us c (λ i. h (inr i))) refl

no_unknown : (us : List ℕ) (e : Row) → Over (λ d. In d us → ⊥) e → has_unknown us e ≡ false
no_unknown us [] h = refl
no_unknown us ((c, k) ∷ e) h = rw (no_column us c h.0, no_unknown us e h.1) refl

empty_stuck : (us : List ℕ) (e : Row) (rest : List Row) → Rises 0 e → present us e ≡ [] → stuck us (e ∷ rest) ≡ 2
empty_stuck us e rest h p = rw (no_unknown us e (apart_all us e h (none_in us e p))) refl

-- ---- after a Merge the first equation has one unknown fewer
-- what stands in the place of c
abbrev moved : ℕ → ℕ → ℕ → ℕ → ℕ → ℕ
moved x u y v c = if (if c == y then v else c) == x then u else (if c == y then v else c)

abbrev moved_all : ℕ → ℕ → ℕ → ℕ → List ℕ → List ℕ
moved_all x u y v us = replaced x u (replaced y v us)

few_held : (x u y v : ℕ) (e e' : Row) (us : List ℕ) → ((c : ℕ) → In c us → is_zero (entry e c) ≡ true → is_zero (entry e' (moved x u y v c)) ≡ true) →
    length (present (moved_all x u y v us) e') ≤ length (present us e)
few_held x u y v e e' [] h = omega arith
few_held x u y v e e' (c ∷ us) h =
    let i = few_held x u y v e e' us (λ d j. h d (inr j)) in
    on_bool (is_zero (entry e c))
    (λ t. rw (t, h c (inl refl) t) i)
    (λ t. rw t (cond_both (not (is_zero (entry e' (moved x u y v c)))) (moved x u y v c ∷ present (moved_all x u y v us) e') (present (moved_all x u y v us) e')
    (λ ys. length ys ≤ suc (length (present us e))) (λ _. omega arith) (λ _. omega arith)))

less_held : (x u y v : ℕ) (e e' : Row) (us : List ℕ) → ((c : ℕ) → In c us → is_zero (entry e c) ≡ true → is_zero (entry e' (moved x u y v c)) ≡ true) →
    In y us → is_zero (entry e y) ≡ false → is_zero (entry e' (moved x u y v y)) ≡ true →
    length (present (moved_all x u y v us) e') < length (present us e)
less_held x u y v e e' [] h i n z = absurd i
less_held x u y v e e' (c ∷ us) h i n z = ⊎_elim
    (λ (q : y ≡ c).
    let a = few_held x u y v e e' us (λ d j. h d (inr j)) in
    let n' : is_zero (entry e c) ≡ false = subst (λ (w : ℕ). is_zero (entry e w) ≡ false) q n in
    let z' : is_zero (entry e' (moved x u y v c)) ≡ true = subst (λ (w : ℕ). is_zero (entry e' (moved x u y v w)) ≡ true) q z in
    rw (n', z') (omega arith))
    (λ j.
    let a = less_held x u y v e e' us (λ d k. h d (inr k)) j n z in
    on_bool (is_zero (entry e c))
    (λ t. rw (t, h c (inl refl) t) a)
    (λ t. rw t (cond_both (not (is_zero (entry e' (moved x u y v c)))) (moved x u y v c ∷ present (moved_all x u y v us) e') (present (moved_all x u y v us) e')
    (λ ys. length ys < suc (length (present us e))) (λ _. omega arith) (λ _. omega arith))))
    i

entry_high : (n x : ℕ) (e : Row) → n ≤ x → Over (λ c. c < n) e → entry e x ≡ pos 0
entry_high n x [] l h = refl
entry_high n x ((c, k) ∷ e) l h = let i = h.0 in rw (ne_eqb c x (λ q. absurd (omega arith)), entry_high n x e l h.1) refl

-- the entries of a row in which y gave way to s
subst_other : (y : ℕ) (s e : Row) (c : ℕ) → c ≢ y → entry (subst_row y s e) c ≡ entry e c +ℤ entry e y *ℤ entry s c
subst_other y s e c n = entry-comb c (pos 1) (without y e) (entry e y) s ∙
    rw (entry-without y c e, ne_eqb y c (λ q. n (sym q))) (simp ring (omega (arith, ints)))

two_first : (a : ℤ) (u : ℕ) (b : ℤ) (c : ℕ) → c < u → entry (two_at a u b (u + 1)) c ≡ pos 0
two_first a u b c l = entry-comb c a (one_at u) b (one_at (u + 1)) ∙
    rw (ne_eqb u c (λ q. absurd (omega arith)), ne_eqb (u + 1) c (λ q. absurd (omega arith))) (omega (arith, ints))

two_second : (a : ℤ) (u : ℕ) (b : ℤ) → entry (two_at a u b (u + 1)) (u + 1) ≡ b
two_second a u b = entry-comb (u + 1) a (one_at u) b (one_at (u + 1)) ∙
    rw (ne_eqb u (u + 1) (λ q. absurd (omega arith)), eq-eqb (u + 1) (u + 1) refl) (omega (arith, ints))

none_more : (z k : ℤ) → z +ℤ k *ℤ pos 0 ≡ z
none_more z k = omega (arith, ints)

abbrev mixed : ℕ → ℕ → ℕ → ℤ → ℤ → ℤ → ℤ → Row → Row
mixed x y u a b c d e = subst_row x (two_at a u b (u + 1)) (subst_row y (two_at c u d (u + 1)) e)

mixed_old : (x y u : ℕ) (a b c d : ℤ) (e : Row) (w : ℕ) → w < u → w ≢ x → w ≢ y → entry (mixed x y u a b c d e) w ≡ entry e w
mixed_old x y u a b c d e w l n m =
    subst_other x (two_at a u b (u + 1)) (subst_row y (two_at c u d (u + 1)) e) w n ∙
    rw (two_first a u b w l) (none_more (entry (subst_row y (two_at c u d (u + 1)) e) w) (entry (subst_row y (two_at c u d (u + 1)) e) x)) ∙
    subst_other y (two_at c u d (u + 1)) e w m ∙ rw (two_first c u d w l) (none_more (entry e w) (entry e y))

mixed_new : (x y u : ℕ) (a b c d : ℤ) (e : Row) → Over (λ c. c < u) e → x < u → y < u → x ≢ y →
    entry (mixed x y u a b c d e) (u + 1) ≡ entry e y *ℤ d +ℤ entry e x *ℤ b
mixed_new x y u a b c d e o lx ly n =
    let half = subst_row y (two_at c u d (u + 1)) e in
    let at_x : entry half x ≡ entry e x = subst_other y (two_at c u d (u + 1)) e x n ∙ rw (two_first c u d x lx) (none_more (entry e x) (entry e y)) in
    let at_v : entry half (u + 1) ≡ pos 0 +ℤ entry e y *ℤ d =
    subst_other y (two_at c u d (u + 1)) e (u + 1) (λ q. absurd (omega arith)) ∙ rw (two_second c u d, entry_high u (u + 1) e (omega arith) o) refl in
    subst_other x (two_at a u b (u + 1)) half (u + 1) (λ q. absurd (omega arith)) ∙ rw (two_second a u b, at_x, at_v) (simp ring (omega (arith, ints)))

abs_divides : (g : ℕ) (a : ℤ) (y : ℕ) → g * y ≡ unsigned_abs a → Divides (pos g) a
abs_divides g (pos n) y e = (pos y, ap pos (sym e))
abs_divides g (negsuc n) y e = (neg_ℤ (pos y), let i : pos (suc n) ≡ pos g *ℤ pos y = ap pos (sym e) in simp ring (omega (arith, ints)))

divides_from : (g a : ℤ) → pos 0 <ℤ g → unsigned_abs g * (unsigned_abs a / unsigned_abs g) ≡ unsigned_abs a → Divides g a
divides_from (pos n) a h e = abs_divides n a (unsigned_abs a / n) e
divides_from (negsuc n) a h e = absurd (omega (arith, ints))

cross : (g a b p q : ℤ) → g *ℤ p ≡ a → g *ℤ q ≡ b → b *ℤ p +ℤ a *ℤ neg_ℤ q ≡ pos 0
cross g a b p q e f = rw (← e, ← f) (simp ring (omega (arith, ints)))

-- the second new unknown has the entry 0
second_none : (a b : ℤ) → a ≢ pos 0 → b ≢ pos 0 → b *ℤ (factors_of a b).n +ℤ a *ℤ (factors_of a b).m ≡ pos 0
unfolding factors_of
second_none a b ha hb =
    let p = parts_of a b in
    let is = parts_of-is a b ha hb in
    cross p.g a b (int_div_euclid a p.g) (int_div_euclid b p.g)
    (exact_quotient a p.g is.positive (divides_from p.g a is.positive (mul-div_cancel' (unsigned_abs p.g) is.divisor.0)))
    (exact_quotient b p.g is.positive (divides_from p.g b is.positive (mul-div_cancel' (unsigned_abs p.g) is.divisor.1)))

not_zero : (k : ℤ) → k ≢ pos 0 → is_zero k ≡ false
not_zero k n = on_bool (is_zero k) (λ t. absurd (n (zero_from_is_zero k t))) (λ f. f)

zero_is : (k : ℤ) → k ≡ pos 0 → is_zero k ≡ true
zero_is k e = rw e refl

true_false : (b : Bool) → b ≡ true → b ≡ false → ⊥
true_false true e f = cc
true_false false e f = cc

moved_same : (x u y v c : ℕ) → c ≢ x → c ≢ y → moved x u y v c ≡ c
moved_same x u y v c n m = rw (ne_eqb c y m, ne_eqb c x n) refl

moved_new : (x u y v : ℕ) → v ≢ x → moved x u y v y ≡ v
moved_new x u y v n = rw (eq-eqb y y refl, ne_eqb v x n) refl

pub merge_held : (m : System) (e : Row) (rest : List Row) (x y : ℕ) → Formed m → m.equations ≡ e ∷ rest → Over (λ c. c < m.next) e → In x m.unknown →
    In y m.unknown → x ≢ y → entry e x ≢ pos 0 → entry e y ≢ pos 0 →
    held (merge m e x y).system.unknown (merge m e x y).system.equations < length (present m.unknown e)
unfolding merge mix
merge_held m e rest x y f eq o ix iy n ex ey =
    let p = factors_of (entry e x) (entry e y) in
    let u = m.next in
    let v = m.next + 1 in
    let lx = f.unknown_below x ix in
    let ly = f.unknown_below y iy in
    let e' = mixed x y u p.s p.m p.t p.n e in
    rw eq (less_held x u y v e e' m.unknown
    (λ c i t.
    let l = f.unknown_below c i in
    let nx : c ≢ x = λ q. ex (ap (λ (w : ℕ). entry e w) (sym q) ∙ zero_from_is_zero (entry e c) t) in
    let ny : c ≢ y = λ q. ey (ap (λ (w : ℕ). entry e w) (sym q) ∙ zero_from_is_zero (entry e c) t) in
    subst (λ (w : ℕ). is_zero (entry e' w) ≡ true) (sym (moved_same x u y v c nx ny))
    (zero_is (entry e' c) (mixed_old x y u p.s p.m p.t p.n e c l nx ny ∙ zero_from_is_zero (entry e c) t)))
    iy (not_zero (entry e y) ey)
    (subst (λ (w : ℕ). is_zero (entry e' w) ≡ true) (sym (moved_new x u y v (λ q. absurd (omega arith))))
    (zero_is (entry e' v) (mixed_new x y u p.s p.m p.t p.n e o lx ly n ∙ second_none (entry e x) (entry e y) ex ey))))

-- ---- what a step leaves
record Falls (s t : State) : Type 0 where
  ready : IsReady t.system
  some : 1 ≤ t.tuples
  few : t.tuples ≤ 1048576
  less : height t < height s

record Before (s : State) : Type 0 where
  ready : IsReady s.system
  some : 1 ≤ s.tuples
  few : s.tuples ≤ 1048576

pub one_of : (b : Bool) (g h : Stage) (t : State) (a : Taken) → (if b then g else h) ≡ goes t a → ((b ≡ true) × (g ≡ goes t a)) ⊎ ((b ≡ false) × (h ≡ goes t a))
one_of true g h t a e = inl (refl, e)
one_of false g h t a e = inr (refl, e)

pub count_passed : (o : Option Refusal) (h : Stage) (t : State) (a : Taken) → ends_or o h ≡ goes t a → (o ≡ None) × (h ≡ goes t a)
count_passed (Some r) h t a e = cc
count_passed None h t a e = (refl, e)

pub not_refused : (b : Bool) (r : Refusal) (h : Stage) (t : State) (a : Taken) → refused_if b r h ≡ goes t a → (b ≡ false) × (h ≡ goes t a)
not_refused true r h t a e = cc
not_refused false r h t a e = (refl, e)

falls_at : (s u t : State) (x a : Taken) → goes u x ≡ goes t a → Falls s u → Falls s t
falls_at s u t x a e h = let q : u ≡ t = cc in subst (λ y. Falls s y) q h

pub counts_few : (m : System) → first_count limits m ≡ None → (length m.equations ≤ 1000) × (length m.unknown ≤ 1000)
counts_few m e = on_bool (nat_lt 1000 (rows_of m))
    (λ t. let q : Some (Limit Rows (rows_of m)) ≡ None = rw t at e in cc)
    (λ t. on_bool (nat_lt 1000 (columns_of m))
    (λ v. let q : Some (Limit Columns (columns_of m)) ≡ None = rw (t, v) at e in cc)
    (λ v. let a = ltb-false 1000 (rows_of m) t in let b = ltb-false 1000 (columns_of m) v in (omega arith, omega arith)))

-- ---- Clean
clean_less : (us : List ℕ) (rows : List Row) (p : ℕ) → length (filter (has_unknown us) rows) ≤ 1000 → length us ≤ 1000 →
    measure p (length us) (length (filter (has_unknown us) rows)) (held us (filter (has_unknown us) rows)) (stuck us (filter (has_unknown us) rows)) < measure p
    (length us) (length rows) (held us rows) 1
clean_less us rows p le lu =
    let kept = filter (has_unknown us) rows in
    let z = stuck_none us kept (EachRow-tested (λ r. has_unknown us r ≡ true) (has_unknown us) (λ r e. e) rows) in
    ⊎_elim
    (λ l. by_equation p (length us) (length rows) (held us rows) 1 (length us) (length kept) (held us kept) (stuck us kept) (omega arith) l lu
    (held_few us kept) (stuck_few us kept))
    (λ q.
    let y : stuck us rows ≡ 0 = subst (λ rs. stuck us rs ≡ 0) q z in
    rw q (by_need p (length us) (length rows) (held us rows) 1 (stuck us rows) (omega arith)))
    (filter_all (has_unknown us) rows)

pub clean_differ : (m : System) → Differ m.unknown → Differ (clean m).system.unknown
unfolding clean
clean_differ m d = d

pub clean_ready : (m : System) → IsReady m → IsReady (clean m).system
clean_ready m r = record { formed = clean_formed m r.formed; differ = clean_differ m r.differ }

cleaned_less : (m : System) (p : ℕ) → length (clean m).system.equations ≤ 1000 → length (clean m).system.unknown ≤ 1000 →
    measure p (length (clean m).system.unknown) (length (clean m).system.equations) (held (clean m).system.unknown (clean m).system.equations)
    (stuck (clean m).system.unknown (clean m).system.equations) < measure p (length m.unknown) (length m.equations) (held m.unknown m.equations) 1
unfolding clean
cleaned_less m p le lu = clean_less m.unknown m.equations p le lu

clean_falls : (s t : State) (a : Taken) → Before s → s.is_past_clean ≡ false → clean_stage limits s ≡ goes t a → Falls s t
unfolding clean_stage
clean_falls s t a b c e =
    let x = count_passed (first_count limits s.system) _ t a e in
    let y = count_passed (first_count limits (clean s.system).system) _ t a x.1 in
    let k = counts_few (clean s.system).system y.0 in
    falls_at s _ t _ a y.1 (record { ready = clean_ready s.system b.ready; some = b.some; few = b.few; less = rw c (cleaned_less s.system s.tuples k.0 k.1) })

-- ---- an equation step
-- an equation without an unknown: the same state, to be cleaned
nothing_falls : (s : State) (e : Row) (rest : List Row) → Before s → s.is_past_clean ≡ true → s.system.equations ≡ e ∷ rest → present s.system.unknown e ≡ [] →
    Falls s (record { system = s.system; tuples = s.tuples; is_past_clean = false })
nothing_falls s e rest b c q p =
    let rise = subst (λ rows. EachRow (Rises 0) rows) q b.ready.formed.zero_rise in
    let z : stuck s.system.unknown s.system.equations ≡ 2 =
    subst (λ rows. stuck s.system.unknown rows ≡ 2) (sym q) (empty_stuck s.system.unknown e rest rise.0 p) in
    let i : need s.is_past_clean s.system.unknown s.system.equations ≡ 2 = rw c z in
    record {
      ready = b.ready;
      some = b.some;
      few = b.few;
      less = by_need s.tuples (length s.system.unknown) (length s.system.equations) (held s.system.unknown s.system.equations)
          (need s.is_past_clean s.system.unknown s.system.equations) 1 (omega arith);
    }

length-map_rows : (f : Row → Row) (rows : List Row) → length (map f rows) ≡ length rows
length-map_rows f [] = refl
length-map_rows f (r ∷ rows) = ap suc (length-map_rows f rows)

pub last_lengths : (m : System) (e : Row) (rest : List Row) (u : ℕ) →
    (length (last m e rest u).system.equations ≡ length rest) × (length (last m e rest u).system.unknown ≤ length m.unknown)
unfolding last
last_lengths m e rest u = (length-map_rows _ rest, filter_short (λ w. not (w == u)) m.unknown)

last_falls : (s : State) (e : Row) (rest : List Row) (u : ℕ) → Before s → s.system.equations ≡ e ∷ rest → present s.system.unknown e ≡ u ∷ [] →
    first_count limits (last s.system e rest u).system ≡ None →
    Falls s (record { system = (last s.system e rest u).system; tuples = s.tuples; is_past_clean = false })
last_falls s e rest u b q p n =
    let f = b.ready.formed in
    let rise = subst (λ rows. EachRow (Rises 0) rows) q f.zero_rise in
    let over = subst (λ rows. EachRow (Over (IsColumn s.system)) rows) q f.zero in
    let m = (last s.system e rest u).system in
    let k = counts_few m n in
    let l = last_lengths s.system e rest u in
    let i : length s.system.equations ≡ suc (length rest) = ap length q in
    record {
      ready = record {
        formed = last_formed s.system e rest u f q (only_unknown s.system e u over.0 rise.0 p);
        differ =
            last_differs s.system e rest u b.ready.differ;
      };
      some = b.some;
      few = b.few;
      less = by_equation s.tuples (length s.system.unknown) (length s.system.equations) (held s.system.unknown s.system.equations)
          (need s.is_past_clean s.system.unknown s.system.equations)
          (length m.unknown) (length m.equations) (held m.unknown m.equations) 1 l.1 (omega (arith, l.0)) k.1 (held_few m.unknown m.equations) (omega arith);
    }

length-replaced : (x y : ℕ) (us : List ℕ) → length (replaced x y us) ≡ length us
length-replaced x y [] = refl
length-replaced x y (u ∷ us) = ap suc (length-replaced x y us)

pub merge_lengths : (m : System) (e : Row) (x y : ℕ) →
    (length (merge m e x y).system.unknown ≡ length m.unknown) × (length (merge m e x y).system.equations ≡ length m.equations)
unfolding merge mix
merge_lengths m e x y = (rw (length-replaced, length-replaced) refl, rw (length-map_rows, length-map_rows) refl)

pub merge_ready : (m : System) (e : Row) (x y : ℕ) → IsReady m → In x m.unknown → In y m.unknown → x ≢ y → IsReady (merge m e x y).system
unfolding merge
merge_ready m e x y r ix iy n = record { formed = mix_formed m x y _ _ _ _ r.formed ix iy n; differ = mix_differs m x y _ _ _ _ r.formed r.differ }

merge_falls : (s : State) (e : Row) (rest : List Row) (x y : ℕ) (us : List ℕ) → Before s → s.system.equations ≡ e ∷ rest →
    present s.system.unknown e ≡ x ∷ y ∷ us →
    Falls s (record { system = (merge s.system e x y).system; tuples = s.tuples; is_past_clean = true })
merge_falls s e rest x y us b q p =
    let f = b.ready.formed in
    let over = subst (λ rows. EachRow (Over (IsColumn s.system)) rows) q f.zero in
    let low = Over-weaker (IsColumn s.system) (λ c. c < s.system.next) (column_below s.system f) e over.0 in
    let ix = In-present x s.system.unknown e (subst (λ xs. In x xs) (sym p) (inl refl)) in
    let iy = In-present y s.system.unknown e (subst (λ xs. In y xs) (sym p) (inr (inl refl))) in
    let d : Differ (x ∷ y ∷ us) = subst Differ p (Differ-filter _ s.system.unknown b.ready.differ) in
    let n : x ≢ y = λ i. d.0 (inl i) in
    let m = (merge s.system e x y).system in
    let l = merge_lengths s.system e x y in
    let h = merge_held s.system e rest x y f q low ix.0 iy.0 n ix.1 iy.1 in
    let i : held s.system.unknown s.system.equations ≡ length (present s.system.unknown e) = rw q refl in
    record {
      ready = merge_ready s.system e x y b.ready ix.0 iy.0 n;
      some = b.some;
      few = b.few;
      less = by_held s.tuples (length s.system.unknown) (length s.system.equations) (held s.system.unknown s.system.equations)
          (need s.is_past_clean s.system.unknown s.system.equations)
          (length m.unknown) (length m.equations) (held m.unknown m.equations) (stuck m.unknown m.equations) l.0 l.1
          (subst (λ k. held m.unknown m.equations < k) (sym i) h) (stuck_few m.unknown m.equations);
    }

equation_falls : (s t : State) (a : Taken) (e : Row) (rest : List Row) (us : List ℕ) → Before s → s.is_past_clean ≡ true → s.system.equations ≡ e ∷ rest →
    present s.system.unknown e ≡ us → equation_stage limits s e rest us ≡ goes t a → Falls s t
unfolding equation_stage
equation_falls s t a e rest [] b c q p g = falls_at s _ t _ a g (nothing_falls s e rest b c q p)
equation_falls s t a e rest (u ∷ []) b c q p g =
    let x = count_passed (first_count limits (last s.system e rest u).system) _ t a g in
    falls_at s _ t _ a (not_refused _ Past _ t a x.1).1 (last_falls s e rest u b q p x.0)
equation_falls s t a e rest (u ∷ w ∷ us) b c q p g =
    let x = count_passed (first_count limits (merge s.system e u w).system) _ t a g in
    falls_at s _ t _ a (not_refused _ Past _ t a x.1).1 (merge_falls s e rest u w us b q p)

-- ---- a Bound step
pub tuples_pick : (m : System) (x : ℕ) (us : List ℕ) (n : ℕ) → n ≤ 2 ^ 64 - 1 →
    fold times_bound n (searched_by m (pick m.inequalities x us)).bounds ≡ min (n * (pick m.inequalities x us).product) (2 ^ 64 - 1)
tuples_pick m x us n l = pick_is (λ c. fold times_bound n (searched_by m c).bounds ≡ min (n * c.product) (2 ^ 64 - 1)) m.inequalities x us
    (λ u i. tuples_are m u n l)

pub searched_ready : (m : System) (c : Pick) → IsReady m → In c.unknown m.unknown → m.equations ≡ [] →
    IsReady (searched_by m c).system × IsFree c.unknown (searched_by m c).system.equations
unfolding searched_by
searched_ready m c r i q =
    let free : IsFree c.unknown m.equations = subst (λ rows. IsFree c.unknown rows) (sym q) tt in
    let plain : Answer = record { system = m; steps = []; back = []; bounds = [] } in
    cond_both (nat_lt 1 c.product) (searched m c.unknown c.lower) plain (λ (a : Answer). IsReady a.system × IsFree c.unknown a.system.equations)
    (λ _. (
      record { formed = searched_formed m c.unknown c.lower r.formed i; differ = searched_differs m c.unknown c.lower r.formed r.differ },
      searched_free m c.unknown c.lower r.formed i free,
    ))
    (λ _. (r, free))

dropped_ready : (m : System) (x : ℕ) → IsReady m → IsFree x m.equations → IsReady (dropped m x).system
dropped_ready m x r f = record { formed = dropped_formed m x r.formed f; differ = dropped_differs m x r.differ }

pub bound_ready : (m : System) (c : Pick) → IsReady m → In c.unknown m.unknown → m.equations ≡ [] → IsReady (bound m c).system
unfolding bound
bound_ready m c r i q = let h = searched_ready m c r i q in dropped_ready (searched_by m c).system c.unknown h.0 h.1

dropped_short : (m : System) (x : ℕ) → In x m.unknown → length (dropped m x).system.unknown < length m.unknown
unfolding dropped
dropped_short m x i = filter_gone x m.unknown i

plain_short : (m : System) (c : Pick) → In c.unknown m.unknown → c.product ≤ 1 → length (bound m c).system.unknown < length m.unknown
unfolding bound
plain_short m c i l = rw (plain_search m c l) (dropped_short m c.unknown i)

plain_tuples : (m : System) (c : Pick) (n : ℕ) → c.product ≤ 1 → fold times_bound n (searched_by m c).bounds ≡ n
plain_tuples m c n l = rw (plain_search m c l) refl

-- a search at least doubles the tuples
pub doubled : (n p : ℕ) → 1 < p → min (n * p) (2 ^ 64 - 1) ≤ 1048576 → 2 * n ≤ min (n * p) (2 ^ 64 - 1)
doubled n p h l = let k = mul-le n 2 n p (omega arith) h in omega arith

bound_less : (s : State) (c : Pick) (n : ℕ) → Before s → In c.unknown s.system.unknown → n ≡ fold times_bound s.tuples (searched_by s.system c).bounds →
    n ≡ min (s.tuples * c.product) (2 ^ 64 - 1) → n ≤ 1048576 →
    first_count limits (bound s.system c).system ≡ None →
    (1 ≤ n) × (height (record { system = (bound s.system c).system; tuples = n; is_past_clean = false }) < height s)
bound_less s c n b i t d l k =
    let m = (bound s.system c).system in
    let few = counts_few m k in
    let p = b.some in
    on_bool (nat_lt 1 c.product)
    (λ g.
    let two : 2 * s.tuples ≤ n = subst (λ z. 2 * s.tuples ≤ z) (sym d) (doubled s.tuples c.product (ltb-true 1 c.product g) (subst (λ z. z ≤ 1048576) d l)) in (
      omega arith,
      by_search s.tuples (length s.system.unknown) (length s.system.equations) (held s.system.unknown s.system.equations)
          (need s.is_past_clean s.system.unknown s.system.equations)
          n (length m.unknown) (length m.equations) (held m.unknown m.equations) 1 p two l few.1 few.0 (held_few m.unknown m.equations) (omega arith),
    ))
    (λ g.
    let one = ltb-false 1 c.product g in
    let same : n ≡ s.tuples = t ∙ plain_tuples s.system c s.tuples one in (
      omega arith,
      by_unknown s.tuples (length s.system.unknown) (length s.system.equations) (held s.system.unknown s.system.equations)
          (need s.is_past_clean s.system.unknown s.system.equations)
          n (length m.unknown) (length m.equations) (held m.unknown m.equations) 1 same (plain_short s.system c i one) few.1 few.0
          (held_few m.unknown m.equations) (omega arith),
    ))

bound_falls : (s t : State) (a : Taken) (c : Pick) → Before s → In c.unknown s.system.unknown → s.system.equations ≡ [] →
    fold times_bound s.tuples (searched_by s.system c).bounds ≡ min (s.tuples * c.product) (2 ^ 64 - 1) →
    bound_stage limits s c ≡ goes t a → Falls s t
unfolding bound_stage
bound_falls s t a c b i q d g =
    let n = fold times_bound s.tuples (searched_by s.system c).bounds in
    let x = not_refused (nat_lt 1048576 n) (Limit Search n) _ t a g in
    let y = count_passed (first_count limits (bound s.system c).system) _ t a x.1 in
    let l = ltb-false 1048576 n x.0 in
    let h = bound_less s c n b i refl d l y.0 in
    falls_at s _ t _ a (not_refused _ Past _ t a y.1).1 (record { ready = bound_ready s.system c b.ready i q; some = h.0; few = l; less = h.1 })

unknown_falls : (s t : State) (a : Taken) (us : List ℕ) → Before s → s.system.equations ≡ [] → ((c : ℕ) → In c us → In c s.system.unknown) →
    unknown_stage limits s us ≡ goes t a → Falls s t
unfolding unknown_stage
unknown_falls s t a [] b q i g = cc
unknown_falls s t a (x ∷ us) b q i g =
    let c = pick s.system.inequalities x us in
    let few = b.few in
    bound_falls s t a c b (i c.unknown (pick_in s.system.inequalities x us)) q (tuples_pick s.system x us s.tuples (omega arith)) g

-- ---- one stage
row_falls : (s t : State) (a : Taken) (rows : List Row) → Before s → s.is_past_clean ≡ true → s.system.equations ≡ rows → row_stage limits s rows ≡ goes t a →
    Falls s t
unfolding row_stage
row_falls s t a [] b c q g = unknown_falls s t a s.system.unknown b q (λ w i. i) g
row_falls s t a (e ∷ rest) b c q g = equation_falls s t a e rest (present s.system.unknown e) b c q refl g

stage_falls : (s t : State) (a : Taken) → Before s → stage limits s ≡ goes t a → Falls s t
unfolding stage
stage_falls s t a b g = ⊎_elim
    (λ p. row_falls s t a s.system.equations b p.0 refl p.1)
    (λ p. clean_falls s t a b p.0 p.1) (one_of s.is_past_clean (row_stage limits s s.system.equations) (clean_stage limits s) t a g)

-- ---- the trace
-- a trace of at most n steps
abbrev Ended : ℕ → State → Type 0
Ended n s = (taken : List Taken) × (e : End) × Trace limits s taken e × (length taken ≤ n)

ended_next : (n : ℕ) (s : State) → Before s → ((t : State) → Before t → height t < height s → Ended n t) → Ended (suc n) s
ended_next n s b again = by (stage limits s) refl
  where
    by : (g : Stage) → stage limits s ≡ g → Ended (suc n) s
    by (ends e) p = ([], e, stop p, omega arith)
    by (goes t a) p =
        let f = stage_falls s t a b p in
        let r = again t (record { ready = f.ready; some = f.some; few = f.few }) f.less in
        (a ∷ r.0, r.1, more p r.2, let k = r.3 in omega arith)

ended_from : (n : ℕ) (s : State) → Before s → height s < n → Ended n s
ended_from zero s b h = absurd (omega arith)
ended_from (suc n) s b h = ended_next n s b (λ t c l. ended_from n t c (omega arith))

-- a system whose first count passes its limit ends at once
first_refused : (m : System) (r : Refusal) → first_count limits m ≡ Some r → stage limits (first_state m) ≡ ends (refused r)
unfolding stage clean_stage
first_refused m r e = rw e refl

ended_first : (m : System) → IsReady m → (o : Option Refusal) → first_count limits m ≡ o → Ended (2 ^ 63) (first_state m)
ended_first m r (Some q) e = ([], refused q, stop (first_refused m q e), omega arith)
ended_first m r None e =
    let k = counts_few m e in
    let l = measure_few 1 (length m.unknown) (length m.equations) (held m.unknown m.equations) 1 k.1 k.0 (held_few m.unknown m.equations) (omega arith) in
    ended_from (2 ^ 63) (first_state m) (record { ready = r; some = omega arith; few = omega arith }) l

-- the elimination of a system comes to an end in fewer than 2^64 steps
pub trace_ends : (m : System) → IsReady m → (taken : List Taken) × (e : End) × Trace limits (first_state m) taken e × (length taken < 2 ^ 64)
trace_ends m r = let h = ended_first m r (first_count limits m) refl in (h.0, h.1, h.2, let k = h.3 in omega arith)

-- its run is that trace
run_both : (m : System) → IsReady m → Trace limits (first_state m) (run limits m).taken (run limits m).end × (length (run limits m).taken < 2 ^ 64)
unfolding run
run_both m r =
    let h = trace_ends m r in
    let e = run-trace h.2 (2 ^ 64) h.3 in
    subst (λ (x : Run). Trace limits (first_state m) x.taken x.end × (length x.taken < 2 ^ 64)) (sym e) (h.2, h.3)

pub run_is_trace : (m : System) → IsReady m → Trace limits (first_state m) (run limits m).taken (run limits m).end
run_is_trace m r = (run_both m r).0

pub run_is_short : (m : System) → IsReady m → length (run limits m).taken < 2 ^ 64
run_is_short m r = (run_both m r).1
