-- Clean and the drop of an unknown owe what a whole elimination needs.
use Rattle.std.proofs.Common.{◌≡◌, ℕ, ◌+◌, pos, List, [], ◌∷◌, ◌++◌, Bool, true, false, not, ◌==◌, refl, sym, ◌∙◌, ap, arith, subst, ◌⊎◌, inl, inr, ⊎_elim}
use Rattle.std.proofs.lemmas.Bool.{cond_both, eqb-false, true≢false, or_parts}
use Rattle.std.specs.Prelude.{filter, map}
use Rattle.cf_linear.specs.Rows.{Row}
use Rattle.cf_linear.specs.Systems.{System, EachRow, Step, floor_of, need_nonneg, need_zero}
use Rattle.cf_linear.specs.Steps.{lowers, uppers, has_column, has_unknown, known_part, how_between, clean, Tightened, then_tighten, dropped}
use Rattle.cf_linear.specs.Keep.{In, Over, IsColumn, Formed}
use Rattle.cf_linear.specs.Solved.{let_columns, Rising, StepsOver, Owes}
use Rattle.cf_linear.proofs.KindLemmas.{EachRow-filter, EachRow-with, EachRow-tested, Over-weaker, let_columns-append, Rising-le, Rising-append, In-append, In-left, In-right}
use Rattle.cf_linear.proofs.SolvedLemmas.{StepsOver-append, StepsOver-weaker}
use Rattle.cf_linear.proofs.FormedLemmas.{Kinds, low_from, still, one_kept}
use Rattle.cf_bounds.specs.Exact.{IsFree, AreExact}
use Rattle.cf_bounds.proofs.DropLemmas.{dropped_keeps}
use Rattle.cf_bounds.proofs.CleanLemmas.{clean_keeps, by_row, with_kept, unknowns_of, tight}

pub dropped_step : (m : System) (x : ℕ) → Kinds m → In x m.unknown → IsFree x m.equations → AreExact x m.inequalities → Owes m (dropped m x)
unfolding dropped
dropped_step m x f i free ex = still m (dropped m x) f (dropped_keeps m x free ex) refl (omega arith) refl refl
    (one_kept m x (how_between x (lowers x m.inequalities) (uppers x m.inequalities)) f i)

-- ---- Clean
pub has-in : (c : ℕ) (us : List ℕ) → In c us → has_column us c ≡ true
has-in c [] i = absurd i
has-in c (u ∷ us) i = cond_both (u == c) (pos 0) (pos 0) (λ _. has_column (u ∷ us) c ≡ true) (λ e. rw e refl)
    (λ e. ⊎_elim (λ (j : c ≡ u). absurd (eqb-false u c e (sym j))) (λ j. rw e (has-in c us j)) i)

not_both : (b : Bool) → b ≡ true → not b ≡ true → ⊥
not_both true e n = absurd (true≢false (sym n))
not_both false e n = absurd (true≢false (sym e))

known_over : (K : ℕ → Type 0) (us : List ℕ) (r : Row) → Over (λ c. K c ⊎ In c us) r → Over K (known_part us r)
known_over K us [] o = tt
known_over K us ((c, k) ∷ r) o =
    cond_both (not (has_column us c)) ((c, k) ∷ known_part us r) (known_part us r) (λ y. Over K y)
    (λ e. (⊎_elim (λ i. i) (λ i. absurd (not_both (has_column us c) (has-in c us i) e)) o.0, known_over K us r o.1)) (λ e. known_over K us r o.1)

none_over : (K : ℕ → Type 0) (us : List ℕ) (r : Row) → has_unknown us r ≡ false → Over (λ c. K c ⊎ In c us) r → Over K r
none_over K us [] e o = tt
none_over K us ((c, k) ∷ r) e o =
    let p = or_parts (has_column us c) (has_unknown us r) e in
    (⊎_elim (λ i. i) (λ i. absurd (true≢false (sym (has-in c us i) ∙ p.0))) o.0, none_over K us r p.1 o.1)

pub record TightenedColumns (K : ℕ → Type 0) (lo : ℕ) (t : Tightened) : Type 0 where
  pub same : let_columns t.steps ≡ t.made
  pub rise : Rising lo t.next (let_columns t.steps)
  pub over : StepsOver K t.steps

made_row : (K : ℕ → Type 0) (lo : ℕ) (us : List ℕ) (t : Tightened) (r : Row) → Over (λ c. K c ⊎ In c us) r → TightenedColumns K lo t →
    TightenedColumns K lo (then_tighten us t r)
made_row K lo us t r o h =
    by_row (TightenedColumns K lo) us t r (kept r) (λ _ _. kept _)
    (λ _.
    let m = floor_of t.next (known_part us r) (pos (unknowns_of us r)) in
    record {
      same = let_columns-append t.steps (m ∷ []) ∙ ap (λ x. x ++ (t.next ∷ [])) h.same;
      rise = subst (λ x. Rising lo (t.next + 1) x) (sym (let_columns-append t.steps (m ∷ [])))
          (Rising-append lo t.next (t.next + 1) (let_columns t.steps) (t.next ∷ []) h.rise (omega arith, omega arith));
      over = StepsOver-append K t.steps (m ∷ []) h.over
          (Over-weaker K (λ c. In c (let_columns t.steps) ⊎ K c) (λ c k. inr k) (known_part us r) (known_over K us r o), tt);
    })
  where
    kept : (r : Row) → TightenedColumns K lo (with_kept t r)
    kept r = record { same = h.same; rise = h.rise; over = h.over }

pub made_all : (K : ℕ → Type 0) (lo : ℕ) (us : List ℕ) (rows : List Row) (t : Tightened) → EachRow (Over (λ c. K c ⊎ In c us)) rows → TightenedColumns K lo t →
    TightenedColumns K lo (tight us t rows)
made_all K lo us [] t o h = h
made_all K lo us (r ∷ rows) t o h = made_all K lo us rows (then_tighten us t r) o.1 (made_row K lo us t r o.0 h)

zeros_over : (K : ℕ → Type 0) (rows : List Row) → EachRow (Over K) rows → (StepsOver K (map need_zero rows)) × (let_columns (map need_zero rows) ≡ [])
zeros_over K [] h = (tt, refl)
zeros_over K (r ∷ rows) h = let z = zeros_over K rows h.1 in ((h.0, z.0), z.1)

nonnegs_over : (K : ℕ → Type 0) (rows : List Row) → EachRow (Over K) rows → (StepsOver K (map need_nonneg rows)) × (let_columns (map need_nonneg rows) ≡ [])
nonnegs_over K [] h = (tt, refl)
nonnegs_over K (r ∷ rows) h = let z = nonnegs_over K rows h.1 in ((h.0, z.0), z.1)

not_true : (b : Bool) → not b ≡ true → b ≡ false
not_true true e = sym e
not_true false e = refl

pub clean_step : (m : System) → Formed m → Owes m (clean m)
unfolding clean
clean_step m f =
    let us = m.unknown in
    let K : ℕ → Type 0 = λ c. In c m.known in
    let N : ℕ → Type 0 = λ c. In c m.known ⊎ In c [] in
    let bare : Row → Bool = λ r. not (has_unknown us r) in
    let zeros = filter (λ r. not (has_unknown us r)) m.equations in
    let nonnegs = filter (λ r. not (has_unknown us r)) m.inequalities in
    let start : Tightened = record { next = m.next; made = []; steps = []; rows = [] } in
    let t = tight us start (filter (has_unknown us) m.inequalities) in
    let made = made_all K m.next us (filter (has_unknown us) m.inequalities) start (EachRow-filter (Over (IsColumn m)) (has_unknown us) m.inequalities f.nonneg)
    (record { same = refl; rise = omega arith; over = tt }) in
    let bare_rows : (rows : List Row) → EachRow (Over (IsColumn m)) rows → EachRow (Over K) (filter (λ r. not (has_unknown us r)) rows) = λ rows o.
    EachRow-with (λ r. not (has_unknown us r) ≡ true) (Over (IsColumn m)) (Over K) (λ r e q. none_over K us r (not_true (has_unknown us r) e) q)
    (filter bare rows)
    (EachRow-tested (λ r. not (has_unknown us r) ≡ true) bare (λ r e. e) rows) (EachRow-filter (Over (IsColumn m)) bare rows o) in
    let zo = zeros_over K zeros (bare_rows m.equations f.zero) in
    let no = nonnegs_over K nonnegs (bare_rows m.inequalities f.nonneg) in
    let zn = map need_zero zeros ++ map need_nonneg nonnegs in
    let lets_zn : let_columns (map need_zero zeros ++ map need_nonneg nonnegs) ≡ [] =
    let_columns-append (map need_zero zeros) (map need_nonneg nonnegs) ∙ rw (zo.1, no.1) refl in
    let lets_all : let_columns (zn ++ t.steps) ≡ let_columns t.steps = let_columns-append zn t.steps ∙ ap (λ x. x ++ let_columns t.steps) lets_zn in
    let wide : (ms : List Step) → (d : ℕ → Type 0) → StepsOver K ms → StepsOver (λ c. d c ⊎ K c) ms =
    λ ms d o. StepsOver-weaker K (λ c. d c ⊎ K c) (λ c k. inr k) ms o in
    let over : StepsOver K (zn ++ t.steps) = StepsOver-append K zn t.steps
    (StepsOver-append K (map need_zero zeros) (map need_nonneg nonnegs) zo.0
    (wide (map need_nonneg nonnegs) (λ c. In c (let_columns (map need_zero zeros))) no.0))
    (wide t.steps (λ c. In c (let_columns zn)) made.over) in
    record {
      keeps = clean_keeps m (low_from m f) (f.below 0 f.constant) f.nonneg_rise;
      kept = λ v c k. refl;
      columns = record {
        constant = f.constant;
        below = f.below;
        grows = λ c k. In-left c m.known t.made k;
        bound_known = λ c i. absurd i;
        let_known = λ c i. In-right c m.known t.made (subst (λ x. In c x) (lets_all ∙ made.same) i);
        only = λ c k. ⊎_elim (λ i. inr (inl i)) (λ i. inl (subst (λ x. In c x) (sym (lets_all ∙ made.same)) i)) (In-append c m.known t.made k);
        over = StepsOver-weaker K N (λ c k. inl k) (zn ++ t.steps) over;
        bounds_rise = (let q = Rising-le m.next t.next (let_columns t.steps) made.rise in q);
        lets_rise = subst (λ x. Rising m.next t.next x) (sym lets_all) made.rise;
        apart = λ c i j. i;
      };
    }
