-- A Clean lets the known columns grow by at most the greatest norm of a row that gets a new column.
use Rattle.std.proofs.Common.{◌≡◌, ℕ, ◌≤◌, pos, List, [], ◌∷◌, ◌++◌, false, not, refl, sym, ◌∙◌, arith, subst, inl, inr, ⊎_elim, max, map, cond, ◌==◌}
use Rattle.std.specs.Prelude.{filter, nat_le, ◌||◌, Option, Some, None}
use Rattle.std.specs.List.{fold, list_all}
use Rattle.std.proofs.lemmas.Bool.{cond_both, true≢false}
use Rattle.cf_linear.specs.Rows.{Row, comb}
use Rattle.cf_linear.specs.Systems.{System, EachRow, Step, floor_of, need_nonneg, need_zero, need_divides}
use Rattle.cf_linear.specs.Steps.{has_column, has_unknown, unknown_part, known_part, common, divides_it, divided, one_at, tighten_row, Tightened, next_tightened, then_tighten, clean, greatest_of, let_norm}
use Rattle.cf_linear.specs.Keep.{In, Over, IsColumn, Formed}
use Rattle.cf_linear.specs.Solved.{let_columns}
use Rattle.cf_linear.proofs.BoolLemmas.{on_bool}
use Rattle.cf_linear.proofs.KindLemmas.{In-append, In-left, In-right, let_columns-append, EachRow-filter}
use Rattle.cf_bounds.proofs.OwesLemmas.{has-in}
use Rattle.cf_growth.specs.Growing.{IsKnown, Grows}
use Rattle.cf_growth.proofs.NormLaws.{times_more}
use Rattle.cf_growth.proofs.LetLaws.{RowsIn, lets_of, rows_append, over_from, lets_bound, lets_met}

-- ---- the known part
known_over : (m : System) (r : Row) → Over (IsColumn m) r → Over (IsKnown m) (known_part m.unknown r)
known_over m [] o = tt
known_over m ((c, k) ∷ r) o =
    on_bool (has_column m.unknown c) (λ t. rw t (known_over m r o.1))
    (λ f. rw f (⊎_elim (λ i. i) (λ i. absurd (true≢false (sym (has-in c m.unknown i) ∙ f))) o.0, known_over m r o.1))

-- ---- one row
abbrev Makes : (ℕ → Type 0) → ℕ → Option Step → Type 0
Makes Q n None = Unit {0}
Makes Q n (Some (floor_of c r g)) = (c ≡ n) × Over Q r
Makes Q n (Some (need_nonneg r)) = ⊥
Makes Q n (Some (need_zero r)) = ⊥
Makes Q n (Some (need_divides g r)) = ⊥

tight_makes : (m : System) (n : ℕ) (r : Row) → Over (IsColumn m) r → Makes (IsKnown m) n (tighten_row m.unknown n r).0
tight_makes m n r o =
    let us = m.unknown in
    let Says : Option Step × Row → Type 0 = λ p. Makes (IsKnown m) n p.0 in
    let g = common (unknown_part us r) in
    let whole = list_all (λ (c, k). (c == 0) || divides_it g k) (known_part us r) in
    let z : Option Step × Row = (None, r) in
    let a : Option Step × Row = (None, divided g r) in
    let b : Option Step × Row = (Some (floor_of n (known_part us r) (pos g)), comb (pos 1) (divided g (unknown_part us r)) (pos 1) (one_at n)) in
    cond_both (nat_le g 1) z (cond whole a b) Says (λ _. tt) (λ _. cond_both whole a b Says (λ _. tt) (λ _. (refl, known_over m r o)))

-- ---- all rows
-- the new columns are those of the lets, whose rows are over the kind
record Tight (Q : ℕ → Type 0) (t : Tightened) : Type 0 where
  made : (c : ℕ) → In c t.made → In c (let_columns t.steps)
  back : (c : ℕ) → In c (let_columns t.steps) → In c t.made
  rows : RowsIn Q t.steps

tight_next : (Q : ℕ → Type 0) (t : Tightened) (p : Option Step × Row) → Makes Q t.next p.0 → Tight Q t → Tight Q (next_tightened t p)
tight_next Q t (None, r) k h = record { made = h.made; back = h.back; rows = h.rows }
tight_next Q t (Some (floor_of c s g), r) k h = record {
  made = λ d i. subst (λ cs. In d cs) (sym (let_columns-append t.steps (floor_of c s g ∷ [])))
      (⊎_elim (λ j. In-left d (let_columns t.steps) (c ∷ []) (h.made d j))
      (λ j. In-right d (let_columns t.steps) (c ∷ []) (⊎_elim (λ e. inl (e ∙ sym k.0)) (λ e. absurd e) j)) (In-append d t.made (t.next ∷ []) i));
  back = λ d i. ⊎_elim (λ j. In-left d t.made (t.next ∷ []) (h.back d j)) (λ j. In-right d t.made (t.next ∷ []) (⊎_elim (λ e. inl (e ∙ k.0)) (λ e. absurd e) j))
      (In-append d (let_columns t.steps) (c ∷ []) (subst (λ cs. In d cs) (let_columns-append t.steps (floor_of c s g ∷ [])) i));
  rows = rows_append Q t.steps (floor_of c s g ∷ []) h.rows (k.1, tt);
}
tight_next Q t (Some (need_nonneg s), r) k h = absurd k
tight_next Q t (Some (need_zero s), r) k h = absurd k
tight_next Q t (Some (need_divides g s), r) k h = absurd k

all_tight : (m : System) (rows : List Row) (t : Tightened) → EachRow (Over (IsColumn m)) rows → Tight (IsKnown m) t →
    Tight (IsKnown m) (fold (then_tighten m.unknown) t rows)
all_tight m [] t o h = h
all_tight m (r ∷ rows) t o h = all_tight m rows (then_tighten m.unknown t r) o.1
    (tight_next (IsKnown m) t (tighten_row m.unknown t.next r) (tight_makes m t.next r o.0) h)

-- ---- needs are no lets, and have no unknowns
row_known : (m : System) (r : Row) → Over (IsColumn m) r → has_unknown m.unknown r ≡ false → Over (IsKnown m) r
row_known m [] o h = tt
row_known m ((c, k) ∷ r) o h =
    on_bool (has_column m.unknown c) (λ t. absurd (true≢false (rw t at h)))
    (λ f. (⊎_elim (λ i. i) (λ i. absurd (true≢false (sym (has-in c m.unknown i) ∙ f))) o.0, row_known m r o.1 (rw f at h)))

rows_known : (m : System) (rows : List Row) → EachRow (Over (IsColumn m)) rows → EachRow (Over (IsKnown m)) (filter (λ r. not (has_unknown m.unknown r)) rows)
rows_known m [] o = tt
rows_known m (r ∷ rows) o =
    on_bool (has_unknown m.unknown r) (λ t. rw t (rows_known m rows o.1)) (λ f. rw f (row_known m r o.0 f, rows_known m rows o.1))

zero_rows : (Q : ℕ → Type 0) (rows : List Row) → EachRow (Over Q) rows → RowsIn Q (map need_zero rows)
zero_rows Q [] h = tt
zero_rows Q (r ∷ rows) h = (h.0, zero_rows Q rows h.1)

nonneg_rows : (Q : ℕ → Type 0) (rows : List Row) → EachRow (Over Q) rows → RowsIn Q (map need_nonneg rows)
nonneg_rows Q [] h = tt
nonneg_rows Q (r ∷ rows) h = (h.0, nonneg_rows Q rows h.1)

zero_columns : (rows : List Row) → let_columns (map need_zero rows) ≡ []
zero_columns [] = refl
zero_columns (r ∷ rows) = zero_columns rows

nonneg_columns : (rows : List Row) → let_columns (map need_nonneg rows) ≡ []
nonneg_columns [] = refl
nonneg_columns (r ∷ rows) = nonneg_columns rows

all_columns : (zeros nonnegs : List Row) (ms : List Step) → let_columns (map need_zero zeros ++ map need_nonneg nonnegs ++ ms) ≡ let_columns ms
all_columns zeros nonnegs ms =
    let_columns-append (map need_zero zeros ++ map need_nonneg nonnegs) ms ∙
    rw (let_columns-append (map need_zero zeros) (map need_nonneg nonnegs), zero_columns zeros, nonneg_columns nonnegs) refl

-- ---- the step
pub grows_clean : (m : System) → Formed m → Grows m (clean m) (max 1 (greatest_of (map let_norm (clean m).steps))) 1
unfolding clean
grows_clean m f =
    let zeros = filter (λ r. not (has_unknown m.unknown r)) m.equations in
    let nonnegs = filter (λ r. not (has_unknown m.unknown r)) m.inequalities in
    let rows = filter (has_unknown m.unknown) m.inequalities in
    let start : Tightened = record { next = m.next; made = []; steps = []; rows = [] } in
    let t = fold (then_tighten m.unknown) start rows in
    let ms = map need_zero zeros ++ map need_nonneg nonnegs ++ t.steps in
    let n = max 1 (greatest_of (map let_norm ms)) in
    let first : Tight (IsKnown m) start = record { made = λ c i. i; back = λ c i. i; rows = tt } in
    let h = all_tight m rows start (EachRow-filter (Over (IsColumn m)) (has_unknown m.unknown) m.inequalities f.nonneg) first in
    let of_rows : RowsIn (IsKnown m) ms = rows_append (IsKnown m) (map need_zero zeros ++ map need_nonneg nonnegs) t.steps
    (rows_append (IsKnown m) (map need_zero zeros) (map need_nonneg nonnegs) (zero_rows (IsKnown m) zeros (rows_known m m.equations f.zero))
    (nonneg_rows (IsKnown m) nonnegs (rows_known m m.inequalities f.nonneg))) h.rows in
    let of = lets_of (IsKnown m) n 0 ms of_rows (omega arith) in
    let in_lets : (c : ℕ) → In c t.made → In c (let_columns ms) = λ c i. subst (λ cs. In c cs) (sym (all_columns zeros nonnegs t.steps)) (h.made c i) in
    let in_made : (c : ℕ) → In c (let_columns ms) → In c t.made = λ c i. h.back c (subst (λ cs. In c cs) (all_columns zeros nonnegs t.steps) i) in
    let some : 1 ≤ n = omega arith in
    record {
      forth_some = omega arith;
      back_some = omega arith;
      known = λ v k s w l b c i.
          let e = times_more n k some in
          ⊎_elim (λ j. let q = b c j in omega arith) (λ j. lets_bound (IsKnown m) k n v ms b of l c (in_lets c j)) (In-append c m.known t.made i);
      lets = λ v k s w l b. lets_met (IsKnown m) k n v ms s some b of;
      stood = λ v k b s w l h le hb c i.
          let q = hb c (⊎_elim (λ j. inl (In-left c m.known t.made j)) (λ j. inr j) i) in
          omega arith;
      back = λ v k b s w l h le hb. tt;
      stay = λ c i. In-left c m.known t.made i;
      searches = λ c i. absurd i;
      over = over_from (IsKnown m) (λ c. In c (m.known ++ t.made)) (λ c i. In-left c m.known t.made i) ms (λ c i. In-right c m.known t.made (in_made c i))
          of_rows;
      kept = λ v c i. refl;
    }
