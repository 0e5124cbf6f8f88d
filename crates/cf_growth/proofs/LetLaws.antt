-- Lets whose rows are over columns that stand already, and the greatest of some numbers.
use Rattle.std.proofs.Common.{◌≡◌, ℕ, ◌≤◌, ◌*◌, List, [], ◌∷◌, ◌++◌, refl, ◌∙◌, ap, arith, inl, inr, ⊎_elim, max, map}
use Rattle.std.specs.Prelude.{unsigned_abs}
use Rattle.std.specs.List.{fold}
use Rattle.std.specs.Int.{int_div_euclid}
use Rattle.cf_linear.specs.Rows.{Values, value, norm}
use Rattle.cf_linear.specs.Systems.{Step, floor_of, need_nonneg, need_zero, need_divides}
use Rattle.cf_linear.specs.Steps.{let_norm}
use Rattle.cf_linear.specs.Keep.{In, Over}
use Rattle.cf_linear.specs.Solved.{let_columns}
use Rattle.cf_growth.specs.Norms.{IsBounded}
use Rattle.cf_linear.proofs.KindLemmas.{Over-weaker}
use Rattle.cf_growth.specs.Growing.{LetsFit, StepsIn, LetsWithin}
use Rattle.cf_growth.proofs.NormLaws.{times_more, times_le, value_bound, sums_bound, quotient_bound}

-- ---- the greatest of some numbers
pub greatest-first : (a : ℕ) (ns : List ℕ) → a ≤ fold max a ns
greatest-first a [] = omega arith
greatest-first a (n ∷ ns) = let h = greatest-first (max a n) ns in omega arith

-- ---- rows of lets and needs
abbrev pub RowsIn : (ℕ → Type 0) → List Step → Type 0
RowsIn Q [] = Unit {0}
RowsIn Q (floor_of c r g ∷ ms) = Over Q r × RowsIn Q ms
RowsIn Q (need_nonneg r ∷ ms) = Over Q r × RowsIn Q ms
RowsIn Q (need_zero r ∷ ms) = Over Q r × RowsIn Q ms
RowsIn Q (need_divides g r ∷ ms) = Over Q r × RowsIn Q ms

-- with norms of at most f
abbrev pub LetsOf : (ℕ → Type 0) → ℕ → List Step → Type 0
LetsOf Q f [] = Unit {0}
LetsOf Q f (floor_of c r g ∷ ms) = Over Q r × (norm r ≤ f) × LetsOf Q f ms
LetsOf Q f (need_nonneg r ∷ ms) = LetsOf Q f ms
LetsOf Q f (need_zero r ∷ ms) = LetsOf Q f ms
LetsOf Q f (need_divides g r ∷ ms) = LetsOf Q f ms

pub lets_of : (Q : ℕ → Type 0) (f a : ℕ) (ms : List Step) → RowsIn Q ms → fold max a (map let_norm ms) ≤ f → LetsOf Q f ms
lets_of Q f a [] o h = tt
lets_of Q f a (floor_of c r g ∷ ms) o h =
    (o.0, (let i = greatest-first (max a (norm r)) (map let_norm ms) in omega arith), lets_of Q f (max a (norm r)) ms o.1 h)
lets_of Q f a (need_nonneg r ∷ ms) o h = lets_of Q f (max a 0) ms o.1 h
lets_of Q f a (need_zero r ∷ ms) o h = lets_of Q f (max a 0) ms o.1 h
lets_of Q f a (need_divides g r ∷ ms) o h = lets_of Q f (max a 0) ms o.1 h

pub rows_append : (Q : ℕ → Type 0) (ms ns : List Step) → RowsIn Q ms → RowsIn Q ns → RowsIn Q (ms ++ ns)
rows_append Q [] ns h k = k
rows_append Q (floor_of c r g ∷ ms) ns h k = (h.0, rows_append Q ms ns h.1 k)
rows_append Q (need_nonneg r ∷ ms) ns h k = (h.0, rows_append Q ms ns h.1 k)
rows_append Q (need_zero r ∷ ms) ns h k = (h.0, rows_append Q ms ns h.1 k)
rows_append Q (need_divides g r ∷ ms) ns h k = (h.0, rows_append Q ms ns h.1 k)

pub over_from : (Q R : ℕ → Type 0) → ((c : ℕ) → Q c → R c) → (ms : List Step) → ((c : ℕ) → In c (let_columns ms) → R c) → RowsIn Q ms → StepsIn R ms
over_from Q R f [] l o = tt
over_from Q R f (floor_of c r g ∷ ms) l o = (l c (inl refl), Over-weaker Q R f r o.0, over_from Q R f ms (λ d i. l d (inr i)) o.1)
over_from Q R f (need_nonneg r ∷ ms) l o = (Over-weaker Q R f r o.0, over_from Q R f ms l o.1)
over_from Q R f (need_zero r ∷ ms) l o = (Over-weaker Q R f r o.0, over_from Q R f ms l o.1)
over_from Q R f (need_divides g r ∷ ms) l o = (Over-weaker Q R f r o.0, over_from Q R f ms l o.1)

-- ---- what they are, and what is met in them
pub lets_bound : (Q : ℕ → Type 0) (b f : ℕ) (v : Values) (ms : List Step) → IsBounded Q b v → LetsOf Q f ms → LetsFit v ms → (c : ℕ) → In c (let_columns ms) →
    unsigned_abs (v c) ≤ f * b
lets_bound Q b f v [] h o l c i = absurd i
lets_bound Q b f v (floor_of d r g ∷ ms) h o l c i =
    ⊎_elim (λ (e : c ≡ d).
    let t = value_bound Q b v h r o.0 in
    let u = quotient_bound (value v r) g in
    let w = times_le (norm r) f b o.1 in
    let x : unsigned_abs (v c) ≡ unsigned_abs (int_div_euclid (value v r) g) = ap unsigned_abs (ap v e ∙ l.0) in
    omega arith)
    (λ j. lets_bound Q b f v ms h o.2 l.1 c j) i
lets_bound Q b f v (need_nonneg r ∷ ms) h o l c i = lets_bound Q b f v ms h o l c i
lets_bound Q b f v (need_zero r ∷ ms) h o l c i = lets_bound Q b f v ms h o l c i
lets_bound Q b f v (need_divides g r ∷ ms) h o l c i = lets_bound Q b f v ms h o l c i

pub lets_met : (Q : ℕ → Type 0) (b f : ℕ) (v : Values) (ms : List Step) → 1 ≤ b → 1 ≤ f → IsBounded Q b v → LetsOf Q f ms → LetsWithin (f * b) v ms
lets_met Q b f v [] s sf h o = tt
lets_met Q b f v (floor_of c r g ∷ ms) s sf h o =
    (sums_bound Q b (f * b) v s h r o.0 (times_more f b sf) (times_le (norm r) f b o.1), lets_met Q b f v ms s sf h o.2)
lets_met Q b f v (need_nonneg r ∷ ms) s sf h o = lets_met Q b f v ms s sf h o
lets_met Q b f v (need_zero r ∷ ms) s sf h o = lets_met Q b f v ms s sf h o
lets_met Q b f v (need_divides g r ∷ ms) s sf h o = lets_met Q b f v ms s sf h o
