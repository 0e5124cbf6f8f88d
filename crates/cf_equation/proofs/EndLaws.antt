-- The end of an equation keeps the solutions.
use Rattle.std.proofs.Common.{zero, ◌++◌, ◌≡◌, ◌≢◌, ℕ, ◌<◌, ◌+◌, ℤ, pos, negsuc, neg_ℤ, ◌+ℤ◌, ◌*ℤ◌, List, [], ◌∷◌, true, false, not, ◌==◌, refl, sym, ◌∙◌, ap, arith, suc, subst}
use Rattle.std.specs.Prelude.{◌≤ℤ◌, filter, unsigned_abs, if◌then◌else◌}
use Rattle.std.specs.Int.{int_div_euclid}
use Rattle.std.proofs.lemmas.Int.{ints}
use Rattle.std.proofs.lemmas.Bool.{cond_both, eqb-true, lt-ltb}
use Rattle.cf_num.proofs.Ring.{ring}
use Rattle.cf_num.proofs.DivisionLemmas.{int_div_euclid_once}
use Rattle.cf_linear.specs.Relations.{Divides}
use Rattle.cf_linear.specs.Rows.{Row, Values, entry, value, comb, without}
use Rattle.cf_linear.specs.Systems.{System, Answer, Step, EachRow, floor_of, need_divides, row_how}
use Rattle.cf_linear.specs.Steps.{subst_all, last, is_unit, is_positive}
use Rattle.cf_linear.specs.Keep.{Same, AllFit, Keeps, Reaches, update}
use Rattle.cf_linear.proofs.RowLemmas.{value-comb}
use Rattle.cf_linear.proofs.KindLemmas.{IsZero, Below, Over-filter}
use Rattle.cf_linear.proofs.ValueLemmas.{EachRow-subst, EachRow-unsubst, EachRow-same, value-same, value-split, value-update, update-at, update-same}
use Rattle.cf_linear.proofs.FormedLemmas.{Low}

abbrev pub IsNull : ℤ → Type 0
IsNull z = z ≡ pos 0

abbrev pub IsLeast0 : ℤ → Type 0
IsLeast0 z = pos 0 ≤ℤ z

-- u gives way to the row s
abbrev pub gone : System → List Row → ℕ → Row → List ℕ → ℕ → ℕ → List Step → Answer
gone m rest u s known next needs steps =
    record {
      system = record {
        known = known;
        unknown = filter (λ w. not (w == u)) m.unknown;
        next = next;
        equations = subst_all u s rest;
        inequalities =
            subst_all u s m.inequalities;
        needs = needs;
      };
      steps = steps;
      back = (u, row_how s) ∷ [];
      bounds = [];
    }

-- to set a column to its own value changes nothing
pub update_own : (w : Values) (u : ℕ) (z : ℤ) → w u ≡ z → (c : ℕ) → update w u z c ≡ w c
update_own w u z e c = cond_both (c == u) z (w c) (λ y. y ≡ w c) (λ t. sym e ∙ ap w (sym (eqb-true c u t))) (λ t. refl)

-- from each solution the unknown's row goes on
abbrev Forward : System → Row → ℕ → Row → List Step → Type 0
Forward m e u s steps = (v : Values) → value v e ≡ pos 0 → (w : Values) × Same m.next v w × AllFit w steps × (w u ≡ value w s)

pub gone_reaches : (m : System) (e : Row) (rest : List Row) (u : ℕ) (s : Row) (known : List ℕ) (next needs : ℕ) (steps : List Step) → m.equations ≡ e ∷ rest →
    Low m →
    Forward m e u s steps → Reaches m (gone m rest u s known next needs steps)
gone_reaches m e rest u s known next needs steps eq low fwd v _ h =
    let zs = subst (λ rows. EachRow (IsZero v) rows) eq h.zero in
    let bs = subst (λ rows. EachRow (Below m.next) rows) eq low.zero in
    let f = fwd v zs.0 in
    let w = f.0 in (
      w,
      (
        f.1,
        tt,
        f.2,
        record {
          zero = EachRow-subst IsNull w u s f.3 rest (EachRow-same IsNull m.next v w f.1 rest bs.1 zs.1);
          nonneg = EachRow-subst IsLeast0 w u s f.3 m.inequalities (EachRow-same IsLeast0 m.next v w f.1 m.inequalities low.nonneg h.nonneg);
        },
      ),
      λ c l. f.1 c l ∙ sym (update_own w u (value w s) f.3 c),
    )

pub gone_keeps : (m : System) (e : Row) (rest : List Row) (u : ℕ) (s : Row) (known : List ℕ) (next needs : ℕ) (steps : List Step) → m.equations ≡ e ∷ rest →
    Low m →
    Forward m e u s steps → ((v : Values) → AllFit v steps → value (update v u (value v s)) e ≡ pos 0) →
    Keeps m (gone m rest u s known next needs steps)
gone_keeps m e rest u s known next needs steps eq low fwd bwd = record {
  forth = λ v one h. let r = gone_reaches m e rest u s known next needs steps eq low fwd v one h in (r.0, r.1.0, r.1.1, r.1.2, r.1.3);
  back = λ v _ _ fit h.
      record {
        zero = subst (λ rows. EachRow (IsZero (update v u (value v s))) rows) (sym eq) (bwd v fit, EachRow-unsubst IsNull v u s rest h.zero);
        nonneg = EachRow-unsubst IsLeast0 v u s m.inequalities h.nonneg;
      };
}

-- ---- the last unknown, with coefficient 1 or -1
square_is : (c : ℤ) → is_unit c ≡ true → c *ℤ c ≡ pos 1
square_is (pos n) e = let h = eqb-true n 1 e in rw h refl
square_is (negsuc n) e = let h : n ≡ 0 = let k = eqb-true (suc n) 1 e in omega arith in rw h refl

unit_is : (c u r : ℤ) → is_unit c ≡ true → r +ℤ c *ℤ u ≡ pos 0 → u ≡ neg_ℤ c *ℤ r
unit_is c u r h e =
    let q = simp ring at (ap (λ x. x *ℤ u) (square_is c h)) in
    let t = simp ring at (ap (λ x. c *ℤ x) e) in
    simp ring (omega (arith, ints))

unit_solves : (c r : ℤ) → is_unit c ≡ true → r +ℤ c *ℤ (neg_ℤ c *ℤ r) ≡ pos 0
unit_solves c r h =
    let q = simp ring at (ap (λ x. x *ℤ r) (square_is c h)) in
    simp ring (omega (arith, ints))

-- ---- and with another
-- the size, and the sign of the row for u
abbrev pub size : ℤ → ℤ
size c = pos (unsigned_abs c)

abbrev pub turn : ℤ → ℤ
turn c = (if is_positive c then negsuc 0 else pos 1)

turn-pos : (n : ℕ) → turn (pos (suc n)) ≡ negsuc 0
turn-pos n = rw (lt-ltb 0 (suc n) (omega arith)) refl

minus_z : (r k q : ℤ) → r ≡ k *ℤ q → r +ℤ k *ℤ (negsuc 0 *ℤ q) ≡ pos 0
minus_z r k q e = let m : negsuc 0 *ℤ q ≡ neg_ℤ q = omega (arith, ints) in rw (m, e) (simp ring (omega (arith, ints)))

plus_z : (r q : ℤ) (n : ℕ) → r ≡ pos (suc n) *ℤ q → r +ℤ negsuc n *ℤ (pos 1 *ℤ q) ≡ pos 0
plus_z r q n e = let m : pos 1 *ℤ q ≡ q = omega (arith, ints) in rw (m, e) (omega (arith, ints))

divides_from : (c u r : ℤ) → r +ℤ c *ℤ u ≡ pos 0 → c ≢ pos 0 → Divides (size c) r × (u ≡ turn c *ℤ int_div_euclid r (size c))
divides_from (pos zero) u r e h = absurd (h refl)
divides_from (pos (suc n)) u r e h =
    let i : r ≡ pos (suc n) *ℤ neg_ℤ u = simp ring (omega (arith, ints)) in
    let f : int_div_euclid r (pos (suc n)) ≡ neg_ℤ u =
    int_div_euclid_once r (pos (suc n)) (neg_ℤ u) (omega (arith, ints)) (omega (arith, ints)) (omega (arith, ints)) in
    ((neg_ℤ u, i), rw (turn-pos n, f) (omega (arith, ints)))
divides_from (negsuc n) u r e h =
    let i : r ≡ pos (suc n) *ℤ u = simp ring (omega (arith, ints)) in
    let f : int_div_euclid r (pos (suc n)) ≡ u = int_div_euclid_once r (pos (suc n)) u (omega (arith, ints)) (omega (arith, ints)) (omega (arith, ints)) in
    ((u, i), rw f (omega (arith, ints)))

divides_solves : (c r : ℤ) → c ≢ pos 0 → Divides (size c) r → r +ℤ c *ℤ (turn c *ℤ int_div_euclid r (size c)) ≡ pos 0
divides_solves (pos zero) r h d = absurd (h refl)
divides_solves (pos (suc n)) r h d =
    let f : int_div_euclid r (pos (suc n)) ≡ d.0 =
    int_div_euclid_once r (pos (suc n)) d.0 (omega (arith, ints)) (omega (arith, ints, d.1)) (omega (arith, ints, d.1)) in
    rw (turn-pos n, f) (minus_z r (pos (suc n)) d.0 d.1)
divides_solves (negsuc n) r h d =
    let f : int_div_euclid r (pos (suc n)) ≡ d.0 =
    int_div_euclid_once r (pos (suc n)) d.0 (omega (arith, ints)) (omega (arith, ints, d.1)) (omega (arith, ints, d.1)) in
    rw f (plus_z r d.0 n d.1)

abbrev pub unit_row : ℕ → Row → Row
unit_row u e = comb (neg_ℤ (entry e u)) (without u e) (pos 0) []

abbrev pub turned_row : ℕ → ℕ → Row → Row
turned_row d u e = (d, turn (entry e u)) ∷ []

value-unit_row : (v : Values) (u : ℕ) (e : Row) → value v (unit_row u e) ≡ neg_ℤ (entry e u) *ℤ value v (without u e)
value-unit_row v u e = value-comb v (neg_ℤ (entry e u)) (without u e) (pos 0) [] ∙ omega (arith, ints)

value-turned_row : (v : Values) (d u : ℕ) (e : Row) → value v (turned_row d u e) ≡ turn (entry e u) *ℤ v d
value-turned_row v d u e = omega (arith, ints)

Below-without : (n x : ℕ) (r : Row) → Below n r → Below n (without x r)
Below-without n x r h = Over-filter (λ c. c < n) (λ (c, k). not (c == x)) r h

abbrev pub unit_answer : System → Row → List Row → ℕ → Answer
unit_answer m e rest u = gone m rest u (unit_row u e) m.known m.next m.needs []

abbrev pub divided_answer : System → Row → List Row → ℕ → Answer
divided_answer m e rest u =
    gone m rest u (turned_row m.next u e) (m.known ++ (m.next ∷ [])) (m.next + 1) (m.needs + 1)
    (need_divides (size (entry e u)) (without u e) ∷ floor_of m.next (without u e) (size (entry e u)) ∷ [])

pub last-unit : (m : System) (e : Row) (rest : List Row) (u : ℕ) → is_unit (entry e u) ≡ true → last m e rest u ≡ unit_answer m e rest u
unfolding last
last-unit m e rest u h = rw h refl

pub last-divided : (m : System) (e : Row) (rest : List Row) (u : ℕ) → is_unit (entry e u) ≡ false → last m e rest u ≡ divided_answer m e rest u
unfolding last
last-divided m e rest u h = rw h refl

unit_forward : (m : System) (e : Row) (u : ℕ) → is_unit (entry e u) ≡ true → Forward m e u (unit_row u e) []
unit_forward m e u h v z = (
  v,
  (λ c l. refl),
  tt,
  unit_is (entry e u) (v u) (value v (without u e)) h (sym (value-split v u e) ∙ z) ∙
      sym (value-unit_row v u e),
)

pub unit_reaches : (m : System) (e : Row) (rest : List Row) (u : ℕ) → m.equations ≡ e ∷ rest → Low m → is_unit (entry e u) ≡ true →
    Reaches m (unit_answer m e rest u)
unit_reaches m e rest u eq low h = gone_reaches m e rest u (unit_row u e) m.known m.next m.needs [] eq low (unit_forward m e u h)

pub unit_keeps : (m : System) (e : Row) (rest : List Row) (u : ℕ) → m.equations ≡ e ∷ rest → Low m → is_unit (entry e u) ≡ true →
    Keeps m (unit_answer m e rest u)
unit_keeps m e rest u eq low h =
    gone_keeps m e rest u (unit_row u e) m.known m.next m.needs [] eq low (unit_forward m e u h)
    (λ v _. value-update v u (value v (unit_row u e)) e ∙ rw (value-unit_row v u e) (unit_solves (entry e u) (value v (without u e)) h))

-- the new column holds the quotient
divided_forward : (m : System) (e : Row) (u : ℕ) → Below m.next e → u < m.next → entry e u ≢ pos 0 →
    Forward m e u (turned_row m.next u e) (need_divides (size (entry e u)) (without u e) ∷ floor_of m.next (without u e) (size (entry e u)) ∷ [])
divided_forward m e u b below h v z =
    let c = entry e u in
    let r = without u e in
    let d = m.next in
    let f = divides_from c (v u) (value v r) (sym (value-split v u e) ∙ z) h in
    let w = update v d (int_div_euclid (value v r) (size c)) in
    let same = update-same d v d (int_div_euclid (value v r) (size c)) (omega arith) in
    let i : value v r ≡ value w r = value-same d v w same r (Below-without d u e b) in
    let j : w d ≡ int_div_euclid (value v r) (size c) = update-at v d (int_div_euclid (value v r) (size c)) in (
      w,
      same,
      (subst (λ y. Divides (size c) y) i f.0, (j ∙ ap (λ y. int_div_euclid y (size c)) i, tt)),
      sym (same u below) ∙ f.1 ∙ ap (λ y. turn c *ℤ y) (sym j) ∙ sym (value-turned_row w d u e),
    )

pub divided_reaches : (m : System) (e : Row) (rest : List Row) (u : ℕ) → m.equations ≡ e ∷ rest → Low m → u < m.next → entry e u ≢ pos 0 →
    Reaches m (divided_answer m e rest u)
divided_reaches m e rest u eq low below h =
    let bs = subst (λ rows. EachRow (Below m.next) rows) eq low.zero in
    gone_reaches m e rest u (turned_row m.next u e) (m.known ++ (m.next ∷ [])) (m.next + 1) (m.needs + 1)
    (need_divides (size (entry e u)) (without u e) ∷ floor_of m.next (without u e) (size (entry e u)) ∷ []) eq low (divided_forward m e u bs.0 below h)

pub divided_keeps : (m : System) (e : Row) (rest : List Row) (u : ℕ) → m.equations ≡ e ∷ rest → Low m → u < m.next → entry e u ≢ pos 0 →
    Keeps m (divided_answer m e rest u)
divided_keeps m e rest u eq low below h =
    let c = entry e u in
    let r = without u e in
    let d = m.next in
    let bs = subst (λ rows. EachRow (Below m.next) rows) eq low.zero in
    gone_keeps m e rest u (turned_row d u e) (m.known ++ (d ∷ [])) (m.next + 1) (m.needs + 1) (need_divides (size c) r ∷ floor_of d r (size c) ∷ []) eq low
    (divided_forward m e u bs.0 below h)
    (λ v fit. value-update v u (value v (turned_row d u e)) e ∙ rw (value-turned_row v d u e, fit.1.0) (divides_solves c (value v r) h fit.0))
