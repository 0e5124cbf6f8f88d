-- The way back of each step of the elimination.
use Rattle.std.proofs.Common.{◌≡◌, ℕ, zero, suc, ◌+◌, ◌≤◌, ◌==◌, ℤ, pos, negsuc, neg_ℤ, List, [], ◌∷◌, ◌++◌, ◌⊎◌, inl, inr, map, filter, refl, sym, arith, ◌∙◌, cond}
use Rattle.std.specs.Prelude.{◌≤ℤ◌, Bool, true, false, not, Option, Some, None, ◌||◌, nat_le, nat_lt, int_lt, unsigned_abs}
use Rattle.std.specs.List.{fold, list_all}
use Rattle.std.proofs.lemmas.Int.{ints}
use Rattle.std.proofs.lemmas.Bool.{cond_both, eqb-true, eqb-false, eq-eqb, ne_eqb}
use Rattle.cf_tree.proofs.SetLemmas.{lt_is}
use Rattle.cf_linear.specs.Keep.{In, Over, IsColumn, Formed}
use Rattle.cf_linear.specs.Systems.{System, EachRow, Step, floor_of, need_nonneg, need_zero}
use Rattle.cf_linear.specs.Rows.{Row, entry, without, comb, is_zero}
use Rattle.cf_linear.specs.Steps.{common, unknown_part, known_part, divides_it, divided, tighten_row, Tightened, next_tightened, then_tighten, tighten_all, has_unknown, clean, replaced, one_at, mix, is_unit, is_positive, last, lowers, uppers, how_between, dropped, searched, Pick, searched_by, bound}
use Rattle.cf_linear.proofs.BoolLemmas.{on_bool}
use Rattle.cf_linear.proofs.KindLemmas.{Over-comb, In-left, In-right, In-filter, EachRow-filter, EachRow-tested}
use Rattle.cf_elim.specs.Returning.{PairsOver, HowOver, PairsDivide, HowDivides, StepDivides, StepsDivide, Returns}
use Rattle.cf_elim.proofs.ReturnLaws.{steps_divide, returns_then, returns_none}

-- ---- Clean
abbrev MaybeDivides : Option Step → Type 0
MaybeDivides None = Unit {0}
MaybeDivides (Some m) = StepDivides m

tight_divides : (us : List ℕ) (n : ℕ) (r : Row) → MaybeDivides (tighten_row us n r).0
tight_divides us n r =
    let Says : Option Step × Row → Type 0 = λ p. MaybeDivides p.0 in
    let g = common (unknown_part us r) in
    let whole = list_all (λ (c, k). (c == 0) || divides_it g k) (known_part us r) in
    let z : Option Step × Row = (None, r) in
    let a : Option Step × Row = (None, divided g r) in
    let b : Option Step × Row = (Some (floor_of n (known_part us r) (pos g)), comb (pos 1) (divided g (unknown_part us r)) (pos 1) (one_at n)) in
    cond_both (nat_le g 1) z (cond whole a b) Says (λ _. tt) (λ e. cond_both whole a b Says (λ _. tt) (λ _. divisor g e))
  where
    divisor : (g : ℕ) → nat_le g 1 ≡ false → pos 1 ≤ℤ pos g
    divisor zero e = absurd (cc)
    divisor (suc g) e = omega (arith, ints)

next_divides : (t : Tightened) (p : Option Step × Row) → StepsDivide t.steps → MaybeDivides p.0 → StepsDivide (next_tightened t p).steps
next_divides t (None, r) h k = h
next_divides t (Some m, r) h k = steps_divide t.steps (m ∷ []) h (k, tt)

all_divide : (us : List ℕ) (rows : List Row) (t : Tightened) → StepsDivide t.steps → StepsDivide (fold (then_tighten us) t rows).steps
all_divide us [] t h = h
all_divide us (r ∷ rows) t h = all_divide us rows (then_tighten us t r) (next_divides t (tighten_row us t.next r) h (tight_divides us t.next r))

zeros_divide : (rows : List Row) → StepsDivide (map (λ r. need_zero r) rows)
zeros_divide [] = tt
zeros_divide (r ∷ rows) = (tt, zeros_divide rows)

nonnegs_divide : (rows : List Row) → StepsDivide (map (λ r. need_nonneg r) rows)
nonnegs_divide [] = tt
nonnegs_divide (r ∷ rows) = (tt, nonnegs_divide rows)

pub returns_clean : (m : System) → Returns m (clean m)
unfolding clean
returns_clean m =
    let zeros = filter (λ r. not (has_unknown m.unknown r)) m.equations in
    let nonnegs = filter (λ r. not (has_unknown m.unknown r)) m.inequalities in
    let rows = filter (has_unknown m.unknown) m.inequalities in
    let start : Tightened = record { next = m.next; made = []; steps = []; rows = [] } in
    record {
      comes = record { over = tt; covers = λ c i. inl i };
      grows = λ c i. In-left c m.known (tighten_all m.unknown m.next rows).made i;
      steps = steps_divide (map need_zero zeros ++ map need_nonneg nonnegs) (fold (then_tighten m.unknown) start rows).steps
          (steps_divide (map need_zero zeros) (map need_nonneg nonnegs) (zeros_divide zeros) (nonnegs_divide nonnegs)) (all_divide m.unknown rows start tt);
      back = tt;
    }

-- ---- columns that are left
over-without : (Q R : ℕ → Type 0) (x : ℕ) (r : Row) → ((c : ℕ) → Q c → (c ≡ x → ⊥) → R c) → Over Q r → Over R (without x r)
over-without Q R x [] f o = tt
over-without Q R x ((c, k) ∷ r) f o = on_bool (c == x) (λ e. rw e (over-without Q R x r f o.1))
    (λ e. rw e (f c o.0 (eqb-false c x e), over-without Q R x r f o.1))

pub some_unknown : (m : System) (x : ℕ) → Formed m → In x m.unknown → 1 ≤ x
some_unknown m zero f i = absurd (f.apart 0 f.constant i)
some_unknown m (suc x) f i = omega arith

-- a column of the system other than x is left
left_column : (known unknown : List ℕ) (x c : ℕ) → In c known ⊎ In c unknown → (c ≡ x → ⊥) → In c known ⊎ In c (filter (λ w. not (w == x)) unknown)
left_column known unknown x c (inl i) n = inl i
left_column known unknown x c (inr i) n = inr (In-filter c x unknown i n)

gone_or_left : (x c : ℕ) (us : List ℕ) → In c us → In c (filter (λ w. not (w == x)) us) ⊎ In c (x ∷ [])
gone_or_left x c us i = on_bool (c == x) (λ t. inr (inl (eqb-true c x t))) (λ t. inl (In-filter c x us i (eqb-false c x t)))

-- ---- the end of an equation
some_entry : (k : ℤ) → is_zero k ≡ false → pos 1 ≤ℤ pos (unsigned_abs k)
some_entry (pos zero) e = absurd (cc)
some_entry (pos (suc n)) e = omega (arith, ints)
some_entry (negsuc n) e = omega (arith, ints)

pub returns_last : (m : System) (e : Row) (rest : List Row) (u : ℕ) → Formed m → Over (IsColumn m) e → In u m.unknown → is_zero (entry e u) ≡ false →
    Returns m (last m e rest u)
unfolding last
returns_last m e rest u f o i z = on_bool (is_unit (entry e u))
    (λ t. rw t (record {
      comes = record {
        over = (
          some_unknown m u f i,
          Over-comb _ (neg_ℤ (entry e u)) (without u e) (pos 0) []
              (over-without (IsColumn m) _ u e (λ c h n. left_column m.known m.unknown u c h n) o) tt,
          tt,
        );
        covers = λ c j. gone_or_left u c m.unknown j;
      };
      grows = λ c j. j;
      steps = tt;
      back = (tt, tt);
    }))
    (λ t. rw t (record {
      comes = record {
        over = (some_unknown m u f i, (inl (In-right m.next m.known (m.next ∷ []) (inl refl)), tt), tt);
        covers =
            λ c j. gone_or_left u c m.unknown j;
      };
      grows = λ c j. In-left c m.known (m.next ∷ []) j;
      steps = (some_entry (entry e u) z, (some_entry (entry e u) z, tt));
      back = (tt, tt);
    }))

-- ---- Merge
pub In-replaced : (x y c : ℕ) (us : List ℕ) → In c us → (c ≡ x → ⊥) → In c (replaced x y us)
In-replaced x y c [] i n = i
In-replaced x y c (u ∷ us) (inl s) n = let e : u == x ≡ false = ne_eqb u x (λ k. n (s ∙ k)) in rw e (inl s)
In-replaced x y c (u ∷ us) (inr i) n = inr (In-replaced x y c us i n)

pub replaced-In : (x y : ℕ) (us : List ℕ) → In x us → In y (replaced x y us)
replaced-In x y [] i = i
replaced-In x y (u ∷ us) (inl s) = let e : u == x ≡ true = eq-eqb u x (sym s) in rw e (inl refl)
replaced-In x y (u ∷ us) (inr i) = inr (replaced-In x y us i)

pub returns_mix : (m : System) (x y : ℕ) (a b c d : ℤ) → Formed m → In x m.unknown → In y m.unknown → (x ≡ y → ⊥) → Returns m (mix m x y a b c d)
unfolding mix
returns_mix m x y a b c d f i j n =
    let u = m.next in
    let v = m.next + 1 in
    let bx = f.unknown_below x i in
    let first : In u (replaced x u (replaced y v m.unknown)) = replaced-In x u (replaced y v m.unknown) (In-replaced y v x m.unknown i n) in
    let second : In v (replaced x u (replaced y v m.unknown)) = In-replaced x u v (replaced y v m.unknown) (replaced-In y v m.unknown j) (λ e. omega arith) in
    record {
      comes = record {
        over = (
          some_unknown m x f i,
          Over-comb _ a (one_at u) b (one_at v) (inr first, tt) (inr second, tt),
          (some_unknown m y f j, Over-comb _ c (one_at u) d (one_at v) (inr (inr first), tt) (inr (inr second), tt), tt),
        );
        covers = λ w k. on_bool (w == x)
            (λ t. inr (inl (eqb-true w x t)))
            (λ t. on_bool (w == y)
            (λ s. inr (inr (inl (eqb-true w y s))))
            (λ s. inl (In-replaced x u w (replaced y v m.unknown) (In-replaced y v w m.unknown k (eqb-false w y s)) (eqb-false w x t))));
      };
      grows = λ w k. k;
      steps = tt;
      back = (tt, (tt, tt));
    }

-- ---- the drop of an unknown
pairs_over : (Q R : ℕ → Type 0) (x : ℕ) (k : Row → ℤ) (rows : List Row) → ((c : ℕ) → Q c → (c ≡ x → ⊥) → R c) → EachRow (Over Q) rows →
    PairsOver R (map (λ r. (without x r, k r)) rows)
pairs_over Q R x k [] f o = tt
pairs_over Q R x k (r ∷ rows) f o = (over-without Q R x r f o.0, pairs_over Q R x k rows f o.1)

low_divide : (x : ℕ) (rows : List Row) → EachRow (λ r. is_positive (entry r x) ≡ true) rows → PairsDivide (map (λ r. (without x r, entry r x)) rows)
low_divide x [] h = tt
low_divide x (r ∷ rows) h = (let l = lt_is (pos 0) (entry r x) h.0 in omega (arith, ints), low_divide x rows h.1)

high_divide : (x : ℕ) (rows : List Row) → EachRow (λ r. int_lt (entry r x) (pos 0) ≡ true) rows → PairsDivide (map (λ r. (without x r, neg_ℤ (entry r x))) rows)
high_divide x [] h = tt
high_divide x (r ∷ rows) h = (let l = lt_is (entry r x) (pos 0) h.0 in omega (arith, ints), high_divide x rows h.1)

how_over : (Q R : ℕ → Type 0) (x : ℕ) (low high : List Row) → ((c : ℕ) → Q c → (c ≡ x → ⊥) → R c) → EachRow (Over Q) low → EachRow (Over Q) high →
    HowOver R (how_between x low high)
how_over Q R x [] [] f o p = tt
how_over Q R x [] (u ∷ high) f o p = pairs_over Q R x (λ r. neg_ℤ (entry r x)) (u ∷ high) f p
how_over Q R x (l ∷ low) high f o p = pairs_over Q R x (λ r. entry r x) (l ∷ low) f o

how_divides : (x : ℕ) (low high : List Row) → EachRow (λ r. is_positive (entry r x) ≡ true) low → EachRow (λ r. int_lt (entry r x) (pos 0) ≡ true) high →
    HowDivides (how_between x low high)
how_divides x [] [] o p = tt
how_divides x [] (u ∷ high) o p = high_divide x (u ∷ high) p
how_divides x (l ∷ low) high o p = low_divide x (l ∷ low) o

pub returns_dropped : (m : System) (x : ℕ) → 1 ≤ x → EachRow (Over (IsColumn m)) m.inequalities → Returns m (dropped m x)
unfolding dropped
returns_dropped m x some o = record {
  comes = record {
    over = (
      some,
      how_over (IsColumn m) _ x (lowers x m.inequalities) (uppers x m.inequalities) (λ c h n. left_column m.known m.unknown x c h n)
          (EachRow-filter (Over (IsColumn m)) (λ r. is_positive (entry r x)) m.inequalities o)
          (EachRow-filter (Over (IsColumn m)) (λ r. int_lt (entry r x) (pos 0)) m.inequalities o),
      tt,
    );
    covers = λ c i. gone_or_left x c m.unknown i;
  };
  grows = λ c i. i;
  steps = tt;
  back = (
    how_divides x (lowers x m.inequalities) (uppers x m.inequalities)
        (EachRow-tested (λ r. is_positive (entry r x) ≡ true) (λ r. is_positive (entry r x)) (λ r e. e) m.inequalities)
        (EachRow-tested (λ r. int_lt (entry r x) (pos 0) ≡ true) (λ r. int_lt (entry r x) (pos 0)) (λ r e. e) m.inequalities),
    tt,
  );
}

pub returns_searched : (m : System) (x : ℕ) (lower : Bool) → Returns m (searched m x lower)
unfolding searched
returns_searched m x lower = record {
  comes = record { over = tt; covers = λ c i. inl (In-left c m.unknown _ i) };
  grows = λ c i. In-left c m.known _ i;
  steps = tt;
  back = tt;
}

returns_search : (m : System) (c : Pick) → Returns m (searched_by m c)
unfolding searched_by
returns_search m c =
    cond_both (nat_lt 1 c.product) (searched m c.unknown c.lower) (record { system = m; steps = []; back = []; bounds = [] }) (λ a. Returns m a)
    (λ _. returns_searched m c.unknown c.lower) (λ _. returns_none m)

pub returns_bound : (m : System) (c : Pick) → 1 ≤ c.unknown → EachRow (Over (IsColumn (searched_by m c).system)) (searched_by m c).system.inequalities →
    Returns m (bound m c)
unfolding bound
returns_bound m c some o = returns_then m (searched_by m c) (dropped (searched_by m c).system c.unknown) (returns_search m c)
    (returns_dropped (searched_by m c).system c.unknown some o)
