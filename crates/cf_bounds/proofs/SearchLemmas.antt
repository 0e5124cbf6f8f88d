-- The search over remainders keeps the solutions, each at one tuple.
use Rattle.std.proofs.Common.{◌≡◌, ℕ, ◌<◌, ◌≤◌, ◌+◌, ℤ, pos, negsuc, neg_ℤ, ◌+ℤ◌, ◌-ℤ◌, ◌*ℤ◌, List, [], ◌∷◌, ◌++◌, Bool, true, false, not, ◌==◌, refl, sym, ◌∙◌, ap, arith, subst}
use Rattle.std.specs.Prelude.{◌≤ℤ◌, ◌<ℤ◌, unsigned_abs}
use Rattle.std.proofs.lemmas.Int.{ints}
use Rattle.std.proofs.lemmas.Bool.{cond_both, eqb-true, eqb-false}
use Rattle.cf_num.proofs.Ring.{ring}
use Rattle.cf_linear.specs.Rows.{Row, Values, entry, value, without}
use Rattle.cf_linear.specs.Systems.{System, EachRow, Sat}
use Rattle.cf_linear.specs.Steps.{one_at, two_at, Found, searches, search_equation, search_bound, found_row, found_all, no_found, searched}
use Rattle.cf_linear.specs.Keep.{Same, Keeps, Continues, ContinuesOnce, Within, update}
use Rattle.cf_linear.proofs.RowLemmas.{value-comb}
use Rattle.cf_linear.proofs.KindLemmas.{IsZero, IsNonneg, Below, EachRow-append, EachRow-split, EachRow-below_more, Below-more, Over-comb, Over-filter}
use Rattle.cf_linear.proofs.ValueLemmas.{EachRow-same, one_z, value-same, value-split, update-at, update-same, Same-trans, Within-append, Within-split}
use Rattle.cf_linear.proofs.FormedLemmas.{Low}
use Rattle.cf_linear.proofs.SideLemmas.{Sided, sided}
use Rattle.cf_bounds.proofs.Arithmetic.{search_from, search_back, search_once, zero_value, nonneg_value}

abbrev pub BoundsBelow : ℕ → List (ℕ × ℕ) → Type 0
BoundsBelow n [] = Unit {0}
BoundsBelow n ((c, p) ∷ bs) = (c < n) × BoundsBelow n bs

BoundsBelow-more : (n p : ℕ) → n ≤ p → (bs : List (ℕ × ℕ)) → BoundsBelow n bs → BoundsBelow p bs
BoundsBelow-more n p l [] h = tt
BoundsBelow-more n p l ((c, q) ∷ bs) h = (let i = h.0 in omega arith, BoundsBelow-more n p l bs h.1)

BoundsBelow-append : (n : ℕ) (bs cs : List (ℕ × ℕ)) → BoundsBelow n bs → BoundsBelow n cs → BoundsBelow n (bs ++ cs)
BoundsBelow-append n [] cs h k = k
BoundsBelow-append n ((c, q) ∷ bs) cs h k = (h.0, BoundsBelow-append n bs cs h.1 k)

pub Within-same : (n : ℕ) (v w : Values) → Same n v w → (bs : List (ℕ × ℕ)) → BoundsBelow n bs → Within v bs → Within w bs
Within-same n v w s [] b h = tt
Within-same n v w s ((c, q) ∷ bs) b h = (subst (λ y. pos 0 ≤ℤ y) (s c b.0) h.0, subst (λ y. y <ℤ pos q) (s c b.0) h.1, Within-same n v w s bs b.1 h.2)

-- ---- what the search has so far
pub record Good (v : Values) (s : Found) : Type 0 where
  pub within : Within v s.bounds
  pub zero : EachRow (IsZero v) s.equations
  pub nonneg : EachRow (IsNonneg v) s.rows

pub record LowFound (s : Found) : Type 0 where
  pub bounds : BoundsBelow s.next s.bounds
  pub zero : EachRow (Below s.next) s.equations
  pub nonneg : EachRow (Below s.next) s.rows

-- ---- one row
abbrev pub found_new : ℕ → Bool → Found → Row → Found
found_new x lower s r = record {
  next = s.next + 2;
  columns = s.columns ++ (s.next ∷ []);
  unknowns = s.unknowns ++ ((s.next + 1) ∷ []);
  equations = s.equations ++ (search_equation x lower s.next r ∷ []);
  rows = s.rows ++ (search_bound x lower s.next ∷ []);
  bounds = s.bounds ++ ((s.next, unsigned_abs (entry r x)) ∷ []);
}

abbrev pub found_kept : Found → Row → Found
found_kept s r = record { next = s.next; columns = s.columns; unknowns = s.unknowns; equations = s.equations; rows = s.rows ++ (r ∷ []); bounds = s.bounds }

-- a property of both is one of the row's
pub by_row : (P : Found → Type 0) (x : ℕ) (lower : Bool) (s : Found) (r : Row) → (searches x lower r ≡ true → P (found_new x lower s r)) → P (found_kept s r) →
    P (found_row x lower s r)
by_row P x lower s r f g = cond_both (searches x lower r) (found_new x lower s r) (found_kept s r) P f (λ e. g)

-- the values of the new rows
two_value : (w : Values) (a : ℤ) (u : ℕ) (b : ℤ) (v : ℕ) → value w (two_at a u b v) ≡ a *ℤ w u +ℤ b *ℤ w v
two_value w a u b v = value-comb w a (one_at u) b (one_at v) ∙ rw (one_z (w u), one_z (w v)) refl

equation_low : (w : Values) (x k : ℕ) (r : Row) →
    value w (search_equation x true k r) ≡ neg_ℤ (value w (without x r)) +ℤ w k -ℤ pos (unsigned_abs (entry r x)) *ℤ w (k + 1)
equation_low w x k r =
    let p = pos (unsigned_abs (entry r x)) in
    value-comb w (negsuc 0) (without x r) (pos 1) (two_at (pos 1) k (neg_ℤ p) (k + 1)) ∙
    rw (two_value w (pos 1) k (neg_ℤ p) (k + 1)) (low_sum (value w (without x r)) (w k) p (w (k + 1)))
  where
    low_sum : (l k p n : ℤ) → negsuc 0 *ℤ l +ℤ pos 1 *ℤ (pos 1 *ℤ k +ℤ neg_ℤ p *ℤ n) ≡ neg_ℤ l +ℤ k -ℤ p *ℤ n
    low_sum l k p n =
        let a : negsuc 0 *ℤ l ≡ neg_ℤ l = omega (arith, ints) in
        let b : pos 1 *ℤ k ≡ k = omega (arith, ints) in
        rw (a, b) (let c : pos 1 *ℤ (k +ℤ neg_ℤ p *ℤ n) ≡ k +ℤ neg_ℤ p *ℤ n = omega (arith, ints) in rw c (simp ring (omega (arith, ints))))

equation_high : (w : Values) (x k : ℕ) (r : Row) →
    value w (search_equation x false k r) ≡ value w (without x r) -ℤ w k -ℤ pos (unsigned_abs (entry r x)) *ℤ w (k + 1)
equation_high w x k r =
    let p = pos (unsigned_abs (entry r x)) in
    value-comb w (pos 1) (without x r) (pos 1) (two_at (negsuc 0) k (neg_ℤ p) (k + 1)) ∙
    rw (two_value w (negsuc 0) k (neg_ℤ p) (k + 1)) (high_sum (value w (without x r)) (w k) p (w (k + 1)))
  where
    high_sum : (l k p n : ℤ) → pos 1 *ℤ l +ℤ pos 1 *ℤ (negsuc 0 *ℤ k +ℤ neg_ℤ p *ℤ n) ≡ l -ℤ k -ℤ p *ℤ n
    high_sum l k p n =
        let a : negsuc 0 *ℤ k ≡ neg_ℤ k = omega (arith, ints) in
        let b : pos 1 *ℤ l ≡ l = omega (arith, ints) in
        rw (a, b) (let c : pos 1 *ℤ (neg_ℤ k +ℤ neg_ℤ p *ℤ n) ≡ neg_ℤ k +ℤ neg_ℤ p *ℤ n = omega (arith, ints) in rw c (simp ring (omega (arith, ints))))

bound_low : (w : Values) (x k : ℕ) → value w (search_bound x true k) ≡ w x -ℤ w (k + 1)
bound_low w x k = two_value w (pos 1) x (negsuc 0) (k + 1) ∙ omega (arith, ints)

bound_high : (w : Values) (x k : ℕ) → value w (search_bound x false k) ≡ w (k + 1) -ℤ w x
bound_high w x k = two_value w (negsuc 0) x (pos 1) (k + 1) ∙ omega (arith, ints)

-- what holds of a row's values x, k and n
abbrev Placed : Bool → ℤ → ℤ → ℤ → ℤ → ℤ → Type 0
Placed true p l x k n = (neg_ℤ l +ℤ k -ℤ p *ℤ n ≡ pos 0) × (pos 0 ≤ℤ (x -ℤ n))
Placed false p l x k n = (l -ℤ k -ℤ p *ℤ n ≡ pos 0) × (pos 0 ≤ℤ (n -ℤ x))

placed_iff : (lower : Bool) (w : Values) (x k : ℕ) (r : Row) → Placed lower (pos (unsigned_abs (entry r x))) (value w (without x r)) (w x) (w k) (w (k + 1)) →
    IsZero w (search_equation x lower k r) × IsNonneg w (search_bound x lower k)
placed_iff true w x k r h = (equation_low w x k r ∙ h.0, subst (λ y. pos 0 ≤ℤ y) (sym (bound_low w x k)) h.1)
placed_iff false w x k r h = (equation_high w x k r ∙ h.0, subst (λ y. pos 0 ≤ℤ y) (sym (bound_high w x k)) h.1)

placed_from : (lower : Bool) (w : Values) (x k : ℕ) (r : Row) → IsZero w (search_equation x lower k r) → IsNonneg w (search_bound x lower k) →
    Placed lower (pos (unsigned_abs (entry r x))) (value w (without x r)) (w x) (w k) (w (k + 1))
placed_from true w x k r e b = (sym (equation_low w x k r) ∙ e, subst (λ y. pos 0 ≤ℤ y) (bound_low w x k) b)
placed_from false w x k r e b = (sym (equation_high w x k r) ∙ e, subst (λ y. pos 0 ≤ℤ y) (bound_high w x k) b)

turned : (p l k n : ℤ) → neg_ℤ l +ℤ k -ℤ p *ℤ n ≡ pos 0 → l -ℤ k -ℤ p *ℤ neg_ℤ n ≡ pos 0
turned p l k n e = simp ring (omega (arith, ints))

turned_bound : (x n : ℤ) → pos 0 ≤ℤ (neg_ℤ x -ℤ n) → pos 0 ≤ℤ (neg_ℤ n -ℤ x)
turned_bound x n h = omega (arith, ints)

-- a solution has its k and n
place : (lower : Bool) (c l x : ℤ) → 0 < unsigned_abs c → Sided lower c → pos 0 ≤ℤ (l +ℤ c *ℤ x) →
    (k : ℤ) × (n : ℤ) × (pos 0 ≤ℤ k) × (k <ℤ pos (unsigned_abs c)) × Placed lower (pos (unsigned_abs c)) l x k n
place true c l x h s i =
    let p = pos (unsigned_abs c) in
    let f = search_from p l x (omega (arith, ints)) (subst (λ y. pos 0 ≤ℤ y) (rw (← s) (omega (arith, ints))) i) in
    (f.0, f.1, f.2, f.3, (f.4, f.5))
place false c l x h s i =
    let p = pos (unsigned_abs c) in
    let e : l +ℤ neg_ℤ p *ℤ x ≡ p *ℤ neg_ℤ x +ℤ l = simp ring (omega (arith, ints)) in
    let f = search_from p l (neg_ℤ x) (omega (arith, ints)) (subst (λ y. pos 0 ≤ℤ y) (ap (λ y. l +ℤ y *ℤ x) s ∙ e) i) in
    (f.0, neg_ℤ f.1, f.2, f.3, (turned p l f.0 f.1 f.4, turned_bound x f.1 f.5))

-- and they give the solution back
unplace : (lower : Bool) (c l x k n : ℤ) → 0 < unsigned_abs c → Sided lower c → pos 0 ≤ℤ k → Placed lower (pos (unsigned_abs c)) l x k n →
    pos 0 ≤ℤ (l +ℤ c *ℤ x)
unplace true c l x k n h s low i =
    let p = pos (unsigned_abs c) in
    let b = search_back p l x k n (omega (arith, ints)) low i.0 i.1 in
    let e : p *ℤ x +ℤ l ≡ l +ℤ p *ℤ x = omega (arith, ints) in
    subst (λ y. pos 0 ≤ℤ y) (e ∙ ap (λ y. l +ℤ y *ℤ x) (sym s)) b
unplace false c l x k n h s low i =
    let p = pos (unsigned_abs c) in
    let b = search_back p l (neg_ℤ x) k (neg_ℤ n) (omega (arith, ints)) low (unturned p l k n i.0) (omega (arith, ints, i.1)) in
    let e : p *ℤ neg_ℤ x +ℤ l ≡ l +ℤ neg_ℤ p *ℤ x = simp ring (omega (arith, ints)) in
    subst (λ y. pos 0 ≤ℤ y) (e ∙ ap (λ y. l +ℤ y *ℤ x) (sym s)) b
  where
    unturned : (p l k n : ℤ) → l -ℤ k -ℤ p *ℤ n ≡ pos 0 → neg_ℤ l +ℤ k -ℤ p *ℤ neg_ℤ n ≡ pos 0
    unturned p l k n e = simp ring (omega (arith, ints))

-- and there is one k and one n
place_once : (lower : Bool) (p l x y k n k' n' : ℤ) → pos 0 <ℤ p → pos 0 ≤ℤ k → k <ℤ p → pos 0 ≤ℤ k' → k' <ℤ p → Placed lower p l x k n →
    Placed lower p l y k' n' → (k ≡ k') × (n ≡ n')
place_once true p l x y k n k' n' h a b a' b' i j = search_once p l k n k' n' h a b a' b' i.0 j.0
place_once false p l x y k n k' n' h a b a' b' i j =
    let o = search_once p l k (neg_ℤ n) k' (neg_ℤ n') h a b a' b' (unturned p l k n i.0) (unturned p l k' n' j.0) in
    (o.0, let e = o.1 in omega (arith, ints))
  where
    unturned : (p l k n : ℤ) → l -ℤ k -ℤ p *ℤ n ≡ pos 0 → neg_ℤ l +ℤ k -ℤ p *ℤ neg_ℤ n ≡ pos 0
    unturned p l k n e = simp ring (omega (arith, ints))

-- ---- the new rows' search_columns
new_low : (x : ℕ) (lower : Bool) (s : Found) (r : Row) → LowFound s → x < s.next → Below s.next r → LowFound (found_new x lower s r)
new_low x lower s r low lx br =
    let n = s.next in
    let c = Below-more n (n + 2) (omega arith) (without x r) (Over-filter (λ c. c < n) (λ (c, k). not (c == x)) r br) in
    record {
      bounds = BoundsBelow-append (n + 2) s.bounds ((n, unsigned_abs (entry r x)) ∷ []) (BoundsBelow-more n (n + 2) (omega arith) s.bounds low.bounds)
          (omega arith, tt);
      zero = EachRow-append (Below (n + 2)) s.equations (search_equation x lower n r ∷ []) (EachRow-below_more n (n + 2) (omega arith) s.equations low.zero)
          (equation_below lower c, tt);
      nonneg = EachRow-append (Below (n + 2)) s.rows (search_bound x lower n ∷ []) (EachRow-below_more n (n + 2) (omega arith) s.rows low.nonneg)
          (bound_below lower, tt);
    }
  where
    under : ℕ → Type 0
    under = λ c. c < s.next + 2

    equation_below : (lower : Bool) → Below (s.next + 2) (without x r) → Below (s.next + 2) (search_equation x lower s.next r)
    equation_below true c = Over-comb under (negsuc 0) (without x r) (pos 1) _ c
        (Over-comb under (pos 1) (one_at s.next) (neg_ℤ (pos (unsigned_abs (entry r x)))) (one_at (s.next + 1)) (omega arith, tt) (omega arith, tt))
    equation_below false c = Over-comb under (pos 1) (without x r) (pos 1) _ c
        (Over-comb under (negsuc 0) (one_at s.next) (neg_ℤ (pos (unsigned_abs (entry r x)))) (one_at (s.next + 1)) (omega arith, tt) (omega arith, tt))

    bound_below : (lower : Bool) → Below (s.next + 2) (search_bound x lower s.next)
    bound_below true = Over-comb under (pos 1) (one_at x) (negsuc 0) (one_at (s.next + 1)) (omega arith, tt) (omega arith, tt)
    bound_below false = Over-comb under (negsuc 0) (one_at x) (pos 1) (one_at (s.next + 1)) (omega arith, tt) (omega arith, tt)

kept_low : (s : Found) (r : Row) → LowFound s → Below s.next r → LowFound (found_kept s r)
kept_low s r low br = record { bounds = low.bounds; zero = low.zero; nonneg = EachRow-append (Below s.next) s.rows (r ∷ []) low.nonneg (br, tt) }

-- ---- one row keeps the solutions
new_forth : (x : ℕ) (lower : Bool) (s : Found) (r : Row) (v : Values) → LowFound s → x < s.next → Below s.next r → searches x lower r ≡ true → Good v s →
    IsNonneg v r →
    (w : Values) × Same s.next v w × Good w (found_new x lower s r)
new_forth x lower s r v low lx br se good up =
    let n = s.next in
    let d = sided lower x r se in
    let f = place lower (entry r x) (value v (without x r)) (v x) (let q = d.0 in omega arith) d.1 (subst (λ y. pos 0 ≤ℤ y) (value-split v x r) up) in
    let w1 = update v n f.0 in
    let w = update w1 (n + 1) f.1 in
    let s1 = update-same n v n f.0 (omega arith) in
    let s2 = update-same (n + 1) w1 (n + 1) f.1 (omega arith) in
    let same = Same-trans n (n + 1) v w1 w (omega arith) s1 s2 in
    let at1 : f.0 ≡ w n = sym (sym (s2 n (omega arith)) ∙ update-at v n f.0) in
    let at2 : f.1 ≡ w (n + 1) = sym (update-at w1 (n + 1) f.1) in
    let atl = value-same n v w same (without x r) (Over-filter (λ c. c < n) (λ (c, k). not (c == x)) r br) in
    let p = pos (unsigned_abs (entry r x)) in
    let placed : Placed lower p (value w (without x r)) (w x) (w n) (w (n + 1)) =
    subst (λ y. Placed lower p (value w (without x r)) (w x) (w n) y) at2
    (subst (λ y. Placed lower p (value w (without x r)) (w x) y f.1) at1
    (subst (λ y. Placed lower p (value w (without x r)) y f.0 f.1) (same x lx)
    (subst (λ y. Placed lower p y (v x) f.0 f.1) atl f.4))) in
    let new = placed_iff lower w x n r placed in (
      w,
      same,
      record {
        within = Within-append w s.bounds ((n, unsigned_abs (entry r x)) ∷ []) (Within-same n v w same s.bounds low.bounds good.within)
            (subst (λ y. pos 0 ≤ℤ y) at1 f.2, subst (λ y. y <ℤ p) at1 f.3, tt);
        zero = EachRow-append (IsZero w) s.equations (search_equation x lower n r ∷ []) (EachRow-same zero_value n v w same s.equations low.zero good.zero)
            (new.0, tt);
        nonneg = EachRow-append (IsNonneg w) s.rows (search_bound x lower n ∷ []) (EachRow-same nonneg_value n v w same s.rows low.nonneg good.nonneg)
            (new.1, tt);
      },
    )

new_back : (x : ℕ) (lower : Bool) (s : Found) (r : Row) (v : Values) → searches x lower r ≡ true → Good v (found_new x lower s r) → Good v s × IsNonneg v r
new_back x lower s r v se good =
    let n = s.next in
    let d = sided lower x r se in
    let b = Within-split v s.bounds ((n, unsigned_abs (entry r x)) ∷ []) good.within in
    let z = EachRow-split (IsZero v) s.equations (search_equation x lower n r ∷ []) good.zero in
    let i = EachRow-split (IsNonneg v) s.rows (search_bound x lower n ∷ []) good.nonneg in
    let placed = placed_from lower v x n r z.1.0 i.1.0 in (
      record { within = b.0; zero = z.0; nonneg = i.0 },
      subst (λ y. pos 0 ≤ℤ y) (sym (value-split v x r))
          (unplace lower (entry r x) (value v (without x r)) (v x) (v n) (v (n + 1)) (let q = d.0 in omega arith) d.1 b.1.0 placed),
    )

kept_back : (s : Found) (r : Row) (v : Values) → Good v (found_kept s r) → Good v s × IsNonneg v r
kept_back s r v good = let i = EachRow-split (IsNonneg v) s.rows (r ∷ []) good.nonneg in
    (record { within = good.within; zero = good.zero; nonneg = i.0 }, i.1.0)

row_low : (x : ℕ) (lower : Bool) (s : Found) (r : Row) → LowFound s → x < s.next → Below s.next r →
    (s.next ≤ (found_row x lower s r).next) × LowFound (found_row x lower s r)
row_low x lower s r low lx br = by_row (λ t. (s.next ≤ t.next) × LowFound t) x lower s r (λ e. (omega arith, new_low x lower s r low lx br))
    (omega arith, kept_low s r low br)

row_forth : (x : ℕ) (lower : Bool) (s : Found) (r : Row) (v : Values) → LowFound s → x < s.next → Below s.next r → Good v s → IsNonneg v r →
    (w : Values) × Same s.next v w × Good w (found_row x lower s r)
row_forth x lower s r v low lx br good up =
    by_row (λ t. (w : Values) × Same s.next v w × Good w t) x lower s r (λ e. new_forth x lower s r v low lx br e good up)
    (v, (λ c l. refl), record { within = good.within; zero = good.zero; nonneg = EachRow-append (IsNonneg v) s.rows (r ∷ []) good.nonneg (up, tt) })

row_back : (x : ℕ) (lower : Bool) (s : Found) (r : Row) (v : Values) → Good v (found_row x lower s r) → Good v s × IsNonneg v r
row_back x lower s r v = by_row (λ t. Good v t → Good v s × IsNonneg v r) x lower s r (λ e. new_back x lower s r v e) (kept_back s r v)

-- two solutions that agree on the old search_columns agree on the new ones
row_once : (x : ℕ) (lower : Bool) (s : Found) (r : Row) (v w : Values) → Below s.next r → Same s.next v w → Good v (found_row x lower s r) →
    Good w (found_row x lower s r) → Same (found_row x lower s r).next v w
row_once x lower s r v w br same = by_row (λ t. Good v t → Good w t → Same t.next v w) x lower s r (λ e. new_once e) (λ gv gw. same)
  where
    next_same : (n : ℕ) → Same n v w → v n ≡ w n → Same (n + 1) v w
    next_same n h e c l = cond_both (c == n) (pos 0) (pos 0) (λ _. v c ≡ w c) (λ i. rw (eqb-true c n i) e) (λ i. h c (let j = eqb-false c n i in omega arith))

    new_once : searches x lower r ≡ true → Good v (found_new x lower s r) → Good w (found_new x lower s r) → Same (s.next + 2) v w
    new_once e gv gw =
        let n = s.next in
        let d = sided lower x r e in
        let p = pos (unsigned_abs (entry r x)) in
        let bv = (Within-split v s.bounds ((n, unsigned_abs (entry r x)) ∷ []) gv.within).1 in
        let bw = (Within-split w s.bounds ((n, unsigned_abs (entry r x)) ∷ []) gw.within).1 in
        let zv = (EachRow-split (IsZero v) s.equations (search_equation x lower n r ∷ []) gv.zero).1.0 in
        let zw = (EachRow-split (IsZero w) s.equations (search_equation x lower n r ∷ []) gw.zero).1.0 in
        let iv = (EachRow-split (IsNonneg v) s.rows (search_bound x lower n ∷ []) gv.nonneg).1.0 in
        let iw = (EachRow-split (IsNonneg w) s.rows (search_bound x lower n ∷ []) gw.nonneg).1.0 in
        let atl = value-same n v w same (without x r) (Over-filter (λ c. c < n) (λ (c, k). not (c == x)) r br) in
        let pv = placed_from lower v x n r zv iv in
        let pw = subst (λ y. Placed lower p y (w x) (w n) (w (n + 1))) (sym atl) (placed_from lower w x n r zw iw) in
        let o = place_once lower p (value v (without x r)) (v x) (w x) (v n) (v (n + 1)) (w n) (w (n + 1)) (let q = d.0 in omega (arith, ints)) bv.0 bv.1 bw.0
        bw.1 pv pw in
        subst (λ y. Same y v w) (two n) (next_same (n + 1) (next_same n same o.0) o.1)
      where
        two : (n : ℕ) → n + 1 + 1 ≡ n + 2
        two n = omega arith

-- ---- all rows
all_forth : (x : ℕ) (lower : Bool) (rows : List Row) (s : Found) (v : Values) → LowFound s → x < s.next → EachRow (Below s.next) rows → Good v s →
    EachRow (IsNonneg v) rows →
    (w : Values) × Same s.next v w × Good w (found_all x lower s rows)
all_forth x lower [] s v low lx br good up = (v, (λ c l. refl), good)
all_forth x lower (r ∷ rows) s v low lx br good up =
    let t = found_row x lower s r in
    let l = row_low x lower s r low lx br.0 in
    let f = row_forth x lower s r v low lx br.0 good up.0 in
    let le = l.0 in
    let g = all_forth x lower rows t f.0 l.1 (omega arith) (EachRow-below_more s.next t.next le rows br.1) f.2
    (EachRow-same nonneg_value s.next v f.0 f.1 rows br.1 up.1) in
    (g.0, Same-trans s.next t.next v f.0 g.0 le f.1 g.1, g.2)

all_back : (x : ℕ) (lower : Bool) (rows : List Row) (s : Found) (v : Values) → Good v (found_all x lower s rows) → Good v s × EachRow (IsNonneg v) rows
all_back x lower [] s v good = (good, tt)
all_back x lower (r ∷ rows) s v good =
    let b = all_back x lower rows (found_row x lower s r) v good in
    let c = row_back x lower s r v b.0 in
    (c.0, (c.1, b.1))

all_once : (x : ℕ) (lower : Bool) (rows : List Row) (s : Found) (v w : Values) → LowFound s → x < s.next → EachRow (Below s.next) rows → Same s.next v w →
    Good v (found_all x lower s rows) → Good w (found_all x lower s rows) →
    Same (found_all x lower s rows).next v w
all_once x lower [] s v w low lx br same gv gw = same
all_once x lower (r ∷ rows) s v w low lx br same gv gw =
    let t = found_row x lower s r in
    let l = row_low x lower s r low lx br.0 in
    let le = l.0 in
    let o = row_once x lower s r v w br.0 same (all_back x lower rows t v gv).0 (all_back x lower rows t w gw).0 in
    all_once x lower rows t v w l.1 (omega arith) (EachRow-below_more s.next t.next le rows br.1) o gv gw

-- ---- the step
first_low : (m : System) → LowFound (no_found m)
first_low m = record { bounds = tt; zero = tt; nonneg = tt }

pub searched_keeps : (m : System) (x : ℕ) (lower : Bool) → Low m → x < m.next → Keeps m (searched m x lower)
unfolding searched
searched_keeps m x lower low lx =
    let s = found_all x lower (no_found m) m.inequalities in
    record {
      forth = λ v _ h.
          let f = all_forth x lower m.inequalities (no_found m) v (first_low m) lx low.nonneg (record { within = tt; zero = tt; nonneg = tt }) h.nonneg in (
            f.0,
            f.1,
            f.2.within,
            tt,
            record {
              zero =
                  EachRow-append (IsZero f.0) m.equations s.equations (EachRow-same zero_value m.next v f.0 f.1 m.equations low.zero h.zero) f.2.zero;
              nonneg =
                  f.2.nonneg;
            },
          );
      back = λ v _ wi _ h.
          let z = EachRow-split (IsZero v) m.equations s.equations h.zero in
          let b = all_back x lower m.inequalities (no_found m) v (record { within = wi; zero = z.1; nonneg = h.nonneg }) in
          record { zero = z.0; nonneg = b.1 };
    }

-- an old solution has one tuple, and one value of each new unknown
pub searched_once : (m : System) (x : ℕ) (lower : Bool) → Low m → x < m.next → (v w : Values) → Same m.next v w → Within v (searched m x lower).bounds →
    Within w (searched m x lower).bounds →
    Sat (searched m x lower).system v → Sat (searched m x lower).system w → Same (searched m x lower).system.next v w
unfolding searched
searched_once m x lower low lx v w same wv ww hv hw =
    let s = found_all x lower (no_found m) m.inequalities in
    let zv = (EachRow-split (IsZero v) m.equations s.equations hv.zero).1 in
    let zw = (EachRow-split (IsZero w) m.equations s.equations hw.zero).1 in
    all_once x lower m.inequalities (no_found m) v w (first_low m) lx low.nonneg same (record { within = wv; zero = zv; nonneg = hv.nonneg })
    (record { within = ww; zero = zw; nonneg = hw.nonneg })

pub searched_one : (m : System) (x : ℕ) (lower : Bool) → Low m → x < m.next → ContinuesOnce m (searched m x lower)
searched_one m x lower low lx v one h =
    let f = (searched_keeps m x lower low lx).forth v one h in
    let w = f.0 in
    let other : (u : Values) → Continues m (searched m x lower) v u → Same (searched m x lower).system.next w u = λ u c.
    searched_once m x lower low lx w u (λ d l. sym (f.1 d l) ∙ c.0 d l) f.2 c.1 f.4 c.3 in
    (w, (f.1, f.2, f.3, f.4), other)
