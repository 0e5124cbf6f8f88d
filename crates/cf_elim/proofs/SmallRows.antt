-- Rows that the steps of an elimination make are rows of the program, where no test says that a number passes the limit.
use Rattle.std.proofs.Common.{◌≡◌, ◌≢◌, ℕ, zero, suc, ◌+◌, ◌<◌, ◌==◌, ℤ, pos, negsuc, neg_ℤ, ◌*ℤ◌, List, [], ◌∷◌, ◌++◌, Bool, true, false, not, ◌||◌, refl}
use Rattle.std.proofs.Common.{sym, ◌∙◌, arith, subst}
use Rattle.std.specs.Prelude.{filter, map, unsigned_abs, ◌≤ℤ◌, ◌<ℤ◌, if◌then◌else◌}
use Rattle.std.specs.Int.{int_div_euclid}
use Rattle.std.specs.List.{list_any}
use Rattle.std.proofs.lemmas.Int.{ints}
use Rattle.std.proofs.lemmas.Bool.{cond_both}
use Rattle.std.proofs.lemmas.List.Folds.{list_any-append}
use Rattle.std.proofs.lemmas.Nat.Gcd.{le_of_dvd}
use Rattle.std.proofs.Math.Nat.{div-le_self}
use Rattle.cf_num.specs.Limit.{IsWithin}
use Rattle.cf_num.specs.Parts.{parts_of}
use Rattle.cf_num.proofs.DivisorLemmas.{gcd_of-is, parts_of-is, t_within}
use Rattle.cf_num.proofs.Orders.{mul-le_z}
use Rattle.cf_linear.specs.Rows.{Row, entry, put, comb, is_zero, Rises, AreWithin, IsRow, AreBelow, row_passes, passes, comb_passes, without, subst_row}
use Rattle.cf_linear.specs.Rows.{subst_passes}
use Rattle.cf_linear.specs.Systems.{EachRow}
use Rattle.cf_linear.specs.Steps.{has_column, unknown_part, common, divided, one_at, two_at, is_unit, is_positive, solved_row, factors_of, subst_all}
use Rattle.cf_linear.specs.Steps.{searches, search_equation, search_bound, pair_row, pair_passes, pairs_of}
use Rattle.cf_linear.proofs.CombLemmas.{Rises-comb}
use Rattle.cf_linear.proofs.KindLemmas.{EachRow-append, Rises-filter}
use Rattle.cf_linear.proofs.PassingLemmas.{or_false, within_is, entry-within, comb_not, neg_within}
use Rattle.cf_linear.proofs.SubstituteLemmas.{two_entries}
use Rattle.cf_linear.specs.Searching.{equation_start}
use Rattle.cf_linear.proofs.PartColumns.{floored_is}
use Rattle.cf_linear.proofs.EquationLaws.{equation_is}
use Rattle.cf_linear.proofs.PartLemmas.{Rises-divided, part_below}
use Rattle.cf_equation.proofs.EndValues.{unit_fine}
use Rattle.cf_bounds.proofs.CleanLemmas.{unknowns_of, floored}

-- ---- one row
are_within : (r : Row) → row_passes r ≡ false → AreWithin r
are_within [] e = tt
are_within ((c, k) ∷ r) e = let o = or_false (passes k) (row_passes r) e in (within_is k o.0, are_within r o.1)

pub comb_small : (a : ℤ) (r : Row) (b : ℤ) (s : Row) → IsRow r → IsRow s → comb_passes a r b s ≡ false → IsRow (comb a r b s)
comb_small a r b s p q h = (Rises-comb 0 a r b s p.0 q.0, are_within (comb a r b s) (comb_not a r b s p q h))

within_filter : (p : ℕ × ℤ → Bool) (r : Row) → AreWithin r → AreWithin (filter p r)
within_filter p [] h = tt
within_filter p ((c, k) ∷ r) h =
    cond_both (p (c, k)) ((c, k) ∷ filter p r) (filter p r) (λ y. AreWithin y) (λ _. (h.0, within_filter p r h.1)) (λ _. within_filter p r h.1)

pub filter_small : (p : ℕ × ℤ → Bool) (r : Row) → IsRow r → IsRow (filter p r)
filter_small p r h = (Rises-filter 0 p r h.0, within_filter p r h.1)

pub without_small : (x : ℕ) (r : Row) → IsRow r → IsRow (without x r)
without_small x r h = filter_small (λ (c, k). not (c == x)) r h

subst_small : (x : ℕ) (s r : Row) → IsRow s → IsRow r → subst_passes x s r ≡ false → IsRow (subst_row x s r)
subst_small x s r p q h = comb_small (pos 1) (without x r) (entry r x) s (without_small x r q) p h

within_append : (r s : Row) → AreWithin r → AreWithin s → AreWithin (r ++ s)
within_append [] s h k = k
within_append ((c, m) ∷ r) s h k = (h.0, within_append r s h.1 k)

within_put : (c : ℕ) (k : ℤ) (r : Row) → IsWithin k → AreWithin r → AreWithin (put c k r)
within_put c k r h q = cond_both (is_zero k) r ((c, k) ∷ r) (λ y. AreWithin y) (λ _. q) (λ _. (h, q))

one_some : pos 1 ≢ pos 0
one_some e = cc

minus_some : negsuc 0 ≢ pos 0
minus_some e = cc

two_rise : (a : ℤ) (u : ℕ) (b : ℤ) (v : ℕ) → Rises 0 (two_at a u b v)
two_rise a u b v = Rises-comb 0 a (one_at u) b (one_at v) (omega arith, one_some, tt) (omega arith, one_some, tt)

pub two_small : (a : ℤ) (u : ℕ) (b : ℤ) (v : ℕ) → u < v → IsWithin a → IsWithin b → IsRow (two_at a u b v)
two_small a u b v l p q = (
  two_rise a u b v,
  subst AreWithin (sym (two_entries a u b v l)) (within_append (put u a []) (put v b []) (within_put u a [] p tt) (within_put v b [] q tt)),
)

one_within : IsWithin (pos 1)
one_within = omega arith

minus_within : IsWithin (negsuc 0)
minus_within = omega arith

-- a row times 1 or -1
same_small : (r : Row) → IsRow r → IsRow (comb (pos 1) r (pos 0) [])
same_small r h = comb_small (pos 1) r (pos 0) [] h (tt, tt) (unit_fine (negsuc 0) r refl h)

turned_small : (r : Row) → IsRow r → IsRow (comb (negsuc 0) r (pos 0) [])
turned_small r h = comb_small (negsuc 0) r (pos 0) [] h (tt, tt) (unit_fine (pos 1) r refl h)

-- ---- division
quotient_small : (k : ℤ) (g : ℕ) → IsWithin k → IsWithin (int_div_euclid k (pos g))
quotient_small (pos n) g h = let d = div-le_self n g in omega arith
quotient_small (negsuc n) g h = let d = div-le_self n g in omega arith

quotient_by : (k g : ℤ) → pos 0 <ℤ g → IsWithin k → IsWithin (int_div_euclid k g)
quotient_by k (pos g) p h = quotient_small k g h
quotient_by k (negsuc g) p h = absurd (omega (arith, ints))

divided_within : (g : ℕ) (r : Row) → AreWithin r → AreWithin (divided g r)
divided_within g [] h = tt
divided_within g ((c, k) ∷ r) h = within_put c (int_div_euclid k (pos g)) (divided g r) (quotient_small k g h.0) (divided_within g r h.1)

pub divided_small : (g : ℕ) (r : Row) → IsRow r → IsRow (divided g r)
divided_small g r h = (Rises-divided 0 g r h.0, divided_within g r h.1)

size_some : (k : ℤ) → k ≢ pos 0 → 0 < unsigned_abs k
size_some (pos zero) h = absurd (h refl)
size_some (pos (suc n)) h = omega arith
size_some (negsuc n) h = omega arith

-- the common divisor of the entries
common_small : (n : ℕ) (r : Row) → Rises n r → AreWithin r → IsWithin (pos (common r))
common_small n [] p h = omega arith
common_small n ((c, k) ∷ r) p h = let w = h.0 in let l = le_of_dvd (size_some k p.1) (gcd_of-is (unsigned_abs k) (common r)).0 in omega arith

pub divisor_small : (us : List ℕ) (r : Row) → IsRow r → IsWithin (pos (unknowns_of us r))
divisor_small us r h = let q = filter_small (λ (c, k). has_column us c) r h in common_small 0 (unknown_part us r) q.0 q.1

pub floored_small : (us : List ℕ) (n : ℕ) (r : Row) → AreBelow n r → IsRow r → IsRow (floored us n r)
floored_small us n r b h =
    let g = unknowns_of us r in
    let u = unknown_part us r in
    let q = filter_small (λ (c, k). has_column us c) r h in
    let d = divided_small g u q in (
      Rises-comb 0 (pos 1) (divided g u) (pos 1) ((n, pos 1) ∷ []) d.0 (omega arith, one_some, tt),
      subst AreWithin (sym (floored_is n (pos g) u (part_below n us r b) q))
          (within_append (divided g u) (put n (pos 1) []) d.1 (within_put n (pos 1) [] one_within tt)),
    )

-- ---- the end of an equation
turn_small : (d : ℕ) (b : Bool) → IsRow ((d, (if b then negsuc 0 else pos 1)) ∷ [])
turn_small d true = ((omega arith, minus_some, tt), (minus_within, tt))
turn_small d false = ((omega arith, one_some, tt), (one_within, tt))

pub solved_small : (c : ℤ) (r : Row) (d : ℕ) → IsRow r → IsRow (solved_row c r d)
solved_small c r d h =
    cond_both (is_unit c) (comb (neg_ℤ c) r (pos 0) []) ((d, (if is_positive c then negsuc 0 else pos 1)) ∷ []) (λ y. IsRow y)
    (λ e. comb_small (neg_ℤ c) r (pos 0) [] h (tt, tt) (unit_fine c r e h)) (λ _. turn_small d (is_positive c))

pub any_parts : (p : Row → Bool) (xs ys : List Row) → list_any p (xs ++ ys) ≡ false → (list_any p xs ≡ false) × (list_any p ys ≡ false)
any_parts p xs ys h = or_false (list_any p xs) (list_any p ys) (sym (list_any-append p xs ys) ∙ h)

pub all_subst_small : (x : ℕ) (s : Row) (rows : List Row) → IsRow s → EachRow IsRow rows → list_any (subst_passes x s) rows ≡ false →
    EachRow IsRow (subst_all x s rows)
all_subst_small x s [] p q h = tt
all_subst_small x s (r ∷ rows) p q h =
    let o = or_false (subst_passes x s r) (list_any (subst_passes x s) rows) h in
    (subst_small x s r p q.0 o.0, all_subst_small x s rows p q.1 o.1)

-- ---- Merge
pub all_mixed_small : (x y : ℕ) (r s : Row) (rows : List Row) → IsRow r → IsRow s → EachRow IsRow rows →
    list_any (λ e. subst_passes y s e || subst_passes x r (subst_row y s e)) rows ≡ false → EachRow IsRow (subst_all x r (subst_all y s rows))
all_mixed_small x y r s [] p q k h = tt
all_mixed_small x y r s (e ∷ rows) p q k h =
    let o =
    or_false (subst_passes y s e || subst_passes x r (subst_row y s e)) (list_any (λ e. subst_passes y s e || subst_passes x r (subst_row y s e)) rows) h in
    let i = or_false (subst_passes y s e) (subst_passes x r (subst_row y s e)) o.0 in
    (subst_small x r (subst_row y s e) p (subst_small y s e q k.0 i.0) i.1, all_mixed_small x y r s rows p q k.1 o.1)

-- the factors of a Merge
pub record FactorsSmall (a b : ℤ) : Type 0 where
  pub s : IsWithin (factors_of a b).s
  pub m : IsWithin (factors_of a b).m
  pub t : IsWithin (factors_of a b).t
  pub n : IsWithin (factors_of a b).n

first_small : (s g : ℤ) (b : ℤ) → pos 0 ≤ℤ s → pos 0 <ℤ g → (s *ℤ g) <ℤ pos (unsigned_abs b) → IsWithin b → IsWithin s
first_small s g b low some high h = let m = mul-le_z s (pos 1) g low (omega (arith, ints)) in omega (arith, ints)

pub factors_small : (a b : ℤ) → a ≢ pos 0 → b ≢ pos 0 → IsWithin a → IsWithin b → FactorsSmall a b
unfolding factors_of
factors_small a b ha hb wa wb =
    let p = parts_of a b in
    let is = parts_of-is a b ha hb in
    let t = t_within a b p ha hb is in
    record {
      s = first_small p.s p.g b is.low is.positive is.high wb;
      m = neg_within (int_div_euclid b p.g) (quotient_by b p.g is.positive wb);
      t = omega arith;
      n = quotient_by a p.g is.positive wa;
    }

-- ---- the search
search_within : (x k : ℕ) (lower : Bool) (r : Row) → AreBelow k r → searches x lower r ≡ true → IsRow r → AreWithin (search_equation x lower k r)
search_within x k true r b e h =
    subst AreWithin (sym (equation_is x k true r b e))
    (within_append (equation_start x true r ++ put k (pos 1) []) (put (k + 1) (neg_ℤ (entry r x)) [])
    (within_append (equation_start x true r) (put k (pos 1) []) (turned_small (without x r) (without_small x r h)).1 (within_put k (pos 1) [] one_within tt))
    (within_put (k + 1) (neg_ℤ (entry r x)) [] (neg_within (entry r x) (entry-within r 0 x h.0 h.1)) tt))
search_within x k false r b e h =
    subst AreWithin (sym (equation_is x k false r b e))
    (within_append (equation_start x false r ++ put k (negsuc 0) []) (put (k + 1) (entry r x) [])
    (within_append (equation_start x false r) (put k (negsuc 0) []) (same_small (without x r) (without_small x r h)).1
    (within_put k (negsuc 0) [] minus_within tt))
    (within_put (k + 1) (entry r x) [] (entry-within r 0 x h.0 h.1) tt))

search_rise : (x k : ℕ) (lower : Bool) (r : Row) → Rises 0 (without x r) → Rises 0 (search_equation x lower k r)
search_rise x k true r o = Rises-comb 0 (negsuc 0) (without x r) (pos 1) _ o (two_rise (pos 1) k (neg_ℤ (pos (unsigned_abs (entry r x)))) (k + 1))
search_rise x k false r o = Rises-comb 0 (pos 1) (without x r) (pos 1) _ o (two_rise (negsuc 0) k (neg_ℤ (pos (unsigned_abs (entry r x)))) (k + 1))

pub search_small : (x k : ℕ) (lower : Bool) (r : Row) → AreBelow k r → searches x lower r ≡ true → IsRow r → IsRow (search_equation x lower k r)
search_small x k lower r b e h = (search_rise x k lower r (without_small x r h).0, search_within x k lower r b e h)

pub search_bound_small : (x k : ℕ) (lower : Bool) → x < k → IsRow (search_bound x lower k)
search_bound_small x k true l = two_small (pos 1) x (negsuc 0) (k + 1) (omega arith) one_within minus_within
search_bound_small x k false l = two_small (negsuc 0) x (pos 1) (k + 1) (omega arith) minus_within one_within

-- ---- the drop
row_pairs_small : (x : ℕ) (l : Row) (high : List Row) → IsRow l → EachRow IsRow high → list_any (pair_passes x l) high ≡ false →
    EachRow IsRow (map (pair_row x l) high)
row_pairs_small x l [] p q h = tt
row_pairs_small x l (u ∷ high) p q h =
    let o = or_false (pair_passes x l u) (list_any (pair_passes x l) high) h in
    let first = comb_small (neg_ℤ (entry u x)) (without x l) (entry l x) (without x u) (without_small x l p) (without_small x u q.0) o.0 in
    (first, row_pairs_small x l high p q.1 o.1)

pub pairs_small : (x : ℕ) (low high : List Row) → EachRow IsRow low → EachRow IsRow high → list_any (λ l. list_any (pair_passes x l) high) low ≡ false →
    EachRow IsRow (pairs_of x low high)
pairs_small x [] high p q h = tt
pairs_small x (l ∷ low) high p q h =
    let o = or_false (list_any (pair_passes x l) high) (list_any (λ l. list_any (pair_passes x l) high) low) h in
    EachRow-append IsRow (map (pair_row x l) high) (pairs_of x low high) (row_pairs_small x l high p.0 q o.0) (pairs_small x low high p.1 q o.1)
