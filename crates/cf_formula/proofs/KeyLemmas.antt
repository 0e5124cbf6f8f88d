-- A row behind its constant.
use Rattle.std.proofs.Common.{◌≡◌, ◌≢◌, ℕ, zero, suc, ◌+◌, ◌-◌, ◌<◌, ◌≤◌, ◌==◌, ℤ, pos, [], ◌∷◌, true, false, refl, sym, ◌∙◌, ap, arith, get_or, length, drop, drop-cons, add-one}
use Rattle.std.specs.Prelude.{◌≤ℤ◌, ◌<ℤ◌, int_lt, unsigned_abs, ◌-ℤ◌}
use Rattle.std.specs.Int.{int_rem_euclid}
use Rattle.std.proofs.lemmas.Int.{ints}
use Rattle.std.proofs.lemmas.Bool.{eqb-true, eqb-false, eq-eqb}
use Rattle.std.proofs.Math.ListN.{drop_of_length-le}
use Rattle.cf_num.specs.Divisors.{gcd_of}
use Rattle.cf_linear.specs.Rows.{Row, IsRow, entry, is_zero, same_row}
use Rattle.cf_linear.specs.Steps.{common}
use Rattle.cf_linear.proofs.BoolLemmas.{on_bool}
use Rattle.cf_linear.proofs.CombLemmas.{without-low}
use Rattle.cf_linear.proofs.RowTests.{different_length}
use Rattle.cf_linear.proofs.RowLemmas.{zero_from_is_zero}
use Rattle.cf_formula.specs.Atoms.{key, is_constant, first_entry, is_divided}
use Rattle.cf_formula.proofs.TestLemmas.{le_is, gt_is}

-- ---- where the key begins
pub key_empty : (r : Row) → length r ≡ 0 → drop 0 r ≡ key r
key_empty [] e = refl
key_empty ((c, k) ∷ r) e = absurd (omega arith)

pub key_behind : (r : Row) → IsRow r → 0 < length r → (get_or r 0 (0, pos 0)).0 ≡ 0 → drop 1 r ≡ key r
key_behind [] p h e = absurd (omega arith)
key_behind ((zero, k) ∷ r) p h e = sym (without-low 0 r p.0.2)
key_behind ((suc c, k) ∷ r) p h e = absurd (omega arith)

pub key_whole : (r : Row) → IsRow r → 0 < length r → (get_or r 0 (0, pos 0)).0 ≢ 0 → drop 0 r ≡ key r
key_whole [] p h n = absurd (omega arith)
key_whole ((zero, k) ∷ r) p h n = absurd (n refl)
key_whole ((suc c, k) ∷ r) p h n = sym (without-low 0 ((suc c, k) ∷ r) (omega arith, p.0.1, p.0.2))

-- ---- a place in a list
drop_some : (r : Row) (i : ℕ) → i < length r → drop i r ≡ get_or r i (0, pos 0) ∷ drop (i + 1) r
drop_some r i h = rw (add-one, drop-cons r i (0, pos 0)) refl

drop_none : (r : Row) (i : ℕ) → length r ≤ i → drop i r ≡ []
drop_none r i h = drop_of_length-le r h

length-dropped : (r : Row) (i : ℕ) → length (drop i r) ≡ length r - i
length-dropped [] zero = refl
length-dropped [] (suc i) = omega arith
length-dropped (x ∷ r) zero = omega arith
length-dropped (x ∷ r) (suc i) = length-dropped r i ∙ omega arith

-- ---- no column but the constant
pub constant_test : (r : Row) (i : ℕ) → drop i r ≡ key r → i ≤ length r → (i == length r) ≡ is_constant r
constant_test r i e h =
    on_bool (i == length r)
    (λ t. let f : key r ≡ [] = sym e ∙ drop_none r i (let q = eqb-true i (length r) t in omega arith) in rw (t, f) refl)
    (λ t.
    let n = eqb-false i (length r) t in
    let f : key r ≡ get_or r i (0, pos 0) ∷ drop (i + 1) r = sym e ∙ drop_some r i (omega arith) in
    rw (t, f) refl)

-- ---- the first entry
pub first_below : (r : Row) (i : ℕ) → drop i r ≡ key r → i < length r → int_lt (get_or r i (0, pos 0)).1 (pos 0) ≡ int_lt (first_entry (key r)) (pos 0)
first_below r i e h = let f : key r ≡ get_or r i (0, pos 0) ∷ drop (i + 1) r = sym e ∙ drop_some r i h in rw f refl

pub none_below : (r : Row) (i : ℕ) → drop i r ≡ key r → length r ≤ i → false ≡ int_lt (first_entry (key r)) (pos 0)
none_below r i e h = let f : key r ≡ [] = sym e ∙ drop_none r i h in rw f refl

-- ---- a key
pub has_key_is : (r s : Row) (i : ℕ) → drop i r ≡ key r → same_row (drop i r) s ≡ same_row (key r) s
has_key_is r s i e = rw e refl

pub other_key : (r s : Row) (i : ℕ) → drop i r ≡ key r → length r - i ≢ length s → false ≡ same_row (key r) s
other_key r s i e n = sym (different_length (key r) s (λ f. n (sym (length-dropped r i) ∙ ap length e ∙ f)))

pub agree_end : (r s : Row) (a i : ℕ) → length r ≤ i → a + length s ≡ length r → true ≡ same_row (drop i r) (drop (i - a) s)
agree_end r s a i h e = rw (drop_none r i h, drop_none s (i - a) (omega arith)) refl

-- one entry after the other
pub agree_next : (r s : Row) (a i : ℕ) → a ≤ i → i < length r → a + length s ≡ length r →
    (get_or r i (0, pos 0)).0 ≡ (get_or s (i - a) (0, pos 0)).0 → (get_or r i (0, pos 0)).1 ≡ (get_or s (i - a) (0, pos 0)).1 →
    same_row (drop i r) (drop (i - a) s) ≡ same_row (drop (i + 1) r) (drop (i + 1 - a) s)
agree_next r s a i h l e c k =
    let j : i + 1 - a ≡ (i - a) + 1 = omega arith in
    rw (drop_some r i l, drop_some s (i - a) (omega arith), j, c, k)
    (same_first (get_or s (i - a) (0, pos 0)).0 (get_or s (i - a) (0, pos 0)).1 (drop (i + 1) r) (drop (i - a + 1) s))
  where
    same_first : (c : ℕ) (k : ℤ) (r s : Row) → same_row ((c, k) ∷ r) ((c, k) ∷ s) ≡ same_row r s
    same_first c k r s = let z : k -ℤ k ≡ pos 0 = omega (arith, ints) in rw (eq-eqb c c refl, z) refl

pub agree_not : (r s : Row) (a i : ℕ) → a ≤ i → i < length r → a + length s ≡ length r →
    (((get_or r i (0, pos 0)).0 ≡ (get_or s (i - a) (0, pos 0)).0) × ((get_or r i (0, pos 0)).1 ≡ (get_or s (i - a) (0, pos 0)).1) → ⊥) →
    false ≡ same_row (drop i r) (drop (i - a) s)
agree_not r s a i h l e n =
    rw (drop_some r i l, drop_some s (i - a) (omega arith))
    (other_first (get_or r i (0, pos 0)).0 (get_or r i (0, pos 0)).1 (get_or s (i - a) (0, pos 0)).0 (get_or s (i - a) (0, pos 0)).1 (drop (i + 1) r)
    (drop (i - a + 1) s) n)
  where
    other_first : (c : ℕ) (k : ℤ) (d : ℕ) (m : ℤ) (r s : Row) → ((c ≡ d) × (k ≡ m) → ⊥) → false ≡ same_row ((c, k) ∷ r) ((d, m) ∷ s)
    other_first c k d m r s n =
        on_bool (c == d)
        (λ t. on_bool (is_zero (k -ℤ m))
        (λ z. absurd (n (eqb-true c d t, let i = zero_from_is_zero (k -ℤ m) z in omega (arith, ints))))
        (λ z. rw (t, z) refl))
        (λ t. rw t refl)

-- ---- the divisor of the key
pub divisor_next : (r : Row) (i : ℕ) → i < length r →
    common (drop i r) ≡ gcd_of (unsigned_abs (get_or r i (0, pos 0)).1) (common (drop (i + 1) r))
divisor_next r i h = rw (drop_some r i h) refl

pub divisor_end : (r : Row) (i : ℕ) → length r ≤ i → common (drop i r) ≡ 0
divisor_end r i h = rw (drop_none r i h) refl

pub divided_small : (r : Row) (g : ℤ) → g ≡ pos (common (key r)) → g ≤ℤ pos 1 → true ≡ is_divided r
divided_small r g e h =
    let t = le_is (common (key r)) 1 (omega (arith, ints)) in rw t refl

pub divided_great : (r : Row) (g : ℤ) → g ≡ pos (common (key r)) → pos 1 <ℤ g → is_zero (int_rem_euclid (entry r 0) g) ≡ is_divided r
divided_great r g e h =
    let t = gt_is (common (key r)) 1 (omega (arith, ints)) in rw (e, t) refl
