-- Rows as the entries of a map.
use Rattle.std.proofs.Common.{◌≡◌, ◌≢◌, ℕ, ◌<◌, ◌≤◌, ℤ, pos, negsuc, [], ◌∷◌, ◌++◌, false, Some, None, ◌==◌, refl, sym, ◌∙◌, ap, arith, suc, subst, get_or, length, to_z, of_z}
use Rattle.std.specs.Prelude.{nat_eq, slice_get}
use Rattle.std.specs.Int.{w128}
use Rattle.std.specs.Map.{lookup}
use Rattle.std.proofs.lemmas.Int.{ints, to_z-of_z, fits_signed_from_abs}
use Rattle.std.proofs.lemmas.Bool.{eqb-true, eqb-false, eq-eqb, ne_eqb}
use Rattle.std.proofs.lemmas.Option.{slice_get-get_or}
use Rattle.indexmap.specs.IndexMap.{insert_entry}
use Rattle.cf_num.specs.Limit.{IsWithin}
use Rattle.cf_linear.specs.Rows.{Row, entry, put, Rises, AreWithin, AreBelow, IsRow}
use Rattle.cf_linear.proofs.Canonical.{entry-low}
use Rattle.cf_linear.proofs.MergingLemmas.{AreWithin-at}
use Rattle.cf_linear.proofs.BoolLemmas.{on_bool, zero_plus}

-- a number within the limit that went to its bits and came back
pub back : (z : ℤ) → IsWithin z → to_z w128 (of_z w128 z) ≡ z
back z h = to_z-of_z w128 z (fits_signed_from_abs w128 z (omega arith))

some_same : {A : Type 0} {a b : A} → Some a ≡ Some b → a ≡ b
some_same h = cc

-- what is read at a place of a row is within the limit
pub within_from_get : (r : Row) (i c : ℕ) (k : ℤ) → i < length r → Some (c, k) ≡ slice_get r i → AreWithin r → IsWithin k
within_from_get r i c k h e p =
    let q : (c, k) ≡ get_or r i (0, pos 0) = some_same (e ∙ slice_get-get_or r i (0, pos 0) h) in
    subst (λ (x : ℕ × ℤ). IsWithin x.1) (sym q) (AreWithin-at r i p h)

pub eq_flip : (c d : ℕ) → nat_eq c d ≡ (d == c)
eq_flip c d = on_bool (d == c) (λ e. rw (e, eqb-true d c e) (eq-eqb c c refl)) (λ e. rw e (ne_eqb c d (λ i. let n = eqb-false d c e in n (sym i))))

pub entry_from_lookup : (r : Row) (n c : ℕ) (k : ℤ) → Rises n r → lookup (nat_eq c) r ≡ Some k → entry r c ≡ k
entry_from_lookup [] n c k p e = cc
entry_from_lookup ((d, m) ∷ r) n c k p e = on_bool (d == c)
    (λ t. let q : Some m ≡ Some k = rw (eq_flip c d, t) at e in
    rw (t, entry-low (suc d) r c p.2 (let i = eqb-true d c t in omega arith), some_same q) (omega (arith, ints)))
    (λ t. let q : lookup (nat_eq c) r ≡ Some k = rw (eq_flip c d, t) at e in rw (t, entry_from_lookup r (suc d) c k p.2 q) (zero_plus k))

pub no_entry_from_lookup : (r : Row) (c : ℕ) → lookup (nat_eq c) r ≡ None → entry r c ≡ pos 0
no_entry_from_lookup [] c e = refl
no_entry_from_lookup ((d, m) ∷ r) c e = on_bool (d == c)
    (λ t. let q : Some m ≡ None = rw (eq_flip c d, t) at e in cc)
    (λ t. let q : lookup (nat_eq c) r ≡ None = rw (eq_flip c d, t) at e in rw (t, no_entry_from_lookup r c q) refl)

pub within_from_lookup : (r : Row) (c : ℕ) (k : ℤ) → AreWithin r → lookup (nat_eq c) r ≡ Some k → IsWithin k
within_from_lookup [] c k p e = cc
within_from_lookup ((d, m) ∷ r) c k p e = on_bool (nat_eq c d)
    (λ t. let q : Some m ≡ Some k = rw t at e in subst IsWithin (some_same q) p.0)
    (λ t. let q : lookup (nat_eq c) r ≡ Some k = rw t at e in within_from_lookup r c k p.1 q)

-- a new last column goes to the end
pub insert_last : (r : Row) (c : ℕ) (k : ℤ) → AreBelow c r → insert_entry nat_eq r c k ≡ r ++ (c, k) ∷ []
insert_last [] c k p = refl
insert_last ((d, m) ∷ r) c k p =
    let n : nat_eq c d ≡ false = ne_eqb c d (λ e. let l = p.0 in omega arith) in
    rw (n, insert_last r c k p.1) refl

pub put_nonzero : (c : ℕ) (k : ℤ) → k ≢ pos 0 → put c k [] ≡ (c, k) ∷ []
put_nonzero c (pos n) h = let z : n == 0 ≡ false = ne_eqb n 0 (λ e. h (ap pos e)) in rw z refl
put_nonzero c (negsuc n) h = refl

Rises-append : (n : ℕ) (r : Row) (c : ℕ) (k : ℤ) → Rises n r → AreBelow c r → n ≤ c → k ≢ pos 0 → Rises n (r ++ (c, k) ∷ [])
Rises-append n [] c k p q l h = (l, h, tt)
Rises-append n ((d, m) ∷ r) c k p q l h = (p.0, p.1, Rises-append (suc d) r c k p.2 q.1 (let b = q.0 in omega arith) h)

AreWithin-append : (r : Row) (c : ℕ) (k : ℤ) → AreWithin r → IsWithin k → AreWithin (r ++ (c, k) ∷ [])
AreWithin-append [] c k p h = (h, tt)
AreWithin-append ((d, m) ∷ r) c k p h = (p.0, AreWithin-append r c k p.1 h)

pub IsRow-append : (r : Row) (c : ℕ) (k : ℤ) → IsRow r → AreBelow c r → IsWithin k → k ≢ pos 0 → IsRow (r ++ (c, k) ∷ [])
IsRow-append r c k p q h n = (Rises-append 0 r c k p.0 q (omega arith) n, AreWithin-append r c k p.1 h)
