-- Going over two rows at once.
use Rattle.std.proofs.Common.{◌≡◌, ℕ, zero, ◌+◌, ◌<◌, ◌≤◌, pos, [], ◌∷◌, refl, sym, arith, suc, get_or, drop, drop-cons, add-one, length, inl, inr}
use Rattle.std.proofs.Math.ListN.{drop_of_length-le}
use Rattle.std.proofs.lemmas.Bool.{eq-eqb}
use Rattle.cf_num.specs.Limit.{IsWithin}
use Rattle.cf_linear.specs.Rows.{Row, Rises, AreWithin, AreBelow}
use Rattle.cf_linear.specs.Merging.{IsLeast, IsTaken}
use Rattle.cf_linear.proofs.Canonical.{Rises-lower, entry-head, entry-low}
use Rattle.cf_linear.proofs.CombLemmas.{without-low}

-- what rises rises from each of its columns on
pub Rises-drop : (r : Row) (i c : ℕ) → Rises c r → i < length r → Rises (get_or r i (0, pos 0)).0 (drop i r)
Rises-drop [] i c p h = absurd (omega arith)
Rises-drop ((d, k) ∷ r) zero c p h = (omega arith, p.1, p.2)
Rises-drop ((d, k) ∷ r) (suc i) c p h = Rises-drop r i (suc d) p.2 (omega arith)

pub AreWithin-at : (r : Row) (i : ℕ) → AreWithin r → i < length r → IsWithin (get_or r i (0, pos 0)).1
AreWithin-at [] i p h = absurd (omega arith)
AreWithin-at ((d, k) ∷ r) zero p h = p.0
AreWithin-at ((d, k) ∷ r) (suc i) p h = AreWithin-at r i p.1 (omega arith)

pub AreBelow-at : (n : ℕ) (r : Row) (i : ℕ) → AreBelow n r → i < length r → (get_or r i (0, pos 0)).0 < n
AreBelow-at n [] i p h = absurd (omega arith)
AreBelow-at n ((d, k) ∷ r) zero p h = p.0
AreBelow-at n ((d, k) ∷ r) (suc i) p h = AreBelow-at n r i p.1 (omega arith)

pub rises_at_end : (c i : ℕ) (r : Row) → length r ≤ i → Rises c (drop i r)
rises_at_end c i r h = rw (drop_of_length-le r h) tt

pub taken_here : (r : Row) (i c : ℕ) → Rises c (drop i r) → i < length r → (get_or r i (0, pos 0)).0 ≡ c → IsTaken r i c (get_or r i (0, pos 0)).1 (i + 1)
taken_here r i c p h e =
    let p' = rw (drop-cons r i (0, pos 0), ← e) at p in
    record {
      taken = rw (drop-cons r i (0, pos 0), ← e)
          (sym (entry-head (get_or r i (0, pos 0)).0 (get_or r i (0, pos 0)).0 (get_or r i (0, pos 0)).1 (drop (suc i) r) p'));
      rest = rw (add-one, drop-cons r i (0, pos 0), e, eq-eqb c c refl) (sym (without-low c (drop (suc i) r) (rw e at p'.2)));
      within = omega arith;
      onward = omega arith;
      moved = λ _ _. refl;
    }

pub not_taken : (r : Row) (i c : ℕ) → i ≤ length r → Rises (suc c) (drop i r) → (i < length r → (get_or r i (0, pos 0)).0 ≡ c → ⊥) → IsTaken r i c (pos 0) i
not_taken r i c l p n = record {
  taken = sym (entry-low (suc c) (drop i r) c p (omega arith));
  rest = sym (without-low c (drop i r) p);
  within = l;
  onward = omega arith;
  moved = λ h e. absurd (n h e);
}

-- a first column that is not c is above c
pub rises_above : (r : Row) (i c : ℕ) → Rises c (drop i r) → i < length r → ((get_or r i (0, pos 0)).0 ≡ c → ⊥) → Rises (suc c) (drop i r)
rises_above r i c p h n =
    let p' = rw (drop-cons r i (0, pos 0)) at p in
    let l = p'.0 in
    rw (drop-cons r i (0, pos 0)) (omega arith, p'.1, p'.2)

-- ---- the least column of two rows
module _ (r : Row) (i : ℕ) (s : Row) (j : ℕ) where
  pub least_second : Rises 0 s → length r ≤ i → j < length s → IsLeast r i s j (get_or s j (0, pos 0)).0
  least_second q l h = record { first = rises_at_end _ i r l; second = Rises-drop s j 0 q h; is_one = inr (h, refl) }

  pub least_first : Rises 0 r → i < length r → length s ≤ j → IsLeast r i s j (get_or r i (0, pos 0)).0
  least_first p h l = record { first = Rises-drop r i 0 p h; second = rises_at_end _ j s l; is_one = inl (h, refl) }

  pub least_is_second : Rises 0 r → Rises 0 s → i < length r → j < length s → (get_or s j (0, pos 0)).0 ≤ (get_or r i (0, pos 0)).0 →
      IsLeast r i s j (get_or s j (0, pos 0)).0
  least_is_second p q h k l = record {
    first = Rises-lower (get_or s j (0, pos 0)).0 (get_or r i (0, pos 0)).0 (drop i r) l (Rises-drop r i 0 p h);
    second = Rises-drop s j 0 q k;
    is_one = inr (k, refl);
  }

  pub least_is_first : Rises 0 r → Rises 0 s → i < length r → j < length s → (get_or r i (0, pos 0)).0 ≤ (get_or s j (0, pos 0)).0 →
      IsLeast r i s j (get_or r i (0, pos 0)).0
  least_is_first p q h k l = record {
    first = Rises-drop r i 0 p h;
    second = Rises-lower (get_or r i (0, pos 0)).0 (get_or s j (0, pos 0)).0 (drop j s) l (Rises-drop s j 0 q k);
    is_one = inl (h, refl);
  }
