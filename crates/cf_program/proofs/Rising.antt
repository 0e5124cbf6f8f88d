-- Numbers that rise strictly, from one number and below another.
use Rattle.std.proofs.Common.{◌≡◌, ℕ, suc, ◌≤◌, ◌<◌, false, nat_eq, List, [], ◌∷◌, ◌++◌, All, arith}
use Rattle.std.proofs.lemmas.List.Elements.{All-nil, All-cons}
use Rattle.std.specs.List.{IsDistinct, AllByRecursion}

abbrev pub Rising : ℕ → List ℕ → ℕ → Type 0
Rising n [] m = n ≤ m
Rising n (k ∷ ks) m = (n ≤ k) × Rising (suc k) ks m

pub rising_le : (n : ℕ) (ks : List ℕ) (m : ℕ) → Rising n ks m → n ≤ m
rising_le n [] m h = h
rising_le n (k ∷ ks) m h = omega (arith, rising_le (suc k) ks m h.1, h.0)

pub rising_append : (n : ℕ) (ks : List ℕ) (m : ℕ) (ls : List ℕ) (p : ℕ) → Rising n ks m → Rising m ls p → Rising n (ks ++ ls) p
rising_append n [] m ls p h k = rising_from n m ls p h k
  where
    rising_from : (n m : ℕ) (ls : List ℕ) (p : ℕ) → n ≤ m → Rising m ls p → Rising n ls p
    rising_from n m [] p h k = omega arith
    rising_from n m (l ∷ ls) p h k = (omega (arith, k.0), k.1)
rising_append n (j ∷ ks) m ls p h k = (h.0, rising_append (suc j) ks m ls p h.1 k)

all_apart : (j n : ℕ) (ks : List ℕ) (m : ℕ) → j < n → Rising n ks m → AllByRecursion (λ y. nat_eq j y ≡ false) ks
all_apart j n [] m h k = tt
all_apart j n (i ∷ ks) m h k = (apart j i (omega (arith, k.0)), all_apart j (suc i) ks m (omega (arith, k.0)) k.1)
  where
    apart : (j i : ℕ) → j < i → nat_eq j i ≡ false
    apart j i h = grind arith

pub rising_distinct : (n : ℕ) (ks : List ℕ) (m : ℕ) → Rising n ks m → IsDistinct nat_eq ks
unfolding IsDistinct
rising_distinct n [] m h = tt
rising_distinct n (k ∷ ks) m h = (all_apart k (suc k) ks m (omega arith) h.1, rising_distinct (suc k) ks m h.1)

pub rising_above : (n : ℕ) (ks : List ℕ) (m : ℕ) → Rising n ks m → All (λ k. n ≤ k) ks
rising_above n [] m h = All-nil (λ k. n ≤ k)
rising_above n (k ∷ ks) m h = All-cons (λ j. n ≤ j) k ks h.0 (above (rising_above (suc k) ks m h.1))
  where
    above : All (λ j. suc k ≤ j) ks → All (λ j. n ≤ j) ks
    above all = λ i d q. omega (arith, all i d q, h.0)
