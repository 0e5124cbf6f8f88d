-- Search values as the program binds them, and sets that are met.
use Rattle.std.proofs.Common.{◌≡◌, ℕ, ◌-◌, ◌*◌, ◌/◌, ◌%◌, ◌^◌, ◌<◌, ◌≤◌, nat_le, nat_eq, cond, ℤ, pos, List, [], ◌∷◌, ◌++◌, length, Some, None, true, refl, ap, zero, suc, arith, append_assoc, ⊎_elim}
use Rattle.std.proofs.Math.Nat.{div-eq_of_lt, mod-eq_of_lt, div-le_self, min-eq_left, mod-lt, mul-zero}
use Rattle.std.proofs.lemmas.Bool.Decides.{nat_tests}
use Rattle.std.proofs.lemmas.Bool.{cases_lt}
use Rattle.std.proofs.lemmas.List.Elements.{All-head, All-tail}
use Rattle.cf_num.specs.Limit.{IsWithin, within}
use Rattle.cf_tree.specs.Sets.{AreWithin}
use Rattle.cf_tree.specs.Values.{Value, number, elements, same_list}
use Rattle.cf_tree.specs.Meaning.{greatest, count_below, tuple_at}
use Rattle.cf_eval.specs.Reached.{given, met, met_set}
use Rattle.cf_eval.specs.RunAnswers.{BindsAll, capped}

-- an index divides as well by a stride that is too great to be kept
div_capped : (i n : ℕ) → i < 2 ^ 64 - 1 → i / capped n ≡ i / n
div_capped i n h = ⊎_elim
    (λ l. let big : i < n = omega arith in let cap : capped n ≡ 2 ^ 64 - 1 = omega arith in rw (cap, div-eq_of_lt h, div-eq_of_lt big) refl)
    (λ g. ap (λ m. i / m) (min-eq_left g)) (cases_lt (2 ^ 64 - 1) n)

mod_capped : (i n : ℕ) → i < 2 ^ 64 - 1 → i % capped n ≡ i % n
mod_capped i n h = ⊎_elim
    (λ l. let big : i < n = omega arith in let cap : capped n ≡ 2 ^ 64 - 1 = omega arith in rw (cap, mod-eq_of_lt h, mod-eq_of_lt big) refl)
    (λ g. ap (λ m. i % m) (min-eq_left g)) (cases_lt (2 ^ 64 - 1) n)

within_test : (k : ℕ) → k < 2 ^ 64 → nat_le k (2 ^ 127 - 1) ≡ true
within_test k h = grind (arith, nat_tests)

met_count : (k : ℕ) → k < 2 ^ 64 → met (within (pos k)) ≡ given (number (pos k) ∷ [])
met_count k h = ap (λ t. met (cond t (Some (pos k)) None)) (within_test k h)

binds_more : (k : ℕ) (ks : List ℕ) (old new : List Value) → k < 2 ^ 64 → BindsAll ks (old ++ (number (pos k) ∷ [])) new → BindsAll (k ∷ ks) old new
binds_more k ks old new h b = (number (pos k) ∷ b.0, rw (met_count k h, b.1) refl, rw append_assoc at b.2)

-- the first search value by the stride that is kept, and the others
binds_first : (bound : ℕ) (bs : List ℕ) (i stride : ℕ) (old new : List Value) → stride ≡ capped (count_below bs) → i < 2 ^ 64 - 1 →
    BindsAll (tuple_at bs (i % stride)) (old ++ (number (pos (i / stride)) ∷ [])) new → BindsAll (tuple_at (bound ∷ bs) i) old new
binds_first bound bs i stride old new e h b =
    let low : i / count_below bs ≤ i = div-le_self i (count_below bs) in
    binds_more (i / count_below bs) (tuple_at bs (i % count_below bs)) old new (omega arith)
    (rw (e, div_capped i (count_below bs) h, mod_capped i (count_below bs) h) at b)

-- what the walk binds from here on is bound by the whole walk
pub record Binds (bounds : List ℕ) (index : ℕ) (old : List Value) (rest : List ℕ) (left : ℕ) (env : List Value) : Type 0 where
  pub binds : (new : List Value) → BindsAll (tuple_at rest left) env new → BindsAll (tuple_at bounds index) old new

pub binds_next : (bounds : List ℕ) (index : ℕ) (old : List Value) (bound : ℕ) (bs : List ℕ) (left count : ℕ) (env next : List Value) →
    Binds bounds index old (bound ∷ bs) left env →
    count ≡ capped (count_below bs) → left < 2 ^ 64 - 1 → next ≡ env ++ (number (pos (left / count)) ∷ []) → Binds bounds index old bs (left % count) next
binds_next bounds index old bound bs left count env next w e h n = record {
  binds = λ new b. w.binds new (binds_first bound bs left count env new e h (rw n at b));
}

below_some : (b n i : ℕ) → i < b * n → 0 < n
below_some b zero i h = let z : b * zero ≡ zero = mul-zero b in omega arith
below_some b (suc n) i h = omega arith

-- what is left of the index lies below the bounds that are left
pub next_in : (bound : ℕ) (bs : List ℕ) (left count : ℕ) → count ≡ capped (count_below bs) → left < 2 ^ 64 - 1 → left < count_below (bound ∷ bs) →
    left % count < count_below bs
next_in bound bs left count e h l = rw (e, mod_capped left (count_below bs) h) (mod-lt left (below_some bound (count_below bs) left l))

-- the elements of a set are within the limit
greatest_within : (zs : List ℤ) → AreWithin zs → greatest zs ≤ 2 ^ 127 - 1
greatest_within [] w = omega arith
greatest_within (z ∷ zs) w = let rest = greatest_within zs (All-tail IsWithin z zs w) in let first : IsWithin z = All-head IsWithin z zs w in omega arith

pub met_set_is : (zs : List ℤ) → AreWithin zs → met_set zs ≡ given (elements zs ∷ [])
met_set_is zs w =
    let low = greatest_within zs w in
    let t : nat_le (greatest zs) (2 ^ 127 - 1) ≡ true = grind (arith, nat_tests) in
    rw t refl

pub same_nothing : (zs : List ℤ) → nat_eq (length zs) 0 ≡ same_list zs []
same_nothing [] = refl
same_nothing (z ∷ zs) = grind (arith, nat_tests)
