-- No source of a workload is longer than a text may be.
use Rattle.std.proofs.Common.{◌≡◌, ◌≤◌, ◌<◌, ◌+◌, ◌==◌, ◌&&◌, ℕ, zero, suc, Bool, true, false, length, refl, subst, arith}
use Rattle.std.proofs.lemmas.Bool.{eqb-true}
use Rattle.std.proofs.lemmas.Bool.Decides.{nat_tests}
use Rattle.std.specs.Prelude.{nat_le}
use Rattle.std.specs.List.{list_all, range_with_len}
use Rattle.std.specs.Fmt.{digits}
use Rattle.cf_tree.proofs.SetLemmas.{on_bool}
use Rattle.cf_gen.specs.Workload.{gen_source}

abbrev is_short : ℕ → Bool
is_short n = nat_le (length (gen_source n)) 1048576

all_short : list_all is_short (range_with_len 1 100) ≡ true
unfolding digits
all_short = refl

both_true : (x y : Bool) → (x && y) ≡ true → (x ≡ true) × (y ≡ true)
both_true true y h = (refl, h)
both_true false y h = absurd (cc)

each_short : (k n : ℕ) → list_all is_short (range_with_len k n) ≡ true → (c : ℕ) → k ≤ c → c < k + n → is_short c ≡ true
each_short k zero h c l u = absurd (omega arith)
each_short k (suc n) h c l u =
    let b = both_true (is_short k) (list_all is_short (range_with_len (k + 1) n)) h in
    on_bool (k == c)
    (λ t. subst (λ i. is_short i ≡ true) (eqb-true k c t) b.0)
    (λ t. each_short (k + 1) n b.1 c (past k c l t) (omega arith))
  where
    past : (k c : ℕ) → k ≤ c → (k == c) ≡ false → k + 1 ≤ c
    past k c l t = grind (arith, nat_tests)

at_most : (n m : ℕ) → nat_le n m ≡ true → n ≤ m
at_most n m h = grind (arith, nat_tests)

pub source_is_short : (n : ℕ) → 1 ≤ n → n ≤ 100 → length (gen_source n) ≤ 1048576
source_is_short n l h = at_most (length (gen_source n)) 1048576 (each_short 1 100 all_short n l (omega arith))
