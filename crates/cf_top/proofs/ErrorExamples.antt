-- What is told to the errors: a part where it fails, and else all; and which inputs are short and long.
use Rattle.std.proofs.Common.{◌≡◌, ◌<◌, ℕ, List, [], ◌∷◌, ◌++◌, ◌⊎◌, length, Some, None, true, false, inl, inr, refl, sym, ap, subst, arith, codes}
use Rattle.cf_io.specs.Causes.{one_more}
use Rattle.cf_io.specs.Limits.{input_limit}
use Rattle.cf_io.specs.Seen.{SinkSeen}
use Rattle.cf_top.specs.Top.{IsTold, IsShort, IsLong}

-- errors that hold these bytes behind so many faults
abbrev errors : List ℕ → ℕ → SinkSeen
errors bytes faults = record { held = Some bytes; faults = faults }

abbrev told : List ℕ
told = codes "usage"

abbrev first_byte : List ℕ → ℕ
first_byte [] = 0
first_byte (b ∷ bytes) = b

-- ---- all, and part of it
all-told : IsTold (errors (codes "x") 0) (errors (codes "xusage") 0) told
all-told = record { prefix = (codes "usage", [], refl, refl); whole = inr (refl, refl) }

part-told : IsTold (errors (codes "x") 0) (errors (codes "xus") 1) told
part-told = record { prefix = (codes "us", codes "age", refl, refl); whole = inl refl }

all-behind_a_fault : IsTold (errors (codes "x") 0) (errors (codes "xusage") 1) told
all-behind_a_fault = record { prefix = (told, [], refl, refl); whole = inl refl }

-- a part without a fault
part-unfailed : IsTold (errors (codes "x") 0) (errors (codes "xus") 0) told → ⊥
part-unfailed h = no h.whole
  where
    no : (◌≡◌ {A = ℕ} 0 (one_more 0)) ⊎ ((codes "xus" ≡ codes "x" ++ told) × ◌≡◌ {A = ℕ} 0 0) → ⊥
    no (inl e) = omega (arith, e)
    no (inr (e, f)) = let l : 3 ≡ 6 = ap length e in omega (arith, l)

failed-twice : IsTold (errors (codes "x") 0) (errors (codes "xus") 2) told → ⊥
failed-twice h = no h.whole
  where
    no : (◌≡◌ {A = ℕ} 2 (one_more 0)) ⊎ ((codes "xus" ≡ codes "x" ++ told) × ◌≡◌ {A = ℕ} 2 0) → ⊥
    no (inl e) = omega (arith, e)
    no (inr (e, f)) = let l : 3 ≡ 6 = ap length e in omega (arith, l)

-- other bytes, and some more
other-bytes : IsTold (errors [] 0) (errors (codes "a") 1) told → ⊥
other-bytes h = no h.prefix.0 h.prefix.1 h.prefix.2 h.prefix.3
  where
    no : (front rest : List ℕ) → told ≡ front ++ rest → codes "a" ≡ front → ⊥
    no [] rest e f = cc f
    no (b ∷ front) rest e f =
        let u : 117 ≡ b = ap first_byte e in
        let a : 97 ≡ b = ap first_byte f in omega (arith, u, a)

more-told : IsTold (errors [] 0) (errors (codes "usages") 0) told → ⊥
more-told h = no h.whole
  where
    no : (◌≡◌ {A = ℕ} 0 (one_more 0)) ⊎ ((codes "usages" ≡ told) × ◌≡◌ {A = ℕ} 0 0) → ⊥
    no (inl e) = omega (arith, e)
    no (inr (e, f)) = let l : 6 ≡ 5 = ap length e in omega (arith, l)

-- ---- inputs
short-line : IsShort (Some input_limit) true (Some (codes "1\n"))
unfolding input_limit
short-line = (codes "1\n", refl, omega arith)

line-not_long : IsLong (Some input_limit) true (Some (codes "1\n")) → ⊥
unfolding input_limit
line-not_long h = no h.0 h.1 h.2
  where
    no : (bytes : List ℕ) → Some (codes "1\n") ≡ Some bytes → 16777216 < length bytes → ⊥
    no bytes e l = let same : codes "1\n" ≡ bytes = cc e in let few : 16777216 < 2 = subst (λ b. 16777216 < length b) (sym same) l in omega (arith, few)

-- an untold input is neither, and one that is not read is short
untold-not_short : IsShort (Some input_limit) true None → ⊥
untold-not_short h = cc (h.1)

untold-not_long : IsLong (Some input_limit) true None → ⊥
untold-not_long h = cc (h.1)

unread-short : IsShort (Some input_limit) false None
unread-short = tt

unread-not_long : IsLong (Some input_limit) false (Some (codes "1\n")) → ⊥
unread-not_long h = h
