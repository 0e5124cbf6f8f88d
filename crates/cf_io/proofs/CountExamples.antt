-- How counts go up, and what runs of writes and of reads have done.
use Rattle.std.proofs.Common.{◌≡◌, ◌≤◌, ◌++◌, ℕ, List, [], ◌∷◌, length, Some, None, refl, ap, arith, codes}
use Rattle.std.specs.Prelude.{Result, Ok, Err}
use Rattle.cf_io.specs.Bytes.{TookPrefix, Owes, TookFront}
use Rattle.cf_io.specs.Causes.{one_more, counted, Rose, ChangesNothing}
use Rattle.cf_io.specs.Seen.{untold_shelf, untold_source, untold_sink}

-- ---- counts, up to 2^64 - 1
one-more : one_more 3 ≡ 4
one-more = omega arith

last-count : (one_more 18446744073709551614 ≡ 18446744073709551615) × (one_more 18446744073709551615 ≡ 18446744073709551615)
last-count = (omega arith, omega arith)

some-more : (counted 3 4 ≡ 7) × (counted 3 0 ≡ 3) × (counted 18446744073709551610 5 ≡ 18446744073709551615)
    × (counted 18446744073709551610 6 ≡ 18446744073709551615)
some-more = (omega arith, omega arith, omega arith, omega arith)

rises : (Rose 3 4) × (Rose 3 5) × (Rose 18446744073709551615 18446744073709551615)
rises = (omega arith, omega arith, omega arith)

stays-or_falls : (Rose 3 3 → ⊥) × (Rose 3 2 → ⊥) × (Rose 18446744073709551614 18446744073709551614 → ⊥)
stays-or_falls = ((λ h. omega (arith, h)), (λ h. omega (arith, h)), (λ h. omega (arith, h)))

-- ---- a call on an empty slice
on-nothing : ChangesNothing {S = ℕ} {E = ℕ} [] (Ok 0) 5 5
on-nothing e = (refl, refl)

some-on_nothing : ChangesNothing {S = ℕ} {E = ℕ} [] (Ok 1) 5 5 → ⊥
some-on_nothing h = cc ((h refl).0)

fault-on_nothing : ChangesNothing {S = ℕ} {E = ℕ} [] (Err 7) 5 5 → ⊥
fault-on_nothing h = cc ((h refl).0)

changed-by_nothing : ChangesNothing {S = ℕ} {E = ℕ} [] (Ok 0) 5 6 → ⊥
changed-by_nothing h = let e : 6 ≡ 5 = (h refl).1 in omega (arith, e)

on-something : ChangesNothing {S = ℕ} {E = ℕ} (codes "a") (Err 7) 5 6
on-something e = let f : 1 ≡ 0 = e in absurd (omega (arith, f))

-- ---- writes
abbrev first_byte : List ℕ → ℕ
first_byte [] = 0
first_byte (b ∷ bytes) = b

took-a_prefix : TookPrefix (Some (codes "x")) (Some (codes "xab")) (codes "abc")
took-a_prefix = (codes "ab", codes "c", refl, refl)

took-nothing : TookPrefix (Some (codes "x")) (Some (codes "x")) (codes "abc")
took-nothing = ([], codes "abc", refl, refl)

took-all : TookPrefix (Some (codes "x")) (Some (codes "xabc")) (codes "abc")
took-all = (codes "abc", [], refl, refl)

took-others : TookPrefix (Some []) (Some (codes "b")) (codes "abc") → ⊥
took-others h = no h.0 h.1 h.2 h.3
  where
    no : (front rest : List ℕ) → codes "abc" ≡ front ++ rest → codes "b" ≡ front → ⊥
    no [] rest e f = cc f
    no (c ∷ front) rest e f = let a : 97 ≡ c = ap first_byte e in let b : 98 ≡ c = ap first_byte f in omega (arith, a, b)

-- "ab" of "abc" is written, and "c" is still to come
still-owed : Owes (codes "abc") (Some (codes "x")) (Some (codes "xab")) (codes "c")
still-owed = record { done = codes "ab"; took = refl; whole = refl }

owed-no_more : Owes (codes "abc") (Some []) (Some (codes "ab")) [] → ⊥
owed-no_more h = no h.done h.took h.whole
  where
    no : (done : List ℕ) → codes "ab" ≡ done → codes "abc" ≡ done ++ [] → ⊥
    no [] e f = cc e
    no (a ∷ []) e f = let n : 2 ≡ 1 = ap length e in omega (arith, n)
    no (a ∷ b ∷ []) e f = let n : 3 ≡ 2 = ap length f in omega (arith, n)
    no (a ∷ b ∷ c ∷ done) e f = cc e

-- ---- reads
front-read : TookFront 2 (Some (codes "abc")) (Some (codes "c"))
front-read = (codes "ab", omega arith, refl)

too-much_read : TookFront 1 (Some (codes "abc")) (Some (codes "c")) → ⊥
too-much_read h = no h.0 h.1 h.2
  where
    no : (front : List ℕ) → length front ≤ 1 → codes "abc" ≡ front ++ codes "c" → ⊥
    no [] l e = let n : 3 ≡ 1 = ap length e in omega (arith, n)
    no (a ∷ []) l e = let n : 3 ≡ 2 = ap length e in omega (arith, n)
    no (a ∷ b ∷ front) l e = omega (arith, l)

untold-front : TookFront 0 None (Some (codes "c"))
untold-front = ([], omega arith, tt)

-- ---- objects that tell no bytes
untold : ((untold_shelf 1 2 3 4).texts (codes "a") ≡ None) × ((untold_shelf 1 2 3 4).left ≡ None) × ((untold_shelf 1 2 3 4).faults (codes "a") ≡ 1)
    × ((untold_shelf 1 2 3 4).fetches ≡ 2) × ((untold_shelf 1 2 3 4).given ≡ 3) × ((untold_shelf 1 2 3 4).ends ≡ 4)
untold = (refl, refl, refl, refl, refl, refl)

untold-streams : ((untold_source 1 2 3).left ≡ None) × ((untold_source 1 2 3).faults ≡ 1) × ((untold_source 1 2 3).given ≡ 2) × ((untold_source 1 2 3).ends ≡ 3)
    × ((untold_sink 1).held ≡ None) × ((untold_sink 1).faults ≡ 1)
untold-streams = (refl, refl, refl, refl, refl, refl)
