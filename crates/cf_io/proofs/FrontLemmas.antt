-- Reading the front of the bytes that are left.
use Rattle.std.proofs.Common.{◌≡◌, ◌+◌, ◌-◌, ℕ, List, ◌++◌, length, take, drop, arith, sym, ◌∙◌, Option, Some, None}
use Rattle.std.specs.Io.KnownBytes.{Appends, Keeps}
use Rattle.std.proofs.lemmas.List.{take-append-drop, drop-drop, length-drop, take_all}

-- what `&xs[i..]` is
pub range_from : (i : ℕ) (xs : List ℕ) → take (length xs - i) (drop i xs) ≡ drop i xs
range_from i xs = take_all (length xs - i) (drop i xs) (omega (arith, length-drop i xs))

-- where as much as fits was copied, that was the front of what was left
pub front_of : (bytes got : List ℕ) (at n : ℕ) → take n got ≡ take n (drop at bytes) → drop at bytes ≡ take n got ++ drop (at + n) bytes
front_of bytes got at n same = rw (same, ← drop-drop n at bytes) (sym (take-append-drop n (drop at bytes)))

-- what was appended, and then nothing
pub Appends-kept : (a b c : Option (List ℕ)) (bs : List ℕ) → Appends a b bs → Keeps b c → Appends a c bs
Appends-kept None b c bs p q = tt
Appends-kept (Some x) None c bs p q = absurd p
Appends-kept (Some x) (Some y) None bs p q = absurd q
Appends-kept (Some x) (Some y) (Some z) bs p q = q ∙ p
