-- Runs of bytes that pass a test.
use Rattle.std.specs.Prelude.{◌≡◌, ℕ, Bool, true, false, List, [], ◌∷◌}

-- each byte passes
abbrev pub AllAre : (ℕ → Bool) → List ℕ → Type 0
AllAre p [] = Unit {0}
AllAre p (b ∷ w) = (p b ≡ true) × AllAre p w

-- the bytes end, or one comes that is none of these
abbrev pub StopsAt : (ℕ → Bool) → List ℕ → Type 0
StopsAt p [] = Unit {0}
StopsAt p (b ∷ rest) = p b ≡ false

-- w is the longest run of such bytes at the front of w and the rest
abbrev pub IsRun : (ℕ → Bool) → List ℕ → List ℕ → Type 0
IsRun p w rest = AllAre p w × StopsAt p rest
