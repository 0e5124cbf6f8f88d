-- Places in a text: lines and columns count from 1, and columns count bytes.
use Rattle.std.specs.Prelude.{ℕ, ◌+◌, List, [], ◌∷◌, ◌==◌, if◌then◌else◌}
use Rattle.cf_tree.specs.declared.base.Place.{Place}

abbrev pub first_place : Place
first_place = record { line = 1; column = 1 }

-- the place after a byte: a line feed begins a new line
abbrev pub next_place : Place → ℕ → Place
next_place p b = if b == 10 then record { line = p.line + 1; column = 1 } else record { line = p.line; column = p.column + 1 }

-- the place after some bytes
abbrev pub place_after : Place → List ℕ → Place
place_after p [] = p
place_after p (b ∷ bytes) = place_after (next_place p b) bytes
