-- The chooses of which a block may tell that there is no solution.
use Rattle.std.specs.Prelude.{ℕ, List, [], ◌∷◌, ◌++◌, nat_eq, if◌then◌else◌}
use Rattle.std.specs.List.{list_any}
use Rattle.cf_stmt.specs.Blocks.{Block, give, none, leave, bind, part, join, test, arm}

-- the chooses of which a block may tell that there is no solution, each once
abbrev pub with_number : ℕ → List ℕ → List ℕ
with_number n ns = if list_any (λ m. nat_eq n m) ns then ns else ns ++ (n ∷ [])

abbrev pub nones_of : Block → List ℕ → List ℕ
nones_of (none n) ns = with_number n ns
nones_of (give c) ns = ns
nones_of leave ns = ns
nones_of (bind a b) ns = nones_of b (nones_of a ns)
nones_of (part a b) ns = nones_of b (nones_of a ns)
nones_of (join a b) ns = nones_of b (nones_of a ns)
nones_of (test t a b) ns = nones_of b (nones_of a (nones_of t ns))
nones_of (arm ks a b) ns = nones_of b (nones_of a ns)
