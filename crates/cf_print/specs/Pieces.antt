-- Texts that are put together of others.
use Rattle.std.specs.Prelude.{ℕ, List, [], ◌∷◌, ◌++◌, replicate}
use Rattle.std.specs.List.{concat}

abbrev pub repeated : ℕ → List ℕ → List ℕ
repeated n x = concat (replicate n x)

-- a separator before each
abbrev pub led : List ℕ → List (List ℕ) → List ℕ
led separator [] = []
led separator (x ∷ xs) = separator ++ x ++ led separator xs

-- a separator between each two
abbrev pub joined : List ℕ → List (List ℕ) → List ℕ
joined separator [] = []
joined separator (x ∷ xs) = x ++ led separator xs
