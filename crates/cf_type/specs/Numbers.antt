-- The numbers of functions by name: of a name that several bear, the first.
use Rattle.std.specs.Prelude.{ℕ, suc, cond, List, [], ◌∷◌, ◌++◌, map, Option, Some, None, is_some, if◌then◌else◌, Vec}
use Rattle.std.specs.Str.{bytes_eq}
use Rattle.std.specs.Global.{Global}
use Rattle.cf_tree.specs.declared.raw.RawDef.{RawDef}

-- the number that a table has for a name
abbrev pub number_of : List (List ℕ × ℕ) → List ℕ → Option ℕ
number_of [] x = None
number_of (e ∷ es) x = cond (bytes_eq x e.0) (Some e.1) (number_of es x)

-- a table with one name more, unless it has that name
abbrev pub with_name : List (List ℕ × ℕ) → List ℕ → ℕ → List (List ℕ × ℕ)
with_name table x i = if is_some (number_of table x) then table else table ++ (x, i) ∷ []

-- a table with these names too, of which the first has number i
abbrev pub with_names : List (List ℕ × ℕ) → ℕ → List (List ℕ) → List (List ℕ × ℕ)
with_names table i [] = table
with_names table i (x ∷ xs) = with_names (with_name table x i) (suc i) xs

abbrev pub names_of_defs : List RawDef → List (List ℕ)
names_of_defs ds = map (λ d. d.name) ds

-- the table of the names of these functions
abbrev pub numbers_of : List RawDef → List (List ℕ × ℕ)
numbers_of ds = with_names [] 0 (names_of_defs ds)

-- the entries of a table of the program
abbrev pub shown : List (Vec ℕ Global × ℕ) → List (List ℕ × ℕ)
shown es = map (λ e. (e.0.items, e.1)) es
