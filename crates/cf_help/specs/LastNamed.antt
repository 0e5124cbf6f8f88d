-- The last of some functions that has a name, and the functions before it.
use Rattle.std.specs.Prelude.{◌≡◌, ◌<◌, ℕ, List, [], ◌∷◌, length, map, take, reverse, get_or, Option, Some, None, if◌then◌else◌}
use Rattle.std.specs.Str.{bytes_eq}
use Rattle.cf_tree.specs.DefView.{RawDefTree, raw_def_tree}
use Rattle.cf_tree.specs.declared.raw.RawDef.{RawDef}

-- functions, the last first
abbrev pub backwards : List RawDef → List RawDefTree
backwards ds = reverse (map raw_def_tree ds)

-- the function of a name with those before it, where the last stands first
abbrev pub last_named : List RawDefTree → List ℕ → Option (RawDefTree × List RawDefTree)
last_named [] x = None
last_named (d ∷ earlier) x = if bytes_eq d.name x then Some (d, earlier) else last_named earlier x

-- the last of a name has this number among these functions
abbrev pub IsLastNamed : List RawDef → List ℕ → Option ℕ → Type 0
IsLastNamed ds x None = last_named (backwards ds) x ≡ None
IsLastNamed ds x (Some n) = (n < length ds) × ((d : RawDef) → last_named (backwards ds) x ≡ Some (raw_def_tree (get_or ds n d), backwards (take n ds)))
