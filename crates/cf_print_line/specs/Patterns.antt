-- How values stand in a line, as a pattern.
use Rattle.std.specs.Prelude.{ℕ, List, [], ◌∷◌, map, length, codes, nat_eq, if◌then◌else◌}
use Rattle.std.specs.List.{concat}
use Rattle.cf_tree.specs.declared.base.Base.{Base}
use Rattle.cf_tree.specs.declared.base.Base.TheVariants.{Int, Bool as Truth, Set}
use Rattle.cf_print.specs.Pieces.{joined}

-- how a value stands in a line, as a pattern, and how all do
abbrev pub line_pattern : Base → List ℕ
line_pattern Int = codes "(-?[0-9]+)"
line_pattern Truth = codes "(true|false)"
line_pattern Set = codes "(\\{[ \\t]*(?:-?[0-9]+[ \\t]*(?:,[ \\t]*-?[0-9]+[ \\t]*)*)?\\})"

abbrev pub line_text : List Base → List ℕ
line_text bs =
    if nat_eq (length bs) 0 then codes "[ \\t]*"
    else concat (codes "[ \\t]*" ∷ joined (codes "[ \\t]+") (map line_pattern bs) ∷ codes "[ \\t]*" ∷ [])
