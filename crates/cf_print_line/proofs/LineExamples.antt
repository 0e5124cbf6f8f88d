-- Worked examples of the pattern of a line.
use Rattle.std.specs.Prelude.{◌≡◌, [], ◌∷◌, codes, refl}
use Rattle.cf_tree.specs.declared.base.Base.TheVariants.{Int, Bool as Truth, Set}
use Rattle.cf_print_line.specs.Patterns.{line_text}

no_values : line_text [] ≡ codes "[ \\t]*"
no_values = refl

values : line_text (Int ∷ Truth ∷ Set ∷ []) ≡
    codes "[ \\t]*(-?[0-9]+)[ \\t]+(true|false)[ \\t]+(\\{[ \\t]*(?:-?[0-9]+[ \\t]*(?:,[ \\t]*-?[0-9]+[ \\t]*)*)?\\})[ \\t]*"
values = refl
