-- Worked examples of filters: what differs with the results.
use Rattle.std.specs.Prelude.{◌≡◌, [], ◌∷◌, codes, refl}
use Rattle.cf_tree.specs.declared.base.Base.TheVariants.{Int, Bool as Truth, Set}
use Rattle.cf_print_python.specs.Files.{reply}

one_result : reply (Set ∷ []) ≡ codes "written(outcome)"
one_result = refl

two_results : reply (Int ∷ Truth ∷ []) ≡ codes "\" \".join(map(written, outcome))"
two_results = refl
