-- The chooses of a program are those of its lowered form.
use Rattle.std.specs.Prelude.{◌≡◌, List, map}
use Rattle.cf_tree.specs.DefView.{DefTree}
use Rattle.cf_program.specs.Lowered.{lowered_def}
use Rattle.cf_build.specs.Chooses.{all_chooses}

-- the chooses of the lowered functions are those of the functions
abbrev pub LoweringKeepsChooses : Type 0
LoweringKeepsChooses = (defs : List DefTree) → all_chooses (map lowered_def defs) ≡ all_chooses defs
