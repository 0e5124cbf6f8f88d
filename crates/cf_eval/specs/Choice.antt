-- What the choices of the program stand for.
use Rattle.std.specs.Prelude.{ℤ, List, [], ◌∷◌, Option, Some, None}
use Rattle.std.specs.List.{fold}
use Rattle.std.specs.Int.{int_max, int_min}
use Rattle.cf_tree.specs.Sets.{set_union, set_inter}
use Rattle.cf_eval.specs.declared.operate.Side.{Side}
use Rattle.cf_eval.specs.declared.operate.Side.TheVariants.{Least, Greatest}
use Rattle.cf_eval.specs.declared.joining.Join.{Join}
use Rattle.cf_eval.specs.declared.joining.Join.TheVariants.{Union, Inter}

abbrev pub better_of : Side → ℤ → ℤ → ℤ
better_of Least = int_min
better_of Greatest = int_max

abbrev pub join_of : Join → List ℤ → List ℤ → List ℤ
join_of Union = set_union
join_of Inter = set_inter

-- runs of joined sets, joined from the left; none of none
abbrev pub runs_joined : Join → List (List ℤ) → Option (List ℤ)
runs_joined how [] = None
runs_joined how (zs ∷ runs) = Some (fold (join_of how) zs runs)
