-- The `||` that stand in a relation under `&&` alone, as it is written, and how their branches are reached in the relation that a choose is told by.
use Rattle.std.specs.Prelude.{Bool, true, false, ◌||◌, List, [], ◌∷◌, ◌++◌, Option, Some, None, if◌then◌else◌}
use Rattle.std.specs.List.{list_any}
use Rattle.cf_tree.specs.declared.base.Base.{Base}
use Rattle.cf_tree.specs.declared.base.Base.TheVariants.{Int, Bool as Truth, Set}
use Rattle.cf_tree.specs.declared.base.Place.{Place}
use Rattle.cf_tree.specs.declared.raw.BinOp.{BinOp}
use Rattle.cf_tree.specs.declared.raw.BinOp.TheVariants.{And, Or}
use Rattle.cf_tree.specs.declared.raw.Param.{Param}
use Rattle.cf_tree.specs.RawTree.{RawTree, raw_group, raw_binary, GivenTree, no_given, given_that}
use Rattle.cf_tree.specs.RelTree.{RelTree, rel_and, rel_or}
use Rattle.cf_advice.specs.declared.ors.Side.{Side}
use Rattle.cf_advice.specs.declared.ors.Side.TheVariants.{LeftOfAnd, RightOfAnd, LeftOfOr, RightOfOr}

-- an `||`: its place, and of each of its branches, in order, the sides that lead there from the top
pub record OrTree : Type 0 where
  pub place : Place
  pub branches : List (List Side)

-- ---- as it is written
abbrev pub is_or : BinOp → Bool
is_or Or = true
is_or _ = false

-- the branches of what is reached so; what is no `||` is one
abbrev pub paths_in : List Side → RawTree → List (List Side)
paths_in path (raw_group p a) = paths_in path a
paths_in path (raw_binary p op a b) = if is_or op then paths_in (path ++ LeftOfOr ∷ []) a ++ paths_in (path ++ RightOfOr ∷ []) b else path ∷ []
paths_in path _ = path ∷ []

abbrev pub by_operation : BinOp → List OrTree → List OrTree → List OrTree
by_operation And sides this = sides
by_operation Or sides this = this
by_operation _ sides this = []

-- those of what is reached so
abbrev pub ors_in : List Side → RawTree → List OrTree
ors_in path (raw_group p a) = ors_in path a
ors_in path (raw_binary p op a b) =
    by_operation op (ors_in (path ++ LeftOfAnd ∷ []) a ++ ors_in (path ++ RightOfAnd ∷ []) b)
    ((record { place = p; branches = paths_in path (raw_binary p op a b) }) ∷ [])
ors_in path _ = []

-- ---- of a choose
abbrev pub is_truth : Base → Bool
is_truth Int = false
is_truth Truth = true
is_truth Set = false

abbrev pub some_truth : List Param → Bool
some_truth ps = list_any (λ p. is_truth p.base) ps

-- the relation that a choose is told by stands behind its condition
abbrev pub path_behind : GivenTree → List Side
path_behind no_given = []
path_behind (given_that p a) = RightOfAnd ∷ []

-- those of a choose with these outputs and hidden ones; none where some are truth values, whose bounds stand in the relation
abbrev pub ors_of : List Param → List Param → GivenTree → RawTree → List OrTree
ors_of outputs hidden given rel = if some_truth outputs || some_truth hidden then [] else ors_in (path_behind given) rel

-- ---- in a relation
abbrev pub and_side : Side → RelTree → RelTree → Option RelTree
and_side LeftOfAnd p q = Some p
and_side RightOfAnd p q = Some q
and_side _ p q = None

abbrev pub or_side : Side → RelTree → RelTree → Option RelTree
or_side LeftOfOr p q = Some p
or_side RightOfOr p q = Some q
or_side _ p q = None

abbrev pub side_of : Side → RelTree → Option RelTree
side_of side (rel_and p q) = and_side side p q
side_of side (rel_or p q) = or_side side p q
side_of side _ = None

abbrev pub behind : (RelTree → Option RelTree) → Option RelTree → Option RelTree
behind rest None = None
behind rest (Some r) = rest r

-- the part to which these sides lead
abbrev pub part_at : List Side → RelTree → Option RelTree
part_at [] r = Some r
part_at (side ∷ path) r = behind (part_at path) (side_of side r)
