-- A worked example: the spots of a program.
use Rattle.std.proofs.Common.{◌≡◌, ℕ, pos, true, false, List, [], ◌∷◌, Some, None, refl, codes}
use Rattle.cf_tree.specs.declared.base.Base.TheVariants.{Int}
use Rattle.cf_tree.specs.declared.base.Place.{Place}
use Rattle.cf_tree.specs.declared.raw.BinOp.TheVariants.{Add}
use Rattle.cf_tree.specs.declared.raw.Param.{Param}
use Rattle.cf_tree.specs.DefView.{RawItemTree, item_const, item_def}
use Rattle.cf_tree.specs.RawTree.{RawTree, raw_lit, raw_truth, raw_binary, raw_let, raw_choose, raw_match, raw_arm, raw_arm_more, no_raw_arms, number_lit, PartTree, no_given, no_aim}
use Rattle.cf_advice.specs.Spots.{SpotTree, spots_of}

abbrev at : ℕ → Place
at column = record { line = 1; column = column }

abbrev named : List ℕ → Param
named name = record { place = at 1; name = name; base = Int }

abbrev part : ℕ → List ℕ → PartTree
part column name = record { start = at column; is_negative = false; factor = None; place = at column; name = name }

abbrev twice : ℕ → List ℕ → PartTree
twice column name = record { start = at column; is_negative = false; factor = Some (number_lit (pos 2)); place = at column; name = name }

abbrev spot : ℕ → List (List ℕ) → SpotTree
spot column names = record { place = at column; outputs = names; ors = [] }

abbrev body_of : RawTree → RawItemTree
body_of e = item_def (record { place = at 1; name = codes "f"; params = []; results = Int ∷ []; body = e })

abbrev choose_of : ℕ → RawTree
choose_of column = raw_choose (at column) (named (codes "x") ∷ named (codes "y") ∷ []) (named (codes "h") ∷ []) no_given (raw_truth (at 1) true) no_aim

-- a sum of a choose, and of a match on a choose: the pattern `k` is the constant of that name, `2 * k + i` has two variables, and its arm a choose
spots : spots_of (item_const (at 1) (codes "k") (raw_lit (at 1) (pos 3)) ∷ body_of (raw_binary (at 2) Add (choose_of 3)
    (raw_match (at 4) (choose_of 5) (raw_arm_more (raw_arm (part 6 (codes "k") ∷ []) (pos 0) (raw_lit (at 1) (pos 1)))
    (raw_arm_more (raw_arm (twice 7 (codes "k") ∷ part 8 (codes "i") ∷ []) (pos 0) (choose_of 9)) no_raw_arms)))) ∷ body_of (choose_of 10) ∷ [])
    ≡ spot 3 (codes "x" ∷ codes "y" ∷ []) ∷ spot 4 [] ∷ spot 5 (codes "x" ∷ codes "y" ∷ []) ∷ spot 7 (codes "k" ∷ codes "i" ∷ [])
    ∷ spot 9 (codes "x" ∷ codes "y" ∷ []) ∷ spot 10 (codes "x" ∷ codes "y" ∷ []) ∷ []
spots = refl
