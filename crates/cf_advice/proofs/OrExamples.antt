-- Worked examples: the `||` of a relation, and the parts to which sides lead.
use Rattle.std.proofs.Common.{◌≡◌, ℕ, pos, true, false, List, [], ◌∷◌, Some, None, refl, codes}
use Rattle.cf_tree.specs.declared.base.Base.{Base}
use Rattle.cf_tree.specs.declared.base.Base.TheVariants.{Int, Bool as Truth}
use Rattle.cf_tree.specs.declared.base.Place.{Place}
use Rattle.cf_tree.specs.declared.raw.BinOp.TheVariants.{And, Or, Implies}
use Rattle.cf_tree.specs.declared.raw.Param.{Param}
use Rattle.cf_tree.specs.RawTree.{RawTree, raw_binary, raw_group, raw_not, raw_truth, no_given, given_that}
use Rattle.cf_tree.specs.RelTree.{RelTree, rel_true, rel_false, rel_and, rel_or, rel_not}
use Rattle.cf_advice.specs.declared.ors.Side.TheVariants.{LeftOfAnd, RightOfAnd, LeftOfOr, RightOfOr}
use Rattle.cf_advice.specs.Ors.{ors_of, part_at}

abbrev at : ℕ → Place
at column = record { line = 1; column = column }

abbrev output : Base → Param
output base = record { place = at 1; name = codes "x"; base = base }

abbrev atom : RawTree
atom = raw_truth (at 1) true

-- as in `p && ((p || (p && p)) || p) && !(p || p) && (p ==> p)`, with the places of the operations: the branches of an `||` within an `||` are its own, and
-- what stands under `!` or `==>` is none
abbrev relation : RawTree
relation = raw_binary (at 9) And (raw_binary (at 7) And (raw_binary (at 2) And atom
    (raw_group (at 3) (raw_binary (at 5) Or (raw_group (at 4) (raw_binary (at 4) Or atom (raw_group (at 4) (raw_binary (at 4) And atom atom)))) atom)))
    (raw_not (at 8) (raw_group (at 8) (raw_binary (at 8) Or atom atom)))) (raw_group (at 10) (raw_binary (at 10) Implies atom atom))

-- two `||` beside each other, the second of which stands behind an `&&` within an `||` no more
two_ors : ors_of (output Int ∷ []) [] no_given (raw_binary (at 5) And (raw_binary (at 3) Or atom atom) (raw_binary (at 7) Or atom (raw_binary (at 8) And
    (raw_binary (at 9) Or atom atom) atom))) ≡
    (record { place = at 3; branches = (LeftOfAnd ∷ LeftOfOr ∷ []) ∷ (LeftOfAnd ∷ RightOfOr ∷ []) ∷ [] }) ∷
    (record { place = at 7; branches = (RightOfAnd ∷ LeftOfOr ∷ []) ∷ (RightOfAnd ∷ RightOfOr ∷ []) ∷ [] }) ∷ []
two_ors = refl

behind_condition : ors_of (output Int ∷ []) [] (given_that (at 1) atom) relation ≡
    (record {
      place = at 5;
      branches = (RightOfAnd ∷ LeftOfAnd ∷ LeftOfAnd ∷ RightOfAnd ∷ LeftOfOr ∷ LeftOfOr ∷ []) ∷
          (RightOfAnd ∷ LeftOfAnd ∷ LeftOfAnd ∷ RightOfAnd ∷ LeftOfOr ∷ RightOfOr ∷ []) ∷
          (RightOfAnd ∷ LeftOfAnd ∷ LeftOfAnd ∷ RightOfAnd ∷ RightOfOr ∷ []) ∷ [];
    }) ∷ []
behind_condition = refl

of_truth_values : ors_of (output Int ∷ output Truth ∷ []) [] no_given (raw_binary (at 3) Or atom atom) ≡ []
of_truth_values = refl

of_hidden_truth_values : ors_of (output Int ∷ []) (output Truth ∷ []) no_given (raw_binary (at 3) Or atom atom) ≡ []
of_hidden_truth_values = refl

-- ---- parts
abbrev told : RelTree
told = rel_and (rel_or rel_true rel_false) (rel_not rel_true)

left_branch : part_at (LeftOfAnd ∷ LeftOfOr ∷ []) told ≡ Some rel_true
left_branch = refl

right_branch : part_at (LeftOfAnd ∷ RightOfOr ∷ []) told ≡ Some rel_false
right_branch = refl

right_side : part_at (RightOfAnd ∷ []) told ≡ Some (rel_not rel_true)
right_side = refl

whole : part_at [] told ≡ Some told
whole = refl

other_operation : part_at (LeftOfOr ∷ []) told ≡ None
other_operation = refl

other_side : part_at (LeftOfAnd ∷ RightOfAnd ∷ []) told ≡ None
other_side = refl

past_an_atom : part_at (RightOfAnd ∷ LeftOfAnd ∷ []) told ≡ None
past_an_atom = refl
