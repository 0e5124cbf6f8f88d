-- The branches of a choose: one for each choice of values of the truth variables of its scope that its wide relation holds, `true` first.
use Rattle.std.specs.Prelude.{ℕ, suc, ◌==◌, pos, Bool, true, false, ◌||◌, Option, Some, None, if◌then◌else◌, List, [], ◌∷◌, ◌++◌, length, map, filter}
use Rattle.std.specs.List.{range_with_len}
use Rattle.cf_tree.specs.declared.base.Base.{Base}
use Rattle.cf_tree.specs.declared.base.Base.TheVariants.{Int, Bool as Truth, Set}
use Rattle.cf_tree.specs.declared.base.Order.TheVariants.{Le}
use Rattle.cf_tree.specs.declared.raw.Param.{Param}
use Rattle.cf_tree.specs.Occurs.{rel_holds}
use Rattle.cf_tree.specs.Params.{bases_of}
use Rattle.cf_tree.specs.RelTree.{term_lit, term_var, RelTree, rel_true, rel_false, rel_compare, rel_same_set, rel_other_set, rel_subset, rel_divides, rel_and, rel_or, rel_not}
use Rattle.cf_form.specs.Alternatives.{all_of}
use Rattle.cf_form.specs.Polarity.{Truths, holding}
use Rattle.cf_form.specs.Wide.{WideTerm, WideRel, has_truth, term_has_truth}

-- a choose of a source behind expansion: its number, the variables in scope, the bases of the outputs that are given out and of the hidden ones, its condition
-- if it has one, the whole relation with that, and the numbers that are to be least, the first before the others
pub record WideChoose : Type 0 where
  pub number : ℕ
  pub scope : List Param
  pub outputs : List Base
  pub hidden : List Base
  pub given : Option WideRel
  pub relation : WideRel
  pub aims : List WideTerm

-- ---- the truth variables
abbrev pub some_aim_has : ℕ → List WideTerm → Bool
some_aim_has x [] = false
some_aim_has x (t ∷ ts) = term_has_truth x t || some_aim_has x ts

abbrev pub is_truth : Base → Bool
is_truth Int = false
is_truth Truth = true
is_truth Set = false

-- the levels of the truth variables among these, of which the first has level x
abbrev pub truth_levels : ℕ → List Base → List ℕ
truth_levels x [] = []
truth_levels x (b ∷ bs) = if is_truth b then x ∷ truth_levels (suc x) bs else truth_levels (suc x) bs

-- those of the scope on which the choose branches
abbrev pub branched : WideChoose → List ℕ
branched q = filter (λ x. has_truth x q.relation || some_aim_has x q.aims) (truth_levels 0 (bases_of q.scope))

-- the truth variables of a branch, by level, with their values
abbrev pub Branch : Type 0
Branch = List (ℕ × Bool)

abbrev pub branches_on : List ℕ → List Branch
branches_on [] = [] ∷ []
branches_on (x ∷ xs) = map (λ b. (x, true) ∷ b) (branches_on xs) ++ map (λ b. (x, false) ∷ b) (branches_on xs)

abbrev pub branches : WideChoose → List Branch
branches q = branches_on (branched q)

abbrev pub values_in : Branch → Truths
values_in [] x = None
values_in (v ∷ branch) x = if x == v.0 then Some v.1 else values_in branch x

-- ---- the laws of true and false, from the innermost form outwards
abbrev pub not_folded : RelTree → RelTree
not_folded rel_true = rel_false
not_folded rel_false = rel_true
not_folded r = rel_not r

abbrev pub and_right : RelTree → RelTree → RelTree
and_right p rel_true = p
and_right p rel_false = rel_false
and_right p q = rel_and p q

abbrev pub and_folded : RelTree → RelTree → RelTree
and_folded rel_true q = q
and_folded rel_false q = rel_false
and_folded p q = and_right p q

abbrev pub or_right : RelTree → RelTree → RelTree
or_right p rel_true = rel_true
or_right p rel_false = p
or_right p q = rel_or p q

abbrev pub or_folded : RelTree → RelTree → RelTree
or_folded rel_true q = rel_true
or_folded rel_false q = q
or_folded p q = or_right p q

abbrev pub folded : RelTree → RelTree
folded rel_true = rel_true
folded rel_false = rel_false
folded (rel_compare o a b) = rel_compare o a b
folded (rel_same_set a b) = rel_same_set a b
folded (rel_other_set a b) = rel_other_set a b
folded (rel_subset a b) = rel_subset a b
folded (rel_divides k t) = rel_divides k t
folded (rel_and p q) = and_folded (folded p) (folded q)
folded (rel_or p q) = or_folded (folded p) (folded q)
folded (rel_not p) = not_folded (folded p)

-- what a wide relation is in a branch; without truth variables of the scope nothing is folded
abbrev pub in_branch : Branch → WideRel → RelTree
in_branch [] r = holding (values_in []) r
in_branch (v ∷ branch) r = folded (holding (values_in (v ∷ branch)) r)

-- ---- the relation of a branch
-- that truth outputs, which are numbers, are 0 or 1; the first output has level x
abbrev pub truth_bounds : ℕ → List Base → List RelTree
truth_bounds x [] = []
truth_bounds x (Int ∷ bs) = truth_bounds (suc x) bs
truth_bounds x (Truth ∷ bs) = rel_compare Le (term_lit (pos 0)) (term_var x) ∷ rel_compare Le (term_var x) (term_lit (pos 1)) ∷ truth_bounds (suc x) bs
truth_bounds x (Set ∷ bs) = truth_bounds (suc x) bs

abbrev pub all_outputs : WideChoose → List Base
all_outputs q = q.outputs ++ q.hidden

abbrev pub relation_at : WideChoose → Branch → RelTree
relation_at q branch = all_of (truth_bounds (length q.scope) (all_outputs q) ++ in_branch branch q.relation ∷ [])

abbrev pub given_in : Branch → Option WideRel → Option RelTree
given_in branch None = None
given_in branch (Some p) = Some (in_branch branch p)

-- its condition there, if it has one
abbrev pub given_at : WideChoose → Branch → Option RelTree
given_at q branch = given_in branch q.given

-- ---- parameters
abbrev pub is_among : ℕ → List ℕ → Bool
is_among x [] = false
is_among x (y ∷ ys) = (x == y) || is_among x ys

abbrev pub some_holds : ℕ → List RelTree → Bool
some_holds x [] = false
some_holds x (r ∷ rs) = rel_holds x r || some_holds x rs

-- the levels of the number and set variables in scope that occur in some branch, and of the truth variables on which it branches
abbrev pub parameters : WideChoose → List ℕ
parameters q =
    filter (λ x. is_among x (branched q) || some_holds x (map (relation_at q) (branches q))) (range_with_len 0 (length q.scope))
