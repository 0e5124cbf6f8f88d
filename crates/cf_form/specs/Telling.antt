-- What is told of chooses, by what it needs of them.
use Rattle.std.specs.Prelude.{ℕ, ◌≡◌, true, false, ◌||◌, List, [], ◌∷◌, ◌++◌, map, filter}
use Rattle.std.specs.List.{range_with_len, AllByRecursion}
use Rattle.cf_tree.specs.DefView.{DefTree, def_tree}
use Rattle.cf_tree.specs.declared.expr.Def.{Def}
use Rattle.cf_tree.specs.ExprTree.{ExprTree, MatchArmTree, match_arm, at_any}
use Rattle.cf_tree.specs.RelTree.{RelTree}
use Rattle.cf_form.specs.declared.chooses.WideChoose.{WideChoose as DeclaredChoose}
use Rattle.cf_form.specs.Branches.{WideChoose, Branch, relation_at, given_at, is_among, some_holds}
use Rattle.cf_form.specs.Expansion.{call_expanded}
use Rattle.cf_form.specs.Formed.{wide_choose}
use Rattle.cf_form.specs.SourceChooses.{SourceChoose, chooses_behind}
use Rattle.cf_form.specs.Told.{ToldBranch}
use Rattle.cf_form.specs.ToldView.{choose_view}
use Rattle.cf_form.specs.Unfolding.{calls_of}

abbrev pub body_of : MatchArmTree → ExprTree
body_of (match_arm m factors k body) = body

-- these chooses, none of which has an objective, are found after those found before
pub record AreFound (before : List Def) (old new : List DeclaredChoose) (qs : List SourceChoose) : Type 0 where
  pub found : map choose_view new ≡ map choose_view old ++ map (wide_choose (calls_of (map def_tree before))) qs
  pub unaimed : AllByRecursion (λ q. q.aim ≡ at_any) qs

-- the chooses of functions behind these ones, expanded
abbrev pub wide_behind : List DefTree → List DefTree → List WideChoose
wide_behind before ds = map (λ q. wide_choose (call_expanded q.0) q.1) (chooses_behind before ds)

abbrev pub branch_of : WideChoose → Branch → ToldBranch
branch_of q b = record { truths = b; relation = relation_at q b; given = given_at q b }

-- the branches behind one in which some truth variables have values
abbrev pub branches_behind : WideChoose → Branch → List ℕ → List ToldBranch
branches_behind q b [] = branch_of q b ∷ []
branches_behind q b (x ∷ xs) = branches_behind q (b ++ (x, true) ∷ []) xs ++ branches_behind q (b ++ (x, false) ∷ []) xs

abbrev pub told_relations : List ToldBranch → List RelTree
told_relations bs = map (λ b. b.relation) bs

-- of the levels below n those on which a choose branches, and those that occur in its relations
abbrev pub parameters_over : ℕ → List ℕ → List RelTree → List ℕ
parameters_over n levels rs = filter (λ x. is_among x levels || some_holds x rs) (range_with_len 0 n)
