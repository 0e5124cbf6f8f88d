-- Worked examples: the names of a source's results.
use Rattle.std.proofs.Common.{◌≡◌, ℕ, true, pos, List, [], ◌∷◌, refl, codes}
use Rattle.cf_tree.specs.declared.base.Base.TheVariants.{Int}
use Rattle.cf_tree.specs.declared.base.Place.{Place}
use Rattle.cf_tree.specs.declared.raw.Param.{Param}
use Rattle.cf_tree.specs.DefView.{RawItemTree, item_const, item_def}
use Rattle.cf_tree.specs.RawTree.{RawTree, raw_choose, raw_group, raw_lit, raw_truth, no_given, no_aim}
use Rattle.cf_answer.specs.ResultNames.{output_names, result_names}

abbrev at : Place
at = record { line = 1; column = 1 }

abbrev int : List ℕ → Param
int name = record { place = at; name = name; base = Int }

-- choose (q: int, r: int) where true, with a hidden output h
abbrev two : RawTree
two = raw_choose at (int (codes "q") ∷ int (codes "r") ∷ []) (int (codes "h") ∷ []) no_given (raw_truth at true) no_aim

abbrev function : List ℕ → RawTree → RawItemTree
function name body = item_def (record { place = at; name = name; params = []; results = []; body = body })

of-a_choose : output_names two ≡ codes "q" ∷ codes "r" ∷ []
of-a_choose = refl

of-other_forms : (output_names (raw_lit at (pos 1)) ≡ []) × (output_names (raw_group at two) ≡ [])
of-other_forms = (refl, refl)

of-main : result_names (item_const at (codes "k") two ∷ function (codes "first") (raw_lit at (pos 1)) ∷ function (codes "main") two ∷ [])
    ≡ codes "q" ∷ codes "r" ∷ []
of-main = refl

of-no_other : result_names (function (codes "first") two ∷ function (codes "main") (raw_lit at (pos 1)) ∷ []) ≡ []
of-no_other = refl

without-main : result_names (function (codes "first") two ∷ []) ≡ []
without-main = refl
