-- Lists of chooses.
use Rattle.std.proofs.Common.{◌≡◌, List, [], ◌∷◌, ◌++◌, sym, ap, ◌∙◌}
use Rattle.std.proofs.lemmas.List.{append_assoc, append-nil, map-append}
use Rattle.cf_tree.specs.DefView.{DefTree}
use Rattle.cf_tree.specs.ExprTree.{ExprTree, exprs_of}
use Rattle.cf_build.specs.Chooses.{chooses_in, chooses_in_all}
use Rattle.cf_build.specs.Solves.{chooses_of}

pub chooses_push : (es : List ExprTree) (e : ExprTree) → chooses_in_all (exprs_of (es ++ e ∷ [])) ≡ chooses_in_all (exprs_of es) ++ chooses_in e
chooses_push [] e = append-nil (chooses_in e)
chooses_push (d ∷ es) e = ap (λ qs. chooses_in d ++ qs) (chooses_push es e) ∙ sym (append_assoc (chooses_in d) (chooses_in_all (exprs_of es)) (chooses_in e))

pub chooses_of_push : (ds : List DefTree) (d : DefTree) → chooses_of (ds ++ d ∷ []) ≡ chooses_of ds ++ chooses_in d.body
chooses_of_push [] d = append-nil (chooses_in d.body)
chooses_of_push (c ∷ ds) d = ap (λ qs. chooses_in c.body ++ qs) (chooses_of_push ds d) ∙
    sym (append_assoc (chooses_in c.body) (chooses_of ds) (chooses_in d.body))

pub ruleset choose_lists = (append_assoc, append-nil, map-append)
