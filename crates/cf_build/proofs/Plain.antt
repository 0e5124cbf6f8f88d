-- Expressions in which neither a match stands nor a form of `HasNoForm`.
use Rattle.std.proofs.Common.{List, [], ◌∷◌, map, All}
use Rattle.std.proofs.lemmas.List.Elements.{All-nil, All-cons, All-head, All-tail}
use Rattle.cf_tree.specs.declared.expr.Def.{Def}
use Rattle.cf_tree.specs.DefView.{DefTree, def_tree}
use Rattle.cf_tree.specs.ExprTree.{ExprTree, ExprTrees}
use Rattle.cf_tree.specs.ExprView.{expr_tree}
use Rattle.cf_program.specs.NoForm.{HasNoForm, HaveNoForm}
use Rattle.cf_program.specs.NoMatch.{HasNoMatch, HaveNoMatch}

abbrev pub IsPlain : ExprTree → Type 0
IsPlain e = HasNoMatch e × HasNoForm e

abbrev pub ArePlain : ExprTrees → Type 0
ArePlain es = HaveNoMatch es × HaveNoForm es

abbrev pub HasPlainBody : DefTree → Type 0
HasPlainBody d = IsPlain d.body

pub plain_bodies : (ds : List Def) → All (λ d. HasNoMatch (expr_tree d.body)) ds → All (λ d. HasNoForm d.body) (map def_tree ds) →
    All HasPlainBody (map def_tree ds)
plain_bodies [] h k = All-nil HasPlainBody
plain_bodies (d ∷ ds) h k =
    All-cons HasPlainBody (def_tree d) (map def_tree ds)
    (All-head (λ d. HasNoMatch (expr_tree d.body)) d ds h, All-head (λ d. HasNoForm d.body) (def_tree d) (map def_tree ds) k)
    (plain_bodies ds (All-tail (λ d. HasNoMatch (expr_tree d.body)) d ds h) (All-tail (λ d. HasNoForm d.body) (def_tree d) (map def_tree ds) k))

pub formed_bodies : (ds : List Def) → All (λ d. HasNoForm d.body) (map def_tree ds) → All (λ d. HasNoForm (expr_tree d.body)) ds
formed_bodies [] h = All-nil (λ d. HasNoForm (expr_tree d.body))
formed_bodies (d ∷ ds) h =
    All-cons (λ d. HasNoForm (expr_tree d.body)) d ds (All-head (λ d. HasNoForm d.body) (def_tree d) (map def_tree ds) h)
    (formed_bodies ds (All-tail (λ d. HasNoForm d.body) (def_tree d) (map def_tree ds) h))
