-- One more step of the loops over functions, expressions and chooses.
use Rattle.std.proofs.Common.{◌≡◌, ℕ, suc, ◌+◌, ◌<◌, ◌≤◌, List, [], ◌∷◌, ◌++◌, length, map, take, drop, get_or, All, sym, ap, ◌∙◌, subst}
use Rattle.std.proofs.Math.Numerals.{add-one}
use Rattle.std.proofs.Math.Seq.{drop-cons}
use Rattle.std.proofs.lemmas.List.{append_assoc, map_more, take_all}
use Rattle.cf_tree.specs.CodeTree.{CodeTree, codes_of}
use Rattle.cf_tree.specs.CodeView.{code_tree, code_trees}
use Rattle.cf_tree.specs.DefView.{def_tree}
use Rattle.cf_tree.specs.ExprTree.{exprs_of}
use Rattle.cf_tree.specs.ExprView.{expr_tree, expr_trees}
use Rattle.cf_tree.specs.declared.code.Code.{Code}
use Rattle.cf_tree.specs.declared.expr.Def.{Def}
use Rattle.cf_tree.specs.declared.expr.Expr.{Expr}
use Rattle.cf_program.specs.NoForm.{HasNoForm, HaveNoForm}
use Rattle.cf_program.specs.NoMatch.{HasNoMatch, HaveNoMatch}
use Rattle.cf_tree.specs.declared.choose.Choose.{Choose}
use Rattle.cf_build.specs.declared.solves.SolvedChoose.{SolvedChoose}
use Rattle.cf_build.specs.Codes.{code_of, codes_of_all}
use Rattle.cf_tree.specs.ChooseTree.{ChooseTree}
use Rattle.cf_build.specs.Chooses.{chooses_in, chooses_in_all}
use Rattle.cf_shift.specs.Shifted.{shifted, all_shifted}
use Rattle.cf_tree.specs.ChooseView.{choose_tree}
use Rattle.cf_build.specs.Solves.{chooses_of, AreSolved, IsSolved}
use Rattle.cf_build.proofs.CodeLists.{codes_of_exprs}
use Rattle.cf_build.proofs.ChooseLists.{chooses_push, chooses_of_push}
use Rattle.cf_build.proofs.SolveLists.{solved_push}

map_at : {X Y : Type 0} (f : X → Y) (xs : List X) (i : ℕ) (x : X) → i < length xs → x ≡ get_or xs i x → map f (take (i + 1) xs) ≡ map f (take i xs) ++ f x ∷ []
map_at f xs i x l e = map_more f xs i x l ∙ ap (λ y. map f (take i xs) ++ f y ∷ []) (sym e)

pub expr_found : (es : List Expr) (i : ℕ) (e : Expr) (old now new : List ChooseTree) → i < length es → e ≡ get_or es i e →
    now ≡ old ++ chooses_in_all (expr_trees (take i es)) → new ≡ now ++ chooses_in (expr_tree e) →
    new ≡ old ++ chooses_in_all (expr_trees (take (i + 1) es))
expr_found es i e old now new l is h g =
    let one : chooses_in_all (expr_trees (take (i + 1) es)) ≡ chooses_in_all (expr_trees (take i es)) ++ chooses_in (expr_tree e) =
    ap (λ ts. chooses_in_all (exprs_of ts)) (map_at expr_tree es i e l is) ∙ chooses_push (map expr_tree (take i es)) (expr_tree e) in
    g ∙ ap (λ qs. qs ++ chooses_in (expr_tree e)) h ∙ append_assoc old (chooses_in_all (expr_trees (take i es))) (chooses_in (expr_tree e)) ∙
    ap (λ qs. old ++ qs) (sym one)

pub def_found : (ds : List Def) (i : ℕ) (d : Def) (now new : List ChooseTree) → i < length ds → d ≡ get_or ds i d →
    now ≡ chooses_of (map def_tree (take i ds)) → new ≡ now ++ chooses_in (expr_tree d.body) →
    new ≡ chooses_of (map def_tree (take (i + 1) ds))
def_found ds i d now new l is h g =
    let one : chooses_of (map def_tree (take (i + 1) ds)) ≡ chooses_of (map def_tree (take i ds)) ++ chooses_in (expr_tree d.body) =
    ap chooses_of (map_at def_tree ds i d l is) ∙ chooses_of_push (map def_tree (take i ds)) (def_tree d) in
    g ∙ ap (λ qs. qs ++ chooses_in (expr_tree d.body)) h ∙ sym one

pub solves_more : (cs : List Choose) (i : ℕ) (c : Choose) (old new : List SolvedChoose) (s : SolvedChoose) → i < length cs → c ≡ get_or cs i c →
    AreSolved (map choose_tree (take i cs)) old →
    new ≡ old ++ s ∷ [] → IsSolved (choose_tree c) s → AreSolved (map choose_tree (take (i + 1) cs)) new
solves_more cs i c old new s l is h n k = rw (map_at choose_tree cs i c l is, n) (solved_push (map choose_tree (take i cs)) old (choose_tree c) s h k)

-- the elements from place i on are that one and those after it
from_here : {X : Type 0} (xs : List X) (i : ℕ) (x : X) → i < length xs → x ≡ get_or xs i x → drop i xs ≡ x ∷ drop (i + 1) xs
from_here xs i x l is =
    subst (λ k. drop i xs ≡ x ∷ drop k xs) (sym (add-one i)) (subst (λ y. drop i xs ≡ y ∷ drop (suc i) xs) (sym is) (drop-cons xs i x l))

pub all_here : {X : Type 0} (P : X → Type 0) (xs : List X) (i : ℕ) (x : X) → i < length xs → x ≡ get_or xs i x → All P xs → P x
all_here P xs i x l is h = subst P (sym is) (h i x l)

-- no match stands in the expression at place i, nor in those behind it
pub none_at : (es : List Expr) (i : ℕ) (e : Expr) → i < length es → e ≡ get_or es i e → HaveNoMatch (expr_trees (drop i es)) → HasNoMatch (expr_tree e)
none_at es i e l is h = (subst (λ xs. HaveNoMatch (expr_trees xs)) (from_here es i e l is) h).0

pub none_behind : (es : List Expr) (i : ℕ) (e : Expr) → i < length es → e ≡ get_or es i e → HaveNoMatch (expr_trees (drop i es)) →
    HaveNoMatch (expr_trees (drop (i + 1) es))
none_behind es i e l is h = (subst (λ xs. HaveNoMatch (expr_trees xs)) (from_here es i e l is) h).1

-- nor does a form of `HasNoForm`
pub formed_at : (es : List Expr) (i : ℕ) (e : Expr) → i < length es → e ≡ get_or es i e → HaveNoForm (expr_trees (drop i es)) → HasNoForm (expr_tree e)
formed_at es i e l is h = (subst (λ xs. HaveNoForm (expr_trees xs)) (from_here es i e l is) h).0

pub formed_behind : (es : List Expr) (i : ℕ) (e : Expr) → i < length es → e ≡ get_or es i e → HaveNoForm (expr_trees (drop i es)) →
    HaveNoForm (expr_trees (drop (i + 1) es))
formed_behind es i e l is h = (subst (λ xs. HaveNoForm (expr_trees xs)) (from_here es i e l is) h).1

-- ---- the ends of loops
pub exprs_at_end : (calls : ℕ → CodeTree) (solves : ChooseTree → CodeTree) (by n : ℕ) (es : List Expr) (done : List Code) (i : ℕ) → length es ≤ i →
    map code_tree done ≡ map (λ e. shifted by (code_of calls solves n e)) (map expr_tree (take i es)) →
    code_trees done ≡ all_shifted by (codes_of_all calls solves n (expr_trees es))
exprs_at_end calls solves by n es done i l h =
    ap codes_of (h ∙ ap (λ xs. map (λ e. shifted by (code_of calls solves n e)) (map expr_tree xs)) (take_all i es l))
    ∙ codes_of_exprs calls solves by n (map expr_tree es)
