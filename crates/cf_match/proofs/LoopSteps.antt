-- One more step of the loops over functions, expressions and arms, and the ends of these loops.
use Rattle.std.proofs.Common.{◌≡◌, ℕ, ◌+◌, ◌<◌, ◌≤◌, List, [], ◌∷◌, ◌++◌, length, map, take, get_or, sym, ap, ◌∙◌}
use Rattle.std.proofs.lemmas.List.{append_assoc, map_more, take_all}
use Rattle.cf_tree.specs.declared.expr.Def.{Def}
use Rattle.cf_tree.specs.declared.expr.Expr.{Expr}
use Rattle.cf_tree.specs.declared.expr.MatchArm.{MatchArm}
use Rattle.cf_tree.specs.DefView.{def_tree}
use Rattle.cf_tree.specs.ExprTree.{exprs_of, match_arms_of}
use Rattle.cf_tree.specs.ExprView.{expr_tree, expr_trees, match_arm_tree, match_arm_trees}
use Rattle.cf_program.specs.Lowered.{lowered, all_lowered}
use Rattle.cf_match.specs.declared.class.Class.{Class}
use Rattle.cf_match.specs.Forms.{body_of, bodies_lowered}
use Rattle.cf_match.specs.Matches.{MatchTree, matches, matches_all, matches_arms, all_matches, number_of_arm, class_of_arm, numbers_of, classes_of}
use Rattle.cf_match.proofs.FormLaws.{lowered_parts, bodies_of_arms}
use Rattle.cf_match.proofs.MatchLists.{matches_push, matches_arms_push, all_matches_push, arm_numbers_are, arm_classes_are}

map_at : {X Y : Type 0} (f : X → Y) (xs : List X) (i : ℕ) (x : X) → i < length xs → x ≡ get_or xs i x → map f (take (i + 1) xs) ≡ map f (take i xs) ++ f x ∷ []
map_at f xs i x l e = map_more f xs i x l ∙ ap (λ y. map f (take i xs) ++ f y ∷ []) (sym e)

pub expr_found : (es : List Expr) (i : ℕ) (e : Expr) (old now new : List MatchTree) → i < length es → e ≡ get_or es i e →
    now ≡ old ++ matches_all (expr_trees (take i es)) →
    new ≡ now ++ matches (expr_tree e) → new ≡ old ++ matches_all (expr_trees (take (i + 1) es))
expr_found es i e old now new l is h g =
    let one : matches_all (expr_trees (take (i + 1) es)) ≡ matches_all (expr_trees (take i es)) ++ matches (expr_tree e) =
    ap (λ ts. matches_all (exprs_of ts)) (map_at expr_tree es i e l is) ∙ matches_push (map expr_tree (take i es)) (expr_tree e) in
    g ∙ ap (λ ms. ms ++ matches (expr_tree e)) h ∙ append_assoc old (matches_all (expr_trees (take i es))) (matches (expr_tree e)) ∙
    ap (λ ms. old ++ ms) (sym one)

pub arm_found : (arms : List MatchArm) (i : ℕ) (a : MatchArm) (old now new : List MatchTree) → i < length arms → a ≡ get_or arms i a →
    now ≡ old ++ matches_arms (match_arm_trees (take i arms)) → new ≡ now ++ matches (body_of (match_arm_tree a)) →
    new ≡ old ++ matches_arms (match_arm_trees (take (i + 1) arms))
arm_found arms i a old now new l is h g =
    let one : matches_arms (match_arm_trees (take (i + 1) arms)) ≡ matches_arms (match_arm_trees (take i arms)) ++ matches (body_of (match_arm_tree a)) =
    ap (λ ts. matches_arms (match_arms_of ts)) (map_at match_arm_tree arms i a l is) ∙
    matches_arms_push (map match_arm_tree (take i arms)) (match_arm_tree a) in
    g ∙ ap (λ ms. ms ++ matches (body_of (match_arm_tree a))) h
    ∙ append_assoc old (matches_arms (match_arm_trees (take i arms))) (matches (body_of (match_arm_tree a)))
    ∙ ap (λ ms. old ++ ms) (sym one)

pub def_found : (ds : List Def) (i : ℕ) (d : Def) (now new : List MatchTree) → i < length ds → d ≡ get_or ds i d →
    now ≡ all_matches (map def_tree (take i ds)) →
    new ≡ now ++ matches (expr_tree d.body) → new ≡ all_matches (map def_tree (take (i + 1) ds))
def_found ds i d now new l is h g =
    let one : all_matches (map def_tree (take (i + 1) ds)) ≡ all_matches (map def_tree (take i ds)) ++ matches (expr_tree d.body) =
    ap all_matches (map_at def_tree ds i d l is) ∙ all_matches_push (map def_tree (take i ds)) (def_tree d) in
    g ∙ ap (λ ms. ms ++ matches (expr_tree d.body)) h ∙ sym one

-- ---- the ends of loops
pub exprs_at_end : (es done : List Expr) (i : ℕ) → length es ≤ i → map expr_tree done ≡ map lowered (map expr_tree (take i es)) →
    expr_trees done ≡ all_lowered (expr_trees es)
exprs_at_end es done i l h = ap exprs_of (h ∙ ap (λ xs. map lowered (map expr_tree xs)) (take_all i es l)) ∙ lowered_parts (map expr_tree es)

pub bodies_at_end : (arms : List MatchArm) (done : List Expr) (i : ℕ) → length arms ≤ i →
    map expr_tree done ≡ map (λ a. lowered (body_of a)) (map match_arm_tree (take i arms)) → map expr_tree done ≡ bodies_lowered (match_arm_trees arms)
bodies_at_end arms done i l h = h ∙ ap (λ xs. map (λ a. lowered (body_of a)) (map match_arm_tree xs)) (take_all i arms l) ∙
    bodies_of_arms (map match_arm_tree arms)

pub numbers_at_end : (arms : List MatchArm) (done : List ℕ) (i : ℕ) → length arms ≤ i → done ≡ map number_of_arm (map match_arm_tree (take i arms)) →
    done ≡ numbers_of (match_arm_trees arms)
numbers_at_end arms done i l h = h ∙ ap (λ xs. map number_of_arm (map match_arm_tree xs)) (take_all i arms l) ∙ arm_numbers_are (map match_arm_tree arms)

pub classes_at_end : (arms : List MatchArm) (done : List Class) (i : ℕ) → length arms ≤ i → done ≡ map class_of_arm (map match_arm_tree (take i arms)) →
    done ≡ classes_of (match_arm_trees arms)
classes_at_end arms done i l h = h ∙ ap (λ xs. map class_of_arm (map match_arm_tree xs)) (take_all i arms l) ∙ arm_classes_are (map match_arm_tree arms)
