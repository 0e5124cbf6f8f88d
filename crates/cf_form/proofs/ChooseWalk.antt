-- Steps of the walk that collects the chooses of functions.
use Rattle.std.proofs.Common.{◌≡◌, ℕ, ◌+◌, ◌<◌, List, [], ◌∷◌, ◌++◌, length, map, take, drop, get_or, sym, ap, ap₂, ◌∙◌, subst}
use Rattle.std.specs.List.{AllByRecursion}
use Rattle.std.proofs.Math.Numerals.{add-one}
use Rattle.std.proofs.Math.Seq.{drop-cons}
use Rattle.std.proofs.lemmas.List.{append_assoc, append-nil, map-append, map_more}
use Rattle.std.proofs.lemmas.Simd.{map-map}
use Rattle.cf_tree.specs.DefView.{DefTree, def_tree}
use Rattle.cf_tree.specs.declared.expr.Def.{Def}
use Rattle.cf_tree.specs.declared.expr.Expr.{Expr}
use Rattle.cf_tree.specs.declared.expr.MatchArm.{MatchArm}
use Rattle.cf_tree.specs.ExprTree.{ExprTree, MatchArmTree, match_arm, exprs_of, match_arms_of, at_any}
use Rattle.cf_tree.specs.ExprView.{expr_tree, expr_trees, match_arm_tree, match_arm_trees}
use Rattle.cf_form.specs.declared.chooses.WideChoose.{WideChoose as DeclaredChoose}
use Rattle.cf_form.specs.Branches.{WideChoose}
use Rattle.cf_form.specs.Expansion.{call_expanded}
use Rattle.cf_form.specs.Formed.{wide_choose}
use Rattle.cf_form.specs.SourceChooses.{SourceChoose, WithBodies, chooses_in, chooses_in_all, chooses_in_arms, chooses_behind, source_chooses}
use Rattle.cf_form.specs.Telling.{AreFound, body_of, wide_behind}
use Rattle.cf_form.specs.Told.{wide_chooses}
use Rattle.cf_form.specs.ToldView.{choose_view}
use Rattle.cf_form.specs.Unfolding.{calls_of}
use Rattle.cf_form.proofs.Lists.{rec_append}

map_at : {X Y : Type 0} (f : X → Y) (xs : List X) (i : ℕ) (x : X) → i < length xs → x ≡ get_or xs i x → map f (take (i + 1) xs) ≡ map f (take i xs) ++ f x ∷ []
map_at f xs i x l e = map_more f xs i x l ∙ ap (λ y. map f (take i xs) ++ f y ∷ []) (sym e)

pub from_here : {X : Type 0} (xs : List X) (i : ℕ) (d : X) → i < length xs → drop i xs ≡ get_or xs i d ∷ drop (i + 1) xs
from_here xs i d l = subst (λ k. drop i xs ≡ get_or xs i d ∷ drop k xs) (sym (add-one i)) (drop-cons xs i d l)

exprs_push : (es : List ExprTree) (e : ExprTree) → chooses_in_all (exprs_of (es ++ e ∷ [])) ≡ chooses_in_all (exprs_of es) ++ chooses_in e
exprs_push [] e = append-nil (chooses_in e)
exprs_push (d ∷ es) e = ap (λ qs. chooses_in d ++ qs) (exprs_push es e) ∙ sym (append_assoc (chooses_in d) (chooses_in_all (exprs_of es)) (chooses_in e))

arms_push : (arms : List MatchArmTree) (a : MatchArmTree) →
    chooses_in_arms (match_arms_of (arms ++ a ∷ [])) ≡ chooses_in_arms (match_arms_of arms) ++ chooses_in (body_of a)
arms_push [] (match_arm m factors k body) = append-nil (chooses_in body)
arms_push (match_arm n others j first ∷ arms) a =
    ap (λ qs. chooses_in first ++ qs) (arms_push arms a) ∙ sym (append_assoc (chooses_in first) (chooses_in_arms (match_arms_of arms)) (chooses_in (body_of a)))

-- ---- what is found
pub none_found : (before : List Def) (old : List DeclaredChoose) → AreFound before old old []
none_found before old = record { found = sym (append-nil (map choose_view old)); unaimed = tt }

pub found_two : (before : List Def) (old now new : List DeclaredChoose) (qs rs : List SourceChoose) → AreFound before old now qs → AreFound before now new rs →
    AreFound before old new (qs ++ rs)
found_two before old now new qs rs h g =
    let wide : SourceChoose → WideChoose = wide_choose (calls_of (map def_tree before)) in
    record {
      found =
          g.found ∙ ap (λ ws. ws ++ map wide rs) h.found ∙ append_assoc (map choose_view old) (map wide qs) (map wide rs) ∙
          ap (λ ws. map choose_view old ++ ws) (sym (map-append wide qs rs));
      unaimed = rec_append (λ q. q.aim ≡ at_any) qs rs h.unaimed g.unaimed;
    }

-- a choose without an objective
pub one_found : (before : List Def) (old new : List DeclaredChoose) (w : DeclaredChoose) (q : SourceChoose) → new ≡ old ++ w ∷ [] →
    choose_view w ≡ wide_choose (calls_of (map def_tree before)) q → q.aim ≡ at_any → AreFound before old new (q ∷ [])
one_found before old new w q h e aim = record {
  found = ap (map choose_view) h ∙ map-append choose_view old (w ∷ []) ∙ ap (λ v. map choose_view old ++ v ∷ []) e;
  unaimed = (aim, tt);
}

pub expr_found : (before : List Def) (es : List Expr) (i : ℕ) (e : Expr) (old now new : List DeclaredChoose) → i < length es → e ≡ get_or es i e →
    AreFound before old now (chooses_in_all (expr_trees (take i es))) → AreFound before now new (chooses_in (expr_tree e)) →
    AreFound before old new (chooses_in_all (expr_trees (take (i + 1) es)))
expr_found before es i e old now new l is h g =
    let all = ap (λ ts. chooses_in_all (exprs_of ts)) (map_at expr_tree es i e l is) ∙ exprs_push (map expr_tree (take i es)) (expr_tree e) in
    subst (AreFound before old new) (sym all) (found_two before old now new _ _ h g)

pub arm_found : (before : List Def) (arms : List MatchArm) (i : ℕ) (a : MatchArm) (old now new : List DeclaredChoose) → i < length arms → a ≡ get_or arms i a →
    AreFound before old now (chooses_in_arms (match_arm_trees (take i arms))) → AreFound before now new (chooses_in (body_of (match_arm_tree a))) →
    AreFound before old new (chooses_in_arms (match_arm_trees (take (i + 1) arms)))
arm_found before arms i a old now new l is h g =
    let all =
    ap (λ ts. chooses_in_arms (match_arms_of ts)) (map_at match_arm_tree arms i a l is) ∙ arms_push (map match_arm_tree (take i arms)) (match_arm_tree a) in
    subst (AreFound before old new) (sym all) (found_two before old now new _ _ h g)

-- those of a function come before those of the functions behind it
pub wide_next : (before : List DefTree) (d : DefTree) (ds : List DefTree) →
    wide_behind before (d ∷ ds) ≡ map (wide_choose (calls_of before)) (chooses_in d.body) ++ wide_behind (before ++ d ∷ []) ds
wide_next before d ds =
    map-append (λ q. wide_choose (call_expanded q.0) q.1) _ (chooses_behind (before ++ d ∷ []) ds) ∙
    ap (λ qs. qs ++ wide_behind (before ++ d ∷ []) ds) (map-map (λ q. wide_choose (call_expanded q.0) q.1) _ (chooses_in d.body))

abbrev pub IsUnaimed : WithBodies → Type 0
IsUnaimed q = q.1.aim ≡ at_any

-- what is found in the functions before place i, with what is still to be found in those from there on, is all of these functions
pub record AreFoundSo (ds : List Def) (i : ℕ) (ws : List DeclaredChoose) : Type 0 where
  pub chooses : map choose_view ws ++ wide_behind (map def_tree (take i ds)) (map def_tree (drop i ds)) ≡ wide_chooses (map def_tree ds)
  pub unaimed :
      AllByRecursion IsUnaimed (chooses_behind (map def_tree (take i ds)) (map def_tree (drop i ds))) →
      AllByRecursion IsUnaimed (source_chooses (map def_tree ds))

with_bodies : (bodies : List ExprTree) (qs : List SourceChoose) → AllByRecursion (λ q. q.aim ≡ at_any) qs → AllByRecursion IsUnaimed (map (λ q. (bodies, q)) qs)
with_bodies bodies [] h = tt
with_bodies bodies (q ∷ qs) h = (h.0, with_bodies bodies qs h.1)

pub def_found : (ds : List Def) (i : ℕ) (d : Def) (now new : List DeclaredChoose) → i < length ds → AreFoundSo ds i now →
    AreFound (take i ds) now new (chooses_in (expr_tree (get_or ds i d).body)) → AreFoundSo ds (i + 1) new
def_found ds i d now new l h g =
    let before : List DefTree = map def_tree (take i ds) in
    let more : List DefTree = map def_tree (drop (i + 1) ds) in
    let def : DefTree = def_tree (get_or ds i d) in
    let here : List WideChoose = map (wide_choose (calls_of before)) (chooses_in def.body) in
    let all : map def_tree (drop i ds) ≡ def ∷ more = ap (map def_tree) (from_here ds i d l) in
    let one : map def_tree (take (i + 1) ds) ≡ before ++ def ∷ [] = map_more def_tree ds i d l in
    record {
      chooses =
          ap₂ (λ ws ts. ws ++ wide_behind ts more) g.found one ∙ append_assoc (map choose_view now) here (wide_behind (before ++ def ∷ []) more) ∙
          ap (λ ws. map choose_view now ++ ws) (sym (ap (wide_behind before) all ∙ wide_next before def more)) ∙ h.chooses;
      unaimed = λ k.
          h.unaimed
          (subst (λ ts. AllByRecursion IsUnaimed (chooses_behind before ts)) (sym all)
          (rec_append IsUnaimed _ (chooses_behind (before ++ def ∷ []) more) (with_bodies _ (chooses_in def.body) g.unaimed)
          (subst (λ ts. AllByRecursion IsUnaimed (chooses_behind ts more)) one k)));
    }
