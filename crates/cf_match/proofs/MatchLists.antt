-- Lists of matches.
use Rattle.std.proofs.Common.{◌≡◌, List, [], ◌∷◌, ◌++◌, map, sym, ap, ◌∙◌, refl}
use Rattle.std.proofs.lemmas.List.{append_assoc, append-nil, map-append}
use Rattle.cf_tree.specs.DefView.{DefTree}
use Rattle.cf_tree.specs.ExprTree.{ExprTree, exprs_of, match_arm, MatchArmTree, match_arms_of}
use Rattle.cf_match.specs.Forms.{body_of}
use Rattle.cf_match.specs.Matches.{matches, matches_all, matches_arms, all_matches, number_of_arm, class_of_arm, numbers_of, classes_of}

pub matches_push : (es : List ExprTree) (e : ExprTree) → matches_all (exprs_of (es ++ e ∷ [])) ≡ matches_all (exprs_of es) ++ matches e
matches_push [] e = append-nil (matches e)
matches_push (d ∷ es) e = ap (λ ms. matches d ++ ms) (matches_push es e) ∙ sym (append_assoc (matches d) (matches_all (exprs_of es)) (matches e))

pub matches_arms_push : (arms : List MatchArmTree) (a : MatchArmTree) →
    matches_arms (match_arms_of (arms ++ a ∷ [])) ≡ matches_arms (match_arms_of arms) ++ matches (body_of a)
matches_arms_push [] (match_arm m factors k body) = append-nil (matches body)
matches_arms_push (match_arm m factors k body ∷ arms) a =
    ap (λ ms. matches body ++ ms) (matches_arms_push arms a) ∙ sym (append_assoc (matches body) (matches_arms (match_arms_of arms)) (matches (body_of a)))

pub all_matches_push : (ds : List DefTree) (d : DefTree) → all_matches (ds ++ d ∷ []) ≡ all_matches ds ++ matches d.body
all_matches_push [] d = append-nil (matches d.body)
all_matches_push (c ∷ ds) d = ap (λ ms. matches c.body ++ ms) (all_matches_push ds d) ∙ sym (append_assoc (matches c.body) (all_matches ds) (matches d.body))

pub arm_numbers_are : (arms : List MatchArmTree) → map number_of_arm arms ≡ numbers_of (match_arms_of arms)
arm_numbers_are [] = refl
arm_numbers_are (a ∷ arms) = ap (λ ms. number_of_arm a ∷ ms) (arm_numbers_are arms)

pub arm_classes_are : (arms : List MatchArmTree) → map class_of_arm arms ≡ classes_of (match_arms_of arms)
arm_classes_are [] = refl
arm_classes_are (a ∷ arms) = ap (λ cs. class_of_arm a ∷ cs) (arm_classes_are arms)

pub ruleset match_lists = (matches_push, matches_arms_push, all_matches_push, arm_numbers_are, arm_classes_are, append_assoc, append-nil, map-append)
