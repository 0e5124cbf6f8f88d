-- Worked examples that hold down which matches a program has.
use Rattle.std.specs.Prelude.{ℕ, pos, negsuc, ◌≡◌, true, [], ◌∷◌, codes, refl}
use Rattle.cf_num.specs.Divisors.{gcd_by}
use Rattle.cf_tree.specs.declared.base.Base.TheVariants.{Int}
use Rattle.cf_tree.specs.declared.raw.BinOp.TheVariants.{Add}
use Rattle.cf_tree.specs.DefView.{DefTree}
use Rattle.cf_tree.specs.ExprTree.{ExprTree, expr_lit, expr_truth, expr_var, expr_set_of, expr_tuple, expr_neg, expr_not, expr_abs, expr_binary, expr_chain, expr_min, expr_max, expr_divides, expr_div, expr_mod, expr_card, expr_if, expr_call, expr_let, expr_choose, expr_choose_where, expr_match, exprs_of, match_arm, match_arms_of, holds_always, at_any}
use Rattle.cf_tree.specs.RelTree.{rel_true}
use Rattle.cf_match.specs.declared.class.Class.TheVariants.{Point, Residue}
use Rattle.cf_match.specs.Matches.{MatchTree, matches, all_matches}

abbrev k : ExprTree
k = expr_lit (pos 5)

-- `match 5 with { 3 then 5 }`, as match number n
abbrev only : ℕ → ExprTree
only n = expr_match n [] k (match_arms_of (match_arm 0 [] (pos 3) k ∷ []))

abbrev told : ℕ → MatchTree
told n = record { number = n; arms = 0 ∷ []; classes = Point (pos 3) ∷ [] }

abbrev def : ExprTree → DefTree
def body = record { name = codes "f"; params = []; results = Int ∷ []; body = body }

-- `match (match 5 with { 3 then 5 }) with { 2 * i then (match ..) ; 2 * i - 4 * j + 1 then (match ..) }`
nested : matches (expr_match 1 [] (only 2)
    (match_arms_of (match_arm 3 (pos 2 ∷ []) (pos 0) (only 4) ∷ match_arm 5 (pos 2 ∷ negsuc 3 ∷ []) (pos 1) (only 6) ∷ [])))
    ≡ record { number = 1; arms = 3 ∷ 5 ∷ []; classes = Residue (pos 2) (pos 0) ∷ Residue (pos 2) (pos 1) ∷ [] } ∷ told 2 ∷ told 4 ∷ told 6 ∷ []
unfolding gcd_by
nested = refl

-- `match 5 with { 6 * i then 5 ; 2 * i then 5 ; j then 5 }`, and `match 5 with { 2 * i then 5 ; 3 then 5 }`
of_classes :
    (matches (expr_match 1 [] k (match_arms_of
    (match_arm 2 (pos 6 ∷ []) (pos 0) k ∷ match_arm 3 (pos 2 ∷ []) (pos 0) k ∷ match_arm 4 (pos 1 ∷ []) (pos 0) k ∷ [])))
    ≡ record { number = 1; arms = 2 ∷ 3 ∷ 4 ∷ []; classes = Residue (pos 6) (pos 0) ∷ Residue (pos 2) (pos 0) ∷ Residue (pos 1) (pos 0) ∷ [] } ∷ [])
    × (matches (expr_match 1 [] k (match_arms_of (match_arm 2 (pos 2 ∷ []) (pos 0) k ∷ match_arm 0 [] (pos 3) k ∷ [])))
    ≡ record { number = 1; arms = 2 ∷ 0 ∷ []; classes = Residue (pos 2) (pos 0) ∷ Point (pos 3) ∷ [] } ∷ [])
unfolding gcd_by
of_classes = (refl, refl)

-- `match 5 with { 0 * i + 3 then 5 ; 0 * i + 4 * j - 3 then 5 }`: a factor 0 counts as none
of_zeros :
    matches (expr_match 1 [] k (match_arms_of (match_arm 2 (pos 0 ∷ []) (pos 3) k ∷ match_arm 3 (pos 0 ∷ pos 4 ∷ []) (negsuc 2) k ∷ [])))
    ≡ record { number = 1; arms = 2 ∷ 3 ∷ []; classes = Point (pos 3) ∷ Residue (pos 4) (pos 1) ∷ [] } ∷ []
unfolding gcd_by
of_zeros = refl

in_leaves : (matches k ≡ []) × (matches (expr_truth true) ≡ []) × (matches (expr_var 3) ≡ []) × (matches (expr_choose 3 [] (Int ∷ []) rel_true) ≡ [])
    × (matches (expr_choose_where 3 [] (Int ∷ []) [] holds_always (only 1) at_any) ≡ [])
in_leaves = (refl, refl, refl, refl, refl)

in_one_part : (matches (expr_neg (only 1)) ≡ told 1 ∷ []) × (matches (expr_not (only 1)) ≡ told 1 ∷ []) × (matches (expr_abs (only 1)) ≡ told 1 ∷ [])
    × (matches (expr_card (only 1)) ≡ told 1 ∷ []) × (matches (expr_divides (pos 3) (only 1)) ≡ told 1 ∷ []) ×
    (matches (expr_div (only 1) (pos 3)) ≡ told 1 ∷ [])
    × (matches (expr_mod (only 1) (pos 3)) ≡ told 1 ∷ [])
unfolding gcd_by
in_one_part = (refl, refl, refl, refl, refl, refl, refl)

in_order : (matches (expr_binary Add (only 1) (only 2)) ≡ told 1 ∷ told 2 ∷ []) × (matches (expr_let 1 (only 1) (only 2)) ≡ told 1 ∷ told 2 ∷ [])
    × (matches (expr_if (only 1) (only 2) (only 3)) ≡ told 1 ∷ told 2 ∷ told 3 ∷ [])
    × (matches (expr_call 2 (exprs_of (only 1 ∷ k ∷ only 2 ∷ []))) ≡ told 1 ∷ told 2 ∷ [])
    × (matches (expr_set_of (exprs_of (k ∷ only 1 ∷ []))) ≡ told 1 ∷ []) × (matches (expr_tuple (exprs_of (only 1 ∷ only 2 ∷ []))) ≡ told 1 ∷ told 2 ∷ [])
    × (matches (expr_chain [] (exprs_of (only 1 ∷ only 2 ∷ []))) ≡ told 1 ∷ told 2 ∷ []) × (matches (expr_min (exprs_of (k ∷ only 1 ∷ []))) ≡ told 1 ∷ [])
    × (matches (expr_max (exprs_of (only 1 ∷ k ∷ []))) ≡ told 1 ∷ [])
unfolding gcd_by
in_order = (refl, refl, refl, refl, refl, refl, refl, refl, refl)

in_functions : all_matches (def (only 1) ∷ def k ∷ def (only 2) ∷ []) ≡ told 1 ∷ told 2 ∷ []
unfolding gcd_by
in_functions = refl
