-- Worked examples that hold down where the numbers of a formed program stand, and which may be the same.
use Rattle.std.specs.Prelude.{ℕ, pos, ◌≡◌, true, false, Some, None, List, [], ◌∷◌, codes, refl}
use Rattle.cf_tree.specs.declared.base.Base.TheVariants.{Int, Set}
use Rattle.cf_tree.specs.declared.base.Order.TheVariants.{Eq}
use Rattle.cf_tree.specs.declared.raw.BinOp.TheVariants.{Add, Compare}
use Rattle.cf_tree.specs.DefView.{DefTree}
use Rattle.cf_tree.specs.ExprTree.{ExprTree, expr_lit, expr_truth, expr_var, expr_set_of, expr_tuple, expr_neg, expr_not, expr_abs, expr_binary, expr_divides, expr_div, expr_mod, expr_card, expr_if, expr_call, expr_let, expr_choose, expr_match, expr_chain, expr_min, expr_max, expr_choose_where, exprs_of, match_arm, match_arms_of, no_match_arms, holds_always, at_any}
use Rattle.cf_tree.specs.RelTree.{rel_true, rel_false}
use Rattle.cf_form.specs.Branches.{Branch}
use Rattle.cf_form.specs.Numbers.{PlacedNumber, other_number, choose_number, placed, placed_from, AreApart, ShareByBranch}

-- a choose of a number, with the relations of two branches
abbrev one : ℕ → ExprTree
one n = expr_choose n [] (Int ∷ []) rel_true

abbrev other : ℕ → ExprTree
other n = expr_choose n [] (Int ∷ []) rel_false

abbrev at : Branch → ℕ → PlacedNumber
at branch n = choose_number 7 branch n [] (Int ∷ [])

abbrev both : ExprTree
both = expr_tuple (exprs_of (one 1 ∷ one 2 ∷ []))

-- in each form, in the order of the text
in_forms : (placed 7 [] (expr_set_of (exprs_of (one 1 ∷ one 2 ∷ []))) ≡ at [] 1 ∷ at [] 2 ∷ []) × (placed 7 [] both ≡ at [] 1 ∷ at [] 2 ∷ [])
    × (placed 7 [] (expr_neg (one 1)) ≡ at [] 1 ∷ []) × (placed 7 [] (expr_not (one 1)) ≡ at [] 1 ∷ []) × (placed 7 [] (expr_abs (one 1)) ≡ at [] 1 ∷ [])
    × (placed 7 [] (expr_binary Add (one 1) (one 2)) ≡ at [] 1 ∷ at [] 2 ∷ []) × (placed 7 [] (expr_divides (pos 2) (one 1)) ≡ at [] 1 ∷ [])
    × (placed 7 [] (expr_div (one 1) (pos 2)) ≡ at [] 1 ∷ []) × (placed 7 [] (expr_mod (one 1) (pos 2)) ≡ at [] 1 ∷ [])
    × (placed 7 [] (expr_card (one 1)) ≡ at [] 1 ∷ []) × (placed 7 [] (expr_call 3 (exprs_of (one 1 ∷ one 2 ∷ []))) ≡ at [] 1 ∷ at [] 2 ∷ [])
    × (placed 7 [] (expr_let 1 (one 1) (one 2)) ≡ at [] 1 ∷ at [] 2 ∷ []) × (placed 7 [] (expr_min (exprs_of (one 1 ∷ one 2 ∷ []))) ≡ at [] 1 ∷ at [] 2 ∷ [])
    × (placed 7 [] (expr_max (exprs_of (one 1 ∷ one 2 ∷ []))) ≡ at [] 1 ∷ at [] 2 ∷ [])
    × (placed 7 [] (expr_chain [] (exprs_of (one 1 ∷ one 2 ∷ []))) ≡ at [] 1 ∷ at [] 2 ∷ [])
in_forms = (refl, refl, refl, refl, refl, refl, refl, refl, refl, refl, refl, refl, refl, refl, refl)

in_leaves : (placed 7 [] (expr_lit (pos 1)) ≡ []) × (placed 7 [] (expr_truth true) ≡ []) × (placed 7 [] (expr_var 0) ≡ [])
in_leaves = (refl, refl, refl)

-- a choose of a source has its hidden outputs behind the others
in_source : placed 7 [] (expr_choose_where 1 [] (Int ∷ []) (Set ∷ []) holds_always (expr_truth true) at_any) ≡
    choose_number 7 [] 1 [] (Int ∷ Set ∷ []) ∷ []
in_source = refl

-- a match with its arms, of which one has no variables
abbrev matched : ExprTree
matched = expr_match 1 [] (one 2) (match_arms_of (match_arm 3 (pos 2 ∷ []) (pos 0) (one 4) ∷ match_arm 0 [] (pos 1) (one 5) ∷ []))

in_matches : placed 7 ((0, true) ∷ []) matched ≡
    other_number 7 ((0, true) ∷ []) 1 ∷ at ((0, true) ∷ []) 2 ∷ other_number 7 ((0, true) ∷ []) 3 ∷ at ((0, true) ∷ []) 4 ∷ at ((0, true) ∷ []) 5 ∷ []
in_matches = refl

-- only a variable that is tested makes branches
abbrev tested : ExprTree
tested = expr_if (expr_var 2) (expr_if (expr_var 3) (one 1) (other 1)) (expr_if (expr_binary (Compare Eq) (one 2) (expr_lit (pos 1))) (one 3) (one 4))

in_branches : placed 7 [] tested ≡
    at ((3, true) ∷ (2, true) ∷ []) 1 ∷ at ((3, false) ∷ (2, true) ∷ []) 1 ∷ at ((2, false) ∷ []) 2 ∷ at ((2, false) ∷ []) 3 ∷ at ((2, false) ∷ []) 4 ∷ []
in_branches = refl

abbrev def : ExprTree → DefTree
def body = record { name = codes "f"; params = []; results = Int ∷ []; body = body }

in_functions : placed_from 0 (def (one 1) ∷ def (one 2) ∷ []) ≡ choose_number 0 [] 1 [] (Int ∷ []) ∷ choose_number 1 [] 2 [] (Int ∷ []) ∷ []
in_functions = refl

abbrev parts : ExprTree → ExprTree → List PlacedNumber
parts a b = placed 7 [] (expr_if (expr_var 2) a b)

-- the two branches on the variable of level 2
branches_share : ShareByBranch (parts (one 1) (other 1))
branches_share = (((λ e. record { function = refl; choose = (([], Int ∷ []), refl, refl); apart = (2, true, refl, refl) }), tt), (tt, tt))

-- also where the variable is tested around them
inner_branches_share : ShareByBranch (parts (expr_if (expr_var 2) (one 1) (other 1)) (expr_lit (pos 0)))
inner_branches_share = (((λ e. record { function = refl; choose = (([], Int ∷ []), refl, refl); apart = (2, true, refl, refl) }), tt), (tt, tt))

-- other numbers may stand anywhere
others_differ : ShareByBranch (placed 7 [] both)
others_differ = (((λ e. let k : 1 ≡ 2 = e in absurd (cc)), tt), (tt, tt))

none_apart : AreApart [] [] → ⊥
none_apart h = let k : None ≡ Some h.1 = h.2 in absurd (cc)

-- not one number twice in one branch, nor a choose's in the other branch for a match
not_together : ShareByBranch (placed 7 [] (expr_tuple (exprs_of (one 1 ∷ other 1 ∷ [])))) → ⊥
not_together h = none_apart (h.0.0 refl).apart

not_of_a_match : ShareByBranch (parts (one 1) (expr_match 1 [] (expr_var 0) no_match_arms)) → ⊥
not_of_a_match h = let c = (h.0.0 refl).choose in let k : None ≡ Some c.0 = c.2 in absurd (cc)

-- nor the first and the last of three
not_the_last : ShareByBranch (placed 7 [] (expr_tuple (exprs_of (one 1 ∷ one 2 ∷ other 1 ∷ [])))) → ⊥
not_the_last h = none_apart (h.0.1.0 refl).apart
