-- Worked examples of printed blocks.
use Rattle.std.proofs.Common.{◌≡◌, ℕ, true, false, List, [], ◌∷◌, map, refl, codes}
use Rattle.std.specs.Prelude.{pos, negsuc}
use Rattle.std.specs.Fmt.{digits}
use Rattle.cf_tree.specs.declared.base.Base.TheVariants.{Int}
use Rattle.cf_tree.specs.declared.base.Order.TheVariants.{Ge}
use Rattle.cf_tree.specs.declared.target.RawTarget.{RawTarget}
use Rattle.cf_tree.specs.CodeTree.{CodeTree, code_lit, code_var, code_sum, code_mul, code_div, code_compare, code_solve, no_codes, code_more, let_item, need_item, no_items, item_more, arm_of, no_arms, arm_more}
use Rattle.cf_tree.specs.CodeView.{code_tree}
use Rattle.cf_elim.specs.declared.act.Act.{Act}
use Rattle.cf_elim.specs.declared.act.Act.TheVariants.{Clean, Mix, Last, Search, Drop}
use Rattle.cf_steps.specs.Printed.{act_text, cases_text, head_text, block_text}

-- ---- steps and their texts
abbrev printed : List (Act × List ℕ)
printed =
    (Clean, codes "clean") ∷
    (Mix 2 13 (pos 1) (negsuc 1) (pos 0) (negsuc 11), codes "mix 2 13 1 -2 0 -12") ∷
    (Last 0, codes "last 0") ∷
    (Search 3 true, codes "search 3 lower") ∷
    (Search 3 false, codes "search 3 upper") ∷
    (Drop 4294967295, codes "drop 4294967295") ∷
    []

acts-printed : map (λ x. act_text x.0) printed ≡ map (λ x. x.1) printed
unfolding digits
acts-printed = refl

-- a case without steps, and one with two
cases-printed : cases_text ([] ∷ (Clean ∷ Last 1 ∷ []) ∷ []) ≡ codes "case {\n}\ncase {\nclean;\nlast 1;\n}\n"
unfolding digits
cases-printed = refl

-- ---- heads: nothing where a choose has but one branch
heads-printed : map head_text ([] ∷ (record { name = codes "p"; value = true } ∷ []) ∷
    (record { name = codes "p"; value = true } ∷ record { name = codes "q_2"; value = false } ∷ []) ∷ [])
    ≡ [] ∷ codes " (p = true)" ∷ codes " (p = true, q_2 = false)" ∷ []
heads-printed = refl

branch-printed : (t : RawTarget) → t.params.items ≡ [] → t.results.items ≡ Int ∷ [] → code_tree t.code ≡ code_lit (pos 0) →
    block_text 12 (record { name = codes "p"; value = false } ∷ []) [] t ≡ codes "choose 12 (p = false) {\n}\ncomfusy 2\nmain (): int = 0\n"
unfolding digits
branch-printed t p r c = rw (p, r, c) refl

-- ---- the block for rounding: some x with a <= 2 * x and 2 * x <= b
abbrev negated : CodeTree → CodeTree
negated c = code_mul (code_lit (negsuc 0)) c

abbrev rounding : CodeTree
rounding =
    code_solve 1 (arm_more (arm_of [] (
    item_more (let_item (code_div (negated (code_var 0)) (pos 2))) (
    item_more (let_item (code_div (code_var 1) (pos 2))) (
    item_more (need_item (code_compare Ge (code_sum (code_more (code_var 2) (code_more (code_var 3) no_codes))) (code_lit (pos 0)))) (
    item_more (let_item (negated (code_var 2))) no_items))))
    (code_more (code_var 4) no_codes)) no_arms)

block-printed : (t : RawTarget) → t.params.items ≡ Int ∷ Int ∷ [] → t.results.items ≡ Int ∷ [] → code_tree t.code ≡ rounding →
    block_text 1 [] ((Clean ∷ Drop 3 ∷ Clean ∷ []) ∷ []) t
    ≡ codes "choose 1 {\ncase {\nclean;\ndrop 3;\nclean;\n}\n}\ncomfusy 2\nmain (int, int): int = solve 1 {\narm [] {\nlet div((-1 * v0), 2);\nlet div(v1, 2);\nneed ((v2 + v3) >= 0);\nlet (-1 * v2);\ngive v4\n}\n}\n"
unfolding digits
block-printed t p r c = rw (p, r, c) refl
