-- Steps of the loop that picks from the inside out, and the joined tests of a chain by their two halves.
use Rattle.std.proofs.Common.{◌≡◌, ℕ, suc, ◌+◌, ◌-◌, ◌/◌, ◌≤◌, ◌<◌, true, Result, IfOk, List, [], ◌∷◌, ◌++◌, length, length-append, map, take, drop, refl, sym, ap, ap₂, ◌∙◌, subst, arith}
use Rattle.std.proofs.lemmas.List.{length-map}
use Rattle.std.specs.List.{take-map, drop-map}
use Rattle.cf_tree.specs.declared.base.Order.{Order}
use Rattle.cf_tree.specs.declared.expr.Expr.{Expr}
use Rattle.cf_tree.specs.declared.memory.NoMemory.{NoMemory}
use Rattle.cf_tree.specs.declared.raw.BinOp.TheVariants.{And}
use Rattle.cf_tree.specs.ExprTree.{ExprTree, expr_binary, expr_let, expr_truth, expr_tuple}
use Rattle.cf_tree.specs.ExprView.{expr_tree, expr_trees}
use Rattle.cf_form.specs.Alternatives.{halves}
use Rattle.cf_form.specs.Formed.{pick, picked_from, best_body, how_many}
use Rattle.cf_form.proofs.FormSteps.{counts_are}
use Rattle.cf_form.proofs.HalfSteps.{by_halves}

-- ---- picks
-- one more pick around those that are made
pub picked_more : (o : Order) (x y more left less : ℕ) → left ≡ suc less → left ≤ more →
    expr_let 1 (pick o (x + less) (y + less)) (picked_from o (x + left) (y + left) (suc (x + left)) (more - left))
    ≡ picked_from o (x + less) (y + less) (suc (x + less)) (more - less)
picked_more o x y more left less e l =
    let a : x + left ≡ suc (x + less) = omega (arith, e) in
    let b : y + left ≡ suc (y + less) = omega (arith, e) in
    let c : more - less ≡ suc (more - left) = omega (arith, e, l) in
    ap₂ (λ u v. expr_let 1 (pick o (x + less) (y + less)) (picked_from o u v (suc u) (more - left))) a b
    ∙ sym (ap (λ n. picked_from o (x + less) (y + less) (suc (x + less)) n) c)

-- the innermost one
pub picked_first : (o : Order) (x y more : ℕ) →
    pick o (x + more) (y + more) ≡ picked_from o (x + more) (y + more) (suc (x + more)) (more - more)
picked_first o x y more =
    let none : more - more ≡ 0 = omega arith in
    sym (ap (λ n. picked_from o (x + more) (y + more) (suc (x + more)) n) none)

-- all of them
pub picked_all : (o : Order) (x y more left : ℕ) → left ≡ 0 →
    picked_from o (x + left) (y + left) (suc (x + left)) (more - left) ≡ picked_from o x y (suc x) more
picked_all o x y more left e =
    let a : x + left ≡ x = omega (arith, e) in
    let b : y + left ≡ y = omega (arith, e) in
    let c : more - left ≡ more = omega (arith, e) in
    ap₂ (λ u v. picked_from o u v (suc u) (more - left)) a b ∙ ap (λ n. picked_from o x y (suc x) n) c

pub ruleset picks = (picked_more, picked_first, picked_all)

pub best_of_two : (o : Order) (s k second : ℕ) → k ≤ 2 → second ≡ s + 1 → pick o s second ≡ best_body o s k
best_of_two o s k second l e =
    let a : second ≡ suc s = omega (arith, e) in
    let b : k - 2 ≡ 0 = omega (arith, l) in
    ap (λ y. pick o s y) a ∙ sym (ap (λ n. picked_from o s (suc s) (s + k) n) b)

pub best_of_more : (o : Order) (s k second third bound more : ℕ) → 2 < k → second ≡ s + 1 → third ≡ s + 2 → bound ≡ s + k → more ≡ k - 3 →
    expr_let 1 (pick o s second) (picked_from o bound third (suc bound) more) ≡ best_body o s k
best_of_more o s k second third bound more l e f g h =
    let a : second ≡ suc s = omega (arith, e) in
    let b : third ≡ suc (suc s) = omega (arith, f) in
    let c : k - 2 ≡ suc more = omega (arith, l, h) in
    ap₂ (λ y z. expr_let 1 (pick o s y) (picked_from o bound z (suc bound) more)) a b
    ∙ ap (λ z. expr_let 1 (pick o s (suc s)) (picked_from o z (suc (suc s)) (suc z) more)) g
    ∙ sym (ap (λ n. picked_from o s (suc s) (s + k) n) c)

pub ruleset bests = (best_of_two, best_of_more)

-- ---- parts that are bound
pub bound_parts : (r : Result Expr NoMemory) (es : List Expr) (own body : ExprTree) →
    IfOk r (λ e. expr_tree e ≡ expr_let (length es) (expr_tuple (expr_trees es)) own) → own ≡ body →
    IfOk r (λ e. expr_tree e ≡ expr_let (how_many (expr_trees es)) (expr_tuple (expr_trees es)) body)
bound_parts r es own body h e =
    subst (λ n. IfOk r (λ x. expr_tree x ≡ expr_let n (expr_tuple (expr_trees es)) body)) (sym (counts_are es))
    (subst (λ b. IfOk r (λ x. expr_tree x ≡ expr_let (length es) (expr_tuple (expr_trees es)) b)) e h)

-- ---- tests
abbrev pub tests : List Expr → ExprTree
tests es = halves (expr_binary And) (expr_truth true) (map expr_tree es)

-- those of a vector, split behind the first half
pub split_tests : (es first rest : List Expr) (half : ℕ) → half ≡ length es / 2 → 1 ≤ half → first ≡ take half es → rest ≡ drop half es →
    expr_binary And (tests first) (tests rest) ≡ tests es
split_tests es first rest half h l a b =
    let ps = map expr_tree es in
    let count : half ≡ length ps / 2 = h ∙ ap (λ n. n / 2) (sym (length-map es expr_tree)) in
    let left : map expr_tree first ≡ take (length ps / 2) ps = ap (map expr_tree) a ∙ sym (take-map expr_tree half es) ∙ ap (λ n. take n ps) count in
    let right : map expr_tree rest ≡ drop (length ps / 2) ps = ap (map expr_tree) b ∙ sym (drop-map expr_tree half es) ∙ ap (λ n. drop n ps) count in
    ap₂ (λ xs ys. expr_binary And (halves (expr_binary And) (expr_truth true) xs) (halves (expr_binary And) (expr_truth true) ys)) left right
    ∙ sym (by_halves (expr_binary And) (expr_truth true) ps (omega (arith, count, l)))

pub one_test : (e : Expr) (es before : List Expr) → length es ≤ 1 → es ≡ before ++ e ∷ [] → expr_tree e ≡ tests es
one_test e es [] l h = rw h refl
one_test e es (x ∷ before) l h = absurd (omega (arith, l, ap length h, length-append before (e ∷ [])))
