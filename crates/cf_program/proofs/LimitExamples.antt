-- The limits of a program's functions as numbers: on both sides of the limit of weight, and of that of depth.
use Rattle.std.proofs.Common.{◌≡◌, ℕ, zero, suc, pos, List, [], ◌∷◌, ◌++◌, codes, is_ok, true, Ok, Err, refl}
use Rattle.cf_tree.specs.declared.base.Base.TheVariants.{Int}
use Rattle.cf_tree.specs.declared.base.Edition.TheVariants.{Two, Three}
use Rattle.cf_tree.specs.declared.raw.BinOp.TheVariants.{Add}
use Rattle.cf_tree.specs.DefView.{DefTree, RawItemTree, item_def}
use Rattle.cf_tree.specs.ExprTree.{ExprTree, expr_lit, expr_neg, expr_binary, expr_call, exprs_of}
use Rattle.cf_tree.specs.RawTree.{RawTree, raw_lit, raw_neg}
use Rattle.cf_program.specs.declared.linearity.Linearity.TheVariants.{Plain}
use Rattle.cf_program.specs.declared.fault.TypeFault.TheVariants.{NoMain, Weight, Depth}
use Rattle.cf_program.proofs.RuleExamples.{at}
use Rattle.cf_program.specs.Checked.{TypedTree, sized, checked}

abbrev def : ExprTree → DefTree
def body = record { name = codes "f"; params = []; results = Int ∷ []; body = body }

abbrev program : List DefTree → TypedTree
program defs = record { defs = defs; main = 0 }

abbrev call : ℕ → ExprTree
call f = expr_call f (exprs_of [])

-- functions from number f on, each of which calls the one before it twice
abbrev doubled : ℕ → ℕ → List DefTree
doubled zero f = []
doubled (suc n) f = def (expr_binary Add (call f) (call f)) ∷ doubled n (suc f)

-- with so many signs before it
abbrev negated : ℕ → ExprTree → ExprTree
negated zero e = e
negated (suc n) e = expr_neg (negated n e)

abbrev sum_of : ℕ → List ℕ → ExprTree
sum_of f [] = call f
sum_of f (g ∷ gs) = expr_binary Add (call f) (sum_of g gs)

-- 17 functions, of which the last weighs 262,141, and one more, with so many signs before a sum of calls
abbrev heavy : ℕ → List DefTree
heavy n = (def (expr_lit (pos 1)) ∷ doubled 16 0) ++ def (negated n (sum_of 16 (16 ∷ 15 ∷ 15 ∷ 15 ∷ 14 ∷ 12 ∷ 7 ∷ 4 ∷ 1 ∷ 0 ∷ []))) ∷ []

most-weight : sized (program (heavy 0)) ≡ Ok (program (heavy 0))
most-weight = refl

one-node_more : sized (program (heavy 1)) ≡ Err (Weight 1000001)
one-node_more = refl

-- a call of a function of depth 100 and so many signs before it
abbrev deep : ℕ → List DefTree
deep n = def (negated 99 (expr_lit (pos 1))) ∷ def (negated n (call 0)) ∷ []

most-depth : sized (program (deep 99)) ≡ Ok (program (deep 99))
most-depth = refl

one-level_more : sized (program (deep 100)) ≡ Err (Depth 201)
one-level_more = refl

-- of edition 3 they are asked once it is lowered
abbrev raw_negated : ℕ → RawTree
raw_negated zero = raw_lit (at 1) (pos 1)
raw_negated (suc n) = raw_neg (at 1) (raw_negated n)

abbrev too_deep : List ℕ → List RawItemTree
too_deep x = item_def (record { place = at 1; name = x; params = []; results = Int ∷ []; body = raw_negated 200 }) ∷ []

depth-by_edition : (checked Two Plain (too_deep (codes "main")) ≡ Err (Depth 201)) × (is_ok (checked Three Plain (too_deep (codes "main"))) ≡ true)
depth-by_edition = (refl, refl)

-- a missing `main` comes first
no_main : checked Two Plain (too_deep (codes "f")) ≡ Err NoMain
no_main = refl
