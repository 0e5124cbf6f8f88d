-- The limit of the depth of a target in a steps file as a number: on both sides of it.
use Rattle.std.proofs.Common.{ℕ, zero, suc, List, [], ◌∷◌, pos, arith}
use Rattle.cf_lex.specs.declared.token.Token.{Token}
use Rattle.cf_tree.specs.declared.base.Base.TheVariants.{Int}
use Rattle.cf_tree.specs.declared.base.Edition.{Edition}
use Rattle.cf_tree.specs.CodeTree.{CodeTree, code_lit, code_neg}
use Rattle.cf_steps.specs.Blocks.{BlockTree}
use Rattle.cf_steps.specs.Spelling.{AreBlocks}

-- 1 within so many `neg(..)`
abbrev negated : ℕ → CodeTree
negated zero = code_lit (pos 1)
negated (suc n) = code_neg (negated n)

abbrev block : ℕ → BlockTree
block n = record { number = 1; truths = []; cases = []; target = record { params = []; results = Int ∷ []; code = negated n } }

one-level_more : (edition : Edition) (ts : List Token) → AreBlocks edition (block 500 ∷ []) ts → ⊥
one-level_more edition ts h = omega (arith, h.1.2.2.2.2.0)
