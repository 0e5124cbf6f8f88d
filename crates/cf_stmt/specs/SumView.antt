-- A sum that is under way.
use Rattle.std.specs.Prelude.{◌≡◌, ℕ, List, [], ◌∷◌, map}
use Rattle.cf_tree.specs.CodeTree.{CodeTree, CodeTrees, code_more}
use Rattle.cf_tree.specs.CodeView.{code_trees}
use Rattle.cf_stmt.specs.declared.sums.Summing.{Summing}
use Rattle.cf_stmt.specs.Blocks.{Block, part}
use Rattle.cf_stmt.specs.BlockView.{block_tree}
use Rattle.cf_stmt.specs.Fitting.{plain}
use Rattle.cf_stmt.specs.Made.{sum_block, sum_more}

-- these parts in order, and then the block
abbrev pub parts_then : List Block → Block → Block
parts_then [] b = b
parts_then (a ∷ rest) b = part a (parts_then rest b)

abbrev pub bound_blocks : Summing → List Block
bound_blocks s = map (λ b. block_tree b.value) s.bound.items

abbrev pub ready_codes : Summing → CodeTrees
ready_codes s = code_trees s.ready.items

-- the block of the sum, where these codes are still to be added
abbrev pub sum_left : Summing → CodeTrees → Block
sum_left s cs = parts_then (bound_blocks s) (sum_more plain s.n (ready_codes s) cs)

-- the sum stands behind so many variables, with these codes ready and these blocks bound
abbrev pub IsSum : Summing → ℕ → CodeTrees → List Block → Type 0
IsSum s n ready bound = (s.n ≡ n) × (ready_codes s ≡ ready) × (bound_blocks s ≡ bound)

-- the sum of this code, behind n variables
abbrev pub IsBegun : ℕ → CodeTree → Summing → Type 0
IsBegun n c s = (cs : CodeTrees) → sum_left s cs ≡ sum_block plain n (code_more c cs)

-- the second sum is the first with this code
abbrev pub IsMore : CodeTree → Summing → Summing → Type 0
IsMore c s r = (cs : CodeTrees) → sum_left r cs ≡ sum_left s (code_more c cs)
