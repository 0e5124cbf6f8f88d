-- At which place a block gives a variable: so it may have the name of that output.
use Rattle.std.specs.Prelude.{ℕ, suc, Bool, false, nat_eq, Option, Some, None, if◌then◌else◌}
use Rattle.cf_tree.specs.CodeTree.{CodeTree, code_var, code_tuple, CodeTrees, no_codes, code_more}
use Rattle.cf_stmt.specs.Blocks.{Block, give, none, leave, bind, part, join, test, arm}

abbrev pub is_level : CodeTree → ℕ → Bool
is_level (code_var y) x = nat_eq y x
is_level c x = false

-- the place of a variable among codes, of which the first has the place k
abbrev pub place_among : ℕ → CodeTrees → ℕ → Option ℕ
place_among k no_codes x = None
place_among k (code_more c cs) x = if is_level c x then Some k else place_among (suc k) cs x

abbrev pub place_in : ℕ → CodeTree → ℕ → Option ℕ
place_in k (code_tuple cs) x = place_among k cs x
place_in k c x = if is_level c x then Some k else None

abbrev pub first_place : Option ℕ → Option ℕ → Option ℕ
first_place (Some k) o = Some k
first_place None o = o

-- the place at which a block gives a variable, where its first value has the place k
abbrev pub given_at : ℕ → Block → ℕ → Option ℕ
given_at k (give c) x = place_in k c x
given_at k (none n) x = None
given_at k leave x = None
given_at k (bind a b) x = given_at k b x
given_at k (part a b) x = given_at k b (suc x)
given_at k (join a b) x = first_place (given_at k a x) (given_at (suc k) b x)
given_at k (test t a b) x = first_place (given_at k a x) (given_at k b x)
given_at k (arm ks a b) x = None
