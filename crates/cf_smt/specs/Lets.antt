-- The lets of an arm, and those without which a term cannot be read.
use Rattle.std.specs.Prelude.{ℕ, ◌+◌, Bool, ◌||◌, List, [], ◌∷◌, ◌++◌, length, reverse, codes, if◌then◌else◌}
use Rattle.std.specs.List.{list_any}
use Rattle.cf_tree.specs.CodeTree.{CodeTree, ItemTree, let_item, need_item, ItemTrees, no_items, item_more}
use Rattle.cf_print.specs.Pieces.{repeated}
use Rattle.cf_smt.specs.Reads.{reads}
use Rattle.cf_smt.specs.Terms.{name_of, code_text}

-- the value of a let, and the level of its variable
pub record Bound : Type 0 where
  pub level : ℕ
  pub value : CodeTree

abbrev pub bound_at : ℕ → CodeTree → Bound
bound_at x c = record { level = x; value = c }

abbrev pub bound_of : ℕ → ItemTree → List Bound
bound_of x (let_item c) = bound_at x c ∷ []
bound_of x (need_item c) = []

-- the level behind an item
abbrev pub level_behind : ℕ → ItemTree → ℕ
level_behind x (let_item c) = x + 1
level_behind x (need_item c) = x

-- the lets of items, the first of which has this level
abbrev pub lets_of : ℕ → ItemTrees → List Bound
lets_of x no_items = []
lets_of x (item_more i is) = bound_of x i ++ lets_of (level_behind x i) is

abbrev pub need_of : ItemTree → List CodeTree
need_of (let_item c) = []
need_of (need_item c) = c ∷ []

abbrev pub needs_of : ItemTrees → List CodeTree
needs_of no_items = []
needs_of (item_more i is) = need_of i ++ needs_of is

-- one of the codes reads the variable of a level, or the value of one of the lets
abbrev pub are_read : ℕ → List CodeTree → List Bound → Bool
are_read x codes lets = list_any (reads x) codes || list_any (λ l. reads x l.value) lets

abbrev pub kept_if : Bool → Bound → List Bound
kept_if wanted l = if wanted then l ∷ [] else []

-- from the last let to the first, each that the codes read, or one that is kept
abbrev pub kept_behind : List CodeTree → List Bound → List Bound → List Bound
kept_behind codes kept [] = kept
kept_behind codes kept (l ∷ lets) = kept_behind codes (kept ++ kept_if (are_read l.level codes kept) l) lets

abbrev pub lets_kept : ℕ → ItemTrees → List CodeTree → List Bound
lets_kept x items codes = reverse (kept_behind codes [] (reverse (lets_of x items)))

abbrev pub let_text : List (List ℕ) → Bound → List ℕ
let_text names l = codes "(let ((" ++ name_of names l.level ++ codes " " ++ code_text names l.value ++ codes "))\n  "

abbrev pub lets_text : List (List ℕ) → List Bound → List ℕ
lets_text names [] = []
lets_text names (l ∷ lets) = let_text names l ++ lets_text names lets

-- a term in these lets
abbrev pub in_lets : List (List ℕ) → List Bound → List ℕ → List ℕ
in_lets names lets term = lets_text names lets ++ term ++ repeated (length lets) (codes ")")
