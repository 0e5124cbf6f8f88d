-- The names of variables by level: those of the scope that are read, and those of the outputs.
use Rattle.std.specs.Prelude.{ℕ, suc, Bool, true, false, ◌||◌, ◌+◌, nat_eq, nat_le, nat_lt, List, [], ◌∷◌, ◌++◌, drop, length, decimal, codes, Some, if◌then◌else◌}
use Rattle.cf_tree.specs.declared.base.Base.TheVariants.{Int}
use Rattle.cf_tree.specs.CodeTree.{ArmTrees}
use Rattle.cf_tree.specs.Occurs.{rel_holds}
use Rattle.cf_tree.specs.RelTree.{RelTree}
use Rattle.cf_print.specs.Names.{new_name}
use Rattle.cf_smt.specs.Reads.{arms_read}
use Rattle.cf_smt.specs.declared.words.TheConstants.{SMT_WORDS}

-- that these arms solve the choose of a number, in one of its branches: its relation, and what the source names its scope and its outputs
pub record Claim : Type 0 where
  pub number : ℕ
  pub branch : ℕ
  pub scope : List (List ℕ)
  pub outputs : List (List ℕ)
  pub relation : RelTree
  pub arms : ArmTrees

-- the relation or an arm reads the variable of a level
abbrev pub is_read : Claim → ℕ → Bool
is_read c x = rel_holds x c.relation || arms_read x c.arms

-- each output has a name, and what is read
abbrev pub is_named : Claim → ℕ → Bool
is_named c x = nat_le (length c.scope) x || is_read c x

-- the name of the variable behind those that have these, as the source names it; one that is not read has none
abbrev pub next_name : Claim → List (List ℕ) → List ℕ → List ℕ
next_name c names wish = if is_named c (length names) then new_name SMT_WORDS.now names Int (Some wish) else []

abbrev pub names_behind : Claim → List (List ℕ) → List (List ℕ) → List (List ℕ)
names_behind c names [] = names
names_behind c names (wish ∷ wishes) = names_behind c (names ++ (next_name c names wish ∷ [])) wishes

abbrev pub is_empty : List ℕ → Bool
is_empty [] = true
is_empty (x ∷ w) = false

-- the names of the variables that have one
abbrev pub given_name : List ℕ → List (List ℕ)
given_name x = if is_empty x then [] else x ∷ []

abbrev pub given_names : List (List ℕ) → List (List ℕ)
given_names [] = []
given_names (x ∷ xs) = given_name x ++ given_names xs

abbrev pub branch_text : ℕ → List ℕ
branch_text branch = if nat_eq branch 0 then [] else codes "." ++ decimal (suc branch)

-- the name of a choose: choose1, and of its second branch choose1.2
abbrev pub claim_name : ℕ → ℕ → List ℕ
claim_name number branch = codes "choose" ++ decimal number ++ branch_text branch

-- the names that stand in the text of a choose: its own, those of its scope by level, those of its parameters, which are what is read of the scope, all by
-- level, and those of its outputs
pub record Setting : Type 0 where
  pub name : List ℕ
  pub scope : List (List ℕ)
  pub params : List (List ℕ)
  pub all : List (List ℕ)
  pub outputs : List (List ℕ)

abbrev pub scope_names : Claim → List (List ℕ)
scope_names c = names_behind c [] c.scope

abbrev pub all_names : Claim → List (List ℕ)
all_names c = names_behind c (scope_names c) c.outputs

abbrev pub setting_of : Claim → Setting
setting_of c = record {
  name = claim_name c.number c.branch;
  scope = scope_names c;
  params = given_names (scope_names c);
  all = all_names c;
  outputs = drop (length (scope_names c)) (all_names c);
}

-- the variables of searches: i., j., k., k3., ..
abbrev pub search_letter : ℕ → List ℕ
search_letter j = if nat_eq j 0 then codes "i" else if nat_eq j 1 then codes "j" else codes "k"

abbrev pub search_digits : ℕ → List ℕ
search_digits j = if nat_lt 2 j then decimal j else []

unfoldable pub search_name : ℕ → List ℕ
search_name j = search_letter j ++ search_digits j ++ codes "."

-- the names of n searches from the j-th on
abbrev pub search_names : ℕ → List ℕ → List (List ℕ)
search_names j [] = []
search_names j (b ∷ bounds) = search_name j ∷ search_names (j + 1) bounds
