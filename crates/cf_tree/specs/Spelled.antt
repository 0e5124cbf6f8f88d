-- Which targets the target grammar spells, as far as it is a fact about the tree: its depth, the lengths of its lists, and its numbers.
use Rattle.std.specs.Prelude.{ℕ, ◌+◌, ◌^◌, ◌<◌, ◌≤◌, length, All}
use Rattle.cf_num.specs.Limit.{IsWithin}
use Rattle.cf_tree.specs.declared.target.RawTarget.{RawTarget}
use Rattle.cf_tree.specs.CodeTree.{CodeTree, code_lit, code_truth, code_var, code_set_of, code_tuple, code_sum, code_sub, code_mul, code_neg, code_div, code_mod, code_min, code_max, code_compare, code_divides, code_and, code_or, code_not, code_union, code_inter, code_diff, code_subset, code_card, code_slice, code_fresh, code_if, code_let, code_solve, CodeTrees, no_codes, code_more, let_item, need_item, ItemTrees, no_items, item_more, arm_of, ArmTrees, no_arms, arm_more, count, code_depth}
use Rattle.cf_tree.specs.CodeView.{code_tree}
use Rattle.cf_tree.specs.Relation.{IsDivisor}

-- a number that a literal other than 0 spells in 32 bits
abbrev pub IsNumeral : ℕ → Type 0
IsNumeral n = (1 ≤ n) × (n < 2 ^ 32)

abbrev pub IsNoTuple : CodeTree → Type 0
IsNoTuple (code_tuple cs) = ⊥
IsNoTuple c = Unit {0}

-- one code stands for itself, and a tuple for its parts, so one give is no tuple
abbrev pub AreGives : CodeTrees → Type 0
AreGives no_codes = ⊥
AreGives (code_more c no_codes) = IsNoTuple c
AreGives (code_more c (code_more d cs)) = Unit {0}

abbrev mutual
  pub IsSpelled : CodeTree → Type 0
  IsSpelled (code_lit k) = IsWithin k
  IsSpelled (code_truth t) = Unit {0}
  IsSpelled (code_var x) = x < 2 ^ 32
  IsSpelled (code_set_of cs) = AreSpelled cs
  IsSpelled (code_tuple cs) = (2 ≤ count cs) × AreSpelled cs
  IsSpelled (code_sum cs) = (2 ≤ count cs) × AreSpelled cs
  IsSpelled (code_sub a b) = IsSpelled a × IsSpelled b
  IsSpelled (code_mul a b) = IsSpelled a × IsSpelled b
  IsSpelled (code_neg a) = IsSpelled a
  IsSpelled (code_div a k) = IsDivisor k × IsSpelled a
  IsSpelled (code_mod a k) = IsDivisor k × IsSpelled a
  IsSpelled (code_min cs) = (1 ≤ count cs) × AreSpelled cs
  IsSpelled (code_max cs) = (1 ≤ count cs) × AreSpelled cs
  IsSpelled (code_compare o a b) = IsSpelled a × IsSpelled b
  IsSpelled (code_divides k a) = IsDivisor k × IsSpelled a
  IsSpelled (code_and a b) = IsSpelled a × IsSpelled b
  IsSpelled (code_or a b) = IsSpelled a × IsSpelled b
  IsSpelled (code_not a) = IsSpelled a
  IsSpelled (code_union cs) = (2 ≤ count cs) × AreSpelled cs
  IsSpelled (code_inter cs) = (2 ≤ count cs) × AreSpelled cs
  IsSpelled (code_diff a b) = IsSpelled a × IsSpelled b
  IsSpelled (code_subset a b) = IsSpelled a × IsSpelled b
  IsSpelled (code_card a) = IsSpelled a
  IsSpelled (code_slice a b c) = IsSpelled a × IsSpelled b × IsSpelled c
  IsSpelled (code_fresh a b) = IsSpelled a × IsSpelled b
  IsSpelled (code_if t a b) = IsSpelled t × IsSpelled a × IsSpelled b
  IsSpelled (code_let first n a b) = (1 ≤ n) × (first + n ≤ 2 ^ 32) × IsSpelled a × IsSpelled b
  IsSpelled (code_solve n arms) = IsNumeral n × AreArmsSpelled arms

  pub AreSpelled : CodeTrees → Type 0
  AreSpelled no_codes = Unit {0}
  AreSpelled (code_more c cs) = IsSpelled c × AreSpelled cs

  pub AreItemsSpelled : ItemTrees → Type 0
  AreItemsSpelled no_items = Unit {0}
  AreItemsSpelled (item_more (let_item c) is) = IsSpelled c × AreItemsSpelled is
  AreItemsSpelled (item_more (need_item c) is) = IsSpelled c × AreItemsSpelled is

  pub AreArmsSpelled : ArmTrees → Type 0
  AreArmsSpelled no_arms = Unit {0}
  AreArmsSpelled (arm_more (arm_of bounds is gs) arms) =
      All IsNumeral bounds × AreItemsSpelled is × AreGives gs × AreSpelled gs × AreArmsSpelled arms

abbrev pub HasSpelling : RawTarget → Type 0
HasSpelling t = (code_depth (code_tree t.code) ≤ 500) × IsSpelled (code_tree t.code) × (1 ≤ length t.results.items)
