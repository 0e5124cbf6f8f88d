-- Expressions that can be run on values within the limit: what running one asks.
use Rattle.std.specs.Prelude.{◌-◌, List, length, map, All}
use Rattle.cf_num.specs.Limit.{IsWithin}
use Rattle.cf_tree.specs.declared.base.Base.{Base}
use Rattle.cf_tree.specs.declared.base.Base.TheVariants.{Int}
use Rattle.cf_tree.specs.Params.{bases_of}
use Rattle.cf_tree.specs.ExprTree.{ExprTree, expr_lit, expr_truth, expr_var, expr_set_of, expr_tuple, expr_neg, expr_not, expr_abs, expr_binary, expr_chain, expr_min, expr_max, expr_divides, expr_div, expr_mod, expr_card, expr_if, expr_call, expr_let, expr_choose, expr_choose_where, expr_match, ExprTrees, no_exprs, expr_more, MatchArmTree, match_arm, MatchArmTrees, no_match_arms, match_arm_more}
use Rattle.cf_late.specs.LateChoose.{IsLateChoose}
use Rattle.cf_late.specs.LateRun.{pattern_relation}

-- the numbers of its pattern are within the limit
abbrev pub HasFitPattern : MatchArmTree → Type 0
HasFitPattern (match_arm m factors k body) = All IsWithin factors × IsWithin k

abbrev mutual
  -- its literals are within the limit, each choose may be solved once its scope is known, and it has none of the forms of `HasNoForm`
  pub IsRunnable : ExprTree → Type 0
  IsRunnable (expr_lit k) = IsWithin k
  IsRunnable (expr_truth t) = Unit {0}
  IsRunnable (expr_var x) = Unit {0}
  IsRunnable (expr_set_of es) = AreRunnable es
  IsRunnable (expr_tuple es) = AreRunnable es
  IsRunnable (expr_neg a) = IsRunnable a
  IsRunnable (expr_not a) = IsRunnable a
  IsRunnable (expr_abs a) = IsRunnable a
  IsRunnable (expr_binary op a b) = IsRunnable a × IsRunnable b
  IsRunnable (expr_chain orders es) = ⊥
  IsRunnable (expr_min es) = ⊥
  IsRunnable (expr_max es) = ⊥
  IsRunnable (expr_divides k a) = IsRunnable a
  IsRunnable (expr_div a k) = IsRunnable a
  IsRunnable (expr_mod a k) = IsRunnable a
  IsRunnable (expr_card a) = IsRunnable a
  IsRunnable (expr_if t a b) = IsRunnable t × IsRunnable a × IsRunnable b
  IsRunnable (expr_call f es) = AreRunnable es
  IsRunnable (expr_let n a b) = IsRunnable a × IsRunnable b
  IsRunnable (expr_choose n scope outputs rel) = IsLateChoose (bases_of scope) outputs rel
  IsRunnable (expr_choose_where n scope outputs hidden given rel aim) = ⊥
  IsRunnable (expr_match n scope a arms) = IsRunnable a × AreRunnableArms (bases_of scope) arms

  pub AreRunnable : ExprTrees → Type 0
  AreRunnable no_exprs = Unit {0}
  AreRunnable (expr_more e es) = IsRunnable e × AreRunnable es

  pub AreRunnableArms : List Base → MatchArmTrees → Type 0
  AreRunnableArms scope no_match_arms = Unit {0}
  AreRunnableArms scope (match_arm_more a arms) = HasFitPattern a × IsRunnableArm scope a × AreRunnableArms scope arms

  -- the choose of the variables of its pattern may be solved too
  pub IsRunnableArm : List Base → MatchArmTree → Type 0
  IsRunnableArm scope (match_arm m factors k body) =
      IsLateChoose scope (map (λ _. Int) factors) (pattern_relation (length scope - 1) factors k) × IsRunnable body
