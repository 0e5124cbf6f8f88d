-- Constants: names that stand for numbers in all that comes behind them, and the values of the expressions that they are declared by.
use Rattle.std.specs.Prelude.{ℕ, ℤ, pos, neg_ℤ, ◌+ℤ◌, ◌-ℤ◌, ◌*ℤ◌, int_lt, is_some, Bool, List, [], ◌∷◌, ◌++◌, map, Option, Some, None, Result, Ok, Err, if◌then◌else◌}
use Rattle.std.specs.Str.{bytes_eq}
use Rattle.cf_num.specs.Limit.{within}
use Rattle.cf_tree.specs.declared.base.Place.{Place}
use Rattle.cf_tree.specs.declared.raw.BinOp.{BinOp}
use Rattle.cf_tree.specs.declared.raw.BinOp.TheVariants.{Add, Sub, Mul, And, Or, Union, Inter, Diff, Subset, Implies, Compare}
use Rattle.cf_tree.specs.Numbers.{quotient, remainder, absolute}
use Rattle.cf_tree.specs.RawTree.{RawTree, raw_lit, raw_truth, raw_name, raw_set_of, raw_group, raw_tuple, raw_neg, raw_not, raw_abs, raw_binary, raw_chain, raw_min, raw_max, raw_divides, raw_div, raw_mod, raw_card, raw_call, raw_if, raw_let, raw_choose, raw_match, RawTrees, no_raws, raw_more, RawArmTrees, no_raw_arms, raw_arm, raw_arm_more, NumberTree, number_lit, number_name, GivenTree, no_given, given_that, AimTree, no_aim, aim_at}
use Rattle.cf_program.specs.declared.fault.TypeFault.{TypeFault}
use Rattle.cf_program.specs.declared.fault.TypeFault.TheVariants.{NotConstant, ConstantPast}
use Rattle.cf_program.specs.Then.{◌>>=◌}

pub record Constant : Type 0 where
  pub name : List ℕ
  pub value : ℤ

-- the value of the constant of that name, if there is one
abbrev pub constant_of : List Constant → List ℕ → Option ℤ
constant_of [] x = None
constant_of (c ∷ cs) x = if bytes_eq c.name x then Some c.value else constant_of cs x

abbrev pub constant_names : List Constant → List (List ℕ)
constant_names cs = map (λ c. c.name) cs

abbrev pub is_within : ℤ → Bool
is_within z = is_some (within z)

-- a number that is met at p
abbrev pub met : Place → ℤ → Result ℤ TypeFault
met p z = if is_within z then Ok z else Err (ConstantPast p)

-- what a name stands for in the value of a constant
abbrev pub named : Place → Option ℤ → Result ℤ TypeFault
named p (Some k) = Ok k
named p None = Err (NotConstant p)

abbrev pub number_or_one : Option ℤ → ℤ
number_or_one (Some k) = k
number_or_one None = pos 1

-- a number that the rules take for a divisor
abbrev pub divisor : List Constant → NumberTree → ℤ
divisor cs (number_lit k) = k
divisor cs (number_name p x) = number_or_one (constant_of cs x)

abbrev pub operated : Place → BinOp → ℤ → ℤ → Result ℤ TypeFault
operated p Add a b = met p (a +ℤ b)
operated p Sub a b = met p (a -ℤ b)
operated p Mul a b = met p (a *ℤ b)
operated p And a b = Err (NotConstant p)
operated p Or a b = Err (NotConstant p)
operated p Union a b = Err (NotConstant p)
operated p Inter a b = Err (NotConstant p)
operated p Diff a b = Err (NotConstant p)
operated p Subset a b = Err (NotConstant p)
operated p Implies a b = Err (NotConstant p)
operated p (Compare order) a b = Err (NotConstant p)

abbrev pub least_of : ℤ → List ℤ → ℤ
least_of a [] = a
least_of a (b ∷ bs) = least_of (if int_lt b a then b else a) bs

abbrev pub greatest_of : ℤ → List ℤ → ℤ
greatest_of a [] = a
greatest_of a (b ∷ bs) = greatest_of (if int_lt a b then b else a) bs

abbrev pub of_several : (ℤ → List ℤ → ℤ) → List ℤ → ℤ
of_several pick [] = pos 0
of_several pick (a ∷ more) = pick a more

abbrev mutual
  -- The value of an expression without variables, parts first: numbers, the constants before, `+`, `-`, `*`, `div`, `mod`, `abs`, `min` and `max` of these.
  -- Any other form is not constant, behind its parts; and no number on the way passes the limit.
  pub value : List Constant → RawTree → Result ℤ TypeFault
  value cs (raw_lit p k) = Ok k
  value cs (raw_truth p t) = Err (NotConstant p)
  value cs (raw_name p x) = named p (constant_of cs x)
  value cs (raw_set_of p es) = values cs [] es >>= λ vs. Err (NotConstant p)
  value cs (raw_group p a) = value cs a
  value cs (raw_tuple p es) = values cs [] es >>= λ vs. Err (NotConstant p)
  value cs (raw_neg p a) = value cs a >>= λ v. Ok (neg_ℤ v)
  value cs (raw_not p a) = value cs a >>= λ v. Err (NotConstant p)
  value cs (raw_abs p a) = value cs a >>= λ v. Ok (absolute v)
  value cs (raw_binary p op a b) = value cs a >>= λ v. value cs b >>= operated p op v
  value cs (raw_chain p orders places es) = values cs [] es >>= λ vs. Err (NotConstant p)
  value cs (raw_min p es) = values cs [] es >>= λ vs. Ok (of_several least_of vs)
  value cs (raw_max p es) = values cs [] es >>= λ vs. Ok (of_several greatest_of vs)
  value cs (raw_divides p k a) = value cs a >>= λ v. Err (NotConstant p)
  value cs (raw_div p a k) = value cs a >>= λ v. Ok (quotient v (divisor cs k))
  value cs (raw_mod p a k) = value cs a >>= λ v. Ok (remainder v (divisor cs k))
  value cs (raw_card p a) = value cs a >>= λ v. Err (NotConstant p)
  value cs (raw_call p x es) = values cs [] es >>= λ vs. Err (NotConstant p)
  value cs (raw_if p t a b) = value cs t >>= λ u. value cs a >>= λ v. value cs b >>= λ w. Err (NotConstant p)
  value cs (raw_let p xs places a b) = value cs a >>= λ v. value cs b >>= λ w. Err (NotConstant p)
  value cs (raw_choose p outputs hidden given rel aim) =
      value_given cs given >>= λ u. value cs rel >>= λ v. value_aim cs aim >>= λ w. Err (NotConstant p)
  value cs (raw_match p a arms) = value cs a >>= λ v. value_arms cs arms >>= λ w. Err (NotConstant p)

  -- behind the values before
  pub values : List Constant → List ℤ → RawTrees → Result (List ℤ) TypeFault
  values cs before no_raws = Ok before
  values cs before (raw_more e es) = value cs e >>= λ v. values cs (before ++ v ∷ []) es

  pub value_given : List Constant → GivenTree → Result ℤ TypeFault
  value_given cs no_given = Ok (pos 0)
  value_given cs (given_that p a) = value cs a

  pub value_aim : List Constant → AimTree → Result ℤ TypeFault
  value_aim cs no_aim = Ok (pos 0)
  value_aim cs (aim_at p sense a) = value cs a

  pub value_arms : List Constant → RawArmTrees → Result ℤ TypeFault
  value_arms cs no_raw_arms = Ok (pos 0)
  value_arms cs (raw_arm_more (raw_arm parts k body) arms) = value cs body >>= λ v. value_arms cs arms
