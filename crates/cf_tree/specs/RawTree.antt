-- Plain trees of source expressions as they are read.
use Rattle.std.specs.Prelude.{ℕ, ℤ, ◌+◌, max, Bool, List, [], ◌∷◌, Option}
use Rattle.cf_tree.specs.declared.base.Order.{Order}
use Rattle.cf_tree.specs.declared.base.Place.{Place}
use Rattle.cf_tree.specs.declared.base.Sense.{Sense}
use Rattle.cf_tree.specs.declared.raw.BinOp.{BinOp}
use Rattle.cf_tree.specs.declared.raw.Param.{Param}

-- the number of a `div`, `mod` or `divides`, or the factor of a part of a pattern: a literal, or the name of a constant
pub data NumberTree : Type 0 where
  number_lit : ℤ → NumberTree
  number_name : Place → List ℕ → NumberTree

-- a part of a pattern: the place of its first token, its sign, its factor where one is written, and the place and the name behind these
pub record PartTree : Type 0 where
  pub start : Place
  pub is_negative : Bool
  pub factor : Option NumberTree
  pub place : Place
  pub name : List ℕ

mutual
  pub data RawTree : Type 0 where
    raw_lit : Place → ℤ → RawTree
    raw_truth : Place → Bool → RawTree
    raw_name : Place → List ℕ → RawTree
    raw_set_of : Place → RawTrees → RawTree
    raw_group : Place → RawTree → RawTree
    raw_tuple : Place → RawTrees → RawTree
    raw_neg : Place → RawTree → RawTree
    raw_not : Place → RawTree → RawTree
    raw_abs : Place → RawTree → RawTree
    raw_binary : Place → BinOp → RawTree → RawTree → RawTree
    -- the orders between the parts, and the place of each order
    raw_chain : Place → List Order → List Place → RawTrees → RawTree
    raw_min : Place → RawTrees → RawTree
    raw_max : Place → RawTrees → RawTree
    raw_divides : Place → NumberTree → RawTree → RawTree
    raw_div : Place → RawTree → NumberTree → RawTree
    raw_mod : Place → RawTree → NumberTree → RawTree
    raw_card : Place → RawTree → RawTree
    raw_call : Place → List ℕ → RawTrees → RawTree
    raw_if : Place → RawTree → RawTree → RawTree → RawTree
    raw_let : Place → List (List ℕ) → List Place → RawTree → RawTree → RawTree
    -- the outputs, the hidden ones, what is given, the relation, and what is aimed at
    raw_choose : Place → List Param → List Param → GivenTree → RawTree → AimTree → RawTree
    raw_match : Place → RawTree → RawArmTrees → RawTree

  pub data RawTrees : Type 0 where
    no_raws : RawTrees
    raw_more : RawTree → RawTrees → RawTrees

  -- the parts and the constant of the pattern, and the body
  pub data RawArmTree : Type 0 where
    raw_arm : List PartTree → ℤ → RawTree → RawArmTree

  pub data RawArmTrees : Type 0 where
    no_raw_arms : RawArmTrees
    raw_arm_more : RawArmTree → RawArmTrees → RawArmTrees

  -- the place of the word `given`
  pub data GivenTree : Type 0 where
    no_given : GivenTree
    given_that : Place → RawTree → GivenTree

  -- the place of the word `minimise` or `maximise`
  pub data AimTree : Type 0 where
    no_aim : AimTree
    aim_at : Place → Sense → RawTree → AimTree

abbrev pub raws_of : List RawTree → RawTrees
raws_of [] = no_raws
raws_of (e ∷ es) = raw_more e (raws_of es)

abbrev pub raw_arms_of : List RawArmTree → RawArmTrees
raw_arms_of [] = no_raw_arms
raw_arms_of (a ∷ arms) = raw_arm_more a (raw_arms_of arms)

-- the place of an expression
abbrev pub place_of : RawTree → Place
place_of (raw_lit p k) = p
place_of (raw_truth p t) = p
place_of (raw_name p x) = p
place_of (raw_set_of p es) = p
place_of (raw_group p a) = p
place_of (raw_tuple p es) = p
place_of (raw_neg p a) = p
place_of (raw_not p a) = p
place_of (raw_abs p a) = p
place_of (raw_binary p op a b) = p
place_of (raw_chain p orders qs es) = p
place_of (raw_min p es) = p
place_of (raw_max p es) = p
place_of (raw_divides p k a) = p
place_of (raw_div p a k) = p
place_of (raw_mod p a k) = p
place_of (raw_card p a) = p
place_of (raw_call p x es) = p
place_of (raw_if p a b c) = p
place_of (raw_let p xs qs a b) = p
place_of (raw_choose p ps hs g a aim) = p
place_of (raw_match p a arms) = p

-- how many nodes an expression has; the pattern of an arm is one
abbrev mutual
  pub raw_size : RawTree → ℕ
  raw_size (raw_lit p k) = 1
  raw_size (raw_truth p t) = 1
  raw_size (raw_name p x) = 1
  raw_size (raw_set_of p es) = 1 + raws_size es
  raw_size (raw_group p a) = 1 + raw_size a
  raw_size (raw_tuple p es) = 1 + raws_size es
  raw_size (raw_neg p a) = 1 + raw_size a
  raw_size (raw_not p a) = 1 + raw_size a
  raw_size (raw_abs p a) = 1 + raw_size a
  raw_size (raw_binary p op a b) = 1 + raw_size a + raw_size b
  raw_size (raw_chain p orders qs es) = 1 + raws_size es
  raw_size (raw_min p es) = 1 + raws_size es
  raw_size (raw_max p es) = 1 + raws_size es
  raw_size (raw_divides p k a) = 1 + raw_size a
  raw_size (raw_div p a k) = 1 + raw_size a
  raw_size (raw_mod p a k) = 1 + raw_size a
  raw_size (raw_card p a) = 1 + raw_size a
  raw_size (raw_call p x es) = 1 + raws_size es
  raw_size (raw_if p a b c) = 1 + raw_size a + raw_size b + raw_size c
  raw_size (raw_let p xs qs a b) = 1 + raw_size a + raw_size b
  raw_size (raw_choose p ps hs g a aim) = 1 + given_size g + raw_size a + aim_size aim
  raw_size (raw_match p a arms) = 1 + raw_size a + raw_arms_size arms

  pub raws_size : RawTrees → ℕ
  raws_size no_raws = 0
  raws_size (raw_more e es) = raw_size e + raws_size es

  pub raw_arm_size : RawArmTree → ℕ
  raw_arm_size (raw_arm parts k body) = 1 + raw_size body

  pub raw_arms_size : RawArmTrees → ℕ
  raw_arms_size no_raw_arms = 0
  raw_arms_size (raw_arm_more a arms) = raw_arm_size a + raw_arms_size arms

  pub given_size : GivenTree → ℕ
  given_size no_given = 0
  given_size (given_that p a) = raw_size a

  pub aim_size : AimTree → ℕ
  aim_size no_aim = 0
  aim_size (aim_at p sense a) = raw_size a

-- 1 for a leaf, and 1 more than the deepest part for any other expression; the pattern of an arm is a leaf
abbrev mutual
  pub raw_depth : RawTree → ℕ
  raw_depth (raw_lit p k) = 1
  raw_depth (raw_truth p t) = 1
  raw_depth (raw_name p x) = 1
  raw_depth (raw_set_of p es) = 1 + raws_depth es
  raw_depth (raw_group p a) = 1 + raw_depth a
  raw_depth (raw_tuple p es) = 1 + raws_depth es
  raw_depth (raw_neg p a) = 1 + raw_depth a
  raw_depth (raw_not p a) = 1 + raw_depth a
  raw_depth (raw_abs p a) = 1 + raw_depth a
  raw_depth (raw_binary p op a b) = 1 + max (raw_depth a) (raw_depth b)
  raw_depth (raw_chain p orders qs es) = 1 + raws_depth es
  raw_depth (raw_min p es) = 1 + raws_depth es
  raw_depth (raw_max p es) = 1 + raws_depth es
  raw_depth (raw_divides p k a) = 1 + raw_depth a
  raw_depth (raw_div p a k) = 1 + raw_depth a
  raw_depth (raw_mod p a k) = 1 + raw_depth a
  raw_depth (raw_card p a) = 1 + raw_depth a
  raw_depth (raw_call p x es) = 1 + raws_depth es
  raw_depth (raw_if p a b c) = 1 + max (raw_depth a) (max (raw_depth b) (raw_depth c))
  raw_depth (raw_let p xs qs a b) = 1 + max (raw_depth a) (raw_depth b)
  raw_depth (raw_choose p ps hs g a aim) = 1 + max (given_depth g) (max (raw_depth a) (aim_depth aim))
  raw_depth (raw_match p a arms) = 1 + max (raw_depth a) (raw_arms_depth arms)

  pub raws_depth : RawTrees → ℕ
  raws_depth no_raws = 0
  raws_depth (raw_more e es) = max (raw_depth e) (raws_depth es)

  pub raw_arm_depth : RawArmTree → ℕ
  raw_arm_depth (raw_arm parts k body) = max 1 (raw_depth body)

  pub raw_arms_depth : RawArmTrees → ℕ
  raw_arms_depth no_raw_arms = 0
  raw_arms_depth (raw_arm_more a arms) = max (raw_arm_depth a) (raw_arms_depth arms)

  pub given_depth : GivenTree → ℕ
  given_depth no_given = 0
  given_depth (given_that p a) = raw_depth a

  pub aim_depth : AimTree → ℕ
  aim_depth no_aim = 0
  aim_depth (aim_at p sense a) = raw_depth a
