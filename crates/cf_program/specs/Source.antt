-- Which sources the grammar of an edition spells, as far as it is a fact about forms, numbers and the lengths of lists.
use Rattle.std.specs.Prelude.{ℕ, suc, ◌≤◌, ◌≡◌, List, [], ◌∷◌, length, Option, Some, None, All}
use Rattle.cf_num.specs.Limit.{IsWithin}
use Rattle.cf_tree.specs.declared.base.Edition.{Edition}
use Rattle.cf_tree.specs.declared.base.Edition.TheVariants.{Two, Three}
use Rattle.cf_tree.specs.declared.base.Order.{Order}
use Rattle.cf_tree.specs.declared.base.Place.{Place}
use Rattle.cf_tree.specs.declared.raw.BinOp.{BinOp}
use Rattle.cf_tree.specs.declared.raw.BinOp.TheVariants.{Implies}
use Rattle.cf_tree.specs.declared.raw.Param.{Param}
use Rattle.cf_tree.specs.DefView.{RawDefTree, RawItemTree, item_const, item_def}
use Rattle.cf_tree.specs.RawTree.{RawTree, raw_lit, raw_truth, raw_name, raw_set_of, raw_group, raw_tuple, raw_neg, raw_not, raw_abs, raw_binary, raw_divides, raw_div, raw_mod, raw_card, raw_call, raw_if, raw_let, raw_choose, raw_chain, raw_min, raw_max, raw_match, GivenTree, no_given, given_that, AimTree, no_aim, aim_at, PartTree, NumberTree, number_lit, number_name, RawTrees, no_raws, raw_more, raw_arm, RawArmTrees, no_raw_arms, raw_arm_more}
use Rattle.cf_tree.specs.Relation.{IsDivisor}

-- two or more
abbrev pub AreSeveral : RawTrees → Type 0
AreSeveral no_raws = ⊥
AreSeveral (raw_more e no_raws) = ⊥
AreSeveral (raw_more e (raw_more f es)) = Unit {0}

abbrev pub AreArms : RawArmTrees → Type 0
AreArms no_raw_arms = ⊥
AreArms (raw_arm_more arm arms) = Unit {0}

-- what edition 3 alone has
abbrev pub IsThree : Edition → Type 0
IsThree Two = ⊥
IsThree Three = Unit {0}

-- a literal of at least 1, or the name of a constant
abbrev pub IsSpelledDivisor : Edition → NumberTree → Type 0
IsSpelledDivisor edition (number_lit k) = IsDivisor k
IsSpelledDivisor edition (number_name p x) = IsThree edition

-- a literal, or the name of a constant
abbrev pub IsSpelledFactor : Edition → Option NumberTree → Type 0
IsSpelledFactor edition None = Unit {0}
IsSpelledFactor edition (Some (number_lit k)) = IsWithin k
IsSpelledFactor edition (Some (number_name p x)) = IsThree edition

abbrev pub IsSpelledPart : Edition → PartTree → Type 0
IsSpelledPart edition x = IsSpelledFactor edition x.factor

abbrev pub IsSpelledOp : Edition → BinOp → Type 0
IsSpelledOp edition Implies = IsThree edition
IsSpelledOp edition op = Unit {0}

abbrev pub AreSpelledHidden : Edition → List Param → Type 0
AreSpelledHidden edition [] = Unit {0}
AreSpelledHidden edition (o ∷ os) = IsThree edition

abbrev pub count_of_raws : RawTrees → ℕ
count_of_raws no_raws = 0
count_of_raws (raw_more e es) = suc (count_of_raws es)

-- three parts or more, with an order and its place between two
abbrev pub AreLinks : List Order → List Place → RawTrees → Type 0
AreLinks orders places es = (2 ≤ length orders) × (length places ≡ length orders) × (count_of_raws es ≡ suc (length orders))

abbrev mutual
  pub IsSpelledRaw : Edition → RawTree → Type 0
  IsSpelledRaw edition (raw_lit p k) = IsWithin k
  IsSpelledRaw edition (raw_truth p t) = Unit {0}
  IsSpelledRaw edition (raw_name p x) = Unit {0}
  IsSpelledRaw edition (raw_set_of p es) = AreSpelledRaws edition es
  IsSpelledRaw edition (raw_group p a) = IsSpelledRaw edition a
  IsSpelledRaw edition (raw_tuple p es) = AreSeveral es × AreSpelledRaws edition es
  IsSpelledRaw edition (raw_neg p a) = IsSpelledRaw edition a
  IsSpelledRaw edition (raw_not p a) = IsSpelledRaw edition a
  IsSpelledRaw edition (raw_abs p a) = IsSpelledRaw edition a
  IsSpelledRaw edition (raw_binary p op a b) = IsSpelledOp edition op × IsSpelledRaw edition a × IsSpelledRaw edition b
  IsSpelledRaw edition (raw_chain p orders places es) = IsThree edition × AreLinks orders places es × AreSpelledRaws edition es
  IsSpelledRaw edition (raw_min p es) = IsThree edition × AreSeveral es × AreSpelledRaws edition es
  IsSpelledRaw edition (raw_max p es) = IsThree edition × AreSeveral es × AreSpelledRaws edition es
  IsSpelledRaw edition (raw_divides p k a) = IsSpelledDivisor edition k × IsSpelledRaw edition a
  IsSpelledRaw edition (raw_div p a k) = IsSpelledDivisor edition k × IsSpelledRaw edition a
  IsSpelledRaw edition (raw_mod p a k) = IsSpelledDivisor edition k × IsSpelledRaw edition a
  IsSpelledRaw edition (raw_card p a) = IsSpelledRaw edition a
  IsSpelledRaw edition (raw_call p x es) = AreSpelledRaws edition es
  IsSpelledRaw edition (raw_if p t a b) = IsSpelledRaw edition t × IsSpelledRaw edition a × IsSpelledRaw edition b
  IsSpelledRaw edition (raw_let p xs places a b) = (1 ≤ length xs) × (length places ≡ length xs) × IsSpelledRaw edition a × IsSpelledRaw edition b
  IsSpelledRaw edition (raw_choose p outputs hidden given r aim) =
      (1 ≤ length outputs) × AreSpelledHidden edition hidden × IsSpelledGiven edition given × IsSpelledRaw edition r × IsSpelledAim edition aim
  IsSpelledRaw edition (raw_match p a arms) = AreArms arms × IsSpelledRaw edition a × AreSpelledArms edition arms

  pub IsSpelledGiven : Edition → GivenTree → Type 0
  IsSpelledGiven edition no_given = Unit {0}
  IsSpelledGiven edition (given_that p a) = IsThree edition × IsSpelledRaw edition a

  pub IsSpelledAim : Edition → AimTree → Type 0
  IsSpelledAim edition no_aim = Unit {0}
  IsSpelledAim edition (aim_at p sense a) = IsThree edition × IsSpelledRaw edition a

  pub AreSpelledRaws : Edition → RawTrees → Type 0
  AreSpelledRaws edition no_raws = Unit {0}
  AreSpelledRaws edition (raw_more e es) = IsSpelledRaw edition e × AreSpelledRaws edition es

  pub AreSpelledArms : Edition → RawArmTrees → Type 0
  AreSpelledArms edition no_raw_arms = Unit {0}
  AreSpelledArms edition (raw_arm_more (raw_arm parts k body) arms) =
      All (IsSpelledPart edition) parts × IsWithin k × IsSpelledRaw edition body × AreSpelledArms edition arms

abbrev pub IsSpelledDef : Edition → RawDefTree → Type 0
IsSpelledDef edition d = (1 ≤ length d.results) × IsSpelledRaw edition d.body

-- a constant, or a function
abbrev pub IsSpelledItem : Edition → RawItemTree → Type 0
IsSpelledItem edition (item_const p x e) = IsThree edition × IsSpelledRaw edition e
IsSpelledItem edition (item_def d) = IsSpelledDef edition d

-- each number is within the limit, each divisor is at least 1, each list has a length of the grammar, and no form is of a later edition
abbrev pub IsSpelledProgram : Edition → List RawItemTree → Type 0
IsSpelledProgram edition items = All (IsSpelledItem edition) items
