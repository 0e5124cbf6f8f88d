-- The rule that names which stand together differ: those of the functions, of the parameters of a function, of one let, of the outputs of a choose,
-- and of one pattern.
use Rattle.std.specs.Prelude.{ℕ, List, ◌++◌, map, All}
use Rattle.std.specs.List.{IsDistinct}
use Rattle.std.specs.Str.{bytes_eq}
use Rattle.cf_tree.specs.DefView.{RawDefTree}
use Rattle.cf_tree.specs.RawTree.{RawTree, raw_lit, raw_truth, raw_name, raw_set_of, raw_group, raw_tuple, raw_neg, raw_not, raw_abs, raw_binary, raw_divides, raw_div, raw_mod, raw_card, raw_call, raw_if, raw_let, raw_choose, raw_chain, raw_min, raw_max, raw_match, GivenTree, no_given, given_that, AimTree, no_aim, aim_at, RawTrees, no_raws, raw_more, raw_arm, RawArmTrees, no_raw_arms, raw_arm_more}
use Rattle.cf_tree.specs.Params.{names_of}

abbrev pub AreDistinct : List (List ℕ) → Type 0
AreDistinct names = IsDistinct bytes_eq names

-- in an expression, in expressions, and in the arms of a match
abbrev mutual
  pub HasDistinctNames : RawTree → Type 0
  HasDistinctNames (raw_lit p k) = Unit {0}
  HasDistinctNames (raw_truth p t) = Unit {0}
  HasDistinctNames (raw_name p x) = Unit {0}
  HasDistinctNames (raw_set_of p es) = HaveDistinctNames es
  HasDistinctNames (raw_group p a) = HasDistinctNames a
  HasDistinctNames (raw_tuple p es) = HaveDistinctNames es
  HasDistinctNames (raw_neg p a) = HasDistinctNames a
  HasDistinctNames (raw_not p a) = HasDistinctNames a
  HasDistinctNames (raw_abs p a) = HasDistinctNames a
  HasDistinctNames (raw_binary p op a b) = HasDistinctNames a × HasDistinctNames b
  HasDistinctNames (raw_divides p k a) = HasDistinctNames a
  HasDistinctNames (raw_div p a k) = HasDistinctNames a
  HasDistinctNames (raw_mod p a k) = HasDistinctNames a
  HasDistinctNames (raw_card p a) = HasDistinctNames a
  HasDistinctNames (raw_call p x es) = HaveDistinctNames es
  HasDistinctNames (raw_if p t a b) = HasDistinctNames t × HasDistinctNames a × HasDistinctNames b
  HasDistinctNames (raw_let p xs places a b) = AreDistinct xs × HasDistinctNames a × HasDistinctNames b
  HasDistinctNames (raw_choose p outputs hidden given r aim) =
      AreDistinct (names_of (outputs ++ hidden)) × GivenHasDistinctNames given × HasDistinctNames r × AimHasDistinctNames aim
  HasDistinctNames (raw_chain p orders places es) = HaveDistinctNames es
  HasDistinctNames (raw_min p es) = HaveDistinctNames es
  HasDistinctNames (raw_max p es) = HaveDistinctNames es
  HasDistinctNames (raw_match p a arms) = HasDistinctNames a × ArmsHaveDistinctNames arms

  pub GivenHasDistinctNames : GivenTree → Type 0
  GivenHasDistinctNames no_given = Unit {0}
  GivenHasDistinctNames (given_that p a) = HasDistinctNames a

  pub AimHasDistinctNames : AimTree → Type 0
  AimHasDistinctNames no_aim = Unit {0}
  AimHasDistinctNames (aim_at p sense a) = HasDistinctNames a

  pub HaveDistinctNames : RawTrees → Type 0
  HaveDistinctNames no_raws = Unit {0}
  HaveDistinctNames (raw_more e es) = HasDistinctNames e × HaveDistinctNames es

  pub ArmsHaveDistinctNames : RawArmTrees → Type 0
  ArmsHaveDistinctNames no_raw_arms = Unit {0}
  ArmsHaveDistinctNames (raw_arm_more (raw_arm parts k body) arms) =
      AreDistinct (map (λ x. x.name) parts) × HasDistinctNames body × ArmsHaveDistinctNames arms

-- in a program
pub record IsDistinctlyNamed (defs : List RawDefTree) : Type 0 where
  pub functions : AreDistinct (map (λ d. d.name) defs)
  pub params : All (λ d. AreDistinct (names_of d.params)) defs
  pub bodies : All (λ d. HasDistinctNames d.body) defs
