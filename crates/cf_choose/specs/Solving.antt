-- A choose whose cases are eliminated, before its arms are made.
use Rattle.std.specs.Prelude.{◌≡◌, false, true, None, List, ◌++◌, map, All}
use Rattle.cf_tree.specs.declared.base.Base.{Base}
use Rattle.cf_tree.specs.Relation.{IsTyped, IsLinear}
use Rattle.cf_tree.specs.RelTree.{RelTree}
use Rattle.cf_linear.specs.Cases.{negation_normal, first_systems, written_passes}
use Rattle.cf_linear.specs.Layout.{layout_of}
use Rattle.cf_linear.specs.Views.{plain_layout}
use Rattle.cf_choose.specs.declared.solving.Eliminated.{Eliminated}
use Rattle.cf_choose.specs.Eliminations.{case_refusal, first_of}
use Rattle.cf_choose.specs.Solved.{IsOutput}

-- a typed and linear relation within the limits of counts and rows, with its layout and its cases
pub record IsEliminatedBy (scope outputs : List Base) (rel : RelTree) (of : Eliminated) : Type 0 where
  pub typed : IsTyped (scope ++ outputs) rel
  pub linear : IsLinear rel
  pub are_outputs : All IsOutput outputs
  pub layout_is : plain_layout of.layout ≡ layout_of scope outputs rel
  pub counts : case_refusal (plain_layout of.layout) rel ≡ None
  pub written : written_passes (plain_layout of.layout) (negation_normal true rel) ≡ false
  pub firsts : map first_of of.cases.items ≡ first_systems (plain_layout of.layout) rel
