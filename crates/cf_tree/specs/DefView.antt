-- The plain forms of functions, of source programs, of targets and of preconditions.
use Rattle.std.specs.Prelude.{ℕ, ◌+◌, max, List, [], ◌∷◌, map}
use Rattle.cf_tree.specs.declared.base.Base.{Base}
use Rattle.cf_tree.specs.declared.base.Place.{Place}
use Rattle.cf_tree.specs.declared.raw.Param.{Param}
use Rattle.cf_tree.specs.declared.raw.RawDef.{RawDef}
use Rattle.cf_tree.specs.declared.raw.RawItem.{RawItem}
use Rattle.cf_tree.specs.declared.raw.RawItem.TheVariants.{Const, Def as Function}
use Rattle.cf_tree.specs.declared.raw.Program.{Program}
use Rattle.cf_tree.specs.declared.expr.Def.{Def}
use Rattle.cf_tree.specs.declared.target.RawTarget.{RawTarget}
use Rattle.cf_tree.specs.declared.target.Pre.{Pre}
use Rattle.cf_tree.specs.CodeTree.{CodeTree, ArmTrees}
use Rattle.cf_tree.specs.CodeView.{code_tree, arm_trees}
use Rattle.cf_tree.specs.ExprTree.{ExprTree}
use Rattle.cf_tree.specs.ExprView.{expr_tree}
use Rattle.cf_tree.specs.RawTree.{RawTree, raw_size, raw_depth}
use Rattle.cf_tree.specs.RawView.{raw_tree}

pub record RawDefTree : Type 0 where
  pub place : Place
  pub name : List ℕ
  pub params : List Param
  pub results : List Base
  pub body : RawTree

abbrev pub raw_def_tree : RawDef → RawDefTree
raw_def_tree d = record { place = d.place; name = d.name; params = d.params.items; results = d.results.items; body = raw_tree d.body }

-- a declaration: the place of the name of a constant, its name and its expression; or a function
pub data RawItemTree : Type 0 where
  item_const : Place → List ℕ → RawTree → RawItemTree
  item_def : RawDefTree → RawItemTree

abbrev pub raw_item_tree : RawItem → RawItemTree
raw_item_tree (Const c) = item_const c.place c.name (raw_tree c.value)
raw_item_tree (Function d) = item_def (raw_def_tree d)

-- the declarations of a program, in the order of its text
abbrev pub program_tree : Program → List RawItemTree
program_tree p = map raw_item_tree p.items.items

-- the size and the depth of the expression of a constant, or of the body of a function
abbrev pub raw_item_size : RawItemTree → ℕ
raw_item_size (item_const p x a) = raw_size a
raw_item_size (item_def d) = raw_size d.body

abbrev pub raw_item_depth : RawItemTree → ℕ
raw_item_depth (item_const p x a) = raw_depth a
raw_item_depth (item_def d) = raw_depth d.body

-- the sum of the sizes
abbrev pub program_size : List RawItemTree → ℕ
program_size [] = 0
program_size (item ∷ items) = raw_item_size item + program_size items

-- the greatest of the depths
abbrev pub program_depth : List RawItemTree → ℕ
program_depth [] = 0
program_depth (item ∷ items) = max (raw_item_depth item) (program_depth items)

pub record DefTree : Type 0 where
  pub name : List ℕ
  pub params : List Param
  pub results : List Base
  pub body : ExprTree

abbrev pub def_tree : Def → DefTree
def_tree d = record { name = d.name; params = d.params.items; results = d.results.items; body = expr_tree d.body }

pub record TargetTree : Type 0 where
  pub params : List Base
  pub results : List Base
  pub code : CodeTree

abbrev pub target_tree : RawTarget → TargetTree
target_tree t = record { params = t.params.items; results = t.results.items; code = code_tree t.code }

abbrev pub pre_tree : Pre → ArmTrees
pre_tree p = arm_trees p.arms.items
