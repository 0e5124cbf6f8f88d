-- What the parts of an arm stand for while they are made.
use Rattle.std.specs.Prelude.{◌≡◌, ℕ, ◌+◌, ◌<◌, ◌≤◌, true, false, List, [], ◌∷◌, ◌++◌, map, length, if◌then◌else◌}
use Rattle.cf_tree.specs.CodeTree.{CodeTree, ItemTree, code_var, let_item, codes_of, items_of, arm_of}
use Rattle.cf_tree.specs.CodeView.{item_tree}
use Rattle.cf_linear.specs.declared.system.Step.{Step as DeclaredStep}
use Rattle.cf_linear.specs.declared.system.Back.{Back}
use Rattle.cf_linear.specs.declared.system.Search.{Search}
use Rattle.cf_linear.specs.Arm.{ColumnLevels, level_of, ArmBuilder, begun, arm, set_code}
use Rattle.cf_linear.specs.Layout.{Layout, place, has_level, number_column}
use Rattle.cf_linear.specs.Systems.{System, Answer, Step, floor_of, need_nonneg, need_zero, need_divides, How}
use Rattle.cf_linear.specs.Rows.{IsRow}
use Rattle.cf_linear.specs.Views.{step_of, back_of, bound_of}
use Rattle.cf_setwit.specs.Sources.{level_from}
use Rattle.cf_choose.specs.Fitting.{Fits, HowFits}
use Rattle.cf_choose.specs.declared.arm_builder.ArmBuilder.{ArmBuilder as DeclaredArmBuilder}

-- the same levels of columns
abbrev pub SameColumnLevels : ColumnLevels → ColumnLevels → Type 0
SameColumnLevels names ns = (c : ℕ) → level_of names c ≡ level_of ns c

abbrev pub builder_of : DeclaredArmBuilder → ArmBuilder
builder_of b = record { level = b.level; names = b.names; items = map item_tree b.items.items }

-- a let that is no column's
abbrev pub let_alone : ArmBuilder → CodeTree → ArmBuilder
let_alone k code = record { level = k.level + 1; names = k.names; items = k.items ++ (let_item code ∷ []) }

-- the same level, the same items, and the same levels of columns
pub record SameBuilder (j k : ArmBuilder) : Type 0 where
  pub level : j.level ≡ k.level
  pub names : SameColumnLevels j.names k.names
  pub items : j.items ≡ k.items

abbrev pub no_system : System
no_system = record { known = []; unknown = []; next = 0; equations = []; inequalities = []; needs = 0 }

-- all that an elimination makes, but for the last system
abbrev pub answer_of : List Search → List DeclaredStep → List Back → Answer
answer_of bounds steps back = record { system = no_system; steps = map step_of steps; back = map back_of back; bounds = map bound_of bounds }

-- of the arm that began with some searches: all its items, and its outputs
abbrev pub IsBuilt : Layout → List DeclaredStep → List Back → ArmBuilder → List ItemTree → List CodeTree → Type 0
IsBuilt l steps back begins items gives = (bounds : List Search) → SameBuilder begins (begun l (map bound_of bounds)) →
    begins.level ≡ l.scope + length bounds →
    arm_of (map (λ s. s.bound) bounds) (items_of items) (codes_of gives) ≡ arm l (answer_of bounds steps back)

-- ---- outputs
-- each level of an output is that of a number or of a set, and not of both
pub record HasOutputs (l : Layout) : Type 0 where
  pub sets : (x : ℕ) → place x l.out_sets < length l.out_sets → has_level l.out_numbers x ≡ false
  pub numbers : (x : ℕ) → l.scope ≤ x → x < l.scope + (length l.out_numbers + length l.out_sets) → length l.out_sets ≤ place x l.out_sets →
      has_level l.out_numbers x ≡ true

-- the output with level x, where the regions have the levels from `first` on and the fresh numbers have the level `fresh`
abbrev pub output_code : Layout → ColumnLevels → ℕ → ℕ → ℕ → CodeTree
output_code l names first fresh x =
    (if has_level l.out_numbers x then code_var (level_of names (number_column l x))
    else set_code l names (level_from first) fresh (place x l.out_sets))

-- ---- rows of the program, and numbers of it
abbrev pub BackFits : List (ℕ × How) → Type 0
BackFits [] = Unit {0}
BackFits ((x, w) ∷ ws) = HowFits w × BackFits ws

abbrev pub StepFits : Step → Type 0
StepFits (floor_of c r g) = Fits r g
StepFits (need_nonneg r) = IsRow r
StepFits (need_zero r) = IsRow r
StepFits (need_divides g r) = Fits r g

abbrev pub StepsFit : List Step → Type 0
StepsFit [] = Unit {0}
StepsFit (m ∷ ms) = StepFits m × StepsFit ms
