-- What bodies and functions keep where relations are linear whatever their scope is.
use Rattle.std.specs.Prelude.{ℕ, List}
use Rattle.cf_tree.specs.declared.base.Base.{Base}
use Rattle.cf_tree.specs.DefView.{DefTree}
use Rattle.cf_tree.specs.ExprTree.{ExprTree, ExprTrees, MatchArmTrees}
use Rattle.cf_program.specs.declared.linearity.Linearity.TheVariants.{Plain}
use Rattle.cf_program.specs.LateLinear.{IsLinearBy}
use Rattle.cf_program.specs.TypedProgram.{ExprHasBasesBy, AllHaveBy, PartsHaveBy, ArmsHaveBy, IsTypedDefBy, AreTypedDefsBy}

-- the same where relations are linear whatever their scope is
abbrev pub ExprHasBases : (ℕ → List Base → List Base → Type 0) → ExprTree → List Base → List Base → Type 0
ExprHasBases = ExprHasBasesBy (IsLinearBy Plain)

abbrev pub AllHave : (ℕ → List Base → List Base → Type 0) → ExprTrees → List Base → Base → Type 0
AllHave = AllHaveBy (IsLinearBy Plain)

abbrev pub PartsHave : (ℕ → List Base → List Base → Type 0) → ExprTrees → List Base → List Base → Type 0
PartsHave = PartsHaveBy (IsLinearBy Plain)

abbrev pub ArmsHave : (ℕ → List Base → List Base → Type 0) → MatchArmTrees → List Base → List Base → Type 0
ArmsHave = ArmsHaveBy (IsLinearBy Plain)

abbrev pub IsTypedDef : List DefTree → DefTree → Type 0
IsTypedDef = IsTypedDefBy (IsLinearBy Plain)

abbrev pub AreTypedDefs : List DefTree → Type 0
AreTypedDefs = AreTypedDefsBy (IsLinearBy Plain)
