-- Whether classes of numbers hold every number.
use Rattle.std.specs.Prelude.{ℤ, ◌≡◌, ◌⊎◌, List, [], ◌∷◌, All, Any, Some, None, Vec}
use Rattle.std.specs.Global.{Global}
use Rattle.cf_tree.specs.declared.base.Base.TheVariants.{Int}
use Rattle.cf_tree.specs.Typing.{one}
use Rattle.cf_linear.specs.declared.refusal.Refusal.{Refusal}
use Rattle.cf_linear.specs.Chooses.{limit}
use Rattle.cf_match.specs.declared.class.Class.{Class}
use Rattle.cf_match.specs.Classes.{IsIn}
use Rattle.cf_eval.specs.declared.value.Value.{Value}
use Rattle.cf_eval.specs.declared.value.Value.TheVariants as value
use Rattle.cf_warn.specs.Classes.{covered}
use Rattle.cf_warn.specs.declared.answer.Doubt.TheVariants.{Refused}
use Rattle.cf_warn.specs.declared.answer.ExistenceAnswer.{ExistenceAnswer}
use Rattle.cf_warn.specs.declared.answer.ExistenceAnswer.TheVariants as exists
use Rattle.cf_warn.specs.declared.coverage.Cover.{Cover}
use Rattle.cf_warn.specs.declared.coverage.Cover.TheVariants as cover
use Rattle.cf_warn.specs.Verdicts.{IsExistence}

-- no limit refuses the question, and this is the verdict whether its output always exists
abbrev pub IsCovered : List Class → ExistenceAnswer → Type 0
IsCovered classes answer = (limit (one Int) (one Int) (covered classes) ≡ None) × IsExistence (one Int) (one Int) (covered classes) answer

-- every number is in a class; none holds this number; or the question is refused or in doubt
abbrev pub IsCover : List Class → Cover → Type 0
IsCover classes cover.All = IsCovered classes exists.Always × ((z : ℤ) → Any (λ c. IsIn c z) classes)
IsCover classes (cover.Misses z) =
    ((sample : Vec Value Global) × (sample.items ≡ value.Int z ∷ []) × IsCovered classes (exists.Missing sample))
    × All (λ c. IsIn c z → ⊥) classes
IsCover classes (cover.Undecided d) =
    ((r : Refusal) × (d ≡ Refused r) × (limit (one Int) (one Int) (covered classes) ≡ Some r))
    ⊎ IsCovered classes (exists.Undecided d)
