-- What a sample at which a cover's output is missing is.
use Rattle.std.proofs.Common.{◌≡◌, ℤ, List, [], ◌∷◌, map, refl, subst}
use Rattle.cf_tree.specs.declared.base.Base.TheVariants.{Int}
use Rattle.cf_tree.specs.Typing.{one}
use Rattle.cf_tree.specs.Values.{HaveBases}
use Rattle.cf_eval.specs.declared.value.Value.{Value as RunValue}
use Rattle.cf_eval.specs.declared.value.Value.TheVariants as value
use Rattle.cf_eval.specs.Seen.{plains}
use Rattle.cf_match.specs.declared.class.Class.{Class}
use Rattle.cf_warn.specs.Classes.{AreClasses, covered}
use Rattle.cf_warn.specs.Questions.{base_at}
use Rattle.cf_warn.specs.Solutions.{AreMissing}
use Rattle.cf_warn.proofs.ClassLaws.{one_parameter}

one_value : (vs : List RunValue) → HaveBases (one Int) (plains vs) → (z : ℤ) × (vs ≡ value.Int z ∷ [])
one_value [] h = absurd h
one_value (value.Int z ∷ []) h = (z, refl)
one_value (value.Truth b ∷ []) h = absurd (cc (h.0.1))
one_value (value.Elements zs ∷ []) h = absurd (cc (h.0.1))
one_value (v ∷ w ∷ vs) h = absurd h.1

-- the sample is one number
pub sample_number : (cs : List Class) → AreClasses cs → (vs : List RunValue) → AreMissing (one Int) (one Int) (covered cs) (plains vs) →
    (z : ℤ) × (vs ≡ value.Int z ∷ [])
sample_number cs are vs missing = one_value vs (subst (λ ps. HaveBases (map (base_at (one Int)) ps) (plains vs)) (one_parameter cs are) missing.bases)
