-- What ordinary operations come to.
use Rattle.std.proofs.Common.{◌≡◌, [], ◌∷◌, refl, arith}
use Rattle.std.specs.Prelude.{Bool, true, false, nat_le, unsigned_abs, if◌then◌else◌}
use Rattle.std.proofs.lemmas.Bool.{leb-false}
use Rattle.cf_num.specs.Limit.{limit, IsWithin}
use Rattle.cf_tree.specs.Values.{Value, number, truth, elements, number_of}
use Rattle.cf_late.specs.ChooseRun.{gives, overflow}
use Rattle.cf_late.specs.LateRun.{ordinary}

-- a value whose number is within the limit
pub ordinary_fit : (v : Value) → IsWithin (number_of v) → ordinary v ≡ gives (v ∷ [])
ordinary_fit (number z) h = by (nat_le (unsigned_abs z) limit) refl
  where
    by : (b : Bool) → nat_le (unsigned_abs z) limit ≡ b → (if b then gives (number z ∷ []) else overflow) ≡ gives (number z ∷ [])
    by true e = refl
    by false e = absurd (let l = leb-false (unsigned_abs z) limit e in omega arith)
ordinary_fit (truth b) h = refl
ordinary_fit (elements zs) h = refl
