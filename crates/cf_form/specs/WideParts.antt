-- Wide forms whose parts are given, in the order in which they stand.
use Rattle.std.specs.Prelude.{◌≡◌}
use Rattle.cf_form.specs.Wide.{WideTerm, wide_neg, wide_add, wide_sub, wide_mul, wide_div, wide_mod, wide_abs, WideSet, wide_union, wide_inter, wide_diff, WideRel, wide_same_set, wide_other_set, wide_subset, wide_and, wide_or, wide_implies, wide_same, wide_other}

-- an operation of two set forms
abbrev pub IsSetOverTwo : WideSet → WideSet → WideSet → Type 0
IsSetOverTwo (wide_union a b) c d = (c ≡ a) × (d ≡ b)
IsSetOverTwo (wide_inter a b) c d = (c ≡ a) × (d ≡ b)
IsSetOverTwo (wide_diff a b) c d = (c ≡ a) × (d ≡ b)
IsSetOverTwo _ c d = ⊥

-- a number form with one part that is a number form
abbrev pub IsTermOverOne : WideTerm → WideTerm → Type 0
IsTermOverOne (wide_neg a) c = c ≡ a
IsTermOverOne (wide_div a k) c = c ≡ a
IsTermOverOne (wide_mod a k) c = c ≡ a
IsTermOverOne (wide_abs a) c = c ≡ a
IsTermOverOne _ c = ⊥

-- a number form with two parts
abbrev pub IsTermOverTwo : WideTerm → WideTerm → WideTerm → Type 0
IsTermOverTwo (wide_add a b) c d = (c ≡ a) × (d ≡ b)
IsTermOverTwo (wide_sub a b) c d = (c ≡ a) × (d ≡ b)
IsTermOverTwo (wide_mul a b) c d = (c ≡ a) × (d ≡ b)
IsTermOverTwo _ c d = ⊥

-- a relation of two set forms
abbrev pub IsRelOverSets : WideRel → WideSet → WideSet → Type 0
IsRelOverSets (wide_same_set a b) c d = (c ≡ a) × (d ≡ b)
IsRelOverSets (wide_other_set a b) c d = (c ≡ a) × (d ≡ b)
IsRelOverSets (wide_subset a b) c d = (c ≡ a) × (d ≡ b)
IsRelOverSets _ c d = ⊥

-- a relation of two relations
abbrev pub IsRelOverTwo : WideRel → WideRel → WideRel → Type 0
IsRelOverTwo (wide_and a b) c d = (c ≡ a) × (d ≡ b)
IsRelOverTwo (wide_or a b) c d = (c ≡ a) × (d ≡ b)
IsRelOverTwo (wide_implies a b) c d = (c ≡ a) × (d ≡ b)
IsRelOverTwo (wide_same a b) c d = (c ≡ a) × (d ≡ b)
IsRelOverTwo (wide_other a b) c d = (c ≡ a) × (d ≡ b)
IsRelOverTwo _ c d = ⊥
