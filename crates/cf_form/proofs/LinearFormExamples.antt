-- Worked examples that hold down which wide forms are linear: a product of two outputs is refused wherever it stands.
use Rattle.std.specs.Prelude.{pos, true, false, ◌≡◌, [], ◌∷◌, refl}
use Rattle.cf_form.specs.Wide.{WideRel, WideSet, WideTerm, no_wides, wide_abs, wide_add, wide_and, wide_card, wide_chain, wide_compare, wide_diff, wide_div, wide_divides, wide_if, wide_if_set, wide_if_truth, wide_implies, wide_inter, wide_lit, wide_max, wide_min, wide_mod, wide_more, wide_mul, wide_neg, wide_not, wide_or, wide_other, wide_other_set, wide_same, wide_same_set, wide_set, wide_sub, wide_subset, wide_true, wide_union, wide_var}
use Rattle.cf_tree.specs.declared.base.Order.TheVariants.{Eq, Le, Lt}
use Rattle.cf_form.specs.LinearWide.{IsLinearWide, IsLinearWideSet, IsLinearWideTerm}

-- a number form, a set form and a relation that are linear, and with a product of two outputs
abbrev n : WideTerm
n = wide_var 0

abbrev b : WideTerm
b = wide_mul (wide_var 0) (wide_var 4)

abbrev q : WideRel
q = wide_compare Eq b n

abbrev s : WideSet
s = wide_set 2

abbrev u : WideSet
u = wide_if_set q s s

abbrev r : WideRel
r = wide_true

never : false ≡ true → ⊥
never e = let k : false ≡ true = e in absurd (cc)

terms_refused_1 : (IsLinearWideTerm 0 (wide_mul n (wide_var 4)) → ⊥) × (IsLinearWideTerm 0 (wide_neg b) → ⊥) × (IsLinearWideTerm 0 (wide_abs b) → ⊥)
    × (IsLinearWideTerm 0 (wide_div b (pos 2)) → ⊥) × (IsLinearWideTerm 0 (wide_mod b (pos 2)) → ⊥) × (IsLinearWideTerm 0 (wide_card u) → ⊥)
    × (IsLinearWideTerm 0 (wide_add b n) → ⊥) × (IsLinearWideTerm 0 (wide_add n b) → ⊥) × (IsLinearWideTerm 0 (wide_sub b n) → ⊥)
    × (IsLinearWideTerm 0 (wide_sub n b) → ⊥)
terms_refused_1 = (
  (λ h. never h.2),
  (λ h. never h.2),
  (λ h. never h.2),
  (λ h. never h.2),
  (λ h. never h.2),
  (λ h. never h.0.0.2),
  (λ h. never h.0.2),
  (λ h. never h.1.2),
  (λ h. never h.0.2),
  (λ h. never h.1.2),
)

terms_refused_2 : (IsLinearWideTerm 0 (wide_mul b (wide_lit (pos 2))) → ⊥) × (IsLinearWideTerm 0 (wide_mul (wide_lit (pos 2)) b) → ⊥)
    × (IsLinearWideTerm 0 (wide_if q n n) → ⊥) × (IsLinearWideTerm 0 (wide_if r b n) → ⊥) × (IsLinearWideTerm 0 (wide_if r n b) → ⊥)
    × (IsLinearWideTerm 0 (wide_min (wide_more b (wide_more n no_wides))) → ⊥) × (IsLinearWideTerm 0 (wide_min (wide_more n (wide_more b no_wides))) → ⊥)
    × (IsLinearWideTerm 0 (wide_max (wide_more b (wide_more n no_wides))) → ⊥) × (IsLinearWideTerm 0 (wide_max (wide_more n (wide_more b no_wides))) → ⊥)
terms_refused_2 = (
  (λ h. never h.0.2),
  (λ h. never h.1.2),
  (λ h. never h.0.0.2),
  (λ h. never h.1.2),
  (λ h. never h.2.2),
  (λ h. never h.0.2),
  (λ h. never h.1.0.2),
  (λ h. never h.0.2),
  (λ h. never h.1.0.2),
)

sets_refused_1 : (IsLinearWideSet 0 (wide_if_set q s s) → ⊥) × (IsLinearWideSet 0 (wide_union u s) → ⊥) × (IsLinearWideSet 0 (wide_inter u s) → ⊥)
    × (IsLinearWideSet 0 (wide_diff u s) → ⊥) × (IsLinearWideSet 0 (wide_union s u) → ⊥) × (IsLinearWideSet 0 (wide_inter s u) → ⊥)
    × (IsLinearWideSet 0 (wide_diff s u) → ⊥) × (IsLinearWideSet 0 (wide_if_set r u s) → ⊥) × (IsLinearWideSet 0 (wide_if_set r s u) → ⊥)
sets_refused_1 = (
  (λ h. never h.0.0.2),
  (λ h. never h.0.0.0.2),
  (λ h. never h.0.0.0.2),
  (λ h. never h.0.0.0.2),
  (λ h. never h.1.0.0.2),
  (λ h. never h.1.0.0.2),
  (λ h. never h.1.0.0.2),
  (λ h. never h.1.0.0.2),
  (λ h. never h.2.0.0.2),
)

relations_refused_1 : (IsLinearWide 0 (wide_compare Eq b n) → ⊥) × (IsLinearWide 0 (wide_compare Lt n b) → ⊥)
    × (IsLinearWide 0 (wide_divides (pos 2) b) → ⊥) × (IsLinearWide 0 (wide_not q) → ⊥) × (IsLinearWide 0 (wide_same_set u s) → ⊥)
    × (IsLinearWide 0 (wide_other_set u s) → ⊥) × (IsLinearWide 0 (wide_subset u s) → ⊥) × (IsLinearWide 0 (wide_same_set s u) → ⊥)
    × (IsLinearWide 0 (wide_other_set s u) → ⊥) × (IsLinearWide 0 (wide_subset s u) → ⊥)
relations_refused_1 = (
  (λ h. never h.0.2),
  (λ h. never h.1.2),
  (λ h. never h.2),
  (λ h. never h.0.2),
  (λ h. never h.0.0.0.2),
  (λ h. never h.0.0.0.2),
  (λ h. never h.0.0.0.2),
  (λ h. never h.1.0.0.2),
  (λ h. never h.1.0.0.2),
  (λ h. never h.1.0.0.2),
)

relations_refused_2 : (IsLinearWide 0 (wide_and q r) → ⊥) × (IsLinearWide 0 (wide_or q r) → ⊥) × (IsLinearWide 0 (wide_implies q r) → ⊥)
    × (IsLinearWide 0 (wide_same q r) → ⊥) × (IsLinearWide 0 (wide_other q r) → ⊥) × (IsLinearWide 0 (wide_and r q) → ⊥)
    × (IsLinearWide 0 (wide_or r q) → ⊥) × (IsLinearWide 0 (wide_implies r q) → ⊥) × (IsLinearWide 0 (wide_same r q) → ⊥)
    × (IsLinearWide 0 (wide_other r q) → ⊥)
relations_refused_2 = (
  (λ h. never h.0.0.2),
  (λ h. never h.0.0.2),
  (λ h. never h.0.0.2),
  (λ h. never h.0.0.2),
  (λ h. never h.0.0.2),
  (λ h. never h.1.0.2),
  (λ h. never h.1.0.2),
  (λ h. never h.1.0.2),
  (λ h. never h.1.0.2),
  (λ h. never h.1.0.2),
)

relations_refused_3 : (IsLinearWide 0 (wide_if_truth q r r) → ⊥) × (IsLinearWide 0 (wide_if_truth r q r) → ⊥) × (IsLinearWide 0 (wide_if_truth r r q) → ⊥)
    × (IsLinearWide 0 (wide_chain (Lt ∷ Le ∷ []) (wide_more b (wide_more n (wide_more n no_wides)))) → ⊥)
    × (IsLinearWide 0 (wide_chain (Lt ∷ Le ∷ []) (wide_more n (wide_more n (wide_more b no_wides)))) → ⊥)
relations_refused_3 = (
  (λ h. never h.0.0.2),
  (λ h. never h.1.0.2),
  (λ h. never h.2.0.2),
  (λ h. never h.0.2),
  (λ h. never h.1.1.0.2),
)

-- a side that is constant, first or second; and one that is known in the scope of one variable
kept : IsLinearWide 0 (wide_compare Eq (wide_mul (wide_lit (pos 2)) n) (wide_mul n (wide_lit (pos 2)))) × IsLinearWideTerm 1 b × IsLinearWideTerm 0 n
    × IsLinearWideSet 0 s
kept = (((tt, tt, refl), (tt, tt, refl)), (tt, tt, refl), tt, tt)
