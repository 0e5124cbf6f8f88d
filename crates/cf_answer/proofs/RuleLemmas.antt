-- What the rules say of a program of either edition, and that it is one thing only.
use Rattle.std.proofs.Common.{◌≡◌, ap, subst, refl, inl, inr, List, Ok, Err}
use Rattle.std.specs.Prelude.{◌⊎◌, Result}
use Rattle.cf_tree.specs.declared.base.Edition.{Edition}
use Rattle.cf_tree.specs.declared.base.Edition.TheVariants.{Two, Three}
use Rattle.cf_tree.specs.declared.base.Place.{Place}
use Rattle.cf_tree.specs.DefView.{DefTree, RawItemTree}
use Rattle.cf_program.specs.CheckAnswers.{CheckFault}
use Rattle.cf_program.specs.Checked.{TypedTree, checked}
use Rattle.cf_program.specs.Source.{IsSpelledProgram}
use Rattle.cf_program.specs.LateLinear.{IsLinearBy}
use Rattle.cf_program.specs.TypedProgram.{IsProgramBy}
use Rattle.cf_program.specs.declared.fault.TypeFault.{TypeFault}
use Rattle.cf_program.specs.declared.fault.TypeFault.TheVariants as rule
use Rattle.cf_program.specs.declared.linearity.Linearity.{Linearity}
use Rattle.cf_program.proofs.ProgramLaws.{rules_keep_types}
use Rattle.cf_form.specs.FormAnswers.{IsFormOf, IsUnformed}
use Rattle.cf_form.specs.declared.fault.FormFault.{FormFault}
use Rattle.cf_form.specs.declared.fault.FormFault.TheVariants as form
use Rattle.cf_form.proofs.OneForm.{one_form, never_unformed}
use Rattle.cf_answer.specs.Refusals.{IsBroken, broken, wide, form_fault}
use Rattle.cf_answer.specs.Sources.{IsTypedBy}
use Rattle.cf_answer.specs.Statuses.{fault_status, rule_status}
use Rattle.cf_answer.specs.declared.fault.Fault.{Fault}
use Rattle.cf_answer.specs.declared.fault.Fault.TheVariants as fault

-- a fault that is no want of memory is the one that the rules give
pub fails_so : {Y : Type 0} (e : TypeFault) (r : Result Y TypeFault) → (e ≡ rule.NoMemory → ⊥) → CheckFault e r → r ≡ Err e
fails_so rule.NoMemory r n h = absurd (n refl)
fails_so (rule.UnknownName p) r n h = h
fails_so (rule.DuplicateName p) r n h = h
fails_so (rule.WrongCount p) r n h = h
fails_so (rule.Mismatch p) r n h = h
fails_so (rule.NotConstant p) r n h = h
fails_so (rule.ConstantBelow p) r n h = h
fails_so (rule.ConstantPast p) r n h = h
fails_so (rule.CallsLater p) r n h = h
fails_so rule.NoMain r n h = h
fails_so (rule.NotLinear p) r n h = h
fails_so (rule.Weight k) r n h = h
fails_so (rule.Depth k) r n h = h

-- a program is not both refused by a rule and taken
pub not_both : {A : Type 0} (edition : Edition) (how : Linearity) (program : List RawItemTree) (e : TypeFault) (source : TypedTree) → edition ≡ Three →
    checked edition how program ≡ Err e → checked Three how program ≡ Ok source → A
not_both edition how program e source is h k =
    let kept : checked Three how program ≡ Err e = subst (λ v. checked v how program ≡ Err e) is h in absurd (cc)

-- all limits of forms have one status
forms_alike : (defs : List DefTree) (e d : FormFault) → IsUnformed defs e → IsUnformed defs d → fault_status (form_fault e) ≡ fault_status (form_fault d)
forms_alike defs (form.Cases n k) (form.Cases m l) h i = refl
forms_alike defs (form.Cases n k) (form.Weight m l) h i = refl
forms_alike defs (form.Cases n k) (form.Depth m l) h i = refl
forms_alike defs (form.Weight n k) (form.Cases m l) h i = refl
forms_alike defs (form.Weight n k) (form.Weight m l) h i = refl
forms_alike defs (form.Weight n k) (form.Depth m l) h i = refl
forms_alike defs (form.Depth n k) (form.Cases m l) h i = refl
forms_alike defs (form.Depth n k) (form.Weight m l) h i = refl
forms_alike defs (form.Depth n k) (form.Depth m l) h i = refl
forms_alike defs form.NoMemory d h i = absurd h
forms_alike defs e form.NoMemory h i = absurd i

-- the rules refuse a program for faults of one status
pub broken_alike : (edition : Edition) (how : Linearity) (program : List RawItemTree) (f g : Fault) → IsBroken edition how program f →
    IsBroken edition how program g → fault_status f ≡ fault_status g
broken_alike edition how program f g (broken e h) (broken d i) = let same : e ≡ d = cc in ap rule_status same
broken_alike edition how program f g (broken e h) (wide source d is k u) = not_both edition how program e source is h k
broken_alike edition how program f g (wide source e is k u) (broken d h) = not_both edition how program d source is h k
broken_alike edition how program f g (wide source e is k u) (wide other d js l v) =
    let same : other ≡ source = cc in forms_alike source.defs e d u (subst (λ t. IsUnformed t.defs d) same v)

-- one that is taken is not refused
pub typed_never_broken : (edition : Edition) (how : Linearity) (program : List RawItemTree) (typed : TypedTree) (f : Fault) →
    IsTypedBy edition how program typed → IsBroken edition how program f → ⊥
typed_never_broken Two how program typed f t (broken e h) = cc
typed_never_broken Two how program typed f t (wide source e is k u) = cc
typed_never_broken Three how program typed f (source, k, t) (broken e h) = cc
typed_never_broken Three how program typed f (source, k, t) (wide other e is l u) =
    let same : other ≡ source = cc in never_unformed how source typed e t (subst (λ s. IsUnformed s.defs e) same u)

-- and is one program
pub typed_by_once : (edition : Edition) (how : Linearity) (program : List RawItemTree) (a b : TypedTree) → IsTypedBy edition how program a →
    IsTypedBy edition how program b → a ≡ b
typed_by_once Two how program a b h k = cc
typed_by_once Three how program a b (source, h, t) (other, k, u) =
    let same : other ≡ source = cc in one_form how source a b t (subst (λ s. IsFormOf how s b) same u)

-- the rules take it
pub typed_is_checked : (edition : Edition) (how : Linearity) (program : List RawItemTree) (typed : TypedTree) → IsTypedBy edition how program typed →
    (source : TypedTree) × (checked edition how program ≡ Ok source)
typed_is_checked Two how program typed h = (typed, h)
typed_is_checked Three how program typed (source, h, t) = (source, h)

-- it keeps what a typed program keeps
pub typed_keeps : (edition : Edition) (how : Linearity) (program : List RawItemTree) (typed : TypedTree) → IsSpelledProgram edition program →
    IsTypedBy edition how program typed → IsProgramBy (IsLinearBy how) typed.defs typed.main
typed_keeps Two how program typed s h = rules_keep_types how program typed s h
typed_keeps Three how program typed s (source, h, t) = t.typed

-- no limit of forms is told as that on linear relations
pub linear_told : (edition : Edition) (how : Linearity) (program : List RawItemTree) (p : Place) (f : Fault) → f ≡ fault.Rule (rule.NotLinear p) →
    IsBroken edition how program f → checked edition how program ≡ Err (rule.NotLinear p)
linear_told edition how program p f is (broken e h) = let same : e ≡ rule.NotLinear p = cc in subst (λ d. checked edition how program ≡ Err d) same h
linear_told edition how program p f is (wide source (form.Cases n k) three h u) = absurd (cc)
linear_told edition how program p f is (wide source (form.Weight n k) three h u) = absurd (cc)
linear_told edition how program p f is (wide source (form.Depth n k) three h u) = absurd (cc)
linear_told edition how program p f is (wide source form.NoMemory three h u) = absurd (cc)

-- a source that is not formed is refused for that
pub unformed : (how : Linearity) (program : List RawItemTree) (source : TypedTree) (e : FormFault) → checked Three how program ≡ Ok source →
    IsUnformed source.defs e ⊎ (e ≡ form.NoMemory) → IsBroken Three how program (form_fault e) ⊎ (form_fault e ≡ fault.NoMemory)
unformed how program source e h (inl u) = inl (wide source e refl h u)
unformed how program source e h (inr memory) = inr (rw memory refl)

pub rule_other : (e : TypeFault) → ((p : Place) → e ≡ rule.NotLinear p → ⊥) → (p : Place) → fault.Rule e ≡ fault.Rule (rule.NotLinear p) → ⊥
rule_other e other p same = other p cc
