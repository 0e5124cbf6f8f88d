-- Why a target text is refused, and that this is one thing only.
use Rattle.std.proofs.Common.{◌≡◌, sym, subst, refl, ℕ, List}
use Rattle.cf_lex.specs.Editions.{IsOfEdition, edition_of}
use Rattle.cf_lex.proofs.EditionLemmas.{edition_is}
use Rattle.cf_tree.specs.declared.base.Edition.{Edition}
use Rattle.cf_tree.specs.declared.base.Edition.TheVariants.{Two, Three}
use Rattle.cf_tree.specs.declared.target.RawTarget.{RawTarget}
use Rattle.cf_tree.specs.Typing.{IsWellTyped}
use Rattle.cf_target.specs.Spelling.{TargetTree, target_tree, IsTarget}
use Rattle.cf_target.specs.Targets.{target_of}
use Rattle.cf_target.proofs.Only.{one_law}
use Rattle.cf_answer.specs.Limits.{of_target}
use Rattle.cf_answer.specs.Refusals.{IsBadTarget, untyped, IsRefusedTarget}
use Rattle.cf_answer.specs.Sources.{Spelled, IsTypedTree, IsTypedTarget}
use Rattle.cf_answer.specs.Statuses.{fault_status}
use Rattle.cf_answer.specs.declared.fault.Fault.{Fault}
use Rattle.cf_answer.proofs.CauseLemmas.{alike, unrefused}

-- a target that is read and kept
pub typed_verdict : (text : List ℕ) (raw t : RawTarget) → t ≡ raw → IsWellTyped t →
    Spelled (of_target (edition_of text)) (IsTarget (edition_of text)) text (target_tree raw) →
    IsTypedTarget text (target_tree t)
typed_verdict text raw t same typed h = (
  subst (λ v. Spelled (of_target (edition_of text)) (IsTarget (edition_of text)) text (target_tree v)) (sym same) h,
  typed,
)

bad_alike : (t : TargetTree) (f g : Fault) → IsBadTarget t f → IsBadTarget t g → fault_status f ≡ fault_status g
bad_alike t f g (untyped a) (untyped b) = refl

pub targets_alike : (text : List ℕ) (f g : Fault) → IsRefusedTarget text f → IsRefusedTarget text g → fault_status f ≡ fault_status g
targets_alike text f g h i = alike (of_target (edition_of text)) (IsTarget (edition_of text)) (target_of (edition_of text) 500) IsBadTarget
    (one_law (edition_of text)) text
    (λ t f g s a b. bad_alike t f g a b) f g h i

never_bad : (t : TargetTree) → IsTypedTree t → (f : Fault) → IsBadTarget t f → ⊥
never_bad t typed f (untyped a) = a typed

pub typed_unrefused : (text : List ℕ) (t : TargetTree) (f : Fault) → IsTypedTarget text t → IsRefusedTarget text f → ⊥
typed_unrefused text t f h r =
    unrefused (of_target (edition_of text)) (IsTarget (edition_of text)) (target_of (edition_of text) 500) IsBadTarget (one_law (edition_of text)) text f t
    (never_bad t h.1) r h.0

-- a text is of the edition that is read
one_edition : (text : List ℕ) (e d : Edition) → IsOfEdition e text → IsOfEdition d text → e ≡ d
one_edition text Two Two h i = refl
one_edition text Two Three h i = absurd (h i)
one_edition text Three Two h i = absurd (i h)
one_edition text Three Three h i = refl

pub edition_read : (text : List ℕ) (e : Edition) → IsOfEdition e text → e ≡ edition_of text
edition_read text e h = one_edition text e (edition_of text) h (edition_is text (edition_of text) refl)
