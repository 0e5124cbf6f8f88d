-- The answers of a branch of a choose that is told of.
use Rattle.std.proofs.Common.{◌≡◌, length, refl, subst}
use Rattle.std.specs.Prelude.{Some, Err}
use Rattle.cf_tree.specs.RelView.{rel_tree}
use Rattle.cf_tree.specs.RelTree.{RelTree}
use Rattle.cf_linear.specs.Chooses.{limit}
use Rattle.cf_choose.specs.declared.fault.ChooseFault.{ChooseFault}
use Rattle.cf_choose.specs.declared.fault.ChooseFault.TheVariants as faults
use Rattle.cf_choose.specs.Solved.{IsOf, SolveAnswer}
use Rattle.cf_choose.specs.declared.solved.SolvedParts.{SolvedParts}
use Rattle.cf_form.specs.Told.{ToldBranch}
use Rattle.cf_warn.specs.declared.answer.Doubt.TheVariants.{Refused}
use Rattle.cf_warn.specs.declared.answer.ExistenceAnswer.{ExistenceAnswer}
use Rattle.cf_warn.specs.declared.answer.ExistenceAnswer.TheVariants as existence
use Rattle.cf_warn.specs.declared.answer.UniquenessAnswer.{UniquenessAnswer}
use Rattle.cf_warn.specs.declared.answer.UniquenessAnswer.TheVariants as uniqueness
use Rattle.cf_answer.specs.Checking.{IsExistenceOf, IsRefusedExistence, IsRefusedUniqueness, IsUniquenessOf}
use Rattle.cf_answer.specs.ToldChecks.{Asked, IsBranchExistence, IsBranchUniqueness, NamesExistence, NamesUniqueness, existence_question, named_sample}

module _ (a : Asked) (b : ToldBranch) where
  pub existence_solved : (s : SolvedParts) (own told : ExistenceAnswer) → IsOf a.scope a.outputs (existence_question b) s → IsExistenceOf s own →
      NamesExistence (named_sample a.scope a.levels b.truths (rel_tree s.rel)) own told → IsBranchExistence a b told
  existence_solved s own told of is names = (
    own,
    rw (← of.same_scope, ← of.same_outputs, ← of.same_relation, of.solved.within) is,
    subst (λ r. NamesExistence (named_sample a.scope a.levels b.truths r) own told) of.same_relation names,
  )

  pub existence_refused : (f : ChooseFault) (told : ExistenceAnswer) (q : RelTree) → q ≡ existence_question b → SolveAnswer a.scope a.outputs q (Err f) →
      IsRefusedExistence f told → IsBranchExistence a b told
  existence_refused (faults.Refused r) told q same is refused =
      (existence.Undecided (Refused r), rw (subst (λ p. limit a.scope a.outputs p ≡ Some r) same is) refl, refused)
  existence_refused faults.NoMemory told q same is refused = absurd refused

  pub uniqueness_solved : (s : SolvedParts) (own told : UniquenessAnswer) → IsOf a.scope a.outputs b.relation s → IsUniquenessOf s (length a.shown) own →
      NamesUniqueness (named_sample a.scope a.levels b.truths (rel_tree s.rel)) a.shown own told → IsBranchUniqueness a b told
  uniqueness_solved s own told of is names = (
    own,
    rw (← of.same_scope, ← of.same_outputs, ← of.same_relation, of.solved.within) is,
    subst (λ r. NamesUniqueness (named_sample a.scope a.levels b.truths r) a.shown own told) of.same_relation names,
  )

  pub uniqueness_refused : (f : ChooseFault) (told : UniquenessAnswer) → SolveAnswer a.scope a.outputs b.relation (Err f) → IsRefusedUniqueness f told →
      IsBranchUniqueness a b told
  uniqueness_refused (faults.Refused r) told is refused = (uniqueness.Undecided (Refused r), rw is refl, refused)
  uniqueness_refused faults.NoMemory told is refused = absurd refused
