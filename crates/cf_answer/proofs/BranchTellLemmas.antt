-- What the answers of a branch say, where the branch fits what is asked.
use Rattle.std.proofs.Common.{inl, inr, ◌≡◌, ◌≢◌, ◌∙◌, ◌<◌, ◌&&◌, ℕ, true, false, true≢false, Option, Some, None, List, [], ◌∷◌, ◌++◌, length, ap₂, refl, subst, sym}
use Rattle.cf_tree.specs.declared.base.Base.{Base}
use Rattle.cf_tree.specs.Occurs.{rel_holds}
use Rattle.cf_tree.specs.Relation.{Sol}
use Rattle.cf_tree.specs.RelTree.{RelTree}
use Rattle.cf_tree.specs.Values.{Value, number, truth, elements, same_value, HaveBases}
use Rattle.cf_tree.proofs.SetLemmas.{eq_same, same_list-iff}
use Rattle.cf_linear.specs.declared.refusal.Refusal.{Refusal}
use Rattle.cf_linear.specs.Chooses.{limit}
use Rattle.cf_linear.proofs.PassingLemmas.{or_right}
use Rattle.cf_eval.specs.Seen.{plains}
use Rattle.cf_form.specs.Told.{Allows, HoldsCondition, ToldBranch}
use Rattle.cf_warn.specs.Solutions.{AreMissing, AreTwo, IsAt}
use Rattle.cf_warn.specs.declared.answer.Doubt.TheVariants.{Refused}
use Rattle.cf_warn.specs.declared.answer.ExistenceAnswer.{ExistenceAnswer}
use Rattle.cf_warn.specs.declared.answer.ExistenceAnswer.TheVariants as existence
use Rattle.cf_warn.specs.declared.answer.UniquenessAnswer.{UniquenessAnswer}
use Rattle.cf_warn.specs.declared.answer.UniquenessAnswer.TheVariants as uniqueness
use Rattle.cf_answer.specs.Tells.{Fits, HasNone, IsCondition, IsGivenOut, IsNamed, IsOfTwo, IsSample, TellsExistenceIn, TellsUniquenessIn, is_named, same_values}
use Rattle.cf_answer.specs.ToldChecks.{Asked, IsBranchExistence, IsBranchUniqueness, IsWithinExistence, IsWithinUniqueness, NamesExistence, NamesUniqueness, at_rest, existence_question, named_sample, shown_values, unless}
use Rattle.cf_answer.proofs.HoldingLemmas.{held_unless, holds_behind}
use Rattle.cf_answer.proofs.NamedLemmas.{has_rest, named_at, named_somewhere, named_truths}
use Rattle.cf_answer.proofs.TellLemmas.{shown_same}

-- ---- the condition of a branch
some_values : (bs : List Base) → (xs : List Value) × HaveBases bs xs
some_values [] = ([], tt)
some_values (b ∷ bs) = let more = some_values bs in (at_rest b ∷ more.0, (has_rest b, more.1))

-- where there are no outputs of the question it holds, and there are none of the relation
allowed_missing : (scope outputs : List Base) (given : Option RelTree) (r : RelTree) → IsCondition scope given → (env : List Value) → HaveBases scope env →
    ((xs : List Value) → Sol outputs (unless given r) env xs → ⊥) → Allows given env
allowed_missing scope outputs None r c env have none = tt
allowed_missing scope outputs (Some p) r c env have none =
    let some = some_values outputs in
    held_unless scope p c env (λ no. none some.0 (some.1, inl (λ h. no ((holds_behind scope p c env some.0 have).0 h))))

none_missing : (outputs : List Base) (given : Option RelTree) (r : RelTree) (env : List Value) → ((xs : List Value) → Sol outputs (unless given r) env xs → ⊥) →
    (xs : List Value) → Sol outputs r env xs → ⊥
none_missing outputs None r env none xs s = none xs s
none_missing outputs (Some p) r env none xs s = none xs (s.0, inr s.1)

-- where it holds, outputs of the question are outputs of the relation
outputs_allowed : (scope outputs : List Base) (given : Option RelTree) (r : RelTree) → IsCondition scope given → (env : List Value) → HaveBases scope env →
    Allows given env → (xs : List Value) → Sol outputs (unless given r) env xs → Sol outputs r env xs
outputs_allowed scope outputs None r c env have allowed xs s = s
outputs_allowed scope outputs (Some p) r c env have allowed xs s =
    elim s.1 [ inl fails ↦ absurd (fails ((holds_behind scope p c env xs have).1 allowed)) | inr solved ↦ (s.0, solved) ]

-- where it holds for some outputs it holds
allowed_solved : (scope : List Base) (given : Option RelTree) → IsCondition scope given → (env xs : List Value) → HaveBases scope env →
    Allows given (env ++ xs) → Allows given env
allowed_solved scope None c env xs have allowed = tt
allowed_solved scope (Some p) c env xs have allowed = (holds_behind scope p c env xs have).0 allowed

asked_too : (given : Option RelTree) (r : RelTree) (x : ℕ) → rel_holds x r ≡ true → rel_holds x (unless given r) ≡ true
asked_too None r x h = h
asked_too (Some p) r x h = or_right (rel_holds x p) (rel_holds x r) h

-- ---- values that differ
same_itself : (v : Value) → same_value v v ≡ true
same_itself (number x) = eq_same x x refl
same_itself (truth true) = refl
same_itself (truth false) = refl
same_itself (elements zs) = (same_list-iff zs zs).1 refl

same_values_itself : (vs : List Value) → same_values vs vs ≡ true
same_values_itself [] = refl
same_values_itself (v ∷ vs) = ap₂ (λ a b. a && b) (same_itself v) (same_values_itself vs)

pub values_differ : (vs ws : List Value) → same_values vs ws ≡ false → vs ≢ ws
values_differ vs ws other e = true≢false (sym (same_values_itself vs) ∙ subst (λ us. same_values vs us ≡ false) (sym e) other)

-- ---- what the answers say
module _ (a : Asked) (b : ToldBranch) (fit : Fits a b) where
  missing_named : (sample : List Value) → AreMissing a.scope a.outputs (existence_question b) sample →
      IsSample a b (named_sample a.scope a.levels b.truths (existence_question b) sample) (HasNone a b)
  missing_named sample m =
      let rel = existence_question b in
      let there : (env : List Value) → IsNamed a (named_sample a.scope a.levels b.truths rel sample) env → (xs : List Value) → Sol a.outputs rel env xs → ⊥ =
      λ env n. m.unsolved env (named_at a b.truths rel sample fit.truths m.bases env n fit.named) in
      record {
        somewhere = named_somewhere a b.truths rel sample fit.truths m.bases;
        input = λ env n. record {
          bases = n.bases;
          truths = named_truths a b.truths rel sample fit.truths m.bases env n;
          allowed = allowed_missing a.scope a.outputs b.given b.relation fit.condition env n.bases (there env n);
        };
        says = λ env n. none_missing a.outputs b.given b.relation env (there env n);
      }

  existence_within : (own told : ExistenceAnswer) → IsWithinExistence None a.scope a.outputs (existence_question b) own →
      NamesExistence (named_sample a.scope a.levels b.truths (existence_question b)) own told → TellsExistenceIn a b told
  existence_within existence.Always told is names =
      subst (TellsExistenceIn a b) (sym names)
      (λ env i. let some = is env i.bases in
      (some.0, outputs_allowed a.scope a.outputs b.given b.relation fit.condition env i.bases i.allowed some.0 some.1))
  existence_within (existence.Missing sample) (existence.Missing told) is names =
      subst (λ vs. IsSample a b vs (HasNone a b)) (sym names) (missing_named (plains sample.items) is)
  existence_within (existence.Missing sample) existence.Always is names = absurd names
  existence_within (existence.Missing sample) (existence.Undecided d) is names = absurd names
  existence_within (existence.Undecided d) told is names = subst (TellsExistenceIn a b) (sym names) tt

  existence_by : (l : Option Refusal) (own told : ExistenceAnswer) → IsWithinExistence l a.scope a.outputs (existence_question b) own →
      NamesExistence (named_sample a.scope a.levels b.truths (existence_question b)) own told → TellsExistenceIn a b told
  existence_by None own told is names = existence_within own told is names
  existence_by (Some r) own told is names =
      let same : told ≡ existence.Undecided (Refused r) =
      subst (λ o. NamesExistence (named_sample a.scope a.levels b.truths (existence_question b)) o told) is names in
      subst (TellsExistenceIn a b) (sym same) tt

  pub existence_told : (told : ExistenceAnswer) → IsBranchExistence a b told → TellsExistenceIn a b told
  existence_told told (own, is, names) = existence_by (limit a.scope a.outputs (existence_question b)) own told is names

  -- the same of uniqueness, where the condition is part of the relation
  module _ (holds : HoldsCondition b) where
    two_named : (sample first second : List Value) → AreTwo a.scope a.outputs (length a.shown) b.relation sample first second →
        IsSample a b (named_sample a.scope a.levels b.truths b.relation sample)
        (λ env. IsGivenOut a b (shown_values a.shown first) env × IsGivenOut a b (shown_values a.shown second) env)
    two_named sample first second two =
        let rel = b.relation in
        let named : (x : ℕ) → x < length a.scope → rel_holds x rel ≡ true → is_named a x ≡ true =
        λ x l h. fit.named x l (asked_too b.given rel x h) in
        let there : (env : List Value) → IsNamed a (named_sample a.scope a.levels b.truths rel sample) env → IsAt a.scope rel sample env =
        λ env n. named_at a b.truths rel sample fit.truths two.bases env n named in
        record {
          somewhere = named_somewhere a b.truths rel sample fit.truths two.bases;
          input = λ env n. record {
            bases = n.bases;
            truths = named_truths a b.truths rel sample fit.truths two.bases env n;
            allowed = allowed_solved a.scope b.given fit.condition env first n.bases (holds (env ++ first) (two.first_solves env (there env n)).1);
          };
          says = λ env n. ((first, two.first_solves env (there env n), refl), (second, two.second_solves env (there env n), refl));
        }

    uniqueness_within : (own told : UniquenessAnswer) → IsWithinUniqueness None a.scope a.outputs (length a.shown) b.relation own →
        NamesUniqueness (named_sample a.scope a.levels b.truths b.relation) a.shown own told → IsOfTwo told → TellsUniquenessIn a b told
    uniqueness_within uniqueness.Unique told is names differ =
        subst (TellsUniquenessIn a b) (sym names) (λ env i xs ys p q. shown_same a.shown xs ys (is env xs ys i.bases p q))
    uniqueness_within (uniqueness.Two sample first second) (uniqueness.Two told one other) is names differ = (
      subst (λ vs. IsSample a b vs (λ env. IsGivenOut a b (plains one.items) env × IsGivenOut a b (plains other.items) env)) (sym names.0)
          (subst (λ vs. IsSample a b (named_sample a.scope a.levels b.truths b.relation (plains sample.items))
          (λ env. IsGivenOut a b vs env × IsGivenOut a b (plains other.items) env)) (sym names.1)
          (subst (λ vs. IsSample a b (named_sample a.scope a.levels b.truths b.relation (plains sample.items))
          (λ env. IsGivenOut a b (shown_values a.shown (plains first.items)) env × IsGivenOut a b vs env)) (sym names.2)
          (two_named (plains sample.items) (plains first.items) (plains second.items) is))),
      differ,
    )
    uniqueness_within (uniqueness.Two sample first second) uniqueness.Unique is names differ = absurd names
    uniqueness_within (uniqueness.Two sample first second) (uniqueness.Undecided d) is names differ = absurd names
    uniqueness_within (uniqueness.Undecided d) told is names differ = subst (TellsUniquenessIn a b) (sym names) tt

    uniqueness_by : (l : Option Refusal) (own told : UniquenessAnswer) → IsWithinUniqueness l a.scope a.outputs (length a.shown) b.relation own →
        NamesUniqueness (named_sample a.scope a.levels b.truths b.relation) a.shown own told → IsOfTwo told → TellsUniquenessIn a b told
    uniqueness_by None own told is names differ = uniqueness_within own told is names differ
    uniqueness_by (Some r) own told is names differ =
        let same : told ≡ uniqueness.Undecided (Refused r) =
        subst (λ o. NamesUniqueness (named_sample a.scope a.levels b.truths b.relation) a.shown o told) is names in
        subst (TellsUniquenessIn a b) (sym same) tt

    pub uniqueness_told : (told : UniquenessAnswer) → IsOfTwo told → IsBranchUniqueness a b told → TellsUniquenessIn a b told
    uniqueness_told told differ (own, is, names) =
        uniqueness_by (limit a.scope a.outputs b.relation) own told is names differ
