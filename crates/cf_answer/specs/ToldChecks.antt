-- What `check` asks of a choose that is told of, branch by branch, and what the answers of its branches come to.
use Rattle.std.specs.Prelude.{ℕ, pos, int_lt, ◌≡◌, ◌==◌, Bool, false, ◌&&◌, ◌||◌, Option, Some, None, if◌then◌else◌, List, [], ◌∷◌, length, map, filter}
use Rattle.std.specs.List.{range_with_len}
use Rattle.cf_tree.specs.declared.base.Base.{Base}
use Rattle.cf_tree.specs.declared.base.Base.TheVariants.{Int, Bool as Truth, Set}
use Rattle.cf_tree.specs.Occurs.{rel_holds}
use Rattle.cf_tree.specs.RelTree.{RelTree, rel_or, rel_not}
use Rattle.cf_tree.specs.Values.{Value, number, truth, elements, number_of}
use Rattle.cf_linear.specs.declared.refusal.Refusal.{Refusal}
use Rattle.cf_linear.specs.Chooses.{limit}
use Rattle.cf_decide.specs.Answers.{SaysExistence, SaysUniqueness}
use Rattle.cf_eval.specs.Seen.{plains}
use Rattle.cf_form.specs.Branches.{Branch, is_among, values_in}
use Rattle.cf_form.specs.Told.{ToldBranch, ToldChoose}
use Rattle.cf_warn.specs.Questions.{base_at, parameters}
use Rattle.cf_warn.specs.declared.answer.Doubt.TheVariants.{Refused}
use Rattle.cf_warn.specs.declared.answer.ExistenceAnswer.{ExistenceAnswer}
use Rattle.cf_warn.specs.declared.answer.ExistenceAnswer.TheVariants as existence
use Rattle.cf_warn.specs.declared.answer.UniquenessAnswer.{UniquenessAnswer}
use Rattle.cf_warn.specs.declared.answer.UniquenessAnswer.TheVariants as uniqueness

-- ---- the questions of a branch
-- a relation that has no solution exactly where the condition holds and the relation has none
abbrev pub unless : Option RelTree → RelTree → RelTree
unless None r = r
unless (Some p) r = rel_or (rel_not p) r

abbrev pub existence_question : ToldBranch → RelTree
existence_question b = unless b.given b.relation

-- ---- samples
abbrev pub condition_holds : ℕ → Option RelTree → Bool
condition_holds x None = false
condition_holds x (Some p) = rel_holds x p

abbrev pub some_condition_holds : ℕ → List ToldBranch → Bool
some_condition_holds x [] = false
some_condition_holds x (b ∷ bs) = condition_holds x b.given || some_condition_holds x bs

-- the levels that a sample names, where so many variables are in scope: the parameters, and those that a condition speaks of
abbrev pub named_levels : ℕ → ToldChoose → List ℕ
named_levels n c = filter (λ x. is_among x c.parameters || some_condition_holds x c.branches) (range_with_len 0 n)

-- what is named for a variable of which nothing is asked
abbrev pub at_rest : Base → Value
at_rest Int = number (pos 0)
at_rest Truth = truth false
at_rest Set = elements []

-- the value that stands beside a level, or another where the level is not there
abbrev pub beside : List ℕ → List Value → ℕ → Value → Value
beside [] vs x other = other
beside (y ∷ ys) [] x other = other
beside (y ∷ ys) (v ∷ vs) x other = if x == y then v else beside ys vs x other

abbrev pub truth_or : Option Bool → Value → Value
truth_or (Some t) v = truth t
truth_or None v = v

-- what a sample of a question names for a level: the value of the branch, else that of the sample, else 0, false or the empty set
abbrev pub named_value : List Base → Branch → RelTree → List Value → ℕ → Value
named_value scope branch rel sample x = truth_or (values_in branch x) (beside (parameters scope rel) sample x (at_rest (base_at scope x)))

abbrev pub named_sample : List Base → List ℕ → Branch → RelTree → List Value → List Value
named_sample scope levels branch rel sample = map (named_value scope branch rel sample) levels

-- ---- outputs
-- an output as it is given out: of a truth value, which is a number in the relation, whether it is at least 1
abbrev pub shown_value : Base → Value → Value
shown_value Int v = v
shown_value Truth v = truth (int_lt (pos 0) (number_of v))
shown_value Set v = v

-- the outputs that are given out, which have these bases, without the hidden ones behind them
abbrev pub shown_values : List Base → List Value → List Value
shown_values [] vs = []
shown_values (b ∷ bs) [] = []
shown_values (b ∷ bs) (v ∷ vs) = shown_value b v ∷ shown_values bs vs

-- ---- the answers of a branch
-- what is said of a question that passes no limit as a choose, or its first limit
abbrev pub IsWithinExistence : Option Refusal → List Base → List Base → RelTree → ExistenceAnswer → Type 0
IsWithinExistence None scope outputs rel e = SaysExistence scope outputs rel e
IsWithinExistence (Some r) scope outputs rel e = e ≡ existence.Undecided (Refused r)

abbrev pub IsWithinUniqueness : Option Refusal → List Base → List Base → ℕ → RelTree → UniquenessAnswer → Type 0
IsWithinUniqueness None scope outputs shown rel u = SaysUniqueness scope outputs shown rel u
IsWithinUniqueness (Some r) scope outputs shown rel u = u ≡ uniqueness.Undecided (Refused r)

-- the same answer, where samples are named
abbrev pub NamesExistence : (List Value → List Value) → ExistenceAnswer → ExistenceAnswer → Type 0
NamesExistence name (existence.Missing sample) (existence.Missing told) = plains told.items ≡ name (plains sample.items)
NamesExistence name existence.Always told = told ≡ existence.Always
NamesExistence name (existence.Undecided d) told = told ≡ existence.Undecided d
NamesExistence name (existence.Missing sample) told = ⊥

-- the same answer, where samples are named and outputs are given out
abbrev pub NamesUniqueness : (List Value → List Value) → List Base → UniquenessAnswer → UniquenessAnswer → Type 0
NamesUniqueness name shown (uniqueness.Two sample first second) (uniqueness.Two told one two) =
    (plains told.items ≡ name (plains sample.items)) × (plains one.items ≡ shown_values shown (plains first.items))
    × (plains two.items ≡ shown_values shown (plains second.items))
NamesUniqueness name shown uniqueness.Unique told = told ≡ uniqueness.Unique
NamesUniqueness name shown (uniqueness.Undecided d) told = told ≡ uniqueness.Undecided d
NamesUniqueness name shown (uniqueness.Two sample first second) told = ⊥

-- what is asked of each branch: the bases of the scope, of all outputs as numbers and sets, and of those that are given out, and the levels that samples name
pub record Asked : Type 0 where
  pub scope : List Base
  pub outputs : List Base
  pub shown : List Base
  pub levels : List ℕ

-- whether each input for which the condition holds has a solution in this branch
abbrev pub IsBranchExistence : Asked → ToldBranch → ExistenceAnswer → Type 0
IsBranchExistence a b told =
    let rel = existence_question b in
    (own : ExistenceAnswer) × IsWithinExistence (limit a.scope a.outputs rel) a.scope a.outputs rel own
    × NamesExistence (named_sample a.scope a.levels b.truths rel) own told

-- whether two solutions of this branch never differ in what is given out
abbrev pub IsBranchUniqueness : Asked → ToldBranch → UniquenessAnswer → Type 0
IsBranchUniqueness a b told =
    (own : UniquenessAnswer)
    × IsWithinUniqueness (limit a.scope a.outputs b.relation) a.scope a.outputs (length a.shown) b.relation own
    × NamesUniqueness (named_sample a.scope a.levels b.truths b.relation) a.shown own told

-- ---- all branches
-- of two answers the first sample, else the first doubt
abbrev pub first_existence : ExistenceAnswer → ExistenceAnswer → ExistenceAnswer
first_existence (existence.Missing sample) e = existence.Missing sample
first_existence existence.Always e = e
first_existence (existence.Undecided d) (existence.Missing sample) = existence.Missing sample
first_existence (existence.Undecided d) existence.Always = existence.Undecided d
first_existence (existence.Undecided d) (existence.Undecided later) = existence.Undecided d

abbrev pub first_uniqueness : UniquenessAnswer → UniquenessAnswer → UniquenessAnswer
first_uniqueness (uniqueness.Two sample first second) u = uniqueness.Two sample first second
first_uniqueness uniqueness.Unique u = u
first_uniqueness (uniqueness.Undecided d) (uniqueness.Two sample first second) = uniqueness.Two sample first second
first_uniqueness (uniqueness.Undecided d) uniqueness.Unique = uniqueness.Undecided d
first_uniqueness (uniqueness.Undecided d) (uniqueness.Undecided later) = uniqueness.Undecided d

-- what branches come to behind those that came to `before`, where Is says which answer a branch has, and `first` which of two is told
abbrev pub ComeTo : {A : Type 0} → (ToldBranch → A → Type 0) → (A → A → A) → A → List ToldBranch → A → Type 0
ComeTo Is first before [] all = all ≡ before
ComeTo {A} Is first before (b ∷ bs) all = (told : A) × Is b told × ComeTo Is first (first before told) bs all

-- ---- which choose is told of
-- what is told of the choose of this number
abbrev pub told_of : List ToldChoose → ℕ → Option ToldChoose
told_of [] n = None
told_of (c ∷ cs) n = if c.number == n then Some c else told_of cs n

abbrev pub is_told : List ToldChoose → ℕ → Bool
is_told [] n = false
is_told (c ∷ cs) n = (c.number == n) || is_told cs n

-- whether a choose behind one of number `before` is a later branch of it
abbrev pub is_later_branch : List ToldChoose → ℕ → ℕ → Bool
is_later_branch told before n = (n == before) && is_told told n
