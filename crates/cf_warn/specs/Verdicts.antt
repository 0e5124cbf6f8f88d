-- What the questions of a choose answer.
use Rattle.std.specs.Prelude.{ℕ, ◌≡◌, ◌≤◌, ◌<◌, ◌-◌, ◌^◌, ◌⊎◌, List, [], ◌++◌, Some, None}
use Rattle.cf_tree.specs.declared.base.Base.{Base}
use Rattle.cf_tree.specs.Meaning.{means, peak}
use Rattle.cf_tree.specs.RelTree.{RelTree}
use Rattle.cf_tree.specs.Values.{Value, values}
use Rattle.cf_linear.specs.declared.refusal.LimitKind.TheVariants.{Search}
use Rattle.cf_linear.specs.declared.refusal.Refusal.TheVariants.{Limit}
use Rattle.cf_linear.specs.Chooses.{limit}
use Rattle.cf_eval.specs.Seen.{plains}
use Rattle.cf_warn.specs.Missing.{none_outputs, none, tuple_count}
use Rattle.cf_warn.specs.Questions.{twice_outputs, twice}
use Rattle.cf_warn.specs.Solutions.{question_code, AreUnique, AreTwo, AreAlways, AreMissing}
use Rattle.cf_warn.specs.declared.answer.Doubt.{Doubt}
use Rattle.cf_warn.specs.declared.answer.Doubt.TheVariants.{Refused, Overflow}
use Rattle.cf_warn.specs.declared.answer.UniquenessAnswer.{UniquenessAnswer}
use Rattle.cf_warn.specs.declared.answer.UniquenessAnswer.TheVariants.{Unique, Two, Undecided}
use Rattle.cf_warn.specs.declared.answer.ExistenceAnswer.{ExistenceAnswer}
use Rattle.cf_warn.specs.declared.answer.ExistenceAnswer.TheVariants.{Always, Missing, Undecided as UndecidedExistence}
use Rattle.cf_warn.specs.declared.no_outputs.TheConstants.{MOST_TUPLES}

-- ---- doubts
-- the question passes no limit, and no number met in its run on no input passes the limit of numbers
pub record IsClear (outputs : List Base) (rel : RelTree) : Type 0 where
  pub within : limit [] outputs rel ≡ None
  pub fits : peak (question_code outputs rel) [] ≤ 2 ^ 127 - 1

-- the first limit that the question passes, or that none is passed and a number met in its run passes the limit of numbers
abbrev pub IsDoubt : List Base → RelTree → Doubt → Type 0
IsDoubt outputs rel (Refused r) = limit [] outputs rel ≡ Some r
IsDoubt outputs rel Overflow = (limit [] outputs rel ≡ None) × (2 ^ 127 - 1 < peak (question_code outputs rel) [])

-- ---- uniqueness
-- the verdict on the question whether outputs are the only ones, where the first so many of them are shown
abbrev pub IsUniqueness : List Base → List Base → ℕ → RelTree → UniquenessAnswer → Type 0
IsUniqueness scope outputs shown rel Unique = IsClear (twice_outputs scope outputs rel) (twice scope outputs shown rel) × AreUnique scope outputs shown rel
IsUniqueness scope outputs shown rel (Two sample first second) =
    IsClear (twice_outputs scope outputs rel) (twice scope outputs shown rel)
    × (means (question_code (twice_outputs scope outputs rel) (twice scope outputs shown rel)) [] ≡ values
    (plains sample.items ++ (plains first.items ++ plains second.items)))
    × AreTwo scope outputs shown rel (plains sample.items) (plains first.items) (plains second.items)
IsUniqueness scope outputs shown rel (Undecided d) = IsDoubt (twice_outputs scope outputs rel) (twice scope outputs shown rel) d

-- ---- existence
-- the arms have at most 1,000 tuples, and the question is without doubt
pub record IsDecided (scope outputs : List Base) (rel : RelTree) : Type 0 where
  pub few : tuple_count scope outputs rel ≤ MOST_TUPLES
  pub clear : IsClear (none_outputs scope outputs rel) (none scope outputs rel)

-- the verdict on the question whether outputs always exist
abbrev pub IsExistence : List Base → List Base → RelTree → ExistenceAnswer → Type 0
IsExistence scope outputs rel Always = IsDecided scope outputs rel × AreAlways scope outputs rel
IsExistence scope outputs rel (Missing sample) =
    IsDecided scope outputs rel
    × ((lets : List Value) × (means (question_code (none_outputs scope outputs rel) (none scope outputs rel)) [] ≡ values (plains sample.items ++ lets)))
    × AreMissing scope outputs rel (plains sample.items)
IsExistence scope outputs rel (UndecidedExistence d) =
    ((MOST_TUPLES < tuple_count scope outputs rel) × (d ≡ Refused (Limit Search (tuple_count scope outputs rel))))
    ⊎ ((tuple_count scope outputs rel ≤ MOST_TUPLES) × IsDoubt (none_outputs scope outputs rel) (none scope outputs rel) d)
