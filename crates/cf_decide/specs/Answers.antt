-- What the answers on a choose say, by what its relation means. One in doubt promises nothing, and nothing is said of how an answer is found.
use Rattle.std.specs.Prelude.{ℕ, ⊤, List}
use Rattle.cf_tree.specs.declared.base.Base.{Base}
use Rattle.cf_tree.specs.RelTree.{RelTree}
use Rattle.cf_eval.specs.Seen.{plains}
use Rattle.cf_warn.specs.Solutions.{AreAlways, AreMissing, AreTwo, AreUnique}
use Rattle.cf_warn.specs.declared.answer.ExistenceAnswer.{ExistenceAnswer}
use Rattle.cf_warn.specs.declared.answer.ExistenceAnswer.TheVariants as existence
use Rattle.cf_warn.specs.declared.answer.UniquenessAnswer.{UniquenessAnswer}
use Rattle.cf_warn.specs.declared.answer.UniquenessAnswer.TheVariants as uniqueness

-- some outputs solve the relation in each environment; none do at a sample
abbrev pub SaysExistence : List Base → List Base → RelTree → ExistenceAnswer → Type 0
SaysExistence scope outputs rel existence.Always = AreAlways scope outputs rel
SaysExistence scope outputs rel (existence.Missing sample) = AreMissing scope outputs rel (plains sample.items)
SaysExistence scope outputs rel (existence.Undecided d) = ⊤

-- no two lists of outputs solve the relation in one environment and differ in the first so many; these two do at a sample
abbrev pub SaysUniqueness : List Base → List Base → ℕ → RelTree → UniquenessAnswer → Type 0
SaysUniqueness scope outputs shown rel uniqueness.Unique = AreUnique scope outputs shown rel
SaysUniqueness scope outputs shown rel (uniqueness.Two sample first second) =
    AreTwo scope outputs shown rel (plains sample.items) (plains first.items) (plains second.items)
SaysUniqueness scope outputs shown rel (uniqueness.Undecided d) = ⊤
