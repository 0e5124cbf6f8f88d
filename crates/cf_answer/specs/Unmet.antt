-- Which answers of `check` are not yes, and how a strict one ends.
use Rattle.std.specs.Prelude.{◌+◌, nat_lt, if◌then◌else◌, Result, Ok, Err}
use Rattle.cf_warn.specs.declared.answer.ExistenceAnswer.{ExistenceAnswer}
use Rattle.cf_warn.specs.declared.answer.ExistenceAnswer.TheVariants as existence
use Rattle.cf_warn.specs.declared.answer.UniquenessAnswer.{UniquenessAnswer}
use Rattle.cf_warn.specs.declared.answer.UniquenessAnswer.TheVariants as uniqueness
use Rattle.cf_warn.specs.declared.coverage.Cover.{Cover}
use Rattle.cf_warn.specs.declared.coverage.Cover.TheVariants as cover
use Rattle.cf_words.specs.declared.command.Strictness.{Strictness}
use Rattle.cf_words.specs.declared.command.Strictness.TheVariants.{Told, Existing, Unique}
use Rattle.cf_answer.specs.declared.fault.Fault.{Fault}
use Rattle.cf_answer.specs.declared.fault.Fault.TheVariants as fault
use Rattle.cf_answer.specs.declared.unmet.Answered.{Answered}
use Rattle.cf_answer.specs.declared.unmet.Unmet.{Unmet}

-- ---- one answer
abbrev pub nothing_unmet : Unmet
nothing_unmet = record { no = 0; undecided = 0 }

abbrev pub one_no : Unmet
one_no = record { no = 1; undecided = 0 }

abbrev pub one_undecided : Unmet
one_undecided = record { no = 0; undecided = 1 }

abbrev pub unmet_existence : ExistenceAnswer → Unmet
unmet_existence existence.Always = nothing_unmet
unmet_existence (existence.Missing sample) = one_no
unmet_existence (existence.Undecided d) = one_undecided

abbrev pub unmet_uniqueness : UniquenessAnswer → Unmet
unmet_uniqueness uniqueness.Unique = nothing_unmet
unmet_uniqueness (uniqueness.Two sample first second) = one_no
unmet_uniqueness (uniqueness.Undecided d) = one_undecided

abbrev pub unmet_cover : Cover → Unmet
unmet_cover cover.All = nothing_unmet
unmet_cover (cover.Misses z) = one_no
unmet_cover (cover.Undecided d) = one_undecided

-- ---- the lines of a choose
abbrev pub answered : Unmet → Unmet → Answered
answered e u = record { existence = e; uniqueness = u }

abbrev pub nothing_answered : Answered
nothing_answered = answered nothing_unmet nothing_unmet

-- ---- several
abbrev pub with_unmet : Unmet → Unmet → Unmet
with_unmet a b = record { no = a.no + b.no; undecided = a.undecided + b.undecided }

abbrev pub with_answered : Answered → Answered → Answered
with_answered a b = answered (with_unmet a.existence b.existence) (with_unmet a.uniqueness b.uniqueness)

-- ---- the end
-- the answers that are not yes among those of which so much is asked: whether outputs exist and numbers are covered, or also whether outputs are the only ones
abbrev pub unmet_for : Strictness → Answered → Unmet
unmet_for Told a = nothing_unmet
unmet_for Existing a = a.existence
unmet_for Unique a = with_unmet a.existence a.uniqueness

-- how it ends: where some answer is no, with their number; else where some is undecided, with theirs
abbrev pub end_of : Unmet → Result (Unit {0}) Fault
end_of u =
    if nat_lt 0 u.no then Err (fault.AnswersNo u.no)
    else if nat_lt 0 u.undecided then Err (fault.AnswersUndecided u.undecided)
    else Ok tt

abbrev pub judged : Strictness → Answered → Result (Unit {0}) Fault
judged strictness a = end_of (unmet_for strictness a)
