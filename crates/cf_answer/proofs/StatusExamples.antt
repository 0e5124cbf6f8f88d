-- The status of each fault, and its number.
use Rattle.std.proofs.Common.{◌≡◌, ℕ, refl}
use Rattle.std.specs.Prelude.{Ok, Err}
use Rattle.cf_tree.specs.declared.base.Place.{Place}
use Rattle.cf_linear.specs.declared.refusal.LimitKind.TheVariants as kind
use Rattle.cf_linear.specs.declared.refusal.Refusal.TheVariants as refusal
use Rattle.cf_program.specs.declared.fault.TypeFault.TheVariants as rule
use Rattle.cf_cert.specs.declared.verdict.Why.TheVariants as why
use Rattle.cf_answer.specs.declared.fault.Fault.{Fault}
use Rattle.cf_answer.specs.declared.fault.Fault.TheVariants as fault
use Rattle.cf_answer.specs.declared.fault.StepsFault.TheVariants as steps_fault
use Rattle.cf_answer.specs.Statuses.{code_of, status_of}

abbrev place : Place
place = record { line = 1; column = 1 }

-- the number that a call ends with
abbrev number_of : Fault → ℕ
number_of f = code_of (status_of (Err f))

done : code_of (status_of (Ok tt)) ≡ 0
done = refl

words-and_files : (number_of fault.Usage ≡ 2) × (number_of fault.File ≡ 3)
words-and_files = (refl, refl)

streams : (number_of fault.Input ≡ 4) × (number_of fault.Output ≡ 5) × (number_of fault.InputTooLong ≡ 11) × (number_of fault.OutputTooLong ≡ 10)
streams = (refl, refl, refl, refl)

texts : (number_of fault.TextTooLong ≡ 6) × (number_of (fault.BadByte place) ≡ 6) × (number_of (fault.NumberPast place) ≡ 6)
    × (number_of (fault.Syntax place) ≡ 6)
texts = (refl, refl, refl, refl)

steps-texts : (number_of (fault.Steps steps_fault.TooLong) ≡ 6) × (number_of (fault.Steps (steps_fault.BadByte place)) ≡ 6)
    × (number_of (fault.Steps (steps_fault.NumberPast place)) ≡ 6)
steps-texts = (refl, refl, refl)

rules : (number_of (fault.Rule (rule.UnknownName place)) ≡ 7) × (number_of (fault.Rule (rule.DuplicateName place)) ≡ 7)
    × (number_of (fault.Rule (rule.WrongCount place)) ≡ 7) × (number_of (fault.Rule (rule.Mismatch place)) ≡ 7)
    × (number_of (fault.Rule (rule.NotConstant place)) ≡ 7) × (number_of (fault.Rule (rule.ConstantBelow place)) ≡ 7)
    × (number_of (fault.Rule (rule.ConstantPast place)) ≡ 7)
    × (number_of (fault.Rule (rule.CallsLater place)) ≡ 7) × (number_of (fault.Rule rule.NoMain) ≡ 7)
    × (number_of fault.NoSetsInC ≡ 7) × (number_of fault.NoSetsInSmt ≡ 7) × (number_of fault.BadTarget ≡ 7)
rules = (refl, refl, refl, refl, refl, refl, refl, refl, refl, refl, refl, refl)

not-linear : number_of (fault.Rule (rule.NotLinear place)) ≡ 8
not-linear = refl

past : number_of (fault.Choose 1 refusal.Past) ≡ 9
past = refl

limits : (number_of (fault.Rule (rule.Weight 1000001)) ≡ 10) × (number_of (fault.Rule (rule.Depth 201)) ≡ 10)
    × (number_of (fault.Choose 1 (refusal.Limit kind.Sets 7)) ≡ 10) × (number_of (fault.Choose 1 (refusal.Limit kind.Cases 1025)) ≡ 10)
    × (number_of (fault.Choose 1 (refusal.Limit kind.Rows 1001)) ≡ 10) × (number_of (fault.Choose 1 (refusal.Limit kind.Columns 1001)) ≡ 10)
limits = (refl, refl, refl, refl, refl, refl)

no-memory : (number_of fault.NoMemory ≡ 12) × (number_of (fault.Rule rule.NoMemory) ≡ 12)
no-memory = (refl, refl)

rejected : number_of (fault.Rejected 1 0 0 why.Code) ≡ 13
rejected = refl

answers : (number_of (fault.AnswersNo 1) ≡ 14) × (number_of (fault.AnswersUndecided 2) ≡ 15)
answers = (refl, refl)
