-- The number of each status, and the status of each fault.
use Rattle.std.specs.Prelude.{ℕ, Result, Ok, Err}
use Rattle.cf_linear.specs.declared.refusal.Refusal.{Refusal}
use Rattle.cf_linear.specs.declared.refusal.Refusal.TheVariants as refusal
use Rattle.cf_program.specs.declared.fault.TypeFault.{TypeFault}
use Rattle.cf_program.specs.declared.fault.TypeFault.TheVariants as rule
use Rattle.cf_answer.specs.declared.fault.Fault.{Fault}
use Rattle.cf_answer.specs.declared.fault.Fault.TheVariants as fault
use Rattle.cf_answer.specs.declared.status.Status.{Status}
use Rattle.cf_answer.specs.declared.status.Status.TheVariants.{Done, Usage, File, Input, Output, Text}
use Rattle.cf_answer.specs.declared.status.Status.TheVariants.{Types, NotLinear, Past, Limit, InputLong, NoMemory, Rejected, AnswersNo, AnswersUndecided}

abbrev pub code_of : Status → ℕ
code_of Done = 0
code_of Usage = 2
code_of File = 3
code_of Input = 4
code_of Output = 5
code_of Text = 6
code_of Types = 7
code_of NotLinear = 8
code_of Past = 9
code_of Limit = 10
code_of InputLong = 11
code_of NoMemory = 12
code_of Rejected = 13
code_of AnswersNo = 14
code_of AnswersUndecided = 15

abbrev pub refusal_status : Refusal → Status
refusal_status refusal.Past = Past
refusal_status (refusal.Limit kind number) = Limit

abbrev pub rule_status : TypeFault → Status
rule_status (rule.UnknownName p) = Types
rule_status (rule.DuplicateName p) = Types
rule_status (rule.WrongCount p) = Types
rule_status (rule.Mismatch p) = Types
rule_status (rule.NotConstant p) = Types
rule_status (rule.ConstantBelow p) = Types
rule_status (rule.ConstantPast p) = Types
rule_status (rule.CallsLater p) = Types
rule_status rule.NoMain = Types
rule_status (rule.NotLinear p) = NotLinear
rule_status (rule.Weight n) = Limit
rule_status (rule.Depth n) = Limit
rule_status rule.NoMemory = NoMemory

abbrev pub fault_status : Fault → Status
fault_status fault.Usage = Usage
fault_status fault.File = File
fault_status fault.TextTooLong = Text
fault_status (fault.BadByte p) = Text
fault_status (fault.NumberPast p) = Text
fault_status (fault.Syntax p) = Text
fault_status (fault.Rule e) = rule_status e
fault_status (fault.Choose n r) = refusal_status r
fault_status (fault.Weight f w) = Limit
fault_status (fault.Depth f d) = Limit
fault_status fault.NoSetsInC = Types
fault_status fault.NoSetsInSmt = Types
fault_status fault.BadTarget = Types
fault_status (fault.Steps e) = Text
fault_status (fault.Rejected n i j w) = Rejected
fault_status fault.Input = Input
fault_status fault.Output = Output
fault_status fault.InputTooLong = InputLong
fault_status fault.OutputTooLong = Limit
fault_status (fault.AnswersNo n) = AnswersNo
fault_status (fault.AnswersUndecided n) = AnswersUndecided
fault_status fault.NoMemory = NoMemory

abbrev pub status_of : Result (Unit {0}) Fault → Status
status_of (Ok done) = Done
status_of (Err f) = fault_status f

-- a status after which the input and `out` are as before
abbrev pub IsEarly : Status → Type 0
IsEarly Usage = Unit {0}
IsEarly File = Unit {0}
IsEarly Text = Unit {0}
IsEarly Types = Unit {0}
IsEarly NotLinear = Unit {0}
IsEarly Past = Unit {0}
IsEarly Limit = Unit {0}
IsEarly Rejected = Unit {0}
IsEarly status = ⊥
