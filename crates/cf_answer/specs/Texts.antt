-- What each fault writes.
use Rattle.std.specs.Prelude.{ℕ, ◌==◌, List, [], ◌∷◌, codes, decimal, Result, Ok, Err, if◌then◌else◌}
use Rattle.std.specs.List.{concat}
use Rattle.cf_tree.specs.declared.base.Place.{Place}
use Rattle.cf_linear.specs.declared.refusal.Refusal.{Refusal}
use Rattle.cf_linear.specs.Reasons.{refusal_text}
use Rattle.cf_program.specs.declared.fault.TypeFault.{TypeFault}
use Rattle.cf_program.specs.declared.fault.TypeFault.TheVariants as rule
use Rattle.cf_cert.specs.declared.verdict.Why.{Why}
use Rattle.cf_cert.specs.declared.verdict.Why.TheVariants as why
use Rattle.cf_answer.specs.declared.fault.Fault.{Fault}
use Rattle.cf_answer.specs.declared.fault.Fault.TheVariants as fault
use Rattle.cf_answer.specs.declared.fault.StepsFault.{StepsFault}
use Rattle.cf_answer.specs.declared.fault.StepsFault.TheVariants as steps_fault

-- Each line ends with a line feed.
abbrev pub words_line : List ℕ → List ℕ
words_line words = concat (words ∷ codes "\n" ∷ [])

-- words about a place of the text
abbrev pub place_line_behind : List ℕ → Place → List ℕ → List ℕ
place_line_behind head p words = concat (head ∷ decimal p.line ∷ codes " column " ∷ decimal p.column ∷ codes ": " ∷ words ∷ codes "\n" ∷ [])

abbrev pub place_line : Place → List ℕ → List ℕ
place_line p words = place_line_behind (codes "line ") p words

-- a name and a number
abbrev pub count_line : List ℕ → ℕ → List ℕ
count_line name n = concat (name ∷ codes " " ∷ decimal n ∷ codes "\n" ∷ [])

-- words about a choose
abbrev pub numbered_line : ℕ → List ℕ → List ℕ
numbered_line n words = concat (codes "choose " ∷ decimal n ∷ codes ": " ∷ words ∷ codes "\n" ∷ [])

-- the refusal of a choose
abbrev pub choose_line : ℕ → Refusal → List ℕ
choose_line n r = numbered_line n (refusal_text r)

-- the line of a broken rule
abbrev pub rule_line : TypeFault → List ℕ
rule_line (rule.UnknownName p) = place_line p (codes "unknown name")
rule_line (rule.DuplicateName p) = place_line p (codes "duplicate name")
rule_line (rule.WrongCount p) = place_line p (codes "wrong count")
rule_line (rule.Mismatch p) = place_line p (codes "type mismatch")
rule_line (rule.NotConstant p) = place_line p (codes "not constant")
rule_line (rule.ConstantBelow p) = place_line p (codes "constant below 1")
rule_line (rule.ConstantPast p) = place_line p (codes "constant past limit")
rule_line (rule.CallsLater p) = place_line p (codes "calls later function")
rule_line rule.NoMain = words_line (codes "no main")
rule_line (rule.NotLinear p) = place_line p (codes "not linear")
rule_line (rule.Weight n) = count_line (codes "Weight") n
rule_line (rule.Depth n) = count_line (codes "Depth") n
rule_line rule.NoMemory = words_line (codes "no memory")

-- why a steps file's text is refused
abbrev pub steps_line : StepsFault → List ℕ
steps_line steps_fault.TooLong = words_line (codes "steps text too long")
steps_line (steps_fault.BadByte p) = place_line_behind (codes "steps line ") p (codes "bad byte")
steps_line (steps_fault.NumberPast p) = place_line_behind (codes "steps line ") p (codes "number past limit")
steps_line (steps_fault.Syntax p) = place_line_behind (codes "steps line ") p (codes "syntax")

-- why steps are rejected
abbrev pub why_text : Why → List ℕ
why_text why.Unknown = codes "not an unknown"
why_text why.Factor = codes "not invertible"
why_text why.Single = codes "not one unknown"
why_text why.Held = codes "held by an equation"
why_text why.Exact = codes "pair without coefficient 1"
why_text why.Left = codes "not finished"
why_text why.Blocks = codes "wrong blocks"
why_text why.Code = codes "code differs"
why_text (why.Refused r) = refusal_text r

-- the steps of choose n are rejected at this case and this step
abbrev pub rejected_line : ℕ → ℕ → ℕ → Why → List ℕ
rejected_line n i j w =
    concat (codes "choose " ∷ decimal n ∷ codes ": rejected at case " ∷ decimal i ∷ codes " step " ∷ decimal j ∷ codes ": " ∷ why_text w ∷ codes "\n" ∷ [])

abbrev pub answered_line : List ℕ → List ℕ → List ℕ → List ℕ
answered_line count verb so = concat (codes "check: " ∷ count ∷ verb ∷ so ∷ codes "\n" ∷ [])

-- check: N answers are so
abbrev pub answers_verb : ℕ → List ℕ
answers_verb n = if n == 1 then codes " answer is " else codes " answers are "

abbrev pub answers_line : ℕ → List ℕ → List ℕ
answers_line n so = answered_line (decimal n) (answers_verb n) so

-- where the words are no command
abbrev pub usage_words : List ℕ
usage_words = codes "usage: comfusy compile|pre|check|run|exec|prove FILE, or comfusy emit LANG FILE, or comfusy verify FILE STEPS, or comfusy gen N, or comfusy --help"

abbrev pub fault_line : Fault → List ℕ
fault_line fault.Usage = words_line usage_words
fault_line fault.File = words_line (codes "cannot read file")
fault_line fault.TextTooLong = words_line (codes "text too long")
fault_line (fault.BadByte p) = place_line p (codes "bad byte")
fault_line (fault.NumberPast p) = place_line p (codes "number past limit")
fault_line (fault.Syntax p) = place_line p (codes "syntax")
fault_line (fault.Rule e) = rule_line e
fault_line (fault.Choose n r) = choose_line n r
fault_line (fault.Weight f w) = count_line (codes "Weight") w
fault_line (fault.Depth f d) = count_line (codes "Depth") d
fault_line fault.NoSetsInC = words_line (codes "no sets in c")
fault_line fault.NoSetsInSmt = words_line (codes "no sets in smt")
fault_line fault.BadTarget = words_line (codes "target not well typed")
fault_line (fault.Steps e) = steps_line e
fault_line (fault.Rejected n i j w) = rejected_line n i j w
fault_line fault.Input = words_line (codes "cannot read input")
fault_line fault.Output = words_line (codes "cannot write output")
fault_line fault.InputTooLong = words_line (codes "input too long")
fault_line fault.OutputTooLong = words_line (codes "text too long")
fault_line (fault.AnswersNo n) = answers_line n (codes "no")
fault_line (fault.AnswersUndecided n) = answers_line n (codes "undecided")
fault_line fault.NoMemory = words_line (codes "no memory")

-- what goes to the sink of errors: the line of a fault, or nothing
abbrev pub answer_line : Result (Unit {0}) Fault → List ℕ
answer_line (Ok done) = []
answer_line (Err f) = fault_line f
