-- How far an input was answered; for the contracts within the crate.
use Rattle.std.specs.Prelude.{◌≡◌, ◌⊎◌, ◌≤◌, ◌<◌, ℕ, suc, ℤ, pos, ◌+ℤ◌, Bool, List}
use Rattle.std.specs.Prelude.{[], ◌∷◌, ◌++◌, length, map, codes, if◌then◌else◌, Option, Some, None, Result, Ok, Err}
use Rattle.std.specs.Io.KnownBytes.{Appends, Consumes, IsAtEnd}
use Rattle.cf_advice.specs.Spots.{spots_of}
use Rattle.cf_advice.specs.SpotView.{spot_tree}
use Rattle.cf_io.specs.Bytes.{TookPrefix}
use Rattle.cf_io.specs.Cut.{CutterState, Stands, told, within}
use Rattle.cf_io.specs.Limits.{line_limit, IsWithin, IsPast}
use Rattle.cf_io.specs.Lines.{is_feed, lines, ended}
use Rattle.cf_io.specs.declared.line.Line.{Line}
use Rattle.cf_io.specs.declared.line.Line.TheVariants.{Text, TooLong}
use Rattle.cf_num.specs.Limit.{limit}
use Rattle.cf_tree.specs.declared.base.Edition.TheVariants.{Three}
use Rattle.cf_tree.specs.declared.target.RawTarget.{RawTarget}
use Rattle.cf_tree.specs.CodeTree.{CodeTree}
use Rattle.cf_tree.specs.CodeView.{code_tree}
use Rattle.cf_tree.specs.DefView.{RawItemTree}
use Rattle.cf_tree.specs.Values.{Value, values, no_solution}
use Rattle.cf_pass.specs.Passes.{Told}
use Rattle.cf_program.specs.Checked.{TypedTree, checked}
use Rattle.cf_program.specs.Typed.{typed_tree}
use Rattle.cf_program.specs.declared.linearity.Linearity.TheVariants.{Plain}
use Rattle.cf_form.specs.FormAnswers.{FormAnswer}
use Rattle.cf_form.specs.declared.formed.FormedParts.{FormedParts}
use Rattle.cf_eval.specs.Answers.{Answers}
use Rattle.cf_eval.specs.Seen.{plains}
use Rattle.cf_eval.specs.Spelling.{SpellsValues}
use Rattle.cf_eval.specs.declared.fault.LineFault.{LineFault}
use Rattle.cf_eval.specs.declared.fault.LineFault.TheVariants as line_fault
use Rattle.cf_eval.specs.declared.value.Outcome.{Outcome as RunOutcome}
use Rattle.cf_eval.specs.declared.value.Outcome.TheVariants.{Values, NoSolution, Overflow}
use Rattle.cf_late.specs.Outcomes.{late_of}
use Rattle.cf_late.specs.declared.outcome.LateOutcome.{LateOutcome as DeclaredLateOutcome}
use Rattle.cf_answer.specs.Ends.{answered_lines}
use Rattle.cf_answer.specs.Outside.{AreTold, one_past}
use Rattle.cf_answer.specs.Forms.{Form, form_of}
use Rattle.cf_answer.specs.Owed.{AreUnused, Answerer, by_target, by_late, bases_by, comes_by, Replier, IsReplyOf, AreReplies, OwesRun}
use Rattle.cf_answer.specs.Picked.{outcome_number}
use Rattle.cf_answer.specs.Refusals.{CausesOf}
use Rattle.cf_answer.specs.ResultNames.{AreResultNames}
use Rattle.cf_answer.specs.Sources.{SpellsProgram}
use Rattle.cf_answer.specs.declared.answerer.Answerer.{Answerer as DeclaredAnswerer}
use Rattle.cf_answer.specs.declared.answerer.Answerer.TheVariants as answerer
use Rattle.cf_answer.specs.declared.answerer.Replier.{Replier as DeclaredReplier}
use Rattle.cf_answer.specs.declared.answerer.Runner.{Runner as DeclaredRunner}
use Rattle.cf_answer.specs.declared.source.CheckedSource.{CheckedSource}
use Rattle.cf_answer.specs.declared.fault.Fault.{Fault}
use Rattle.cf_answer.specs.declared.fault.Fault.TheVariants as fault

-- what is made of a text, where Good says what it may be; or a fault for which Refused says that the text is refused; or want of memory
abbrev pub IsVerdict : {A : Type 0} → (A → Type 0) → (Fault → Type 0) → Result A Fault → Type 0
IsVerdict Good Refused (Ok x) = Good x
IsVerdict Good Refused (Err f) = Refused f ⊎ (f ≡ fault.NoMemory)

-- what answers lines, as the program keeps it
abbrev pub answerer_of : DeclaredAnswerer → Answerer
answerer_of (answerer.Target t) = by_target t
answerer_of (answerer.Late l) = by_late (typed_tree l)

-- a program of edition 3 in which no rule is broken, with the forms of language 2, and what is told of its chooses
abbrev pub IsFormedProgram : List RawItemTree → FormedParts → Type 0
IsFormedProgram program f = (source : TypedTree) × (checked Three Plain program ≡ Ok source) × FormAnswer Plain source (Ok f)

abbrev pub IsFormedSource : List ℕ → FormedParts → Type 0
IsFormedSource text f = (program : List RawItemTree) × SpellsProgram text program × IsFormedProgram program f

-- a program of edition 3 in a file of this name, as it is read for its checks: its formed program, what stands at its numbers, and the lines on its parameters
pub record IsCheckedProgram (name : List ℕ) (program : List RawItemTree) (s : CheckedSource) : Type 0 where
  pub formed : IsFormedProgram program s.formed
  pub spots : map spot_tree s.spots.items ≡ spots_of program
  pub unused : AreUnused Three name program s.unused.items

abbrev pub IsCheckedSource : List ℕ → List ℕ → CheckedSource → Type 0
IsCheckedSource name text s = (program : List RawItemTree) × SpellsProgram text program × IsCheckedProgram name program s

-- what answers lines, as the program keeps it with its form
abbrev pub replier_of : DeclaredReplier → Replier
replier_of r = record { by = answerer_of r.runner.answerer; form = form_of r.form r.runner.names.items }

-- its replies in each form are what `run` owes on a source
abbrev pub IsRunner : Bool → List ℕ → List Told → List Told → Answerer → Type 0
IsRunner calls source given last a =
    (form : Form) (ls : List (List ℕ)) (text : List ℕ) → AreReplies (record { by = a; form = form }) ls text → OwesRun calls form source given last ls text

-- the same, with the names of the source's results
abbrev pub IsNamedRunner : Bool → List ℕ → List Told → List Told → DeclaredRunner → Type 0
IsNamedRunner calls source given last r = IsRunner calls source given last (answerer_of r.answerer) × AreResultNames source r.names.items

-- what is come to at the values that a line spells, or that it spells none
abbrev pub OutcomeAnswer : Answerer → List ℕ → Result DeclaredLateOutcome LineFault → Type 0
OutcomeAnswer a line (Ok o) = (vs : List Value) × SpellsValues limit (bases_by a) line vs × (late_of o ≡ comes_by a vs)
OutcomeAnswer a line (Err line_fault.BadInput) = (vs : List Value) → SpellsValues limit (bases_by a) line vs → ⊥
OutcomeAnswer a line (Err line_fault.NoMemory) = Unit {0}

-- a source text is refused, whatever rules the program breaks that it spells
abbrev pub IsMisspelled : List ℕ → Fault → Type 0
IsMisspelled text f = CausesOf (λ edition x f. ⊥) text f

-- the reply to a line as it is cut
abbrev pub IsLineReply : Replier → Line → List ℕ → Type 0
IsLineReply a (Text bytes) reply = length bytes ≤ line_limit → IsReplyOf a bytes reply
IsLineReply a TooLong reply = reply ≡ a.form.wording.fault (codes "line too long")

abbrev pub AreLineReplies : Replier → List Line → List ℕ → Type 0
AreLineReplies a [] text = text ≡ []
AreLineReplies a (l ∷ ls) text = (reply : List ℕ) × (more : List ℕ) × (text ≡ reply ++ 10 ∷ more) × IsLineReply a l reply × AreLineReplies a ls more

-- it took the replies to these lines
abbrev pub TookLines : Replier → List Line → Option (List ℕ) → Option (List ℕ) → Type 0
TookLines a ls old new = (text : List ℕ) × AreLineReplies a ls text × Appends old new text

-- it took a prefix of them
abbrev pub TookSomeLines : Replier → List Line → Option (List ℕ) → Option (List ℕ) → Type 0
TookSomeLines a ls old new = (text : List ℕ) × AreLineReplies a ls text × TookPrefix old new text

-- the same of lines that are not cut
abbrev pub TookReplies : Replier → List (List ℕ) → Option (List ℕ) → Option (List ℕ) → Type 0
TookReplies a ls old new = (text : List ℕ) × AreReplies a ls text × Appends old new text

abbrev pub TookSome : Replier → List (List ℕ) → Option (List ℕ) → Option (List ℕ) → Type 0
TookSome a ls old new = (text : List ℕ) × AreReplies a ls text × TookPrefix old new text

-- the cutter stands for these bytes, and the lines that it told of them are answered
pub record IsAnswered (a : Replier) (most : Option ℕ) (cutter : CutterState) (bytes : List ℕ) (old new : Option (List ℕ)) : Type 0 where
  pub stands : Stands line_limit most cutter bytes
  pub took : TookLines a (told line_limit most bytes) old new

-- a fault of writing, or want of memory
abbrev pub IsOutFault : Fault → Type 0
IsOutFault f = (f ≡ fault.Output) ⊎ (f ≡ fault.NoMemory)

-- so many bytes were read, and their lines are answered
pub record IsReadTo (a : Replier) (most : Option ℕ) (left still_left : Option (List ℕ)) (cutter : CutterState) (old new : Option (List ℕ)) (total : ℕ) : Type 0
  where
    pub bytes : List ℕ
    pub read : Consumes left still_left bytes
    pub total_is : total ≡ length bytes
    pub answered : IsAnswered a most cutter bytes old new

-- what answering an input does, of which `front` was read and `left` is left; the sink held `old` before and holds `new` behind it
abbrev pub Runs : Replier → Option ℕ → List ℕ → Option (List ℕ) → Option (List ℕ) → Option (List ℕ) → Result (Unit {0}) Fault → Type 0
Runs a most front left old new (Ok done) = IsAtEnd left × IsWithin most (length front) × TookReplies a (lines front) old new
Runs a most front left old new (Err fault.InputTooLong) = IsPast most (length front) × TookReplies a (ended (within most front)) old new
Runs a most front left old new (Err fault.Input) = IsWithin most (length front) × TookReplies a (ended front) old new
Runs a most front left old new (Err fault.Output) = (rest : List ℕ) × AreTold left rest × TookSome a (answered_lines most (front ++ rest)) old new
Runs a most front left old new (Err fault.NoMemory) = (rest : List ℕ) × AreTold left rest × TookSome a (answered_lines most (front ++ rest)) old new
Runs a most front left old new (Err f) = ⊥

-- the same of an input that may be told, of which at most one byte more than its limit is read
pub record RunsOn (a : Replier) (most : Option ℕ) (left still_left old new : Option (List ℕ)) (answer : Result (Unit {0}) Fault) : Type 0 where
  pub front : List ℕ
  pub read : Consumes left still_left front
  pub past : IsWithin (one_past most) (length front)
  pub runs : Runs a most front still_left old new answer

-- what answering an input and then writing `end` does
pub data RunsThrough (a : Replier) (most : Option ℕ) (end : List ℕ) (left still_left old new : Option (List ℕ)) (answer : Result (Unit {0}) Fault) : Type 0
  where
    cut : (f : Fault) → answer ≡ Err f → RunsOn a most left still_left old new (Err f) → RunsThrough a most end left still_left old new answer
    part : (mid : Option (List ℕ)) (f : Fault) → RunsOn a most left still_left old mid (Ok tt) → answer ≡ Err f → IsOutFault f → TookPrefix mid new end →
        RunsThrough a most end left still_left old new answer
    whole : (mid : Option (List ℕ)) → RunsOn a most left still_left old mid (Ok tt) → answer ≡ Ok tt → Appends mid new end →
        RunsThrough a most end left still_left old new answer

-- how many bytes stand before the first line feed, or how many there are
abbrev pub first_size : List ℕ → ℕ
first_size [] = 0
first_size (b ∷ bytes) = if is_feed b then 0 else suc (first_size bytes)

-- what the outcome of a run adds to a sum
abbrev pub run_number : RunOutcome → ℤ
run_number (Values vs) = outcome_number (Some (values (plains vs.items)))
run_number (NoSolution n) = outcome_number (Some (no_solution n))
run_number Overflow = outcome_number None

-- a run of the code on these values comes to an outcome that adds this
pub record ComesTo (code : CodeTree) (vs : List Value) (z : ℤ) : Type 0 where
  pub outcome : RunOutcome
  pub answers : Answers code vs outcome
  pub is : z ≡ run_number outcome

-- what the reply of a target to a line adds to a sum
pub data LineAdds (t : RawTarget) (line : List ℕ) (z : ℤ) : Type 0 where
  long_line : line_limit < length line → z ≡ pos 0 → LineAdds t line z
  odd_line : length line ≤ line_limit → ((vs : List Value) → SpellsValues limit t.params.items line vs → ⊥) → z ≡ pos 0 → LineAdds t line z
  read_line : (vs : List Value) → length line ≤ line_limit → SpellsValues limit t.params.items line vs → ComesTo (code_tree t.code) vs z → LineAdds t line z

abbrev pub AddUp : RawTarget → List (List ℕ) → ℤ → Type 0
AddUp t [] sum = sum ≡ pos 0
AddUp t (line ∷ ls) sum = (z : ℤ) × (rest : ℤ) × (sum ≡ z +ℤ rest) × LineAdds t line z × AddUp t ls rest
