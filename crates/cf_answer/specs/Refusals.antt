-- Why the text of a file is refused.
use Rattle.std.specs.Prelude.{◌≡◌, ℕ, ◌<◌, true, false, List, [], ◌∷◌, length, None, Ok, Err}
use Rattle.cf_gen.specs.Workload.{gen_source}
use Rattle.cf_lex.specs.declared.token.Token.{Token}
use Rattle.cf_lex.specs.Editions.{edition_of}
use Rattle.cf_lex.specs.Tokens.{bad_byte, past_limit, at_end}
use Rattle.cf_tree.specs.declared.base.Place.{Place}
use Rattle.cf_tree.specs.declared.base.Edition.{Edition}
use Rattle.cf_tree.specs.declared.base.Edition.TheVariants.{Three}
use Rattle.cf_tree.specs.ChooseTree.{ChooseTree}
use Rattle.cf_tree.specs.DefView.{RawItemTree}
use Rattle.cf_reader.specs.Faults.{IsFaultPlace, IsFaultPlaceOf}
use Rattle.cf_reader.specs.Readers.{Reader}
use Rattle.cf_parse.specs.Programs.{IsProgram, program_of}
use Rattle.cf_target.specs.Spelling.{TargetTree, IsTarget}
use Rattle.cf_target.specs.Targets.{target_of}
use Rattle.cf_program.specs.Checked.{TypedTree, checked}
use Rattle.cf_program.specs.declared.linearity.Linearity.{Linearity}
use Rattle.cf_program.specs.declared.linearity.Linearity.TheVariants.{Plain, Late}
use Rattle.cf_program.specs.declared.fault.TypeFault.{TypeFault}
use Rattle.cf_program.specs.declared.fault.TypeFault.TheVariants.{NotLinear}
use Rattle.cf_form.specs.FormAnswers.{IsUnformed}
use Rattle.cf_form.specs.declared.fault.FormFault.{FormFault}
use Rattle.cf_form.specs.declared.fault.FormFault.TheVariants as form
use Rattle.cf_linear.specs.declared.refusal.Refusal.{Refusal}
use Rattle.cf_linear.specs.declared.refusal.Refusal.TheVariants.{Limit}
use Rattle.cf_linear.specs.declared.refusal.LimitKind.TheVariants.{Cases}
use Rattle.cf_build.specs.Chooses.{all_chooses, by_number, first_refused, IsFirstRefused}
use Rattle.cf_build.specs.declared.fault.BuildFault.{BuildFault}
use Rattle.cf_build.specs.declared.fault.BuildFault.TheVariants as build
use Rattle.cf_steps.specs.Blocks.{BlockTree}
use Rattle.cf_steps.specs.Reading.{all_blocks}
use Rattle.cf_steps.specs.Spelling.{AreBlocks}
use Rattle.cf_form.specs.Branches.{Branch}
use Rattle.cf_cert.specs.declared.verdict.Verdict.TheVariants.{Rejected}
use Rattle.cf_cert.specs.declared.verdict.Why.{Why}
use Rattle.cf_print.specs.declared.language.Language.{Language}
use Rattle.cf_words.specs.Commands.{Command, compile, run, pre, check, exec, prove, emit, goals, verify, gen}
use Rattle.cf_answer.specs.Branches.{AreBranched, IsVerdictIn}
use Rattle.cf_answer.specs.Claims.{all_have_forms}
use Rattle.cf_answer.specs.Emitting.{lacks_sets}
use Rattle.cf_answer.specs.Limits.{TextKind, of_source, of_target, most_of}
use Rattle.cf_answer.specs.Sources.{HasTokens, Spelled, IsTypedBy, IsTypedSource, IsTypedTree}
use Rattle.cf_answer.specs.declared.fault.Fault.{Fault}
use Rattle.cf_answer.specs.declared.fault.Fault.TheVariants as fault
use Rattle.cf_answer.specs.declared.fault.StepsFault.{StepsFault}
use Rattle.cf_answer.specs.declared.fault.StepsFault.TheVariants as steps_fault

-- The place of a syntax fault: no tree begins with the tokens up to and with the one that stands there, or it is the end; and it is the place at which
-- reading from left to right stops.
pub record IsSyntaxPlace {Tree : Type 0} (Is : Tree → List Token → Type 0) (read : Reader Tree) (ts : List Token) (end p : Place) : Type 0 where
  pub dead : IsFaultPlace (λ us. (x : Tree) × Is x us) ts end p
  pub exact : IsFaultPlaceOf read ts end p

-- Why a text of a kind is refused, whatever its tokens are to spell: Is says which tokens spell a tree, `read` reads it, and Bad says for which faults it is
-- refused.
pub data Causes {Tree : Type 0} (kind : TextKind) (Is : Tree → List Token → Type 0) (read : Reader Tree) (Bad : Tree → Fault → Type 0) (text : List ℕ) :
    Fault → Type 0 where
  too_long : most_of kind < length text → Causes kind Is read Bad text fault.TextTooLong
  odd_byte : (ts : List Token) (p : Place) → HasTokens kind text ts p bad_byte → Causes kind Is read Bad text (fault.BadByte p)
  large_number : (ts : List Token) (p : Place) → HasTokens kind text ts p past_limit → Causes kind Is read Bad text (fault.NumberPast p)
  no_tree : (ts : List Token) (end p : Place) → HasTokens kind text ts end at_end → ((x : Tree) → Is x ts → ⊥) → IsSyntaxPlace Is read ts end p →
      Causes kind Is read Bad text (fault.Syntax p)
  bad_tree : (x : Tree) (f : Fault) → Spelled kind Is text x → Bad x f → Causes kind Is read Bad text f

-- why a program is not built
abbrev pub fault_of : BuildFault → Fault
fault_of (build.Choose n r) = fault.Choose n r
fault_of build.NoMemory = fault.NoMemory

-- the fault for which the forms of a source are not those of language 2
abbrev pub form_fault : FormFault → Fault
form_fault (form.Cases n count) = fault.Choose n (Limit Cases count)
form_fault (form.Weight f weight) = fault.Weight f weight
form_fault (form.Depth f depth) = fault.Depth f depth
form_fault form.NoMemory = fault.NoMemory

-- for which faults a program is refused by its rules: the first that is broken; of edition 3 also, where none is, the first limit that its forms pass
pub data IsBroken (edition : Edition) (how : Linearity) (program : List RawItemTree) : Fault → Type 0 where
  broken : (e : TypeFault) → checked edition how program ≡ Err e → IsBroken edition how program (fault.Rule e)
  wide : (source : TypedTree) (e : FormFault) → edition ≡ Three → checked Three how program ≡ Ok source → IsUnformed source.defs e →
      IsBroken edition how program (form_fault e)

-- for which faults a program is refused: by its rules, or for its first choose that is refused
pub data IsBadProgram (edition : Edition) (program : List RawItemTree) : Fault → Type 0 where
  unruly : (f : Fault) → IsBroken edition Plain program f → IsBadProgram edition program f
  refused : (typed : TypedTree) (n : ℕ) (r : Refusal) → IsTypedBy edition Plain program typed → IsFirstRefused (all_chooses typed.defs) n r →
      IsBadProgram edition program (fault.Choose n r)

-- for which faults `run` refuses it: where the first broken rule is that on linear relations, by the rules where the numbers in scope of a choose are known
pub data IsBadRun (edition : Edition) (program : List RawItemTree) : Fault → Type 0 where
  bad : (f : Fault) → IsBadProgram edition program f → ((p : Place) → f ≡ fault.Rule (NotLinear p) → ⊥) → IsBadRun edition program f
  broken_late : (p : Place) (f : Fault) → checked edition Plain program ≡ Err (NotLinear p) → IsBroken edition Late program f → IsBadRun edition program f

-- for which faults `emit` refuses it: as a program, or where no choose is refused and it has no form in the language
pub data IsBadEmission (language : Language) (edition : Edition) (program : List RawItemTree) : Fault → Type 0 where
  bad_program : (f : Fault) → IsBadProgram edition program f → IsBadEmission language edition program f
  no_sets : (typed : TypedTree) → IsTypedBy edition Plain program typed → first_refused (by_number (all_chooses typed.defs)) ≡ None →
      lacks_sets language typed ≡ true → IsBadEmission language edition program fault.NoSetsInC

-- for which faults `emit smt` refuses it: as a program, or where no choose is refused and a set stands in one or in its arms
pub data IsBadClaims (edition : Edition) (program : List RawItemTree) : Fault → Type 0 where
  bad_claims : (f : Fault) → IsBadProgram edition program f → IsBadClaims edition program f
  sets_claimed : (typed : TypedTree) → IsTypedBy edition Plain program typed → first_refused (by_number (all_chooses typed.defs)) ≡ None →
      all_have_forms typed ≡ false → IsBadClaims edition program fault.NoSetsInSmt

-- for which fault a target is refused
pub data IsBadTarget (t : TargetTree) : Fault → Type 0 where
  untyped : (IsTypedTree t → ⊥) → IsBadTarget t fault.BadTarget

-- why the text of a source is refused, where Bad says for which faults a program of an edition is
abbrev pub CausesOf : (Edition → List RawItemTree → Fault → Type 0) → List ℕ → Fault → Type 0
CausesOf Bad text f = Causes (of_source (edition_of text)) (IsProgram (edition_of text)) (program_of (edition_of text) 200) (Bad (edition_of text)) text f

-- the fault for which the text of a source is refused, also by `run`, by `emit` and by `emit smt`, and that of a target
abbrev pub IsRefusedSource : List ℕ → Fault → Type 0
IsRefusedSource text f = CausesOf IsBadProgram text f

abbrev pub IsRefusedRun : List ℕ → Fault → Type 0
IsRefusedRun text f = CausesOf IsBadRun text f

abbrev pub IsRefusedEmission : Language → List ℕ → Fault → Type 0
IsRefusedEmission language text f = CausesOf (IsBadEmission language) text f

abbrev pub IsRefusedClaims : List ℕ → Fault → Type 0
IsRefusedClaims text f = CausesOf IsBadClaims text f

abbrev pub IsRefusedTarget : List ℕ → Fault → Type 0
IsRefusedTarget text f = Causes (of_target (edition_of text)) (IsTarget (edition_of text)) (target_of (edition_of text) 500) IsBadTarget text f

-- ---- verify
-- a program whose chooses are not solved is refused by its rules alone
abbrev pub IsBrokenSource : List ℕ → Fault → Type 0
IsBrokenSource text f = CausesOf (λ edition. IsBroken edition Plain) text f

-- the fault of a steps file's text, as one of a text
abbrev pub text_fault : StepsFault → Fault
text_fault steps_fault.TooLong = fault.TextTooLong
text_fault (steps_fault.BadByte p) = fault.BadByte p
text_fault (steps_fault.NumberPast p) = fault.NumberPast p
text_fault (steps_fault.Syntax p) = fault.Syntax p

abbrev pub IsRefusedSteps : Edition → List ℕ → StepsFault → Type 0
IsRefusedSteps edition text e = Causes (of_target edition) (AreBlocks edition) (all_blocks edition 500) (λ bs f. ⊥) text (text_fault e)

-- Why steps are not accepted for a source: the source is refused, whatever the steps are; or their text is; or there is a first fault in their blocks.
pub data IsUnverified (source steps : List ℕ) : Fault → Type 0 where
  bad_source : (f : Fault) → IsBrokenSource source f → IsUnverified source steps f
  bad_steps : (typed : TypedTree) (e : StepsFault) → IsTypedSource source typed → IsRefusedSteps (edition_of source) steps e →
      IsUnverified source steps (fault.Steps e)
  bad_blocks : (cs : List (ChooseTree × Branch)) (bs : List BlockTree) (n i j : ℕ) (w : Why) → AreBranched source cs →
      Spelled (of_target (edition_of source)) (AreBlocks (edition_of source)) steps bs → IsVerdictIn cs bs (Rejected n i j w) →
      IsUnverified source steps (fault.Rejected n i j w)

-- the fault for which a command is refused on files of these texts, or on a source of its own
abbrev pub Refuses : Command → List (List ℕ) → Fault → Type 0
Refuses (compile flags name) (text ∷ []) f = IsRefusedSource text f
Refuses (run flags form name) (text ∷ []) f = IsRefusedRun text f
Refuses (pre name) (text ∷ []) f = IsRefusedSource text f
Refuses (check strictness name) (text ∷ []) f = IsRefusedSource text f
Refuses (exec form name) (text ∷ []) f = IsRefusedTarget text f
Refuses (prove name) (text ∷ []) f = IsRefusedSource text f
Refuses (emit e name) (text ∷ []) f = IsRefusedEmission e.language text f
Refuses (goals name) (text ∷ []) f = IsRefusedClaims text f
Refuses (verify name steps_name) (source ∷ steps ∷ []) f = IsUnverified source steps f
Refuses (gen n) [] f = IsRefusedSource (gen_source n) f
Refuses command files f = ⊥

-- nothing but want of memory refuses it
abbrev pub IsAccepted : Command → List (List ℕ) → Type 0
IsAccepted command files = (f : Fault) → Refuses command files f → ⊥
