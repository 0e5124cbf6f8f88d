-- Why a text is refused, as the code finds it.
use Rattle.std.proofs.Common.{◌≡◌, inl, inr, refl, sym, subst, ℕ, List}
use Rattle.std.specs.Prelude.{◌⊎◌, Result, Ok, Err}
use Rattle.cf_lex.specs.declared.token.Token.{Token}
use Rattle.cf_lex.specs.Tokens.{bad_byte, past_limit, at_end}
use Rattle.cf_linear.specs.declared.refusal.Refusal.{Refusal}
use Rattle.cf_tree.specs.declared.base.Place.{Place}
use Rattle.cf_lex.specs.Editions.{edition_of}
use Rattle.cf_tree.specs.declared.base.Edition.{Edition}
use Rattle.cf_tree.specs.declared.base.Edition.TheVariants.{Three}
use Rattle.cf_tree.specs.DefView.{RawItemTree}
use Rattle.cf_reader.specs.Faults.{IsFaultPlace, IsFaultPlaceOf}
use Rattle.cf_reader.specs.Readers.{Reader}
use Rattle.cf_parse.specs.Programs.{IsProgram, SomeProgram, program_of}
use Rattle.cf_target.specs.Spelling.{TargetTree, IsTarget}
use Rattle.cf_target.specs.Targets.{SomeTarget, target_of}
use Rattle.cf_program.specs.Checked.{TypedTree}
use Rattle.cf_program.specs.Typed.{typed_tree}
use Rattle.cf_program.specs.declared.linearity.Linearity.TheVariants.{Plain}
use Rattle.cf_program.specs.declared.typed.Typed.{Typed}
use Rattle.cf_form.specs.declared.formed.Formed.{Formed}
use Rattle.cf_build.specs.Chooses.{all_chooses, IsFirstRefused}
use Rattle.cf_build.specs.Solves.{FaultAnswer}
use Rattle.cf_build.specs.declared.fault.BuildFault.{BuildFault}
use Rattle.cf_build.specs.declared.fault.BuildFault.TheVariants as build
use Rattle.cf_answer.specs.Limits.{TextKind, of_source, of_target}
use Rattle.cf_answer.specs.Refusals.{fault_of, Causes, too_long, odd_byte, large_number, no_tree, bad_tree, IsBroken, IsBadProgram, unruly, refused, IsBadTarget, untyped, CausesOf, IsBrokenSource, IsRefusedSource, IsRefusedTarget}
use Rattle.cf_answer.specs.Sources.{HasTokens, Spelled, SpellsProgram, IsTypedBy, IsTypedSource, IsTypedTree}
use Rattle.cf_answer.specs.declared.source.CheckedSource.{CheckedSource}
use Rattle.cf_answer.specs.Steps.{IsVerdict, IsCheckedProgram, IsCheckedSource, IsFormedProgram, IsFormedSource, IsMisspelled}
use Rattle.cf_answer.specs.declared.fault.Fault.{Fault}
use Rattle.cf_answer.specs.declared.fault.Fault.TheVariants as fault

pub no_source_in : (edition : Edition) (text : List ℕ) (ts : List Token) (end p : Place) → edition ≡ edition_of text →
    HasTokens (of_source edition) text ts end at_end →
    ((x : List RawItemTree) → IsProgram edition x ts → ⊥) → IsFaultPlace (SomeProgram edition) ts end p → IsFaultPlaceOf (program_of edition 200) ts end p →
    IsMisspelled text (fault.Syntax p)
no_source_in edition text ts end p is h none dead exact =
    subst (λ e. Causes (of_source e) (IsProgram e) (program_of e 200) (λ x f. ⊥) text (fault.Syntax p)) is
    (no_tree ts end p h none (record { dead = dead; exact = exact }))

pub spelled_in : (edition : Edition) (text : List ℕ) (program : List RawItemTree) (ts : List Token) (end : Place) → edition ≡ edition_of text →
    HasTokens (of_source edition) text ts end at_end → IsProgram edition program ts → SpellsProgram text program
spelled_in edition text program ts end is h s = subst (λ e. Spelled (of_source e) (IsProgram e) text program) is (ts, end, h, s)

pub misread_byte : (edition : Edition) (text : List ℕ) (ts : List Token) (p : Place) → edition ≡ edition_of text →
    HasTokens (of_source edition) text ts p bad_byte →
    IsMisspelled text (fault.BadByte p)
misread_byte edition text ts p is h = subst (λ e. Causes (of_source e) (IsProgram e) (program_of e 200) (λ x f. ⊥) text (fault.BadByte p)) is (odd_byte ts p h)

pub misread_number : (edition : Edition) (text : List ℕ) (ts : List Token) (p : Place) → edition ≡ edition_of text →
    HasTokens (of_source edition) text ts p past_limit →
    IsMisspelled text (fault.NumberPast p)
misread_number edition text ts p is h =
    subst (λ e. Causes (of_source e) (IsProgram e) (program_of e 200) (λ x f. ⊥) text (fault.NumberPast p)) is (large_number ts p h)

pub target_in : (edition : Edition) (text : List ℕ) (t : TargetTree) (ts : List Token) (end : Place) → edition ≡ edition_of text →
    HasTokens (of_target (edition_of text)) text ts end at_end → IsTarget edition t ts →
    Spelled (of_target (edition_of text)) (IsTarget (edition_of text)) text t
target_in edition text t ts end is h s = (ts, end, h, subst (λ e. IsTarget e t ts) is s)

pub no_target : (edition : Edition) (text : List ℕ) (ts : List Token) (end p : Place) → edition ≡ edition_of text →
    HasTokens (of_target (edition_of text)) text ts end at_end →
    ((x : TargetTree) → IsTarget edition x ts → ⊥) → IsFaultPlace (SomeTarget edition) ts end p → IsFaultPlaceOf (target_of edition 500) ts end p →
    IsRefusedTarget text (fault.Syntax p)
no_target edition text ts end p is h none dead exact =
    subst (λ e. Causes (of_target (edition_of text)) (IsTarget e) (target_of e 500) IsBadTarget text (fault.Syntax p)) is
    (no_tree ts end p h none (record { dead = dead; exact = exact }))

pub choose_refused : (text : List ℕ) (typed : TypedTree) (n : ℕ) (r : Refusal) → IsTypedSource text typed → IsFirstRefused (all_chooses typed.defs) n r →
    IsRefusedSource text (fault.Choose n r)
choose_refused text typed n r s h = bad_tree s.0 (fault.Choose n r) s.1 (refused typed n r s.2 h)

-- a program is not built
pub build_refused : (text : List ℕ) (typed : TypedTree) (f : BuildFault) → IsTypedSource text typed → FaultAnswer (all_chooses typed.defs) f →
    IsRefusedSource text (fault_of f) ⊎ (fault_of f ≡ fault.NoMemory)
build_refused text typed (build.Choose n r) s h = inl (choose_refused text typed n r s h)
build_refused text typed build.NoMemory s h = inr refl

pub target_untyped : (text : List ℕ) (t : TargetTree) → Spelled (of_target (edition_of text)) (IsTarget (edition_of text)) text t → (IsTypedTree t → ⊥) →
    IsRefusedTarget text fault.BadTarget
target_untyped text t s h = bad_tree t fault.BadTarget s (untyped h)

-- a text is refused for more where more is bad
module _ {Tree : Type 0} (kind : TextKind) (Is : Tree → List Token → Type 0) (read : Reader Tree) (Bad Worse : Tree → Fault → Type 0)
    (worse : (x : Tree) (f : Fault) → Bad x f → Worse x f) where
  pub caused_too : (text : List ℕ) (f : Fault) → Causes kind Is read Bad text f → Causes kind Is read Worse text f
  caused_too text f (too_long h) = too_long h
  caused_too text f (odd_byte ts p h) = odd_byte ts p h
  caused_too text f (large_number ts p h) = large_number ts p h
  caused_too text f (no_tree ts end p h none place) = no_tree ts end p h none place
  caused_too text f (bad_tree x g s b) = bad_tree x g s (worse x g b)

pub broken_refused : (text : List ℕ) (f : Fault) → IsBrokenSource text f ⊎ (f ≡ fault.NoMemory) → IsRefusedSource text f ⊎ (f ≡ fault.NoMemory)
broken_refused text f (inl h) = inl (caused_too (of_source (edition_of text)) (IsProgram (edition_of text)) (program_of (edition_of text) 200)
    (IsBroken (edition_of text) Plain) (IsBadProgram (edition_of text)) (λ program f. unruly f) text f h)
broken_refused text f (inr memory) = inr memory

-- a text that is misspelled is refused, whatever rules there are
pub misspelled_or : (Bad : Edition → List RawItemTree → Fault → Type 0) (text : List ℕ) (f : Fault) → IsMisspelled text f ⊎ (f ≡ fault.NoMemory) →
    CausesOf Bad text f ⊎ (f ≡ fault.NoMemory)
misspelled_or Bad text f (inl h) = inl (caused_too (of_source (edition_of text)) (IsProgram (edition_of text)) (program_of (edition_of text) 200) (λ x g. ⊥)
    (Bad (edition_of text)) (λ x g b. absurd b) text f h)
misspelled_or Bad text f (inr e) = inr e

-- the program that a text spells, with its types, or why it is refused by its rules
pub read_verdict : (edition : Edition) (text : List ℕ) (program : List RawItemTree) (r : Result Typed Fault) → edition ≡ edition_of text →
    SpellsProgram text program → IsVerdict (λ x. IsTypedBy edition Plain program (typed_tree x)) (IsBroken edition Plain program) r →
    IsVerdict (λ x. IsTypedSource text (typed_tree x)) (IsBrokenSource text) r
read_verdict edition text program (Ok x) is s v = (program, s, subst (λ e. IsTypedBy e Plain program (typed_tree x)) is v)
read_verdict edition text program (Err f) is s (inl b) = inl (bad_tree program f s (subst (λ e. IsBroken e Plain program f) is b))
read_verdict edition text program (Err f) is s (inr memory) = inr memory

-- the same of edition 3, as a source is checked
pub checked_verdict : (name text : List ℕ) (program : List RawItemTree) (r : Result CheckedSource Fault) → edition_of text ≡ Three →
    SpellsProgram text program → IsVerdict (IsCheckedProgram name program) (IsBroken Three Plain program) r →
    IsVerdict (IsCheckedSource name text) (IsBrokenSource text) r
checked_verdict name text program (Ok x) is s v = (program, s, v)
checked_verdict name text program (Err f) is s (inl b) = inl (bad_tree program f s (subst (λ e. IsBroken e Plain program f) (sym is) b))
checked_verdict name text program (Err f) is s (inr memory) = inr memory

-- the same of edition 3, with what is told of its chooses
pub formed_verdict : (text : List ℕ) (program : List RawItemTree) (r : Result Formed Fault) → edition_of text ≡ Three → SpellsProgram text program →
    IsVerdict (IsFormedProgram program) (IsBroken Three Plain program) r → IsVerdict (IsFormedSource text) (IsBrokenSource text) r
formed_verdict text program (Ok x) is s v = (program, s, v)
formed_verdict text program (Err f) is s (inl b) = inl (bad_tree program f s (subst (λ e. IsBroken e Plain program f) (sym is) b))
formed_verdict text program (Err f) is s (inr memory) = inr memory
