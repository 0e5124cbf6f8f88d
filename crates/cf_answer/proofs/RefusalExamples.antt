-- For what a text is refused, where a syntax fault stands, and for which fault each command is refused.
use Rattle.std.proofs.Common.{◌≡◌, inl, inr, ◌≤◌, ◌<◌, ◌∙◌, sym, subst, refl, ap, ℕ, pos, true, List, [], ◌∷◌, length, arith, codes}
use Rattle.std.specs.Prelude.{Result, Ok, Err}
use Rattle.cf_lex.specs.declared.token.Token.{Token}
use Rattle.cf_lex.specs.declared.token.TokenKind.TheVariants.{Word}
use Rattle.cf_lex.specs.Places.{first_place}
use Rattle.cf_lex.specs.Tokens.{none, bad_byte, past_limit, at_end}
use Rattle.cf_tree.specs.CodeTree.{CodeTree, code_lit, code_truth}
use Rattle.cf_tree.specs.DefView.{RawItemTree, TargetTree}
use Rattle.cf_tree.specs.declared.base.Base.TheVariants.{Int}
use Rattle.cf_tree.specs.declared.base.Edition.{Edition}
use Rattle.cf_tree.specs.declared.base.Edition.TheVariants.{Two, Three}
use Rattle.cf_tree.specs.declared.base.Place.{Place}
use Rattle.cf_reader.specs.Faults.{IsFaultPlace, place_with_left}
use Rattle.cf_reader.specs.Readers.{Reader}
use Rattle.cf_program.specs.Checked.{TypedTree, checked}
use Rattle.cf_program.specs.declared.fault.TypeFault.{TypeFault}
use Rattle.cf_program.specs.declared.fault.TypeFault.TheVariants as rule
use Rattle.cf_program.specs.declared.linearity.Linearity.{Linearity}
use Rattle.cf_form.specs.FormAnswers.{IsFormOf, IsUnformed}
use Rattle.cf_form.specs.declared.fault.FormFault.TheVariants as form
use Rattle.cf_linear.specs.declared.refusal.Refusal.TheVariants.{Limit}
use Rattle.cf_linear.specs.declared.refusal.LimitKind.TheVariants.{Cases}
use Rattle.cf_tree.specs.ChooseTree.{ChooseTree}
use Rattle.cf_form.specs.Branches.{Branch}
use Rattle.cf_lex.specs.Editions.{edition_of}
use Rattle.cf_steps.specs.Blocks.{BlockTree}
use Rattle.cf_steps.specs.Reading.{all_blocks}
use Rattle.cf_steps.specs.Spelling.{AreBlocks}
use Rattle.cf_cert.specs.declared.verdict.Verdict.TheVariants.{Rejected}
use Rattle.cf_cert.specs.declared.verdict.Why.{Why}
use Rattle.cf_words.specs.Commands.{compile, run, pre, check, exec, prove, verify, gen, help, version}
use Rattle.cf_words.specs.declared.command.Flags.{Flags}
use Rattle.cf_words.specs.declared.command.ReplyForm.{ReplyForm}
use Rattle.cf_words.specs.declared.command.Strictness.TheVariants as strictness
use Rattle.cf_answer.specs.Limits.{TextKind, text_limit, written_limit, of_source, of_target, most_of}
use Rattle.cf_answer.specs.Refusals.{IsBroken, broken, wide, form_fault, CausesOf}
use Rattle.cf_answer.specs.Refusals.{IsSyntaxPlace, Causes, too_long, odd_byte, large_number, no_tree, bad_tree}
use Rattle.cf_answer.specs.Refusals.{IsRefusedSource, IsRefusedRun, IsRefusedTarget, IsRefusedSteps, IsBadTarget, untyped, IsBrokenSource}
use Rattle.cf_answer.specs.Refusals.{IsUnverified, bad_source, bad_steps, bad_blocks, text_fault, Refuses, IsAccepted}
use Rattle.cf_answer.specs.Branches.{AreBranched, IsVerdictIn}
use Rattle.cf_answer.specs.Sources.{HasTokens, Spelled, SpellsProgram, IsTypedBy, IsTypedSource}
use Rattle.cf_answer.specs.declared.fault.Fault.{Fault}
use Rattle.cf_answer.specs.declared.fault.Fault.TheVariants as fault
use Rattle.cf_answer.specs.declared.fault.StepsFault.{StepsFault}
use Rattle.cf_answer.specs.declared.fault.StepsFault.TheVariants as steps_fault

-- ---- what a text spells
short : length {A = ℕ} [] ≤ text_limit
unfolding text_limit
short = omega arith

-- the empty text spells a tree of which each list of no tokens is one
spelled : Spelled {Tree = ℕ} (of_source Two) (λ n ts. ts ≡ []) [] 7
spelled = ([], first_place, (short, ([], none, refl)), refl)

spelled-by_its_tokens : (text : List ℕ) → Spelled {Tree = ℕ} (of_source Two) (λ n ts. ⊥) text 7 → ⊥
spelled-by_its_tokens text h = h.3

no-tokens_past_the_limit : (text : List ℕ) (ts : List Token) (p : Place) → length text ≡ 1048577 → HasTokens (of_source Two) text ts p at_end → ⊥
unfolding text_limit
no-tokens_past_the_limit text ts p e h = omega (arith, e, h.0)

-- ---- causes, where Is says which tokens spell a tree, `read` reads it, and Bad says for which faults it is refused
module _ (Is : ℕ → List Token → Type 0) (read : Reader ℕ) (Bad : ℕ → Fault → Type 0) (text : List ℕ) where
  abbrev Refused : Fault → Type 0
  Refused f = Causes (of_source Two) Is read Bad text f

  past-the_limit : length text ≡ 1048577 → Refused fault.TextTooLong
  unfolding text_limit
  past-the_limit e = too_long (omega (arith, e))

  at-a_byte : (ts : List Token) (p : Place) → HasTokens (of_source Two) text ts p bad_byte → Refused (fault.BadByte p)
  at-a_byte ts p h = odd_byte ts p h

  at-a_number : (ts : List Token) (p : Place) → HasTokens (of_source Two) text ts p past_limit → Refused (fault.NumberPast p)
  at-a_number ts p h = large_number ts p h

  at-a_token : (ts : List Token) (end p : Place) → HasTokens (of_source Two) text ts end at_end → ((x : ℕ) → Is x ts → ⊥) → IsSyntaxPlace Is read ts end p →
      Refused (fault.Syntax p)
  at-a_token ts end p h without place = no_tree ts end p h without place

  by-its_tree : (x : ℕ) (f : Fault) → Spelled (of_source Two) Is text x → Bad x f → Refused f
  by-its_tree x f s b = bad_tree x f s b

-- ---- and nothing else: what such a fault says where a tree is never bad
module _ {Tree : Type 0} (kind : TextKind) (Is : Tree → List Token → Type 0) (read : Reader Tree) (text : List ℕ) where
  abbrev OnlyText : Fault → Type 0
  OnlyText f = Causes kind Is read (λ x g. ⊥) text f

  within-the_limit : most_of kind ≡ 1048576 → (f : Fault) → f ≡ fault.TextTooLong → length text ≡ 1048576 → OnlyText f → ⊥
  within-the_limit most f is e (too_long l) = omega (arith, most, e, l)
  within-the_limit most f is e (odd_byte ts p h) = cc is
  within-the_limit most f is e (large_number ts p h) = cc is
  within-the_limit most f is e (no_tree ts end p h without place) = cc is
  within-the_limit most f is e (bad_tree x g s b) = b

  byte-told : (f : Fault) (p : Place) → f ≡ fault.BadByte p → OnlyText f → (ts : List Token) × HasTokens kind text ts p bad_byte
  byte-told f p is (too_long l) = absurd (cc is)
  byte-told f p is (odd_byte ts q h) = let same : q ≡ p = cc is in (ts, rw (← same) h)
  byte-told f p is (large_number ts q h) = absurd (cc is)
  byte-told f p is (no_tree ts end q h without place) = absurd (cc is)
  byte-told f p is (bad_tree x g s b) = absurd b

  number-told : (f : Fault) (p : Place) → f ≡ fault.NumberPast p → OnlyText f → (ts : List Token) × HasTokens kind text ts p past_limit
  number-told f p is (too_long l) = absurd (cc is)
  number-told f p is (odd_byte ts q h) = absurd (cc is)
  number-told f p is (large_number ts q h) = let same : q ≡ p = cc is in (ts, rw (← same) h)
  number-told f p is (no_tree ts end q h without place) = absurd (cc is)
  number-told f p is (bad_tree x g s b) = absurd b

  syntax-told : (f : Fault) (p : Place) → f ≡ fault.Syntax p → OnlyText f →
      (ts : List Token) × (end : Place) × HasTokens kind text ts end at_end × ((x : Tree) → Is x ts → ⊥) × IsSyntaxPlace Is read ts end p
  syntax-told f p is (too_long l) = absurd (cc is)
  syntax-told f p is (odd_byte ts q h) = absurd (cc is)
  syntax-told f p is (large_number ts q h) = absurd (cc is)
  syntax-told f p is (no_tree ts end q h without place) = let same : q ≡ p = cc is in (ts, end, h, without, rw (← same) place)
  syntax-told f p is (bad_tree x g s b) = absurd b

-- ---- where a syntax fault stands
abbrev at : ℕ → Place
at column = record { line = 1; column = column }

abbrev token : ℕ → Token
token column = record { place = at column; kind = Word (codes "a") }

abbrev three : List Token
three = token 1 ∷ token 3 ∷ token 5 ∷ []

-- with two tokens left reading stops at the second; with none left at the end
second-token : IsSyntaxPlace {Tree = ℕ} (λ n ts. ⊥) (λ ts. Err 2) three (at 7) (at 3)
unfolding place_with_left
second-token = record {
  dead = inr (token 1 ∷ [], token 3, token 5 ∷ [], refl, refl, λ other h. h.1);
  exact = record { left = 2; stops = refl; stands = refl };
}

at-the_end : IsSyntaxPlace {Tree = ℕ} (λ n ts. ⊥) (λ ts. Err 0) three (at 7) (at 7)
unfolding place_with_left
at-the_end = record { dead = inl refl; exact = record { left = 0; stops = refl; stands = refl } }

column_of : (p q : Place) → p ≡ q → p.column ≡ q.column
column_of p q e = ap (λ x. x.column) e

second-of_three : place_with_left three (at 7) 2 ≡ at 3
unfolding place_with_left
second-of_three = refl

two-left : (left : ℕ) → ◌≡◌ {A = Result (ℕ × List Token) ℕ} (Err 2) (Err left) → 2 ≡ left
two-left left e = cc e

not-the_third : IsSyntaxPlace {Tree = ℕ} (λ n ts. ⊥) (λ ts. Err 2) three (at 7) (at 5) → ⊥
not-the_third h =
    let stands : at 5 ≡ place_with_left three (at 7) 2 =
    subst (λ n. at 5 ≡ place_with_left three (at 7) n) (sym (two-left h.exact.left h.exact.stops)) h.exact.stands in
    let c : 5 ≡ 3 = column_of (at 5) (at 3) (stands ∙ second-of_three) in omega (arith, c)

-- a tree begins with each list of tokens, so only the end is such a place
not-dead : (read : Reader ℕ) → IsSyntaxPlace {Tree = ℕ} (λ n ts. Unit {0}) read three (at 7) (at 3) → ⊥
not-dead read h = no h.dead
  where
    no : IsFaultPlace (λ us. (x : ℕ) × Unit {0}) three (at 7) (at 3) → ⊥
    no (inl e) = let c : 3 ≡ 7 = column_of (at 3) (at 7) e in omega (arith, c)
    no (inr f) = f.5 [] (0, tt)

-- ---- faults of a steps file's text
steps-faults : (p : Place) → (text_fault steps_fault.TooLong ≡ fault.TextTooLong) × (text_fault (steps_fault.BadByte p) ≡ fault.BadByte p)
    × (text_fault (steps_fault.NumberPast p) ≡ fault.NumberPast p) × (text_fault (steps_fault.Syntax p) ≡ fault.Syntax p)
steps-faults p = (refl, refl, refl, refl)

module _ (source steps : List ℕ) where
  -- a source is refused first, whatever the steps are
  source-first : (f : Fault) → IsBrokenSource source f → IsUnverified source steps f
  source-first f b = bad_source f b

  -- then the text of the steps is
  long-steps : (typed : TypedTree) → IsTypedSource source typed → edition_of source ≡ Two → length steps ≡ 1048577 →
      IsUnverified source steps (fault.Steps steps_fault.TooLong)
  unfolding text_limit
  long-steps typed s two e =
      bad_steps typed steps_fault.TooLong s (too_long (subst (λ edition. most_of (of_target edition) < length steps) (sym two) (omega (arith, e))))

  long-steps_of_three : (typed : TypedTree) → IsTypedSource source typed → edition_of source ≡ Three → length steps ≡ 67108865 →
      IsUnverified source steps (fault.Steps steps_fault.TooLong)
  unfolding written_limit
  long-steps_of_three typed s three e =
      bad_steps typed steps_fault.TooLong s (too_long (subst (λ edition. most_of (of_target edition) < length steps) (sym three) (omega (arith, e))))

  -- and then the first fault in the blocks for the chooses in the order of their numbers
  first-in_blocks : (cs : List (ChooseTree × Branch)) (bs : List BlockTree) (n i j : ℕ) (w : Why) → AreBranched source cs →
      Spelled (of_target (edition_of source)) (AreBlocks (edition_of source)) steps bs → IsVerdictIn cs bs (Rejected n i j w) →
      IsUnverified source steps (fault.Rejected n i j w)
  first-in_blocks cs bs n i j w c b v = bad_blocks cs bs n i j w c b v

  -- ---- and nothing else, where no rule of the source is broken
  module _ (unbroken : (f : Fault) → IsBrokenSource source f → ⊥) where
    steps-told : (f : Fault) (e : StepsFault) → f ≡ fault.Steps e → IsUnverified source steps f →
        (typed : TypedTree) × IsTypedSource source typed × IsRefusedSteps (edition_of source) steps e
    steps-told f e is (bad_source g b) = absurd (unbroken g b)
    steps-told f e is (bad_steps typed d s r) = let same : d ≡ e = cc is in (typed, s, rw (← same) r)
    steps-told f e is (bad_blocks cs bs n i j w c b v) = absurd (cc is)

    blocks-told : (f : Fault) (n i j : ℕ) (w : Why) → f ≡ fault.Rejected n i j w → IsUnverified source steps f →
        (cs : List (ChooseTree × Branch)) × (bs : List BlockTree) × AreBranched source cs
        × Spelled (of_target (edition_of source)) (AreBlocks (edition_of source)) steps bs × IsVerdictIn cs bs (Rejected n i j w)
    blocks-told f n i j w is (bad_source g b) = absurd (unbroken g b)
    blocks-told f n i j w is (bad_steps typed d s r) = absurd (cc is)
    blocks-told f n i j w is (bad_blocks cs bs m k l y c b v) =
        let first : m ≡ n = cc is in
        let second : k ≡ i = cc is in
        let third : l ≡ j = cc is in
        let why : y ≡ w = cc is in (cs, bs, c, b, rw (← first, ← second, ← third, ← why) v)

    no-other : (f : Fault) → f ≡ fault.TextTooLong → IsUnverified source steps f → ⊥
    no-other f is (bad_source g b) = unbroken g b
    no-other f is (bad_steps typed d s r) = cc is
    no-other f is (bad_blocks cs bs m k l y c b v) = cc is

-- steps that spell blocks are not refused for their text
spelled-steps : (steps : List ℕ) (e : StepsFault) → text_fault e ≡ fault.TextTooLong → length steps ≡ 1048576 → IsRefusedSteps Two steps e → ⊥
unfolding text_limit
spelled-steps steps e is l r = within-the_limit (of_target Two) (AreBlocks Two) (all_blocks Two 500) steps (omega arith) (text_fault e) is l r

-- ---- a target is refused where its code is not of its results, and for that alone
abbrev giving : CodeTree → TargetTree
giving code = record { params = []; results = Int ∷ []; code = code }

truth-for_a_number : IsBadTarget (giving (code_truth true)) fault.BadTarget
truth-for_a_number = untyped (λ h. cc (h.0))

number-given : (f : Fault) → IsBadTarget (giving (code_lit (pos 1))) f → ⊥
number-given f (untyped n) = n (refl, refl)

one-fault : (t : TargetTree) (f : Fault) → IsBadTarget t f → f ≡ fault.BadTarget
one-fault t f (untyped n) = refl

-- ---- for which fault each command is refused
module _ (flags : Flags) (form : ReplyForm) (name other text more : List ℕ) (n : ℕ) (f : Fault) where
  abbrev Same : Type 0 → Type 0 → Type 0
  Same A B = (A → B) × (B → A)

  sources : Same (Refuses (compile flags name) (text ∷ []) f) (IsRefusedSource text f) × Same (Refuses (pre name) (text ∷ []) f) (IsRefusedSource text f)
      × Same (Refuses (check strictness.Told name) (text ∷ []) f) (IsRefusedSource text f) × Same (Refuses (prove name) (text ∷ []) f) (IsRefusedSource text f)
  sources = (((λ h. h), λ h. h), ((λ h. h), λ h. h), ((λ h. h), λ h. h), ((λ h. h), λ h. h))

  runs : Same (Refuses (run flags form name) (text ∷ []) f) (IsRefusedRun text f)
  runs = ((λ h. h), λ h. h)

  targets : Same (Refuses (exec form name) (text ∷ []) f) (IsRefusedTarget text f)
  targets = ((λ h. h), λ h. h)

  steps : Same (Refuses (verify name other) (text ∷ more ∷ []) f) (IsUnverified text more f)
  steps = ((λ h. h), λ h. h)

  -- what is refused is not accepted
  refused-not_accepted : Refuses (compile flags name) (text ∷ []) f → IsAccepted (compile flags name) (text ∷ []) → ⊥
  refused-not_accepted r accepted = accepted f r

  about-the_program : (Refuses help [] f → ⊥) × (Refuses version [] f → ⊥)
  about-the_program = ((λ h. h), λ h. h)

  other-files : (Refuses (compile flags name) [] f → ⊥) × (Refuses (verify name other) (text ∷ []) f → ⊥) × (Refuses (gen n) (text ∷ []) f → ⊥)
  other-files = ((λ h. h), (λ h. h), λ h. h)

-- ---- for which faults the rules refuse a program
abbrev broken_rule : TypeFault
broken_rule = rule.NoMain

module _ (how : Linearity) (program : List RawItemTree) (source typed : TypedTree) where
  -- of both editions for the first rule that is broken, which `run` asks for too
  by-a_rule : (edition : Edition) → checked edition how program ≡ Err broken_rule → IsBroken edition how program (fault.Rule broken_rule)
  by-a_rule edition e = broken broken_rule e

  -- of edition 3 also for the limits of its forms, where no rule is broken
  by-too_many_cases : checked Three how program ≡ Ok source → IsUnformed source.defs (form.Cases 2 1025) →
      IsBroken Three how program (fault.Choose 2 (Limit Cases 1025))
  by-too_many_cases e u = wide source (form.Cases 2 1025) refl e u

  -- and language 2 for none of these
  told-by_rules : (f : Fault) → IsBroken Two how program f → (e : TypeFault) × (checked Two how program ≡ Err e) × (f ≡ fault.Rule e)
  told-by_rules f (broken e h) = (e, h, refl)
  told-by_rules f (wide other e is h u) = absurd (cc is)

  -- a program of language 2 is what the rules make of it, and one of edition 3 what this is formed to
  typed-of_two : (IsTypedBy Two how program typed → checked Two how program ≡ Ok typed) × (checked Two how program ≡ Ok typed → IsTypedBy Two how program typed)
  typed-of_two = ((λ h. h), λ h. h)

  typed-of_three : (IsTypedBy Three how program typed → (x : TypedTree) × (checked Three how program ≡ Ok x) × IsFormOf how x typed)
      × ((x : TypedTree) × (checked Three how program ≡ Ok x) × IsFormOf how x typed → IsTypedBy Three how program typed)
  typed-of_three = ((λ h. h), λ h. h)

forms-told : (form_fault (form.Cases 2 1025) ≡ fault.Choose 2 (Limit Cases 1025)) × (form_fault (form.Weight 3 1000001) ≡ fault.Weight 3 1000001)
    × (form_fault (form.Depth 3 201) ≡ fault.Depth 3 201) × (form_fault form.NoMemory ≡ fault.NoMemory)
forms-told = (refl, refl, refl, refl)

-- ---- the edition of a source is that of its header
abbrev with_header : List ℕ
with_header = codes "comfusy 3"

abbrev IsAt : Edition → List RawItemTree → Fault → Type 0
IsAt edition program f = edition ≡ Three

header-asked : (program : List RawItemTree) → SpellsProgram with_header program → CausesOf IsAt with_header fault.BadTarget
header-asked program s = bad_tree program fault.BadTarget s refl

no-header_asked : (f : Fault) → f ≡ fault.BadTarget → CausesOf IsAt [] f → ⊥
no-header_asked f is (too_long l) = cc is
no-header_asked f is (odd_byte ts p h) = cc is
no-header_asked f is (large_number ts p h) = cc is
no-header_asked f is (no_tree ts end p h without place) = cc is
no-header_asked f is (bad_tree x g s b) = cc b
