-- From reading a source and a steps file to what `verify` does.
use Rattle.std.proofs.Common.{◌≡◌, ◌∙◌, inl, inr, sym, ap, subst, refl, ℕ, ◌≤◌, ◌+◌, Bool, true, false, not, List, [], ◌∷◌, ◌++◌, map, flat_map, take, drop, get_or, append-nil, Some, None, arith, rules}
use Rattle.std.proofs.lemmas.List.{take_more, take_all, map-append}
use Rattle.std.proofs.lemmas.Grind.{flat_map-append}
use Rattle.std.specs.Prelude.{◌⊎◌, ◌<◌, ◌&&◌, if◌then◌else◌, Option, Result, Err, IfSome, Contains, length}
use Rattle.cf_io.specs.Bytes.{TookFront}
use Rattle.cf_io.specs.Causes.{Rose, one_more}
use Rattle.cf_io.specs.Seen.{ShelfSeen}
use Rattle.cf_pass.specs.Passes.{Told}
use Rattle.cf_words.specs.Commands.{verify}
use Rattle.cf_answer.specs.Ends.{Job, Ends, Does, AnswersOn, AreFetched, source_alone, steps_too, taken_by}
use Rattle.cf_answer.specs.Limits.{input_most, text_limit, written_limit, of_target, most_of}
use Rattle.cf_lex.specs.Editions.{edition_of}
use Rattle.cf_tree.specs.declared.base.Edition.{Edition}
use Rattle.cf_tree.specs.declared.base.Edition.TheVariants.{Two, Three}
use Rattle.cf_answer.specs.Outside.{Outside, AreTold, Counts, IsSparing, IsFrugal}
use Rattle.cf_answer.specs.Owed.{Owes}
use Rattle.cf_answer.specs.Refusals.{too_long, IsBrokenSource, IsRefusedSteps, IsUnverified, bad_source, bad_steps, bad_blocks}
use Rattle.cf_answer.specs.Statuses.{status_of}
use Rattle.cf_answer.specs.Sources.{IsTypedSource}
use Rattle.cf_answer.specs.declared.source.ToldProgram.{ToldProgram}
use Rattle.cf_answer.specs.Written.{IsOfText}
use Rattle.cf_answer.specs.Verifying.{edition_in, IsToldProgram, AreMisspelled, AreReadFrom, IsFetched, NoneFailed, IsSourceFault, file_failed, broken_file, no_room}
use Rattle.cf_answer.specs.declared.fault.Fault.{Fault}
use Rattle.cf_answer.specs.declared.fault.Fault.TheVariants as fault
use Rattle.cf_answer.specs.declared.fault.StepsFault.TheVariants as steps_fault
use Rattle.cf_answer.specs.declared.status.Status.{Status}
use Rattle.cf_answer.specs.declared.status.Status.TheVariants.{File, NoMemory}
use Rattle.cf_program.specs.Checked.{TypedTree}
use Rattle.cf_tree.specs.ChooseTree.{ChooseTree}
use Rattle.cf_cases.specs.Holding.{EachOf}
use Rattle.cf_steps.specs.Blocks.{BlockTree}
use Rattle.cf_cert.specs.Judging.{IsVerdict}
use Rattle.cf_cert.specs.Laws.{IsLinearChoose}
use Rattle.cf_cert.specs.declared.verdict.Verdict.{Verdict}
use Rattle.cf_cert.specs.declared.verdict.Verdict.TheVariants.{Yes, Rejected}
use Rattle.cf_cert.specs.declared.verdict.Why.{Why}
use Rattle.std.specs.Str.{bytes_eq}
use Rattle.std.proofs.lemmas.Slice.Eq.{bytes_eq-Decides}
use Rattle.cf_form.specs.Branches.{Branch}
use Rattle.cf_form.specs.Told.{ToldChoose}
use Rattle.cf_steps.specs.declared.block.NamedTruth.{NamedTruth}
use Rattle.cf_answer.specs.Branches.{AreBranched, coming, in_branches, IsVerdictBeside, IsVerdictIn, head_of, same_head, same_truth, wrong_head}
use Rattle.cf_answer.specs.Certificates.{AreHeaded, verified_line}
use Rattle.cf_answer.proofs.CertificateLemmas.{yes_proves}
use Rattle.cf_answer.proofs.CountLemmas.{one_fault}
use Rattle.cf_answer.proofs.SourceLemmas.{plain_chooses}
use Rattle.cf_answer.proofs.OutsideLemmas.{Untouched, none_read, none_written, no_input_fault, no_out_fault, long_text}
use Rattle.cf_answer.proofs.FaultLemmas.{failed, IsTextFault, refused_fault}
use Rattle.cf_answer.proofs.StatusLemmas.{is_file}
use Rattle.cf_answer.proofs.AnswerLemmas.{refused_ends}
use Rattle.cf_answer.proofs.StepLemmas.{left_of, left_told}

-- a source may be no longer than a steps file
source_limit : (edition : Edition) → text_limit ≤ most_of (of_target edition)
unfolding text_limit written_limit
source_limit Two = omega arith
source_limit Three = omega arith

took_less : (most more : ℕ) (old new : Option (List ℕ)) → most ≤ more → TookFront (most + 1) old new → TookFront (more + 1) old new
took_less most more old new less (front, few, is) = (front, omega (arith, less, few), is)

module _ (file steps : List ℕ) (given : List Told) where
  abbrev Verifies : Outside → Outside → Result (Unit {0}) Fault → Type 0
  Verifies before after answer = Does (verify file steps) given given before after answer

  abbrev job_on : List ℕ → List ℕ → Job
  job_on source text = record { command = verify file steps; files = source ∷ text ∷ []; given = given; passes = given }

  file_among : Contains (file ∷ steps ∷ []) file
  file_among = search rules

  steps_among : Contains (file ∷ steps ∷ []) steps
  steps_among = search rules

  -- ---- how much was taken
  abbrev Frugal : List ℕ → Outside → Outside → Type 0
  Frugal source before after = IsFrugal (taken_by (verify file steps) (source ∷ [])) (file ∷ steps ∷ []) before after

  -- one file was fetched, or both
  one_frugal : (source : List ℕ) (before after : Outside) → IsFetched text_limit file before.shelf after.shelf → Untouched before after →
      Frugal source before after
  one_frugal source before after f none =
      let less = source_limit (edition_of source) in
      let most = most_of (of_target (edition_of source)) in record {
        fetches = omega (arith, f.fetched);
        given = omega (arith, f.given, less);
        ends = omega (arith, f.ends);
        file = elim f.front [
          | inl same ↦ inl same
          | inr took ↦ inr
              (file, file_among, took_less text_limit most (before.shelf.texts file) after.shelf.left less took)
        ];
        input = none_read (input_most (source ∷ [])) before after none;
      }

  two_frugal : (source : List ℕ) (before after : Outside) (mid : ShelfSeen) → IsFetched text_limit file before.shelf mid →
      IsFetched (most_of (of_target (edition_of source))) steps mid after.shelf →
      IsSparing (input_most (source ∷ [])) before.streams.input after.streams.input → Frugal source before after
  two_frugal source before after mid f s input =
      let less = source_limit (edition_of source) in
      let most = most_of (of_target (edition_of source)) in record {
        fetches = omega (arith, f.fetched, s.fetched);
        given = omega (arith, f.given, s.given, less);
        ends = omega (arith, f.ends, s.ends);
        file = elim s.front [
          | inl same ↦ elim f.front [
            | inl before_too ↦ inl (same ∙ before_too)
            | inr took ↦ inr (
              file,
              file_among,
              subst (TookFront (most + 1) (before.shelf.texts file)) (sym same)
                  (took_less text_limit most (before.shelf.texts file) mid.left less took),
            )
          ]
          | inr took ↦ inr (steps, steps_among, subst (λ t. TookFront (most + 1) t after.shelf.left) (f.texts steps) took)
        ];
        input = input;
      }

  -- no file failed
  ended_does : (before after : Outside) (source text : List ℕ) (answer : Result (Unit {0}) Fault) →
      AreTold (before.shelf.texts file) source → AreTold (before.shelf.texts steps) text → Ends (job_on source text) before.streams after.streams answer →
      Frugal source before after →
      NoneFailed before.shelf after.shelf → (answer ≡ Err fault.File → ⊥) →
      Counts (answer ≡ Err fault.Input) before.streams.input.faults after.streams.input.faults →
      Counts (answer ≡ Err fault.Output) before.streams.out.faults after.streams.out.faults → Verifies before after answer
  ended_does before after source text answer s t ends frugal same not_file input out = record {
    files = source ∷ text ∷ [];
    told = (s, (t, tt));
    passed = refl;
    spared = λ f r. refl;
    ends = ends;
    blames = record { files = λ _. same; file = λ i. absurd (not_file i); others = λ i. absurd (not_file i); input = input; out = out };
    frugal = frugal;
  }

  -- a file failed
  failed_does : (before after : Outside) (source name : List ℕ) → AreTold (before.shelf.texts file) source → Contains (file ∷ steps ∷ []) name →
      Frugal source before after → Untouched before after → Rose (before.shelf.faults name) (after.shelf.faults name) →
      ((other : List ℕ) → after.shelf.faults other ≤ one_more (before.shelf.faults other)) → Verifies before after (Err fault.File)
  failed_does before after source name told among frugal none rose once = record {
    files = source ∷ left_of (before.shelf.texts steps) ∷ [];
    told = (told, (left_told (before.shelf.texts steps), tt));
    passed = refl;
    spared = λ f r. refl;
    ends = (none_written before after none, refl);
    blames = record {
      files = λ n. absurd (n refl);
      file = λ _. (name, among, one_fault (before.shelf.faults name) (after.shelf.faults name) rose (once name));
      others = λ _. once;
      input = no_input_fault before after none (λ i. cc);
      out = no_out_fault before after none (λ i. cc);
    };
    frugal = frugal;
  }

  -- a fault that names no object
  inner_does : (before after : Outside) (source text : List ℕ) (f : Fault) → AreTold (before.shelf.texts file) source →
      AreTold (before.shelf.texts steps) text →
      Ends (job_on source text) before.streams after.streams (Err f) → Frugal source before after → Untouched before after →
      NoneFailed before.shelf after.shelf → (failed f ≡ Err fault.File → ⊥) → (failed f ≡ Err fault.Input → ⊥) → (failed f ≡ Err fault.Output → ⊥) →
      Verifies before after (Err f)
  inner_does before after source text f s t ends frugal none same not_file not_input not_out =
      ended_does before after source text (Err f) s t ends frugal same not_file (no_input_fault before after none not_input)
      (no_out_fault before after none not_out)

  refused_does : (before after : Outside) (source text : List ℕ) (f : Fault) → AreTold (before.shelf.texts file) source →
      AreTold (before.shelf.texts steps) text →
      IsUnverified source text f → Frugal source before after → Untouched before after → NoneFailed before.shelf after.shelf →
      Verifies before after (Err f)
  refused_does before after source text f s t h frugal none same =
      let is : IsTextFault f = refused_fault (verify file steps) (source ∷ text ∷ []) f h in
      inner_does before after source text f s t (refused_ends (job_on source text) before.streams after.streams f is h (none_written before after none)) frugal
      none
      same
      (λ e. let this : f ≡ fault.File = cc in subst IsTextFault this is) (λ e. let this : f ≡ fault.Input = cc in subst IsTextFault this is)
      (λ e. let this : f ≡ fault.Output = cc in subst IsTextFault this is)

  memory_does : (before after : Outside) (source : List ℕ) → AreTold (before.shelf.texts file) source → Frugal source before after → Untouched before after →
      NoneFailed before.shelf after.shelf → Verifies before after (Err fault.NoMemory)
  memory_does before after source told frugal none same =
      inner_does before after source (left_of (before.shelf.texts steps)) fault.NoMemory told
      (left_told (before.shelf.texts steps)) (inr (none_written before after none)) frugal none same (λ e. cc) (λ e. cc) (λ e. cc)

  -- ---- the ways in which it ends
  -- the source gave no chooses
  pub source_does : (before after : Outside) (f : Fault) → IsFetched text_limit file before.shelf after.shelf → Untouched before after →
      IsSourceFault file before.shelf after.shelf f → Verifies before after (Err f)
  source_does before after f fetched none (file_failed is rose) =
      let source = left_of (before.shelf.texts file) in
      subst (λ g. Verifies before after (Err g)) (sym is)
      (failed_does before after source file (left_told (before.shelf.texts file)) file_among (one_frugal source before after fetched none) none rose
      fetched.once)
  source_does before after f fetched none (broken_file (text, told, broken) same) =
      refused_does before after text (left_of (before.shelf.texts steps)) f told (left_told (before.shelf.texts steps)) (bad_source f broken)
      (one_frugal text before after fetched none) none same
  source_does before after f fetched none (no_room is same) =
      let source = left_of (before.shelf.texts file) in
      subst (λ g. Verifies before after (Err g)) (sym is)
      (memory_does before after source (left_told (before.shelf.texts file)) (one_frugal source before after fetched none) none same)

  module _ (before after : Outside) (mid : ShelfSeen) (source : List ℕ) (told : AreTold (before.shelf.texts file) source)
      (first : IsFetched text_limit file before.shelf mid) (sound : NoneFailed before.shelf mid)
      (second : IsFetched (most_of (of_target (edition_of source))) steps mid after.shelf) where
    none_more : Untouched before after → Frugal source before after
    none_more none = two_frugal source before after mid first second (none_read (input_most (source ∷ [])) before after none)

    -- the steps file failed
    pub steps_fail : Untouched before after → Rose (mid.faults steps) (after.shelf.faults steps) → Verifies before after (Err fault.File)
    steps_fail none rose =
        failed_does before after source steps told steps_among (none_more none) none
        (subst (λ n. Rose n (after.shelf.faults steps)) (sound steps) rose)
        (λ other. subst (λ n. after.shelf.faults other ≤ one_more n) (sound other) (second.once other))

    both_sound : NoneFailed mid after.shelf → NoneFailed before.shelf after.shelf
    both_sound same other = same other ∙ sound other

    -- its text is too long
    pub long_does : Untouched before after → NoneFailed mid after.shelf → (typed : TypedTree) → IsTypedSource source typed →
        IfSome (before.shelf.texts steps) (λ text. most_of (of_target (edition_of source)) < length text) →
        Verifies before after (Err (fault.Steps steps_fault.TooLong))
    long_does none same typed is long =
        let text = long_text (most_of (of_target (edition_of source))) (before.shelf.texts steps) long in
        refused_does before after source text.0 (fault.Steps steps_fault.TooLong) told text.1 (bad_steps typed steps_fault.TooLong is (too_long text.2))
        (none_more none) none (both_sound same)

    pub no_memory_does : Untouched before after → NoneFailed mid after.shelf → Verifies before after (Err fault.NoMemory)
    no_memory_does none same = memory_does before after source told (none_more none) none (both_sound same)

    -- its text is checked
    pub checked_does : (text : List ℕ) (answer : Result (Unit {0}) Fault) → AreTold (before.shelf.texts steps) text →
        AnswersOn (verify file steps) given given (source ∷ text ∷ []) before.streams after.streams answer → NoneFailed mid after.shelf →
        Verifies before after answer
    checked_does text answer t h same =
        ended_does before after source text answer told t h.ends (two_frugal source before after mid first second h.sparing) (both_sound same) h.not_file
        h.input
        h.out

-- ---- which file was read
broken_text : (source : List ℕ) (f : Fault) → IsBrokenSource source f → IsTextFault f
broken_text source f h = refused_fault (verify [] []) (source ∷ [] ∷ []) f (bad_source f h)

-- why a source gave no chooses is not that the words are no command, and where it is that a file failed, it is this one
pub source_usage : (name : List ℕ) (before after : ShelfSeen) (f : Fault) → IsSourceFault name before after f → failed f ≡ Err fault.Usage → ⊥
source_usage name before after f (file_failed is rose) e = cc
source_usage name before after f (broken_file (text, told, broken) same) e =
    let this : f ≡ fault.Usage = cc in subst IsTextFault this (broken_text text f broken)
source_usage name before after f (no_room is same) e = cc

pub source_unusual : (text : List ℕ) (f : Fault) → IsBrokenSource text f ⊎ (f ≡ fault.NoMemory) → failed f ≡ Err fault.Usage → ⊥
source_unusual text f (inl broken) e = let this : f ≡ fault.Usage = cc in subst IsTextFault this (broken_text text f broken)
source_unusual text f (inr memory) e = cc

source_rose : (name : List ℕ) (before after : ShelfSeen) (f : Fault) → IsSourceFault name before after f → failed f ≡ Err fault.File →
    Rose (before.faults name) (after.faults name)
source_rose name before after f (file_failed is rose) e = rose
source_rose name before after f (broken_file (text, told, broken) same) e =
    let this : f ≡ fault.File = cc in absurd (subst IsTextFault this (broken_text text f broken))
source_rose name before after f (no_room is same) e = cc

-- only the source was fetched, and only it may have failed
pub source_in_order : (file steps : List ℕ) (before after : ShelfSeen) (f : Fault) → IsFetched text_limit file before after →
    IsSourceFault file before after f →
    AreFetched file steps before after (status_of (failed f))
source_in_order file steps before after f fetched h =
    source_alone (omega (arith, fetched.fetched)) (λ is. source_rose file before after f h (is_file (failed f) is))

-- the steps file was fetched behind a source that gave its chooses, and only it may have failed
pub steps_in_order : (file steps : List ℕ) (before mid after : ShelfSeen) (l : ToldProgram) (status : Status) →
    IsFetched text_limit file before mid → (text : List ℕ) × AreTold (before.texts file) text × IsToldProgram text l → NoneFailed before mid →
    (status ≡ File → Rose (mid.faults steps) (after.faults steps)) → AreFetched file steps before after status
steps_in_order file steps before mid after l status first (text, told, s) same rose =
    steps_too text s.lowered.typed told s.lowered.is (λ is. subst (λ n. Rose n (after.faults steps)) (same steps) (rose is))

-- where memory ran out for the message about the source
memory_in_order : (file steps : List ℕ) (before after : ShelfSeen) (status : Status) → AreFetched file steps before after status →
    AreFetched file steps before after NoMemory
memory_in_order file steps before after status (source_alone once rose) = source_alone once (λ e. cc)
memory_in_order file steps before after status (steps_too source typed told is rose) = steps_too source typed told is (λ e. cc)

pub ended_in_order : (file steps : List ℕ) (before after : ShelfSeen) (answer new : Result (Unit {0}) Fault) →
    (new ≡ answer) ⊎ ((new ≡ Err fault.NoMemory) × IsOfText answer) → AreFetched file steps before after (status_of answer) →
    AreFetched file steps before after (status_of new)
ended_in_order file steps before after answer new (inl same) h = subst (λ a. AreFetched file steps before after (status_of a)) (sym same) h
ended_in_order file steps before after answer new (inr (is, t)) h =
    subst (λ a. AreFetched file steps before after (status_of a)) (sym is) (memory_in_order file steps before after (status_of answer) h)

-- ---- the text of a steps file, against the chooses of a source
pub steps_refused : (source steps : List ℕ) (p : ToldProgram) (f : Fault) → IsToldProgram source p →
    AreMisspelled (edition_in p.formed) steps f ⊎ (f ≡ fault.NoMemory) → IsUnverified source steps f ⊎ (f ≡ fault.NoMemory)
steps_refused source steps p f s (inl (e, is, h)) =
    inl (subst (IsUnverified source steps) (sym is) (bad_steps s.lowered.typed e s.lowered.is (subst (λ d. IsRefusedSteps d steps e) (sym s.edition) h)))
steps_refused source steps p f s (inr memory) = inr memory

pub blocks_refused : (source steps : List ℕ) (cs : List (ChooseTree × Branch)) (bs : List BlockTree) (n i j : ℕ) (w : Why) → AreBranched source cs →
    AreReadFrom (edition_of source) steps bs → IsVerdictIn cs bs (Rejected n i j w) → IsUnverified source steps (fault.Rejected n i j w)
blocks_refused source steps cs bs n i j w b r v = bad_blocks cs bs n i j w b r.spelled v

-- the line of one more choose, and those of all
pub lines_next : {Q : Type 0} (plain : Q → ChooseTree) (qs : List Q) (i : ℕ) (q : Q) (text new : List ℕ) → i < length qs → q ≡ get_or qs i q →
    text ≡ flat_map verified_line (map plain (take i qs)) → new ≡ text ++ verified_line (plain q) →
    new ≡ flat_map verified_line (map plain (take (i + 1) qs))
lines_next plain qs i q text new lt is same next =
    let front = take i qs in
    let more : take (i + 1) qs ≡ front ++ q ∷ [] = take_more qs i q lt ∙ ap (λ x. front ++ x ∷ []) (sym is) in
    let all : flat_map verified_line (map plain (take (i + 1) qs)) ≡ flat_map verified_line (map plain front) ++ (verified_line (plain q) ++ []) =
    ap (λ ds. flat_map verified_line (map plain ds)) more
    ∙ ap (flat_map verified_line) (map-append plain front (q ∷ []))
    ∙ flat_map-append verified_line (map plain front) (plain q ∷ []) in
    next ∙ ap (λ s. s ++ verified_line (plain q)) same
    ∙ ap (λ s. flat_map verified_line (map plain front) ++ s) (sym (append-nil (verified_line (plain q)))) ∙ sym all

pub lines_all : {Q : Type 0} (plain : Q → ChooseTree) (qs : List Q) (i : ℕ) (text : List ℕ) → length qs ≤ i →
    text ≡ flat_map verified_line (map plain (take i qs)) → text ≡ flat_map verified_line (map plain qs)
lines_all plain qs i text few same = same ∙ ap (λ ds. flat_map verified_line (map plain ds)) (take_all i qs few)

-- the lines of chooses in their branches are those of the chooses
pub branched_lines : (told : List ToldChoose) (bs : List Branch) (qs : List ChooseTree) →
    flat_map (λ c. verified_line c.0) (in_branches told bs qs) ≡ flat_map verified_line qs
branched_lines told bs [] = refl
branched_lines told bs (q ∷ qs) = ap (λ more. verified_line q ++ more) (branched_lines told (drop 1 (coming told bs q.number)) qs)

-- a Yes on chooses in their branches is one on heads, and one on chooses
yes_beside : (wrong : Option ℕ) (qs : List ChooseTree) (bs : List BlockTree) → IsVerdictBeside wrong qs bs Yes → (wrong ≡ None) × IsVerdict qs bs Yes
yes_beside (Some n) qs bs h = cc h
yes_beside None qs bs h = (refl, h)

-- the verdict where no head is wrong
pub right_verdict : (told : List ToldChoose) (qs : List ChooseTree) (bs : List BlockTree) (v : Verdict) → wrong_head (in_branches told [] qs) bs ≡ None →
    IsVerdict qs bs v → IsVerdictIn (in_branches told [] qs) bs v
right_verdict told qs bs v none h =
    let cs = in_branches told [] qs in
    subst (λ wrong. IsVerdictBeside wrong (map (λ c. c.0) cs) bs v) (sym none)
    (subst (λ ps. IsVerdict ps bs v) (sym (plain_chooses told [] qs)) h)

unless_wrong : (b : Bool) (n : ℕ) (o : Option ℕ) → (if b then o else Some n) ≡ None → (b ≡ true) × (o ≡ None)
unless_wrong true n o e = (refl, e)
unless_wrong false n o e = cc e

same_bool : (b c : Bool) → (if b then c else not c) ≡ true → b ≡ c
same_bool true true e = refl
same_bool true false e = cc e
same_bool false true e = cc e
same_bool false false e = refl

both_true : (b c : Bool) → (b && c) ≡ true → (b ≡ true) × (c ≡ true)
both_true true c e = (refl, e)
both_true false c e = cc e

truth_is : (t u : NamedTruth) → same_truth t u ≡ true → u ≡ t
truth_is t u e =
    let parts = both_true (bytes_eq t.name u.name) _ e in
    let name : t.name ≡ u.name = (bytes_eq-Decides t.name u.name).0 parts.0 in
    let value : t.value ≡ u.value = same_bool t.value u.value parts.1 in
    rw (name, value) refl

head_is : (ts us : List NamedTruth) → same_head ts us ≡ true → us ≡ ts
head_is [] [] e = refl
head_is [] (u ∷ us) e = cc e
head_is (t ∷ ts) [] e = cc e
head_is (t ∷ ts) (u ∷ us) e =
    let parts = both_true (same_truth t u) (same_head ts us) e in
    ap (λ v. v ∷ us) (truth_is t u parts.0) ∙ ap (λ vs. t ∷ vs) (head_is ts us parts.1)

-- where there are as many blocks, and no head is wrong, each names its branch
yes_heads : (cs : List (ChooseTree × Branch)) (bs : List BlockTree) → IsVerdict (map (λ c. c.0) cs) bs Yes → wrong_head cs bs ≡ None → AreHeaded cs bs
yes_heads [] [] h none = refl
yes_heads [] (b ∷ bs) h none = cc h
yes_heads (c ∷ cs) [] h none = cc h
yes_heads (c ∷ cs) (b ∷ bs) (inl h) none =
    let parts = unless_wrong (same_head (head_of c) b.truths) c.0.number (wrong_head cs bs) none in
    ap (λ t. t ∷ map (λ (x : BlockTree). x.truths) bs) (head_is (head_of c) b.truths parts.0)
    ∙ ap (λ ts. head_of c ∷ ts) (yes_heads cs bs h.1 parts.1)
yes_heads (c ∷ cs) (b ∷ bs) (inr (f, is, rejected)) none = cc

pub verified_owes : (name other source steps : List ℕ) (given passes : List Told) (ls : List (List ℕ)) (cs : List (ChooseTree × Branch)) (bs : List BlockTree)
    (text : List ℕ) → AreBranched source cs → EachOf IsLinearChoose (map (λ c. c.0) cs) → AreReadFrom (edition_of source) steps bs → IsVerdictIn cs bs Yes →
    text ≡ flat_map (λ c. verified_line c.0) cs → Owes (verify name other) (source ∷ steps ∷ []) given passes ls text
verified_owes name other source steps given passes ls cs bs text b linear r h lines =
    let y = yes_beside (wrong_head cs bs) (map (λ c. c.0) cs) bs h in
    (cs, b, (bs, r.spelled, yes_heads cs bs y.1 y.0, yes_proves (map (λ c. c.0) cs) bs linear r.within y.1), lines)
