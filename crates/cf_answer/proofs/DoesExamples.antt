-- Worked examples: what comes of a command on its files, clause by clause, on a text that is one byte too long.
use Rattle.std.proofs.Common.{◌≡◌, inl, inr, ◌<◌, ◌≤◌, ◌+◌, ap, subst, refl, ℕ, ◌-◌, true, false, List, [], ◌∷◌, length, Some, None, arith, codes}
use Rattle.std.specs.Prelude.{Result, Err}
use Rattle.cf_io.specs.Limits.{input_limit, IsWithin}
use Rattle.cf_io.specs.Seen.{ShelfSeen, SourceSeen, SinkSeen}
use Rattle.cf_form.specs.declared.fault.FormFault.TheVariants as form
use Rattle.cf_pass.specs.Passes.{Told}
use Rattle.cf_words.specs.Commands.{compile, pre}
use Rattle.cf_answer.specs.Ends.{AnswersOn, Does}
use Rattle.cf_answer.specs.Limits.{input_most, text_limit}
use Rattle.cf_answer.specs.Outside.{outside, streams, AreTexts, one_past}
use Rattle.cf_answer.specs.Refusals.{broken, wide, unruly, refused, too_long, odd_byte, large_number, no_tree, bad_tree, Refuses}
use Rattle.cf_answer.specs.declared.fault.Fault.{Fault}
use Rattle.cf_answer.specs.declared.fault.Fault.TheVariants as fault
use Rattle.cf_answer.proofs.OutsideLemmas.{none_within, nothing_read}

abbrev name : List ℕ
name = codes "a"

-- a pass after so many turns
abbrev turned : ℕ → List Told
turned turns = record { name = codes "fold"; tally = 0; turns = turns; makes = λ n c. c; whole = true } ∷ []

-- the turns of the first
abbrev first_turns : List Told → ℕ
first_turns [] = 0
first_turns (p ∷ ps) = p.turns

abbrev first_byte : List ℕ → ℕ
first_byte [] = 0
first_byte (b ∷ bytes) = b

-- an input of which reads gave so much, and which failed so often
abbrev input : ℕ → ℕ → SourceSeen
input given faults = record { left = Some (codes "9\n"); faults = faults; given = given; ends = 0 }

-- `out` with these bytes, which failed so often
abbrev out : List ℕ → ℕ → SinkSeen
out bytes faults = record { held = Some bytes; faults = faults }

-- ---- on the texts of the files
abbrev OnTexts : List (List ℕ) → ℕ → SourceSeen → SinkSeen → Result (Unit {0}) Fault → Type 0
OnTexts files turns read written answer =
    AnswersOn (pre name) (turned 3) (turned turns) files (streams (input 0 0) (out (codes "old") 0)) (streams read written) answer

module _ (text : List ℕ) where
  too_long_told : length text ≡ 1048577 → OnTexts (text ∷ []) 3 (input 0 0) (out (codes "old") 0) (Err fault.TextTooLong)
  unfolding text_limit
  too_long_told e = record {
    passed = refl;
    spared = λ f r. refl;
    ends = (too_long (omega (arith, e)), refl);
    sparing = nothing_read (input_most (text ∷ [])) (input 0 0);
    input = record { same = λ no. refl; rose = λ e. cc };
    out = record { same = λ no. refl; rose = λ e. cc };
    not_usage = λ e. cc;
    not_file = λ e. cc;
  }

  -- `pre` calls no pass
  pass_called : OnTexts (text ∷ []) 4 (input 0 0) (out (codes "old") 0) (Err fault.TextTooLong) → ⊥
  pass_called h = let same : 4 ≡ 3 = ap first_turns h.passed in omega (arith, same)

  -- `compile` calls them, but for no text that is refused, also where memory ran out
  abbrev Compiling : ℕ → Result (Unit {0}) Fault → Type 0
  Compiling turns answer =
      AnswersOn (compile (record { plain = false; stats = false }) name) (turned 3) (turned turns) (text ∷ [])
      (streams (input 0 0) (out (codes "old") 0)) (streams (input 0 0) (out (codes "old") 0)) answer

  pass_called_for_a_refusal : Compiling 4 (Err fault.TextTooLong) → ⊥
  pass_called_for_a_refusal h = let same : 4 ≡ 3 = ap first_turns (h.spared fault.TextTooLong h.ends.0) in omega (arith, same)

  pass_called_without_memory : length text ≡ 1048577 → Compiling 4 (Err fault.NoMemory) → ⊥
  unfolding text_limit
  pass_called_without_memory e h =
      let same : 4 ≡ 3 = ap first_turns (h.spared fault.TextTooLong (too_long (omega (arith, e)))) in omega (arith, same)

  turned_without_memory : ((f : Fault) → Refuses (compile (record { plain = false; stats = false }) name) (text ∷ []) f → ⊥) → Compiling 4 (Err fault.NoMemory)
  turned_without_memory accepted = record {
    passed = inl (record { name = refl; tally = omega arith; turns = refl }, tt);
    spared = λ f r. absurd (accepted f r);
    ends = inr refl;
    sparing = nothing_read (input_most (text ∷ [])) (input 0 0);
    input = record { same = λ no. refl; rose = λ e. cc };
    out = record { same = λ no. refl; rose = λ e. cc };
    not_usage = λ e. cc;
    not_file = λ e. cc;
  }

  bytes_written : OnTexts (text ∷ []) 3 (input 0 0) (out (codes "new") 0) (Err fault.TextTooLong) → ⊥
  bytes_written h = let e : codes "new" ≡ codes "old" = cc h.ends.1 in let n : 110 ≡ 111 = ap first_byte e in omega (arith, n)

  another_number_of_files : OnTexts [] 3 (input 0 0) (out (codes "old") 0) (Err fault.TextTooLong) → ⊥
  another_number_of_files h = h.ends.0

  -- two bytes more than the limit
  more_read : input_most (text ∷ []) ≡ Some input_limit →
      OnTexts (text ∷ []) 3 (input (input_limit + 2) 0) (out (codes "old") 0) (Err fault.TextTooLong) → ⊥
  more_read limited h =
      let given : IsWithin (one_past (Some input_limit)) ((input_limit + 2) - 0) =
      subst (λ most. IsWithin (one_past most) ((input_limit + 2) - 0)) limited h.sparing.given in omega (arith, given)

  input_failed : OnTexts (text ∷ []) 3 (input 0 1) (out (codes "old") 0) (Err fault.TextTooLong) → ⊥
  input_failed h = let same : 1 ≡ 0 = h.input.same (λ e. cc) in omega (arith, same)

  out_failed : OnTexts (text ∷ []) 3 (input 0 0) (out (codes "old") 1) (Err fault.TextTooLong) → ⊥
  out_failed h = let same : 1 ≡ 0 = h.out.same (λ e. cc) in omega (arith, same)

  usage_told : OnTexts (text ∷ []) 3 (input 0 0) (out (codes "old") 0) (Err fault.Usage) → ⊥
  usage_told h = h.not_usage refl

  file_told : OnTexts (text ∷ []) 3 (input 0 0) (out (codes "old") 0) (Err fault.File) → ⊥
  file_told h = h.not_file refl

-- ---- on the shelf, which tells under each name this text
abbrev shelf : List ℕ → ℕ → ℕ → ShelfSeen
shelf text fetches failed = record { texts = λ n. Some text; left = None; faults = λ n. failed; fetches = fetches; given = 0; ends = 0 }

abbrev OnShelf : List ℕ → ℕ → ShelfSeen → SourceSeen → Type 0
OnShelf text turns after read =
    Does (pre name) (turned 3) (turned turns) (outside (shelf text 5 0) (input 0 0) (out (codes "old") 0)) (outside after read (out (codes "old") 0))
    (Err fault.TextTooLong)

module _ (text : List ℕ) where
  fetched_once : length text ≡ 1048577 → OnShelf text 3 (shelf text 6 0) (input 0 0)
  unfolding text_limit
  fetched_once e = let none = none_within (one_past (input_most (text ∷ []))) in record {
    files = text ∷ [];
    told = (refl, tt);
    passed = refl;
    spared = λ f r. refl;
    ends = (too_long (omega (arith, e)), refl);
    blames = record {
      files = λ no n. refl;
      file = λ e. cc;
      others = λ e. cc;
      input = record { same = λ no. refl; rose = λ e. cc };
      out = record { same = λ no. refl; rose = λ e. cc };
    };
    frugal = record {
      fetches = omega arith;
      file = inl refl;
      given = omega arith;
      ends = omega arith;
      input = record { front = ([], none, refl); given = none; ends = omega arith };
    };
  }

  -- the text that is refused is the one on the shelf
  text_on_shelf : length text ≡ 1048576 → OnShelf text 3 (shelf text 6 0) (input 0 0) → ⊥
  unfolding text_limit
  text_on_shelf e h = no h.files h.told h.ends.0
    where
      short : (f : Fault) → f ≡ fault.TextTooLong → Refuses (pre name) (text ∷ []) f → length text ≤ text_limit → ⊥
      short f is (too_long l) k = omega (arith, l, k)
      short f is (odd_byte ts p s) k = cc is
      short f is (large_number ts p s) k = cc is
      short f is (no_tree ts end p s without place) k = cc is
      short f is (bad_tree x g s (unruly h (broken r b))) k = cc is
      short f is (bad_tree x g s (unruly h (wide source (form.Cases m c) three ch u))) k = cc is
      short f is (bad_tree x g s (unruly h (wide source (form.Weight d w) three ch u))) k = cc is
      short f is (bad_tree x g s (unruly h (wide source (form.Depth d w) three ch u))) k = cc is
      short f is (bad_tree x g s (unruly h (wide source form.NoMemory three ch u))) k = cc is
      short f is (bad_tree x g s (refused typed n r c b)) k = cc is

      no : (files : List (List ℕ)) → AreTexts (λ n. Some text) (name ∷ []) files → Refuses (pre name) files fault.TextTooLong → ⊥
      no [] t r = t
      no (x ∷ []) t r = let same : text ≡ x = t.0 in short fault.TextTooLong refl (rw (← same) at r) (omega (arith, e))
      no (x ∷ y ∷ more) t r = t.1

  pass_called_for_it : OnShelf text 4 (shelf text 6 0) (input 0 0) → ⊥
  pass_called_for_it h = let same : 4 ≡ 3 = ap first_turns h.passed in omega (arith, same)

  pass_called_without_memory_for_it : length text ≡ 1048577 →
      Does (compile (record { plain = false; stats = false }) name) (turned 3) (turned 4) (outside (shelf text 5 0) (input 0 0) (out (codes "old") 0))
      (outside (shelf text 6 0) (input 0 0) (out (codes "old") 0)) (Err fault.NoMemory) → ⊥
  unfolding text_limit
  pass_called_without_memory_for_it e h = no h.files h.told h.spared
    where
      no : (files : List (List ℕ)) → AreTexts (λ n. Some text) (name ∷ []) files →
          ((f : Fault) → Refuses (compile (record { plain = false; stats = false }) name) files f → turned 4 ≡ turned 3) → ⊥
      no [] t spared = t
      no (x ∷ []) t spared =
          let long : text_limit < length x = subst (λ v. text_limit < length v) t.0 (omega (arith, e)) in
          let same : 4 ≡ 3 = ap first_turns (spared fault.TextTooLong (too_long long)) in omega (arith, same)
      no (x ∷ y ∷ more) t spared = t.1

  file_failed : OnShelf text 3 (shelf text 6 1) (input 0 0) → ⊥
  file_failed h = let same : 1 ≡ 0 = h.blames.files (λ e. cc) name in omega (arith, same)

  fetched_twice : OnShelf text 3 (shelf text 7 0) (input 0 0) → ⊥
  fetched_twice h = let few = h.frugal.fetches in omega (arith, few)
