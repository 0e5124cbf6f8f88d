-- Which object is blamed by an answer, how much may be taken of the files and of the input, and what words that are no command do.
use Rattle.std.proofs.Common.{◌≡◌, ◌⊎◌, inl, inr, ◌≤◌, ◌+◌, ◌∙◌, sym, ap, subst, refl, ℕ, zero, suc, Bool, true, false, List, [], ◌∷◌, ◌++◌, length, Option, Some, None, append-nil, length-append, arith, codes}
use Rattle.std.specs.Prelude.{Result, Ok, Err, Contains, if◌then◌else◌}
use Rattle.std.specs.Str.{bytes_eq}
use Rattle.cf_io.specs.Bytes.{TookFront}
use Rattle.cf_io.specs.Limits.{input_limit}
use Rattle.cf_io.specs.Seen.{ShelfSeen, SourceSeen, SinkSeen}
use Rattle.cf_pass.specs.Passes.{Told}
use Rattle.cf_program.specs.Checked.{TypedTree}
use Rattle.cf_words.specs.Commands.{compile, verify}
use Rattle.cf_answer.specs.Ends.{Answers, IsInOrder, source_alone, steps_too}
use Rattle.cf_answer.specs.Limits.{text_limit}
use Rattle.cf_answer.specs.Outside.{Outside, outside, Blames, IsSparing, IsFrugal, Taken}
use Rattle.cf_answer.specs.Refusals.{IsBrokenSource}
use Rattle.cf_answer.specs.Sources.{IsTypedSource}
use Rattle.cf_answer.specs.declared.fault.Fault.{Fault}
use Rattle.cf_answer.specs.declared.fault.Fault.TheVariants as fault
use Rattle.cf_answer.specs.declared.status.Status.{Status}
use Rattle.cf_answer.specs.declared.status.Status.TheVariants.{Done, File}
use Rattle.cf_answer.proofs.CertificateLemmas.{typed_unbroken}

-- under `a` stands `1`, under `b` stands `22`, and no other text is told
abbrev texts : List ℕ → Option (List ℕ)
texts name = if bytes_eq name (codes "a") then Some (codes "1") else (if bytes_eq name (codes "b") then Some (codes "22") else None)

abbrev first_byte : List ℕ → ℕ
first_byte [] = 0
first_byte (b ∷ bytes) = b

-- a shelf whose files have failed so often, and of whose fetched text this is left
abbrev shelf : (List ℕ → ℕ) → Option (List ℕ) → ShelfSeen
shelf faults left = record { texts = texts; left = left; faults = faults; fetches = 5; given = 7; ends = 3 }

abbrev input : ℕ → SourceSeen
input faults = record { left = Some (codes "9\n"); faults = faults; given = 0; ends = 0 }

abbrev out : ℕ → SinkSeen
out faults = record { held = Some []; faults = faults }

-- a file failed this often, the input this often and `out` this often
abbrev failed : (List ℕ → ℕ) → ℕ → ℕ → Outside
failed files reads writes = outside (shelf files (Some [])) (input reads) (out writes)

abbrev never : List ℕ → ℕ
never name = 0

-- the file `b` failed once
abbrev b_once : List ℕ → ℕ
b_once name = if bytes_eq name (codes "b") then 1 else 0

abbrev two : List (List ℕ)
two = codes "a" ∷ codes "b" ∷ []

abbrev Blamed : (List ℕ → ℕ) → ℕ → ℕ → Result (Unit {0}) Fault → Type 0
Blamed files reads writes answer = Blames two (failed never 0 0) (failed files reads writes) answer

-- ---- who is blamed
none-blamed : Blamed never 0 0 (Ok tt)
none-blamed = record {
  files = λ no name. refl;
  file = λ e. cc;
  others = λ e. cc;
  input = record { same = λ no. refl; rose = λ e. cc };
  out = record { same = λ no. refl; rose = λ e. cc };
}

at-most_once : (b : Bool) → (if b then 1 else 0) ≤ 1
at-most_once true = omega arith
at-most_once false = omega arith

file-blamed : Blamed b_once 0 0 (Err fault.File)
file-blamed = record {
  files = λ no. absurd (no refl);
  file = λ e. (codes "b", (1, omega arith, refl), omega arith);
  others = λ e name. let l = at-most_once (bytes_eq name (codes "b")) in omega (arith, l);
  input = record { same = λ no. refl; rose = λ e'. cc };
  out = record { same = λ no. refl; rose = λ e'. cc };
}

-- all files count as one, as those of a shelf in memory do
shelf-blamed : Blamed (λ name. 1) 0 0 (Err fault.File)
shelf-blamed = record {
  files = λ no. absurd (no refl);
  file = λ e. (codes "a", (0, omega arith, refl), omega arith);
  others = λ e name. omega arith;
  input = record { same = λ no. refl; rose = λ e'. cc };
  out = record { same = λ no. refl; rose = λ e'. cc };
}

file-failed_twice : Blamed (λ name. 2) 0 0 (Err fault.File) → ⊥
file-failed_twice h = omega (arith, h.others refl (codes "a"))

file-not_failed : Blamed never 0 0 (Err fault.File) → ⊥
file-not_failed h = let e = (h.file refl).2 in omega (arith, e)

file-unblamed : Blamed b_once 0 0 (Ok tt) → ⊥
file-unblamed h = let e : 1 ≡ 0 = h.files (λ e. cc) (codes "b") in omega (arith, e)

-- only a file of the words is blamed
other-file : Blames [] (failed never 0 0) (failed (λ name. 1) 0 0) (Err fault.File) → ⊥
other-file h = let n = (h.file refl).1 in let l = n.1 in omega (arith, l)

input-blamed : Blamed never 1 0 (Err fault.Input)
input-blamed = record {
  files = λ no name. refl;
  file = λ e. cc;
  others = λ e. cc;
  input = record { same = λ no. absurd (no refl); rose = λ e. omega arith };
  out = record { same = λ no. refl; rose = λ e. cc };
}

output-blamed : Blamed never 0 1 (Err fault.Output)
output-blamed = record {
  files = λ no name. refl;
  file = λ e. cc;
  others = λ e. cc;
  input = record { same = λ no. refl; rose = λ e. cc };
  out = record { same = λ no. absurd (no refl); rose = λ e. omega arith };
}

-- one for the other
output-for_input : Blamed never 1 0 (Err fault.Output) → ⊥
output-for_input h = let e = h.input.same (λ e. cc) in omega (arith, e)

input-for_output : Blamed never 0 1 (Err fault.Input) → ⊥
input-for_output h = let e = h.out.same (λ e. cc) in omega (arith, e)

-- ---- how much is taken of the input
abbrev source : Option (List ℕ) → ℕ → ℕ → SourceSeen
source left given ends = record { left = left; faults = 0; given = given; ends = ends }

abbrev limited : Option ℕ
limited = Some input_limit

-- one byte more than the limit of 16777216, and one end
most-of_the_input : (bytes : List ℕ) → length bytes ≡ 16777217 → IsSparing limited (source (Some bytes) 5 2) (source (Some []) 16777222 3)
unfolding input_limit
most-of_the_input bytes e = record { front = (bytes, omega (arith, e), sym (append-nil bytes)); given = omega arith; ends = omega arith }

two-bytes_more : (bytes : List ℕ) → length bytes ≡ 16777218 → IsSparing limited (source (Some bytes) 0 0) (source (Some []) 0 0) → ⊥
unfolding input_limit
two-bytes_more bytes e h =
    let front : bytes ≡ h.front.0 = h.front.2 ∙ append-nil h.front.0 in omega (arith, e, ap length front, h.front.1)

more-given : IsSparing limited (source None 5 0) (source None 16777223 0) → ⊥
unfolding input_limit
more-given h = omega (arith, h.given)

two-ends : IsSparing None (source None 0 2) (source None 0 4) → ⊥
two-ends h = omega (arith, h.ends)

-- all of an input without a limit
all-of_the_input : (bytes : List ℕ) → IsSparing None (source (Some bytes) 5 2) (source (Some []) 16777223 3)
all-of_the_input bytes = record { front = (bytes, tt, sym (append-nil bytes)); given = tt; ends = omega arith }

-- ---- how much is taken of the files
abbrev counts : Option (List ℕ) → ℕ → ℕ → ℕ → Outside
counts left fetches given ends =
    outside (record { texts = texts; left = left; faults = never; fetches = fetches; given = given; ends = ends }) (source None 0 0) (out 0)

abbrev taken : Taken
taken = record { text = text_limit; input = limited }

abbrev Takes : List (List ℕ) → Option (List ℕ) → ℕ → ℕ → ℕ → Type 0
Takes names left fetches given ends = IsFrugal taken names (counts (Some (codes "old")) 5 7 3) (counts left fetches given ends)

untouched-input : IsSparing limited (source None 0 0) (source None 0 0)
untouched-input = record { front = ([], omega arith, tt); given = omega arith; ends = omega arith }

-- of the second of two files one byte was read; of both, one byte more than the limit of 1048576 for each, and an end for each
most-of_two : Takes two (Some (codes "2")) 7 2097161 5
unfolding text_limit
most-of_two = record {
  fetches = omega arith;
  file = inr (codes "b", (1, omega arith, refl), (codes "2", omega arith, refl));
  given = omega arith;
  ends = omega arith;
  input = untouched-input;
}

-- no file was fetched
none-fetched : Takes [] (Some (codes "old")) 5 7 3
none-fetched = record { fetches = omega arith; file = inl refl; given = omega arith; ends = omega arith; input = untouched-input }

three-fetched : Takes two (Some (codes "2")) 8 7 3 → ⊥
three-fetched h = omega (arith, h.fetches)

more-given_of_two : Takes two (Some (codes "2")) 7 2097162 5 → ⊥
unfolding text_limit
more-given_of_two h = omega (arith, h.given)

three-ends : Takes two (Some (codes "2")) 7 7 6 → ⊥
three-ends h = omega (arith, h.ends)

-- what is left is that of no named file
other-left : Takes [] (Some (codes "2")) 5 7 3 → ⊥
other-left h = no h.file
  where
    no : (Some (codes "2") ≡ Some (codes "old")) ⊎ ((name : List ℕ) × Contains [] name × TookFront (text_limit + 1) (texts name) (Some (codes "2"))) → ⊥
    no (inl e) = cc e
    no (inr f) = let l = f.1.1 in omega (arith, l)

-- the text of `a` has no 2
other-text : Takes (codes "a" ∷ []) (Some (codes "2")) 6 7 3 → ⊥
other-text h = no h.file
  where
    no_two : (front : List ℕ) → codes "1" ≡ front ++ codes "2" → ⊥
    no_two [] e = let n : 49 ≡ 50 = ap first_byte e in omega (arith, n)
    no_two (b ∷ []) e = cc e
    no_two (b ∷ c ∷ front) e = cc e

    at_first : (name : List ℕ) → codes "a" ≡ name → TookFront (text_limit + 1) (texts name) (Some (codes "2")) → ⊥
    at_first name e t =
        let u : TookFront (text_limit + 1) (Some (codes "1")) (Some (codes "2")) =
        subst (λ n. TookFront (text_limit + 1) (texts n) (Some (codes "2"))) (sym e) t in
        no_two u.0 u.2

    no : (Some (codes "2") ≡ Some (codes "old"))
        ⊎ ((name : List ℕ) × Contains (codes "a" ∷ []) name × TookFront (text_limit + 1) (texts name) (Some (codes "2"))) → ⊥
    no (inl e) = cc e
    no (inr (name, (zero, l, e), t)) = at_first name e t
    no (inr (name, (suc k, l, e), t)) = omega (arith, l)

-- ---- of a text at most one byte more than the limit of 1048576 is read
module _ (front : List ℕ) where
  abbrev long : Option (List ℕ) → ℕ → Outside
  long left fetches =
      outside (record { texts = λ n. Some (front ++ codes "2"); left = left; faults = never; fetches = fetches; given = 0; ends = 0 }) (source None 0 0) (out 0)

  abbrev IsRead : Type 0
  IsRead = IsFrugal taken (codes "a" ∷ []) (long (Some (codes "old")) 5) (long (Some (codes "2")) 6)

  one_byte_more : length front ≡ 1048577 → IsRead
  unfolding text_limit
  one_byte_more e = record {
    fetches = omega arith;
    file = inr (codes "a", (0, omega arith, refl), (front, omega (arith, e), refl));
    given = omega arith;
    ends = omega arith;
    input = untouched-input;
  }

  two_bytes_more : length front ≡ 1048578 → IsRead → ⊥
  unfolding text_limit
  two_bytes_more e h = no h.file
    where
      read_twice : (other : List ℕ) → length other ≤ 1048577 → front ++ codes "2" ≡ other ++ codes "2" → ⊥
      read_twice other l same =
          let a = length-append front (codes "2") in
          let b = length-append other (codes "2") in
          let c : length (front ++ codes "2") ≡ length (other ++ codes "2") = ap length same in omega (arith, e, l, a, b, c)

      no : (Some (codes "2") ≡ Some (codes "old"))
          ⊎ ((name : List ℕ) × Contains (codes "a" ∷ []) name × TookFront 1048577 (Some (front ++ codes "2")) (Some (codes "2"))) → ⊥
      no (inl same) = cc same
      no (inr f) = let t = f.2 in read_twice t.0 t.1 t.2

-- ---- the files of `verify`
abbrev fetched : ℕ → (List ℕ → ℕ) → ShelfSeen
fetched fetches faults = record { texts = texts; left = None; faults = faults; fetches = fetches; given = 0; ends = 0 }

-- of `verify a b`, or of `verify b a`
abbrev InOrder : ShelfSeen → Status → Type 0
InOrder after status = IsInOrder (verify (codes "a") (codes "b")) (fetched 5 never) after status

abbrev InOtherOrder : ShelfSeen → Status → Type 0
InOtherOrder after status = IsInOrder (verify (codes "b") (codes "a")) (fetched 5 never) after status

-- a source that is refused is the one file that is fetched
steps-unfetched : IsBrokenSource (codes "1") fault.TextTooLong → InOrder (fetched 7 never) Done → ⊥
steps-unfetched broken (source_alone few blamed) = omega (arith, few)
steps-unfetched broken (steps_too source typed told is blamed) =
    typed_unbroken source typed fault.TextTooLong is (subst (λ s. IsBrokenSource s fault.TextTooLong) told broken)

source-fetched : InOrder (fetched 6 never) Done
source-fetched = source_alone (omega arith) (λ e. cc)

-- so is one that failed, also where no rule is broken in it
source-failed : InOtherOrder (fetched 6 b_once) File
source-failed = source_alone (omega arith) (λ e. omega arith)

steps-behind_a_failure : InOtherOrder (fetched 7 b_once) File → ⊥
steps-behind_a_failure (source_alone few blamed) = omega (arith, few)
steps-behind_a_failure (steps_too source typed told is blamed) = let rose = blamed refl in omega (arith, rose)

-- and it is the one that may fail
steps-unfailed : IsBrokenSource (codes "1") fault.TextTooLong → InOrder (fetched 6 b_once) File → ⊥
steps-unfailed broken (source_alone few blamed) = let rose = blamed refl in omega (arith, rose)
steps-unfailed broken (steps_too source typed told is blamed) =
    typed_unbroken source typed fault.TextTooLong is (subst (λ s. IsBrokenSource s fault.TextTooLong) told broken)

-- where no rule is broken in it, both are fetched, and the steps file may fail
module _ (typed : TypedTree) (is : IsTypedSource (codes "1") typed) where
  both-fetched : InOrder (fetched 7 never) Done
  both-fetched = steps_too (codes "1") typed refl is (λ e. cc)

  steps-failed : InOrder (fetched 7 b_once) File
  steps-failed = steps_too (codes "1") typed refl is (λ e. omega arith)

one-file : IsInOrder (compile (record { plain = false; stats = false }) (codes "a")) (fetched 5 never) (fetched 9 never) Done
one-file = tt

-- ---- words that are no command
abbrev told : List Told
told = record { name = codes "fold"; tally = 12; turns = 3; makes = λ n c. c; whole = true } ∷ []

refused-words : Answers None told told (failed never 0 0) (failed never 0 0) (Err fault.Usage)
refused-words = (inl refl, refl, refl)

unread-words : Answers None told told (failed never 0 0) (failed never 0 0) (Err fault.NoMemory)
unread-words = (inr refl, refl, refl)

done-without_a_command : Answers None told told (failed never 0 0) (failed never 0 0) (Ok tt) → ⊥
done-without_a_command h = no h.0
  where
    no : (◌≡◌ {A = Result (Unit {0}) Fault} (Ok tt) (Err fault.Usage)) ⊎ (◌≡◌ {A = Result (Unit {0}) Fault} (Ok tt) (Err fault.NoMemory)) → ⊥
    no (inl e) = cc e
    no (inr e) = cc e

touched-without_a_command : Answers None told told (failed never 0 0) (failed never 1 0) (Err fault.Usage) → ⊥
touched-without_a_command h = let e : 1 ≡ 0 = ap (λ o. o.streams.input.faults) h.1 in omega (arith, e)

called-without_a_command : Answers None told [] (failed never 0 0) (failed never 0 0) (Err fault.Usage) → ⊥
called-without_a_command h = cc (h.2)
