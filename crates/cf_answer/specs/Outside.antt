-- What the objects outside tell, and what a call may take of them.
use Rattle.std.specs.Prelude.{◌≡◌, ◌⊎◌, ℕ, ◌+◌, ◌-◌, ◌*◌, ◌≤◌, List, [], ◌∷◌, length, Option, Some, None, Contains, Result, Err}
use Rattle.std.specs.Io.KnownBytes.{Consumes}
use Rattle.cf_io.specs.Bytes.{TookFront}
use Rattle.cf_io.specs.Causes.{one_more}
use Rattle.cf_io.specs.Limits.{IsWithin}
use Rattle.cf_io.specs.Seen.{ShelfSeen, SinkSeen, SourceSeen}
use Rattle.cf_answer.specs.declared.fault.Fault.{Fault}
use Rattle.cf_answer.specs.declared.fault.Fault.TheVariants as fault

-- what the input and `out` tell
pub record Streams : Type 0 where
  pub input : SourceSeen
  pub out : SinkSeen

abbrev pub streams : SourceSeen → SinkSeen → Streams
streams input out = record { input = input; out = out }

-- what all of it tells: the shelf, the input and `out`
pub record Outside : Type 0 where
  pub shelf : ShelfSeen
  pub streams : Streams

abbrev pub outside : ShelfSeen → SourceSeen → SinkSeen → Outside
outside shelf input out = record { shelf = shelf; streams = streams input out }

-- as far as an object tells its bytes, they are these
abbrev pub AreTold : Option (List ℕ) → List ℕ → Type 0
AreTold None bytes = Unit {0}
AreTold (Some told) bytes = told ≡ bytes

-- the texts under these names, as far as they are told
abbrev pub AreTexts : (List ℕ → Option (List ℕ)) → List (List ℕ) → List (List ℕ) → Type 0
AreTexts texts [] [] = Unit {0}
AreTexts texts (name ∷ names) (text ∷ files) = AreTold (texts name) text × AreTexts texts names files
AreTexts texts names files = ⊥

-- a count rises by one where the object failed, and stays where it did not
pub record Counts (failed : Type 0) (old new : ℕ) : Type 0 where
  pub same : (failed → ⊥) → new ≡ old
  pub rose : failed → new ≡ one_more old

-- Only the object that the answer names failed, and it failed once. A file is one of these names.
pub record Blames (names : List (List ℕ)) (before after : Outside) (answer : Result (Unit {0}) Fault) : Type 0 where
  pub files : (answer ≡ Err fault.File → ⊥) → (name : List ℕ) → after.shelf.faults name ≡ before.shelf.faults name
  pub file : answer ≡ Err fault.File → (name : List ℕ) × Contains names name × (after.shelf.faults name ≡ one_more (before.shelf.faults name))
  pub others : answer ≡ Err fault.File → (name : List ℕ) → after.shelf.faults name ≤ one_more (before.shelf.faults name)
  pub input : Counts (answer ≡ Err fault.Input) before.streams.input.faults after.streams.input.faults
  pub out : Counts (answer ≡ Err fault.Output) before.streams.out.faults after.streams.out.faults

-- one byte more than a limit, where there is one
abbrev pub one_past : Option ℕ → Option ℕ
one_past None = None
one_past (Some most) = Some (most + 1)

-- of an input at most one byte more than its limit was read, and reads gave no more; its end was seen at most once
pub record IsSparing (most : Option ℕ) (before after : SourceSeen) : Type 0 where
  pub front : (front : List ℕ) × IsWithin (one_past most) (length front) × Consumes before.left after.left front
  pub given : IsWithin (one_past most) (after.given - before.given)
  pub ends : after.ends ≤ before.ends + 1

-- the most bytes of a text that are taken, and of the input
pub record Taken : Type 0 where
  pub text : ℕ
  pub input : Option ℕ

-- No more texts were fetched than there are names. Of the last one, and of the input, at most one byte more than its limit was read. Of all of them reads
-- gave at most as much for each name, and showed at most one end for each.
pub record IsFrugal (taken : Taken) (names : List (List ℕ)) (before after : Outside) : Type 0 where
  pub fetches : after.shelf.fetches ≤ before.shelf.fetches + length names
  pub file : (after.shelf.left ≡ before.shelf.left) ⊎
      ((name : List ℕ) × Contains names name × TookFront (taken.text + 1) (before.shelf.texts name) after.shelf.left)
  pub given : after.shelf.given ≤ before.shelf.given + length names * (taken.text + 1)
  pub ends : after.shelf.ends ≤ before.shelf.ends + length names
  pub input : IsSparing taken.input before.streams.input after.streams.input
