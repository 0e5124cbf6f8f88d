-- What is left as it was, and what a file tells.
use Rattle.std.proofs.Common.{◌≡◌, sym, ap, subst, refl, ℕ, ◌<◌, ◌+◌, ◌-◌, List, [], replicate, length, Option, Some, None, arith}
use Rattle.std.proofs.lemmas.List.{length-replicate}
use Rattle.std.specs.Prelude.{IfSome}
use Rattle.std.proofs.KnownBytes.{Consumes-nil}
use Rattle.cf_io.specs.Seen.{SourceSeen}
use Rattle.cf_io.specs.Limits.{IsWithin}
use Rattle.cf_answer.specs.Outside.{Outside, AreTold, Counts, IsSparing, one_past}

-- nothing was read of the input and nothing written
abbrev pub Untouched : Outside → Outside → Type 0
Untouched before after = after.streams ≡ before.streams

-- no bytes are within any limit
pub none_within : (most : Option ℕ) → IsWithin most 0
none_within None = tt
none_within (Some most) = omega arith

none_given : (most : Option ℕ) (given : ℕ) → IsWithin most (given - given)
none_given most given = let none : given - given ≡ 0 = omega arith in subst (IsWithin most) (sym none) (none_within most)

pub nothing_read : (most : Option ℕ) (input : SourceSeen) → IsSparing most input input
nothing_read most input = record {
  front = ([], none_within (one_past most), Consumes-nil input.left);
  given = none_given (one_past most) input.given;
  ends = omega arith;
}

pub none_read : (most : Option ℕ) (before after : Outside) → Untouched before after → IsSparing most before.streams.input after.streams.input
none_read most before after still = subst (λ s. IsSparing most before.streams.input s.input) (sym still) (nothing_read most before.streams.input)

pub none_written : (before after : Outside) → Untouched before after → after.streams.out.held ≡ before.streams.out.held
none_written before after still = ap (λ s. s.out.held) still

pub no_fault : {failed : Type 0} (old new : ℕ) → (failed → ⊥) → new ≡ old → Counts failed old new
no_fault old new never is = record { same = λ _. is; rose = λ h. absurd (never h) }

pub no_input_fault : {failed : Type 0} (before after : Outside) → Untouched before after → (failed → ⊥) →
    Counts failed before.streams.input.faults after.streams.input.faults
no_input_fault before after still never =
    no_fault before.streams.input.faults after.streams.input.faults never (ap (λ s. s.input.faults) still)

pub no_out_fault : {failed : Type 0} (before after : Outside) → Untouched before after → (failed → ⊥) →
    Counts failed before.streams.out.faults after.streams.out.faults
no_out_fault before after still never = no_fault before.streams.out.faults after.streams.out.faults never (ap (λ s. s.out.faults) still)

-- the text that was read is the one that is told
pub text_told : (told : Option (List ℕ)) (text : List ℕ) → IfSome told (λ t. text ≡ t) → AreTold told text
text_told None text h = tt
text_told (Some t) text h = sym h

-- a text that is told, and longer than so many bytes
pub long_text : (most : ℕ) (told : Option (List ℕ)) → IfSome told (λ text. most < length text) → (text : List ℕ) × AreTold told text × (most < length text)
long_text most None h = (replicate (most + 1) 0, tt, rw length-replicate (omega arith))
long_text most (Some text) h = (text, refl, h)
