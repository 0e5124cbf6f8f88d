-- What writing and checking steps works with, for the contracts within the crate.
use Rattle.std.specs.Prelude.{◌≡◌, ◌⊎◌, ◌≤◌, ◌+◌, ℕ, List, [], ◌∷◌, ◌++◌, map, Option, Some, None, All}
use Rattle.cf_cases.specs.Holding.{EachOf}
use Rattle.cf_io.specs.Bytes.{TookFront}
use Rattle.cf_io.specs.Causes.{Rose, one_more}
use Rattle.cf_io.specs.Seen.{ShelfSeen}
use Rattle.cf_form.specs.Branches.{Branch}
use Rattle.cf_form.specs.Told.{ToldChoose}
use Rattle.cf_form.specs.ToldView.{told_choose}
use Rattle.cf_form.specs.declared.formed.FormedParts.{FormedParts}
use Rattle.cf_lex.specs.Editions.{edition_of}
use Rattle.cf_tree.specs.ChooseTree.{ChooseTree}
use Rattle.cf_steps.specs.Blocks.{BlockTree}
use Rattle.cf_steps.specs.Printed.{blocks_text}
use Rattle.cf_steps.specs.Spelled.{IsSpelledBlock, IsSpelledHead}
use Rattle.cf_steps.specs.Spelling.{AreBlocks}
use Rattle.cf_steps.specs.declared.block.Block.{Block}
use Rattle.cf_cert.specs.Laws.{AreWithinCases}
use Rattle.cf_cert.specs.Verifying.{HaveFewSteps}
use Rattle.cf_answer.specs.Branches.{head_of}
use Rattle.cf_answer.specs.Certificates.{OneForEach, IsTraced}
use Rattle.cf_answer.specs.Limits.{of_target}
use Rattle.cf_answer.specs.Outside.{AreTold}
use Rattle.cf_answer.specs.Refusals.{IsBrokenSource, IsRefusedSteps}
use Rattle.cf_tree.specs.declared.base.Edition.{Edition}
use Rattle.cf_tree.specs.declared.base.Edition.TheVariants.{Two, Three}
use Rattle.cf_answer.specs.Sources.{AreToldOf, Spelled, IsLoweredSource}
use Rattle.cf_answer.specs.declared.source.ToldProgram.{ToldProgram}
use Rattle.cf_answer.specs.declared.fault.Fault.{Fault}
use Rattle.cf_answer.specs.declared.fault.Fault.TheVariants as fault
use Rattle.cf_answer.specs.declared.fault.StepsFault.{StepsFault}

-- the fault for which a steps file is refused for its text, for a source of this edition
abbrev pub AreMisspelled : Edition → List ℕ → Fault → Type 0
AreMisspelled edition text f = (e : StepsFault) × (f ≡ fault.Steps e) × IsRefusedSteps edition text e

-- the text spells these blocks for a source of this edition, whose numbers are within the limit, and which have few enough steps to be checked
pub record AreReadFrom (edition : Edition) (text : List ℕ) (bs : List BlockTree) : Type 0 where
  pub spelled : Spelled (of_target edition) (AreBlocks edition) text bs
  pub within : EachOf (λ b. AreWithinCases b.cases) bs
  pub few : HaveFewSteps bs

-- ---- reading the files
-- the file of this name was fetched, at most one byte more than so many were read of it, and its end was seen at most once
pub record IsFetched (most : ℕ) (name : List ℕ) (before after : ShelfSeen) : Type 0 where
  pub fetched : after.fetches ≡ one_more before.fetches
  pub front : (after.left ≡ before.left) ⊎ TookFront (most + 1) (before.texts name) after.left
  pub given : after.given ≤ before.given + (most + 1)
  pub ends : after.ends ≤ before.ends + 1
  pub texts : (other : List ℕ) → after.texts other ≡ before.texts other
  pub once : (other : List ℕ) → after.faults other ≤ one_more (before.faults other)

-- no count of faults rose
abbrev pub NoneFailed : ShelfSeen → ShelfSeen → Type 0
NoneFailed before after = (other : List ℕ) → after.faults other ≡ before.faults other

-- the text under the name, as far as it is told, is refused as a source whose chooses are not solved
abbrev pub IsBrokenFile : List ℕ → ShelfSeen → Fault → Type 0
IsBrokenFile name shelf f = (text : List ℕ) × AreTold (shelf.texts name) text × IsBrokenSource text f

-- why a source gave no chooses: the file failed, or no file did and the text is refused, or memory ran out
pub data IsSourceFault (name : List ℕ) (before after : ShelfSeen) (f : Fault) : Type 0 where
  file_failed : f ≡ fault.File → Rose (before.faults name) (after.faults name) → IsSourceFault name before after f
  broken_file : IsBrokenFile name before f → NoneFailed before after → IsSourceFault name before after f
  no_room : f ≡ fault.NoMemory → NoneFailed before after → IsSourceFault name before after f

-- ---- writing blocks
-- a steps file spells the block, and its head in this edition
abbrev pub IsSpelledIn : Edition → Block → Type 0
IsSpelledIn edition b = IsSpelledBlock b × IsSpelledHead edition b.truths.items

-- the printed block of a choose in its branch was added to the text
abbrev pub AddsBlock : Edition → ChooseTree × Branch → List ℕ → List ℕ → Type 0
AddsBlock edition c old new =
    (b : Block) × IsTraced c.0 b × (b.truths.items ≡ head_of c) × IsSpelledIn edition b × (new ≡ old ++ blocks_text (b ∷ []))

-- the text is that of one block for each of these chooses, which are printed as steps files spell them
abbrev pub ArePut : Edition → List (ChooseTree × Branch) → List ℕ → Type 0
ArePut edition cs text =
    (bs : List Block) × OneForEach IsTraced (map (λ c. c.0) cs) bs × (map (λ b. b.truths.items) bs ≡ map head_of cs)
    × All (IsSpelledIn edition) bs × (text ≡ blocks_text bs)

-- ---- what is told of a source
-- of a program of edition 3 its chooses are told
abbrev pub told_in : Option FormedParts → List ToldChoose
told_in None = []
told_in (Some f) = map told_choose f.chooses.items

abbrev pub edition_in : Option FormedParts → Edition
edition_in None = Two
edition_in (Some f) = Three

-- the program is that of the text, with its matches taken apart, and this is told of its chooses
pub record IsToldProgram (text : List ℕ) (p : ToldProgram) : Type 0 where
  pub lowered : IsLoweredSource text p.lowered
  pub edition : edition_of text ≡ edition_in p.formed
  pub tells : AreToldOf text (told_in p.formed)
