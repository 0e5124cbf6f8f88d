-- Which blocks a steps file spells, as far as it is a fact about the block: its numbers, and that its target has a spelling.
use Rattle.std.specs.Prelude.{◌≡◌, ℕ, Bool, true, false, ◌&&◌, List, [], ◌∷◌, All}
use Rattle.std.specs.List.{list_all}
use Rattle.cf_lex.specs.Bytes.{is_letter, is_in_word}
use Rattle.cf_lex.specs.Words.{is_reserved}
use Rattle.cf_reader.specs.Tokens.{IsThree}
use Rattle.cf_tree.specs.declared.base.Edition.{Edition}
use Rattle.cf_tree.specs.declared.base.Edition.TheVariants.{Three}
use Rattle.cf_tree.specs.Spelled.{HasSpelling}
use Rattle.cf_elim.specs.declared.act.Act.{Act}
use Rattle.cf_elim.specs.Acts.{IsColumn, IsSpelledAct}
use Rattle.cf_steps.specs.declared.block.Block.{Block}
use Rattle.cf_steps.specs.declared.block.Blocks.{Blocks}
use Rattle.cf_steps.specs.declared.block.NamedTruth.{NamedTruth}
use Rattle.cf_steps.specs.Blocks.{block_tree}

abbrev pub AreSpelledCases : List (List Act) → Type 0
AreSpelledCases cases = All (λ acts. All IsSpelledAct acts) cases

pub record IsSpelledBlock (b : Block) : Type 0 where
  pub number : IsColumn b.number
  pub cases : AreSpelledCases (block_tree b).cases
  pub target : HasSpelling b.target

-- a letter, and then letters and digits
abbrev pub is_word : List ℕ → Bool
is_word [] = false
is_word (b ∷ w) = is_letter b && list_all is_in_word w

-- the name is a name of edition 3
pub record IsSpelledTruth (t : NamedTruth) : Type 0 where
  pub word : is_word t.name ≡ true
  pub free : is_reserved Three t.name ≡ false

-- a head has truths in edition 3 alone
abbrev pub IsSpelledHead : Edition → List NamedTruth → Type 0
IsSpelledHead edition [] = Unit {0}
IsSpelledHead edition (t ∷ ts) = IsThree edition × All IsSpelledTruth (t ∷ ts)

abbrev pub HaveSpelling : Blocks → Type 0
HaveSpelling bs = All IsSpelledBlock bs.list.items
