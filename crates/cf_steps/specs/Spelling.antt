-- Which tokens spell the blocks of a steps file.
use Rattle.std.specs.Prelude.{◌≡◌, ◌<◌, ◌^◌, ◌⊎◌, ℕ, ℤ, pos, neg_ℤ, Bool, true, false, List, [], ◌∷◌, codes}
use Rattle.cf_tree.specs.declared.base.Edition.{Edition}
use Rattle.cf_tree.specs.declared.base.Edition.TheVariants.{Two, Three}
use Rattle.cf_lex.specs.declared.token.Token.{Token}
use Rattle.cf_lex.specs.declared.token.TokenKind.{TokenKind}
use Rattle.cf_lex.specs.declared.token.TokenKind.TheVariants.{Literal, Word, Sign}
use Rattle.cf_tree.specs.declared.base.Place.{Place}
use Rattle.cf_reader.specs.Kinds.{truth_kind}
use Rattle.cf_reader.specs.Tokens.{Form, ◌⨟◌, If, IsThree, Next, FirstName, NextLiteral, Others, Several}
use Rattle.cf_target.specs.Spelling.{SpellsPart}
use Rattle.cf_elim.specs.declared.act.Act.{Act}
use Rattle.cf_elim.specs.declared.act.Act.TheVariants.{Clean, Mix, Last, Search, Drop}
use Rattle.cf_steps.specs.declared.block.NamedTruth.{NamedTruth}
use Rattle.cf_steps.specs.Blocks.{BlockTree}

-- a literal below 2 ^ 32
abbrev pub SpellsColumn : ℕ → Form
SpellsColumn n = If (n < 2 ^ 32) (Next (Literal (pos n)))

-- literal | "-" literal
abbrev pub SpellsFactor : ℤ → Form
SpellsFactor k ts rest = NextLiteral (pos 0) k ts rest ⊎ ((n : ℤ) × (Next (Sign (codes "-")) ⨟ NextLiteral (pos 0) n) ts rest × (k ≡ neg_ℤ n))

abbrev pub side_kind : Bool → TokenKind
side_kind true = Word (codes "lower")
side_kind false = Word (codes "upper")

-- step = "clean" | "mix" column column number number number number | "last" column | "search" column ("lower" | "upper") | "drop" column
abbrev pub SpellsAct : Act → Form
SpellsAct Clean = Next (Word (codes "clean"))
SpellsAct (Mix x y a b c d) = Next (Word (codes "mix")) ⨟ SpellsColumn x ⨟ SpellsColumn y ⨟ SpellsFactor a ⨟ SpellsFactor b ⨟ SpellsFactor c ⨟ SpellsFactor d
SpellsAct (Last e) = Next (Word (codes "last")) ⨟ SpellsColumn e
SpellsAct (Search x lower) = Next (Word (codes "search")) ⨟ SpellsColumn x ⨟ Next (side_kind lower)
SpellsAct (Drop x) = Next (Word (codes "drop")) ⨟ SpellsColumn x

-- { step ";" } "}"
abbrev pub SpellsActs : List Act → Form
SpellsActs [] = Next (Sign (codes "}"))
SpellsActs (act ∷ acts) = SpellsAct act ⨟ Next (Sign (codes ";")) ⨟ SpellsActs acts

-- "{" { step ";" } "}"
abbrev pub SpellsCase : List Act → Form
SpellsCase acts = Next (Sign (codes "{")) ⨟ SpellsActs acts

-- { "case" case } "}"
abbrev pub SpellsCases : List (List Act) → Form
SpellsCases cases = Others SpellsCase (Word (codes "case")) (Sign (codes "}")) cases

-- a name of edition 3
abbrev pub NextName : List ℕ → Form
NextName x ts rest = (p : Place) × FirstName Three p x ts rest

-- name "=" ("true" | "false")
abbrev pub SpellsTruth : NamedTruth → Form
SpellsTruth t = NextName t.name ⨟ Next (Sign (codes "=")) ⨟ Next (truth_kind t.value)

-- [ "(" truth { "," truth } ")" ] "{", with truths in edition 3 alone
abbrev pub SpellsHead : Edition → List NamedTruth → Form
SpellsHead edition [] = Next (Sign (codes "{"))
SpellsHead edition (t ∷ ts) =
    If (IsThree edition) (Next (Sign (codes "(")) ⨟ Several SpellsTruth (Sign (codes ",")) (Sign (codes ")")) (t ∷ ts) ⨟ Next (Sign (codes "{")))

-- "choose" literal head { case } "}" target
abbrev pub SpellsBlock : Edition → ℕ → BlockTree → Form
SpellsBlock edition limit b =
    Next (Word (codes "choose")) ⨟ SpellsColumn b.number ⨟ SpellsHead edition b.truths ⨟ SpellsCases b.cases ⨟ SpellsPart Two limit b.target

-- the blocks one after the other, up to the end
abbrev pub SpellsBlocks : Edition → ℕ → List BlockTree → List Token → Type 0
SpellsBlocks edition limit [] ts = ts ≡ []
SpellsBlocks edition limit (b ∷ bs) ts = (mid : List Token) × SpellsBlock edition limit b ts mid × SpellsBlocks edition limit bs mid

-- the tokens spell the blocks for a source of this edition, and the depth of each target's code is within the limit
abbrev pub AreBlocks : Edition → List BlockTree → List Token → Type 0
AreBlocks edition bs ts = SpellsBlocks edition 500 bs ts
