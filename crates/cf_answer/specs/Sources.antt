-- What a text spells, and the target that a source is compiled to.
use Rattle.std.specs.Prelude.{◌≡◌, ℕ, ◌-◌, ◌^◌, ◌≤◌, List, [], length, map, Ok, Err, All}
use Rattle.std.specs.List.Sorted.{IsPermutation}
use Rattle.cf_lex.specs.declared.token.Token.{Token}
use Rattle.cf_lex.specs.Editions.{edition_of}
use Rattle.cf_lex.specs.Tokens.{LexesTo, Ending, at_end}
use Rattle.cf_tree.specs.declared.base.Place.{Place}
use Rattle.cf_tree.specs.declared.target.RawTarget.{RawTarget}
use Rattle.cf_tree.specs.declared.base.Edition.{Edition}
use Rattle.cf_tree.specs.declared.base.Edition.TheVariants.{Two, Three}
use Rattle.cf_tree.specs.DefView.{RawItemTree, def_tree}
use Rattle.cf_tree.specs.Typing.{IsTypedCode}
use Rattle.cf_parse.specs.Programs.{IsProgram}
use Rattle.cf_pass.specs.Passes.{Told}
use Rattle.cf_target.specs.Spelling.{TargetTree, IsTarget}
use Rattle.cf_program.specs.Checked.{TypedTree, checked}
use Rattle.cf_program.specs.declared.linearity.Linearity.{Linearity}
use Rattle.cf_program.specs.declared.linearity.Linearity.TheVariants.{Plain, Late}
use Rattle.cf_program.specs.declared.fault.TypeFault.TheVariants.{NotLinear}
use Rattle.cf_program.specs.Lowered.{lowered_def}
use Rattle.cf_form.specs.FormAnswers.{IsFormOf}
use Rattle.cf_form.specs.Told.{ToldChoose, all_told}
use Rattle.cf_match.specs.Matches.{all_matches, match_tree}
use Rattle.cf_match.specs.declared.lowered.LoweredParts.{LoweredParts}
use Rattle.cf_build.specs.Built.{IsBuilt}
use Rattle.cf_warn.specs.Classes.{AreClasses}
use Rattle.cf_answer.specs.Limits.{TextKind, of_source, of_target, tokens_of, most_of}

-- a text of a kind is not too long, and has these tokens up to its end or its first fault, which is at this place
abbrev pub HasTokens : TextKind → List ℕ → List Token → Place → Ending → Type 0
HasTokens kind text ts p ending = (length text ≤ most_of kind) × LexesTo (tokens_of kind) (2 ^ 127 - 1) text ts p ending

-- a text of a kind spells this tree, where Is says which tokens spell a tree
abbrev pub Spelled : {Tree : Type 0} → TextKind → (Tree → List Token → Type 0) → List ℕ → Tree → Type 0
Spelled kind Is text x = (ts : List Token) × (end : Place) × HasTokens kind text ts end at_end × Is x ts

-- the text spells this program in its edition
abbrev pub SpellsProgram : List ℕ → List RawItemTree → Type 0
SpellsProgram text program = Spelled (of_source (edition_of text)) (IsProgram (edition_of text)) text program

-- a program of an edition in which no rule is broken, with levels in the place of names; one of edition 3 has the forms of language 2
abbrev pub IsTypedBy : Edition → Linearity → List RawItemTree → TypedTree → Type 0
IsTypedBy Two how program typed = checked Two how program ≡ Ok typed
IsTypedBy Three how program typed = (source : TypedTree) × (checked Three how program ≡ Ok source) × IsFormOf how source typed

-- the text spells a program in which no rule is broken; with levels in the place of names, and with the forms of language 2, it is this one
abbrev pub IsTypedSource : List ℕ → TypedTree → Type 0
IsTypedSource text typed = (program : List RawItemTree) × SpellsProgram text program × IsTypedBy (edition_of text) Plain program typed

-- the program is that of the text, with its matches taken apart
pub record IsLoweredSource (text : List ℕ) (l : LoweredParts) : Type 0 where
  pub typed : TypedTree
  pub is : IsTypedSource text typed
  pub defs : map def_tree l.typed.defs.items ≡ map lowered_def typed.defs
  pub matches : IsPermutation (all_matches typed.defs) (map match_tree l.matches.items)
  pub classes : All (λ m. AreClasses m.classes.items) l.matches.items

-- what is told of the chooses of a program: in edition 3 of each choose of the source, in language 2 of none, since there each is as it stands
abbrev pub AreToldIn : Edition → List RawItemTree → List ToldChoose → Type 0
AreToldIn Two program told = told ≡ []
AreToldIn Three program told = (source : TypedTree) × (checked Three Plain program ≡ Ok source) × (told ≡ all_told source.defs)

abbrev pub AreToldOf : List ℕ → List ToldChoose → Type 0
AreToldOf text told = (program : List RawItemTree) × SpellsProgram text program × AreToldIn (edition_of text) program told

-- a program whose first broken rule is that on linear relations, and which breaks none where the numbers in scope of a choose are known
abbrev pub IsCheckedLate : Edition → List RawItemTree → TypedTree → Type 0
IsCheckedLate edition program typed = (p : Place) × (checked edition Plain program ≡ Err (NotLinear p)) × IsTypedBy edition Late program typed

-- the text spells a late program; with levels in the place of names, and with the forms of language 2, it is this one
abbrev pub IsLateSource : List ℕ → TypedTree → Type 0
IsLateSource text typed = (program : List RawItemTree) × SpellsProgram text program × IsCheckedLate (edition_of text) program typed

-- the text spells a program in which no rule is broken, and this target is built of it, with the code that passes make that told `given` and tell `last`
abbrev pub Compiles : List Told → List Told → List ℕ → RawTarget → Type 0
Compiles given last text t = (typed : TypedTree) × IsTypedSource text typed × IsBuilt typed.defs typed.main given last t

-- the whole code of the target asks for its results
abbrev pub IsTypedTree : TargetTree → Type 0
IsTypedTree t = IsTypedCode t.code t.params t.results

-- the text spells this target, by its header one of edition 3 or of language 2, and it is well typed
abbrev pub IsTypedTarget : List ℕ → TargetTree → Type 0
IsTypedTarget text t = Spelled (of_target (edition_of text)) (IsTarget (edition_of text)) text t × IsTypedTree t
