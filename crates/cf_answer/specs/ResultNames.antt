-- The names of the results of a source: of the outputs, where the body of main is one choose.
use Rattle.std.specs.Prelude.{◌≡◌, ℕ, Bool, true, false, List, [], ◌∷◌, codes, if◌then◌else◌}
use Rattle.std.specs.Str.{bytes_eq}
use Rattle.cf_tree.specs.DefView.{RawItemTree, item_const, item_def}
use Rattle.cf_tree.specs.Params.{names_of}
use Rattle.cf_tree.specs.RawTree.{RawTree, raw_choose}
use Rattle.cf_answer.specs.Sources.{SpellsProgram}

abbrev pub output_names : RawTree → List (List ℕ)
output_names (raw_choose p outputs hidden given rel aim) = names_of outputs
output_names e = []

abbrev pub is_main : RawItemTree → Bool
is_main (item_const p x e) = false
is_main (item_def d) = bytes_eq d.name (codes "main")

abbrev pub item_names : RawItemTree → List (List ℕ)
item_names (item_const p x e) = []
item_names (item_def d) = output_names d.body

-- those of main, which is the first function of that name; none where its body is no choose
abbrev pub result_names : List RawItemTree → List (List ℕ)
result_names [] = []
result_names (item ∷ items) = if is_main item then item_names item else result_names items

-- these are the names of the program that the text spells
abbrev pub AreResultNames : List ℕ → List (List ℕ) → Type 0
AreResultNames source names = (program : List RawItemTree) × SpellsProgram source program × (names ≡ result_names program)
