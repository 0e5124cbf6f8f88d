-- Where the lines of `check` speak of: in edition 3 each begins with the name of the file and a place.
use Rattle.std.specs.Prelude.{ℕ, ◌-◌, ◌==◌, List, [], ◌∷◌, ◌++◌, codes, decimal, slice_get, Option, Some, None, if◌then◌else◌}
use Rattle.cf_tree.specs.declared.base.Edition.{Edition}
use Rattle.cf_tree.specs.declared.base.Edition.TheVariants.{Two, Three}
use Rattle.cf_tree.specs.declared.base.Place.{Place}
use Rattle.cf_advice.specs.Ors.{OrTree}
use Rattle.cf_advice.specs.Spots.{SpotTree}
use Rattle.cf_help.specs.Messages.{heading}

-- the source that is checked: its edition, the name of its file, and what stands at its numbers
pub record File : Type 0 where
  pub edition : Edition
  pub name : List ℕ
  pub spots : List SpotTree

abbrev pub spot_at : File → ℕ → Option SpotTree
spot_at file n = slice_get file.spots (n - 1)

abbrev pub place_in : Option SpotTree → Option Place
place_in None = None
place_in (Some s) = Some s.place

abbrev pub outputs_in : Option SpotTree → List (List ℕ)
outputs_in None = []
outputs_in (Some s) = s.outputs

-- the names of the outputs of the choose of this number, or of the variables of the pattern
abbrev pub output_names : File → ℕ → List (List ℕ)
output_names file n = outputs_in (spot_at file n)

-- what is noted of a choose: the names of its outputs, and the `||` of its relation under `&&` alone
pub record Notes : Type 0 where
  pub outputs : List (List ℕ)
  pub ors : List OrTree

abbrev pub notes_in : Option SpotTree → Notes
notes_in None = record { outputs = []; ors = [] }
notes_in (Some s) = record { outputs = s.outputs; ors = s.ors }

abbrev pub notes_at : File → ℕ → Notes
notes_at file n = notes_in (spot_at file n)

-- a place behind the name of a file
abbrev pub place_text : Option Place → List ℕ
place_text None = []
place_text (Some p) = codes ":" ++ decimal p.line ++ codes ":" ++ decimal p.column

-- what stands before a line about this number
abbrev pub front_of : File → ℕ → List ℕ
front_of file n = heading file.name (place_in (spot_at file n))

-- the lines of a text, with this before each
abbrev mutual
  pub fronted : List ℕ → List ℕ → List ℕ
  fronted front [] = []
  fronted front (b ∷ bs) = front ++ b ∷ (if b == 10 then fronted front bs else line_from front bs)

  -- from within a line on
  pub line_from : List ℕ → List ℕ → List ℕ
  line_from front [] = []
  line_from front (b ∷ bs) = b ∷ (if b == 10 then fronted front bs else line_from front bs)

-- lines about this number as they are written
abbrev pub written_by : Edition → List ℕ → List ℕ → List ℕ
written_by Two front text = text
written_by Three front text = fronted front text

abbrev pub written_in : File → ℕ → List ℕ → List ℕ
written_in file n text = written_by file.edition (front_of file n) text
