-- What runs of writes and of reads have done.
use Rattle.std.specs.Prelude.{◌≡◌, ◌≤◌, ℕ, List, ◌++◌, length, Option}
use Rattle.std.specs.Io.KnownBytes.{Appends, Consumes}

-- it took a prefix of these bytes and nothing else
abbrev pub TookPrefix : Option (List ℕ) → Option (List ℕ) → List ℕ → Type 0
TookPrefix old new bytes = (front : List ℕ) × (rest : List ℕ) × (bytes ≡ front ++ rest) × Appends old new front

-- it took a front of a text, and these bytes of the text are still to come
pub record Owes (text : List ℕ) (old new : Option (List ℕ)) (rest : List ℕ) : Type 0 where
  pub done : List ℕ
  pub took : Appends old new done
  pub whole : text ≡ done ++ rest

-- at most so many first bytes of a text were read, and these are left
abbrev pub TookFront : ℕ → Option (List ℕ) → Option (List ℕ) → Type 0
TookFront most text left = (front : List ℕ) × (length front ≤ most) × Consumes text left front
