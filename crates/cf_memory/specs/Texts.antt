-- The texts of files in memory.
use Rattle.std.specs.Prelude.{ℕ, List, [], Option, Some, None, position, unwrap_or, slice_get, option_map}
use Rattle.std.specs.Str.{bytes_eq}
use Rattle.cf_memory.specs.declared.file.File.{File}

-- the text at a place, and nothing past the last
abbrev pub text_at : List File → ℕ → List ℕ
text_at files place = unwrap_or (option_map (λ f. f.text.now) (slice_get files place)) []

-- the text of the first file of this name
abbrev pub text_under : List File → List ℕ → Option (List ℕ)
text_under files name = option_map (text_at files) (position (λ f. bytes_eq f.name.now name) files)

-- a name of a file never fails; every other name fails as often as one was asked for that no file has
abbrev pub faults_of : Option (List ℕ) → ℕ → ℕ
faults_of None missed = missed
faults_of (Some text) missed = 0
