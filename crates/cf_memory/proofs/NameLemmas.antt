-- The text under a name that a file has.
use Rattle.std.proofs.Common.{◌≡◌, ◌∙◌, sym, ap, ℕ, List, Option, Some, true, is_some, position}
use Rattle.std.specs.Option.{option_map}
use Rattle.std.specs.Str.{bytes_eq}
use Rattle.cf_memory.specs.Texts.{text_at, text_under}
use Rattle.cf_memory.specs.declared.file.File.{File}

pub text_under-some : (files : List File) (name : List ℕ) (place : Option ℕ) (k : ℕ) →
    place ≡ position (λ f. bytes_eq f.name.now name) files → place ≡ Some k → is_some (text_under files name) ≡ true
text_under-some files name place k is some = ap (λ o. is_some (option_map (text_at files) o)) (sym is ∙ some)
