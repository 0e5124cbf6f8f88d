-- The text under a name that no text has.
use Rattle.std.proofs.Common.{◌≡◌, ◌∙◌, sym, ap, ℕ, List, Option, None, IsNone, is_some, position}
use Rattle.std.specs.Option.{option_map}
use Rattle.std.specs.Str.{bytes_eq}
use Rattle.cf_io.specs.Texts.{text_at, text_under}

pub text_under-none : (names texts : List (List ℕ)) (name : List ℕ) (place : Option ℕ) →
    place ≡ position (λ n. bytes_eq n name) names → place ≡ None → IsNone (text_under names texts name)
text_under-none names texts name place is none = ap (λ o. is_some (option_map (text_at texts) o)) (sym is ∙ none)
