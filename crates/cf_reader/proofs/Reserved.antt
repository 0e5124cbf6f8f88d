-- Reserved words.
use Rattle.std.proofs.Common.{◌≡◌, ℕ, ◌||◌, List, take, drop}
use Rattle.std.specs.List.{list_any}
use Rattle.std.specs.Str.{bytes_eq}
use Rattle.cf_lex.specs.Words.{is_reserved, is_operation, is_no_function, reserved_words, operation_words}
use Rattle.cf_tree.specs.declared.base.Edition.{Edition}
use Rattle.cf_tree.specs.declared.base.Edition.TheVariants.{Two, Three}
use Rattle.std.proofs.lemmas.List.Folds.{list_any-append}
use Rattle.std.proofs.Common.{◌∙◌, ap}

pub reserved_parts : (w : List ℕ) → is_reserved Two w ≡
    (list_any (λ r. bytes_eq w r) (take 12 (reserved_words Two)) ||
    (list_any (λ r. bytes_eq w r) (take 12 (drop 12 (reserved_words Two))) || list_any (λ r. bytes_eq w r) (drop 24 (reserved_words Two))))
reserved_parts w =
    list_any-append (λ r. bytes_eq w r) (take 12 (reserved_words Two)) (drop 12 (reserved_words Two))
    ∙ ap (λ b. list_any (λ r. bytes_eq w r) (take 12 (reserved_words Two)) || b)
    (list_any-append (λ r. bytes_eq w r) (take 12 (drop 12 (reserved_words Two))) (drop 24 (reserved_words Two)))

pub reserved_halves : (w : List ℕ) → is_reserved Three w ≡
    (list_any (λ r. bytes_eq w r) (take 12 (reserved_words Three)) || list_any (λ r. bytes_eq w r) (drop 12 (reserved_words Three)))
reserved_halves w = list_any-append (λ r. bytes_eq w r) (take 12 (reserved_words Three)) (drop 12 (reserved_words Three))

pub function_parts : (edition : Edition) (w : List ℕ) → is_no_function edition w ≡ (is_operation edition w || is_reserved edition w)
function_parts edition w = list_any-append (λ r. bytes_eq w r) (operation_words edition) (reserved_words edition)
