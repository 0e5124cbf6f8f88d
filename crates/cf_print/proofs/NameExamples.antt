-- Worked examples of names.
use Rattle.std.specs.Prelude.{ℕ, ◌≡◌, true, false, List, [], ◌∷◌, Option, Some, None, codes, refl}
use Rattle.std.specs.Fmt.{digits}
use Rattle.cf_tree.specs.declared.base.Base.TheVariants.{Int}
use Rattle.cf_print.specs.Names.{new_name, may_name, is_name}
use Rattle.cf_print.specs.Words.{words_of}
use Rattle.cf_print.specs.declared.language.Language.TheVariants.{C, Python, Rust}

abbrev name_in_python : List (List ℕ) → Option (List ℕ) → List ℕ
name_in_python taken wish = new_name (words_of Python) taken Int wish

wished : name_in_python [] (Some (codes "h")) ≡ codes "h"
wished = refl

wished_twice : name_in_python (codes "h" ∷ []) (Some (codes "h")) ≡ codes "h_2"
unfolding digits
wished_twice = refl

reserved : name_in_python [] (Some (codes "len")) ≡ codes "len_"
unfolding digits
reserved = refl

of_the_language : name_in_python [] (Some (codes "__debug__")) ≡ codes "n1"
unfolding digits
of_the_language = refl

as_a_function : name_in_python [] (Some (codes "choose_1")) ≡ codes "n1"
unfolding digits
as_a_function = refl

by_base : name_in_python (codes "n1" ∷ []) None ≡ codes "n2"
unfolding digits
by_base = refl

no_name : is_name (codes "h = 0") ≡ false
no_name = refl

name : is_name (codes "_h2") ≡ true
name = refl

begins_with_digit : is_name (codes "2h") ≡ false
begins_with_digit = refl

free : name_in_python [] (Some (codes "total")) ≡ codes "total"
free = refl

sums : may_name (words_of C) (codes "sum_of") ≡ false
sums = refl

helper : may_name (words_of Python) (codes "fit") ≡ false
helper = refl

of_the_compiler : may_name (words_of C) (codes "__int128") ≡ false
of_the_compiler = refl

helper_of_rust : may_name (words_of Rust) (codes "fit") ≡ false
helper_of_rust = refl

word_of_rust : may_name (words_of Rust) (codes "match") ≡ false
word_of_rust = refl
