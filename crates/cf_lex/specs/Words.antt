-- Reserved words and names of sources.
use Rattle.std.specs.Prelude.{ℕ, Bool, List, [], ◌∷◌, ◌++◌, codes}
use Rattle.std.specs.List.{list_any}
use Rattle.std.specs.Str.{bytes_eq}
use Rattle.cf_tree.specs.declared.base.Edition.{Edition}
use Rattle.cf_tree.specs.declared.base.Edition.TheVariants.{Two, Three}

-- in language 2 those of targets are among them
abbrev pub reserved_words : Edition → List (List ℕ)
reserved_words Two =
    codes "def" ∷ codes "let" ∷ codes "in" ∷ codes "if" ∷ codes "then" ∷ codes "else" ∷ codes "choose" ∷ codes "where"
    ∷ codes "int" ∷ codes "bool" ∷ codes "set" ∷ codes "true" ∷ codes "false"
    ∷ codes "union" ∷ codes "inter" ∷ codes "diff" ∷ codes "subset" ∷ codes "divides" ∷ codes "card" ∷ codes "div" ∷ codes "mod"
    ∷ codes "solve" ∷ codes "arm" ∷ codes "need" ∷ codes "give" ∷ codes "min" ∷ codes "max" ∷ codes "slice" ∷ codes "fresh" ∷ codes "neg" ∷ codes "not"
    ∷ codes "abs" ∷ codes "match" ∷ codes "with" ∷ []
reserved_words Three =
    codes "def" ∷ codes "const" ∷ codes "let" ∷ codes "in" ∷ codes "if" ∷ codes "then" ∷ codes "else" ∷ codes "choose" ∷ codes "given" ∷ codes "where"
    ∷ codes "minimise" ∷ codes "maximise" ∷ codes "int" ∷ codes "bool" ∷ codes "set" ∷ codes "true" ∷ codes "false"
    ∷ codes "union" ∷ codes "inter" ∷ codes "diff" ∷ codes "subset" ∷ codes "divides" ∷ codes "match" ∷ codes "with" ∷ []

-- every other word is a name
abbrev pub is_reserved : Edition → List ℕ → Bool
is_reserved edition word = list_any (λ r. bytes_eq word r) (reserved_words edition)

-- the names that are operations where a ( follows
abbrev pub operation_words : Edition → List (List ℕ)
operation_words Two = []
operation_words Three = codes "card" ∷ codes "div" ∷ codes "mod" ∷ codes "abs" ∷ codes "min" ∷ codes "max" ∷ []

abbrev pub is_operation : Edition → List ℕ → Bool
is_operation edition word = list_any (λ r. bytes_eq word r) (operation_words edition)

-- every other word is the name of a function
abbrev pub is_no_function : Edition → List ℕ → Bool
is_no_function edition word = list_any (λ r. bytes_eq word r) (operation_words edition ++ reserved_words edition)
