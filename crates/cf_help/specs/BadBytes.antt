-- What is told where no token begins.
use Rattle.std.specs.Prelude.{ℕ, Bool, true, false, ◌&&◌, ◌==◌, nat_le, List, [], ◌∷◌, codes, decimal, Option, if◌then◌else◌}
use Rattle.std.specs.List.{concat}
use Rattle.cf_help.specs.Rows.{Row, ◌gives◌, first_fitting, or_else}

-- a byte as it is, or its number where it is no visible one of ASCII
abbrev pub found_byte : ℕ → List ℕ
found_byte b =
    if nat_le 33 b && nat_le b 126 then concat (codes "bad byte: found '" ∷ (b ∷ []) ∷ codes "'" ∷ [])
    else concat (codes "bad byte: found byte " ∷ decimal b ∷ [])

abbrev pub begins_with : List ℕ → List ℕ → Bool
begins_with [] bytes = true
begins_with (a ∷ rest) [] = false
begins_with (a ∷ rest) (b ∷ bytes) = (a == b) && begins_with rest bytes

abbrev pub rows_of_signs : List ℕ → List Row
rows_of_signs bytes =
    (begins_with (codes "//") bytes gives codes "a comment begins with #")
    ∷ (begins_with (codes "/") bytes gives codes "division is div(a, 2), and what is left over is mod(a, 2)")
    ∷ (begins_with (codes "%") bytes gives codes "what is left over is mod(a, 2)")
    ∷ (begins_with (codes "^") bytes gives codes "there are no powers; write a product")
    ∷ (begins_with (codes "|") bytes gives codes "or is ||; that k divides a is written k divides a")
    ∷ []

abbrev pub rows_of_marks : List ℕ → List Row
rows_of_marks bytes =
    (begins_with (codes "&") bytes gives codes "and is &&")
    ∷ (begins_with (codes "~") bytes gives codes "not is !")
    ∷ (begins_with (codes ".") bytes gives codes "numbers are whole, and there are no ranges")
    ∷ (begins_with (codes "?") bytes gives codes "a choice between values is if p then a else b")
    ∷ (begins_with (codes "'") bytes gives codes "a name is made of letters, digits and _")
    ∷ []

abbrev pub rows_of_others : List ℕ → List Row
rows_of_others bytes =
    (begins_with (34 ∷ []) bytes gives codes "there are no texts")
    ∷ (begins_with (226 ∷ 137 ∷ 164 ∷ []) bytes gives codes "write <=")
    ∷ (begins_with (226 ∷ 137 ∷ 165 ∷ []) bytes gives codes "write >=")
    ∷ (begins_with (226 ∷ 137 ∷ 160 ∷ []) bytes gives codes "write !=")
    ∷ (begins_with (239 ∷ 187 ∷ 191 ∷ []) bytes gives codes "the file begins with a byte order mark; save it without one")
    ∷ []

-- the help for these bytes
abbrev pub bad_byte_help : List ℕ → Option (List ℕ)
bad_byte_help bytes =
    or_else (first_fitting (rows_of_signs bytes)) (or_else (first_fitting (rows_of_marks bytes)) (first_fitting (rows_of_others bytes)))

abbrev pub found_first : List ℕ → List ℕ
found_first [] = found_byte 0
found_first (b ∷ bytes) = found_byte b
