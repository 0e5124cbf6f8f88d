-- What is told where reading stops: the token, and the help of the first row of the table that fits.
use Rattle.std.specs.Prelude.{ℕ, ◌+◌, ◌-◌, nat_le, pos, Bool, true, false, not, ◌&&◌, ◌||◌, ◌==◌, List, [], ◌∷◌, length, map, reverse, take, drop, codes, Option, Some, None, is_some, if◌then◌else◌}
use Rattle.std.specs.List.{concat, list_any, prefix_len}
use Rattle.std.specs.Ordering.{int_eq}
use Rattle.std.specs.Str.{bytes_eq}
use Rattle.cf_tree.specs.declared.base.Edition.TheVariants.{Three}
use Rattle.cf_tree.specs.declared.base.Place.{Place}
use Rattle.cf_lex.specs.declared.token.Token.{Token}
use Rattle.cf_lex.specs.declared.token.TokenKind.{TokenKind}
use Rattle.cf_lex.specs.declared.token.TokenKind.TheVariants.{Literal, Word, Sign}
use Rattle.cf_lex.specs.Bytes.{is_digit, is_letter, is_in_word, is_long_sign, is_longest_sign}
use Rattle.cf_lex.specs.Words.{reserved_words, operation_words}
use Rattle.cf_help.specs.Lines.{same_place}
use Rattle.cf_help.specs.Near.{in_quotes}
use Rattle.cf_help.specs.Rows.{Row, ◌gives◌, first_fitting, or_else}

-- The most bytes of a token that is told.
abbrev pub most_told : ℕ
most_told = 40

abbrev pub length_of_two : ℕ → ℕ → ℕ
length_of_two a b = if is_long_sign a b then 2 else 1

-- the length of the longest sign
abbrev pub sign_length : List ℕ → ℕ
sign_length [] = 0
sign_length (a ∷ []) = 1
sign_length (a ∷ b ∷ []) = length_of_two a b
sign_length (a ∷ b ∷ c ∷ bytes) = if is_longest_sign a b c then 3 else length_of_two a b

-- the length of the token at the front
abbrev pub written_length : List ℕ → ℕ
written_length [] = 0
written_length (b ∷ bytes) =
    if is_digit b then prefix_len is_digit (b ∷ bytes)
    else (if is_letter b then prefix_len is_in_word (b ∷ bytes)
    else sign_length (b ∷ bytes))

-- the token at the front of these bytes, as it is written
abbrev pub written : List ℕ → List ℕ
written bytes = take (written_length bytes) bytes

abbrev pub dots : List ℕ → List ℕ
dots w = if nat_le (length w) most_told then [] else codes ".."

-- a token, as much of it as is told
abbrev pub told_token : List ℕ → List ℕ
told_token w = concat (codes "syntax: found '" ∷ take most_told w ∷ dots w ∷ codes "'" ∷ [])

-- these bytes stand where reading stops, or nothing does
abbrev pub found_token : List ℕ → List ℕ
found_token [] = codes "syntax: found the end of the text"
found_token (b ∷ bytes) = told_token (written (b ∷ bytes))

-- ---- where reading stops
-- the refused token, if it is not the end; the tokens before it, of which the last stands first; and the next one
pub record Stop : Type 0 where
  pub refused : Option TokenKind
  pub before : List TokenKind
  pub next : Option TokenKind

-- the sign that stands there
abbrev pub sign_of : Option TokenKind → Option (List ℕ)
sign_of None = None
sign_of (Some (Literal z)) = None
sign_of (Some (Word w)) = None
sign_of (Some (Sign t)) = Some t

-- the word that stands there
abbrev pub word_of : Option TokenKind → Option (List ℕ)
word_of None = None
word_of (Some (Literal z)) = None
word_of (Some (Word w)) = Some w
word_of (Some (Sign t)) = None

abbrev pub is_text : List ℕ → Option (List ℕ) → Bool
is_text x None = false
is_text x (Some w) = bytes_eq w x

abbrev pub is_one_of : List (List ℕ) → Option (List ℕ) → Bool
is_one_of xs None = false
is_one_of xs (Some w) = list_any (λ x. bytes_eq w x) xs

abbrev pub is_other_than : List (List ℕ) → Option (List ℕ) → Bool
is_other_than xs None = false
is_other_than xs (Some w) = not (list_any (λ x. bytes_eq w x) xs)

abbrev pub is_sign : List ℕ → Option TokenKind → Bool
is_sign x k = is_text x (sign_of k)

abbrev pub is_word : List ℕ → Option TokenKind → Bool
is_word x k = is_text x (word_of k)

abbrev pub is_some_sign : List (List ℕ) → Option TokenKind → Bool
is_some_sign xs k = is_one_of xs (sign_of k)

abbrev pub is_some_word : List (List ℕ) → Option TokenKind → Bool
is_some_word xs k = is_one_of xs (word_of k)

abbrev pub is_literal : Option TokenKind → Bool
is_literal None = false
is_literal (Some (Literal z)) = true
is_literal (Some (Word w)) = false
is_literal (Some (Sign t)) = false

abbrev pub is_zero : Option TokenKind → Bool
is_zero None = false
is_zero (Some (Literal z)) = int_eq z (pos 0)
is_zero (Some (Word w)) = false
is_zero (Some (Sign t)) = false

abbrev pub is_name : Option TokenKind → Bool
is_name k = is_other_than (reserved_words Three) (word_of k)

abbrev pub is_reserved_word : Option TokenKind → Bool
is_reserved_word k = is_some_word (reserved_words Three) k

abbrev pub is_operation_word : Option TokenKind → Bool
is_operation_word k = is_some_word (operation_words Three) k

abbrev pub begins_with_line : Option (List ℕ) → Bool
begins_with_line None = false
begins_with_line (Some []) = false
begins_with_line (Some (b ∷ w)) = b == 95

abbrev pub first_of : List TokenKind → Option TokenKind
first_of [] = None
first_of (k ∷ ks) = Some k

abbrev pub second_of : List TokenKind → Option TokenKind
second_of [] = None
second_of (k ∷ ks) = first_of ks

-- the end of a value
abbrev pub ends_value : Option TokenKind → Bool
ends_value k = is_literal k || (is_name k || (is_some_sign (codes ")" ∷ codes "}" ∷ []) k || is_some_word (codes "true" ∷ codes "false" ∷ []) k))

abbrev pub section_words : List (List ℕ)
section_words = codes "where" ∷ codes "given" ∷ codes "def" ∷ codes "const" ∷ codes "minimise" ∷ codes "maximise" ∷ []

-- the last of these words before
abbrev pub section_of : List TokenKind → Option (List ℕ)
section_of [] = None
section_of (k ∷ ks) = if is_some_word section_words (Some k) then word_of (Some k) else section_of ks

abbrev pub is_section : List ℕ → List TokenKind → Bool
is_section x ks = is_text x (section_of ks)

-- how many closed parentheses are met with a token behind so many; none where it is the open one
abbrev pub closed_after : ℕ → TokenKind → Option ℕ
closed_after n k =
    if is_sign (codes "(") (Some k) then (if n == 0 then None else Some (n - 1))
    else (if is_sign (codes ")") (Some k) then Some (n + 1) else Some n)

abbrev pub where_closed : Option ℕ → List TokenKind → (ℕ → List TokenKind) → List TokenKind
where_closed None ks go = ks
where_closed (Some n) ks go = go n

-- the tokens before the innermost open parenthesis, the last one first, where so many closed ones are met
abbrev pub before_open : ℕ → List TokenKind → List TokenKind
before_open n [] = []
before_open n (k ∷ ks) = where_closed (closed_after n k) ks (λ m. before_open m ks)

-- whether that parenthesis stands behind `choose`, or behind `def` and a name
abbrev pub is_in_list : List TokenKind → Bool
is_in_list ks = is_word (codes "choose") (first_of (before_open 0 ks)) || is_word (codes "def") (second_of (before_open 0 ks))

-- ---- words of other languages
abbrev pub foreign_rows : Option (List ℕ) → List Row
foreign_rows w =
    (is_text (codes "and") w gives codes "and is &&")
    ∷ (is_text (codes "or") w gives codes "or is ||")
    ∷ (is_text (codes "not") w gives codes "not is !")
    ∷ (is_text (codes "implies") w gives codes "implication is ==>")
    ∷ (is_text (codes "minimize") w gives codes "did you mean 'minimise'?")
    ∷ (is_text (codes "maximize") w gives codes "did you mean 'maximise'?")
    ∷ (is_text (codes "exists") w gives codes "an output behind ; is not given out: choose (x: int; k: int) where ..")
    ∷ (is_text (codes "forall") w gives codes "there is no forall")
    ∷ []

-- the help for a word of another language
abbrev pub foreign_help : Option (List ℕ) → Option (List ℕ)
foreign_help w = first_fitting (foreign_rows w)

-- the token before the innermost open parenthesis, at a colon
abbrev pub before_list : Option TokenKind → List TokenKind → Option TokenKind
before_list v before = if is_sign (codes ":") v then first_of (before_open 0 before) else None

-- of the refused token, else of the one before it, else, at a colon, of the one before the innermost open parenthesis
abbrev pub foreign_at : Option TokenKind → List TokenKind → Option (List ℕ)
foreign_at v before =
    or_else (foreign_help (word_of v)) (or_else (foreign_help (word_of (first_of before))) (foreign_help (word_of (before_list v before))))

abbrev pub reserved_text : Option (List ℕ) → List ℕ
reserved_text None = []
reserved_text (Some w) = concat (in_quotes w ∷ codes " is a reserved word; take another name" ∷ [])

abbrev pub operation_text : Option (List ℕ) → List ℕ
operation_text None = []
operation_text (Some w) = concat (in_quotes w ∷ codes " is an operation; take another name" ∷ [])

-- ---- the table: v is the refused token, p the one before it, n the one behind it
abbrev pub is_comparison : Option TokenKind → Bool
is_comparison v =
    is_some_sign (codes "==" ∷ codes "!=" ∷ codes "<" ∷ codes "<=" ∷ codes ">" ∷ codes ">=" ∷ []) v || is_word (codes "subset") v

abbrev pub rows_of_signs : Option TokenKind → Option TokenKind → Option TokenKind → List TokenKind → List Row
rows_of_signs v p n before =
    (not (is_some v) gives codes "the text ends too early: a ), an else, an in or a body is missing")
    ∷ (is_comparison v && ends_value p gives codes "a chain runs one way, of < <= == or of > >= ==; join others by &&")
    ∷ ((is_sign (codes ">") v && is_some_sign (codes "=" ∷ codes "-" ∷ []) p) || (is_sign (codes "=") v && is_sign (codes ">") n)
    gives codes "implication is ==>")
    ∷ (is_sign (codes ">") v && is_sign (codes "<") p gives codes "not equal is !=")
    ∷ (is_sign (codes "=") v && is_sign (codes "<") n gives codes "at most is <=")
    ∷ (is_sign (codes "=") v && (is_sign (codes ")") p && is_section (codes "def") before)
    gives codes "a function has a result type: def f(x: int): int = ..")
    ∷ (is_sign (codes "=") v && ends_value p gives codes "a comparison is ==; = stands behind def, const and let")
    ∷ []

abbrev pub is_other_def : Option TokenKind → Bool
is_other_def v = is_some_word (codes "fn" ∷ codes "fun" ∷ codes "func" ∷ codes "function" ∷ codes "proc" ∷ codes "define" ∷ []) v

-- whether just the header stands before
abbrev pub is_behind_header : List TokenKind → Bool
is_behind_header before = length before == 2

abbrev pub is_behind_binder : Option TokenKind → Bool
is_behind_binder p = is_some_word (codes "def" ∷ codes "const" ∷ codes "let" ∷ []) p

abbrev pub rows_of_items : Option TokenKind → Option TokenKind → List TokenKind → List Row
rows_of_items v p before =
    (is_other_def v gives codes "a function begins with def")
    ∷ (is_some_sign (codes "-" ∷ codes "(" ∷ []) v && is_behind_header before gives codes "a comment begins with #")
    ∷ (is_sign (codes "-") v && (is_name p && is_behind_binder (second_of before)) gives codes "a name is made of letters, digits and _")
    ∷ (is_word (codes "with") p gives codes "the arms stand in braces: match a with { 2 * i then i ; i then 0 }")
    ∷ (is_reserved_word v && (is_behind_binder p || (is_some_sign (codes "(" ∷ codes "," ∷ codes ";" ∷ []) p && is_in_list before))
    gives reserved_text (word_of v))
    ∷ (is_operation_word v && is_word (codes "def") p gives operation_text (word_of v))
    ∷ []

abbrev pub rows_of_lists : Option TokenKind → Option TokenKind → List TokenKind → List Row
rows_of_lists v p before =
    (is_sign (codes "(") v && (is_sign (codes "(") p && is_sign (codes ":") (second_of before)) gives codes "a tuple is flat: (int, int, int)")
    ∷ ((is_name v || is_sign (codes "(") v) && is_sign (codes ":") p gives codes "a type is int, bool or set")
    ∷ (is_sign (codes ")") v && (is_sign (codes ";") p && is_in_list before) gives codes "hidden outputs stand behind the ;")
    ∷ (is_sign (codes ";") v && (is_sign (codes "(") p && is_in_list before) gives codes "an output stands before the ;")
    ∷ (is_some_sign (codes ")" ∷ codes "," ∷ codes ";" ∷ []) v && (is_name p && is_in_list before)
    gives codes "each parameter and output has a type: (x: int)")
    ∷ (is_sign (codes ":") v && is_section (codes "where") before gives codes "types stand in the list of outputs alone")
    ∷ (is_some (word_of v) && is_word (codes "choose") p gives codes "the outputs stand in parentheses: choose (x: int) where ..")
    ∷ (is_word (codes "in") v && is_section (codes "where") before gives codes "there is no membership; sets have subset, inter and card")
    ∷ (is_sign (codes ";") v gives codes "a ; stands only between outputs and hidden ones, and between arms")
    ∷ []

abbrev pub is_base_word : Option TokenKind → Bool
is_base_word k = is_some_word (codes "int" ∷ codes "bool" ∷ codes "set" ∷ []) k

-- a name behind a literal that is not the header's
abbrev pub is_behind_literal : Option TokenKind → Option TokenKind → List TokenKind → Bool
is_behind_literal v p before = is_name v && (is_literal p && not (is_behind_header before))

abbrev pub rows_of_values : Option TokenKind → Option TokenKind → List TokenKind → List Row
rows_of_values v p before =
    (is_sign (codes "{") v && (is_base_word p || is_sign (codes ")") p) gives codes "a body stands behind =: def f(x: int): int = x")
    ∷ (is_some_sign (codes "[" ∷ codes "]" ∷ []) v gives codes "there are no lists; a set is {1, 2}")
    ∷ (is_behind_literal v p before && begins_with_line (word_of v) gives codes "digits are written without _")
    ∷ (is_behind_literal v p before gives codes "a product is written with *")
    ∷ (is_zero v && is_sign (codes ",") p gives codes "a divisor is at least 1")
    ∷ (is_word (codes "divides") v && ends_value p gives codes "the left side of divides is a constant or a literal of at least 1")
    ∷ (is_word (codes "given") v && is_section (codes "where") before gives codes "given stands before where")
    ∷ (is_word (codes "const") v gives codes "const stands among the functions")
    ∷ (is_some_word (codes "let" ∷ codes "if" ∷ codes "choose" ∷ codes "match" ∷ []) v gives codes "it stands in parentheses inside an operation")
    ∷ []

-- the first row that fits, of all
abbrev pub syntax_help : Stop → Option (List ℕ)
syntax_help s =
    or_else (first_fitting (rows_of_signs s.refused (first_of s.before) s.next s.before)) (
    or_else (foreign_at s.refused s.before) (
    or_else (first_fitting (rows_of_items s.refused (first_of s.before) s.before)) (
    or_else (first_fitting (rows_of_lists s.refused (first_of s.before) s.before))
    (first_fitting (rows_of_values s.refused (first_of s.before) s.before)))))

-- behind these tokens, the last one first, and before those
abbrev pub stop_behind : List TokenKind → List TokenKind → Stop
stop_behind before after = record { refused = first_of after; before = before; next = second_of after }

abbrev pub kinds_of : List Token → List TokenKind
kinds_of ts = map (λ t. t.kind) ts

-- how many tokens of a text stand before p
abbrev pub count_before : List Token → Place → ℕ
count_before ts p = prefix_len (λ t. not (same_place t.place p)) ts

-- where reading stops at p, of the tokens of a text
abbrev pub stop_at : List Token → Place → Stop
stop_at ts p = stop_behind (reverse (kinds_of (take (count_before ts p) ts))) (kinds_of (drop (count_before ts p) ts))
